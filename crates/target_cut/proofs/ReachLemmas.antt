-- What a search finds that goes from one row to the next.
use Rattle.std.proofs.Common.{◌≡◌, ⊎_elim, inl, inr, ℕ, ◌+◌, ◌<◌, ◌≤◌, ◌↔◌, Option, Some, None, List, [], ◌∷◌, length, eqb, refl, sym, ap, ◌∙◌, subst, arith, Contains}
use Rattle.std.specs.Prelude.{IsPermutation, IsSorted, IsSome, IsSomeAnd, nat_eq, slice_get}
use Rattle.std.specs.Ordering.{nat_cmp}
use Rattle.std.specs.List.{IsDistinct}
use Rattle.std.proofs.lemmas.Bool.{cases_eq, cases_lt, ne_eqb, eq-eqb}
use Rattle.std.proofs.lemmas.List.{length-append}
use Rattle.std.proofs.lemmas.Option.{slice_get_within}
use Rattle.std.proofs.lemmas.Map.Keys.{IsDistinct-IsPermutation, IsStrictlyIncreasing-from_distinct}
use Rattle.std.proofs.lemmas.Map.Steps.{length-le_from_distinct_below}
use Rattle.std.proofs.lemmas.List.Kept.{AllPairs-from_increasing}
use Rattle.std.proofs.lemmas.List.Sorted.{Contains-permutation, IsPermutation-sym, IsNonDecreasingBy-from_sort}
use Rattle.indexmap.specs.IndexSet.{insert_key}
use Rattle.rule_core.proofs.ListLemmas.{Contains-nil, Contains-head, Contains-cons_cases}
use Rattle.fact_table.specs.Rows.{SeenRow, row_at}
use Rattle.null_store.proofs.ListLemmas.{stands, in_front, contains_from_at, at_from_contains}
use Rattle.failure_trace.specs.JournalRun.{Reaches}
use Rattle.failure_trace.specs.JournalRun.Reaches.{here, further}
use Rattle.null_store.specs.Store.{Store}
use Rattle.null_store.specs.Splits.{HasPiece, SharePiece}
use Rattle.target_cut.specs.Component.{IsComponentOf}
use Rattle.target_cut.specs.Search.{Visits, Finds}
use Rattle.target_cut.proofs.SearchLemmas.{number_found, stays}

-- what is closed under a relation has all that is reached
pub all_reached : {X : Type 0} (R : X → X → Type 0) (P : X → Type 0) (from : X) → P from → ((a b : X) → P a → R a b → P b)
    → (x : X) → Reaches R from x → P x
all_reached R P from p step x here = p
all_reached R P from p step x (further a b r h) = step a b (all_reached R P from p step a r) h

-- a row that holds a piece is there
pub there : (o : Option SeenRow) (P : SeenRow → Type 0) → IsSomeAnd o P → IsSome o
there None P h = absurd h
there (Some row) P h = refl

flips : (x y : ℕ) → eqb x y ≡ eqb y x
flips x y = ⊎_elim
    (λ (e : x ≡ y). eq-eqb x y e ∙ sym (eq-eqb y x (sym e)))
    (λ (n : ¬ (x ≡ y)). ne_eqb x y n ∙ sym (ne_eqb y x (λ e. n (sym e))))
    (cases_eq x y)

module _ (store : Store) (from : ℕ) where
  -- each row that is reached is there
  pub reached_there : IsSome (row_at store.rows from) → (number : ℕ) → Reaches (SharePiece store) from number → IsSome (row_at store.rows number)
  reached_there start = all_reached (SharePiece store) (λ number. IsSome (row_at store.rows number)) from start
      (λ a b h share. there (row_at store.rows b) _ share.2)

  -- rows that are there, each once, are no more than numbers
  pub few : (found : List ℕ) → IsDistinct eqb found → ((number : ℕ) → Contains found number → IsSome (row_at store.rows number))
      → length found ≤ length store.rows
  few found distinct present = length-le_from_distinct_below found (length store.rows) distinct
      (λ number h. by number (row_at store.rows number) refl (present number (number_found found number h)))
    where
      by : (number : ℕ) (o : Option SeenRow) → row_at store.rows number ≡ o → IsSome o → number < length store.rows
      by number None e h = absurd cc
      by number (Some row) e h = slice_get_within store.rows number (Some row) (stands _ row e)

  -- the search begins with one row
  pub finds_first : (none found walked : List ℕ) → none ≡ [] → walked ≡ [] → found ≡ insert_key nat_eq none from
      → Finds store from 0 found walked
  finds_first none found walked e w f =
      let one : found ≡ from ∷ [] = f ∙ ap (λ (l : List ℕ). insert_key nat_eq l from) e in
      subst (λ (l : List ℕ). Finds store from 0 l walked) (sym one)
      (subst (λ (l : List ℕ). Finds store from 0 (from ∷ []) l) (sym w) (record {
        start = Contains-head from [];
        reached = λ number c. elim (Contains-cons_cases from number [] c) [
          | inl same ↦ subst (Reaches (SharePiece store) from) same here
          | inr never ↦ absurd (Contains-nil number never)
        ];
        walks = λ piece number c h. absurd (Contains-nil piece c);
        pieces = λ k number piece l. absurd (omega arith);
        within = omega arith;
      }))

  -- and goes on by a row that it found
  pub finds_next : (done number : ℕ) (found walked more later : List ℕ) → Finds store from done found walked
      → slice_get found done ≡ Some number → Visits store number found more walked later → Finds store from (done + 1) more later
  finds_next done number found walked more later so_far at visit = record {
    start = stays found more visit.behind from so_far.start;
    reached = λ other c. elim (visit.only other c) [
      | inl before ↦ so_far.reached other before
      | inr share ↦ further number other (so_far.reached number (contains_from_at found done number at)) share
    ];
    walks = visit.walks so_far.walks;
    pieces = λ k other piece l e holds.
        let inside : done < length found = slice_get_within found done number at in
        let old : slice_get found k ≡ Some other =
        sym (in_front found visit.behind.0 k (omega (arith, l, inside))) ∙ ap (λ (w : List ℕ). slice_get w k) (sym visit.behind.1) ∙ e in
        ⊎_elim
        (λ (before : k < done). visit.kept piece (so_far.pieces k other piece before old holds))
        (λ (g : done ≤ k). let same : k ≡ done = omega arith in
        let both : Some number ≡ Some other = sym at ∙ ap (slice_get found) (sym same) ∙ old in
        let it : number ≡ other = cc in
        visit.pieces piece (subst (λ (n : ℕ). HasPiece store n piece) (sym it) holds))
        (cases_lt k done);
    within =
        let inside : done < length found = slice_get_within found done number at in
        let size : length more ≡ length found + length visit.behind.0 = ap length visit.behind.1 ∙ length-append found visit.behind.0 in
        omega (arith, inside, size);
  }

  -- rows that are all visited are all that is reached
  pub found_all : (done : ℕ) (found walked : List ℕ) → Finds store from done found walked → length found ≤ done
      → (number : ℕ) → Contains found number ↔ Reaches (SharePiece store) from number
  found_all done found walked h all number = (h.reached number, all_reached (SharePiece store) (Contains found) from h.start step number)
    where
      step : (a b : ℕ) → Contains found a → SharePiece store a b → Contains found b
      step a b c share =
          let at = at_from_contains found a c.0 c.1 c.2 in
          h.walks share.0 b (h.pieces c.0 a share.0 (omega (arith, c.1, all)) at share.1) share.2

  -- and in order they are the component
  pub in_order : (found numbers : List ℕ) → ((number : ℕ) → Contains found number ↔ Reaches (SharePiece store) from number)
      → IsDistinct eqb found → IsPermutation found numbers → IsSorted nat_cmp numbers → IsComponentOf store from numbers
  in_order found numbers all distinct moved sorted = record {
    reached = λ number. (
      λ c. (all number).0 (Contains-permutation numbers found number (IsPermutation-sym found numbers moved) c),
      λ r. Contains-permutation found numbers number moved ((all number).1 r),
    );
    ascending = AllPairs-from_increasing numbers (IsStrictlyIncreasing-from_distinct numbers
        (IsNonDecreasingBy-from_sort (λ (n : ℕ). n) numbers sorted) (IsDistinct-IsPermutation eqb flips found numbers moved distinct));
  }
