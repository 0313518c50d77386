-- One step of the sweep over the places of a list.
use Rattle.std.proofs.Common.{◌≡◌, ◌⊎◌, ◌↔◌, ℕ, ℤ, ◌+◌, ◌<◌, ◌≤◌, List, [], ◌∷◌, ◌++◌, length, get_or, take, drop, set, append-nil, IsPermutation, IsSorted, sym, ap, ◌∙◌, subst, inl, inr, arith}
use Rattle.std.proofs.Math.ListN.{length-set}
use Rattle.std.proofs.lemmas.Bool.{cases_lt}
use Rattle.std.proofs.lemmas.List.{take_more, take_more_set, take-set, take-set-le, drop_more, drop_all, drop-set-lt}
use Rattle.std.proofs.lemmas.List.Sorted.{Contains-permutation}
use Rattle.std.proofs.lemmas.List.Edits.{swap_is}
use Rattle.std.specs.declared.cmp.Ordering.{Ordering}
use Rattle.std.specs.List.{swap}
use Rattle.std.specs.Cmp.Lexicographic.{slice_cmp}
use Rattle.time_line.specs.Span.{HasInstant, AreApart, Touch, IsJoin}
use Rattle.rule_core.specs.Terms.{StampedOf}
use Rattle.rule_core.specs.Coalesced.{Covers, IsCoalesced, stamped_cmp}
use Rattle.term_core.specs.declared.term.Term.{Term}
use Rattle.term_core.specs.Order.{term_cmp}
use Rattle.coalescer.proofs.RowLemmas.{rows_total, rows_same}
use Rattle.coalescer.proofs.SweepLemmas.{Swept, swept_first, swept_all, swept_apart, swept_joined}

-- a row of terms with a span
abbrev pub Entry : Type 0
Entry = StampedOf (List Term)

-- what is sorted by one order is sorted by another that answers alike
pub sorted_alike : (f g : Entry → Entry → Ordering) → ((a b : Entry) → f a b ≡ g a b) → (xs : List Entry) → IsSorted f xs → IsSorted g xs
sorted_alike f g same xs h = subst (λ c. IsSorted c xs) (λ i a b. same a b i) h

-- the sweep has come so far
abbrev pub SweptRows : List Entry → List Entry → List Entry → Type 0
SweptRows done rest all = Swept (slice_cmp term_cmp) done rest all

-- a list after an exchange with a later place
module _ {X : Type 0} (items : List X) (i j : ℕ) (d : X) (order : i ≤ j) (within : j < length items) where
  abbrev swapped : List X
  swapped = set (set items i (get_or items j d)) j (get_or items i d)

  take_swapped : take (i + 1) swapped ≡ take i items ++ get_or items j d ∷ []
  take_swapped = elim (cases_lt i j) [
    | inl l ↦
        take-set-le (i + 1) (set items i (get_or items j d)) j (get_or items i d) (omega arith)
        ∙ take_more_set items i (get_or items j d) (omega arith)
    | inr g ↦
        let same : i ≡ j = omega arith in
        let P : ℕ → Type 0 = λ n.
        take (i + 1) (set (set items i (get_or items n d)) n (get_or items i d)) ≡ take i items ++ get_or items n d ∷ [] in
        let x = get_or items i d in
        let at_one = take_more_set (set items i x) i x (omega (arith, length-set items i x)) in
        subst P same (at_one ∙ ap (λ xs. xs ++ x ∷ []) (take-set items i x))
  ]

  pub take-swap : take (i + 1) (swap items i j) ≡ take i items ++ get_or items j d ∷ []
  take-swap = ap (take (i + 1)) (sym (swap_is items i j d (omega arith) within)) ∙ take_swapped

  pub drop-swap : drop (j + 1) (swap items i j) ≡ drop (j + 1) items
  drop-swap =
      ap (drop (j + 1)) (sym (swap_is items i j d (omega arith) within))
      ∙ drop-set-lt (j + 1) (set items i (get_or items j d)) j (get_or items i d) (omega arith)
      ∙ drop-set-lt (j + 1) items i (get_or items j d) (omega arith)

-- the entries `a` at the last place that is done, and `b` at the next
module _ (items : List Entry) (last at : ℕ) (all : List Entry) (order : last < at) (within : at < length items)
    (s : SweptRows (take (last + 1) items) (drop at items) all)
    (a b : Entry) (is_a : a ≡ get_or items last a) (is_b : b ≡ get_or items at b) where
  done_is : take (last + 1) items ≡ take last items ++ a ∷ []
  done_is = take_more items last a (omega arith) ∙ ap (λ x. take last items ++ x ∷ []) (sym is_a)

  rest_is : drop at items ≡ b ∷ drop (at + 1) items
  rest_is = drop_more items at b within ∙ ap (λ x. x ∷ drop (at + 1) items) (sym is_b)

  split : SweptRows (take last items ++ a ∷ []) (b ∷ drop (at + 1) items) all
  split = rw (← done_is, ← rest_is) s

  -- the next entry goes behind the last
  pub push_step : HasInstant b.span → (a.row ≡ b.row → AreApart a.span b.span × ¬ (Touch a.span b.span))
      → SweptRows (take (last + 1 + 1) (swap items (last + 1) at)) (drop (at + 1) (swap items (last + 1) at)) all
  push_step has apart =
      rw (take-swap items (last + 1) at b (omega arith) within, drop-swap items (last + 1) at b (omega arith) within, done_is, ← is_b)
      (swept_apart (slice_cmp term_cmp) rows_total rows_same
      (take last items) a b (drop (at + 1) items) all split has apart)

  -- the next entry goes on with the last
  pub join_step : (joined : Entry) → a.row ≡ b.row → joined.row ≡ a.row → IsJoin a.span b.span joined.span
      → (joined.span.lo ≡ a.span.lo) ⊎ (joined.span.lo ≡ b.span.lo)
      → SweptRows (take (last + 1) (set items last joined)) (drop (at + 1) (set items last joined)) all
  join_step joined one kept join start =
      rw (take_more_set items last joined (omega arith), drop-set-lt (at + 1) items last joined (omega arith))
      (swept_joined (slice_cmp term_cmp) rows_total rows_same
      (take last items) a b (drop (at + 1) items) all split joined one kept join start)

-- the rest is empty at the end
pub rest_none : (items : List Entry) (last at : ℕ) (all : List Entry) → length items ≤ at
    → SweptRows (take (last + 1) items) (drop at items) all → SweptRows (take (last + 1) items) [] all
rest_none items last at all end s = rw (← drop_all at items end) s

module _ (done all : List Entry) (s : SweptRows done [] all) where
  pub coalesced_rows : IsCoalesced (slice_cmp term_cmp) done
  coalesced_rows = swept_all (slice_cmp term_cmp) rows_total rows_same done all s

  pub covered_rows : (row : List Term) (t : ℤ) → Covers done row t ↔ Covers all row t
  covered_rows row t = rw append-nil at (s.covers row t)

-- a list in another order covers the same
pub covers_moved : (xs ys : List Entry) → IsPermutation xs ys → (row : List Term) (t : ℤ) → Covers xs row t → Covers ys row t
covers_moved xs ys moves row t c =
    let k = Contains-permutation xs ys c.1 moves (c.0, c.2, c.3) in
    (k.0, c.1, k.1, k.2, c.4)

-- the first entry is done at the start
pub start_rows : (all : List Entry) (first : Entry) → 0 < length all → IsSorted (stamped_cmp (slice_cmp term_cmp)) all
    → first ≡ get_or all 0 first → HasInstant first.span → SweptRows (take 1 all) (drop 1 all) all
start_rows all first some sorted is has =
    swept_first (slice_cmp term_cmp) rows_total rows_same all first some sorted
    (subst (λ (e : Entry). HasInstant e.span) is has)
