-- The facts of a store whose rows are cut, as lists, and what they hold at an instant.
use Rattle.std.proofs.Common.{◌≡◌, ◌≢◌, ℤ, ◌≤ℤ◌, ◌<ℤ◌, ℕ, ◌<◌, Option, Some, None, List, ◌++◌, length, map, get_or, refl, sym, ap, ◌∙◌, subst, arith, All, Contains, IsPermutation}
use Rattle.std.specs.Prelude.{slice_get}
use Rattle.std.specs.Option.{option_map}
use Rattle.std.proofs.lemmas.Int.{ints, by_lt_z}
use Rattle.std.proofs.lemmas.List.{length-map}
use Rattle.std.proofs.lemmas.List.Sorted.{IsPermutation-trans, IsPermutation-sym}
use Rattle.std.proofs.lemmas.Option.{slice_get-map, slice_get_within, slice_get-get_or}
use Rattle.time_line.specs.Span.{Ends, IsFrom, IsBefore, Has, IsInside}
use Rattle.term_core.specs.declared.const_id.ConstId.{ConstId}
use Rattle.rule_core.specs.Terms.{FactOf, StampedOf}
use Rattle.rule_core.specs.Snapshot.{snapshot_at}
use Rattle.fact_table.specs.Rows.{SeenRow, row_at}
use Rattle.null_store.specs.Store.{NameOf, Store, fact_in, facts_in}
use Rattle.null_store.specs.Splits.{part_before, part_after, row_over, fact_over, facts_at, CanSplit, SplitsFacts}
use Rattle.null_store.specs.Lists.{rows_seen}
use Rattle.null_store.specs.Layout.{LinkedArena, store_of, IsSound, CutsAll, twin_in, twin_row}
use Rattle.null_store.proofs.ListLemmas.{same_some, held_at, contains_from_at}
use Rattle.null_store.proofs.OccurrenceLemmas.{from_map}
use Rattle.null_store.proofs.CutLemmas.{beside}
use Rattle.null_store.proofs.PlaceLemmas.{chosen, held_mapped, flat_mapped, rest, before, after}
use Rattle.null_store.proofs.PartLemmas.{before_within, after_within, row_inside, its_cut, made_vacant, fact_before, fact_after, fact_still}
use Rattle.null_store.proofs.SnapshotLemmas.{snapshot_any_order, snapshot_append, snapshot_same, snapshot_none}

-- what holds at each place holds of all
all_places : {X : Type 0} (P : X → Type 0) (xs : List X) → ((k : ℕ) (x : X) → slice_get xs k ≡ Some x → P x) → All P xs
all_places P xs h = λ k d l. h k (get_or xs k d) (slice_get-get_or xs k d l)

-- at an instant the parts hold what the whole held
module _ {X : Type 0} (m : ℤ) (rows others : List (StampedOf X)) (inside : All (λ (e : StampedOf X). IsInside e.span m) rows) (t : ℤ) where
  abbrev firsts : List (StampedOf X)
  firsts = map (fact_over (part_before m)) rows

  abbrev seconds : List (StampedOf X)
  seconds = map (fact_over (part_after m)) rows

  stop_later : (hi : Option ℤ) → IsBefore hi m → t <ℤ m → IsBefore hi t
  stop_later None k l = tt
  stop_later (Some hi) k l = omega (arith, ints, k, l)

  start_earlier : (lo : Option ℤ) → IsFrom lo m → m ≤ℤ t → IsFrom lo t
  start_earlier None k l = tt
  start_earlier (Some lo) k l = omega (arith, ints, k, l)

  whole_parts : snapshot_at (firsts ++ (seconds ++ others)) t ≡ snapshot_at firsts t ++ (snapshot_at seconds t ++ snapshot_at others t)
  whole_parts = snapshot_append t firsts (seconds ++ others) ∙ ap (λ l. snapshot_at firsts t ++ l) (snapshot_append t seconds others)

  pub same_snapshot : snapshot_at (firsts ++ (seconds ++ others)) t ≡ snapshot_at (rows ++ others) t
  same_snapshot = by_lt_z t m
      (λ (l : t <ℤ m).
      let first = snapshot_same t (part_before m) rows (λ k d h. (
        λ (a : Has (part_before m (get_or rows k d).span) t). before_within m t (get_or rows k d).span (inside k d h).0 a,
        λ (a : Has (get_or rows k d).span t). (a.0, l),
      )) in
      let second = snapshot_none t (part_after m) rows (λ k d h a. let late = a.0 in absurd (omega (arith, ints, l, late))) in
      whole_parts ∙ (λ i. first i ++ (second i ++ snapshot_at others t)) ∙ sym (snapshot_append t rows others))
      (λ (g : m ≤ℤ t).
      let first = snapshot_none t (part_before m) rows (λ k d h a. let early = a.1 in absurd (omega (arith, ints, g, early))) in
      let second = snapshot_same t (part_after m) rows (λ k d h. (
        λ (a : Has (part_after m (get_or rows k d).span) t). after_within m t (get_or rows k d).span (inside k d h).0 a,
        λ (a : Has (get_or rows k d).span t). (g, a.1),
      )) in
      whole_parts ∙ (λ i. first i ++ (second i ++ snapshot_at others t)) ∙ sym (snapshot_append t rows others))

module _ (held : LinkedArena) (names : List NameOf) (m : ℤ) (numbers : List ℕ) (sound : IsSound held names)
    (can : CanSplit (store_of held names) numbers m) (made : List ℕ) (now : LinkedArena) (cuts : CutsAll m numbers made held now) where
  abbrev Fact : Type 0
  Fact = StampedOf (FactOf ConstId)

  abbrev was : Store
  was = store_of held names

  abbrev new : Store
  new = store_of now names

  abbrev rows : List (Option SeenRow)
  rows = rows_seen held.arena

  abbrev later : List (Option SeenRow)
  later = rows_seen now.arena

  abbrev xs : List (Option Fact)
  xs = map (option_map (fact_in was)) rows

  abbrev ys : List (Option Fact)
  ys = map (option_map (fact_in new)) later

  abbrev listed : List Fact
  listed = facts_at was numbers

  abbrev firsts_of : List Fact
  firsts_of = map (fact_over (part_before m)) listed

  abbrev seconds_of : List Fact
  seconds_of = map (fact_over (part_after m)) listed

  chosen_facts : (length numbers ≡ length listed)
      × ((k n : ℕ) → slice_get numbers k ≡ Some n → slice_get listed k ≡ option_map (fact_in was) (row_at rows n))
  chosen_facts = chosen (λ n. option_map (fact_in was) (row_at rows n)) numbers (λ k n e.
      let row = row_inside held names m numbers sound can n (contains_from_at numbers k n e) in
      (fact_in was row.0, ap (option_map (fact_in was)) row.1))

  -- the fact at a place
  fact_is : (k n : ℕ) (row : SeenRow) → slice_get numbers k ≡ Some n → row_at rows n ≡ Some row → slice_get listed k ≡ Some (fact_in was row)
  fact_is k n row e is = chosen_facts.1 k n e ∙ ap (option_map (fact_in was)) is

  -- a part of it
  part_is : (part : Ends → Ends) (k n : ℕ) (row : SeenRow) (v : Fact) → slice_get numbers k ≡ Some n → row_at rows n ≡ Some row
      → slice_get (map (fact_over part) listed) k ≡ Some v → fact_over part (fact_in was row) ≡ v
  part_is part k n row v e is h =
      let u = from_map (fact_over part) (slice_get listed k) v (sym (slice_get-map (fact_over part) listed k) ∙ h) in
      ap (fact_over part) (same_some (slice_get listed k) (fact_in was row) u.0 (fact_is k n row e is) u.1) ∙ u.2

  seen_was : (n : ℕ) (row : SeenRow) → row_at rows n ≡ Some row → held_at xs n ≡ Some (fact_in was row)
  seen_was n row e = held_mapped (fact_in was) rows n ∙ ap (option_map (fact_in was)) e

  seen_new : (n : ℕ) (row : SeenRow) → row_at later n ≡ Some row → held_at ys n ≡ Some (fact_in new row)
  seen_new n row e = held_mapped (fact_in new) later n ∙ ap (option_map (fact_in new)) e

  at_number : (k n : ℕ) (v : Fact) → slice_get numbers k ≡ Some n → slice_get listed k ≡ Some v → held_at xs n ≡ Some v
  at_number k n v e h =
      let one = its_cut held names m numbers sound can made now cuts k n e in
      seen_was n one.0 one.2 ∙ ap Some (same_some (slice_get listed k) (fact_in was one.0) v (fact_is k n one.0 e one.2) h)

  is_there : (k n : ℕ) → slice_get numbers k ≡ Some n → (v : Fact) × (held_at xs n ≡ Some v)
  is_there k n e =
      let one = its_cut held names m numbers sound can made now cuts k n e in
      (fact_in was one.0, seen_was n one.0 one.2)

  at_first : (k n : ℕ) (v : Fact) → slice_get numbers k ≡ Some n → slice_get firsts_of k ≡ Some v → held_at ys n ≡ Some v
  at_first k n v e h =
      let one = its_cut held names m numbers sound can made now cuts k n e in
      seen_new n (row_over (part_before m) one.0) one.5.here
      ∙ ap Some (fact_before held names m numbers sound can made now cuts k n one.0 e one.2 ∙ part_is (part_before m) k n one.0 v e one.2 h)

  is_vacant : (k c : ℕ) → slice_get made k ≡ Some c → held_at xs c ≡ None
  is_vacant k c e = held_mapped (fact_in was) rows c
      ∙ ap (option_map (fact_in was)) (made_vacant held names m numbers sound can made now cuts c (contains_from_at made k c e))

  at_second : (k c : ℕ) (v : Fact) → slice_get made k ≡ Some c → slice_get seconds_of k ≡ Some v → held_at ys c ≡ Some v
  at_second k c v e h =
      let number = beside made numbers (sym cuts.size) k c e in
      let one = its_cut held names m numbers sound can made now cuts k number.0 number.1 in
      let same = same_some (slice_get made k) one.1 c one.4 e in
      let there = (cuts.each k number.0 c one.0 number.1 e one.2).there in
      seen_new c (twin_row (twin_in now.pieces) (part_after m one.0.span) one.0) there
      ∙ ap Some (fact_after held names m numbers sound can made now cuts k number.0 one.0 number.1 one.2
      ∙ part_is (part_after m) k number.0 one.0 v number.1 one.2 h)

  stays : (n : ℕ) → ((k : ℕ) → slice_get numbers k ≢ Some n) → ((k : ℕ) → slice_get made k ≢ Some n) → held_at ys n ≡ held_at xs n
  stays n none out =
      let unlisted : ¬ (Contains numbers n) = λ c. none c.0 (at_from numbers c.0 c.1 c.2) in
      let unmade : ¬ (Contains made n) = λ c. out c.0 (at_from made c.0 c.1 c.2) in
      held_mapped (fact_in new) later n ∙ ap (option_map (fact_in new)) (cuts.others n unlisted unmade)
      ∙ by unlisted (row_at rows n) refl ∙ sym (held_mapped (fact_in was) rows n)
    where
      at_from : (ns : List ℕ) (k : ℕ) → k < length ns → get_or ns k n ≡ n → slice_get ns k ≡ Some n
      at_from ns k l e = slice_get-get_or ns k n l ∙ ap Some e

      by : ¬ (Contains numbers n) → (o : Option SeenRow) → row_at rows n ≡ o → option_map (fact_in new) o ≡ option_map (fact_in was) o
      by unlisted None e = refl
      by unlisted (Some row) e = ap Some (fact_still held names m numbers sound can made now cuts n row unlisted e)

  first_size : length numbers ≡ length firsts_of
  first_size = chosen_facts.0 ∙ sym (length-map listed (fact_over (part_before m)))

  second_size : length made ≡ length seconds_of
  second_size = cuts.size ∙ chosen_facts.0 ∙ sym (length-map listed (fact_over (part_after m)))

  abbrev others : List Fact
  others = rest xs ys numbers made listed firsts_of seconds_of chosen_facts.0 first_size second_size can.once cuts.once at_number is_there at_first
      is_vacant at_second stays

  pub splits_facts : SplitsFacts numbers m was new
  splits_facts = record {
    others = others;
    before = subst (IsPermutation (listed ++ others)) (flat_mapped (fact_in was) rows)
        (before xs ys numbers made listed firsts_of seconds_of chosen_facts.0 first_size second_size can.once cuts.once at_number is_there at_first
        is_vacant at_second stays);
    after = subst (IsPermutation (firsts_of ++ (seconds_of ++ others))) (flat_mapped (fact_in new) later)
        (after xs ys numbers made listed firsts_of seconds_of chosen_facts.0 first_size second_size can.once cuts.once at_number is_there at_first
        is_vacant at_second stays);
  }

  all_inside : All (λ (e : Fact). IsInside e.span m) listed
  all_inside = all_places (λ (e : Fact). IsInside e.span m) listed (λ k v e.
      let l : k < length numbers = let within = slice_get_within listed k v e in omega (arith, within, chosen_facts.0) in
      let n = get_or numbers k 0 in
      let one = its_cut held names m numbers sound can made now cuts k n (slice_get-get_or numbers k 0 l) in
      let same = same_some (slice_get listed k) (fact_in was one.0) v (fact_is k n one.0 (slice_get-get_or numbers k 0 l) one.2) e in
      subst (λ (f : Fact). IsInside f.span m) same one.3)

  pub same_snapshots : (t : ℤ) → IsPermutation (snapshot_at (facts_in was) t) (snapshot_at (facts_in new) t)
  same_snapshots t =
      let split = splits_facts in
      let whole = listed ++ split.others in
      let parts = firsts_of ++ (seconds_of ++ split.others) in
      IsPermutation-trans (snapshot_at (facts_in was) t) (snapshot_at whole t) (snapshot_at (facts_in new) t)
      (IsPermutation-sym (snapshot_at whole t) (snapshot_at (facts_in was) t) (snapshot_any_order t whole (facts_in was) split.before))
      (subst (λ l. IsPermutation l (snapshot_at (facts_in new) t)) (same_snapshot m listed split.others all_inside t)
      (snapshot_any_order t parts (facts_in new) split.after))
