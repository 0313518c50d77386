-- Matches of a body whose atoms are taken in some order.
use Rattle.std.proofs.Common.{◌≡◌, ◌⊎◌, inl, inr, ⊎_elim, ℕ, zero, suc, ℤ, ◌<◌, ◌≤◌, ◌+◌, ◌↔◌, Option, Some, List, [], ◌∷◌, ◌++◌, length, map, take, get_or, refl, sym, ap, ◌∙◌, subst, arith, All, Contains, IsPermutation, swap}
use Rattle.std.specs.Prelude.{slice_get, slice_set}
use Rattle.std.specs.List.{range_with_len}
use Rattle.std.proofs.lemmas.Bool.{cases_eq, cases_lt}
use Rattle.std.proofs.lemmas.List.{length-map, map-append, take_more}
use Rattle.std.proofs.lemmas.List.FromFn.{length-range_with_len, get_or-range_with_len}
use Rattle.std.proofs.lemmas.List.Elements.{All-contains, Contains-get_or}
use Rattle.std.proofs.lemmas.List.Sorted.{length_permutation, Contains-permutation, IsPermutation-sym, IsPermutation-keeps, IsPermutation-swap, IsPermutation-trans}
use Rattle.std.proofs.lemmas.Option.{get_or_from_slice_get, slice_get-get_or}
use Rattle.time_line.specs.Span.{Has, HasInstant}
use Rattle.rule_core.proofs.ListLemmas.{Contains-head, Contains-cons}
use Rattle.rule_core.specs.declared.rules.Atom.{Atom}
use Rattle.fact_table.specs.Rows.{SeenRow}
use Rattle.body_match.specs.declared.found.Match.{Match}
use Rattle.body_match.specs.Matches.{seen_value, IsImageAt, HoldsAt, IsMatch}
use Rattle.body_match.specs.Plans.{IsOrder, IsOrdered}
use Rattle.body_match.proofs.ListLemmas.{at_within, within_from_at, contains_from_at, at_from_contains, at_map, zip_at, zip_length, zip_from_each, at_set_here, at_set_other, size_set}
use Rattle.body_match.proofs.SearchLemmas.{same_some}

-- lists in an order

-- each number stands at one place
abbrev pub StandOnce : List ℕ → Type 0
StandOnce list = (j k x : ℕ) → slice_get list j ≡ Some x → slice_get list k ≡ Some x → j ≡ k

-- where two were swapped, what stands at a place stood at the one that it was swapped with
module _ (d : ℕ) (list : List ℕ) (i j : ℕ) (li : i < length list) (lj : j < length list) where
  abbrev after : List ℕ
  after = slice_set (slice_set list i (get_or list j d)) j (get_or list i d)

  -- the place where what stands at a place stood before
  record Before (k x : ℕ) : Type 0 where
    from : ℕ
    there : slice_get list from ≡ Some x
    case : ((k ≡ j) × (from ≡ i)) ⊎ ((¬ (k ≡ j)) × (((k ≡ i) × (from ≡ j)) ⊎ ((¬ (k ≡ i)) × (from ≡ k))))

  before : (k x : ℕ) → slice_get after k ≡ Some x → Before k x
  before k x e = elim (cases_eq k j) [
    | inl same ↦
        record {
          from = i;
          there = slice_get-get_or list i d li ∙ sym (at_set_here (slice_set list i (get_or list j d)) j (get_or list i d)
              (omega (arith, size_set list i (get_or list j d), lj))) ∙ ap (slice_get after) (sym same) ∙ e;
          case = inl (same, refl);
        }
    | inr other ↦ elim (cases_eq k i) [
      | inl same ↦
          record {
            from = j;
            there = slice_get-get_or list j d lj ∙ sym (at_set_here list i (get_or list j d) li)
                ∙ ap (slice_get (slice_set list i (get_or list j d))) (sym same)
                ∙ sym (at_set_other (slice_set list i (get_or list j d)) j k (get_or list i d) other) ∙ e;
            case = inr (other, inl (same, refl));
          }
      | inr third ↦
          record {
            from = k;
            there = sym (at_set_other list i k (get_or list j d) third)
                ∙ sym (at_set_other (slice_set list i (get_or list j d)) j k (get_or list i d) other) ∙ e;
            case = inr (other, inr (third, refl));
          }
    ]
  ]

  -- one place before is one place after
  same_place : (k l x : ℕ) (a : Before k x) (b : Before l x) → a.from ≡ b.from → k ≡ l
  same_place k l x a b e = ⊎_elim
      (λ (p : (k ≡ j) × (a.from ≡ i)). ⊎_elim
      (λ (q : (l ≡ j) × (b.from ≡ i)). p.0 ∙ sym q.0)
      (λ (q : (¬ (l ≡ j)) × (((l ≡ i) × (b.from ≡ j)) ⊎ ((¬ (l ≡ i)) × (b.from ≡ l)))). ⊎_elim
      (λ (r : (l ≡ i) × (b.from ≡ j)). absurd (q.0 (r.0 ∙ sym p.1 ∙ e ∙ r.1)))
      (λ (r : (¬ (l ≡ i)) × (b.from ≡ l)). absurd (r.0 (sym r.1 ∙ sym e ∙ p.1)))
      q.1)
      b.case)
      (λ (p : (¬ (k ≡ j)) × (((k ≡ i) × (a.from ≡ j)) ⊎ ((¬ (k ≡ i)) × (a.from ≡ k)))). ⊎_elim
      (λ (r : (k ≡ i) × (a.from ≡ j)). ⊎_elim
      (λ (q : (l ≡ j) × (b.from ≡ i)). absurd (p.0 (r.0 ∙ sym q.1 ∙ sym e ∙ r.1)))
      (λ (q : (¬ (l ≡ j)) × (((l ≡ i) × (b.from ≡ j)) ⊎ ((¬ (l ≡ i)) × (b.from ≡ l)))). ⊎_elim
      (λ (w : (l ≡ i) × (b.from ≡ j)). r.0 ∙ sym w.0)
      (λ (w : (¬ (l ≡ i)) × (b.from ≡ l)). absurd (q.0 (sym w.1 ∙ sym e ∙ r.1)))
      q.1)
      b.case)
      (λ (r : (¬ (k ≡ i)) × (a.from ≡ k)). ⊎_elim
      (λ (q : (l ≡ j) × (b.from ≡ i)). absurd (r.0 (sym r.1 ∙ e ∙ q.1)))
      (λ (q : (¬ (l ≡ j)) × (((l ≡ i) × (b.from ≡ j)) ⊎ ((¬ (l ≡ i)) × (b.from ≡ l)))). ⊎_elim
      (λ (w : (l ≡ i) × (b.from ≡ j)). absurd (p.0 (sym r.1 ∙ e ∙ w.1)))
      (λ (w : (¬ (l ≡ i)) × (b.from ≡ l)). sym r.1 ∙ e ∙ w.1)
      q.1)
      b.case)
      p.1)
      a.case

  once_swapped : StandOnce list → StandOnce after
  once_swapped once k l x p q =
      let a = before k x p in
      let b = before l x q in
      same_place k l x a b (once a.from b.from x a.there b.there)

swap_once : (list : List ℕ) (i j : ℕ) → i < length list → j < length list → StandOnce list → StandOnce (swap list i j)
swap_once [] i j li lj once = absurd (omega (arith, li))
swap_once (d ∷ ys) i j li lj once = once_swapped d (d ∷ ys) i j li lj once

module _ (size : ℕ) (order : List ℕ) (moved : IsPermutation (range_with_len 0 size) order) where
  pub order_size : length order ≡ size
  order_size = length_permutation (range_with_len 0 size) order moved ∙ length-range_with_len 0 size

  pub order_below : (place : ℕ) → Contains order place → place < size
  order_below place c =
      let k = Contains-permutation order (range_with_len 0 size) place (IsPermutation-sym (range_with_len 0 size) order moved) c in
      let l = length-range_with_len 0 size in
      omega (arith, k.1, l, k.2, get_or-range_with_len 0 size k.0 place (omega (arith, k.1, l)))

  pub order_has : (place : ℕ) → place < size → (k : ℕ) × (slice_get order k ≡ Some place)
  order_has place l =
      let range = range_with_len 0 size in
      let there : place < length range = omega (arith, l, length-range_with_len 0 size) in
      let is : get_or range place 0 ≡ place = omega (arith, get_or-range_with_len 0 size place 0 l) in
      at_from_contains order place (Contains-permutation range order place moved
      (subst (Contains range) is (Contains-get_or range place 0 there)))

  once_range : StandOnce (range_with_len 0 size)
  once_range j k x p q =
      let l = length-range_with_len 0 size in
      let a = within_from_at (range_with_len 0 size) j x p in
      let b = within_from_at (range_with_len 0 size) k x q in
      omega (
        arith,
        get_or_from_slice_get (range_with_len 0 size) j x 0 p,
        get_or_from_slice_get (range_with_len 0 size) k x 0 q,
        get_or-range_with_len 0 size j 0 (omega (arith, l, a)),
        get_or-range_with_len 0 size k 0 (omega (arith, l, b)),
      )

  pub order_once : StandOnce order
  order_once = IsPermutation-keeps (range_with_len 0 size) StandOnce once_range
      swap_once order moved

-- matches in an order

-- what stands in the ordered list at a place
pub at_ordered : {X : Type 0} (xs : List X) (order : List ℕ) (ys : List X) → IsOrdered xs order ys → (k place : ℕ) (y : X)
    → slice_get order k ≡ Some place → slice_get ys k ≡ Some y → slice_get xs place ≡ Some y
at_ordered xs order ys is k place y p q =
    let left = at_map (λ y. Some y) ys k y q in
    let right = at_map (λ place. slice_get xs place) order k place p in
    let h : Some (Some y) ≡ Some (slice_get xs place) = sym left ∙ ap (λ l. slice_get l k) is ∙ right in
    cc

pub ordered_size : {X : Type 0} (xs : List X) (order : List ℕ) (ys : List X) → IsOrdered xs order ys → length ys ≡ length order
ordered_size xs order ys is = sym (length-map ys (λ y. Some y)) ∙ ap length is ∙ length-map order (λ place. slice_get xs place)

-- what stands in a list at places
pub picked : {X : Type 0} (xs : List X) (order : List ℕ) → ((place : ℕ) → Contains order place → place < length xs)
    → (ys : List X) × IsOrdered xs order ys
picked xs [] within = ([], refl)
picked xs (place ∷ order) within =
    let here = at_within xs place (within place (Contains-head place order)) in
    let rest = picked xs order (λ other c. within other (Contains-cons place other order c)) in
    (here.0 ∷ rest.0, λ i. sym here.1 i ∷ rest.1 i)

-- what holds of each of a list holds of each of another that has no more
all_of_fewer : (P : ℕ → Type 0) (xs ys : List ℕ) → ((x : ℕ) → Contains ys x → Contains xs x) → All P xs → All P ys
all_of_fewer P xs ys fewer h k d l = All-contains P xs (get_or ys k d) h (fewer (get_or ys k d) (Contains-get_or ys k d l))

module _ (body : List Atom) (vars : ℕ) (rows : List (Option SeenRow)) (order : List ℕ)
    (moved : IsPermutation (range_with_len 0 (length body)) order) (ordered : List Atom) (is : IsOrdered body order ordered) where
  -- two lists of rows, the one in the order of the other
  module _ (back found : List ℕ) (size : length back ≡ length order) (in_order : IsOrdered back order found) where
    found_size : length found ≡ length order
    found_size = ordered_size back order found in_order

    pub in_back : (x : ℕ) → Contains found x → Contains back x
    in_back x c =
        let k = at_from_contains found x c in
        let place = at_within order k.0 (let l = within_from_at found k.0 x k.1 in omega (arith, l, found_size)) in
        contains_from_at back place.0 x (at_ordered back order found in_order k.0 place.0 x place.1 k.1)

    pub in_found : (x : ℕ) → Contains back x → Contains found x
    in_found x c =
        let place = at_from_contains back x c in
        let below : place.0 < length body =
        let l = within_from_at back place.0 x place.1 in omega (arith, l, size, order_size (length body) order moved) in
        let k = order_has (length body) order moved place.0 below in
        let y = at_within found k.0 (let l = within_from_at order k.0 place.0 k.1 in omega (arith, l, found_size)) in
        let same : y.0 ≡ x =
        same_some (slice_get back place.0) y.0 x (at_ordered back order found in_order k.0 place.0 y.0 k.1 y.1) place.1 in
        subst (Contains found) same (contains_from_at found k.0 y.0 y.1)

    common : (t : ℤ) → All (HoldsAt rows t) found ↔ All (HoldsAt rows t) back
    common t = (all_of_fewer (HoldsAt rows t) found back in_found, all_of_fewer (HoldsAt rows t) back found in_back)

  -- a match whose rows are put back is one of the body
  pub match_back : (found back : Match) → IsMatch ordered vars rows found → length back.rows ≡ length order
      → IsOrdered back.rows order found.rows → back.binding ≡ found.binding → back.span ≡ found.span → IsMatch body vars rows back
  match_back found back whole size in_order binding span = record {
    images = zip_from_each (IsImageAt rows (seen_value back.binding)) body back.rows
        (sym (order_size (length body) order moved) ∙ sym size) each;
    values = ap length binding ∙ whole.values;
    common = λ t. (
      λ h. (common back.rows found.rows size in_order t).0 ((whole.common t).0 (subst (λ s. Has s t) span h)),
      λ h. subst (λ s. Has s t) (sym span) ((whole.common t).1 ((common back.rows found.rows size in_order t).1 h)),
    );
    instant = subst HasInstant (sym span) whole.instant;
  }
    where
      each : (place : ℕ) (atom : Atom) (n : ℕ) → slice_get body place ≡ Some atom → slice_get back.rows place ≡ Some n
          → IsImageAt rows (seen_value back.binding) atom n
      each place atom n e f =
          let k = order_has (length body) order moved place (within_from_at body place atom e) in
          let inside = within_from_at order k.0 place k.1 in
          let a = at_within ordered k.0 (omega (arith, inside, ordered_size body order ordered is)) in
          let z = zip_at (IsImageAt rows (seen_value found.binding)) ordered found.rows whole.images k.0 a.0 a.1 in
          let atom_is : a.0 ≡ atom = same_some (slice_get body place) a.0 atom (at_ordered body order ordered is k.0 place a.0 k.1 a.1) e in
          let row_is : z.0 ≡ n =
          same_some (slice_get back.rows place) z.0 n (at_ordered back.rows order found.rows in_order k.0 place z.0 k.1 z.1) f in
          subst (λ b. IsImageAt rows (seen_value b) atom n) (sym binding)
          (subst (λ m. IsImageAt rows (seen_value found.binding) atom m) row_is
          (subst (λ x. IsImageAt rows (seen_value found.binding) x z.0) atom_is z.2))

  -- the match with its rows in the order
  pub match_in_order : (m : Match) → IsMatch body vars rows m
      → (found : Match) × IsMatch ordered vars rows found × IsOrdered m.rows order found.rows × (found.binding ≡ m.binding)
  match_in_order m whole =
      let long : length body ≡ length m.rows = zip_length (IsImageAt rows (seen_value m.binding)) body m.rows whole.images in
      let size : length m.rows ≡ length order = sym long ∙ sym (order_size (length body) order moved) in
      let p = picked m.rows order (λ place c. subst (λ n. place < n) long (order_below (length body) order moved place c)) in
      let found : Match = record { rows = p.0; binding = m.binding; span = m.span } in
      let each : (k : ℕ) (atom : Atom) (n : ℕ) → slice_get ordered k ≡ Some atom → slice_get p.0 k ≡ Some n
      → IsImageAt rows (seen_value m.binding) atom n =
      λ k atom n e f.
      let place = at_within order k (let l = within_from_at ordered k atom e in omega (arith, l, ordered_size body order ordered is)) in
      let z = zip_at (IsImageAt rows (seen_value m.binding)) body m.rows whole.images place.0 atom
      (at_ordered body order ordered is k place.0 atom place.1 e) in
      let same : z.0 ≡ n = same_some (slice_get m.rows place.0) z.0 n z.1 (at_ordered m.rows order p.0 p.1 k place.0 n place.1 f) in
      subst (λ x. IsImageAt rows (seen_value m.binding) atom x) same z.2 in (
        found,
        record {
          images = zip_from_each (IsImageAt rows (seen_value m.binding)) ordered p.0
              (ordered_size body order ordered is ∙ sym (ordered_size m.rows order p.0 p.1)) each;
          values = whole.values;
          common = λ t. (
            λ h. (common m.rows p.0 size p.1 t).1 ((whole.common t).0 h),
            λ h. (whole.common t).1 ((common m.rows p.0 size p.1 t).0 h),
          );
          instant = whole.instant;
        },
        p.1,
        refl,
      )

-- one place more
pub ordered_more : {X : Type 0} (xs : List X) (order : List ℕ) (index d : ℕ) (ys new : List X) (y : X) → index < length order
    → slice_get xs (get_or order index d) ≡ Some y → new ≡ ys ++ y ∷ [] → IsOrdered xs (take index order) ys
    → IsOrdered xs (take (index + 1) order) new
ordered_more xs order index d ys new y within read pushed is =
    ap (map (λ y. Some y)) pushed ∙ map-append (λ y. Some y) ys (y ∷ [])
    ∙ (λ i. is i ++ sym read i ∷ [])
    ∙ sym (map-append (λ place. slice_get xs place) (take index order) (get_or order index d ∷ []))
    ∙ ap (map (λ place. slice_get xs place)) (sym (take_more order index d within))

-- one row more is put at its place
pub put_more : (order rows back : List ℕ) (at : ℕ) → StandOnce order → ((place : ℕ) → Contains order place → place < length order)
    → at < length order → length rows ≡ length order → length back ≡ length order
    → ((k place row : ℕ) → k < at → slice_get order k ≡ Some place → slice_get rows k ≡ Some row → slice_get back place ≡ Some row)
    → (k place row : ℕ) → k < at + 1 → slice_get order k ≡ Some place → slice_get rows k ≡ Some row
    → slice_get (slice_set back (get_or order at 0) (get_or rows at 0)) place ≡ Some row
put_more order rows back at once below within long size done k place row l p q =
    let here : slice_get order at ≡ Some (get_or order at 0) = slice_get-get_or order at 0 within in
    ⊎_elim
    (λ (same : k ≡ at).
    let place_is : get_or order at 0 ≡ place = same_some (slice_get order at) (get_or order at 0) place here
    (ap (slice_get order) (sym same) ∙ p) in
    let row_is : get_or rows at 0 ≡ row = same_some (slice_get rows at) (get_or rows at 0) row
    (slice_get-get_or rows at 0 (omega (arith, within, long))) (ap (slice_get rows) (sym same) ∙ q) in
    ap (slice_get (slice_set back (get_or order at 0) (get_or rows at 0))) (sym place_is)
    ∙ at_set_here back (get_or order at 0) (get_or rows at 0)
    (let b = below (get_or order at 0) (Contains-get_or order at 0 within) in omega (arith, b, size)) ∙ ap (λ x. Some x) row_is)
    (λ (other : k ≡ at → ⊥).
    at_set_other back (get_or order at 0) place (get_or rows at 0)
    (λ (e : place ≡ get_or order at 0). other (once k at place p (here ∙ ap (λ x. Some x) (sym e))))
    ∙ done k place row (before k at l other) p q)
    (cases_eq k at)
  where
    before : (k at : ℕ) → k < at + 1 → (k ≡ at → ⊥) → k < at
    before k at l other = ⊎_elim
        (λ (less : k < at). less)
        (λ (not : at ≤ k). absurd (other (omega (arith, l, not))))
        (cases_lt k at)

-- all places in order, with the first swapped for another
pub first_swapped : (size start : ℕ) (range order : List ℕ) → range ≡ range_with_len 0 size → order ≡ swap range 0 start → start < size
    → IsOrder size start order
first_swapped size start range order read is below =
    let long : length range ≡ size = ap length read ∙ length-range_with_len 0 size in
    let some : 0 < length range = omega (arith, below, long) in
    let there : start < length range = omega (arith, below, long) in
    let value : get_or range start 0 ≡ start =
    omega (arith, ap (λ (l : List ℕ). get_or l start 0) read, get_or-range_with_len 0 size start 0 below) in
    record {
      moved = subst (λ l. IsPermutation l order) read (IsPermutation-swap range order 0 start some there is);
      first = ap (λ l. slice_get l 0) is ∙ swapped_first range start some there ∙ ap (λ x. Some x) value;
    }
  where
    defaults : (ys : List ℕ) (j d : ℕ) → j < length ys → Some (get_or ys j d) ≡ Some (get_or ys j 0)
    defaults ys j d l = sym (slice_get-get_or ys j d l) ∙ slice_get-get_or ys j 0 l

    swapped_first : (list : List ℕ) (j : ℕ) → 0 < length list → j < length list → slice_get (swap list 0 j) 0 ≡ Some (get_or list j 0)
    swapped_first [] j some there = absurd (omega (arith, some))
    swapped_first (d ∷ ys) zero some there = refl
    swapped_first (d ∷ ys) (suc j) some there = defaults ys j d (omega (arith, there))

-- a swap of later places keeps the first
pub first_stays : (size start : ℕ) (old new : List ℕ) (i j : ℕ) → 1 ≤ i → i < length old → j < length old → i ≤ j → new ≡ swap old i j
    → IsOrder size start old → IsOrder size start new
first_stays size start old new i j some li lj up is h = record {
  moved = IsPermutation-trans (range_with_len 0 size) old new h.moved (IsPermutation-swap old new i j li lj is);
  first = ap (λ l. slice_get l 0) is ∙ kept old i j some up ∙ h.first;
}
  where
    kept : (list : List ℕ) (i j : ℕ) → 1 ≤ i → i ≤ j → slice_get (swap list i j) 0 ≡ slice_get list 0
    kept [] i j a b = refl
    kept (d ∷ ys) zero j a b = absurd (omega (arith, a))
    kept (d ∷ ys) (suc i) zero a b = absurd (omega (arith, b))
    kept (d ∷ ys) (suc i) (suc j) a b = refl
