-- The order of facts, and where the facts of one relation and row stand in a table.
use Rattle.std.proofs.Common.{◌≡◌, ◌⊎◌, ℕ, ◌+◌, ◌-◌, ◌<◌, ◌≤◌, Bool, true, false, List, length, get_or, take, drop, refl, sym, ap, rules, ◌∙◌, subst, inl, inr, ⊎_elim, arith, Contains}
use Rattle.std.specs.declared.cmp.Ordering.{Ordering}
use Rattle.std.specs.declared.cmp.Ordering.TheVariants.{Less, Equal, Greater}
use Rattle.std.specs.Cmp.{IsTotalOrder}
use Rattle.std.specs.FinMap.{IsAntisymmetric, nat_cmp-IsAntisymmetric, slice_cmp-IsAntisymmetric}
use Rattle.std.specs.Cmp.Lexicographic.{slice_cmp}
use Rattle.std.specs.Ordering.{ordering_then, nat_cmp, is_lt, is_eq}
use Rattle.std.specs.List.Sorted.{IsPartitionedBy, IsPartitionPoint}
use Rattle.std.proofs.lemmas.Cmp.{then_total, on_total, lists_total, nat_cmp_total, tied_itself, alike_right}
use Rattle.std.proofs.lemmas.List.{get_or-drop, length-drop, get_or-take, length-take-le}
use Rattle.std.proofs.lemmas.Bool.{cases_lt}
use Rattle.time_line.specs.Span.{Ends, span_cmp}
use Rattle.time_line.specs.SpanOrder.{span_cmp-total}
use Rattle.term_core.specs.declared.const_id.ConstId.{ConstId}
use Rattle.term_core.specs.Order.{id_cmp}
use Rattle.term_core.proofs.OrderLemmas.{id_cmp-total, id_cmp-IsAntisymmetric}
use Rattle.fact_table.specs.declared.fact.Fact.{Fact}
use Rattle.fact_table.specs.Facts.{key_cmp, fact_cmp, IsTable}

pub fact_cmp-total : IsTotalOrder fact_cmp
fact_cmp-total =
    then_total (on_total (λ (f : Fact). f.relation) nat_cmp_total)
    (then_total (on_total (λ (f : Fact). f.row) (lists_total id_cmp-total)) (on_total (λ (f : Fact). f.span) span_cmp-total))

-- where both parts of a comparison tie
then_ties : (r s : Ordering) → ordering_then r s ≡ Equal → (r ≡ Equal) × (s ≡ Equal)
then_ties Less s e = absurd cc
then_ties Equal s e = (refl, e)
then_ties Greater s e = absurd cc

-- facts with one key have one relation and one row
pub same_key : (fact : Fact) (relation : ℕ) (row : List ConstId) → key_cmp fact relation row ≡ Equal
    → (fact.relation ≡ relation) × (fact.row ≡ row)
same_key fact relation row e =
    let p = then_ties (nat_cmp fact.relation relation) (slice_cmp id_cmp fact.row row) e in
    (nat_cmp-IsAntisymmetric fact.relation relation p.0, slice_cmp-IsAntisymmetric id_cmp-IsAntisymmetric fact.row row p.1)

-- spans that tie are one span
span_cmp-IsAntisymmetric : IsAntisymmetric span_cmp
span_cmp-IsAntisymmetric a b e = search rules

pub fact_cmp-IsAntisymmetric : IsAntisymmetric fact_cmp
fact_cmp-IsAntisymmetric a b e =
    let p = then_ties (nat_cmp a.relation b.relation) (ordering_then (slice_cmp id_cmp a.row b.row) (span_cmp a.span b.span)) e in
    let q = then_ties (slice_cmp id_cmp a.row b.row) (span_cmp a.span b.span) p.1 in
    λ i. record {
      relation = nat_cmp-IsAntisymmetric a.relation b.relation p.0 i;
      row = slice_cmp-IsAntisymmetric id_cmp-IsAntisymmetric a.row b.row q.0 i;
      span = span_cmp-IsAntisymmetric a.span b.span q.1 i;
    }

-- the order by relation and row alone
abbrev keys_cmp : Fact → Fact → Ordering
keys_cmp a b = key_cmp a b.relation b.row

keys_cmp-total : IsTotalOrder keys_cmp
keys_cmp-total = then_total (on_total (λ (f : Fact). f.relation) nat_cmp_total) (on_total (λ (f : Fact). f.row) (lists_total id_cmp-total))

-- of two facts in order, the second has no lesser key
up_to : (r s t : Ordering) → ordering_then r (ordering_then s t) ≡ Less → (ordering_then r s ≡ Less) ⊎ (ordering_then r s ≡ Equal)
up_to Less s t e = inl refl
up_to Equal Less t e = inl refl
up_to Equal Equal t e = inr refl
up_to Equal Greater t e = absurd cc
up_to Greater s t e = absurd cc

keys_up_to : (a b : Fact) → fact_cmp a b ≡ Less → (keys_cmp a b ≡ Less) ⊎ (keys_cmp a b ≡ Equal)
keys_up_to a b e = up_to (nat_cmp a.relation b.relation) (slice_cmp id_cmp a.row b.row) (span_cmp a.span b.span) e

module _ (relation : ℕ) (row : List ConstId) where
  -- a fact with this key, at some span
  abbrev at_key : Ends → Fact
  at_key span = record { relation = relation; row = row; span = span }

  below_key : (a b : Fact) → fact_cmp a b ≡ Less → key_cmp b relation row ≡ Less → key_cmp a relation row ≡ Less
  below_key a b e l = elim (keys_up_to a b e) [
    | inl less ↦ keys_cmp-total.trans a b (at_key a.span) less l
    | inr same ↦ keys_cmp-total.congr a b (at_key a.span) same ∙ l
  ]

  -- and what stands before a fact with the key is below it or has it
  up_to_key : (a b : Fact) → fact_cmp a b ≡ Less → key_cmp b relation row ≡ Equal
      → (key_cmp a relation row ≡ Less) ⊎ (key_cmp a relation row ≡ Equal)
  up_to_key a b e same = elim (keys_up_to a b e) [
    | inl less ↦ inl (sym (alike_right keys_cmp-total b (at_key a.span) a same) ∙ less)
    | inr tie ↦ inr (keys_cmp-total.congr a b (at_key a.span) tie ∙ same)
  ]

  -- whether the key of a fact is below this one, and whether it is this one
  abbrev pub is_below : Fact → Bool
  is_below fact = is_lt (key_cmp fact relation row)

  abbrev pub is_here : Fact → Bool
  is_here fact = is_eq (key_cmp fact relation row)

  lt_less : (r : Ordering) → is_lt r ≡ true → r ≡ Less
  lt_less Less e = refl
  lt_less Equal e = absurd cc
  lt_less Greater e = absurd cc

  eq_equal : (r : Ordering) → is_eq r ≡ true → r ≡ Equal
  eq_equal Less e = absurd cc
  eq_equal Equal e = refl
  eq_equal Greater e = absurd cc

  not_lt : (r : Ordering) → is_lt r ≡ false → r ≡ Less → ⊥
  not_lt r e l = cc

  module _ (facts : List Fact) (table : IsTable facts) where
    pub parted_below : IsPartitionedBy is_below facts
    parted_below i j d le within e = ⊎_elim
        (λ (before : i < j). ap is_lt (below_key (get_or facts i d) (get_or facts j d) (table i j d before within) (lt_less _ e)))
        (λ (after : j ≤ i). let same : j ≡ i = omega (arith, after, le) in subst (λ k. is_below (get_or facts k d) ≡ true) same e)
        (cases_lt i j)

    -- behind the facts below the key, those with the key stand first
    pub parted_here : (from : ℕ) → ((k : ℕ) (d : Fact) → from ≤ k → k < length facts → is_below (get_or facts k d) ≡ false)
        → IsPartitionedBy is_here (drop from facts)
    parted_here from behind i j d le within e =
        let inside : from + j < length facts = omega (arith, within, length-drop from facts) in
        let here : is_here (get_or facts (from + j) d) ≡ true = ap is_here (sym (get_or-drop from facts j d)) ∙ e in
        ap is_here (get_or-drop from facts i d) ∙ ⊎_elim
        (λ (before : i < j). elim (up_to_key (get_or facts (from + i) d) (get_or facts (from + j) d)
        (table (from + i) (from + j) d (omega (arith, before)) inside) (eq_equal _ here)) [
          | inl less ↦ absurd (not_lt _ (behind (from + i) d (omega arith) (omega (arith, inside, before))) less)
          | inr same ↦ ap is_eq same
        ])
        (λ (after : j ≤ i). let same : j ≡ i = omega (arith, after, le) in subst (λ k. is_here (get_or facts (from + k) d) ≡ true) same here)
        (cases_lt i j)

    -- the facts with the key are those between two places
    module _ (from count : ℕ) (first : IsPartitionPoint (λ f. is_below f ≡ true) (λ f. is_below f ≡ false) facts from)
        (last : IsPartitionPoint (λ f. is_here f ≡ true) (λ f. is_here f ≡ false) (drop from facts) count)
        (within : count ≤ length (drop from facts)) where
      abbrev kept : List Fact
      kept = take count (drop from facts)

      pub kept_has_key : (fact : Fact) → Contains kept fact → Contains facts fact × (fact.relation ≡ relation) × (fact.row ≡ row)
      kept_has_key fact c =
          let size = length-take-le count (drop from facts) within in
          let here : c.0 < count = omega (arith, c.1, size) in
          let at : get_or (drop from facts) c.0 fact ≡ fact = sym (get_or-take count (drop from facts) c.0 fact here) ∙ c.2 in
          let key = same_key fact relation row
          (eq_equal _ (ap is_here (sym at) ∙ last.0 c.0 fact (omega arith) here)) in
          ((from + c.0, omega (arith, here, within, length-drop from facts), sym (get_or-drop from facts c.0 fact) ∙ at), key.0, key.1)

      has_key : (fact : Fact) → fact.relation ≡ relation → fact.row ≡ row → key_cmp fact relation row ≡ Equal
      has_key fact r w =
          let fits : at_key fact.span ≡ fact = λ i. record { relation = sym r i; row = sym w i; span = fact.span } in
          subst (λ f. key_cmp f relation row ≡ Equal) fits (tied_itself keys_cmp-total (at_key fact.span))

      pub key_is_kept : (fact : Fact) → Contains facts fact → fact.relation ≡ relation → fact.row ≡ row → Contains kept fact
      key_is_kept fact c r w =
          let key = has_key fact r w in
          ⊎_elim
          (λ (before : c.0 < from). absurd (not_both (key_cmp fact relation row)
          (ap is_below (sym c.2) ∙ first.0 c.0 fact (omega arith) before) key))
          (λ (after : from ≤ c.0). let k : ℕ = c.0 - from in
          let at : get_or (drop from facts) k fact ≡ fact =
          get_or-drop from facts k fact ∙ ap (λ i. get_or facts i fact) (let e : from + k ≡ c.0 = omega (arith, after) in e) ∙ c.2 in
          let inside : k < length (drop from facts) = omega (arith, c.1, after, length-drop from facts) in
          ⊎_elim
          (λ (here : k < count). (
            k,
            omega (arith, here, length-take-le count (drop from facts) within),
            get_or-take count (drop from facts) k fact here ∙ at,
          ))
          (λ (past : count ≤ k). absurd (not_here (key_cmp fact relation row)
          (ap is_here (sym at) ∙ last.1 k fact past inside) key))
          (cases_lt k count))
          (cases_lt c.0 from)
        where
          not_both : (r : Ordering) → is_lt r ≡ true → r ≡ Equal → ⊥
          not_both r e same = cc

          not_here : (r : Ordering) → is_eq r ≡ false → r ≡ Equal → ⊥
          not_here r e same = cc
