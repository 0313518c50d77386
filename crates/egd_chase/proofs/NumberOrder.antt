-- The numbers of unknowns: distinct unknowns have distinct numbers, in the order of the unknowns.
use Rattle.std.proofs.Common.{◌≡◌, ◌≢◌, ℕ, ◌-◌, ◌<◌, ◌≤◌, ℤ, Bool, true, false, cond, Option, Some, None, List, [], ◌∷◌, ◌++◌, map}
use Rattle.std.proofs.Common.{length, get_or, count_by, flat_map, slice_get, refl, sym, ap, ◌∙◌, inl, inr, arith, AllPairs, Contains}
use Rattle.std.specs.declared.cmp.Ordering.{Ordering}
use Rattle.std.specs.declared.cmp.Ordering.TheVariants.{Less, Equal, Greater}
use Rattle.std.specs.Cmp.{nat_cmp_is}
use Rattle.std.specs.List.{range_with_len}
use Rattle.std.specs.Option.{option_map_or}
use Rattle.std.specs.Ordering.{nat_cmp, is_lt, ordering_reverse}
use Rattle.std.proofs.lemmas.Cmp.{tied_itself, nat_cmp_total}
use Rattle.std.proofs.lemmas.List.Elements.{Contains-get_or, Contains-append_left}
use Rattle.std.proofs.lemmas.List.FromFn.{length-range_with_len, get_or-range_with_len}
use Rattle.std.proofs.lemmas.List.Kept.{AllPairs-filter}
use Rattle.std.proofs.lemmas.List.Sums.{sum_by-cons}
use Rattle.time_line.specs.Span.{has}
use Rattle.term_core.specs.declared.term.Unknown.{Unknown as HeldUnknown}
use Rattle.term_core.specs.Order.{unknown_cmp}
use Rattle.term_core.proofs.OrderLemmas.{unknown_cmp-total, unknown_cmp-IsAntisymmetric}
use Rattle.rule_core.specs.declared.rules.Tgd.{Tgd}
use Rattle.rule_core.specs.Mapping.{RuleSet}
use Rattle.rule_core.proofs.ListLemmas.{Contains-nil, Contains-cons_cases, Contains-from_map, Contains-from_filter}
use Rattle.rule_core.proofs.ListLemmas.{AllPairs-head, AllPairs-tail, AllPairs-nil, AllPairs-map, AllPairs-members_weaker}
use Rattle.rule_core.proofs.SnapshotLemmas.{Decides-has}
use Rattle.failure_trace.specs.declared.firing.Firing.{Firing}
use Rattle.failure_trace.specs.Firings.{AreSeparate}
use Rattle.failure_trace.specs.Projected.{firings_at, exists_unknowns, unknowns_of, unknowns_at, number_among}
use Rattle.failure_trace.specs.TraceRun.{AreNew}
use Rattle.egd_chase.proofs.ListLemmas.{from_flat_map, pairs_append, pairs_left, pairs_right, pairs_across}

abbrev amount : Bool → ℕ
amount b = cond b 1 0

-- what passes a wider test is counted more, if an element is there that only the wider test takes
amount_le : (p q : Bool) → (p ≡ true → q ≡ true) → amount p ≤ amount q
amount_le true true h = omega arith
amount_le true false h = let no = h refl in absurd cc
amount_le false true h = omega arith
amount_le false false h = omega arith

module _ {X : Type 0} (p q : X → Bool) (wider : (x : X) → p x ≡ true → q x ≡ true) where
  count_le : (xs : List X) → count_by p xs ≤ count_by q xs
  count_le [] = omega arith
  count_le (x ∷ xs) =
      let a = sum_by-cons (λ z. amount (p z)) x xs in
      let b = sum_by-cons (λ z. amount (q z)) x xs in
      let first = amount_le (p x) (q x) (wider x) in
      let rest = count_le xs in
      omega (arith, a, b, first, rest)

  count_lt : (xs : List X) (x : X) → Contains xs x → p x ≡ false → q x ≡ true → count_by p xs < count_by q xs
  count_lt [] x c out inside = absurd (Contains-nil x c)
  count_lt (y ∷ ys) x c out inside =
      let a = sum_by-cons (λ z. amount (p z)) y ys in
      let b = sum_by-cons (λ z. amount (q z)) y ys in
      elim (Contains-cons_cases y x ys c) [
        | inl e ↦
            let one : amount (p y) ≡ 0 = ap (λ z. amount (p z)) e ∙ ap (λ t. amount t) out in
            let two : amount (q y) ≡ 1 = ap (λ z. amount (q z)) e ∙ ap (λ t. amount t) inside in
            let rest = count_le ys in
            omega (arith, a, b, one, two, rest)
        | inr d ↦
            let first = amount_le (p y) (q y) (wider y) in
            let rest = count_lt ys x d out inside in
            omega (arith, a, b, first, rest)
      ]

less_is : (o : Ordering) → is_lt o ≡ true → o ≡ Less
less_is Less e = refl
less_is Equal e = absurd cc
less_is Greater e = absurd cc

module _ (unknowns : List HeldUnknown) where
  number_lt : (u w : HeldUnknown) → Contains unknowns u → unknown_cmp u w ≡ Less → number_among unknowns u < number_among unknowns w
  number_lt u w c e =
      let fewer = count_lt (λ x. is_lt (unknown_cmp x u)) (λ x. is_lt (unknown_cmp x w))
      (λ x h. ap is_lt (unknown_cmp-total.trans x u w (less_is (unknown_cmp x u) h) e)) unknowns u c
      (ap is_lt (tied_itself unknown_cmp-total u)) (ap is_lt e) in
      omega (arith, fewer)

  -- numbers compare as the unknowns
  pub number_order : (u w : HeldUnknown) → Contains unknowns u → Contains unknowns w
      → nat_cmp (number_among unknowns u) (number_among unknowns w) ≡ unknown_cmp u w
  number_order u w c d = by (unknown_cmp u w) refl
    where
      by : (o : Ordering) → unknown_cmp u w ≡ o → nat_cmp (number_among unknowns u) (number_among unknowns w) ≡ unknown_cmp u w
      by Less e = sym (nat_cmp_is (number_among unknowns u) (number_among unknowns w) Less (number_lt u w c e)) ∙ sym e
      by Equal e =
          ap (λ x. nat_cmp (number_among unknowns x) (number_among unknowns w)) (unknown_cmp-IsAntisymmetric u w e)
          ∙ tied_itself nat_cmp_total (number_among unknowns w)
          ∙ sym e
      by Greater e =
          let flipped : unknown_cmp w u ≡ Less = unknown_cmp-total.antisymm w u ∙ ap ordering_reverse e in
          sym (nat_cmp_is (number_among unknowns u) (number_among unknowns w) Greater (number_lt w u d flipped)) ∙ sym e

  -- and so tell them apart
  numbers_apart : (u w : HeldUnknown) → Contains unknowns u → Contains unknowns w → u ≢ w
      → number_among unknowns u ≢ number_among unknowns w
  numbers_apart u w c d apart e = apart (unknown_cmp-IsAntisymmetric u w
      (sym (number_order u w c d) ∙ ap (λ n. nat_cmp n (number_among unknowns w)) e ∙ tied_itself nat_cmp_total (number_among unknowns w)))

-- of distinct numbers, those behind others are new beside them
pub new_numbers : (used numbers rest : List ℕ) → AllPairs (λ a b. a ≢ b) (used ++ (numbers ++ rest)) → AreNew used numbers
new_numbers used numbers rest pairs = (
  pairs_left (λ a b. a ≢ b) numbers rest (pairs_right (λ a b. a ≢ b) used (numbers ++ rest) pairs),
  λ k d l c. pairs_across (λ a b. a ≢ b) used (numbers ++ rest) pairs (get_or numbers k d) (get_or numbers k d) c
      (Contains-append_left numbers rest (get_or numbers k d) (Contains-get_or numbers k d l)) refl,
)

-- the unknowns of a firing
module _ (firing : Firing) where
  abbrev pub the_unknown : ℕ → HeldUnknown
  the_unknown var = record { rule = firing.rule; frontier = firing.frontier; var = var }

  distinct_exists : (tgd : Tgd) → AllPairs (λ a b. a ≢ b) (exists_unknowns tgd firing)
  distinct_exists tgd =
      let n = length tgd.vars - tgd.body_vars in
      AllPairs-map (λ a b. a ≢ b) the_unknown (range_with_len 0 n) (λ i j d lt within e.
      let size = length-range_with_len 0 n in
      let first = get_or-range_with_len 0 n i d (omega (arith, size, lt, within)) in
      let second = get_or-range_with_len 0 n j d (omega (arith, size, within)) in
      let same = ap (λ (u : HeldUnknown). u.var) e in
      omega (arith, first, second, same, lt))

  distinct_by : (o : Option Tgd) → AllPairs (λ a b. a ≢ b) (option_map_or (λ tgd. exists_unknowns tgd firing) o [])
  distinct_by None = AllPairs-nil (λ a b. a ≢ b)
  distinct_by (Some tgd) = distinct_exists tgd

  of_firing : (u : HeldUnknown) (o : Option Tgd) → Contains (option_map_or (λ tgd. exists_unknowns tgd firing) o []) u
      → (u.rule ≡ firing.rule) × (u.frontier ≡ firing.frontier)
  of_firing u None c = absurd (Contains-nil u c)
  of_firing u (Some tgd) c =
      let k = Contains-from_map the_unknown (range_with_len 0 (length tgd.vars - tgd.body_vars)) u c in
      (sym (ap (λ (w : HeldUnknown). w.rule) k.2), sym (ap (λ (w : HeldUnknown). w.frontier) k.2))

-- firings of one rule and one list of values are not two
abbrev AreOthers : Firing → Firing → Type 0
AreOthers a b = a.rule ≡ b.rule → a.frontier ≡ b.frontier → ⊥

module _ (rules : RuleSet) where
  distinct_unknowns : (firings : List Firing) → AllPairs AreOthers firings → AllPairs (λ a b. a ≢ b) (flat_map (unknowns_of rules) firings)
  distinct_unknowns [] others = AllPairs-nil (λ a b. a ≢ b)
  distinct_unknowns (f ∷ firings) others =
      pairs_append (λ a b. a ≢ b) (unknowns_of rules f) (flat_map (unknowns_of rules) firings)
      (distinct_by f (slice_get rules.tgds f.rule))
      (distinct_unknowns firings (AllPairs-tail AreOthers f firings others))
      (λ u w c d e.
      let g = from_flat_map (unknowns_of rules) firings w d in
      let one = of_firing f u (slice_get rules.tgds f.rule) c in
      let two = of_firing g.0 w (slice_get rules.tgds g.0.rule) g.2 in
      AllPairs-head AreOthers f firings others g.0 g.1
      (sym one.0 ∙ ap (λ (x : HeldUnknown). x.rule) e ∙ two.0)
      (sym one.1 ∙ ap (λ (x : HeldUnknown). x.frontier) e ∙ two.1))

  -- at one instant each firing has unknowns of its own, and numbers of its own
  module _ (firings : List Firing) (t : ℤ) (separate : AllPairs AreSeparate firings) where
    others_at : AllPairs AreOthers (firings_at firings t)
    others_at = AllPairs-members_weaker AreSeparate AreOthers (firings_at firings t)
        (λ a b c d apart rule frontier.
        let first = (Decides-has a.span t).0 (Contains-from_filter (λ (f : Firing). has f.span t) firings a c).1 in
        let second = (Decides-has b.span t).0 (Contains-from_filter (λ (f : Firing). has f.span t) firings b d).1 in
        (apart rule frontier).0 (t, first, second))
        (AllPairs-filter AreSeparate (λ (f : Firing). has f.span t) firings separate)

    pub distinct_numbers : AllPairs (λ a b. a ≢ b) (map (number_among (unknowns_at rules firings t)) (unknowns_at rules firings t))
    distinct_numbers =
        let unknowns = unknowns_at rules firings t in
        AllPairs-map (λ a b. a ≢ b) (number_among unknowns) unknowns
        (AllPairs-members_weaker (λ a b. a ≢ b) (λ a b. number_among unknowns a ≢ number_among unknowns b) unknowns
        (λ a b c d apart. numbers_apart unknowns a b c d apart)
        (distinct_unknowns (firings_at firings t) others_at))
