-- Two worked examples of exchange, held against the definitions.
use Rattle.std.proofs.Common.{◌≡◌, ◌↔◌, ℕ, zero, suc, ◌<◌, ◌==◌, cond, ℤ, pos, ◌≤ℤ◌, ◌<ℤ◌, Option, Some, None, List, [], ◌∷◌, map, get_or}
use Rattle.std.proofs.Common.{refl, sym, ap, subst, inl, inr, arith, codes, All, AllPairs, Contains}
use Rattle.std.specs.declared.cmp.Ordering.{Ordering}
use Rattle.std.specs.declared.cmp.Ordering.TheVariants.{Less}
use Rattle.std.specs.Ordering.{nat_cmp}
use Rattle.std.specs.Cmp.Lexicographic.{slice_cmp}
use Rattle.std.proofs.lemmas.Int.{ints, by_lt_z}
use Rattle.std.proofs.lemmas.List.Elements.{All-nil, All-cons, All-head, All-contains}
use Rattle.term_core.specs.declared.const_id.ConstId.{ConstId}
use Rattle.time_line.specs.Span.{Has, HasInstant}
use Rattle.rule_core.specs.declared.rules.Relation.{Relation}
use Rattle.rule_core.specs.declared.rules.Arg.TheVariants.{Var}
use Rattle.rule_core.specs.declared.rules.Atom.{Atom}
use Rattle.rule_core.specs.declared.rules.Tgd.{Tgd}
use Rattle.rule_core.specs.declared.rules.Egd.{Egd}
use Rattle.rule_core.specs.Terms.{numbered, TermOf, constant, unknown, FactOf, StampedOf}
use Rattle.rule_core.specs.Mapping.{RuleSet}
use Rattle.rule_core.specs.Snapshot.{snapshot_at}
use Rattle.rule_core.specs.Match.{image, Matches}
use Rattle.rule_core.specs.Homomorphism.{term_image, fact_image, Homomorphism}
use Rattle.rule_core.specs.Solution.{TgdHolds, EgdHolds, IsSolution, IsUniversal, HasSolution}
use Rattle.rule_core.specs.Coalesced.{Covers, AreSeparate, stamped_cmp, IsCoalesced}
use Rattle.rule_core.specs.Tables.{facts_of, as_terms}
use Rattle.rule_core.proofs.ListLemmas.{Contains-nil, Contains-head, Contains-cons_cases}
use Rattle.rule_core.proofs.SnapshotLemmas.{snapshot_covers, covered_in_snapshot}
use Rattle.rule_core.proofs.SetLemmas.{universal_same_sets}

-- The first run: a mapping that copies A(x) to B(x), for
--     a,1,3; a,3,5; b,-inf,2      which gives      a,1,5; b,-inf,2
-- the atom of a side's first relation with these variables
abbrev pub atom_of : List ℕ → Atom
atom_of variables = record { relation = 0; args = map Var variables }

abbrev first_of_x : Atom
first_of_x = atom_of (0 ∷ [])

abbrev copy_rule : Tgd
copy_rule = record { name = codes "t"; vars = codes "x" ∷ []; body_vars = 1; body = first_of_x ∷ []; head = first_of_x ∷ [] }

abbrev relation : List ℕ → List (List ℕ) → Relation
relation name columns = record { name = name; columns = columns }

abbrev copying : RuleSet
copying = record {
  sources = relation (codes "A") (codes "x" ∷ []) ∷ [];
  targets = relation (codes "B") (codes "x" ∷ []) ∷ [];
  tgds = copy_rule ∷ [];
  egds = [];
  queries = [];
}

abbrev during : {X : Type 0} → Option ℤ → Option ℤ → X → StampedOf X
during lo hi x = record { row = x; span = record { lo = lo; hi = hi } }

-- what is said of an entry is said of one that it equals
entry_of : {X : Type 0} (z e : StampedOf X) (x : X) (t : ℤ) → z ≡ e → (e.row ≡ x) × Has e.span t → (z.row ≡ x) × Has z.span t
entry_of {X} z e x t is h = subst (λ (y : StampedOf X). (y.row ≡ x) × Has y.span t) (sym is) h

-- both tables, of these two rows or facts
module _ {X : Type 0} (a b : X) where
  abbrev first_a : StampedOf X
  first_a = during (Some (pos 1)) (Some (pos 3)) a

  abbrev second_a : StampedOf X
  second_a = during (Some (pos 3)) (Some (pos 5)) a

  abbrev whole_a : StampedOf X
  whole_a = during (Some (pos 1)) (Some (pos 5)) a

  abbrev early_b : StampedOf X
  early_b = during None (Some (pos 2)) b

  abbrev source_of : List (StampedOf X)
  source_of = first_a ∷ second_a ∷ early_b ∷ []

  abbrev target_of : List (StampedOf X)
  target_of = whole_a ∷ early_b ∷ []

  -- the target covers what the source does
  source_in_target : (x : X) (t : ℤ) → Covers source_of x t → Covers target_of x t
  source_in_target x t c = elim (Contains-cons_cases first_a c.1 (second_a ∷ early_b ∷ []) (c.0, c.2, c.3)) [
    | inl e ↦
        let h = entry_of first_a c.1 x t e c.4 in
        let below : t <ℤ pos 3 = h.1.1 in
        let to : t <ℤ pos 5 = omega (arith, ints) in
        (0, whole_a, omega arith, refl, (h.0, (h.1.0, to)))
    | inr d ↦ elim (Contains-cons_cases second_a c.1 (early_b ∷ []) d) [
      | inl e ↦
          let h = entry_of second_a c.1 x t e c.4 in
          let above : pos 3 ≤ℤ t = h.1.0 in
          let from : pos 1 ≤ℤ t = omega (arith, ints) in
          (0, whole_a, omega arith, refl, (h.0, (from, h.1.1)))
      | inr k ↦ elim (Contains-cons_cases early_b c.1 [] k) [
        | inl e ↦ (1, early_b, omega arith, refl, entry_of early_b c.1 x t e c.4)
        | inr n ↦ absurd (Contains-nil c.1 n)
      ]
    ]
  ]

  target_in_source : (x : X) (t : ℤ) → Covers target_of x t → Covers source_of x t
  target_in_source x t c = elim (Contains-cons_cases whole_a c.1 (early_b ∷ []) (c.0, c.2, c.3)) [
    | inl e ↦
        let h = entry_of whole_a c.1 x t e c.4 in
        by_lt_z t (pos 3)
        (λ below. (0, first_a, omega arith, refl, (h.0, (h.1.0, below))))
        (λ from. (1, second_a, omega arith, refl, (h.0, (from, h.1.1))))
    | inr d ↦ elim (Contains-cons_cases early_b c.1 [] d) [
      | inl e ↦ (2, early_b, omega arith, refl, entry_of early_b c.1 x t e c.4)
      | inr n ↦ absurd (Contains-nil c.1 n)
    ]
  ]

  same_snapshots : (t : ℤ) (x : X) → Contains (snapshot_at source_of t) x ↔ Contains (snapshot_at target_of t) x
  same_snapshots t x = (
    λ c. covered_in_snapshot target_of x t (source_in_target x t (snapshot_covers source_of x t c)),
    λ c. covered_in_snapshot source_of x t (target_in_source x t (snapshot_covers target_of x t c)),
  )

-- a fact of the first relation with this one term
abbrev one : TermOf (List ℕ) → FactOf (List ℕ)
one x = record { relation = 0; terms = x ∷ [] }

abbrev IsOne : FactOf (List ℕ) → Type 0
IsOne f = (x : TermOf (List ℕ)) × (one x ≡ f)

-- a term goes to itself where each unknown does
kept : (x : TermOf (List ℕ)) → x ≡ term_image unknown x
kept (constant k) = refl
kept (unknown u) = refl

abbrev source : List (StampedOf (List (List ℕ)))
source = source_of (codes "a" ∷ []) (codes "b" ∷ [])

abbrev target : List (StampedOf (List (List ℕ)))
target = target_of (codes "a" ∷ []) (codes "b" ∷ [])

module _ (name : ConstId → List ℕ) where
  -- what the source holds, a solution holds
  one_in_solution : (facts other : List (FactOf (List ℕ))) → IsSolution name copying facts other → (x : TermOf (List ℕ))
      → Contains facts (one x) → Contains other (one x)
  one_in_solution facts other s x c =
      let m : Matches name (λ _. x) copy_rule.body facts =
      All-cons (λ atom. Contains facts (image name (λ _. x) atom)) first_of_x [] c
      (All-nil (λ atom. Contains facts (image name (λ _. x) atom))) in
      let found = All-head (λ tgd. TgdHolds name tgd facts other) copy_rule [] s.tgds (λ _. x) m in
      let there : Contains other (one (found.0 0)) = All-head (λ atom. Contains other (image name found.0 atom)) first_of_x [] found.2 in
      subst (λ y. Contains other (one y)) (found.1 0 (omega arith)) there

  -- facts of one term are a universal target of themselves
  copied : (facts : List (FactOf (List ℕ))) → ((f : FactOf (List ℕ)) → Contains facts f → IsOne f) → IsUniversal name copying facts facts
  copied facts each = record {
    solution = record {
      tgds = All-cons (λ tgd. TgdHolds name tgd facts facts) copy_rule [] (λ b m. (b, λ v l. refl, m))
          (All-nil (λ tgd. TgdHolds name tgd facts facts));
      egds = All-nil (λ egd. EgdHolds name egd facts);
    };
    maps = λ other s. record { of_unknown = unknown; into = λ f c. into other s f c (each f c).0 (each f c).1 };
  }
    where
      into : (other : List (FactOf (List ℕ))) → IsSolution name copying facts other → (f : FactOf (List ℕ)) → Contains facts f
          → (x : TermOf (List ℕ)) → one x ≡ f → Contains other (fact_image unknown f)
      into other s f c x is =
          let there = one_in_solution facts other s x (subst (λ g. Contains facts g) (sym is) c) in
          subst (λ g. Contains other (fact_image unknown g)) is (subst (λ y. Contains other (one y)) (kept x) there)

  -- at every instant the target is universal
  first_run : (t : ℤ)
      → IsUniversal name copying (snapshot_at (facts_of (as_terms source ∷ [])) t) (snapshot_at (facts_of (as_terms target ∷ [])) t)
  first_run t = universal_same_sets name copying facts facts facts (snapshot_at (target_of a_fact b_fact) t)
      (λ f. (λ c. c, λ c. c)) (same_snapshots a_fact b_fact t)
      (copied facts (λ f c.
      let covers = snapshot_covers (source_of a_fact b_fact) f t c in
      subst IsOne covers.4.0 (All-contains (λ e. IsOne e.row) (source_of a_fact b_fact) covers.1 ones (covers.0, covers.2, covers.3))))
    where
      a_fact : FactOf (List ℕ)
      a_fact = one (constant (codes "a"))

      b_fact : FactOf (List ℕ)
      b_fact = one (constant (codes "b"))

      facts : List (FactOf (List ℕ))
      facts = snapshot_at (source_of a_fact b_fact) t

      is_a : IsOne a_fact
      is_a = (constant (codes "a"), refl)

      ones : All (λ e. IsOne e.row) (source_of a_fact b_fact)
      ones =
          All-cons (λ e. IsOne e.row) (first_a a_fact b_fact) (second_a a_fact b_fact ∷ early_b a_fact b_fact ∷ []) is_a
          (All-cons (λ e. IsOne e.row) (second_a a_fact b_fact) (early_b a_fact b_fact ∷ []) is_a
          (All-cons (λ e. IsOne e.row) (early_b a_fact b_fact) [] (constant (codes "b"), refl) (All-nil (λ e. IsOne e.row))))

  -- an unknown of the source stays as it is in each solution
  other_unknown : ¬ (IsSolution name copying (one (unknown (numbered 1)) ∷ []) (one (unknown (numbered 2)) ∷ []))
  other_unknown s =
      let was : FactOf (List ℕ) = one (unknown (numbered 1)) in
      let told : FactOf (List ℕ) = one (unknown (numbered 2)) in
      let c = one_in_solution (was ∷ []) (told ∷ []) s (unknown (numbered 1)) (Contains-head was []) in
      elim (Contains-cons_cases told was [] c) [
        | inl e ↦ let terms = ap (λ (f : FactOf (List ℕ)). f.terms) e in absurd cc
        | inr n ↦ absurd (Contains-nil was n)
      ]

abbrev texts : List (List ℕ) → List (List ℕ) → Ordering
texts = slice_cmp (slice_cmp nat_cmp)

-- what holds of two entries in their order
pairs : {X : Type 0} (R : X → X → Type 0) (x y : X) → R x y → AllPairs R (x ∷ y ∷ [])
pairs R x y p zero zero d h l = absurd (omega arith)
pairs R x y p zero (suc zero) d h l = p
pairs R x y p zero (suc (suc j)) d h l = absurd (omega arith)
pairs R x y p (suc i) j d h l = absurd (omega arith)

not_b : ¬ (codes "a" ∷ [] ≡ codes "b" ∷ [])
not_b e = let same : ◌≡◌ {A = ℕ} 97 98 = ap (λ (r : List (List ℕ)). get_or (get_or r 0 []) 0 0) e in omega arith

-- the rows of the target
abbrev whole : StampedOf (List (List ℕ))
whole = whole_a (codes "a" ∷ []) (codes "b" ∷ [])

abbrev early : StampedOf (List (List ℕ))
early = early_b (codes "a" ∷ []) (codes "b" ∷ [])

target_is_coalesced : IsCoalesced texts target
target_is_coalesced = record {
  spans = All-cons (λ entry. HasInstant entry.span) whole (early ∷ []) (pos 1, (omega (arith, ints), omega (arith, ints)))
      (All-cons (λ entry. HasInstant entry.span) early [] (pos 0, (tt, omega (arith, ints))) (All-nil (λ entry. HasInstant entry.span)));
  separate = pairs AreSeparate whole early (λ e. absurd (not_b e));
  ordered = pairs (λ a b. stamped_cmp texts a b ≡ Less) whole early refl;
}

-- the source is not: its first two records touch
source_is_not_coalesced : ¬ (IsCoalesced texts source)
source_is_not_coalesced c = (c.separate 0 1 early (omega arith) (omega arith) refl).1 (inl refl)

-- Two matches of one frontier are one firing: a mapping of A(x, y) to B(x, z) for some z, where at an instant
--     A holds a,1 and a,2      and B holds      a,?1
abbrev some_rule : Tgd
some_rule = record {
  name = codes "p";
  vars = codes "x" ∷ codes "y" ∷ codes "z" ∷ [];
  body_vars = 2;
  body = atom_of (0 ∷ 1 ∷ []) ∷ [];
  head = atom_of (0 ∷ 2 ∷ []) ∷ [];
}

abbrev pub exists_some : RuleSet
exists_some = record {
  sources = relation (codes "A") (codes "x" ∷ codes "y" ∷ []) ∷ [];
  targets = relation (codes "B") (codes "x" ∷ codes "z" ∷ []) ∷ [];
  tgds = some_rule ∷ [];
  egds = [];
  queries = [];
}

abbrev pub fact : TermOf (List ℕ) → TermOf (List ℕ) → FactOf (List ℕ)
fact x y = record { relation = 0; terms = x ∷ y ∷ [] }

abbrev pub a : TermOf (List ℕ)
a = constant (codes "a")

abbrev pub two_facts : List (FactOf (List ℕ))
two_facts = fact a (constant (codes "1")) ∷ fact a (constant (codes "2")) ∷ []

module _ (name : ConstId → List ℕ) where
  -- any B(a, _) is a solution
  pub any_is_a_solution : (z : TermOf (List ℕ)) → IsSolution name exists_some two_facts (fact a z ∷ [])
  any_is_a_solution z = record {
    tgds = All-cons (λ tgd. TgdHolds name tgd two_facts (fact a z ∷ [])) some_rule [] holds
        (All-nil (λ tgd. TgdHolds name tgd two_facts (fact a z ∷ [])));
    egds = All-nil (λ egd. EgdHolds name egd (fact a z ∷ []));
  }
    where
      first_is : (b : ℕ → TermOf (List ℕ)) → Contains two_facts (fact (b 0) (b 1)) → b 0 ≡ a
      first_is b c = elim (Contains-cons_cases (fact a (constant (codes "1"))) (fact (b 0) (b 1)) (fact a (constant (codes "2")) ∷ []) c) [
        | inl e ↦ let terms = ap (λ (f : FactOf (List ℕ)). f.terms) e in cc
        | inr d ↦ elim (Contains-cons_cases (fact a (constant (codes "2"))) (fact (b 0) (b 1)) [] d) [
          | inl e ↦ let terms = ap (λ (f : FactOf (List ℕ)). f.terms) e in cc
          | inr n ↦ absurd (Contains-nil (fact (b 0) (b 1)) n)
        ]
      ]

      with_z : (ℕ → TermOf (List ℕ)) → ℕ → TermOf (List ℕ)
      with_z b v = cond (v == 2) z (b v)

      extends : (b : ℕ → TermOf (List ℕ)) (v : ℕ) → v < 2 → with_z b v ≡ b v
      extends b zero l = refl
      extends b (suc zero) l = refl
      extends b (suc (suc v)) l = absurd (omega arith)

      holds : TgdHolds name some_rule two_facts (fact a z ∷ [])
      holds b m =
          let c : Contains two_facts (fact (b 0) (b 1)) = All-head (λ atom. Contains two_facts (image name b atom))
          (atom_of (0 ∷ 1 ∷ [])) [] m in
          let in_target : Contains (fact a z ∷ []) (fact (b 0) z) = rw (first_is b c) (Contains-head (fact a z) []) in (
            with_z b,
            extends b,
            All-cons (λ atom. Contains (fact a z ∷ []) (image name (with_z b) atom)) (atom_of (0 ∷ 2 ∷ [])) [] in_target
                (All-nil (λ atom. Contains (fact a z ∷ []) (image name (with_z b) atom))),
          )

  abbrev null : TermOf (List ℕ)
  null = unknown (numbered 1)

  -- with an unknown it is universal
  pub one_firing : IsUniversal name exists_some two_facts (fact a null ∷ [])
  one_firing = record { solution = any_is_a_solution null; maps = maps }
    where
      binding : ℕ → TermOf (List ℕ)
      binding v = cond (v == 0) a (constant (codes "1"))

      maps : (other : List (FactOf (List ℕ))) → IsSolution name exists_some two_facts other
          → Homomorphism (Contains (fact a null ∷ [])) other
      maps other s =
          let holds = All-head (λ tgd. TgdHolds name tgd two_facts other) some_rule [] s.tgds in
          let m : Matches name binding some_rule.body two_facts =
          All-cons (λ atom. Contains two_facts (image name binding atom)) (atom_of (0 ∷ 1 ∷ [])) []
          (Contains-head (fact a (constant (codes "1"))) (fact a (constant (codes "2")) ∷ []))
          (All-nil (λ atom. Contains two_facts (image name binding atom))) in
          let found = holds binding m in
          let there : Contains other (fact (found.0 0) (found.0 2)) =
          All-head (λ atom. Contains other (image name found.0 atom)) (atom_of (0 ∷ 2 ∷ [])) [] found.2 in
          let here : Contains other (fact a (found.0 2)) = subst (λ x. Contains other (fact x (found.0 2)))
          (found.1 0 (omega arith)) there in
          record {
            of_unknown = λ _. found.0 2;
            into = λ f c. elim (Contains-cons_cases (fact a null) f [] c) [
              | inl e ↦ subst (λ g. Contains other (fact_image (λ _. found.0 2) g)) e here
              | inr n ↦ absurd (Contains-nil f n)
            ];
          }

  -- with a constant it is not
  no_constant : ¬ (IsUniversal name exists_some two_facts (fact a (constant (codes "k")) ∷ []))
  no_constant u =
      let h = u.maps (fact a null ∷ []) (any_is_a_solution null) in
      elim (Contains-cons_cases (fact a null) (fact a (constant (codes "k"))) []
      (h.into (fact a (constant (codes "k"))) (Contains-head (fact a (constant (codes "k"))) []))) [
        | inl e ↦ let terms = ap (λ (f : FactOf (List ℕ)). f.terms) e in absurd cc
        | inr n ↦ absurd (Contains-nil (fact a (constant (codes "k"))) n)
      ]

-- Two values of one key have no solution: a mapping that copies A(x, y) to P(x, y), where P(x, y) and P(x, z) make
-- y and z equal, for
--     a,1,2016,2017; a,2,2016,inf
abbrev copy_both : Tgd
copy_both = record {
  name = codes "t";
  vars = codes "x" ∷ codes "y" ∷ [];
  body_vars = 2;
  body = atom_of (0 ∷ 1 ∷ []) ∷ [];
  head = atom_of (0 ∷ 1 ∷ []) ∷ [];
}

abbrev one_value : Egd
one_value = record {
  name = codes "e";
  vars = codes "x" ∷ codes "y" ∷ codes "z" ∷ [];
  body = atom_of (0 ∷ 1 ∷ []) ∷ atom_of (0 ∷ 2 ∷ []) ∷ [];
  left = 1;
  right = 2;
}

abbrev keyed : RuleSet
keyed = record {
  sources = relation (codes "A") (codes "x" ∷ codes "y" ∷ []) ∷ [];
  targets = relation (codes "P") (codes "x" ∷ codes "y" ∷ []) ∷ [];
  tgds = copy_both ∷ [];
  egds = one_value ∷ [];
  queries = [];
}

abbrev from_2016 : FactOf (List ℕ) → Option ℤ → StampedOf (FactOf (List ℕ))
from_2016 f hi = record { row = f; span = record { lo = Some (pos 2016); hi = hi } }

module _ (name : ConstId → List ℕ) where
  -- a and two values, as a binding of three variables
  bound : List ℕ → List ℕ → ℕ → TermOf (List ℕ)
  bound y z v = cond (v == 0) a (cond (v == 1) (constant y) (constant z))

  -- what the source holds, a solution holds
  copied_to : (y z : List ℕ) (target : List (FactOf (List ℕ))) → IsSolution name keyed two_facts target
      → Contains two_facts (fact a (constant y)) → Contains target (fact a (constant y))
  unfolding bound
  copied_to y z target s c =
      let holds = All-head (λ tgd. TgdHolds name tgd two_facts target) copy_both [] s.tgds in
      let found = holds (bound y z) (All-cons (λ atom. Contains two_facts (image name (bound y z) atom)) (atom_of (0 ∷ 1 ∷ [])) [] c
      (All-nil (λ atom. Contains two_facts (image name (bound y z) atom)))) in
      let there : Contains target (fact (found.0 0) (found.0 1)) =
      All-head (λ atom. Contains target (image name found.0 atom)) (atom_of (0 ∷ 1 ∷ [])) [] found.2 in
      let first : Contains target (fact a (found.0 1)) = subst (λ x. Contains target (fact x (found.0 1)))
      (found.1 0 (omega arith)) there in
      subst (λ x. Contains target (fact a x)) (found.1 1 (omega arith)) first

  no_target : (target : List (FactOf (List ℕ))) → ¬ (IsSolution name keyed two_facts target)
  unfolding bound
  no_target target s =
      let b = bound (codes "1") (codes "2") in
      let one = copied_to (codes "1") (codes "1") target s
      (Contains-head (fact a (constant (codes "1"))) (fact a (constant (codes "2")) ∷ [])) in
      let two = copied_to (codes "2") (codes "2") target s (1, omega arith, refl) in
      let m : Matches name b one_value.body target =
      All-cons (λ atom. Contains target (image name b atom)) (atom_of (0 ∷ 1 ∷ [])) (atom_of (0 ∷ 2 ∷ []) ∷ []) one
      (All-cons (λ atom. Contains target (image name b atom)) (atom_of (0 ∷ 2 ∷ [])) [] two
      (All-nil (λ atom. Contains target (image name b atom)))) in
      let clash : constant (codes "1") ≡ constant (codes "2") = All-head (λ egd. EgdHolds name egd target) one_value [] s.egds b m in
      let texts : codes "1" ≡ codes "2" = cc in
      let same : ◌≡◌ {A = ℕ} 49 50 = ap (λ bytes. get_or bytes 0 0) texts in
      omega arith

  no_solution : ¬ (HasSolution name keyed
      (from_2016 (fact a (constant (codes "1"))) (Some (pos 2017)) ∷ from_2016 (fact a (constant (codes "2"))) None ∷ []))
  no_solution h = let target = h (pos 2016) in no_target target.0 target.1
