-- What firing facts are made of: a term for each column of their relation, constants of the mapping and of the source, and unknowns
-- with a value for each variable of a frontier.
use Rattle.std.proofs.Common.{◌≡◌, ℕ, ◌+◌, ◌-◌, ◌<◌, ◌≤◌, Option, Some, None, List, [], ◌∷◌, length, get_or, map, refl, sym, ap, ◌∙◌, subst}
use Rattle.std.proofs.Common.{inl, inr, arith, All, Contains}
use Rattle.std.specs.Prelude.{IsSomeAnd, slice_get, IsPermutation}
use Rattle.std.specs.Option.{option_map_or}
use Rattle.std.proofs.lemmas.Bool.{cases_lt}
use Rattle.std.proofs.lemmas.List.{length-map}
use Rattle.std.proofs.lemmas.List.Elements.{All-contains, All-map, Contains-get_or, Contains-append_left, Contains-append_right}
use Rattle.std.proofs.lemmas.List.Sorted.{All-permutation}
use Rattle.std.proofs.lemmas.Option.{slice_get_within}
use Rattle.term_core.specs.declared.const_id.ConstId.{ConstId}
use Rattle.rule_core.specs.declared.rules.Arg.{Arg}
use Rattle.rule_core.specs.declared.rules.Arg.TheVariants.{Var, Const}
use Rattle.rule_core.specs.declared.rules.Atom.{Atom}
use Rattle.rule_core.specs.declared.rules.Relation.{Relation}
use Rattle.rule_core.specs.declared.rules.Tgd.{Tgd}
use Rattle.rule_core.specs.Terms.{numbered, named, TermOf, constant, unknown, FactOf, StampedOf}
use Rattle.rule_core.specs.Mapping.{RuleSet}
use Rattle.rule_core.specs.Match.{value, image}
use Rattle.rule_core.specs.Firing.{frontier_of, frontier_value, fired_term, Fires, fired_facts, IsFiringFact, firing_rows}
use Rattle.rule_core.specs.Validity.{IsWithin, FitsRelation, IsTgd, IsValid}
use Rattle.rule_core.proofs.ListLemmas.{Contains-head, Contains-cons, Contains-nil, Contains-cons_cases, Contains-from_map}
use Rattle.rule_core.proofs.FiringLemmas.{frontier_is}
use Rattle.rule_text.specs.Constants.{constants_in, constants_among}
use Rattle.mapping_core.specs.Mapping.{AnyHasConstant}
use Rattle.body_match.proofs.ListLemmas.{contains_from_at}
use Rattle.body_match.proofs.SearchLemmas.{some_and, and_some}
use Rattle.failure_trace.specs.declared.firing.Firing.{Firing}
use Rattle.failure_trace.specs.Entries.{entry_of, entries_of}
use Rattle.tgd_chase.proofs.FiringSearchLemmas.{value_in}
use Rattle.tgd_chase.proofs.SolutionLemmas.{frontier_value-there, frontier_value-none}
use Rattle.tgd_chase.proofs.RowLemmas.{IsFired, from_rows}

-- the term is a constant below the size
abbrev pub IsConstantBelow : ℕ → TermOf ConstId → Type 0
IsConstantBelow size term = (c : ConstId) × (term ≡ constant c) × (c.0 < size)

-- and so each term of the fact
abbrev pub HasConstantsBelow : ℕ → FactOf ConstId → Type 0
HasConstantsBelow size fact = All (IsConstantBelow size) fact.terms

-- a constant is below the size; an unknown is named by the place of a tgd, values of its frontier below the size, and the place
-- of one of its `exists` variables
abbrev pub IsTermMade : RuleSet → ℕ → TermOf ConstId → Type 0
IsTermMade rules size (constant c) = c.0 < size
IsTermMade rules size (unknown (numbered n)) = ⊥
IsTermMade rules size (unknown (named place values var)) = All (λ c. c.0 < size) values × IsSomeAnd (slice_get rules.tgds place)
    (λ tgd. (length values ≡ length (frontier_of tgd)) × (tgd.body_vars + var < length tgd.vars))

-- the fact has a term for each column of its relation, and such terms
pub record IsMade (rules : RuleSet) (size : ℕ) (fact : FactOf ConstId) : Type 0 where
  pub wide : IsSomeAnd (slice_get rules.targets fact.relation) (λ r. length fact.terms ≡ length r.columns)
  pub terms : All (IsTermMade rules size) fact.terms

-- the constants of rules

in_arguments : (args : List Arg) (c : ConstId) → Contains args (Const c) → Contains (constants_in args) c
in_arguments [] c h = absurd (Contains-nil (Const c) h)
in_arguments (Var v ∷ args) c h = elim (Contains-cons_cases (Var v) (Const c) args h) [
  | inl e ↦ absurd cc
  | inr d ↦ in_arguments args c d
]
in_arguments (Const b ∷ args) c h = elim (Contains-cons_cases (Const b) (Const c) args h) [
  | inl e ↦ let same : b ≡ c = cc in subst (Contains (b ∷ constants_in args)) same (Contains-head b (constants_in args))
  | inr d ↦ Contains-cons b c (constants_in args) (in_arguments args c d)
]

in_atoms : (atoms : List Atom) (atom : Atom) (c : ConstId) → Contains atoms atom → Contains atom.args (Const c)
    → Contains (constants_among atoms) c
in_atoms [] atom c there h = absurd (Contains-nil atom there)
in_atoms (a ∷ atoms) atom c there h = elim (Contains-cons_cases a atom atoms there) [
  | inl e ↦ Contains-append_left (constants_in a.args) (constants_among atoms) c
      (in_arguments a.args c (subst (λ (x : Atom). Contains x.args (Const c)) (sym e) h))
  | inr d ↦ Contains-append_right (constants_in a.args) (constants_among atoms) c (in_atoms atoms atom c d h)
]

head_constant : (rules : RuleSet) (tgd : Tgd) → Contains rules.tgds tgd → (atom : Atom) → Contains tgd.head atom → (c : ConstId)
    → Contains atom.args (Const c) → AnyHasConstant rules c
head_constant rules tgd there atom inside c is =
    inl (
      there.0,
      tgd,
      there.1,
      there.2,
      Contains-append_right (constants_among tgd.body) (constants_among tgd.head) c (in_atoms tgd.head atom c inside is),
    )

-- the relations of rows

pub rows_below : (rules : RuleSet) → IsValid rules → (firings : List Firing) (rows : List (StampedOf (FactOf ConstId)))
    → IsPermutation (firing_rows (λ c. c) rules (entries_of firings)) rows → All (λ fact. fact.row.relation < length rules.targets) rows
rows_below rules valid firings rows made =
    All-permutation (λ (fact : StampedOf (FactOf ConstId)). fact.row.relation < length rules.targets)
    (firing_rows (λ c. c) rules (entries_of firings)) rows made
    (λ k d l.
    let all = firing_rows (λ c. c) rules (entries_of firings) in
    let h = from_rows rules firings (get_or all k d) (Contains-get_or all k d l) in
    below h.0 (get_or all k d).row (slice_get rules.tgds h.0.rule) refl h.2)
  where
    below : (f : Firing) (fact : FactOf ConstId) (o : Option Tgd) → slice_get rules.tgds f.rule ≡ o
        → IsSomeAnd o (IsFired rules (entry_of f) fact) → fact.relation < length rules.targets
    below f fact None e h = absurd h
    below f fact (Some tgd) e h =
        let there = contains_from_at rules.tgds f.rule tgd e in
        let is_tgd = All-contains (IsTgd rules.sources rules.targets) rules.tgds tgd valid.rules.tgds there in
        let from = Contains-from_map (image (λ c. c) (fired_term f.rule tgd f.frontier)) tgd.head fact h in
        let fits = All-contains (FitsRelation rules.targets) tgd.head from.0 is_tgd.head.fit from.1 in
        let s = some_and (λ (r : Relation). length from.0.args ≡ length r.columns) (slice_get rules.targets from.0.relation) fits in
        subst (λ (x : FactOf ConstId). x.relation < length rules.targets) from.2 (slice_get_within rules.targets from.0.relation s.0 s.1)

-- firing facts

module _ (rules : RuleSet) (valid : IsValid rules) (size : ℕ) (bounded : (c : ConstId) → AnyHasConstant rules c → c.0 < size)
    (source : List (FactOf ConstId)) (low : All (HasConstantsBelow size) source) where
  module _ (place : ℕ) (tgd : Tgd) (at : slice_get rules.tgds place ≡ Some tgd) (values : List ConstId)
      (fires : Fires (λ c. c) tgd source values) where
    there : Contains rules.tgds tgd
    there = contains_from_at rules.tgds place tgd at

    is_tgd : IsTgd rules.sources rules.targets tgd
    is_tgd = All-contains (IsTgd rules.sources rules.targets) rules.tgds tgd valid.rules.tgds there

    -- a variable of the body stands for a constant of the source
    value_below : (v : ℕ) → v < tgd.body_vars → (fires.0 v).0 < size
    value_below v l =
        let in_source = value_in (λ c. c) tgd.body source (λ w. constant (fires.0 w)) fires.1 v ((is_tgd.body_vars.same v).1 l) in
        let fact = All-contains (HasConstantsBelow size) source in_source.0 low in_source.1 in
        let term = All-contains (IsConstantBelow size) in_source.0.terms (constant (fires.0 v)) fact in_source.2 in
        let is : constant (fires.0 v) ≡ constant term.0 = term.1 in
        let same : fires.0 v ≡ term.0 = cc in
        subst (λ (c : ConstId). c.0 < size) (sym same) term.2

    values_below : All (λ (c : ConstId). c.0 < size) values
    values_below =
        let frontier = frontier_of tgd in
        subst (λ (l : List ConstId). All (λ (c : ConstId). c.0 < size) l) fires.2
        (All-map (λ (c : ConstId). c.0 < size) fires.0 frontier
        (λ k d l. value_below (get_or frontier k d) (((frontier_is tgd).same (get_or frontier k d)).0 (Contains-get_or frontier k d l)).0))

    unknown_made : (v : ℕ) → tgd.body_vars ≤ v → v < length tgd.vars
        → IsTermMade rules size (unknown (named place values (v - tgd.body_vars)))
    unknown_made v le l = (
      values_below,
      and_some (λ (x : Tgd). (length values ≡ length (frontier_of x)) × (x.body_vars + (v - tgd.body_vars) < length x.vars))
          (slice_get rules.tgds place) tgd at (ap length (sym fires.2) ∙ length-map (frontier_of tgd) fires.0, omega (arith, le, l)),
    )

    -- what an argument of the head stands for
    term_made : (atom : Atom) → Contains tgd.head atom → (arg : Arg) → Contains atom.args arg
        → IsTermMade rules size (value (λ c. c) (fired_term place tgd values) arg)
    term_made atom inside (Const c) is = bounded c (head_constant rules tgd there atom inside c is)
    term_made atom inside (Var v) is = elim (cases_lt v tgd.body_vars) [
      | inl l ↦
          let needed = ((frontier_is tgd).same v).1 (l, (inside.0, atom, inside.1, inside.2, is)) in
          let found = subst (λ (l : List ConstId). frontier_value (frontier_of tgd) l v ≡ Some (fires.0 v)) fires.2
          (frontier_value-there (frontier_of tgd) v fires.0 needed) in
          subst (IsTermMade rules size)
          (sym (ap (λ o. option_map_or constant o (unknown (named place values (v - tgd.body_vars)))) found)) (value_below v l)
      | inr le ↦
          let none = frontier_value-none (frontier_of tgd) v values
          (λ c. let l : v < tgd.body_vars = (((frontier_is tgd).same v).0 c).0 in omega (arith, le, l)) in
          let within : IsWithin (length tgd.vars) (Var v) = All-contains (IsWithin (length tgd.vars)) atom.args (Var v)
          (All-contains (λ (a : Atom). All (IsWithin (length tgd.vars)) a.args) tgd.head atom is_tgd.safe inside) is in
          subst (IsTermMade rules size)
          (sym (ap (λ o. option_map_or constant o (unknown (named place values (v - tgd.body_vars)))) none)) (unknown_made v le within)
    ]

    fact_made : (fact : FactOf ConstId) → Contains (fired_facts (λ c. c) place tgd values) fact → IsMade rules size fact
    fact_made fact c =
        let made = value (λ c. c) (fired_term place tgd values) in
        let from = Contains-from_map (image (λ c. c) (fired_term place tgd values)) tgd.head fact c in
        let atom = from.0 in
        let fits = All-contains (FitsRelation rules.targets) tgd.head atom is_tgd.head.fit from.1 in
        let s = some_and (λ (r : Relation). length atom.args ≡ length r.columns) (slice_get rules.targets atom.relation) fits in
        subst (IsMade rules size) from.2 (record {
          wide = and_some (λ (r : Relation). length (map made atom.args) ≡ length r.columns) (slice_get rules.targets atom.relation) s.0 s.1
              (length-map atom.args made ∙ s.2);
          terms = All-map (IsTermMade rules size) made atom.args
              (λ k d l. term_made atom from.1 (get_or atom.args k d) (Contains-get_or atom.args k d l));
        })

  pub firing_fact_made : (fact : FactOf ConstId) → IsFiringFact (λ c. c) rules source fact → IsMade rules size fact
  firing_fact_made fact k = by (slice_get rules.tgds k.0) refl k.1
    where
      by : (o : Option Tgd) → slice_get rules.tgds k.0 ≡ o
          → IsSomeAnd o (λ tgd. (values : List ConstId) × Fires (λ c. c) tgd source values
          × Contains (fired_facts (λ c. c) k.0 tgd values) fact) → IsMade rules size fact
      by None e h = absurd h
      by (Some tgd) e h = fact_made k.0 tgd e h.0 h.1 fact h.2
