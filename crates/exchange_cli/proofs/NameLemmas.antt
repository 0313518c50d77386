-- Names that begin with a pool: the constants of a mapping by their texts, and its unknowns by their numbers.
use Rattle.std.proofs.Common.{◌≡◌, ℕ, ◌+◌, ◌-◌, ◌<◌, Some, List, [], ◌∷◌, map, length, get_or, count_by, refl, sym, ap, ◌∙◌, subst, inl, inr, arith, AllPairs, Any, Contains}
use Rattle.std.specs.Prelude.{slice_get, flat_map}
use Rattle.std.specs.declared.cmp.Ordering.TheVariants.{Less}
use Rattle.std.specs.Cmp.{IsTotalOrder}
use Rattle.std.specs.Ordering.{is_lt}
use Rattle.std.proofs.lemmas.List.Elements.{Contains-append_left, Contains-append_right}
use Rattle.std.proofs.lemmas.Option.{slice_get-get_or, slice_get_within}
use Rattle.term_core.specs.declared.const_id.ConstId.{ConstId}
use Rattle.term_core.specs.declared.term.Unknown.{Unknown as HeldUnknown}
use Rattle.term_core.specs.declared.term.Term.{Term}
use Rattle.term_core.specs.declared.term.Term.TheVariants.{Const, Null}
use Rattle.term_core.specs.Order.{unknown_cmp}
use Rattle.rule_core.specs.declared.rules.Arg.{Arg}
use Rattle.rule_core.specs.declared.rules.Arg.TheVariants as args
use Rattle.rule_core.specs.declared.rules.Atom.{Atom}
use Rattle.rule_core.specs.declared.rules.Branch.{Branch}
use Rattle.rule_core.specs.declared.rules.Query.{Query}
use Rattle.rule_core.specs.Mapping.{RuleSet}
use Rattle.rule_core.specs.Terms.{Unknown, numbered, named, TermOf, constant, unknown}
use Rattle.rule_core.specs.Values.{unknown_value, term_value}
use Rattle.rule_core.specs.Homomorphism.{term_image}
use Rattle.rule_core.specs.Rebase.{KeepsTexts}
use Rattle.rule_core.specs.Renaming.{Renaming, renamed_unknown, renamed_term, HaveConstant, IsRuleConstant, IsQueryConstant}
use Rattle.rule_core.proofs.ListLemmas.{Contains-nil, Contains-head, Contains-cons, Contains-cons_cases}
use Rattle.rule_text.specs.Constants.{constants_in, constants_among}
use Rattle.mapping_core.specs.Mapping.{AnyHasConstant}
use Rattle.exchange_engine.specs.Loading.{text_in}
use Rattle.exchange_cli.specs.Rendering.{rank_in, stored_term}
use Rattle.exchange_cli.proofs.StoredOrderLemmas.{IsStorable, rank_is_place}

-- the constants of rules

-- a constant among arguments is listed
in_arguments : (arguments : List Arg) (c : ConstId) → Contains arguments (args.Const c) → Contains (constants_in arguments) c
in_arguments [] c there = absurd (Contains-nil (args.Const c) there)
in_arguments (args.Var v ∷ arguments) c there = elim (Contains-cons_cases (args.Var v) (args.Const c) arguments there) [
  | inl e ↦ absurd cc
  | inr later ↦ in_arguments arguments c later
]
in_arguments (args.Const d ∷ arguments) c there = elim (Contains-cons_cases (args.Const d) (args.Const c) arguments there) [
  | inl e ↦ let same : d ≡ c = cc in subst (λ k. Contains (d ∷ constants_in arguments) k) same (Contains-head d (constants_in arguments))
  | inr later ↦ Contains-cons d c (constants_in arguments) (in_arguments arguments c later)
]

-- and so one of an atom
in_atoms : (atoms : List Atom) (c : ConstId) → HaveConstant atoms c → Contains (constants_among atoms) c
in_atoms [] c has = absurd (omega (arith, has.2))
in_atoms (atom ∷ atoms) c has = elim (Contains-cons_cases atom has.1 atoms (has.0, has.2, has.3)) [
  | inl e ↦ Contains-append_left (constants_in atom.args) (constants_among atoms) c
      (in_arguments atom.args c (subst (λ (a : Atom). Contains a.args (args.Const c)) (sym e) has.4))
  | inr later ↦ Contains-append_right (constants_in atom.args) (constants_among atoms) c
      (in_atoms atoms c (later.0, has.1, later.1, later.2, has.4))
]

-- a constant of a tgd or an egd is one of the mapping
pub of_mapping : (rules : RuleSet) (c : ConstId) → IsRuleConstant rules c → AnyHasConstant rules c
of_mapping rules c (inl has) = inl (
  has.0,
  has.1,
  has.2,
  has.3,
  elim has.4 [
    | inl body ↦ Contains-append_left (constants_among has.1.body) (constants_among has.1.head) c (in_atoms has.1.body c body)
    | inr head ↦ Contains-append_right (constants_among has.1.body) (constants_among has.1.head) c (in_atoms has.1.head c head)
  ],
)
of_mapping rules c (inr has) = inr (inl (has.0, has.1, has.2, has.3, in_atoms has.1.body c has.4))

-- and so is one of a query
in_branches : (branches : List Branch) (c : ConstId) → Any (λ branch. HaveConstant branch.body c) branches
    → Contains (flat_map (λ branch. constants_among branch.body) branches) c
in_branches [] c has = absurd (omega (arith, has.2))
in_branches (branch ∷ branches) c has =
    let rest = flat_map (λ (b : Branch). constants_among b.body) branches in
    elim (Contains-cons_cases branch has.1 branches (has.0, has.2, has.3)) [
      | inl e ↦ Contains-append_left (constants_among branch.body) rest c
          (in_atoms branch.body c (subst (λ (b : Branch). HaveConstant b.body c) (sym e) has.4))
      | inr later ↦ Contains-append_right (constants_among branch.body) rest c
          (in_branches branches c (later.0, has.1, later.1, later.2, has.4))
    ]

pub of_query : (rules : RuleSet) (query : Query) → Contains rules.queries query → (c : ConstId) → IsQueryConstant query c
    → AnyHasConstant rules c
of_query rules query there c is = inr (inr (there.0, query, there.1, there.2, in_branches query.branches c is))

-- names that begin with a pool

-- the number of each text of the pool has this text for its name
abbrev pub BeginsWith : List (List ℕ) → (ConstId → List ℕ) → Type 0
BeginsWith pool to = (c : ConstId) → c.0 < length pool → slice_get pool c.0 ≡ Some (to c)

module _ (pool : List (List ℕ)) (to : ConstId → List ℕ) (begins : BeginsWith pool to) where
  -- so each number of the pool has its text for its name
  pub name_is_text : (c : ConstId) → c.0 < length pool → to c ≡ text_in pool c
  name_is_text c within =
      let same : Some (text_in pool c) ≡ Some (to c) = sym (slice_get-get_or pool c.0 [] within) ∙ begins c within in
      cc

  -- another number of a text has the same name
  pub renumbered_name : (before : List (List ℕ)) (number : ConstId → ConstId) → KeepsTexts before pool number
      → (c : ConstId) → c.0 < length before → to (number c) ≡ text_in before c
  renumbered_name before number keeps c within =
      let there : slice_get pool (number c).0 ≡ Some (text_in before c) = keeps.texts c within ∙ slice_get-get_or before c.0 [] within in
      let inside = slice_get_within pool (number c).0 (text_in before c) there in
      let same : Some (to (number c)) ≡ Some (text_in before c) = sym (begins (number c) inside) ∙ there in
      cc

-- unknowns by their numbers

-- values by their names, and back
values_back : (to : ConstId → List ℕ) (from : List ℕ → ConstId) → ((c : ConstId) → from (to c) ≡ c)
    → (values : List ConstId) → map from (map to values) ≡ values
values_back to from back [] = refl
values_back to from back (c ∷ values) = λ i. back c i ∷ values_back to from back values i

sub-one : (n : ℕ) → (n + 1) - 1 ≡ n
sub-one n = omega arith

-- what a number past the last stands for
abbrev no_unknown : HeldUnknown
no_unknown = record { rule = 0; frontier = []; var = 0 }

module _ (f : Renaming ConstId (List ℕ)) (nulls : List HeldUnknown) where
  -- an unknown with names for its values
  abbrev pub in_names : HeldUnknown → Unknown (List ℕ)
  in_names u = renamed_unknown f.to (unknown_value u)

  -- the unknown whose values are named so
  abbrev held : Unknown (List ℕ) → HeldUnknown
  held (numbered n) = no_unknown
  held (named rule frontier var) = record { rule = rule; frontier = map f.from frontier; var = var }

  -- each unknown by its number, and the unknown with a number
  abbrev pub told : Unknown (List ℕ) → Unknown (List ℕ)
  told u = numbered (rank_in nulls (held u))

  abbrev pub untold : Unknown (List ℕ) → Unknown (List ℕ)
  untold (numbered n) = in_names (get_or nulls (n - 1) no_unknown)
  untold (named rule frontier var) = named rule frontier var

  -- an unknown is found again by its names
  held_in_names : (u : HeldUnknown) → held (in_names u) ≡ u
  held_in_names u = λ i. record { rule = u.rule; frontier = values_back f.to f.from f.back u.frontier i; var = u.var }

  -- and by its number
  pub untold_told : IsTotalOrder unknown_cmp → AllPairs (λ u w. unknown_cmp u w ≡ Less) nulls
      → (u : HeldUnknown) → Contains nulls u → untold (told (in_names u)) ≡ in_names u
  untold_told ordered ascending u there =
      ap (λ w. untold (numbered (rank_in nulls w))) (held_in_names u)
      ∙ ap (λ n. in_names (get_or nulls n no_unknown)) (sub-one (count_by (λ w. is_lt (unknown_cmp w u)) nulls))
      ∙ ap in_names (rank_is_place ordered nulls ascending u there no_unknown)

  -- a term with names
  abbrev pub named_term : Term → TermOf (List ℕ)
  named_term x = renamed_term f.to (term_value x)

  -- its unknown by its number is the term as it is stored
  pub told_term : (pool : List (List ℕ)) → BeginsWith pool f.to → (x : Term) → IsStorable pool nulls x
      → term_image (λ u. unknown (told u)) (named_term x) ≡ stored_term pool nulls x
  told_term pool begins (Const c) within = ap constant (name_is_text pool f.to begins c within)
  told_term pool begins (Null u) there = ap (λ w. unknown (numbered (rank_in nulls w))) (held_in_names u)
