-- Other names for constants and for unknowns.
use Rattle.std.specs.Prelude.{◌≡◌, ◌⊎◌, ◌↔◌, List, map, Any, Contains}
use Rattle.term_core.specs.declared.const_id.ConstId.{ConstId}
use Rattle.rule_core.specs.declared.rules.Arg.TheVariants.{Const}
use Rattle.rule_core.specs.declared.rules.Atom.{Atom}
use Rattle.rule_core.specs.declared.rules.Query.{Query}
use Rattle.rule_core.specs.Terms.{Unknown, numbered, named, TermOf, constant, unknown, FactOf, StampedOf}
use Rattle.rule_core.specs.Mapping.{RuleSet}

-- a one-to-one renaming of all constants of one kind to all of another
pub record Renaming (C D : Type 0) : Type 0 where
  pub to : C → D
  pub from : D → C
  pub back : (c : C) → from (to c) ≡ c
  pub forth : (d : D) → to (from d) ≡ d

module _ {C D : Type 0} (to : C → D) where
  -- an unknown, whose frontier values have their other names
  abbrev pub renamed_unknown : Unknown C → Unknown D
  renamed_unknown (numbered n) = numbered n
  renamed_unknown (named rule frontier var) = named rule (map to frontier) var

  -- a term
  abbrev pub renamed_term : TermOf C → TermOf D
  renamed_term (constant c) = constant (to c)
  renamed_term (unknown u) = unknown (renamed_unknown u)

  -- a fact
  abbrev pub renamed_fact : FactOf C → FactOf D
  renamed_fact fact = record { relation = fact.relation; terms = map renamed_term fact.terms }

  -- the facts of an instance
  abbrev pub renamed_facts : List (FactOf C) → List (FactOf D)
  renamed_facts facts = map renamed_fact facts

  -- the facts of a stamped source, each over its span
  abbrev pub renamed_stamped : List (StampedOf (FactOf C)) → List (StampedOf (FactOf D))
  renamed_stamped stamped = map (λ e. record { row = renamed_fact e.row; span = e.span }) stamped

-- the two instances hold the same facts
abbrev pub HoldTheSame : {C : Type 0} → List (FactOf C) → List (FactOf C) → Type 0
HoldTheSame {C} a b = (fact : FactOf C) → Contains a fact ↔ Contains b fact

-- the constant is an argument of one of the atoms
abbrev pub HaveConstant : List Atom → ConstId → Type 0
HaveConstant atoms c = Any (λ atom. Contains atom.args (Const c)) atoms

-- the constant is an argument in a tgd or in an egd
abbrev pub IsRuleConstant : RuleSet → ConstId → Type 0
IsRuleConstant rules c =
    Any (λ tgd. HaveConstant tgd.body c ⊎ HaveConstant tgd.head c) rules.tgds ⊎ Any (λ egd. HaveConstant egd.body c) rules.egds

-- the constant is an argument in a query
abbrev pub IsQueryConstant : Query → ConstId → Type 0
IsQueryConstant query c = Any (λ branch. HaveConstant branch.body c) query.branches

-- the unknown is a term of a fact
abbrev pub HasUnknown : {C : Type 0} → List (FactOf C) → Unknown C → Type 0
HasUnknown facts u = Any (λ fact. Contains fact.terms (unknown u)) facts

-- what is told of each unknown of the facts tells it from the others
abbrev pub AreToldApart : {C : Type 0} → List (FactOf C) → (Unknown C → Unknown C) → (Unknown C → Unknown C) → Type 0
AreToldApart {C} facts told back = (u : Unknown C) → HasUnknown facts u → back (told u) ≡ u
