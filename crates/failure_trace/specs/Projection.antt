-- What a step of a journal is at one instant. At each instant of its span it is a step of a trace, on the snapshot there: constants have
-- other names, as their texts, and unknowns have numbers in their order. At any other instant it changes nothing.
use Rattle.std.specs.Prelude.{◌≡◌, ℕ, ℤ, Some, List, map, Contains}
use Rattle.std.specs.declared.cmp.Ordering.{Ordering}
use Rattle.std.specs.Ordering.{nat_cmp}
use Rattle.std.specs.FinMap.{IsAntisymmetric}
use Rattle.time_line.specs.Span.{Ends, Has}
use Rattle.term_core.specs.declared.const_id.ConstId.{ConstId}
use Rattle.rule_core.specs.declared.rules.Egd.{Egd}
use Rattle.rule_core.specs.declared.rules.Relation.{Relation}
use Rattle.rule_core.specs.Terms.{Unknown, numbered, TermOf, constant, unknown, FactOf}
use Rattle.rule_core.specs.Order.{unknown_cmp}
use Rattle.rule_core.specs.Mapping.{RuleSet}
use Rattle.rule_core.specs.Match.{Matches}
use Rattle.rule_core.specs.Snapshot.{snapshot_at}
use Rattle.rule_core.specs.Validity.{IsEgd}
use Rattle.rule_core.specs.Renaming.{HasUnknown, HoldTheSame}
use Rattle.failure_trace.specs.declared.journal.CutNote.{CutNote}
use Rattle.failure_trace.specs.Equating.{Replacement, bound_to, AreClashing, replacement_of, replaced_fact}
use Rattle.failure_trace.specs.JournalRun.{RowOf, left_of, right_of, Equates, Clashes}
use Rattle.failure_trace.specs.declared.trace.Bound.{Bound}
use Rattle.failure_trace.specs.declared.trace.StepKind.{StepKind}
use Rattle.failure_trace.specs.declared.trace.StepKind.TheVariants.{Egd as EgdStep, Clash as ClashStep}
use Rattle.failure_trace.specs.declared.trace.TraceStep.{TraceStep}
use Rattle.failure_trace.specs.Trace.{terms_in}
use Rattle.failure_trace.specs.TraceRun.{Instance, going, clashed, goes, FitsEgd, text_cmp, step_tests}

module _ {C D : Type 0} (to : C → D) (number : Unknown C → ℕ) where
  -- a term as a trace tells it: a constant by its other name, an unknown by its number
  abbrev pub traced_term : TermOf C → TermOf D
  traced_term (constant c) = constant (to c)
  traced_term (unknown u) = unknown (numbered (number u))

  -- a fact, and the facts of an instance
  abbrev pub traced_fact : FactOf C → FactOf D
  traced_fact fact = record { relation = fact.relation; terms = map traced_term fact.terms }

  abbrev pub traced_facts : List (FactOf C) → List (FactOf D)
  traced_facts facts = map traced_fact facts

-- the unknowns of the facts are numbered in their order, and so no two have one number
abbrev pub AreInOrder : {C : Type 0} → (C → C → Ordering) → List (FactOf C) → (Unknown C → ℕ) → Type 0
AreInOrder {C} cmp facts number =
    (u w : Unknown C) → HasUnknown facts u → HasUnknown facts w → nat_cmp (number u) (number w) ≡ unknown_cmp cmp u w

-- an equality on the facts: the binding matches the egd's body, its sides are unequal and not both constants, and the one replaces the
-- other in every fact; the facts after it are read as a set
pub record EquatesAll {C : Type 0} (name : ConstId → C) (cmp : C → C → Ordering) (egd : Egd) (terms : List (TermOf C))
    (facts after : List (FactOf C)) : Type 0 where
  pub matches : Matches name (bound_to terms) egd.body facts
  pub replacement : Replacement C
  pub sides : replacement_of cmp (left_of egd terms) (right_of egd terms) ≡ Some replacement
  pub replaced : HoldTheSame (map (replaced_fact cmp replacement) facts) after

-- a clash on the facts: the binding matches the egd's body, and its sides are two different constants
pub record ClashesOn {C : Type 0} (name : ConstId → C) (egd : Egd) (terms : List (TermOf C)) (facts : List (FactOf C)) : Type 0 where
  pub matches : Matches name (bound_to terms) egd.body facts
  pub sides : AreClashing (left_of egd terms) (right_of egd terms)

-- an allowed step of a journal is, at each instant of its span, an equality on the snapshot there
abbrev pub StepsAreTraced : Type 0 → Type 0 → Type 0
StepsAreTraced C D =
    (name : ConstId → C) (cmp : C → C → Ordering) (order : D → D → Ordering) (to : C → D) (number : Unknown C → ℕ)
    → (relations : List Relation) (egd : Egd) → IsAntisymmetric cmp → IsEgd relations egd
    → (state after : List (RowOf C)) (terms : List (TermOf C)) (c : Ends) (notes : List CutNote) (t : ℤ)
    → Equates name cmp state egd terms c notes after → AreInOrder cmp (snapshot_at state t) number → Has c t
    → EquatesAll (λ k. to (name k)) order egd (map (traced_term to number) terms)
    (traced_facts to number (snapshot_at state t)) (traced_facts to number (snapshot_at after t))

-- at any other instant the snapshot stays, as a set
abbrev pub StepsStayElsewhere : Type 0 → Type 0
StepsStayElsewhere C =
    (name : ConstId → C) (cmp : C → C → Ordering) (egd : Egd) → IsAntisymmetric cmp
    → (state after : List (RowOf C)) (terms : List (TermOf C)) (c : Ends) (notes : List CutNote) (t : ℤ)
    → Equates name cmp state egd terms c notes after → ¬ (Has c t) → HoldTheSame (snapshot_at state t) (snapshot_at after t)

-- an allowed clash is, at each instant of its span, a clash on the snapshot there, if no two constants of its binding get one name
abbrev pub ClashesAreTraced : Type 0 → Type 0 → Type 0
ClashesAreTraced C D =
    (name : ConstId → C) (cmp : C → C → Ordering) (to : C → D) (number : Unknown C → ℕ) (relations : List Relation) (egd : Egd)
    → IsEgd relations egd → (state : List (RowOf C)) (terms : List (TermOf C)) (c : Ends) (t : ℤ)
    → ((c d : C) → Contains terms (constant c) → Contains terms (constant d) → to c ≡ to d → c ≡ d) → Clashes name cmp state egd terms c → Has c t
    → ClashesOn (λ k. to (name k)) egd (map (traced_term to number) terms) (traced_facts to number (snapshot_at state t))

-- a step of a trace by an egd, of this kind and with this binding
abbrev pub egd_step : StepKind → Egd → List Bound → TraceStep
egd_step kind egd binding = record { kind = kind; rule = egd.name; binding = binding }

-- an equality on an instance is an allowed step of a trace that stands there, and leads to the same facts
abbrev pub EqualitiesAreAllowed : Type 0
EqualitiesAreAllowed =
    (name : ConstId → List ℕ) (rules : RuleSet) (source : List (FactOf (List ℕ))) (egd : Egd) (binding : List Bound) (held : Instance)
    → (after : List (FactOf (List ℕ))) → Contains rules.egds egd → FitsEgd egd binding
    → EquatesAll name text_cmp egd (terms_in binding) held.facts after
    → (next : List (FactOf (List ℕ))) × HoldTheSame next after
    × step_tests name rules source (going held) (egd_step EgdStep egd binding) (goes (going (record held { facts = next })))

-- and a clash is an allowed clash of one
abbrev pub ClashesAreAllowed : Type 0
ClashesAreAllowed =
    (name : ConstId → List ℕ) (rules : RuleSet) (source : List (FactOf (List ℕ))) (egd : Egd) (binding : List Bound) (held : Instance)
    → Contains rules.egds egd → FitsEgd egd binding → ClashesOn name egd (terms_in binding) held.facts
    → step_tests name rules source (going held) (egd_step ClashStep egd binding) (goes clashed)
