-- The settling of a list of rows, step by step. A step makes the two sides of an egd equal over the common time of a match; before it,
-- rows are cut where it needs that, each with all rows that share an unknown with it. States are compared as lists up to order, each
-- row as often. Rows that are equal and hold an unknown share it, so a component has all of them or none.
use Rattle.std.specs.Prelude.{◌≡◌, ◌⊎◌, ◌↔◌, ℤ, Some, List, [], ◌∷◌, ◌++◌, map, length, All, Contains, IsPermutation, IsSomeAnd, slice_get}
use Rattle.std.specs.declared.cmp.Ordering.{Ordering}
use Rattle.time_line.specs.Span.{Ends, ends, Has, HasInstant, Meet, IsInside, span_cmp}
use Rattle.term_core.specs.declared.const_id.ConstId.{ConstId}
use Rattle.term_core.specs.Order.{id_cmp}
use Rattle.rule_core.specs.declared.rules.Egd.{Egd}
use Rattle.rule_core.specs.Terms.{Unknown, TermOf, unknown, FactOf, StampedOf}
use Rattle.rule_core.specs.Mapping.{RuleSet}
use Rattle.rule_core.specs.Match.{image}
use Rattle.rule_core.specs.Values.{term_value}
use Rattle.failure_trace.specs.declared.journal.CutNote.{CutNote}
use Rattle.failure_trace.specs.declared.journal.JournalStep.{JournalStep}
use Rattle.failure_trace.specs.Equating.{Replacement, bound_to, AreClashing, if_equal, replacement_of, replaced_fact}

-- what can be reached by the relation, in any number of steps
pub data Reaches {X : Type 0} (R : X → X → Type 0) (from : X) : X → Type 0 where
  here : Reaches R from from
  further : (a b : X) → Reaches R from a → R a b → Reaches R from b

-- a row of the target: a fact with the span over which it holds
abbrev pub RowOf : Type 0 → Type 0
RowOf C = StampedOf (FactOf C)

-- the unknown is a term of the row
abbrev pub Holds : {C : Type 0} → RowOf C → Unknown C → Type 0
Holds row u = Contains row.row.terms (unknown u)

-- the rows hold one unknown, and have a common instant
abbrev pub Share : {C : Type 0} → RowOf C → RowOf C → Type 0
Share {C} a b = (u : Unknown C) × Holds a u × Holds b u × Meet a.span b.span

-- the term is an unknown of the row
abbrev pub HoldsTerm : {C : Type 0} → RowOf C → TermOf C → Type 0
HoldsTerm {C} row term = (u : Unknown C) × (term ≡ unknown u) × Holds row u

-- the span is the whole common time of some rows of the state, one for each atom of the egd's body, which are the images of the atoms
pub record MatchesOver {C : Type 0} (name : ConstId → C) (state : List (RowOf C)) (egd : Egd) (terms : List (TermOf C)) (c : Ends) : Type 0 where
  pub size : length terms ≡ length egd.vars
  pub rows : List (RowOf C)
  pub present : All (Contains state) rows
  pub images : map (λ r. r.row) rows ≡ map (image name (bound_to terms)) egd.body
  pub instant : HasInstant c
  pub common : (t : ℤ) → Has c t ↔ All (λ r. Has r.span t) rows

-- the sides of the egd
abbrev pub left_of : {C : Type 0} → Egd → List (TermOf C) → TermOf C
left_of egd terms = bound_to terms egd.left

abbrev pub right_of : {C : Type 0} → Egd → List (TermOf C) → TermOf C
right_of egd terms = bound_to terms egd.right

-- a row with another span
abbrev pub over : {C : Type 0} → Ends → RowOf C → RowOf C
over span row = record row { span = span }

-- these rows are the component of one that holds the term, and the others are all other rows of the state
pub record IsComponent {C : Type 0} (state : List (RowOf C)) (term : TermOf C) (rows others : List (RowOf C)) : Type 0 where
  pub from : RowOf C
  pub holds : HoldsTerm from term
  pub within : Contains rows from
  pub split : IsPermutation (rows ++ others) state
  pub reached : All (Reaches (λ a b. Contains rows b × Share a b) from) rows
  pub apart : All (λ row. All (λ other. ¬ (Share row other)) others) rows

-- a component is cut for a step over the span c: its rows all have one span, which has all of c; it is cut at an end of c that is
-- strictly inside; no other row is cut
pub record Cuts {C : Type 0} (state : List (RowOf C)) (term : TermOf C) (c : Ends) (note : CutNote) (after : List (RowOf C)) : Type 0 where
  pub rows : List (RowOf C)
  pub others : List (RowOf C)
  pub span : Ends
  pub component : IsComponent state term rows others
  pub spans : All (λ row. row.span ≡ span) rows
  pub covers : (t : ℤ) → Has c t → Has span t
  pub end : (c.lo ≡ Some note.at) ⊎ (c.hi ≡ Some note.at)
  pub inside : IsInside span note.at
  pub count : note.rows ≡ length rows
  pub cut : IsPermutation
      (map (over (ends span.lo (Some note.at))) rows ++ (map (over (ends (Some note.at) span.hi)) rows ++ others)) after

-- the notes' components, each of a row that holds a side, are cut in turn
abbrev pub CutInTurn : {C : Type 0} → List (RowOf C) → TermOf C → TermOf C → Ends → List CutNote → List (RowOf C) → Type 0
CutInTurn state left right c [] after = IsPermutation state after
CutInTurn {C} state left right c (note ∷ notes) after =
    (next : List (RowOf C)) × (Cuts state left c note next ⊎ Cuts state right c note next) × CutInTurn next left right c notes after

-- an unknown stands only in rows over exactly the span, of those that meet it
abbrev pub StandsOver : {C : Type 0} → List (RowOf C) → TermOf C → Ends → Type 0
StandsOver state term c = All (λ row. HoldsTerm row term → Meet row.span c → row.span ≡ c) state

-- the row with the unknown replaced, if it is over the span
abbrev pub replaced_over : {C : Type 0} → (C → C → Ordering) → Replacement C → Ends → RowOf C → RowOf C
replaced_over cmp r c row = if_equal (span_cmp row.span c) (record row { row = replaced_fact cmp r row.row }) row

module _ {C : Type 0} (name : ConstId → C) (cmp : C → C → Ordering) where
  -- the egd with this binding is applied over the span, after these cuts
  pub record Equates (state : List (RowOf C)) (egd : Egd) (terms : List (TermOf C)) (c : Ends) (notes : List CutNote) (after : List (RowOf C)) : Type 0 where
    pub matches : MatchesOver name state egd terms c
    pub replacement : Replacement C
    pub sides : replacement_of cmp (left_of egd terms) (right_of egd terms) ≡ Some replacement
    pub cut : List (RowOf C)
    pub cuts : CutInTurn state (left_of egd terms) (right_of egd terms) c notes cut
    pub left : StandsOver cut (left_of egd terms) c
    pub right : StandsOver cut (right_of egd terms) c
    pub replaced : IsPermutation (map (replaced_over cmp replacement c) cut) after

  -- the egd with this binding asks over the span that two different constants are equal
  pub record Clashes (state : List (RowOf C)) (egd : Egd) (terms : List (TermOf C)) (c : Ends) : Type 0 where
    pub matches : MatchesOver name state egd terms c
    pub sides : AreClashing (left_of egd terms) (right_of egd terms)

-- the terms of a journal's binding
abbrev pub step_terms : JournalStep → List (TermOf ConstId)
step_terms step = map term_value step.binding

module _ (rules : RuleSet) where
  -- the step is allowed in the one state and leads to the other; constants stand for themselves
  abbrev pub IsStep : List (RowOf ConstId) → JournalStep → List (RowOf ConstId) → Type 0
  IsStep state step after =
      IsSomeAnd (slice_get rules.egds step.egd) (λ egd. Equates (λ c. c) id_cmp state egd (step_terms step) step.span step.cuts after)

  -- the steps are allowed, each in the state that the one before leads to, and lead from the one state to the other
  abbrev pub IsRun : List (RowOf ConstId) → List JournalStep → List (RowOf ConstId) → Type 0
  IsRun state [] last = IsPermutation state last
  IsRun state (step ∷ steps) last = (next : List (RowOf ConstId)) × IsStep state step next × IsRun next steps last

  -- the step is an allowed clash in the state
  abbrev pub IsClash : List (RowOf ConstId) → JournalStep → Type 0
  IsClash state step =
      IsSomeAnd (slice_get rules.egds step.egd) (λ egd. Clashes (λ c. c) id_cmp state egd (step_terms step) step.span) × (step.cuts ≡ [])
