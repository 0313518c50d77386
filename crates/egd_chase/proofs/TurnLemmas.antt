-- Cuts and steps, one after the other.
use Rattle.std.proofs.Common.{List, [], ◌∷◌, ◌++◌, inl, inr, Contains, IsPermutation, IsSomeAnd, Option, Some, None, slice_get}
use Rattle.std.proofs.lemmas.List.Sorted.{IsPermutation-refl, IsPermutation-sym, IsPermutation-trans, Contains-permutation}
use Rattle.time_line.specs.Span.{Ends}
use Rattle.term_core.specs.declared.const_id.ConstId.{ConstId}
use Rattle.term_core.specs.Order.{id_cmp}
use Rattle.rule_core.specs.declared.rules.Egd.{Egd}
use Rattle.rule_core.specs.Terms.{TermOf}
use Rattle.rule_core.specs.Mapping.{RuleSet}
use Rattle.rule_core.proofs.ListLemmas.{All-members}
use Rattle.failure_trace.specs.declared.journal.CutNote.{CutNote}
use Rattle.failure_trace.specs.declared.journal.JournalStep.{JournalStep}
use Rattle.failure_trace.specs.JournalRun.{RowOf, MatchesOver, Cuts, CutInTurn, Equates, IsStep, IsRun, left_of, right_of, step_terms}

-- a cut of rows is one of the same rows in any order
cuts_of_same : (state other : List (RowOf ConstId)) (term : TermOf ConstId) (c : Ends) (note : CutNote) (after : List (RowOf ConstId))
    → IsPermutation state other → Cuts other term c note after → Cuts state term c note after
cuts_of_same state other term c note after p cut = record {
  rows = cut.rows;
  others = cut.others;
  span = cut.span;
  component = record {
    from = cut.component.from;
    holds = cut.component.holds;
    within = cut.component.within;
    split = IsPermutation-trans (cut.rows ++ cut.others) other state cut.component.split (IsPermutation-sym state other p);
    reached = cut.component.reached;
    apart = cut.component.apart;
  };
  spans = cut.spans;
  covers = cut.covers;
  end = cut.end;
  inside = cut.inside;
  count = cut.count;
  cut = cut.cut;
}

-- the sides may change places
pub sides_change : (state : List (RowOf ConstId)) (left right : TermOf ConstId) (c : Ends) (notes : List CutNote) (after : List (RowOf ConstId))
    → CutInTurn state left right c notes after → CutInTurn state right left c notes after
sides_change state left right c [] after p = p
sides_change state left right c (note ∷ notes) after k = (
  k.0,
  elim k.1 [
    | inl cut ↦ inr cut
    | inr cut ↦ inl cut
  ],
  sides_change k.0 left right c notes after k.2,
)

-- one more cut, of a row that holds the first side
pub cut_more : (state : List (RowOf ConstId)) (left right : TermOf ConstId) (c : Ends) (notes : List CutNote) (middle after : List (RowOf ConstId))
    (note : CutNote) → CutInTurn state left right c notes middle → Cuts middle left c note after
    → CutInTurn state left right c (notes ++ note ∷ []) after
cut_more state left right c [] middle after note p cut =
    (after, inl (cuts_of_same state middle left c note after p cut), IsPermutation-refl after)
cut_more state left right c (first ∷ notes) middle after note k cut =
    (k.0, k.1, cut_more k.0 left right c notes middle after note k.2 cut)

-- the same of all cuts of a step
cuts_in_turn_of_same : (state other : List (RowOf ConstId)) (left right : TermOf ConstId) (c : Ends) (notes : List CutNote)
    (after : List (RowOf ConstId)) → IsPermutation state other → CutInTurn other left right c notes after → CutInTurn state left right c notes after
cuts_in_turn_of_same state other left right c [] after p q = IsPermutation-trans state other after p q
cuts_in_turn_of_same state other left right c (note ∷ notes) after p k = (
  k.0,
  elim k.1 [
    | inl cut ↦ inl (cuts_of_same state other left c note k.0 p cut)
    | inr cut ↦ inr (cuts_of_same state other right c note k.0 p cut)
  ],
  k.2,
)

matches_of_same : (state other : List (RowOf ConstId)) (egd : Egd) (terms : List (TermOf ConstId)) (c : Ends) → IsPermutation state other
    → MatchesOver (λ k. k) other egd terms c → MatchesOver (λ k. k) state egd terms c
matches_of_same state other egd terms c p m = record {
  size = m.size;
  rows = m.rows;
  present = All-members (Contains other) (Contains state) m.rows
      (λ row there inside. Contains-permutation other state row (IsPermutation-sym state other p) inside) m.present;
  images = m.images;
  instant = m.instant;
  common = m.common;
}

-- a step from rows is one from the same rows in any order
equates_of_same : (state other : List (RowOf ConstId)) (egd : Egd) (terms : List (TermOf ConstId)) (c : Ends) (notes : List CutNote)
    (after : List (RowOf ConstId)) → IsPermutation state other → Equates (λ k. k) id_cmp other egd terms c notes after
    → Equates (λ k. k) id_cmp state egd terms c notes after
equates_of_same state other egd terms c notes after p step = record {
  matches = matches_of_same state other egd terms c p step.matches;
  replacement = step.replacement;
  sides = step.sides;
  cut = step.cut;
  cuts = cuts_in_turn_of_same state other (left_of egd terms) (right_of egd terms) c notes step.cut p step.cuts;
  left = step.left;
  right = step.right;
  replaced = step.replaced;
}

-- one more step
pub step_more : (rules : RuleSet) (state : List (RowOf ConstId)) (journal : List JournalStep) (middle after : List (RowOf ConstId))
    (step : JournalStep) → IsRun rules state journal middle → IsStep rules middle step after → IsRun rules state (journal ++ step ∷ []) after
step_more rules state [] middle after step p is = (after, by (slice_get rules.egds step.egd) is, IsPermutation-refl after)
  where
    by : (o : Option Egd) → IsSomeAnd o (λ egd. Equates (λ k. k) id_cmp middle egd (step_terms step) step.span step.cuts after)
        → IsSomeAnd o (λ egd. Equates (λ k. k) id_cmp state egd (step_terms step) step.span step.cuts after)
    by (Some egd) is = equates_of_same state middle egd (step_terms step) step.span step.cuts after p is
    by None is = is
step_more rules state (first ∷ journal) middle after step run is =
    (run.0, run.1, step_more rules run.0 journal middle after step run.2 is)
