-- What stands in a snapshot of a source of constants is one of constants, and nothing maps into a solution then.
use Rattle.std.proofs.Common.{◌≡◌, ℕ, ℤ, Bool, true, false, cond, List, [], ◌∷◌, map, refl, All}
use Rattle.std.specs.List.{filter}
use Rattle.std.proofs.lemmas.List.Elements.{All-nil, All-cons, All-head, All-tail}
use Rattle.rule_core.specs.Terms.{constant, FactOf, StampedOf}
use Rattle.rule_core.specs.Snapshot.{snapshot_at, has}
use Rattle.trace_checker.specs.Checked.{HasConstantsOnly}
use Rattle.trace_checker.proofs.StateMaps.{starts_nowhere}
use Rattle.trace_checker.proofs.laws.an_accepted_trace_has_no_solution_at_its_instant.Goals as goal

abbrev OfConstants : FactOf (List ℕ) → Type 0
OfConstants fact = All (λ term. (c : List ℕ) × (term ≡ constant c)) fact.terms

snapshot_of_constants : (source : List (StampedOf (FactOf (List ℕ)))) (t : ℤ) → HasConstantsOnly source → All OfConstants (snapshot_at source t)
snapshot_of_constants [] t each = All-nil OfConstants
snapshot_of_constants (e ∷ source) t each =
    by (has e.span t) refl (snapshot_of_constants source t (All-tail (λ e. OfConstants e.row) e source each))
  where
    by : (b : Bool) → has e.span t ≡ b → All OfConstants (snapshot_at source t) → All OfConstants (map (λ e. e.row) (cond b (e ∷ filter (λ e. has e.span t) source) (filter (λ e. has e.span t) source)))
    by true h rest = All-cons OfConstants e.row (snapshot_at source t) (All-head (λ e. OfConstants e.row) e source each) rest
    by false h rest = rest

pub returns : goal.returns
returns c = record {
  none = λ name rules source trace valid constants accepted solvable.
      starts_nowhere name rules valid (snapshot_at source trace.instant) solvable.0 (snapshot_of_constants source trace.instant constants)
      solvable.1 trace.steps accepted;
  target = λ name rules source trace valid constants accepted target solution.
      starts_nowhere name rules valid (snapshot_at source trace.instant) target (snapshot_of_constants source trace.instant constants)
      solution trace.steps accepted;
}
