use Rattle.failure_trace.proofs.ProjectionLemmas.{steps_are_traced, steps_stay_elsewhere, clashes_are_traced, equalities_are_allowed, clashes_are_allowed}
use Rattle.failure_trace.proofs.laws.a_journal_step_is_a_trace_step_at_its_instants.Goals as goal

pub returns : goal.returns
returns c = record {
  steps = steps_are_traced;
  text_steps = steps_are_traced;
  elsewhere = steps_stay_elsewhere;
  text_elsewhere = steps_stay_elsewhere;
  clashes = clashes_are_traced;
  text_clashes = clashes_are_traced;
  allowed = equalities_are_allowed;
  allowed_clashes = clashes_are_allowed;
}
