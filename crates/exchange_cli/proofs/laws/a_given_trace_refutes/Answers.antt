use Rattle.exchange_cli.proofs.AcceptedLemmas.{refutes}
use Rattle.exchange_cli.proofs.laws.a_given_trace_refutes.Goals as goal

pub returns : goal.returns
returns c = λ inputs loaded trace from is.
    refutes inputs loaded trace from c.snapshots_hold_what_is_covered.ensures c.rows_of_a_table_are_its_facts.ensures
    c.an_accepted_trace_has_no_solution_at_its_instant.ensures.target is
