-- The laws that the verdict stands on are those of the crates below.
use Rattle.exchange_cli.proofs.JudgedLemmas.{is_verdict}
use Rattle.exchange_cli.proofs.laws.a_verdict_is_one_on_the_texts.Goals as goal

pub returns : goal.returns
returns c = λ inputs loaded trace verdict from read is.
    is_verdict inputs loaded trace from c.snapshots_hold_what_is_covered.ensures c.rows_of_a_table_are_its_facts.ensures
    c.a_trace_has_one_verdict.ensures c.an_accepted_trace_has_no_solution_at_its_instant.ensures.target verdict read is
