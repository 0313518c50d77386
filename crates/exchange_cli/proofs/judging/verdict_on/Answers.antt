-- The pool has all constants, and what is checked is what is loaded.
use Rattle.std.proofs.Common.{IfOk, subst}
use Rattle.exchange_engine.specs.Loading.{LoadedOf}
use Rattle.failure_trace.specs.Projected.{pool_text}
use Rattle.trace_checker.specs.Checked.{source_of, IsVerdict}
use Rattle.exchange_cli.proofs.NameLemmas.{of_mapping}
use Rattle.exchange_cli.proofs.judging.verdict_on.Goals as goal

pub check-requires : goal.check-requires
check-requires c = record {
  of_rules = λ d is. c.loaded.invariant.rules d (of_mapping c.loaded.inside.rules d is);
  of_facts = c.loaded.invariant.facts;
}

pub returns : goal.returns
returns c =
    subst (λ (l : LoadedOf). IfOk c.check.result (IsVerdict (pool_text l.pool) l.rules (source_of l.pool l.table) c.args.trace.now))
    c.loaded.view_is c.check.ensures.exact
