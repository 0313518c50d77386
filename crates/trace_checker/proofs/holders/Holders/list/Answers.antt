use Rattle.std.proofs.Common.{◌∙◌, map, sym, subst, Contains}
use Rattle.std.proofs.lemmas.List.{take_all}
use Rattle.rule_core.specs.Terms.{numbered, unknown}
use Rattle.trace_checker.specs.Names.{term_named}
use Rattle.trace_checker.specs.States.{fact_named}
use Rattle.trace_checker.proofs.ListedLemmas.{listed_more}
use Rattle.trace_checker.proofs.holders.Holders.list.Goals as goal

pub loop-name-preserved : goal.loop-name-preserved
loop-name-preserved c = (
  λ n fact is. c.in_ok-list_for.ensures.kept n fact (c.loop-name.invariant.0 n fact is),
  listed_more term_named c.as_slice-names.result.now c.loop-name.name-index _ c.loop-name-test.true c.loop-name.self c.list_for.new.self
      (fact_named c.args.row.now) c.loop-name.invariant.1 c.in_ok-list_for.ensures.kept c.in_ok-list_for.ensures.there,
)

pub returns-clause-there : goal.returns-clause-there
returns-clause-there c = λ number has.
    c.loop-name.invariant.1 number
    (subst (λ names. Contains (map term_named names) (unknown (numbered number)))
    (sym (take_all c.loop-name.name-index c.as_slice-names.result.now c.loop-name-test.false ∙ c.as_slice-names.ensures.value)) has)
