use Rattle.std.proofs.Common.{◌∙◌, map, sym, subst, Contains}
use Rattle.std.proofs.lemmas.List.{take_all}
use Rattle.rule_core.specs.Terms.{numbered, unknown}
use Rattle.trace_checker.specs.Names.{term_named}
use Rattle.trace_checker.proofs.NumberLemmas.{taken_more}
use Rattle.trace_checker.proofs.numbers.Numbers.take_in.Goals as goal

pub take_in_name-requires : goal.take_in_name-requires
take_in_name-requires c = c.loop-name.invariant.0

pub loop-name-preserved : goal.loop-name-preserved
loop-name-preserved c = (
  c.in_ok-take_in_name.ensures.own,
  λ n i is. c.in_ok-take_in_name.ensures.kept n i (c.loop-name.invariant.1 n i is),
  taken_more term_named c.as_slice-names.result.now c.loop-name.name-index _ c.loop-name-test.true c.loop-name.self c.take_in_name.new.self
      c.loop-name.invariant.2 c.in_ok-take_in_name.ensures.kept c.in_ok-take_in_name.ensures.taken,
)

pub returns-clause-own : goal.returns-clause-own
returns-clause-own c = c.loop-name.invariant.0

pub returns-clause-kept : goal.returns-clause-kept
returns-clause-kept c = c.loop-name.invariant.1

pub returns-clause-taken : goal.returns-clause-taken
returns-clause-taken c = λ number has.
    c.loop-name.invariant.2 number
    (subst (λ names. Contains (map term_named names) (unknown (numbered number)))
    (sym (take_all c.loop-name.name-index c.as_slice-names.result.now c.loop-name-test.false ∙ c.as_slice-names.ensures.value)) has)
