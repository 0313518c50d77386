use Rattle.std.proofs.Common.{[], map, subst}
use Rattle.trace_checker.specs.States.{fact_named, HoldsAlso}
use Rattle.trace_checker.proofs.rows.Rows.with.Goals as goal

pub invariant_of-result : goal.invariant_of-result
invariant_of-result c = c.in_ok-add.ensures.listed [] c.self.invariant

pub returns : goal.returns
returns c =
    subst (λ facts. HoldsAlso facts (fact_named c.args.row) (map fact_named c.add.new.rows.keys)) c.self.view_is c.in_ok-add.ensures.added
