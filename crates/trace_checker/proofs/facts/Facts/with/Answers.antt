use Rattle.std.proofs.Common.{map, subst}
use Rattle.trace_checker.specs.States.{fact_named, HoldsAlso}
use Rattle.trace_checker.specs.Numbered.{renumbered, outward}
use Rattle.trace_checker.proofs.NumberLemmas.{more_inner, more_shown}
use Rattle.trace_checker.proofs.facts.Facts.with.Goals as goal

pub invariant_of-result : goal.invariant_of-result
invariant_of-result c = (
  c.in_ok-take_in.ensures.own,
  more_inner c.self.inside.numbers c.take_in.new.self c.self.invariant.0 c.in_ok-take_in.ensures.own c.in_ok-take_in.ensures.kept
      c.self.inside.rows c.in_ok-rows.rows c.self.invariant.1 (fact_named c.args.row) c.in_ok-take_in.ensures.taken
      (subst (λ y. HoldsAlso c.self.inside.rows y c.in_ok-rows.rows) c.in_ok-inner.ensures c.in_ok-rows.ensures),
)

pub returns : goal.returns
returns c =
    subst (λ facts. HoldsAlso facts (fact_named c.args.row) (map (renumbered (outward c.take_in.new.self)) c.in_ok-rows.rows)) c.self.view_is
    (more_shown c.self.inside.numbers c.take_in.new.self c.self.invariant.0 c.in_ok-take_in.ensures.own c.in_ok-take_in.ensures.kept
    c.self.inside.rows c.in_ok-rows.rows c.self.invariant.1 (fact_named c.args.row) c.in_ok-take_in.ensures.taken
    (subst (λ y. HoldsAlso c.self.inside.rows y c.in_ok-rows.rows) c.in_ok-inner.ensures c.in_ok-rows.ensures))
