use Rattle.std.proofs.Common.{◌∙◌, map, ap}
use Rattle.std.proofs.lemmas.List.{take_all}
use Rattle.rule_core.specs.Match.{value}
use Rattle.failure_trace.specs.Equating.{bound_to}
use Rattle.failure_trace.specs.Trace.{terms_in}
use Rattle.failure_trace.specs.Projected.{pool_text}
use Rattle.trace_checker.specs.Names.{term_named}
use Rattle.trace_checker.proofs.NameLemmas.{map_pushed_at}
use Rattle.trace_checker.proofs.name.image_names.Goals as goal

pub loop-arg-preserved : goal.loop-arg-preserved
loop-arg-preserved c =
    let g = value (pool_text c.args.pool.now) (bound_to (terms_in c.args.binding.now)) in
    map_pushed_at term_named g c.as_slice-args.result.now c.loop-arg.arg-index _ c.loop-arg-test.true
    c.loop-arg.names.items c.push.new.self.items c.name_of.result c.loop-arg.invariant c.in_ok-push.ensures.items c.name_of.ensures

pub returns : goal.returns
returns c =
    let g = value (pool_text c.args.pool.now) (bound_to (terms_in c.args.binding.now)) in
    c.loop-arg.invariant ∙ ap (map g) (take_all c.loop-arg.arg-index c.as_slice-args.result.now c.loop-arg-test.false ∙ c.as_slice-args.ensures)
