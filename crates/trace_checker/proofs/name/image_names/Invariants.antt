-- The names so far are those of the arguments so far.
use Rattle.std.proofs.Common.{◌≡◌, map, take}
use Rattle.rule_core.specs.Match.{value}
use Rattle.failure_trace.specs.Equating.{bound_to}
use Rattle.failure_trace.specs.Trace.{terms_in}
use Rattle.failure_trace.specs.Projected.{pool_text}
use Rattle.trace_checker.specs.Names.{term_named}
use Rattle.trace_checker.proofs.name.image_names.Given as goal

abbrev pub invariant-loop-arg : goal.invariant-loop-arg
invariant-loop-arg l = map term_named l.names.items ≡ map (value (pool_text l.pool) (bound_to (terms_in l.binding))) (take l.arg-index l.args)
