-- The facts so far are the old ones and the images of the atoms so far.
use Rattle.std.proofs.Common.{◌++◌, map, take}
use Rattle.rule_core.specs.Match.{image}
use Rattle.rule_core.specs.Renaming.{HoldTheSame}
use Rattle.failure_trace.specs.Equating.{bound_to}
use Rattle.failure_trace.specs.Trace.{terms_in}
use Rattle.failure_trace.specs.Projected.{pool_text}
use Rattle.trace_checker.proofs.facts.with_images.Given as goal

abbrev pub invariant-loop-atom : goal.invariant-loop-atom
invariant-loop-atom l =
    HoldTheSame l.after (l.fn.facts ++ map (image (pool_text l.pool) (bound_to (terms_in l.binding))) (take l.atom-index l.atoms))
