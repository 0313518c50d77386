-- The names so far are those of the row so far, with the unknown replaced.
use Rattle.std.proofs.Common.{◌≡◌, map, take}
use Rattle.rule_core.specs.Homomorphism.{term_image}
use Rattle.failure_trace.specs.Equating.{becomes}
use Rattle.failure_trace.specs.TraceRun.{text_cmp}
use Rattle.trace_checker.specs.Names.{term_named}
use Rattle.trace_checker.specs.States.{replacement}
use Rattle.trace_checker.proofs.row.replaced_row.Given as goal

abbrev pub invariant-loop-name : goal.invariant-loop-name
invariant-loop-name l =
    map term_named l.names.items ≡ map (λ n. term_image (becomes text_cmp (replacement l.gone l.by)) (term_named n)) (take l.name-index l.before)
