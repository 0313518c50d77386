-- The names so far are those of the row so far, over inner numbers.
use Rattle.std.proofs.Common.{◌≡◌, map, take}
use Rattle.rule_core.specs.Homomorphism.{term_image}
use Rattle.trace_checker.specs.Names.{term_named}
use Rattle.trace_checker.specs.Numbered.{other_number, inward}
use Rattle.trace_checker.proofs.numbers.Numbers.inner_row.Given as goal

abbrev pub invariant-loop-name : goal.invariant-loop-name
invariant-loop-name l =
    map term_named l.names.items ≡ map (λ n. term_image (other_number (inward l.self)) (term_named n)) (take l.name-index l.before)
