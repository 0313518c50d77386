use Rattle.std.proofs.Common.{◌≡◌, map, take}
use Rattle.rule_text.specs.Canonical.{argument_text}
use Rattle.rule_text.proofs.printing.print_arguments.Given as goal

abbrev pub invariant-loop-argument : goal.invariant-loop-argument
invariant-loop-argument l = l.texts ≡ map (argument_text l.pool l.vars) (take l.argument-index l.arguments)
