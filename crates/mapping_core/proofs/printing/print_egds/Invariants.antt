use Rattle.std.proofs.Common.{◌≡◌, take}
use Rattle.std.specs.List.{flat_map}
use Rattle.rule_text.specs.Canonical.{rule_text}
use Rattle.rule_text.specs.declared.rule.Rule.TheVariants as lines
use Rattle.mapping_core.proofs.printing.print_egds.Given as goal

abbrev pub invariant-loop-egd : goal.invariant-loop-egd
invariant-loop-egd l = l.text ≡ flat_map (λ egd. rule_text l.rules l.pool (lines.Egd egd)) (take l.egd-index l.egds)
