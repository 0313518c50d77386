use Rattle.std.proofs.Common.{◌≡◌, take}
use Rattle.std.specs.List.{flat_map}
use Rattle.rule_text.specs.Canonical.{rule_text}
use Rattle.rule_text.specs.declared.rule.Rule.TheVariants as lines
use Rattle.mapping_core.proofs.printing.print_tgds.Given as goal

abbrev pub invariant-loop-tgd : goal.invariant-loop-tgd
invariant-loop-tgd l = l.text ≡ flat_map (λ tgd. rule_text l.rules l.pool (lines.Tgd tgd)) (take l.tgd-index l.tgds)
