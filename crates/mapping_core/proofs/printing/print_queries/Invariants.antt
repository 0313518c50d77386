use Rattle.std.proofs.Common.{◌≡◌, take}
use Rattle.std.specs.List.{flat_map}
use Rattle.rule_text.specs.Canonical.{rule_text}
use Rattle.rule_text.specs.declared.rule.Rule.TheVariants as lines
use Rattle.mapping_core.proofs.printing.print_queries.Given as goal

abbrev pub invariant-loop-query : goal.invariant-loop-query
invariant-loop-query l = l.text ≡ flat_map (λ query. rule_text l.rules l.pool (lines.Query query)) (take l.query-index l.queries)
