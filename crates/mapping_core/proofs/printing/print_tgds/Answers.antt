use Rattle.std.proofs.Common.{sym, subst}
use Rattle.std.specs.Prelude.{⊤}
use Rattle.rule_text.specs.declared.rule.Rule.TheVariants.{Tgd}
use Rattle.rule_text.specs.Constants.{HasTexts}
use Rattle.mapping_core.proofs.printing.print_tgds.Goals as goal

pub print_tgd-requires-clause-body : goal.print_tgd-requires-clause-body
print_tgd-requires-clause-body c =
    (subst (λ t. HasTexts c.args.pool.now (λ text. ⊤) (Tgd t)) (sym c.tgd-item.is)
    (c.requires.texts c.loop-tgd.tgd-index c.tgd-item.result c.loop-tgd-test.true)).0

pub print_tgd-requires-clause-head : goal.print_tgd-requires-clause-head
print_tgd-requires-clause-head c =
    (subst (λ t. HasTexts c.args.pool.now (λ text. ⊤) (Tgd t)) (sym c.tgd-item.is)
    (c.requires.texts c.loop-tgd.tgd-index c.tgd-item.result c.loop-tgd-test.true)).1
