use Rattle.std.proofs.Common.{[], sym, ap, ◌∙◌}
use Rattle.std.proofs.lemmas.Option.{get_or_from_slice_get}
use Rattle.std.proofs.lemmas.Result.{IfOk-weaker}
use Rattle.decl_text.specs.Quotes.{IsQuoted}
use Rattle.decl_text.specs.Canonical.{quoted_text}
use Rattle.decl_text.proofs.WrittenLemmas.{quoted_text_is}
use Rattle.rule_text.specs.Canonical.{argument_text}
use Rattle.rule_text.proofs.printing.print_argument.Goals as goal

pub returns-in-Const : goal.returns-in-Const
returns-in-Const c =
    let found = get_or_from_slice_get c.args.pool.now c.in-Const.c.0 c.text.result.now [] c.text.ensures in
    IfOk-weaker c.print_quoted.result (λ quoted. IsQuoted quoted c.text.result.now) _
    (λ quoted is. quoted_text_is quoted c.text.result.now is ∙ ap quoted_text (sym found)
    ∙ ap (argument_text c.args.pool.now c.args.vars.now) (sym c.in-Const.is)) c.print_quoted.ensures
