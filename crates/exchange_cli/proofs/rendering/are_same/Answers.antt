-- Unknowns that come at one place of the order are one.
use Rattle.std.proofs.Common.{sym, ◌∙◌}
use Rattle.exchange_cli.proofs.RenderingLemmas.{is_eq-Equal}
use Rattle.exchange_cli.proofs.rendering.are_same.Goals as goal

pub returns : goal.returns
returns c same =
    let tied = is_eq-Equal c.cmp.result (sym c.is_eq.ensures ∙ same) in
    c.unknowns_have_one_order.ensures.apart c.args.unknown.now c.args.other.now
    (sym (c.unknowns_have_one_order.ensures.same c.args.unknown.now c.args.other.now) ∙ sym c.cmp.ensures ∙ tied)
