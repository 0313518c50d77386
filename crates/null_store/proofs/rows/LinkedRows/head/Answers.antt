use Rattle.std.proofs.Common.{sym, ◌∙◌}
use Rattle.null_store.proofs.ViewLemmas.{head_seen}
use Rattle.null_store.proofs.rows.LinkedRows.head.Goals as goal

pub returns : goal.returns
returns c =
    rw (← c.self.view_is) (sym (head_seen c.self.inside.arena c.args.row c.in_ok-head.head (sym c.in_ok-head.was ∙ c.head.ensures)))
