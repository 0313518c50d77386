use Rattle.std.proofs.Common.{rules, ◌≡◌, None, ◌∙◌, sym, ap}
use Rattle.std.specs.Option.{option_copied}
use Rattle.row_arena.proofs.SoundLemmas.{seen_head, seen_none}
use Rattle.row_arena.proofs.arena.RowArena.head.Goals as goal

pub returns-in_err-held : goal.returns-in_err-held
returns-in_err-held c =
    let inside = c.self.inside in
    let none : c.from_residual.result ≡ None = search rules in
    rw (← c.self.view_is) (none ∙ seen_none inside.rows inside.bound inside.cells c.self.invariant c.args.row
    (sym c.get.ensures ∙ ap option_copied c.in_err-held.was))

pub returns : goal.returns
returns c =
    let inside = c.self.inside in
    rw (← c.self.view_is) (seen_head inside.rows inside.bound inside.cells c.self.invariant c.args.row c.in_ok-held.held.now
    (sym c.get.ensures ∙ ap option_copied c.in_ok-held.was))
