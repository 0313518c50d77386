use Rattle.std.proofs.Common.{sym, ◌∙◌}
use Rattle.std.specs.Option.{option_map}
use Rattle.std.proofs.lemmas.List.{length-map}
use Rattle.row_arena.specs.Arena.{cell_in}
use Rattle.null_store.specs.Lists.{seen_in}
use Rattle.null_store.proofs.rows.LinkedRows.bound.Goals as goal

pub returns : goal.returns
returns c = rw (← c.self.view_is) (c.bound.ensures ∙ sym (length-map c.self.inside.arena.rows (option_map (seen_in (cell_in c.self.inside.arena)))))
