use Rattle.std.proofs.Common.{map}
use Rattle.null_store.specs.declared.piece.ListedPiece.{ListedPiece}
use Rattle.null_store.proofs.ViewLemmas.{adds_one, lists_kept}
use Rattle.null_store.proofs.rows.LinkedRows.add_row.Goals as goal

pub invariant_of-self : goal.invariant_of-self
invariant_of-self c =
    lists_kept c.self.inside.arena c.add_row-row.new.self c.add_row-row.result c.args.relation c.args.span c.args.values.now
    c.add_row-row.ensures.adds c.is_kept.ensures c.is_kept-2.ensures (map (λ (p : ListedPiece). p.list) c.self.inside.pieces.items)
    c.requires.plain c.self.invariant

pub returns-clause-adds : goal.returns-clause-adds
returns-clause-adds c =
    rw (← c.self.view_is) (adds_one c.self.inside.arena c.add_row-row.new.self c.add_row-row.result c.args.relation c.args.span
    c.args.values.now c.add_row-row.ensures.adds c.is_kept.ensures c.is_kept-2.ensures)
