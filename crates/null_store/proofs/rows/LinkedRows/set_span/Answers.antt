use Rattle.std.proofs.Common.{map, sym, subst}
use Rattle.std.specs.Prelude.{IsSome}
use Rattle.fact_table.specs.Rows.{row_at}
use Rattle.null_store.specs.declared.piece.ListedPiece.{ListedPiece}
use Rattle.null_store.specs.Lists.{rows_seen}
use Rattle.null_store.specs.Layout.{LinkedArena}
use Rattle.null_store.proofs.ViewLemmas.{has_row, span_listed, sets_row_span}
use Rattle.null_store.proofs.rows.LinkedRows.set_span.Goals as goal

pub set_span-requires : goal.set_span-requires
set_span-requires c = has_row c.self.inside.arena c.args.row
    (subst (λ (h : LinkedArena). IsSome (row_at (rows_seen h.arena) c.args.row)) (sym c.self.view_is) c.requires)

pub invariant_of-self : goal.invariant_of-self
invariant_of-self c = span_listed c.self.inside.arena c.set_span.new.self c.args.row c.args.span c.set_span.ensures
    (map (λ (p : ListedPiece). p.list) c.self.inside.pieces.items) c.self.invariant

pub returns-clause-sets : goal.returns-clause-sets
returns-clause-sets c = rw (← c.self.view_is)
    (sets_row_span c.self.inside.arena c.set_span.new.self c.args.row c.args.span c.set_span.ensures)
