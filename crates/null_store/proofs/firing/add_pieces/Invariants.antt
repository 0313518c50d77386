-- There is a new piece for each `exists` variable so far that the head has, and the values of the frontier stay.
use Rattle.std.proofs.Common.{◌≡◌, ℕ, ◌+◌, ◌<◌, List, ◌++◌, length, get_or}
use Rattle.term_core.specs.declared.term.Seen.TheVariants.{Piece}
use Rattle.null_store.specs.declared.piece.NamedPiece.{NamedPiece}
use Rattle.null_store.specs.declared.firing.TheConstants.{MOST_VARIABLES}
use Rattle.null_store.specs.Layout.{AddsPieces}
use Rattle.null_store.proofs.firing.add_pieces.Given as goal

abbrev pub invariant-loop-variable : goal.invariant-loop-variable
invariant-loop-variable l = record {
  pieces : (more : List NamedPiece) × (l.rows.pieces ≡ l.fn.rows.pieces ++ more)
      × AddsPieces l.tgd l.name l.span l.fn.rows.pieces more l.values l.variable;
  size : length l.values ≡ MOST_VARIABLES;
  others : (v : ℕ) → v < l.tgd.body_vars → get_or l.values v (Piece 0) ≡ get_or l.fn.values v (Piece 0);
  arena : l.rows.arena ≡ l.fn.rows.arena;
  room : l.rows.room + length l.rows.pieces ≡ l.fn.rows.room + length l.fn.rows.pieces;
}
