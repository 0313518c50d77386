use Rattle.egd_chase.proofs.ReplaceLemmas.{made_lesser, made_greater, made_first, made_second}
use Rattle.egd_chase.proofs.replacing.choice_of.Goals as goal
use Rattle.egd_chase.proofs.replacing.choice_of.Goals.{in-Piece-Piece+then-lesser, in-Piece-Piece+else-lesser, in-Piece-Const, in-Const-Piece}

pub returns : goal.returns
returns c = λ l r s values can.
    let store = c.args.store.now in
    let n = c.match-left.piece.0 in
    let chosen = c.match-left.piece.1 in
    let span = c.piece_span.result in
    elim c.match-left.branch [
      | in-Piece-Piece+then-lesser w ↦ made_lesser store l r s can c.args.left c.args.right values n chosen span c.piece_span.ensures
          c.is_kept.ensures w.in-Piece-Piece.a w.in-Piece-Piece.b w.in-Piece-Piece.is-0 w.in-Piece-Piece.is-1 w.lesser.result w.lesser.ensures
          w.if-lesser.true (λ i. (w.piece-is i).0) (λ i. (w.piece-is i).1)
      | in-Piece-Piece+else-lesser w ↦ made_greater store l r s can c.args.left c.args.right values n chosen span c.piece_span.ensures
          c.is_kept.ensures w.in-Piece-Piece.a w.in-Piece-Piece.b w.in-Piece-Piece.is-0 w.in-Piece-Piece.is-1 w.lesser.result w.lesser.ensures
          w.if-lesser.false (λ i. (w.piece-is i).0) (λ i. (w.piece-is i).1)
      | in-Piece-Const w ↦ made_first store l r s can c.args.left c.args.right values n chosen span c.piece_span.ensures
          c.is_kept.ensures w.in-Piece-Const.a w.in-Piece-Const.field-0-1 w.in-Piece-Const.is-0 w.in-Piece-Const.is-1
          (λ i. (w.piece-is i).0) (λ i. (w.piece-is i).1)
      | in-Const-Piece w ↦ made_second store l r s can c.args.left c.args.right values n chosen span c.piece_span.ensures
          c.is_kept.ensures w.in-Const-Piece.b w.in-Const-Piece.field-0-0 w.in-Const-Piece.is-0 w.in-Const-Piece.is-1
          (λ i. (w.piece-is i).0) (λ i. (w.piece-is i).1)
    ]
