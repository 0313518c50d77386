use Rattle.std.proofs.Common.{◌≡◌, ◌≢◌, ◌+◌, List, [], length, get_or, refl, subst, sym, ap, ◌∙◌, arith}
use Rattle.std.proofs.lemmas.Bool.{false≢true}
use Rattle.std.proofs.lemmas.List.{append-nil, get_or-set_other, length_push, length-append}
use Rattle.term_core.specs.declared.term.Seen.{Seen}
use Rattle.term_core.specs.declared.term.Seen.TheVariants.{Piece}
use Rattle.rule_core.specs.declared.rules.Atom.{Atom}
use Rattle.rule_core.specs.Frontier.{Occurs}
use Rattle.null_store.specs.Layout.{AddsPieces, piece_for}
use Rattle.null_store.proofs.PieceLemmas.{pieces_none, pieces_go_on, pieces_skipped}
use Rattle.null_store.proofs.firing.add_pieces.Goals as goal
use Rattle.null_store.proofs.firing.add_pieces.Goals.{then-occurs, else-occurs}

pub loop-variable-init : goal.loop-variable-init
loop-variable-init c =
    let tgd = c.args.tgd.now in
    record {
      pieces = (
        [],
        sym (append-nil c.args.rows.now.pieces),
        pieces_none tgd c.args.name c.args.span c.args.rows.now.pieces c.args.values.now tgd.body_vars (omega arith),
      );
      size = c.told-values;
      others = λ v l. refl;
      arena = refl;
      room = refl;
    }

pub add_piece-requires : goal.add_piece-requires
add_piece-requires c =
    let before = c.loop-variable.invariant in
    let more = before.pieces in
    omega (
      arith,
      before.room,
      ap length more.1,
      length-append c.args.rows.now.pieces more.0,
      more.2.few,
      c.loop-variable-test.true,
      c.len-variable-end.ensures,
      c.requires.room,
      c.loop-variable.auto.variable,
    )

pub loop-variable-preserved : goal.loop-variable-preserved
loop-variable-preserved c =
    let tgd = c.args.tgd.now in
    let old = c.args.rows.now.pieces in
    let v = c.loop-variable.variable in
    let before = c.loop-variable.invariant in
    let more = before.pieces in
    elim c.if-occurs.branch [
      | then-occurs w ↦
          let occurs = subst (λ (head : List Atom). Occurs head v) c.as_slice.ensures (c.occurs.ensures.0 w.if-occurs.true) in
          let exists = c.loop-variable.auto.variable in
          record {
            pieces = pieces_go_on tgd c.args.name c.args.span old more.0 c.loop-variable.rows.pieces c.if-occurs.rows.pieces
                c.loop-variable.values c.if-occurs.values v w.len.result exists
                (omega (arith, before.size, c.requires.few, c.loop-variable-test.true, c.len-variable-end.ensures)) occurs more.2 more.1
                w.len.ensures ((λ i. (w.rows-is i).pieces) ∙ w.add_piece.ensures.pieces)
                w.values-is;
            size = c.if-occurs.array_long;
            others = λ u l. let other : u ≢ v = omega (arith, l, exists) in
                ap (λ (vs : List Seen). get_or vs u (Piece 0)) w.values-is
                ∙ get_or-set_other c.loop-variable.values v u (Piece w.len.result) (Piece 0) other ∙ before.others u l;
            arena = (λ i. (w.rows-is i).arena) ∙ w.add_piece.ensures.arena ∙ before.arena;
            room = (λ i. (w.rows-is i).room + length (w.rows-is i).pieces) ∙ omega (
              arith,
              w.add_piece.ensures.room,
              before.room,
              ap length w.add_piece.ensures.pieces,
              length_push c.loop-variable.rows.pieces (piece_for tgd c.args.name c.args.span v),
            );
          }
      | else-occurs w ↦
          let none : ¬ (Occurs tgd.head v) = λ o. false≢true (sym w.if-occurs.false ∙ c.occurs.ensures.1
          (subst (λ (head : List Atom). Occurs head v) (sym c.as_slice.ensures) o)) in
          record {
            pieces = (
              more.0,
              (λ i. (w.rows-is i).pieces) ∙ more.1,
              subst (λ (vs : List Seen). AddsPieces tgd c.args.name c.args.span old more.0 vs (v + 1)) (sym w.values-is)
                  (pieces_skipped tgd c.args.name c.args.span old more.0 c.loop-variable.values v c.loop-variable.auto.variable more.2
                  none),
            );
            size = c.if-occurs.array_long;
            others = λ u l. ap (λ (vs : List Seen). get_or vs u (Piece 0)) w.values-is ∙ before.others u l;
            arena = (λ i. (w.rows-is i).arena) ∙ before.arena;
            room = (λ i. (w.rows-is i).room + length (w.rows-is i).pieces) ∙ before.room;
          }
    ]

pub returns-clause-pieces : goal.returns-clause-pieces
returns-clause-pieces c =
    let last : c.loop-variable.variable ≡ length c.args.tgd.now.vars = omega arith in
    let more = c.loop-variable.invariant.pieces in (
      more.0,
      more.1,
      subst (AddsPieces c.args.tgd.now c.args.name c.args.span c.args.rows.now.pieces more.0 c.loop-variable.values) last more.2,
    )
