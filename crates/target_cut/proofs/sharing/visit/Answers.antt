use Rattle.std.proofs.Common.{◌≡◌, ℕ, ◌+◌, Some, List, sym, ap, ◌∙◌, true}
use Rattle.std.specs.Prelude.{nat_eq}
use Rattle.std.specs.List.{list_any}
use Rattle.term_core.specs.declared.term.Seen.TheVariants.{Piece}
use Rattle.target_cut.proofs.SearchLemmas.{inserts_one, number_found}
use Rattle.target_cut.proofs.VisitLemmas.{live_in, visits_const, visits_known, visits_new, visits_all, visits_same, was_there}
use Rattle.target_cut.proofs.sharing.visit.Goals as goal
use Rattle.target_cut.proofs.sharing.visit.Goals.{in-Piece+in_ok-insert+then-branch+in_ok-walk, in-Piece+in_ok-insert+else-branch, in_default}

pub walk-requires : goal.walk-requires
walk-requires g c = live_in c.args.store.now c.is_kept.ensures c.args.row c.loop-column.column c.in-Piece.piece
    (c.cell.ensures.value ∙ ap Some c.in-Piece.is)

pub loop-column-preserved : goal.loop-column-preserved
loop-column-preserved g c =
    let store = c.args.store.now in
    let row : ℕ = c.args.row in
    let column : ℕ = c.loop-column.column in
    let old : List ℕ = c.args.rows.now.keys in
    let walked : List ℕ = c.args.pieces.now.keys in
    let new : List ℕ = c.loop-column.rows.keys in
    let later : List ℕ = c.loop-column.pieces.keys in
    let same = visits_same store row old walked (column + 1) in
    let below = c.loop-column.invariant in
    elim c.match-cell.branch [
      | in-Piece+in_ok-insert+then-branch+in_ok-walk w ↦
          let p : ℕ = w.in-Piece.piece in
          let cell = c.cell.ensures.value ∙ ap Some w.in-Piece.is in
          let more : List ℕ = w.insert.new.self.keys in
          let rows : c.match-cell.rows.keys ≡ w.walk.new.rows.keys = cc in
          let pieces : c.match-cell.pieces.keys ≡ more = cc in
          same w.walk.new.rows.keys more c.match-cell.rows.keys c.match-cell.pieces.keys rows pieces
          (visits_new store row old walked column new later below p cell more (inserts_one later p more w.in_ok-insert.ensures.keys)
          w.walk.new.rows.keys w.in_ok-walk.ensures)
      | in-Piece+in_ok-insert+else-branch w ↦
          let p : ℕ = w.in-Piece.piece in
          let cell = c.cell.ensures.value ∙ ap Some w.in-Piece.is in
          let more : List ℕ = w.insert.new.self.keys in
          let rows : c.match-cell.rows.keys ≡ new = cc in
          let pieces : c.match-cell.pieces.keys ≡ more = cc in
          let known : list_any (nat_eq p) later ≡ true = was_there _ _ w.in_ok-insert.ensures.added w.if-branch.false in
          same new more c.match-cell.rows.keys c.match-cell.pieces.keys rows pieces
          (visits_known store row old walked column new later below p cell more (inserts_one later p more w.in_ok-insert.ensures.keys)
          (number_found later p known))
      | in_default w ↦
          let rows : c.match-cell.rows.keys ≡ new = cc in
          let pieces : c.match-cell.pieces.keys ≡ later = cc in
          same new later c.match-cell.rows.keys c.match-cell.pieces.keys rows pieces
          (visits_const store row old walked column new later below (λ p e.
          let both : Some c.cell.result ≡ Some (Piece p) = sym c.cell.ensures.value ∙ e in
          let it : c.cell.result ≡ Piece p = cc in
          w.in_default.not-Piece p it))
    ]

pub returns : goal.returns
returns g c = visits_all c.args.store.now c.args.row c.args.rows.now.keys c.args.pieces.now.keys c.unwrap-head.result
    (sym c.head.ensures ∙ c.unwrap-head.ensures) c.loop-column.column c.loop-column.rows.keys c.loop-column.pieces.keys
    c.loop-column-test.false c.loop-column.invariant
