use Rattle.std.proofs.Common.{◌≡◌, ◌∙◌, ℤ, Some, ap, sym, subst, inr, to_z, of_z, w64}
use Rattle.std.proofs.lemmas.Int.{to_z-of_z}
use Rattle.time_line.specs.Span.{IsInside, IsWithinLimit}
use Rattle.fact_table.specs.Rows.{SeenRow, row_at}
use Rattle.egd_chase.proofs.SideLemmas.{one_row}
use Rattle.egd_chase.proofs.CuttingLemmas.{on_ok, some_is, is_side, stopped, stops, stop_keeps}
use Rattle.egd_chase.proofs.cutting.Cutting.cut_stop.Goals as goal

pub returns : goal.returns
returns g c =
    let m : ℤ = c.args.m in
    let z : ℤ = to_z w64 (of_z w64 m) in
    let same : z ≡ m = to_z-of_z w64 m c.ranges.m in
    let old = c.args.store.now in
    let new = c.cut_piece.new.store in
    let work = c.args.self.now in
    let cut = c.in_ok-cut.cut in
    let later = c.note.new.self in
    let stop : c.args.span.hi ≡ Some z = c.requires.end ∙ ap Some (sym same) in
    let limit : IsWithinLimit (Some z) = subst IsWithinLimit stop c.is_kept-2.ensures.stop in
    record {
      cuts = λ own other first was unknown begun.
          let at = some_is (λ (r : SeenRow). IsInside r.span z) (row_at old.rows work.own.row)
          (c.is_inside.ensures.0 c.if-not-is_inside.false) in
          let inside : IsInside was.own_held.row.span z =
          subst (λ (r : SeenRow). IsInside r.span z) (one_row (row_at old.rows work.own.row) at.0 was.own_held.row at.1 was.own_held.there) at.2 in
          let is = c.in_ok-cut.ensures.cuts in
          let cuts = c.in_ok-cut.ensures.journal own c.args.span
          (is_side own other c.args.span first old new c.is_kept.ensures work was z inside limit cut is unknown (inr stop)) in
          on_ok c.note.result c.note.ensures.own c.note.ensures.other c.note.ensures.notes c.note.ensures.made
          (λ own_is other_is notes made. (
            stopped own other c.args.span first old new c.is_kept.ensures work was z inside limit cut is stop later own_is other_is notes made
                cuts,
            stops own other c.args.span first old new c.is_kept.ensures work was z inside limit cut is stop later own_is other_is notes made
                cuts begun,
            stop_keeps own other c.args.span first old new c.is_kept.ensures work was z inside limit cut is stop later own_is other_is notes
                made cuts,
          ));
    }
