use Rattle.std.proofs.Common.{◌≡◌, ◌∙◌, ℕ, ℤ, Some, List, ap, sym, subst, inl, Contains, slice_get, to_z, of_z, w64}
use Rattle.std.proofs.lemmas.Int.{to_z-of_z}
use Rattle.time_line.specs.Span.{IsInside, IsWithinLimit}
use Rattle.fact_table.specs.Rows.{SeenRow, row_at}
use Rattle.null_store.specs.Splits.{AreOnce}
use Rattle.target_cut.proofs.ComponentLemmas.{once}
use Rattle.egd_chase.specs.declared.sides.Side.{Side}
use Rattle.egd_chase.proofs.SideLemmas.{one_row}
use Rattle.egd_chase.proofs.CuttingLemmas.{on_ok, some_is, is_side, started, starts, start_keeps}
use Rattle.egd_chase.proofs.cutting.Cutting.cut_start.Goals as goal

pub copied-self-requires-clause-once : goal.copied-self-requires-clause-once
copied-self-requires-clause-once g c =
    let was = c.requires.cuts.3 in
    subst AreOnce (sym c.as_slice-rows.ensures)
    (once c.args.store.now c.is_kept.ensures c.args.self.now.own.row was.own_held.row was.own_held.there c.in_ok-cut.cut.rows
    c.in_ok-cut.ensures.cuts.component)

pub copied-self-requires-2-clause-once : goal.copied-self-requires-2-clause-once
copied-self-requires-2-clause-once g c =
    let was = c.requires.cuts.3 in
    subst AreOnce (sym c.as_slice-rows.ensures)
    (once c.args.store.now c.is_kept.ensures c.args.self.now.own.row was.own_held.row was.own_held.there c.in_ok-cut.cut.rows
    c.in_ok-cut.ensures.cuts.component)

pub returns : goal.returns
returns g c =
    let m : ℤ = c.args.m in
    let z : ℤ = to_z w64 (of_z w64 m) in
    let same : z ≡ m = to_z-of_z w64 m c.ranges.m in
    let old = c.args.store.now in
    let new = c.cut_piece.new.store in
    let work = c.args.self.now in
    let cut = c.in_ok-cut.cut in
    let later = c.note.new.self in
    let start : c.args.span.lo ≡ Some z = c.requires.end ∙ ap Some (sym same) in
    let limit : IsWithinLimit (Some z) = subst IsWithinLimit start c.is_kept-2.ensures.start in
    record {
      cuts = λ own other first was unknown.
          let at = some_is (λ (r : SeenRow). IsInside r.span z) (row_at old.rows work.own.row)
          (c.is_inside.ensures.0 c.if-not-is_inside.false) in
          let inside : IsInside was.own_held.row.span z =
          subst (λ (r : SeenRow). IsInside r.span z) (one_row (row_at old.rows work.own.row) at.0 was.own_held.row at.1 was.own_held.there) at.2 in
          let is = c.in_ok-cut.ensures.cuts in
          let cuts = c.in_ok-cut.ensures.journal own c.args.span
          (is_side own other c.args.span first old new c.is_kept.ensures work was z inside limit cut is unknown (inl start)) in
          let own_copy : (k : ℕ) → slice_get cut.rows k ≡ Some work.own.row → slice_get cut.made k ≡ Some c.copied-self.result.row =
          λ k e. subst (λ (l : List ℕ). slice_get l k ≡ Some c.copied-self.result.row) c.as_slice-copies.ensures
          (c.copied-self.ensures.copy k (subst (λ (l : List ℕ). slice_get l k ≡ Some work.own.row) (sym c.as_slice-rows.ensures) e)) in
          let other_copy : (k : ℕ) → slice_get cut.rows k ≡ Some work.other.row → slice_get cut.made k ≡ Some c.copied-self-2.result.row =
          λ k e. subst (λ (l : List ℕ). slice_get l k ≡ Some c.copied-self-2.result.row) c.as_slice-copies.ensures
          (c.copied-self-2.ensures.copy k (subst (λ (l : List ℕ). slice_get l k ≡ Some work.other.row) (sym c.as_slice-rows.ensures) e)) in
          let other_stays : ¬ (Contains cut.rows work.other.row) → c.copied-self-2.result.row ≡ work.other.row =
          λ out. c.copied-self-2.ensures.other (λ there. out (subst (λ (l : List ℕ). Contains l work.other.row) c.as_slice-rows.ensures there)) in
          on_ok c.note.result c.note.ensures.own c.note.ensures.other c.note.ensures.notes c.note.ensures.made
          (λ own_is other_is notes made.
          let own_column : later.own.column ≡ work.own.column = ap (λ (s : Side). s.column) own_is ∙ c.copied-self.ensures.column in
          let other_column : later.other.column ≡ work.other.column = ap (λ (s : Side). s.column) other_is ∙ c.copied-self-2.ensures.column in
          let own_copied : (k : ℕ) → slice_get cut.rows k ≡ Some work.own.row → slice_get cut.made k ≡ Some later.own.row =
          λ k e. own_copy k e ∙ ap (λ (s : Side). Some s.row) (sym own_is) in
          let other_copied : (k : ℕ) → slice_get cut.rows k ≡ Some work.other.row → slice_get cut.made k ≡ Some later.other.row =
          λ k e. other_copy k e ∙ ap (λ (s : Side). Some s.row) (sym other_is) in
          let stays : ¬ (Contains cut.rows work.other.row) → later.other.row ≡ work.other.row =
          λ out. ap (λ (s : Side). s.row) other_is ∙ other_stays out in (
            started own other c.args.span first old new c.is_kept.ensures work was z inside limit cut is start later own_column own_copied
                other_column other_copied stays notes made cuts,
            starts own other c.args.span first old new c.is_kept.ensures work was z inside limit cut is start later own_column own_copied
                other_column other_copied stays notes made cuts,
            start_keeps own other c.args.span first old new c.is_kept.ensures work was z inside limit cut is start later own_column own_copied
                other_column other_copied stays notes made cuts,
          ));
    }
