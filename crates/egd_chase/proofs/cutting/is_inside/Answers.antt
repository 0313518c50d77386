use Rattle.std.proofs.Common.{◌≡◌, ◌∙◌, ℤ, ap, sym, subst, to_z, of_z, w64}
use Rattle.std.proofs.lemmas.Int.{to_z-of_z}
use Rattle.std.specs.Prelude.{Some}
use Rattle.fact_table.specs.declared.fact.RowHead.{RowHead}
use Rattle.egd_chase.proofs.SideLemmas.{one_row}
use Rattle.time_line.specs.Span.{IsInside, IsWithinLimit}
use Rattle.fact_table.specs.Rows.{SeenRow, row_at}
use Rattle.null_store.proofs.CopyLemmas.{head_found}
use Rattle.egd_chase.proofs.CuttingLemmas.{some_there, some_is, is_there}
use Rattle.egd_chase.proofs.cutting.is_inside.Goals as goal

pub returns : goal.returns
returns c =
    let m : ℤ = c.args.m in
    let same : to_z w64 (of_z w64 m) ≡ m = to_z-of_z w64 m c.ranges.m in
    let rows = c.args.store.now.rows in
    let r = some_there (row_at rows c.args.row) c.requires.row in
    let head = head_found rows c.args.row r.0 c.head.result c.unwrap-head.result c.head.ensures c.unwrap-head.ensures r.1 in
    let span : c.unwrap-head.result.span ≡ r.0.span = ap (λ (h : RowHead). h.span) head in (
      λ yes. is_there (λ (row : SeenRow). IsInside row.span m) (row_at rows c.args.row) r.0 r.1
          (subst (λ s. IsInside s m) span (subst (λ (z : ℤ). IsInside c.unwrap-head.result.span z) same
          (c.cut.ensures.none_only.0 (sym c.is_some.ensures ∙ yes)).0)),
      λ h.
          let k = some_is (λ (row : SeenRow). IsInside row.span m) (row_at rows c.args.row) h in
          let one = one_row (row_at rows c.args.row) k.0 r.0 k.1 r.1 in
          let inside : IsInside c.unwrap-head.result.span m =
          subst (λ s. IsInside s m) (sym span) (subst (λ (row : SeenRow). IsInside row.span m) one k.2) in
          let limit : IsWithinLimit (Some m) = c.requires.limit in
          c.is_some.ensures ∙ c.cut.ensures.none_only.1 (
            subst (λ (z : ℤ). IsInside c.unwrap-head.result.span z) (sym same) inside,
            subst (λ (z : ℤ). IsWithinLimit (Some z)) (sym same) limit,
          ),
    )
