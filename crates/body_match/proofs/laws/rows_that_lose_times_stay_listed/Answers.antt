use Rattle.std.proofs.Common.{◌≡◌, ℤ, ◌≤ℤ◌, Some, length, sym, ap, ◌∙◌, subst, arith}
use Rattle.std.specs.Prelude.{slice_get}
use Rattle.std.proofs.lemmas.Int.{ints}
use Rattle.time_line.specs.Span.{Has, IsSpan}
use Rattle.fact_table.specs.Rows.{SeenRow, row_at, cell_at}
use Rattle.body_match.specs.Index.{IsNoMore}
use Rattle.body_match.specs.Keys.{start_number, stop_number}
use Rattle.body_match.proofs.EndsLemmas.{starts_no_earlier, stops_no_later}
use Rattle.body_match.proofs.KeyLemmas.{key_same}
use Rattle.body_match.proofs.SearchLemmas.{some_and, cell_from_row}
use Rattle.body_match.proofs.laws.rows_that_lose_times_stay_listed.Goals as goal

not_after : (a b c : ℤ) → a ≤ℤ b → b ≤ℤ c → a ≤ℤ c
not_after a b c p q = omega (arith, ints)

pub returns : goal.returns
returns c = λ index old new number listed more k d l before atom level some e f row form.
    let still : IsNoMore (row_at old number) (Some row) = subst (IsNoMore (row_at old number)) form.there more in
    let was = some_and (λ (was : SeenRow). (row.relation ≡ was.relation) × (row.cells ≡ was.cells) × IsSpan row.span
    × ((t : ℤ) → Has row.span t → Has was.span t)) (row_at old number) still in
    let same : row.cells ≡ was.0.cells = was.2.1 in
    let h = listed k d l before atom level some e f was.0 (record {
      there = was.1;
      relation = sym was.2.0 ∙ form.relation;
      arity = ap length (sym same) ∙ form.arity;
    }) in (
      h.0,
      h.1,
      record {
        row = h.2.row;
        key = h.2.key ∙ key_same (cell_at old number) (cell_at new number) level.columns.items (λ column x.
            cell_from_row old number column was.0 was.1 ∙ ap (λ cells. slice_get cells column) (sym same)
            ∙ sym (cell_from_row new number column row form.there));
        from = not_after h.0.from (start_number was.0.span.lo) (start_number row.span.lo) h.2.from
            (starts_no_earlier row.span was.0.span was.2.2 was.2.3);
        to = not_after (stop_number row.span.hi) (stop_number was.0.span.hi) h.0.to (stops_no_later row.span was.0.span was.2.2 was.2.3) h.2.to;
        span = was.2.2;
      },
    )
