use Rattle.std.proofs.Common.{◌≡◌, ◌≤ℤ◌, ◌<◌, ℤ, length, get_or, sym, ap, ◌∙◌, subst}
use Rattle.std.proofs.lemmas.List.Elements.{Contains-get_or}
use Rattle.fact_table.specs.declared.fact.RowHead.{RowHead}
use Rattle.fact_table.specs.Rows.{SeenRow, row_at}
use Rattle.body_match.specs.declared.lookup.Entry.{Entry}
use Rattle.body_match.specs.Keys.{start_number, stop_number}
use lib.Signed.{≤ℤ_refl}
use Rattle.time_line.specs.Span.{Ends, IsSpan}
use Rattle.body_match.proofs.SearchLemmas.{and_some, same_some, row_from_head}
use Rattle.body_match.proofs.levels.entry_for.Goals as goal

pub row_key-key-requires : goal.row_key-key-requires
row_key-key-requires g c = λ k d l.
    let rows = g.F.FactSource.rows c.args.source.now in
    let row = row_from_head rows c.args.row c.in_ok-head.head (sym c.in_ok-head.ensures) in
    let form = c.has_form.ensures.0 c.if-not-has_form.false in
    let column = get_or c.args.columns.now k d in
    let arity : length c.args.atom.now.args ≡ length row.0.cells = sym (ap (λ (h : RowHead). h.arity) row.2 ∙ form.1) in
    and_some (λ (r : SeenRow). column < length r.cells) (row_at rows c.args.row) row.0 row.1
    (subst (λ n. column < n) arity (c.requires column (Contains-get_or c.args.columns.now k d l)))

pub returns-clause-some : goal.returns-clause-some
returns-clause-some g c = λ seen form.
    let rows = g.F.FactSource.rows c.args.source.now in
    let row = row_from_head rows c.args.row c.in_ok-head.head (sym c.in_ok-head.ensures) in
    let same : row.0 ≡ seen = same_some (row_at rows c.args.row) row.0 seen row.1 form.there in
    let span : c.in_ok-head.head.span ≡ seen.span =
    ap (λ (h : RowHead). h.span) (sym row.2) ∙ ap (λ (r : SeenRow). r.span) same in
    let entry : Entry = c.entry_of.result in
    let from : entry.from ≡ start_number seen.span.lo = c.entry_of.ensures.from ∙ ap (λ (s : Ends). start_number s.lo) span in
    let to : entry.to ≡ stop_number seen.span.hi = c.entry_of.ensures.to ∙ ap (λ (s : Ends). stop_number s.hi) span in
    record {
      row = c.entry_of.ensures.row;
      key = c.entry_of.ensures.key ∙ c.row_key-key.ensures;
      from = subst (λ (x : ℤ). entry.from ≤ℤ x) from (≤ℤ_refl entry.from);
      to = subst (λ (x : ℤ). x ≤ℤ entry.to) to (≤ℤ_refl entry.to);
      span = subst IsSpan span c.entry_of.ensures.span;
    }
