use Rattle.std.proofs.Common.{◌≡◌, ◌<◌, ◌≤◌, ℕ, get_or, sym, ap, ◌∙◌, subst, ⊎_elim, arith}
use Rattle.std.specs.Prelude.{slice_get}
use Rattle.std.proofs.lemmas.Bool.{cases_lt}
use Rattle.std.proofs.lemmas.Option.{slice_get-get_or}
use Rattle.body_match.specs.Keys.{ListsOne}
use Rattle.body_match.proofs.ListLemmas.{within_from_at, at_from_contains}
use Rattle.body_match.proofs.SearchLemmas.{same_some}
use Rattle.body_match.proofs.levels.entries_among.Goals as goal

pub loop-row-preserved : goal.loop-row-preserved
loop-row-preserved g c = λ k number l e.
    let rows = g.F.FactSource.rows c.args.source.now in
    let at = c.loop-row.row-index in
    let read = slice_get-get_or c.args.rows.now at 0 c.loop-row-test.true in
    ⊎_elim
    (λ (before : k < at). λ seen form.
    let h = c.loop-row.invariant k number before e seen form in (h.0, c.in_ok-add_row.ensures.kept h.0 h.1, h.2))
    (λ (not : at ≤ k).
    let same : k ≡ at = omega (arith, l, not) in
    subst (λ (n : ℕ). ListsOne rows c.args.atom.now c.args.columns.now n c.add_row.new.entries.items)
    (same_some (slice_get c.args.rows.now at) (get_or c.args.rows.now at 0) number read (ap (slice_get c.args.rows.now) (sym same) ∙ e))
    c.in_ok-add_row.ensures.listed)
    (cases_lt k at)

pub returns : goal.returns
returns g c = λ number h.
    let k = at_from_contains c.args.rows.now number h in
    let within = within_from_at c.args.rows.now k.0 number k.1 in
    c.loop-row.invariant k.0 number (omega (arith, within, c.loop-row-test.false)) k.1
