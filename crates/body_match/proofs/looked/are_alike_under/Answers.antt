use Rattle.std.proofs.Common.{◌≡◌, ◌<◌, ◌≤◌, Some, length, get_or, sym, ap, ◌∙◌, subst, ⊎_elim, arith}
use Rattle.std.specs.Prelude.{slice_get}
use Rattle.std.proofs.lemmas.Bool.{cases_lt}
use Rattle.std.proofs.lemmas.Option.{slice_get-get_or}
use Rattle.rule_core.specs.declared.rules.Arg.{Arg}
use Rattle.rule_core.specs.declared.rules.Arg.TheVariants.{Var}
use Rattle.fact_table.specs.Rows.{cell_at}
use Rattle.body_match.specs.Choice.{IsLooked}
use Rattle.body_match.proofs.ListLemmas.{within_from_at}
use Rattle.body_match.proofs.SearchLemmas.{same_some}
use Rattle.body_match.proofs.looked.are_alike_under.Goals as goal

pub agree_in-requires-clause-row : goal.agree_in-requires-clause-row
agree_in-requires-clause-row g c =
    let arity = (c.has_form.ensures.0 c.if-not-has_form.false).1 in
    let size = ap (λ l. length l) c.as_slice-arg-items.ensures in
    c.requires.row c.loop-column.column (omega (arith, arity, size, c.loop-column-test.true))

pub agree_in-requires-clause-other : goal.agree_in-requires-clause-other
agree_in-requires-clause-other g c =
    let arity = (c.has_form.ensures.0 c.if-not-has_form.false).1 in
    let size = ap (λ l. length l) c.as_slice-arg-items.ensures in
    c.requires.other c.loop-column.column (omega (arith, arity, size, c.loop-column-test.true))

pub loop-column-preserved : goal.loop-column-preserved
loop-column-preserved g c = λ k arg l e looked.
    let at = c.loop-column.column in
    let this : Arg = get_or c.as_slice-arg-items.result.now at (Var 0) in
    let there : slice_get c.args.atom.now.args at ≡ Some this =
    ap (λ l. slice_get l at) (sym c.as_slice-arg-items.ensures) ∙ slice_get-get_or c.as_slice-arg-items.result.now at (Var 0) c.loop-column-test.true in
    let agree : IsLooked c.args.looked.now this
    → cell_at (g.F.FactSource.rows c.args.source.now) c.args.other at ≡ cell_at (g.F.FactSource.rows c.args.source.now) c.args.row at =
    c.agree_in.ensures c.if-not-agree_in.false in
    ⊎_elim
    (λ (before : k < at). c.loop-column.invariant k arg before e looked)
    (λ (not : at ≤ k).
    let same : k ≡ at = omega (arith, l, not) in
    let is : this ≡ arg = same_some (slice_get c.args.atom.now.args at) this arg there (ap (slice_get c.args.atom.now.args) (sym same) ∙ e) in
    subst (λ n. cell_at (g.F.FactSource.rows c.args.source.now) c.args.other n ≡ cell_at (g.F.FactSource.rows c.args.source.now) c.args.row n)
    (sym same) (agree (subst (IsLooked c.args.looked.now) (sym is) looked)))
    (cases_lt k at)

pub returns : goal.returns
returns g c = λ yes relation arity column arg e looked.
    let within = within_from_at c.args.atom.now.args column arg e in
    let size = ap (λ l. length l) c.as_slice-arg-items.ensures in
    c.loop-column.invariant column arg (omega (arith, within, size, c.loop-column-test.false)) e looked
