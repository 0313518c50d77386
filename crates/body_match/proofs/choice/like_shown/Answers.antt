use Rattle.std.proofs.Common.{◌≡◌, ℤ, Bool, true, false, Option, Some, refl, sym, ◌∙◌, subst}
use Rattle.std.specs.Prelude.{IfSome}
use Rattle.std.specs.Bool.{then_some, IsTrue}
use Rattle.time_line.specs.Span.{Ends, Has}
use Rattle.fact_table.specs.Rows.{SeenRow, row_at}
use Rattle.body_match.specs.Choice.{IsOtherAt}
use Rattle.body_match.proofs.ChoiceLemmas.{other_is_at}
use Rattle.body_match.proofs.choice.like_shown.Goals as goal

-- what is so of a span where it is given
where_given : (b : Bool) (span : Ends) (P : Ends → Type 0) → (IsTrue b → P span) → IfSome (then_some b span) P
where_given true span P p = p refl
where_given false span P p = tt

pub returns : goal.returns
returns g c =
    let source = g.F.FactSource.rows c.args.source.now in
    let P : Ends → Type 0 = λ span. (seen : SeenRow) (t : ℤ) → row_at source c.args.row ≡ Some seen → Has span t
    → IsOtherAt c.args.body.now c.args.looked.now source c.args.shown.now c.args.row seen t in
    subst (λ (o : Option Ends). IfSome o P) (sym c.then_some.ensures)
    (where_given c.are_alike.result c.in_ok-found.found.span P
    (λ alike. other_is_at c.args.body.now c.args.looked.now source c.args.shown.now c.args.other c.args.row c.in_ok-found.found c.args.head.now
    (sym c.head.ensures ∙ c.in_ok-found.was) c.requires c.if-found-head.false c.if-found-head-2.false
    (c.are_alike.ensures alike) (c.is_shown.ensures.0 c.if-not-is_shown.false) c.if-other-row.false))
