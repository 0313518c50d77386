use Rattle.std.proofs.Common.{◌≡◌, inl, inr, Some, Contains, get_or, sym, ap, ◌∙◌, subst}
use Rattle.std.specs.Prelude.{slice_get}
use Rattle.std.proofs.lemmas.Option.{slice_get-get_or}
use Rattle.std.proofs.lemmas.List.Elements.{Contains-push_cases}
use Rattle.rule_core.specs.declared.rules.Arg.{Arg}
use Rattle.rule_core.specs.declared.rules.Arg.TheVariants.{Var}
use Rattle.body_match.specs.Keys.{IsBound}
use Rattle.body_match.proofs.levels.columns_of.Goals as goal

pub loop-column-preserved : goal.loop-column-preserved
loop-column-preserved c = λ column h.
    let k = c.loop-column.column in
    let arg : Arg = get_or c.as_slice-arg-items.result.now k (Var 0) in
    let there : slice_get c.args.atom.now.args k ≡ Some arg =
    ap (λ l. slice_get l k) (sym c.as_slice-arg-items.ensures) ∙ slice_get-get_or c.as_slice-arg-items.result.now k (Var 0) c.loop-column-test.true in
    let bound : IsBound c.args.places.now c.args.before arg = c.is_bound.ensures c.if-not-is_bound.false in
    elim (Contains-push_cases c.loop-column.columns.items k column
    (subst (λ l. Contains l column) c.in_ok-push.ensures.items h)) [
      | inl d ↦ c.loop-column.invariant column d
      | inr e ↦ (arg, ap (slice_get c.args.atom.now.args) (sym e) ∙ there, bound)
    ]
