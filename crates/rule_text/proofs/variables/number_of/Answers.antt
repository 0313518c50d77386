use Rattle.std.proofs.Common.{ℕ, List, All, Some, ap, sym, subst, refl, ◌∙◌}
use Rattle.std.proofs.lemmas.Bool.{true≢false}
use Rattle.std.specs.Prelude.{◌≢◌}
use Rattle.std.proofs.lemmas.List.{take_all}
use Rattle.std.proofs.lemmas.List.Elements.{All-more, All-contains, at_read}
use Rattle.std.proofs.lemmas.Option.{slice_get_read}
use Rattle.rule_text.proofs.variables.number_of.Goals as goal

pub returns-then-is_same-clause-found : goal.returns-then-is_same-clause-found
returns-then-is_same-clause-found c = record {
  there = slice_get_read c.args.names.now _ c.loop-number.number c.index-names-number.result refl c.loop-number-test.true c.index-names-number.is
      ∙ ap Some (c.is_same.ensures.0 c.if-is_same.true);
  before = c.loop-number.invariant;
}

pub loop-number-preserved : goal.loop-number-preserved
loop-number-preserved c =
    let xs = c.args.names.now in
    let x = c.index-names-number.result in
    All-more (λ other. other ≢ c.args.name.now) xs c.loop-number.number x c.loop-number-test.true c.loop-number.invariant
    (at_read xs (λ other. other ≢ c.args.name.now) c.loop-number.number x c.loop-number-test.true c.index-names-number.is
    (λ e. true≢false (sym (c.is_same.ensures.1 e) ∙ c.if-is_same.false)) x)

pub returns-clause-none : goal.returns-clause-none
returns-clause-none c there =
    let all = subst (All (λ (other : List ℕ). other ≢ c.args.name.now)) (take_all c.loop-number.number c.args.names.now c.loop-number-test.false)
    c.loop-number.invariant in
    All-contains (λ (other : List ℕ). other ≢ c.args.name.now) c.args.names.now c.args.name.now all there refl
