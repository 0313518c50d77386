use Rattle.std.proofs.Common.{◌≡◌, All, ◌∙◌, subst, refl, sym}
use Rattle.std.proofs.lemmas.Bool.{true≢false}
use Rattle.std.specs.Prelude.{◌≢◌, IsSomeAnd}
use Rattle.std.proofs.lemmas.List.{take_all}
use Rattle.std.proofs.lemmas.List.Elements.{All-more, at_read}
use Rattle.std.proofs.lemmas.Option.{slice_get_read}
use Rattle.rule_core.specs.declared.rules.Relation.{Relation}
use Rattle.rule_core.proofs.relations.place_of.Goals as goal

pub returns-then-has_name-clause-found : goal.returns-then-has_name-clause-found
returns-then-has_name-clause-found c =
    subst (λ o. IsSomeAnd o (λ (r : Relation). r.name ≡ c.args.name.now))
    (sym (slice_get_read c.args.relations.now _ c.loop-place.place c.index-relations-place.result refl c.loop-place-test.true
    c.index-relations-place.is))
    (c.has_name.ensures.0 c.if-has_name.true)

pub loop-place-preserved : goal.loop-place-preserved
loop-place-preserved c =
    let xs = c.args.relations.now in
    let x = c.index-relations-place.result in
    All-more (λ r. r.name ≢ c.args.name.now) xs c.loop-place.place x c.loop-place-test.true c.loop-place.invariant
    (at_read xs (λ r. r.name ≢ c.args.name.now) c.loop-place.place x c.loop-place-test.true c.index-relations-place.is
    (λ e. true≢false (sym (c.has_name.ensures.1 e) ∙ c.if-has_name.false)) x)

pub returns-clause-none : goal.returns-clause-none
returns-clause-none c =
    subst (All (λ (r : Relation). r.name ≢ c.args.name.now)) (take_all c.loop-place.place c.args.relations.now c.loop-place-test.false) c.loop-place.invariant
