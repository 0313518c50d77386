use Rattle.std.proofs.Common.{◌≡◌, ◌+◌, ◌++◌, [], ◌∷◌, AllPairs, take, sym, ap, ◌∙◌, subst, refl}
use Rattle.std.specs.Prelude.{◌≢◌}
use Rattle.std.proofs.lemmas.List.{take_more, take_all}
use Rattle.std.proofs.lemmas.List.Quantifiers.{all_pairs_push}
use Rattle.rule_core.proofs.names.are_distinct.Goals as goal

pub loop-at-preserved : goal.loop-at-preserved
loop-at-preserved c =
    let xs = c.args.texts.now in
    let i = c.loop-at.at in
    let x = c.index-texts-at.result in
    let front : take (i + 1) xs ≡ take i xs ++ x ∷ [] =
    take_more xs i x c.loop-at-test.true ∙ ap (λ y. take i xs ++ y ∷ []) (sym c.index-texts-at.is) in
    subst (AllPairs (λ a b. a ≢ b)) (sym front)
    (all_pairs_push (λ a b. a ≢ b) (take i xs) x c.loop-at.invariant (c.is_new.ensures.0 c.if-not-is_new.false))

pub returns : goal.returns
returns c = (
  λ _. subst (AllPairs (λ a b. a ≢ b)) (take_all c.loop-at.at c.args.texts.now c.loop-at-test.false) c.loop-at.invariant,
  λ _. refl,
)
