use Rattle.std.proofs.Common.{◌≡◌, ℕ, ◌+◌, List, [], ◌∷◌, ◌++◌, Contains, take, sym, subst, ◌∙◌, ap}
use Rattle.std.proofs.lemmas.List.{take_more}
use Rattle.rule_text.specs.RuleLine.{AreColumns}
use Rattle.rule_text.proofs.QuerySteps.{columns_push}
use Rattle.rule_text.proofs.query.columns_of.Goals as goal

pub returns-in-None : goal.returns-in-None
returns-in-None c all =
    c.in-None.ensures.none (subst (Contains c.args.vars.now) (sym c.name-item.is)
    (all c.loop-name.name-index c.name-item.result c.loop-name-test.true))

pub loop-name-preserved : goal.loop-name-preserved
loop-name-preserved c =
    let front : take (c.loop-name.name-index + 1) c.args.head.now ≡ take c.loop-name.name-index c.args.head.now ++ c.name-item.result ∷ [] =
    take_more c.args.head.now c.loop-name.name-index c.name-item.result c.loop-name-test.true
    ∙ ap (λ (n : List ℕ). take c.loop-name.name-index c.args.head.now ++ n ∷ []) (sym c.name-item.is) in
    subst (λ (head : List (List ℕ)). AreColumns c.args.vars.now head c.push.new.self) (sym front)
    (subst (AreColumns c.args.vars.now (take c.loop-name.name-index c.args.head.now ++ c.name-item.result ∷ []))
    (sym c.in_ok-push-in-Some.ensures.ok)
    (columns_push c.args.vars.now (take c.loop-name.name-index c.args.head.now) c.loop-name.columns c.name-item.result c.in-Some.number
    c.loop-name.invariant c.in-Some.ensures.found))
