use Rattle.std.proofs.Common.{◌≡◌, ◌∙◌, List, ℕ, subst}
use Rattle.exchange_engine.specs.Gathered.{Gains, texts_of}
use Rattle.exchange_engine.proofs.GatheredLemmas.{Gains-found}
use Rattle.exchange_engine.proofs.loading.pool.Gathered.add.Goals as goal

pub returns : goal.returns
returns c =
    let text = c.args.text.now in
    let before = c.self.inside.found.items in
    let after = c.push.new.self.items in
    subst (λ (l : List (List ℕ)). Gains l (texts_of after) (λ t. t ≡ text) 1) (c.self.view_is ∙ c.take_seat.ensures)
    (Gains-found before after c.new-one.result text c.new-one.ensures c.in_ok-push.ensures.items)
