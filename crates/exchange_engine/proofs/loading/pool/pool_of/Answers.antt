use Rattle.std.proofs.Common.{◌↔◌, ◌⊎◌, ℕ, List, Contains, length, ap, subst, arith}
use Rattle.std.proofs.lemmas.Result.{IfOk-weaker}
use Rattle.exchange_engine.specs.Loading.{HasText, cell_count}
use Rattle.exchange_engine.specs.Gathered.{Gains, texts_of}
use Rattle.exchange_engine.specs.declared.loading.pool.Found.{Found}
use Rattle.exchange_engine.proofs.GatheredLemmas.{pool_has, few_found}
use Rattle.exchange_engine.proofs.loading.pool.pool_of.Goals as goal

pub add_found-requires : goal.add_found-requires
add_found-requires c =
    let few = few_found c.in_ok-gathered.gathered c.add_texts.new.gathered c.add_tables.new.gathered c.into_found-found.result.items
    c.sort_unstable_by_key.new.self.items (Contains c.args.texts.now) (HasText c.args.tables.now) (length c.args.texts.now)
    (cell_count c.args.tables.now) c.in_ok-gathered.ensures c.in_ok-add_texts.ensures c.in_ok-add_tables.ensures c.into_found-found.ensures
    c.sort_unstable_by_key.ensures.permutation in
    omega (arith, few, ap length c.deref.ensures.value, ap length c.new-builder.ensures, c.requires)

pub returns : goal.returns
returns c =
    let texts = c.args.texts.now in
    let tables = c.args.tables.now in
    let moved : List Found = c.sort_unstable_by_key.new.self.items in
    let added : Gains c.new-builder.result c.add_found.new.builder (Contains (texts_of moved)) (length moved) =
    subst (λ (l : List Found). Gains c.new-builder.result c.add_found.new.builder (Contains (texts_of l)) (length l)) c.deref.ensures.value
    c.in_ok-add_found.ensures in
    IfOk-weaker c.finish.result (λ (pool : List (List ℕ)). (text : List ℕ) → Contains pool text ↔ Contains c.add_found.new.builder text)
    (λ (pool : List (List ℕ)). (text : List ℕ) → Contains pool text ↔ (Contains texts text ⊎ HasText tables text))
    (λ pool same. pool_has c.in_ok-gathered.gathered c.add_texts.new.gathered c.add_tables.new.gathered c.into_found-found.result.items moved
    c.new-builder.result c.add_found.new.builder pool (Contains texts) (HasText tables) (length texts) (cell_count tables) (length moved)
    c.in_ok-gathered.ensures c.in_ok-add_texts.ensures c.in_ok-add_tables.ensures c.into_found-found.ensures
    c.sort_unstable_by_key.ensures.permutation c.new-builder.ensures added same)
    c.finish.ensures.has
