use Rattle.std.proofs.Common.{List, map, slice_get, subst, IsPermutation}
use Rattle.std.proofs.lemmas.List.Sorted.{IsPermutation-map}
use Rattle.exchange_engine.specs.Loading.{RawTable}
use Rattle.exchange_engine.specs.declared.loading.facts.Head.{Head}
use Rattle.exchange_engine.proofs.loading.facts.heads_in_order.Goals as goal

pub returns : goal.returns
returns c =
    let table : RawTable = c.args.table.now in
    let before : List Head = c.in_ok-heads.heads.items in
    let after : List Head = c.sort_unstable.new.self.items in
    subst (λ l. IsPermutation l (map (λ (h : Head). slice_get table h.at) after)) c.in_ok-heads.ensures
    (IsPermutation-map (λ (h : Head). slice_get table h.at) before after c.sort_unstable.ensures.permutation)
