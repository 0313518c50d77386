use Rattle.std.proofs.Common.{Some, List, [], map, sym, subst, arith, slice_get, IsPermutation}
use Rattle.std.proofs.lemmas.List.{take_all}
use Rattle.std.proofs.lemmas.List.Elements.{Contains-get_or}
use Rattle.std.proofs.lemmas.Option.{slice_get_within, slice_get-get_or}
use Rattle.fact_table.specs.declared.fact.Fact.{Fact}
use Rattle.exchange_engine.specs.Loading.{RawTable}
use Rattle.exchange_engine.specs.declared.loading.facts.Head.{Head}
use Rattle.exchange_engine.proofs.FactLemmas.{AddsInTurn, in_turn-none, in_turn-more, in_turn-all, row_of}
use Rattle.exchange_engine.proofs.loading.facts.add_table.Goals as goal

pub loop-head-init : goal.loop-head-init
loop-head-init c =
    subst (λ (l : List Fact). AddsInTurn c.args.pool.now c.args.relation c.args.table.now [] c.args.facts.now l) (sym c.in_ok-room.ensures)
    (in_turn-none c.args.pool.now c.args.relation c.args.table.now c.args.facts.now)

pub fact_at-requires-clause-within : goal.fact_at-requires-clause-within
fact_at-requires-clause-within c =
    let table : RawTable = c.args.table.now in
    let heads : List Head = c.deref-head-items.result.now in
    let all : IsPermutation (map (λ raw. Some raw) table) (map (λ (h : Head). slice_get table h.at) heads) =
    subst (λ (l : List Head). IsPermutation (map (λ raw. Some raw) table) (map (λ (h : Head). slice_get table h.at) l))
    (sym c.deref-head-items.ensures.value) c.in_ok-heads.ensures in
    let row = row_of c.args.pool.now c.args.relation table heads all _
    (Contains-get_or heads c.loop-head.head-index _ (omega (arith, c.loop-head-test.true))) in
    slice_get_within table _ row.0 row.2

pub loop-head-preserved : goal.loop-head-preserved
loop-head-preserved c =
    let heads : List Head = c.deref-head-items.result.now in
    in_turn-more c.args.pool.now c.args.relation c.args.table.now heads c.loop-head.head-index _ c.args.facts.now c.loop-head.facts
    c.push.new.self c.in_ok-fact.fact (slice_get-get_or heads c.loop-head.head-index _ (omega (arith, c.loop-head-test.true)))
    c.loop-head.invariant c.in_ok-push.ensures.ok c.in_ok-fact.ensures.reads c.in_ok-fact.ensures.within

pub returns : goal.returns
returns c =
    let table : RawTable = c.args.table.now in
    let heads : List Head = c.deref-head-items.result.now in
    let all : IsPermutation (map (λ raw. Some raw) table) (map (λ (h : Head). slice_get table h.at) heads) =
    subst (λ (l : List Head). IsPermutation (map (λ raw. Some raw) table) (map (λ (h : Head). slice_get table h.at) l))
    (sym c.deref-head-items.ensures.value) c.in_ok-heads.ensures in
    in_turn-all c.args.pool.now c.args.relation table heads all c.args.facts.now c.loop-head.facts
    (subst (λ (l : List Head). AddsInTurn c.args.pool.now c.args.relation table l c.args.facts.now c.loop-head.facts)
    (take_all c.loop-head.head-index heads c.loop-head-test.false) c.loop-head.invariant)
