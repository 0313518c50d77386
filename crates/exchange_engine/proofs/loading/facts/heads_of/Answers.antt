use Rattle.std.proofs.Common.{◌≡◌, Some, List, length, map, refl, subst, arith, slice_get}
use Rattle.std.proofs.lemmas.List.{take_all}
use Rattle.std.proofs.lemmas.Option.{slice_get_read}
use Rattle.exchange_engine.specs.Loading.{RawTable}
use Rattle.exchange_engine.specs.declared.loading.facts.Head.{Head}
use Rattle.exchange_engine.proofs.FactLemmas.{heads_more}
use Rattle.exchange_engine.proofs.loading.facts.heads_of.Goals as goal

pub loop-at-preserved : goal.loop-at-preserved
loop-at-preserved c =
    let table : RawTable = c.args.table.now in
    let here = slice_get_read table (length table) c.loop-at.at c.index-table-at.result refl (omega (arith, c.loop-at-test.true)) c.index-table-at.is in
    heads_more table c.loop-at.at c.loop-at.heads.items c.push.new.self.items c.head_of.result c.index-table-at.result here c.head_of.ensures
    c.in_ok-push.ensures.items c.loop-at.invariant

pub returns : goal.returns
returns c =
    let table : RawTable = c.args.table.now in
    let heads : List Head = c.loop-at.heads.items in
    subst (λ (l : RawTable). map (λ (h : Head). slice_get table h.at) heads ≡ map (λ r. Some r) l)
    (take_all c.loop-at.at table c.loop-at-test.false) c.loop-at.invariant
