use Rattle.std.proofs.Common.{◌≡◌, ◌∙◌, Some, length, refl, sym, ap, All, Contains, slice_get}
use Rattle.std.specs.Option.{option_map}
use Rattle.std.proofs.lemmas.Option.{slice_get_read}
use Rattle.std.proofs.lemmas.Result.{IfOk-weaker}
use Rattle.fact_table.specs.declared.fact.Fact.{Fact}
use Rattle.exchange_engine.specs.Loading.{RawTable, as_text}
use Rattle.exchange_engine.specs.Gathered.{raw_fact}
use Rattle.exchange_engine.proofs.GatheredLemmas.{All-at}
use Rattle.exchange_engine.proofs.loading.facts.fact_at.Goals as goal

pub numbered_fact-requires : goal.numbered_fact-requires
numbered_fact-requires c =
    let table : RawTable = c.args.table.now in
    let here = slice_get_read table (length table) c.args.at c.index-table-at.result refl c.requires.within c.index-table-at.is in
    All-at (λ raw. All (Contains c.args.pool.now) raw.row) table c.args.at c.index-table-at.result c.requires.there here

pub returns-clause-reads : goal.returns-clause-reads
returns-clause-reads c =
    let table : RawTable = c.args.table.now in
    let here = slice_get_read table (length table) c.args.at c.index-table-at.result refl c.requires.within c.index-table-at.is in
    IfOk-weaker c.numbered_fact.result
    (λ (fact : Fact). as_text c.args.pool.now fact ≡ raw_fact c.args.relation c.index-table-at.result)
    (λ (fact : Fact). Some (as_text c.args.pool.now fact) ≡ option_map (raw_fact c.args.relation) (slice_get table c.args.at))
    (λ fact same. ap Some same ∙ ap (option_map (raw_fact c.args.relation)) (sym here)) c.numbered_fact.ensures.reads
