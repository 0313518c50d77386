use Rattle.std.proofs.Common.{[], length, map, take, refl, sym, subst, arith, All, Contains}
use Rattle.std.proofs.lemmas.List.{take_all}
use Rattle.std.proofs.lemmas.Option.{slice_get_read}
use Rattle.rule_core.specs.Tables.{facts_of, as_terms}
use Rattle.exchange_engine.specs.Gathered.{Adds, raw_facts}
use Rattle.exchange_engine.proofs.GatheredLemmas.{All-at}
use Rattle.exchange_engine.proofs.FactLemmas.{Adds-more, facts_of-more}
use Rattle.exchange_engine.proofs.loading.facts.numbered_facts.Goals as goal

pub add_table-requires : goal.add_table-requires
add_table-requires c =
    let tables = c.args.tables.now in
    let i = c.loop-relation.relation in
    let table = c.index-tables-relation.result in
    let here = slice_get_read tables (length tables) i table refl (omega (arith, c.loop-relation-test.true)) c.index-tables-relation.is in
    subst (All (λ raw. All (Contains c.args.pool.now) raw.row)) (sym c.as_slice-table.ensures)
    (All-at (λ t. All (λ raw. All (Contains c.args.pool.now) raw.row) t) tables i table c.requires.there here)

pub loop-relation-preserved : goal.loop-relation-preserved
loop-relation-preserved c =
    let pool = c.args.pool.now in
    let tables = c.args.tables.now in
    let i = c.loop-relation.relation in
    let table = c.index-tables-relation.result in
    let here = slice_get_read tables (length tables) i table refl (omega (arith, c.loop-relation-test.true)) c.index-tables-relation.is in
    subst (Adds pool [] c.add_table.new.facts) (sym (facts_of-more tables i table here))
    (Adds-more pool [] c.loop-relation.facts c.add_table.new.facts (facts_of (map as_terms (take i tables))) (raw_facts i table)
    c.loop-relation.invariant
    (subst (λ t. Adds pool c.loop-relation.facts c.add_table.new.facts (raw_facts i t)) c.as_slice-table.ensures c.in_ok-add_table.ensures))

pub returns : goal.returns
returns c =
    let tables = c.args.tables.now in
    subst (λ l. Adds c.args.pool.now [] c.loop-relation.facts (facts_of (map as_terms l)))
    (take_all c.loop-relation.relation tables c.loop-relation-test.false) c.loop-relation.invariant
