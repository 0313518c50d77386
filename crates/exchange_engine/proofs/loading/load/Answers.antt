use Rattle.std.proofs.Common.{◌↔◌, ◌⊎◌, inl, inr, ℕ, List, length, ap, subst, arith, Contains}
use Rattle.mapping_core.specs.Mapping.{Meaning}
use Rattle.exchange_engine.specs.Loading.{RawTable, HasText, AreFactsOf}
use Rattle.exchange_engine.proofs.LoadedLemmas.{rebased_within, as_many, all_cells, table_within, table_facts}
use Rattle.exchange_engine.proofs.loading.load.Goals as goal

pub rebase-requires : goal.rebase-requires
rebase-requires c = λ text m. (c.in_ok-pool.ensures text).1 (inl m)

pub numbered_facts-requires-clause-few : goal.numbered_facts-requires-clause-few
numbered_facts-requires-clause-few c =
    omega (
      arith,
      as_many c.args.mapping.now.rules.sources c.args.tables.now c.requires.tables,
      ap (λ (m : Meaning). length m.rules.sources) c.mapping.view_is,
      ap length c.as_slice-tables.ensures,
      c.is_kept.ensures.relations.most,
    )

pub numbered_facts-requires-clause-there : goal.numbered_facts-requires-clause-there
numbered_facts-requires-clause-there c =
    all_cells (Contains c.in_ok-pool.pool) c.as_slice-tables.result.now (λ text h. (c.in_ok-pool.ensures text).1 (inr h))

pub invariant_of-result : goal.invariant_of-result
invariant_of-result c = record {
  rules = rebased_within c.mapping.inside.pool c.in_ok-pool.pool c.mapping.inside.rules c.in_ok-rules.rules c.in_ok-rules.ensures
      c.mapping.invariant.there;
  facts = table_within c.in_ok-pool.pool c.as_slice-tables.result.now c.in_ok-facts.facts c.in_ok-table.table c.in_ok-facts.ensures
      c.in_ok-table.ensures.same;
}

pub returns-clause-pool : goal.returns-clause-pool
returns-clause-pool c =
    subst (λ (texts : List (List ℕ)). (text : List ℕ) → Contains c.in_ok-pool.pool text ↔ (Contains texts text ⊎ HasText c.args.tables.now text))
    (ap (λ (m : Meaning). m.pool) c.mapping.view_is)
    (subst (λ (tables : List RawTable). (text : List ℕ)
    → Contains c.in_ok-pool.pool text ↔ (Contains c.mapping.inside.pool text ⊎ HasText tables text))
    c.as_slice-tables.ensures c.in_ok-pool.ensures)

pub returns-clause-facts : goal.returns-clause-facts
returns-clause-facts c =
    subst (λ (tables : List RawTable). AreFactsOf tables c.in_ok-pool.pool c.in_ok-table.table) c.as_slice-tables.ensures
    (table_facts c.in_ok-pool.pool c.as_slice-tables.result.now c.in_ok-facts.facts c.in_ok-table.table c.in_ok-facts.ensures
    c.in_ok-table.ensures.same)
