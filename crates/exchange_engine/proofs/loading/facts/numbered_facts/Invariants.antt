-- The facts of the tables so far are there.
use Rattle.std.proofs.Common.{[], map, take}
use Rattle.rule_core.specs.Tables.{facts_of, as_terms}
use Rattle.exchange_engine.specs.Gathered.{Adds}
use Rattle.exchange_engine.proofs.loading.facts.numbered_facts.Given as goal

abbrev pub invariant-loop-relation : goal.invariant-loop-relation
invariant-loop-relation l = Adds l.pool [] l.facts (facts_of (map as_terms (take l.relation l.tables)))
