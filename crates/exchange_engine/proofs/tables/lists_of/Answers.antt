use Rattle.std.proofs.Common.{◌<◌, ◌≤◌, ℕ, List, length, sym, ap, ◌∙◌, subst, arith}
use Rattle.std.specs.Option.{IfSome, option_map}
use Rattle.std.specs.List.{filter_map}
use Rattle.std.proofs.lemmas.List.{take_all}
use Rattle.fact_table.specs.Rows.{SeenRow, row_at}
use Rattle.rule_core.proofs.ListLemmas.{Contains-nil}
use Rattle.null_store.specs.Store.{fact_in}
use Rattle.exchange_engine.specs.Grouped.{HaveFacts}
use Rattle.exchange_engine.proofs.TableFactLemmas.{TargetFact, no_facts}
use Rattle.exchange_engine.proofs.GroupedLemmas.{facts_more, row_below}
use Rattle.exchange_engine.proofs.tables.lists_of.Goals as goal

pub loop-row-init : goal.loop-row-init
loop-row-init g c = record {
  size = c.in_ok-lists.ensures.size;
  facts = λ fact. (
    λ d. absurd (no_facts c.in_ok-lists.lists.items c.in_ok-lists.ensures.empty fact d),
    λ d. absurd (Contains-nil fact d),
  );
}

pub add_row-requires : goal.add_row-requires
add_row-requires g c =
    subst (λ (n : ℕ). IfSome (row_at c.args.store.now.rows c.loop-row.row) (λ (seen : SeenRow). seen.relation < n))
    (sym c.loop-row.invariant.size)
    (row_below c.args.relations c.args.store.now c.requires c.loop-row.row)

pub loop-row-preserved : goal.loop-row-preserved
loop-row-preserved g c =
    let inside : c.loop-row.row < length c.args.store.now.rows = omega (arith, c.loop-row-test.true, c.bound-row-end.ensures) in
    record {
      size = c.in_ok-add_row.ensures.size ∙ c.loop-row.invariant.size;
      facts = facts_more c.args.store.now c.loop-row.row c.loop-row.lists.items c.add_row.new.lists.items inside c.loop-row.invariant.facts
          c.in_ok-add_row.ensures.adds;
    }

pub returns-clause-facts : goal.returns-clause-facts
returns-clause-facts g c =
    let store = c.args.store.now in
    let past : length store.rows ≤ c.loop-row.row = omega (arith, c.loop-row-test.false, c.bound-row-end.ensures) in
    subst (λ (l : List TargetFact). HaveFacts l c.loop-row.lists.items)
    (ap (filter_map (option_map (fact_in store))) (take_all c.loop-row.row store.rows past)) c.loop-row.invariant.facts
