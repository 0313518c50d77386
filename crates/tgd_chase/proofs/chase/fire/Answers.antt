use Rattle.std.proofs.Common.{◌≡◌, List, take, sym, ◌∙◌, subst, IsPermutation}
use Rattle.std.proofs.lemmas.List.{take_all}
use Rattle.rule_core.specs.Firing.{firing_rows}
use Rattle.null_store.specs.Store.{facts_in}
use Rattle.failure_trace.specs.declared.firing.Firing.{Firing}
use Rattle.failure_trace.specs.Entries.{entries_of}
use Rattle.fact_table.specs.Snapshots.{stamped_facts}
use Rattle.failure_trace.specs.Firings.{AreFirings}
use Rattle.tgd_chase.proofs.AddingLemmas.{fits}
use Rattle.tgd_chase.proofs.RowLemmas.{fresh, rows_more, hold_firing_facts}
use Rattle.tgd_chase.proofs.chase.fire.Goals as goal
use Rattle.tgd_chase.proofs.chase.fire.Goals.{After-loop-firing}

pub add_rows-requires-clause-fits : goal.add_rows-requires-clause-fits
add_rows-requires-clause-fits g c =
    let listed : List Firing = c.as_slice-firing-items.result.now in
    let are : AreFirings c.args.rules.now (stamped_facts c.args.table.now) listed =
    subst (AreFirings c.args.rules.now (stamped_facts c.args.table.now)) (sym c.as_slice-firing-items.ensures) c.in_ok-firings.ensures.firings in
    fits c.args.rules.now (stamped_facts c.args.table.now) listed c.loop-firing.firing-index c.firing-item.result are c.has_instant.ensures
    c.loop-firing-test.true c.firing-item.is

pub add_rows-requires-clause-fresh : goal.add_rows-requires-clause-fresh
add_rows-requires-clause-fresh g c =
    let listed : List Firing = c.as_slice-firing-items.result.now in
    let are : AreFirings c.args.rules.now (stamped_facts c.args.table.now) listed =
    subst (AreFirings c.args.rules.now (stamped_facts c.args.table.now)) (sym c.as_slice-firing-items.ensures) c.in_ok-firings.ensures.firings in
    fresh c.args.rules.now listed c.loop-firing.firing-index c.firing-item.result c.loop-firing.store are.separate c.loop-firing-test.true
    c.firing-item.is c.loop-firing.invariant

pub loop-firing-preserved : goal.loop-firing-preserved
loop-firing-preserved g c =
    let listed : List Firing = c.as_slice-firing-items.result.now in
    rows_more c.args.rules.now listed c.loop-firing.firing-index c.firing-item.result (facts_in c.loop-firing.store)
    (facts_in c.add_rows.new.store) c.loop-firing-test.true c.firing-item.is c.loop-firing.invariant c.in_ok-add_rows.ensures

-- the loop has come to the end of the firings
all_rows : (g : _) (c : After-loop-firing g)
    → IsPermutation (firing_rows (λ c. c) c.args.rules.now (entries_of c.in_ok-firings.firings)) (facts_in c.loop-firing.store)
all_rows g c =
    let listed : List Firing = c.as_slice-firing-items.result.now in
    let all : take c.loop-firing.firing-index listed ≡ c.in_ok-firings.firings =
    take_all c.loop-firing.firing-index listed c.loop-firing-test.false ∙ c.as_slice-firing-items.ensures in
    subst (λ (l : List Firing). IsPermutation (firing_rows (λ c. c) c.args.rules.now (entries_of l)) (facts_in c.loop-firing.store)) all
    c.loop-firing.invariant

pub returns-clause-rows : goal.returns-clause-rows
returns-clause-rows g c = all_rows g c

pub returns-clause-facts : goal.returns-clause-facts
returns-clause-facts g c =
    hold_firing_facts c.args.rules.now c.args.table.now c.in_ok-firings.firings c.in_ok-firings.ensures.firings (facts_in c.loop-firing.store)
    (all_rows g c)
