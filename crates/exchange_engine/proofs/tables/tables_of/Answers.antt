use Rattle.std.proofs.Common.{◌≡◌, ◌∷◌, ◌++◌, [], List, sym, ◌∙◌, subst, rules}
use Rattle.std.specs.List.{AllZip}
use Rattle.std.proofs.lemmas.Iterator.Adapters.{YieldsList-from_vec}
use Rattle.std.proofs.lemmas.Iterator.Consumers.{YieldsList-end}
use Rattle.std.proofs.lemmas.List.{map-id}
use Rattle.std.proofs.lemmas.List.Elements.{AllZip-push}
use Rattle.null_store.specs.Store.{facts_in}
use Rattle.exchange_engine.specs.Solved.{TermTable}
use Rattle.exchange_engine.specs.Grouped.{IsCoalescedFrom}
use Rattle.exchange_engine.proofs.GroupedLemmas.{same_size, all_coalesced, same_snapshots}
use Rattle.exchange_engine.proofs.tables.tables_of.Goals as goal
use Rattle.exchange_engine.proofs.tables.tables_of.Goals.{In-None}

pub loop-list-preserved : goal.loop-list-preserved
loop-list-preserved g c =
    let table : TermTable = c.in_ok-coalesce.field-0 in
    subst (λ (l : List TermTable). AllZip IsCoalescedFrom (c.loop-list.yielded ++ c.in-Some.list ∷ []) l) (sym c.in_ok-push.ensures.ok)
    (AllZip-push IsCoalescedFrom c.loop-list.yielded c.loop-list.tables c.in-Some.list table c.loop-list.invariant
    (record { coalesced = c.in_ok-coalesce.ensures.coalesced; covers = c.in_ok-coalesce.ensures.covers }))

-- the loop has gone over all lists
all_of : (g : _) (c : In-None g) → AllZip IsCoalescedFrom c.in_ok-lists.lists.items c.loop-list.tables
all_of g c =
    let end = YieldsList-end (YieldsList-from_vec c.in_ok-lists.lists.items (search rules) (search rules))
    c.loop-list.yielded _ c.loop-list.yielded_by _ c.next.new.self c.in-None.is c.next.ensures.steps in
    let met : c.loop-list.yielded ≡ c.in_ok-lists.lists.items = sym (map-id c.loop-list.yielded) ∙ end.0 in
    subst (λ (l : List TermTable). AllZip IsCoalescedFrom l c.loop-list.tables) met c.loop-list.invariant

pub returns-clause-size : goal.returns-clause-size
returns-clause-size g c =
    same_size c.in_ok-lists.lists.items c.loop-list.tables (all_of g (goal.at.returns-clause-size g c).In-None) ∙ c.in_ok-lists.ensures.size

pub returns-clause-coalesced : goal.returns-clause-coalesced
returns-clause-coalesced g c =
    all_coalesced c.in_ok-lists.lists.items c.loop-list.tables (all_of g (goal.at.returns-clause-coalesced g c).In-None)

pub returns-clause-same : goal.returns-clause-same
returns-clause-same g c =
    same_snapshots c.in_ok-lists.lists.items c.loop-list.tables (all_of g (goal.at.returns-clause-same g c).In-None)
    (facts_in c.args.store.now) c.in_ok-lists.ensures.facts
