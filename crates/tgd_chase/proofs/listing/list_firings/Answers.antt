use Rattle.std.proofs.Common.{List}
use Rattle.std.proofs.lemmas.Result.{IfOk-weaker}
use Rattle.fact_table.specs.Snapshots.{stamped_facts}
use Rattle.failure_trace.specs.Firings.{AreFirings}
use Rattle.tgd_chase.specs.Fired.{HaveMatchEnds}
use Rattle.tgd_chase.specs.Candidates.{AreCandidates}
use Rattle.tgd_chase.specs.Merging.{AreMerged}
use Rattle.tgd_chase.specs.declared.candidates.Candidate.{Candidate}
use Rattle.tgd_chase.proofs.ListingLemmas.{candidates_moved, have_instants, firings_from_merged, ends_from_merged, sorted_by_key}
use Rattle.tgd_chase.proofs.listing.list_firings.Given.{Over}
use Rattle.tgd_chase.proofs.listing.list_firings.Goals as goal
use Rattle.tgd_chase.proofs.listing.list_firings.Goals.{After-sort_unstable}

-- the candidates in order
in_order : (g : Over) (c : After-sort_unstable g) → AreCandidates c.args.rules.now c.args.table.now c.sort_unstable.new.self.items
in_order g c =
    candidates_moved c.args.rules.now c.args.table.now c.in_ok-candidates.candidates.items c.sort_unstable.new.self.items
    c.sort_unstable.ensures.permutation c.in_ok-candidates.ensures

pub merge-requires-clause-sorted : goal.merge-requires-clause-sorted
merge-requires-clause-sorted g c = sorted_by_key c.sort_unstable.new.self.items c.sort_unstable.ensures.sorted

pub merge-requires-clause-instants : goal.merge-requires-clause-instants
merge-requires-clause-instants g c = have_instants c.args.rules.now c.args.table.now c.sort_unstable.new.self.items (in_order g c)

pub returns-clause-firings : goal.returns-clause-firings
returns-clause-firings g c =
    let sorted : List Candidate = c.sort_unstable.new.self.items in
    IfOk-weaker c.merge.result (AreMerged sorted) (AreFirings c.args.rules.now (stamped_facts c.args.table.now))
    (firings_from_merged c.args.rules.now c.args.table.now sorted (in_order g (goal.at.returns-clause-firings g c).After-sort_unstable)) c.merge.ensures

pub returns-clause-ends : goal.returns-clause-ends
returns-clause-ends g c =
    let sorted : List Candidate = c.sort_unstable.new.self.items in
    IfOk-weaker c.merge.result (AreMerged sorted) (HaveMatchEnds c.args.rules.now c.args.table.now)
    (ends_from_merged c.args.rules.now c.args.table.now sorted (in_order g (goal.at.returns-clause-ends g c).After-sort_unstable)) c.merge.ensures
