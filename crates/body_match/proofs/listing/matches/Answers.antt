use Rattle.body_match.specs.declared.listing.Listing.{Listing}
use Rattle.body_match.specs.Matches.{AreMatches}
use Rattle.body_match.proofs.ListingLemmas.{lists_all}
use Rattle.body_match.proofs.SnapshotLemmas.{all_at_instants}
use Rattle.body_match.proofs.listing.matches.Given.{Over}
use Rattle.body_match.proofs.listing.matches.Goals as goal
use Rattle.body_match.proofs.listing.matches.Goals.{After-from_vec}

-- the list has the matches
are_matches : (g : Over) (c : After-from_vec g) → AreMatches c.args.body.now c.args.vars (g.F.FactSource.rows c.args.source.now) c.from_vec.result
are_matches g c =
    let old : Listing = record { alloc = c.args.alloc; list = c.new.result } in
    rw c.from_vec.ensures
    (lists_all old c.visit_matches.new.visitor c.args.body.now c.args.vars (g.F.FactSource.rows c.args.source.now)
    c.in_ok-visit_matches.field-0 c.in_ok-visit_matches.ensures.stops c.new.ensures.items c.in_ok-visit_matches.ensures.visits)

pub returns-clause-each : goal.returns-clause-each
returns-clause-each g c = (are_matches g c).each

pub returns-clause-order : goal.returns-clause-order
returns-clause-order g c = (are_matches g c).ordered

pub returns-clause-snapshots : goal.returns-clause-snapshots
returns-clause-snapshots g c =
    all_at_instants c.args.body.now c.args.vars (g.F.FactSource.rows c.args.source.now) c.requires.vars c.from_vec.result
    (are_matches g c).each
