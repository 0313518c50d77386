use Rattle.std.proofs.Common.{◌∷◌, []}
use Rattle.body_match.specs.declared.listing.Listing.{Listing}
use Rattle.body_match.specs.Search.{IsFindable, IsListedFrom}
use Rattle.body_match.proofs.KeyLemmas.{all_findable}
use Rattle.body_match.proofs.ListingLemmas.{lists_given}
use Rattle.body_match.proofs.using.all_from.Goals as goal

pub returns : goal.returns
returns g c =
    let old : Listing = record { alloc = c.args.alloc; list = c.new.result } in
    lists_given old c.visit_from.new.visitor (IsListedFrom c.args.search.now (c.args.row ∷ [])) (IsFindable c.args.search.now)
    (all_findable c.args.search.now c.requires.lists) c.in_ok-visit_from.field-0
    c.in_ok-visit_from.ensures.stops c.new.ensures.items c.in_ok-visit_from.ensures.gives
