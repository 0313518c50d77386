-- There is a place for each variable so far.
use Rattle.body_match.specs.Places.{AreFirstPlaces}
use Rattle.body_match.proofs.places.first_places.Given as goal

abbrev pub invariant-loop-variable : goal.invariant-loop-variable
invariant-loop-variable l = AreFirstPlaces l.body l.variable l.places.items
