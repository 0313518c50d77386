use Rattle.term_core.proofs.PoolLemmas.{before_from_place, place_from_before, places_compare_alike}
use Rattle.term_core.proofs.laws.ids_are_ordered_as_their_texts.Goals as goal

pub returns-clause-order : goal.returns-clause-order
returns-clause-order c = λ pool is i j a b p q. (before_from_place pool is.order i j a b p q, place_from_before pool is.order i j a b p q)

pub returns-clause-alike : goal.returns-clause-alike
returns-clause-alike c = λ pool is i j a b p q. places_compare_alike pool is.order i j a b p q
