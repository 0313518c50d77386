-- The terms so far are those of the values so far.
use Rattle.std.proofs.Common.{◌≡◌, take, map}
use Rattle.rule_core.specs.Values.{term_value}
use Rattle.null_store.specs.Store.{term_in}
use Rattle.egd_chase.proofs.equating.terms_of.Given as goal

abbrev pub invariant-loop-value : goal.invariant-loop-value
invariant-loop-value l = map term_value l.terms ≡ map (term_in l.store) (take l.value-index l.values)
