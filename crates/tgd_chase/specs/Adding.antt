-- How a store gets the rows of firings. No public clause cites this module.
use Rattle.std.specs.Prelude.{◌≡◌, ◌++◌, length, slice_get, IsSomeAnd, IsPermutation}
use Rattle.rule_core.specs.Mapping.{RuleSet}
use Rattle.rule_core.specs.Firing.{frontier_of, entry_rows}
use Rattle.null_store.specs.Store.{NameOf, Store, facts_in}
use Rattle.failure_trace.specs.declared.firing.Firing.{Firing}
use Rattle.failure_trace.specs.Entries.{entry_of}

-- the name of the unknowns that the firing makes
abbrev pub name_of : Firing → NameOf
name_of firing = record { rule = firing.rule; frontier = firing.frontier }

-- the tgd with the firing's place has as many frontier variables as the firing has values
abbrev pub FitsRules : RuleSet → Firing → Type 0
FitsRules rules firing = IsSomeAnd (slice_get rules.tgds firing.rule) (λ tgd. length firing.frontier ≡ length (frontier_of tgd))

-- the rows of the firing are there too
abbrev pub AddsRows : RuleSet → Firing → Store → Store → Type 0
AddsRows rules firing old new = IsPermutation (facts_in old ++ entry_rows (λ c. c) rules (entry_of firing)) (facts_in new)
