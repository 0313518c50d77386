-- Firings without the matches that support them.
use Rattle.std.specs.Prelude.{List, map}
use Rattle.term_core.specs.declared.const_id.ConstId.{ConstId}
use Rattle.rule_core.specs.Firing.{FiringOf}
use Rattle.failure_trace.specs.declared.firing.Firing.{Firing}

-- a rule's place, its frontier values and the span
abbrev pub entry_of : Firing → FiringOf ConstId
entry_of firing = record { rule = firing.rule; frontier = firing.frontier; span = firing.span }

-- those of a list, in its order
abbrev pub entries_of : List Firing → List (FiringOf ConstId)
entries_of firings = map entry_of firings
