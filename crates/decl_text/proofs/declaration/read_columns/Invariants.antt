-- The columns so far are read, and a further one may follow.
use Rattle.std.proofs.Common.{ℕ, ◌≤◌, ◌-◌, List, [], length}
use Rattle.rule_core.specs.declared.rules.Place.{Place}
use Rattle.rule_core.specs.Mapping.{RuleSet}
use Rattle.decl_text.specs.Declaration.{wants_column, declaration_tests}
use Rattle.decl_text.specs.Tests.{Leads}
use Rattle.decl_text.proofs.declaration.read_columns.Given as goal

abbrev pub invariant-loop-columns : goal.invariant-loop-columns
invariant-loop-columns l = (l.from ≤ length l.bytes) × ((set : RuleSet) (place : Place) (name : List ℕ)
    → Leads (declaration_tests set) l.bytes l.fn.from (wants_column place (record { name = name; columns = [] }))
    l.from (wants_column place (record { name = name; columns = l.columns })))

abbrev pub decreases-loop-columns : goal.decreases-loop-columns
decreases-loop-columns l = 16 - length l.columns
