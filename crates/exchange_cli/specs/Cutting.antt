-- What is known of pieces on the way into files. No public clause cites this module.
use Rattle.std.specs.Prelude.{◌≡◌, ℕ, ◌<◌, List, Some, length, slice_get, All}
use Rattle.term_core.specs.declared.const_id.ConstId.{ConstId}
use Rattle.rule_core.specs.declared.rules.Relation.{Relation}
use Rattle.fact_table.specs.declared.fact.Fact.{Fact}

-- each constant has a text in a pool of that many
abbrev pub IsInPool : ℕ → List ConstId → Type 0
IsInPool size row = All (λ c. c.0 < size) row

-- and so each of the facts
abbrev pub AreInPool : ℕ → List Fact → Type 0
AreInPool size facts = All (λ fact. IsInPool size fact.row) facts

-- the fact is as wide as its relation
abbrev pub IsAsWideAsItsRelation : List Relation → Fact → Type 0
IsAsWideAsItsRelation relations fact =
    (relation : Relation) → slice_get relations fact.relation ≡ Some relation → length fact.row ≡ length relation.columns

-- and so each of them
abbrev pub AreAsWide : List Relation → List Fact → Type 0
AreAsWide relations facts = All (IsAsWideAsItsRelation relations) facts
