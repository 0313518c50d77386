-- The order of facts, what a table is, and what it holds at an instant.
use Rattle.std.specs.Prelude.{◌≡◌, ℕ, ℤ, List, AllPairs, Any}
use Rattle.std.specs.declared.cmp.Ordering.{Ordering}
use Rattle.std.specs.declared.cmp.Ordering.TheVariants.{Less}
use Rattle.std.specs.Ordering.{nat_cmp, ordering_then}
use Rattle.std.specs.Cmp.Lexicographic.{slice_cmp}
use Rattle.time_line.specs.Span.{Has, span_cmp}
use Rattle.term_core.specs.declared.const_id.ConstId.{ConstId}
use Rattle.term_core.specs.Order.{id_cmp}
use Rattle.fact_table.specs.declared.fact.Fact.{Fact}

-- the relation and the row of a fact against these: by relation, then by constants from left to right
abbrev pub key_cmp : Fact → ℕ → List ConstId → Ordering
key_cmp fact relation row = ordering_then (nat_cmp fact.relation relation) (slice_cmp id_cmp fact.row row)

-- the order of facts: by relation, then by row, then by span
abbrev pub fact_cmp : Fact → Fact → Ordering
fact_cmp a b = ordering_then (nat_cmp a.relation b.relation) (ordering_then (slice_cmp id_cmp a.row b.row) (span_cmp a.span b.span))

-- each fact stands before all later ones, so that none stands twice
abbrev pub IsTable : List Fact → Type 0
IsTable facts = AllPairs (λ a b. fact_cmp a b ≡ Less) facts

-- a fact with this relation and this row has a span with the instant
abbrev pub HasAt : List Fact → ℕ → List ConstId → ℤ → Type 0
HasAt facts relation row t = Any (λ fact. (fact.relation ≡ relation) × (fact.row ≡ row) × Has fact.span t) facts
