-- How the rows of a store become tables. No public clause cites this module.
use Rattle.std.specs.Prelude.{◌≡◌, ◌⊎◌, ◌↔◌, ℕ, ◌<◌, ℤ, Bool, true, List, Some, map, All, AllPairs, Any, Contains}
use Rattle.std.specs.declared.cmp.Ordering.TheVariants.{Less}
use Rattle.std.specs.Option.{option_map}
use Rattle.std.specs.Cmp.Lexicographic.{slice_cmp}
use Rattle.term_core.specs.declared.const_id.ConstId.{ConstId}
use Rattle.term_core.specs.declared.term.Term.{Term}
use Rattle.term_core.specs.declared.term.Term.TheVariants.{Null}
use Rattle.term_core.specs.declared.term.Unknown.{Unknown as HeldUnknown}
use Rattle.term_core.specs.Order.{term_cmp, unknown_cmp}
use Rattle.rule_core.specs.Terms.{StampedOf, FactOf}
use Rattle.rule_core.specs.Values.{term_value, table_value}
use Rattle.rule_core.specs.Tables.{facts_of}
use Rattle.rule_core.specs.Coalesced.{Covers, IsCoalesced}
use Rattle.fact_table.specs.Rows.{SeenRow, row_at}
use Rattle.null_store.specs.Store.{Store, term_in, fact_in, facts_in}
use Rattle.exchange_engine.specs.Solved.{TermTable}

-- the facts of tables of terms
abbrev pub table_facts : List TermTable → List (StampedOf (FactOf ConstId))
table_facts tables = facts_of (map table_value tables)

-- the relation of each row of the store is one of so many
abbrev pub AreBelow : ℕ → Store → Type 0
AreBelow relations store = All (λ fact. fact.row.relation < relations) (facts_in store)

-- the row of terms is the row of the store
pub record IsRowOf (store : Store) (seen : SeenRow) (entry : StampedOf (List Term)) : Type 0 where
  pub terms : map term_value entry.row ≡ map (term_in store) seen.cells
  pub span : entry.span ≡ seen.span

-- the tables have exactly these facts
abbrev pub HaveFacts : List (StampedOf (FactOf ConstId)) → List TermTable → Type 0
HaveFacts facts tables = (fact : StampedOf (FactOf ConstId)) → Contains (table_facts tables) fact ↔ Contains facts fact

-- the tables have the row with the number too, if there is one
abbrev pub AddsRow : Store → ℕ → List TermTable → List TermTable → Type 0
AddsRow store number old new = (fact : StampedOf (FactOf ConstId))
    → Contains (table_facts new) fact
    ↔ (Contains (table_facts old) fact ⊎ (option_map (fact_in store) (row_at store.rows number) ≡ Some fact))

-- the table is coalesced, and covers what the list does
pub record IsCoalescedFrom (list table : TermTable) : Type 0 where
  pub coalesced : IsCoalesced (slice_cmp term_cmp) table
  pub covers : (row : List Term) (t : ℤ) → Covers table row t ↔ Covers list row t

-- the unknown is a term of the row, or of a row of the table
abbrev pub IsUnknownIn : List Term → HeldUnknown → Type 0
IsUnknownIn row u = Contains row (Null u)

abbrev pub IsUnknownAmong : TermTable → HeldUnknown → Type 0
IsUnknownAmong table u = Any (λ e. IsUnknownIn e.row u) table

-- the new list has these unknowns too
abbrev pub AddsUnknowns : (HeldUnknown → Type 0) → List HeldUnknown → List HeldUnknown → Type 0
AddsUnknowns IsOne old new = (u : HeldUnknown) → Contains new u ↔ (Contains old u ⊎ IsOne u)

-- where it is so, each of the unknowns stands before all later ones
abbrev pub AscendIf : Bool → List HeldUnknown → Type 0
AscendIf ascend unknowns = ascend ≡ true → AllPairs (λ u w. unknown_cmp u w ≡ Less) unknowns
