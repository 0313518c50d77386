-- The queries of a mapping as an exchange answers them.
use Rattle.std.specs.Prelude.{◌≡◌, ◌↔◌, ℤ, List, map, length, All}
use Rattle.std.specs.List.{AllZip}
use Rattle.std.specs.Cmp.Lexicographic.{slice_cmp}
use Rattle.term_core.specs.declared.const_id.ConstId.{ConstId}
use Rattle.term_core.specs.declared.term.Term.{Term}
use Rattle.term_core.specs.declared.term.Term.TheVariants.{Const}
use Rattle.term_core.specs.Order.{term_cmp}
use Rattle.rule_core.specs.declared.rules.Query.{Query}
use Rattle.rule_core.specs.Coalesced.{Covers, IsCoalesced}
use Rattle.rule_core.specs.Answers.{IsCertainAt}
use Rattle.fact_table.specs.Snapshots.{stamped_facts}
use Rattle.exchange_engine.specs.Loading.{LoadedOf}
use Rattle.exchange_engine.specs.Solved.{TermTable, IsTermWithin}

-- the row is a list of constants, and they are certain at the instant; constants stand for themselves
abbrev pub IsCertainRow : LoadedOf → Query → ℤ → List Term → Type 0
IsCertainRow loaded query t row = (constants : List ConstId) × (row ≡ map Const constants)
    × IsCertainAt (λ c. c) loaded.rules query (stamped_facts loaded.table) t constants

-- the answers of a query: coalesced, and a row is covered at an instant exactly where it is certain there; the rows are as wide
-- as the query's head, and their constants are numbers of the pool
pub record IsAnsweredBy (loaded : LoadedOf) (query : Query) (list : TermTable) : Type 0 where
  pub coalesced : IsCoalesced (slice_cmp term_cmp) list
  pub certain : (row : List Term) (t : ℤ) → Covers list row t ↔ IsCertainRow loaded query t row
  pub wide : All (λ e. length e.row ≡ length query.head) list
  pub within : All (λ e. All (IsTermWithin (length loaded.pool)) e.row) list

-- a list of answers for each query, in their order
abbrev pub AreAnswered : LoadedOf → List TermTable → Type 0
AreAnswered loaded answers = AllZip (IsAnsweredBy loaded) loaded.rules.queries answers
