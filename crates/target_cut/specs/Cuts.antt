-- What a cut of a component changes, and what it is in the journal of a settling.
use Rattle.std.specs.Prelude.{◌≡◌, ◌⊎◌, ℤ, ℕ, Some, List, IsSomeAnd, All}
use Rattle.time_line.specs.Span.{Ends, Has}
use Rattle.term_core.specs.declared.const_id.ConstId.{ConstId}
use Rattle.rule_core.specs.Terms.{TermOf}
use Rattle.fact_table.specs.Rows.{row_at}
use Rattle.null_store.specs.Store.{Store, fact_in}
use Rattle.null_store.specs.Splits.{SplitsRows, SplitsPieces, SplitsFacts}
use Rattle.failure_trace.specs.JournalRun.{HoldsTerm}
use Rattle.target_cut.specs.declared.cutting.Cut.{Cut}
use Rattle.target_cut.specs.Component.{IsComponentOf}

-- the rows with the numbers have the span of the row
abbrev pub HaveSpanOf : Store → ℕ → List ℕ → Type 0
HaveSpanOf store row numbers = IsSomeAnd (row_at store.rows row)
    (λ r. All (λ number. IsSomeAnd (row_at store.rows number) (λ other. other.span ≡ r.span)) numbers)

-- exactly the rows of the row's component are cut at the instant; they have one span
pub record CutsComponent (row : ℕ) (m : ℤ) (cut : Cut) (old new : Store) : Type 0 where
  pub component : IsComponentOf old row cut.rows
  pub span : HaveSpanOf old row cut.rows
  pub rows : SplitsRows cut.rows m cut.made old new
  pub pieces : SplitsPieces cut.rows m old new
  pub facts : SplitsFacts cut.rows m old new
  pub names : new.names ≡ old.names

-- the term is an unknown of the row, which has all instants of the span; the instant is an end of the span
pub record IsSideOf (store : Store) (row : ℕ) (term : TermOf ConstId) (c : Ends) (m : ℤ) : Type 0 where
  pub holds : IsSomeAnd (row_at store.rows row) (λ r. HoldsTerm (fact_in store r) term)
  pub covers : IsSomeAnd (row_at store.rows row) (λ r. (t : ℤ) → Has c t → Has r.span t)
  pub end : (c.lo ≡ Some m) ⊎ (c.hi ≡ Some m)
