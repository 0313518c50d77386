-- The sides of an equality in the rows of a store, and how the one is replaced by the other. No public clause cites this module.
use Rattle.std.specs.Prelude.{◌≡◌, ◌⊎◌, ℕ, ℤ, List, Some, IsPermutation, IsSomeAnd, map, slice_get, ⊤}
use Rattle.time_line.specs.Span.{Ends, Has}
use Rattle.term_core.specs.declared.const_id.ConstId.{ConstId}
use Rattle.term_core.specs.declared.term.Seen.{Seen}
use Rattle.term_core.specs.declared.term.Seen.TheVariants.{Const, Piece}
use Rattle.term_core.specs.Order.{id_cmp}
use Rattle.rule_core.specs.Terms.{TermOf, constant, unknown}
use Rattle.fact_table.specs.Rows.{SeenRow, row_at}
use Rattle.body_match.specs.declared.found.Match.{Match}
use Rattle.failure_trace.specs.Equating.{Replacement, replacement_of}
use Rattle.failure_trace.specs.JournalRun.{StandsOver, replaced_over}
use Rattle.null_store.specs.Store.{Store, IsLive, term_in, fact_in, facts_in}
use Rattle.egd_chase.specs.declared.sides.Side.{Side}

-- the terms of a match's values
abbrev pub match_terms : Store → Match → List (TermOf ConstId)
match_terms store found = map (term_in store) found.binding

-- the value is a constant
abbrev pub IsConstant : Seen → Type 0
IsConstant (Const c) = ⊤
IsConstant (Piece p) = ⊥

-- the value is a constant, or the number of a live piece
abbrev pub IsHeld : Store → Seen → Type 0
IsHeld store (Const c) = ⊤
IsHeld store (Piece p) = IsLive store p

-- the match gives the variable a constant
abbrev pub IsConstantIn : Match → ℕ → Type 0
IsConstantIn found variable = IsSomeAnd (slice_get found.binding variable) IsConstant

-- the term is an unknown
abbrev pub IsUnknownTerm : TermOf ConstId → Type 0
IsUnknownTerm (constant c) = ⊥
IsUnknownTerm (unknown u) = ⊤

-- the row of the side is there, has the term in the side's column, and its span has all of the other span
pub record HoldsSide (store : Store) (term : TermOf ConstId) (c : Ends) (side : Side) : Type 0 where
  pub row : SeenRow
  pub there : row_at store.rows side.row ≡ Some row
  pub term_is : slice_get (fact_in store row).row.terms side.column ≡ Some term
  pub covers : (t : ℤ) → Has c t → Has row.span t

-- where the term is an unknown, the row of the side is over exactly the span
abbrev pub IsFitted : Store → TermOf ConstId → Ends → Side → Type 0
IsFitted store term c side = IsUnknownTerm term → IsSomeAnd (row_at store.rows side.row) (λ row. row.span ≡ c)

-- the two sides stand in these cells, in rows over the span where they are unknowns
pub record AreFitted (store : Store) (l r : TermOf ConstId) (c : Ends) (left right : Side) : Type 0 where
  pub left_held : HoldsSide store l c left
  pub right_held : HoldsSide store r c right
  pub left_over : IsFitted store l c left
  pub right_over : IsFitted store r c right

-- two different terms, not both constants
pub record CanBeEqual (l r : TermOf ConstId) : Type 0 where
  pub different : ¬ (l ≡ r)
  pub one_unknown : IsUnknownTerm l ⊎ IsUnknownTerm r

-- over the span the one of the terms is replaced by the other, and there they stood only in rows over it
pub record Replaces (l r : TermOf ConstId) (c : Ends) (old new : Store) : Type 0 where
  pub replacement : Replacement ConstId
  pub sides : replacement_of id_cmp l r ≡ Some replacement
  pub left : StandsOver (facts_in old) l c
  pub right : StandsOver (facts_in old) r c
  pub replaced : IsPermutation (map (replaced_over id_cmp replacement c) (facts_in old)) (facts_in new)
