-- How a store changes.
use Rattle.std.specs.Prelude.{◌≡◌, ◌≢◌, ℤ, ◌==◌, ℕ, ◌+◌, ◌-◌, ◌≤◌, if◌then◌else◌, List, [], ◌∷◌, ◌++◌, All, Contains, IsPermutation, IsSomeAnd, Option, Some, None, ⊤, length, map, flat_map, slice_get, slice_set}
use Rattle.std.specs.Option.{option_map}
use Rattle.time_line.specs.Span.{Ends, Has, Meet}
use Rattle.term_core.specs.declared.term.Seen.{Seen}
use Rattle.term_core.specs.declared.term.Seen.TheVariants.{Const, Piece}
use Rattle.term_core.specs.declared.const_id.ConstId.{ConstId}
use Rattle.rule_core.specs.declared.rules.Tgd.{Tgd}
use Rattle.rule_core.specs.Terms.{named, unknown, TermOf, FactOf, StampedOf}
use Rattle.rule_core.specs.Mapping.{RuleSet}
use Rattle.rule_core.specs.Firing.{FiringOf, frontier_of, entry_rows}
use Rattle.fact_table.specs.Rows.{SeenRow, row_at}
use Rattle.null_store.specs.Store.{NameOf, PieceOf, Store, piece_at, term_in, fact_in, facts_in}

-- the store of these parts with nothing in it
abbrev pub IsEmpty : Store → Type 0
IsEmpty store = (store.rows ≡ []) × (store.pieces ≡ []) × (store.names ≡ [])

-- rows, pieces and names are the same
pub record HoldsSame (old new : Store) : Type 0 where
  pub rows : new.rows ≡ old.rows
  pub pieces : new.pieces ≡ old.pieces
  pub names : new.names ≡ old.names

-- there is room for so many rows, cells and pieces more
pub record HasRoom (store : Store) (more_rows more_cells more_pieces : ℕ) : Type 0 where
  pub rows : more_rows ≤ store.spare.rows
  pub cells : more_cells ≤ store.spare.cells
  pub pieces : more_pieces ≤ store.spare.pieces

-- the name has this number
abbrev pub IsNamedAt : Store → ℕ → ℕ → List ConstId → Type 0
IsNamedAt store number rule frontier = slice_get store.names number ≡ Some (record { rule = rule; frontier = frontier })

-- names stay where this one is among them, and else it alone is added last
pub record AddsOnce (old new : List NameOf) (name : NameOf) : Type 0 where
  pub there : Contains old name → new ≡ old
  pub added : ¬ (Contains old name) → new ≡ old ++ name ∷ []

-- rows, pieces and room are the same, and the names before are there with their numbers
pub record KeepsAllButNames (old new : Store) : Type 0 where
  pub rows : new.rows ≡ old.rows
  pub pieces : new.pieces ≡ old.pieces
  pub spare : new.spare ≡ old.spare
  pub names : (more : List NameOf) × (new.names ≡ old.names ++ more)

-- how many cells the rows of a head have
abbrev pub head_cells : Tgd → ℕ
head_cells tgd = length (flat_map (λ atom. atom.args) tgd.head)

-- how many `exists` variables a tgd has
abbrev pub exists_count : Tgd → ℕ
exists_count tgd = length tgd.vars - tgd.body_vars

-- the tgd with the name's place has a frontier of so many variables, and there is room for its head
abbrev pub CanFire : RuleSet → Store → NameOf → Type 0
CanFire rules store name = IsSomeAnd (slice_get rules.tgds name.rule)
    (λ tgd. (length name.frontier ≡ length (frontier_of tgd))
    × HasRoom store (length tgd.head) (head_cells tgd) (exists_count tgd))

-- no row over a span that meets this one holds an unknown of the name
abbrev pub IsFresh : Store → NameOf → Ends → Type 0
IsFresh store name span = All (λ fact. Meet fact.span span
    → (var : ℕ) → ¬ (Contains fact.row.terms (unknown (named name.rule name.frontier var)))) (facts_in store)

-- the firing of a name over a span
abbrev pub firing_at : NameOf → Ends → FiringOf ConstId
firing_at name span = record { rule = name.rule; frontier = name.frontier; span = span }

-- the firing's rows are there too, the others keep their numbers, and names stay; the room is less by at most what the head takes
pub record AddsFiring (rules : RuleSet) (name : NameOf) (span : Ends) (old new : Store) : Type 0 where
  pub rows : IsPermutation (facts_in old ++ entry_rows (λ c. c) rules (firing_at name span)) (facts_in new)
  pub names : new.names ≡ old.names
  pub kept : (number : ℕ) (row : SeenRow) → row_at old.rows number ≡ Some row → row_at new.rows number ≡ Some row
  pub room : IsSomeAnd (slice_get rules.tgds name.rule) (λ tgd.
      (old.spare.rows ≤ new.spare.rows + length tgd.head) × (old.spare.cells ≤ new.spare.cells + head_cells tgd)
      × (old.spare.pieces ≤ new.spare.pieces + exists_count tgd))

-- the value instead of the piece
abbrev pub instead : ℕ → Seen → Seen → Seen
instead piece by (Const c) = Const c
instead piece by (Piece p) = if p == piece then by else Piece p

-- the row with the value in each cell that holds the piece
abbrev pub row_instead : ℕ → Seen → SeenRow → SeenRow
row_instead piece by row = record { relation = row.relation; cells = map (instead piece by) row.cells; span = row.span }

-- each cell that held the piece has the value, all other cells have what they had, and rows keep their numbers
abbrev pub ReplacesCells : List (Option SeenRow) → List (Option SeenRow) → ℕ → Seen → Type 0
ReplacesCells old new piece by = (number : ℕ) → row_at new number ≡ option_map (row_instead piece by) (row_at old number)

-- the value is a constant, or another live piece over the span
abbrev pub CanStandFor : Store → ℕ → PieceOf → Seen → Type 0
CanStandFor store piece its (Const c) = ⊤
CanStandFor store piece its (Piece other) = (other ≢ piece) × IsSomeAnd (piece_at store other) (λ o. o.span ≡ its.span)

-- the value stands in each cell that held the piece, the piece is gone, and all else is as before
pub record Substitutes (piece : ℕ) (by : Seen) (old new : Store) : Type 0 where
  pub cells : ReplacesCells old.rows new.rows piece by
  pub pieces : new.pieces ≡ slice_set old.pieces piece None
  pub names : new.names ≡ old.names
  pub spare : new.spare ≡ old.spare

-- the unknown becomes the other term, and each other term stays
pub record BecomesTerm (unknown other old new : TermOf ConstId) : Type 0 where
  pub its : old ≡ unknown → new ≡ other
  pub rest : ¬ (old ≡ unknown) → new ≡ old

-- in the fact the unknown becomes the other term, and all else stays
pub record BecomesFact (unknown other : TermOf ConstId) (old new : StampedOf (FactOf ConstId)) : Type 0 where
  pub relation : new.row.relation ≡ old.row.relation
  pub arity : length new.row.terms ≡ length old.row.terms
  pub terms : (column : ℕ) (term later : TermOf ConstId) → slice_get old.row.terms column ≡ Some term
      → slice_get new.row.terms column ≡ Some later → BecomesTerm unknown other term later
  pub span : new.span ≡ old.span

-- at the instants of the piece its unknown becomes the other term in each row, and a row that does not hold the piece stays at all
-- instants; rows keep their numbers, and there is no other
pub record SubstitutesTerm (piece : ℕ) (by : Seen) (old new : Store) : Type 0 where
  pub within : (t : ℤ) → IsSomeAnd (piece_at old piece) (λ p. Has p.span t) → (number : ℕ) (row : SeenRow)
      → row_at old.rows number ≡ Some row → Has row.span t
      → IsSomeAnd (row_at new.rows number)
      (λ later. BecomesFact (term_in old (Piece piece)) (term_in old by) (fact_in old row) (fact_in new later))
  pub others : (number : ℕ) (row : SeenRow) → row_at old.rows number ≡ Some row → ¬ (Contains row.cells (Piece piece))
      → IsSomeAnd (row_at new.rows number) (λ later. fact_in new later ≡ fact_in old row)
  pub only : (number : ℕ) → row_at old.rows number ≡ None → row_at new.rows number ≡ None
