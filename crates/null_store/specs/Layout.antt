-- How a `NullStore` lays out its rows, pieces and names. No public clause cites this module.
use Rattle.std.specs.Prelude.{◌≡◌, ◌≢◌, ◌⊎◌, ℕ, ◌+◌, ◌-◌, ◌<◌, ◌≤◌, ℤ, List, [], ◌∷◌, ◌++◌, Option, Some, None, true, false, if◌then◌else◌, IsSomeAnd, IsPermutation, All, Contains, ⊤, length, map, filter_map, slice_get, slice_set, slice_index_or}
use Rattle.std.specs.Option.{option_map, option_map_or, option_or}
use Rattle.time_line.specs.Span.{Ends, Has, IsInside, IsWithinLimit}
use Rattle.term_core.specs.declared.const_id.ConstId.{ConstId}
use Rattle.term_core.specs.declared.term.Unknown.{Unknown as HeldUnknown}
use Rattle.term_core.specs.declared.term.Seen.{Seen}
use Rattle.term_core.specs.declared.term.Seen.TheVariants.{Const, Piece}
use Rattle.rule_core.specs.declared.rules.Arg.{Arg}
use Rattle.rule_core.specs.declared.rules.Arg.TheVariants.{Var, Const as Fixed}
use Rattle.rule_core.specs.declared.rules.Atom.{Atom}
use Rattle.rule_core.specs.declared.rules.Tgd.{Tgd}
use Rattle.rule_core.specs.Frontier.{Occurs}
use Rattle.rule_core.specs.Validity.{IsWithin}
use Rattle.rule_core.specs.Firing.{frontier_of, frontier_value}
use Rattle.fact_table.specs.Rows.{SeenRow, row_at}
use Rattle.row_arena.specs.declared.held.TheConstants.{MOST_COLUMNS}
use Rattle.row_arena.specs.declared.cell.Cell.{Cell}
use Rattle.row_arena.specs.Arena.{Arena, HasCell, cell_in}
use Rattle.null_store.specs.declared.names.Name.{Name}
use Rattle.null_store.specs.declared.piece.NamedPiece.{NamedPiece}
use Rattle.null_store.specs.declared.piece.CellList.{CellList}
use Rattle.null_store.specs.declared.piece.ListedPiece.{ListedPiece}
use Rattle.null_store.specs.declared.firing.TheConstants.{MOST_VARIABLES}
use Rattle.null_store.specs.Changes.{head_cells, exists_count}
use Rattle.null_store.specs.Store.{NameOf, PieceOf, Store, IsStore}
use Rattle.null_store.specs.Splits.{part_before, part_after, row_over, AreOnce, cells_of}
use Rattle.null_store.specs.Lists.{rows_seen}

-- an arena, the pieces that its cells hold, the lists of their cells, and for how many more pieces there is room
pub record LinkedArena : Type 0 where
  pub arena : Arena
  pub pieces : List NamedPiece
  pub lists : List CellList
  pub room : ℕ

-- the same from its parts
abbrev pub linked_of : Arena → List ListedPiece → ℕ → LinkedArena
linked_of arena pieces room = record { arena = arena; pieces = map (λ p. p.named) pieces; lists = map (λ p. p.list) pieces; room = room }

-- no row, no cell and no piece
abbrev pub HoldsNothing : LinkedArena → Type 0
HoldsNothing held = (held.arena.rows ≡ []) × (held.arena.cells ≡ []) × (held.pieces ≡ [])

-- rows, cells and pieces are the same
pub record HasSame (old new : LinkedArena) : Type 0 where
  pub rows : new.arena.rows ≡ old.arena.rows
  pub cells : new.arena.cells ≡ old.arena.cells
  pub pieces : new.pieces ≡ old.pieces
  pub lists : new.lists ≡ old.lists

-- there is room for as many rows, cells and pieces
pub record HasSameRoom (old new : LinkedArena) : Type 0 where
  pub rows : new.arena.spare_rows ≡ old.arena.spare_rows
  pub cells : new.arena.spare_cells ≡ old.arena.spare_cells
  pub pieces : new.room ≡ old.room

-- it is a constant
abbrev pub IsPlain : Seen → Type 0
IsPlain (Const c) = ⊤
IsPlain (Piece p) = ⊥

-- the row with the number has a constant in the column
abbrev pub HasPlain : List (Option SeenRow) → ℕ → ℕ → Type 0
HasPlain rows number column = IsSomeAnd (row_at rows number) (λ row. IsSomeAnd (slice_get row.cells column) IsPlain)

-- the row is there too, under a number that had none
pub record AddsOne (old new : List (Option SeenRow)) (number : ℕ) (row : SeenRow) : Type 0 where
  pub vacant : row_at old number ≡ None
  pub here : row_at new number ≡ Some row
  pub others : (other : ℕ) → other ≢ number → row_at new other ≡ row_at old other

-- a row with another value in a column
abbrev pub with_cell : ℕ → Seen → SeenRow → SeenRow
with_cell column value row = record { relation = row.relation; cells = slice_set row.cells column value; span = row.span }

-- the row has another value in the column, and all else is as before
pub record SetsCell (old new : List (Option SeenRow)) (number column : ℕ) (value : Seen) : Type 0 where
  pub here : row_at new number ≡ option_map (with_cell column value) (row_at old number)
  pub others : (other : ℕ) → other ≢ number → row_at new other ≡ row_at old other

-- the rows are there too, and the others keep their numbers
pub record AddsRows (old new : List (Option SeenRow)) (more : List SeenRow) : Type 0 where
  pub rows : IsPermutation (filter_map (λ row. row) old ++ more) (filter_map (λ row. row) new)
  pub kept : (number : ℕ) (row : SeenRow) → row_at old number ≡ Some row → row_at new number ≡ Some row

-- the cell is there, and so is the last one, if there is one, which is another
pub record CanLink (arena : Arena) (id : ℕ) (last : Option ℕ) : Type 0 where
  pub cell : HasCell arena id
  pub end : (other : ℕ) → last ≡ Some other → HasCell arena other × (other ≢ id)

-- the cell holds the piece, and stands behind the last one; rows and all else are as before
pub record Links (old new : Arena) (id piece : ℕ) (last : Option ℕ) : Type 0 where
  pub rows : new.rows ≡ old.rows
  pub spare_rows : new.spare_rows ≡ old.spare_rows
  pub spare_cells : new.spare_cells ≡ old.spare_cells
  pub here : cell_in new id ≡ option_map (λ c. record { row = c.row; column = c.column; value = Piece piece; before = last; after = None })
      (cell_in old id)
  pub end : (other : ℕ) → last ≡ Some other → cell_in new other
      ≡ option_map (λ c. record { row = c.row; column = c.column; value = c.value; before = c.before; after = Some id }) (cell_in old other)
  pub others : (other : ℕ) → other ≢ id → last ≢ Some other → cell_in new other ≡ cell_in old other

-- a name as callers see it
abbrev pub name_of : Name → NameOf
name_of name = record { rule = name.rule; frontier = name.frontier.items }

-- the unknown of a name for a variable
abbrev pub unknown_in : NameOf → ℕ → HeldUnknown
unknown_in name var = record { rule = name.rule; frontier = name.frontier; var = var }

-- a piece with its name
abbrev pub with_name : NamedPiece → NameOf → PieceOf
with_name piece name = record { unknown = unknown_in name piece.var; span = piece.span }

-- a piece as callers see it, where it has not ended and its name has a number
abbrev pub piece_of : List NameOf → NamedPiece → Option PieceOf
piece_of names piece = if piece.live then option_map (with_name piece) (slice_get names piece.name) else None

-- the piece when it has ended
abbrev pub ended : NamedPiece → NamedPiece
ended piece = record { name = piece.name; var = piece.var; span = piece.span; live = false; twin = piece.twin }

-- the piece with the part before a cut, which knows the piece with the other part
abbrev pub narrowed : Ends → ℕ → NamedPiece → NamedPiece
narrowed before twin piece = record { name = piece.name; var = piece.var; span = before; live = piece.live; twin = twin }

-- the piece with the other part
abbrev pub cut_off : Ends → NamedPiece → NamedPiece
cut_off after piece = record { name = piece.name; var = piece.var; span = after; live = piece.live; twin = 0 }

-- the piece has the part before a cut, and a new piece, which comes last, the other
abbrev pub PartsPiece : List NamedPiece → List NamedPiece → ℕ → Ends → Ends → Type 0
PartsPiece old new piece before after = IsSomeAnd (slice_get old piece)
    (λ p. new ≡ slice_set old piece (narrowed before (length old) p) ++ cut_off after p ∷ [])

-- the piece is split where its span has the instant, and its twin is the new piece; else it has a twin
abbrev pub HasTwin : List NamedPiece → List NamedPiece → ℕ → ℤ → Ends → Ends → ℕ → Type 0
HasTwin old new piece m before after twin = IsSomeAnd (slice_get old piece) (λ p.
    (Has p.span m × PartsPiece old new piece before after × (twin ≡ length old))
    ⊎ (¬ (Has p.span m) × (new ≡ old) × (twin ≡ p.twin)))

-- the row is over another span, and all else is as before
pub record SetsRowSpan (old new : List (Option SeenRow)) (number : ℕ) (span : Ends) : Type 0 where
  pub here : row_at new number ≡ option_map (λ row. record { relation = row.relation; cells = row.cells; span = span }) (row_at old number)
  pub others : (other : ℕ) → other ≢ number → row_at new other ≡ row_at old other

-- the piece has ended, and the others are as before
abbrev pub EndsPiece : List NamedPiece → List NamedPiece → ℕ → Type 0
EndsPiece old new piece = IsSomeAnd (slice_get old piece) (λ p. new ≡ slice_set old piece (ended p))

-- the list of no cell
abbrev pub no_cell : CellList
no_cell = record { first = None; last = None; count = 0 }

-- the last cell, if there is one, leads to the next, and all else is as before
pub record Leads (old new : Arena) (last next : Option ℕ) : Type 0 where
  pub rows : new.rows ≡ old.rows
  pub spare_rows : new.spare_rows ≡ old.spare_rows
  pub spare_cells : new.spare_cells ≡ old.spare_cells
  pub end : (id : ℕ) → last ≡ Some id → cell_in new id
      ≡ option_map (λ c. record { row = c.row; column = c.column; value = c.value; before = c.before; after = next }) (cell_in old id)
  pub others : (id : ℕ) → last ≢ Some id → cell_in new id ≡ cell_in old id

-- the value is a constant, or another of the first n pieces
abbrev pub IsOther : ℕ → ℕ → Seen → Type 0
IsOther n piece (Const c) = ⊤
IsOther n piece (Piece other) = (other < n) × (other ≢ piece)

-- the cell with this value, which stands behind the last one, if there is one, where none stands before it
abbrev pub with_value : Seen → Option ℕ → Cell → Cell
with_value (Const c) last cell = record { row = cell.row; column = cell.column; value = Const c; before = None; after = None }
with_value (Piece p) last cell =
    record { row = cell.row; column = cell.column; value = Piece p; before = option_or cell.before last; after = cell.after }

-- the numbers are those of a list of cells, in which each leads to the next, and none comes twice
pub record IsWalk (cell : ℕ → Option Cell) (list : CellList) (ids : List ℕ) : Type 0 where
  pub first : list.first ≡ slice_get ids 0
  pub count : list.count ≡ length ids
  pub leads : (k id : ℕ) → slice_get ids k ≡ Some id → IsSomeAnd (cell id) (λ c. c.after ≡ slice_get ids (k + 1))
  pub once : (j k id : ℕ) → slice_get ids j ≡ Some id → slice_get ids k ≡ Some id → j ≡ k

-- each of the first n cells has its row at the same place
pub record HasRowsBelow (cell : ℕ → Option Cell) (ids : List ℕ) (n : ℕ) (rows : List ℕ) : Type 0 where
  pub size : length rows ≡ n
  pub each : (k id : ℕ) → k < n → slice_get ids k ≡ Some id → IsSomeAnd (cell id) (λ c. slice_get rows k ≡ Some c.row)

-- the first n cells have the value, and all others are as before
pub record IsRewritten (old new : ℕ → Option Cell) (ids : List ℕ) (n : ℕ) (by : Seen) (last : Option ℕ) : Type 0 where
  pub within : (k id : ℕ) → k < n → slice_get ids k ≡ Some id → new id ≡ option_map (with_value by last) (old id)
  pub others : (id : ℕ) → ((k : ℕ) → k < n → slice_get ids k ≢ Some id) → new id ≡ old id

-- all but what cells hold is as before
pub record KeepsRows (old new : Arena) : Type 0 where
  pub rows : new.rows ≡ old.rows
  pub spare_rows : new.spare_rows ≡ old.spare_rows
  pub spare_cells : new.spare_cells ≡ old.spare_cells

-- a store from its parts
abbrev pub store_of : LinkedArena → List NameOf → Store
store_of held names = record {
  rows = rows_seen held.arena;
  pieces = map (piece_of names) held.pieces;
  names = names;
  spare = record { rows = held.arena.spare_rows; cells = held.arena.spare_cells; pieces = held.room };
}

-- what each store keeps: what callers see is a store, and each piece has a name with a number
pub record IsSound (held : LinkedArena) (names : List NameOf) : Type 0 where
  pub store : IsStore (store_of held names)
  pub named : All (λ piece. piece.name < length names) held.pieces

-- the cell for an argument, where each variable has the value at its place
abbrev pub cell_of : List Seen → Arg → Seen
cell_of values (Var v) = slice_index_or values v (Piece 0)
cell_of values (Fixed c) = Const c

-- the argument's cell is a constant, or one of the first n pieces
abbrev pub IsThere : List Seen → ℕ → Arg → Type 0
IsThere values n arg = (p : ℕ) → cell_of values arg ≡ Piece p → p < n

-- the row for an atom
abbrev pub row_for : List Seen → Ends → Atom → SeenRow
row_for values span atom = record { relation = atom.relation; cells = map (cell_of values) atom.args; span = span }

-- each variable of the frontier that is below n has its value
abbrev pub HasValuesBelow : Tgd → List ConstId → ℕ → List Seen → Type 0
HasValuesBelow tgd frontier n values = (v : ℕ) → v < n → Occurs tgd.head v
    → Some (slice_index_or values v (Piece 0)) ≡ option_map Const (frontier_value (frontier_of tgd) frontier v)

-- each variable of the frontier has its value
abbrev pub HasFrontierValues : Tgd → List ConstId → List Seen → Type 0
HasFrontierValues tgd frontier values = HasValuesBelow tgd frontier tgd.body_vars values

-- the piece for an `exists` variable
abbrev pub piece_for : Tgd → ℕ → Ends → ℕ → NamedPiece
piece_for tgd name span v = record { name = name; var = v - tgd.body_vars; span = span; live = true; twin = 0 }

-- the variable is an `exists` variable that the head has, and its piece is this one of the new pieces
pub record IsPieceOf (tgd : Tgd) (name : ℕ) (span : Ends) (first : ℕ) (more : List NamedPiece) (values : List Seen) (v k : ℕ) : Type 0 where
  pub exists : tgd.body_vars ≤ v
  pub occurs : Occurs tgd.head v
  pub piece : slice_get more k ≡ Some (piece_for tgd name span v)
  pub value : slice_index_or values v (Piece 0) ≡ Piece (first + k)

-- there is a new piece for each `exists` variable below n that the head has, and no other
pub record AddsPieces (tgd : Tgd) (name : ℕ) (span : Ends) (old more : List NamedPiece) (values : List Seen) (n : ℕ) : Type 0 where
  pub each : (v : ℕ) → tgd.body_vars ≤ v → v < n → Occurs tgd.head v → (k : ℕ) × IsPieceOf tgd name span (length old) more values v k
  pub only : (k : ℕ) → k < length more → (v : ℕ) × (v < n) × IsPieceOf tgd name span (length old) more values v k
  pub few : length more ≤ n - tgd.body_vars

-- a tgd can fire with these values of its frontier in this room
pub record IsReady (tgd : Tgd) (frontier : List ConstId) (held : LinkedArena) : Type 0 where
  pub few : length tgd.vars ≤ MOST_VARIABLES
  pub within : tgd.body_vars ≤ length tgd.vars
  pub safe : All (λ atom. All (IsWithin (length tgd.vars)) atom.args) tgd.head
  pub narrow : All (λ atom. length atom.args ≤ MOST_COLUMNS) tgd.head
  pub size : length frontier ≡ length (frontier_of tgd)
  pub rows : length tgd.head ≤ held.arena.spare_rows
  pub cells : head_cells tgd ≤ held.arena.spare_cells
  pub pieces : exists_count tgd ≤ held.room

-- there are the rows and pieces too that the tgd makes for these values of its frontier, over the span
pub record IsFired (tgd : Tgd) (frontier : List ConstId) (name : ℕ) (span : Ends) (old new : LinkedArena) : Type 0 where
  pub values : List Seen
  pub more : List NamedPiece
  pub rows : AddsRows (rows_seen old.arena) (rows_seen new.arena) (map (row_for values span) tgd.head)
  pub pieces : new.pieces ≡ old.pieces ++ more
  pub has_values : HasFrontierValues tgd frontier values
  pub adds : AddsPieces tgd name span old.pieces more values (length tgd.vars)

-- the twin of a piece
abbrev pub twin_in : List NamedPiece → ℕ → ℕ
twin_in pieces p = option_map_or (λ piece. piece.twin) (slice_get pieces p) 0

-- the value with the twin of its piece
abbrev pub twin_cell : (ℕ → ℕ) → Seen → Seen
twin_cell twin (Const c) = Const c
twin_cell twin (Piece p) = Piece (twin p)

-- the row over a span, with the twins of its pieces
abbrev pub twin_row : (ℕ → ℕ) → Ends → SeenRow → SeenRow
twin_row twin span row = record { relation = row.relation; cells = map (twin_cell twin) row.cells; span = span }

-- the row can be cut: each piece that it holds is not cut yet and has its span, or has a twin; and there is room
pub record CanCutRow (m : ℤ) (held : LinkedArena) (row : SeenRow) : Type 0 where
  pub inside : IsInside row.span m
  pub pieces : (p : ℕ) → Contains row.cells (Piece p) → IsSomeAnd (slice_get held.pieces p)
      (λ q. (Has q.span m → q.span ≡ row.span) × (¬ (Has q.span m) → q.twin < length held.pieces))
  pub rows : 0 < held.arena.spare_rows
  pub cells : length row.cells ≤ held.arena.spare_cells
  pub room : length row.cells ≤ held.room

-- the row has the part before the cut, its copy stands under a number that had no row, and the others stay
pub record PartsRow (old new : List (Option SeenRow)) (number made : ℕ) (before : Ends) (other : SeenRow) : Type 0 where
  pub here : row_at new number
      ≡ option_map (λ row. record { relation = row.relation; cells = row.cells; span = before }) (row_at old number)
  pub vacant : row_at old made ≡ None
  pub copy : row_at new made ≡ Some other
  pub others : (n : ℕ) → n ≢ number → n ≢ made → row_at new n ≡ row_at old n

-- the piece was cut, and what it was is told by two pieces
pub record IsCut (m : ℤ) (old new : List NamedPiece) (was now : NamedPiece) : Type 0 where
  pub has : Has was.span m
  pub first : now ≡ narrowed (part_before m was.span) now.twin was
  pub second : slice_get new now.twin ≡ Some (cut_off (part_after m was.span) was)
  pub new_twin : length old ≤ now.twin

-- each piece is as it was, or is cut, and each new piece is the twin of one
pub record CutsPieces (m : ℤ) (old new : List NamedPiece) : Type 0 where
  pub kept : (p : ℕ) (was : NamedPiece) → slice_get old p ≡ Some was
      → IsSomeAnd (slice_get new p) (λ now. (now ≡ was) ⊎ IsCut m old new was now)
  pub added : (t : ℕ) (piece : NamedPiece) → length old ≤ t → slice_get new t ≡ Some piece
      → (p : ℕ) × (was now : NamedPiece) × (slice_get old p ≡ Some was) × (slice_get new p ≡ Some now) × IsCut m old new was now
      × (now.twin ≡ t)
  pub grows : length old ≤ length new

-- the pieces of the row are cut, what was cut before stays, and so does what the row does not hold
pub record CutsRow (m : ℤ) (row : SeenRow) (old new : List NamedPiece) : Type 0 where
  pub base : (first : List NamedPiece) → CutsPieces m first old
      → ((p : ℕ) → Contains row.cells (Piece p) → p < length first) → CutsPieces m first new
  pub kept : (p : ℕ) (piece : NamedPiece) → slice_get old p ≡ Some piece → ¬ (Has piece.span m) → slice_get new p ≡ Some piece
  pub cut : (p : ℕ) → Contains row.cells (Piece p) → IsSomeAnd (slice_get new p) (λ q. ¬ (Has q.span m) × (q.twin < length new))
  pub others : (p : ℕ) → p < length old → ¬ (Contains row.cells (Piece p)) → slice_get new p ≡ slice_get old p
  pub grows : length old ≤ length new

-- none of the rows' pieces is cut yet: each has its row's span
pub record CanCutFirst (m : ℤ) (pieces : List NamedPiece) (row : SeenRow) : Type 0 where
  pub inside : IsInside row.span m
  pub over : (p : ℕ) → Contains row.cells (Piece p) → IsSomeAnd (slice_get pieces p) (λ q. q.span ≡ row.span)

-- the rows can be cut, one after another
pub record CanCutAll (m : ℤ) (held : LinkedArena) (numbers : List ℕ) : Type 0 where
  pub limit : IsWithinLimit (Some m)
  pub once : AreOnce numbers
  pub each : (number : ℕ) → Contains numbers number → IsSomeAnd (row_at (rows_seen held.arena) number) (CanCutFirst m held.pieces)
  pub rows : length numbers ≤ held.arena.spare_rows
  pub cells : cells_of (rows_seen held.arena) numbers ≤ held.arena.spare_cells
  pub room : cells_of (rows_seen held.arena) numbers ≤ held.room

-- the row is cut, its copy stands under a number that had no row, and its pieces are cut
pub record CutsOne (m : ℤ) (old new : List (Option SeenRow)) (pieces : List NamedPiece) (number copy : ℕ) (row : SeenRow) : Type 0 where
  pub here : row_at new number ≡ Some (row_over (part_before m) row)
  pub vacant : row_at old copy ≡ None
  pub there : row_at new copy ≡ Some (twin_row (twin_in pieces) (part_after m row.span) row)
  pub cut : (p : ℕ) → Contains row.cells (Piece p) → IsSomeAnd (slice_get pieces p) (λ q. ¬ (Has q.span m) × (q.twin < length pieces))

-- each of the rows is cut, its copy has the number at the same place, and pieces that no such row holds stay
pub record CutsAll (m : ℤ) (numbers made : List ℕ) (old new : LinkedArena) : Type 0 where
  pub size : length made ≡ length numbers
  pub once : AreOnce made
  pub each : (k number copy : ℕ) (row : SeenRow) → slice_get numbers k ≡ Some number → slice_get made k ≡ Some copy
      → row_at (rows_seen old.arena) number ≡ Some row
      → CutsOne m (rows_seen old.arena) (rows_seen new.arena) new.pieces number copy row
  pub others : (number : ℕ) → ¬ (Contains numbers number) → ¬ (Contains made number)
      → row_at (rows_seen new.arena) number ≡ row_at (rows_seen old.arena) number
  pub pieces : CutsPieces m old.pieces new.pieces
  pub uncut : (p : ℕ) → p < length old.pieces
      → ((number : ℕ) (row : SeenRow) → Contains numbers number → row_at (rows_seen old.arena) number ≡ Some row
      → ¬ (Contains row.cells (Piece p)))
      → slice_get new.pieces p ≡ slice_get old.pieces p
  pub rows : new.arena.spare_rows + length numbers ≡ old.arena.spare_rows
  pub cells : new.arena.spare_cells + cells_of (rows_seen old.arena) numbers ≡ old.arena.spare_cells
  pub room : old.room ≤ new.room + cells_of (rows_seen old.arena) numbers
