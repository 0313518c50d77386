-- The rows of an arena as its cells are added and written.
use Rattle.std.proofs.Common.{◌≡◌, ◌≢◌, ℕ, zero, suc, ◌<◌, ◌≤◌, Option, Some, None, List, [], ◌∷◌, length, map, get_or, set, refl, sym, ap, ◌∙◌, subst, arith, ⊎_elim, All}
use Rattle.std.specs.Prelude.{slice_get, IsSome, IsSomeAnd}
use Rattle.std.specs.Option.{option_and_then, option_map, option_map_or}
use Rattle.std.proofs.lemmas.Option.{slice_get-map, slice_get_within, slice_get-get_or}
use Rattle.std.proofs.lemmas.List.{length-map}
use Rattle.time_line.specs.Span.{Ends}
use Rattle.term_core.specs.declared.term.Seen.{Seen}
use Rattle.term_core.specs.declared.term.Seen.TheVariants.{Const, Piece}
use Rattle.fact_table.specs.Rows.{SeenRow, row_at, HasCell, head_at, cell_at}
use Rattle.fact_table.specs.declared.fact.RowHead.{RowHead}
use Rattle.row_arena.specs.declared.held.TheConstants.{MOST_COLUMNS}
use Rattle.row_arena.specs.declared.cell.Cell.{Cell}
use Rattle.row_arena.specs.declared.cell.ArenaRow.{ArenaRow}
use Rattle.row_arena.specs.Arena.{RowOf, Arena, IsArena, HasRow, HasColumn, StandsAt, row_in, cell_in, head_of}
use Rattle.row_arena.specs.Changes.{AddsRow, SetsSpan, new_cell, with_content}
use Rattle.row_arena.proofs.LookUpLemmas.{written_here, written_else}
use Rattle.term_core.specs.declared.const_id.ConstId.{ConstId}
use Rattle.null_store.specs.declared.piece.CellList.{CellList}
use Rattle.null_store.specs.Lists.{value_at, seen_in, rows_seen, AreListed}
use Rattle.null_store.specs.declared.piece.ListedPiece.{ListedPiece}
use Rattle.null_store.specs.Layout.{LinkedArena, linked_of, IsPlain, HasPlain, AddsOne, with_cell, SetsCell, SetsRowSpan, Links}
use Rattle.std.proofs.lemmas.Bool.{cases_eq}
use Rattle.null_store.specs.Changes.{instead, row_instead, ReplacesCells}
use Rattle.null_store.proofs.ListLemmas.{some_and, and_some, same_some, held_at, map_map}
use Rattle.null_store.proofs.LinkLemmas.{plain_piece, lists_stay}

-- what is held at a place, in a list of places as it is mapped
held_map : {X Y : Type 0} (h : X → Y) (xs : List (Option X)) (n : ℕ) → held_at (map (option_map h) xs) n ≡ option_map h (get_or xs n None)
held_map h [] n = refl
held_map h (x ∷ xs) zero = refl
held_map h (x ∷ xs) (suc n) = held_map h xs n

pub row_seen : (arena : Arena) (n : ℕ) → row_at (rows_seen arena) n ≡ option_map (seen_in (cell_in arena)) (row_in arena n)
row_seen arena n = held_map (seen_in (cell_in arena)) arena.rows n

-- lists that are mapped alike, or to another list, or alike but at one place
pub map_same : {X Y : Type 0} (f g : X → Y) (xs : List X) → ((k : ℕ) (x : X) → slice_get xs k ≡ Some x → f x ≡ g x) → map f xs ≡ map g xs
map_same f g [] h = refl
map_same f g (x ∷ xs) h =
    let first = h 0 x refl in
    let rest = map_same f g xs (λ k y e. h (suc k) y e) in
    λ i. first i ∷ rest i

pub map_to : {X Y : Type 0} (f : X → Y) (xs : List X) (ys : List Y) → length xs ≡ length ys
    → ((k : ℕ) (x : X) (y : Y) → slice_get xs k ≡ Some x → slice_get ys k ≡ Some y → f x ≡ y) → map f xs ≡ ys
map_to f [] [] l h = refl
map_to f [] (y ∷ ys) l h = absurd (omega (arith, l))
map_to f (x ∷ xs) [] l h = absurd (omega (arith, l))
map_to f (x ∷ xs) (y ∷ ys) l h =
    let first = h 0 x y refl refl in
    let rest = map_to f xs ys (omega (arith, l)) (λ k z w a b. h (suc k) z w a b) in
    λ i. first i ∷ rest i

map_set : {X Y : Type 0} (f g : X → Y) (xs : List X) (k : ℕ) (x : X) (v : Y) → slice_get xs k ≡ Some x → g x ≡ v
    → ((j : ℕ) (y : X) → j ≢ k → slice_get xs j ≡ Some y → g y ≡ f y) → map g xs ≡ set (map f xs) k v
map_set f g [] k x v e w h = absurd cc
map_set {X} {Y} f g (y ∷ xs) zero x v e w h =
    let same : y ≡ x = cc in
    let first : g y ≡ v = ap g same ∙ w in
    let rest = map_same g f xs (λ j z at. h (suc j) z (λ clash. omega (arith, clash)) at) in
    λ i. first i ∷ rest i
map_set f g (y ∷ xs) (suc k) x v e w h =
    let first = h 0 y (λ clash. omega (arith, clash)) refl in
    let rest = map_set f g xs k x v e w (λ j z differ at. h (suc j) z (λ same. differ (omega (arith, same))) at) in
    λ i. first i ∷ rest i

-- a row whose cells hold the same is seen the same
seen_same : (f g : ℕ → Option Cell) (r : RowOf) → ((k id : ℕ) → slice_get r.cells k ≡ Some id → value_at g id ≡ value_at f id)
    → seen_in g r ≡ seen_in f r
seen_same f g r h =
    let cells = map_same (value_at g) (value_at f) r.cells h in
    λ i. record { relation = r.relation; cells = cells i; span = r.span }

option_same : (f g : ℕ → Option Cell) (o : Option RowOf)
    → ((r : RowOf) (k id : ℕ) → o ≡ Some r → slice_get r.cells k ≡ Some id → value_at g id ≡ value_at f id)
    → option_map (seen_in g) o ≡ option_map (seen_in f) o
option_same f g None h = refl
option_same f g (Some r) h = ap Some (seen_same f g r (λ k id e. h r k id refl e))

pub value_is : (f : ℕ → Option Cell) (id : ℕ) (c : Cell) → f id ≡ Some c → value_at f id ≡ c.value
value_is f id c e = ap (λ (o : Option Cell). option_map_or (λ w. w.value) o (Const (record { 0 = 0 }))) e

-- a row is added
module _ (old new : Arena) (number relation : ℕ) (span : Ends) (values : List Seen) (adds : AddsRow old new number relation span values)
    (before : IsArena (row_in old) (cell_in old)) (after : IsArena (row_in new) (cell_in new)) where
  cells_stay : (r : RowOf) (n k id : ℕ) → row_in old n ≡ Some r → slice_get r.cells k ≡ Some id
      → value_at (cell_in new) id ≡ value_at (cell_in old) id
  cells_stay r n k id e at =
      let c = some_and (λ (c : Cell). StandsAt c n k) (cell_in old id) (before.columns n r e k id at) in
      value_is (cell_in new) id c.0 (adds.cells id c.0 c.1) ∙ sym (value_is (cell_in old) id c.0 c.1)

  new_values : map (value_at (cell_in new)) adds.ids ≡ values
  new_values = map_to (value_at (cell_in new)) adds.ids values adds.size (λ k id v a b.
      value_is (cell_in new) id (new_cell number k v) (adds.each k id v a b))

  pub adds_one : AddsOne (rows_seen old) (rows_seen new) number (record { relation = relation; cells = values; span = span })
  adds_one = record {
    vacant = row_seen old number ∙ ap (option_map (seen_in (cell_in old))) adds.vacant;
    here = row_seen new number ∙ ap (option_map (seen_in (cell_in new))) adds.row
        ∙ (λ i. Some (record { relation = relation; cells = new_values i; span = span }));
    others = λ n differ. row_seen new n ∙ ap (option_map (seen_in (cell_in new))) (adds.rows n differ)
        ∙ option_same (cell_in old) (cell_in new) (row_in old n) (λ r k id e at. cells_stay r n k id e at) ∙ sym (row_seen old n);
  }

  -- its cells hold no piece
  from_old : All IsPlain values → (id : ℕ) (c : Cell) (p : ℕ) → c.value ≡ Piece p → cell_in new id ≡ Some c → cell_in old id ≡ Some c
  from_old plain id c p v e = ⊎_elim
      (λ (o : cell_in old id ≡ Some c). o)
      (λ (its : c.row ≡ number).
      let r = some_and (λ (r : RowOf). slice_get r.cells c.column ≡ Some id) (row_in new c.row) (after.placed id c e) in
      let w : RowOf = record { relation = relation; span = span; cells = adds.ids } in
      let same = same_some (row_in new number) r.0 w (sym (ap (row_in new) its) ∙ r.1) adds.row in
      let at : slice_get adds.ids c.column ≡ Some id = sym (ap (λ (q : RowOf). slice_get q.cells c.column) same) ∙ r.2 in
      let within : c.column < length values = omega (arith, slice_get_within adds.ids c.column id at, adds.size) in
      let seen = get_or values c.column c.value in
      let holds = adds.each c.column id seen at (slice_get-get_or values c.column c.value within) in
      let value = ap (λ (q : Cell). q.value) (same_some (cell_in new id) c (new_cell number c.column seen) e holds) in
      absurd (plain_piece seen p (plain c.column c.value within) (sym value ∙ v)))
      (adds.only id c e)

  pub lists_kept : (lists : List CellList) → All IsPlain values → AreListed (cell_in old) lists → AreListed (cell_in new) lists
  lists_kept lists plain h =
      lists_stay (cell_in old) (cell_in new) lists (λ id c p v e. adds.cells id c e) (from_old plain) h

-- a cell of a row that has it
module _ (arena : Arena) (row column : ℕ) (has : HasCell (rows_seen arena) row column) where
  its_row : (r : RowOf) × (row_in arena row ≡ Some r) × (column < length r.cells)
  its_row = by (row_in arena row) refl (subst (λ o. IsSomeAnd o (λ r. column < length r.cells)) (row_seen arena row) has)
    where
      by : (o : Option RowOf) → row_in arena row ≡ o → IsSomeAnd (option_map (seen_in (cell_in arena)) o) (λ r. column < length r.cells)
          → (r : RowOf) × (row_in arena row ≡ Some r) × (column < length r.cells)
      by None e h = absurd h
      by (Some r) e h = (r, e, omega (arith, h, length-map r.cells (value_at (cell_in arena))))

  pub has_column : HasColumn arena row column
  has_column = let r = its_row in and_some (λ (w : RowOf). column < length w.cells) (row_in arena row) r.0 r.1 r.2

  pub cell_seen : (id : ℕ) (c : Cell) → IsSomeAnd (row_in arena row) (λ r. slice_get r.cells column ≡ Some id) → cell_in arena id ≡ Some c
      → cell_at (rows_seen arena) row column ≡ Some c.value
  cell_seen id c number e =
      let r = some_and (λ (w : RowOf). slice_get w.cells column ≡ Some id) (row_in arena row) number in
      ap (option_and_then (λ (w : SeenRow). slice_get w.cells column))
      (row_seen arena row ∙ ap (option_map (seen_in (cell_in arena))) r.1)
      ∙ slice_get-map (value_at (cell_in arena)) r.0.cells column ∙ ap (option_map (value_at (cell_in arena))) r.2
      ∙ ap Some (value_is (cell_in arena) id c e)

-- what has a constant has a cell
pub plain_has : (rows : List (Option SeenRow)) (row column : ℕ) → HasPlain rows row column → HasCell rows row column
plain_has rows row column h =
    let r = some_and (λ (w : SeenRow). IsSomeAnd (slice_get w.cells column) IsPlain) (row_at rows row) h in
    let v = some_and IsPlain (slice_get r.0.cells column) r.2 in
    and_some (λ (w : SeenRow). column < length w.cells) (row_at rows row) r.0 r.1 (slice_get_within r.0.cells column v.0 v.1)

-- and the cell holds it
pub plain_cell : (arena : Arena) (row column id : ℕ) → HasPlain (rows_seen arena) row column
    → IsSomeAnd (row_in arena row) (λ r. slice_get r.cells column ≡ Some id) → IsSomeAnd (cell_in arena id) (λ c. StandsAt c row column)
    → (c : Cell) × (cell_in arena id ≡ Some c) × IsPlain c.value
plain_cell arena row column id h number there =
    let c = some_and (λ (c : Cell). StandsAt c row column) (cell_in arena id) there in
    let seen = cell_seen arena row column (plain_has (rows_seen arena) row column h) id c.0 number c.1 in
    let r = some_and (λ (w : SeenRow). IsSomeAnd (slice_get w.cells column) IsPlain) (row_at (rows_seen arena) row) h in
    let v = some_and IsPlain (slice_get r.0.cells column) r.2 in
    let same = same_some (cell_at (rows_seen arena) row column) v.0 c.0.value
    (ap (option_and_then (λ (w : SeenRow). slice_get w.cells column)) r.1 ∙ v.1) seen in
    (c.0, c.1, subst IsPlain same v.2)

-- a cell is written
module _ (old new : Arena) (ok : IsArena (row_in old) (cell_in old)) (row column id : ℕ) (v : Seen) (rows : new.rows ≡ old.rows)
    (number : IsSomeAnd (row_in old row) (λ r. slice_get r.cells column ≡ Some id))
    (there : IsSomeAnd (cell_in old id) (λ c. StandsAt c row column)) (here : value_at (cell_in new) id ≡ v)
    (values : (other : ℕ) → other ≢ id → value_at (cell_in new) other ≡ value_at (cell_in old) other) where
  same_rows : (n : ℕ) → row_at (rows_seen new) n ≡ option_map (seen_in (cell_in new)) (row_in old n)
  same_rows n = row_seen new n ∙ ap (λ (l : List (Option RowOf)). option_map (seen_in (cell_in new)) (get_or l n None)) rows

  -- another place has another cell
  elsewhere : (r : RowOf) (n k other : ℕ) → row_in old n ≡ Some r → slice_get r.cells k ≡ Some other
      → ¬ ((n ≡ row) × (k ≡ column)) → other ≢ id
  elsewhere r n k other e at differ same =
      let c = some_and (λ (c : Cell). StandsAt c n k) (cell_in old other) (ok.columns n r e k other at) in
      let d = some_and (λ (c : Cell). StandsAt c row column) (cell_in old id) there in
      let both = same_some (cell_in old id) c.0 d.0 (sym (ap (cell_in old) same) ∙ c.1) d.1 in
      differ (sym c.2.row ∙ ap (λ (w : Cell). w.row) both ∙ d.2.row, sym c.2.column ∙ ap (λ (w : Cell). w.column) both ∙ d.2.column)

  pub sets_cell : SetsCell (rows_seen old) (rows_seen new) row column v
  sets_cell = record {
    here =
        let r = some_and (λ (w : RowOf). slice_get w.cells column ≡ Some id) (row_in old row) number in
        let cells = map_set (value_at (cell_in old)) (value_at (cell_in new)) r.0.cells column id v r.2 here (λ j y differ at.
        values y (elsewhere r.0 row j y r.1 at (λ same. differ same.1))) in
        same_rows row ∙ ap (option_map (seen_in (cell_in new))) r.1
        ∙ (λ i. Some (record { relation = r.0.relation; cells = cells i; span = r.0.span }))
        ∙ sym (ap (option_map (with_cell column v)) (row_seen old row ∙ ap (option_map (seen_in (cell_in old))) r.1));
    others = λ n differ. same_rows n
        ∙ option_same (cell_in old) (cell_in new) (row_in old n) (λ r k other e at.
        values other (elsewhere r n k other e at (λ same. differ same.0))) ∙ sym (row_seen old n);
  }

-- the head of a row
pub head_seen : (arena : Arena) (n : ℕ) (head : ArenaRow) → Some head ≡ option_map head_of (row_in arena n)
    → head_at (rows_seen arena) n ≡ Some (record { relation = head.relation; arity = head.arity; span = head.span })
head_seen arena n head e = ap (option_map to_head) (row_seen arena n) ∙ by (row_in arena n) e
  where
    to_head : SeenRow → RowHead
    to_head row = record { relation = row.relation; arity = length row.cells; span = row.span }

    by : (o : Option RowOf) → Some head ≡ option_map head_of o
        → option_map to_head (option_map (seen_in (cell_in arena)) o)
        ≡ Some (record { relation = head.relation; arity = head.arity; span = head.span })
    by None e = absurd cc
    by (Some r) e =
        let same : head ≡ head_of r = cc in
        let size = length-map r.cells (value_at (cell_in arena)) in
        (λ i. Some (record { relation = r.relation; arity = size i; span = r.span }))
        ∙ sym (ap (λ (h : ArenaRow). Some (record { relation = h.relation; arity = h.arity; span = h.span })) same)

pub no_head : (arena : Arena) (n : ℕ) → None ≡ option_map head_of (row_in arena n) → head_at (rows_seen arena) n ≡ None
no_head arena n e = ap (option_map to_head) (row_seen arena n) ∙ by (row_in arena n) e
  where
    to_head : SeenRow → RowHead
    to_head row = record { relation = row.relation; arity = length row.cells; span = row.span }

    by : (o : Option RowOf) → None ≡ option_map head_of o → option_map to_head (option_map (seen_in (cell_in arena)) o) ≡ None
    by None e = refl
    by (Some r) e = absurd cc

-- a piece that is read
pub held_by : (items : List ListedPiece) (room : ℕ) {arena : Arena} (now : LinkedArena) → linked_of arena items room ≡ now
    → (piece : ℕ) → piece < length now.pieces → (p : ListedPiece) → p ≡ get_or items piece p
    → (slice_get items piece ≡ Some p) × (slice_get (map (λ (q : ListedPiece). q.list) items) piece ≡ Some p.list)
held_by items room now view piece l p is =
    let inside : piece < length items = omega (
      arith,
      l,
      ap (λ (h : LinkedArena). length h.pieces) view,
      length-map items (λ (q : ListedPiece). q.named),
    ) in
    let at : slice_get items piece ≡ Some p = slice_get-get_or items piece p inside ∙ ap Some (sym is) in
    (at, slice_get-map (λ (q : ListedPiece). q.list) items piece ∙ ap (option_map (λ (q : ListedPiece). q.list)) at)

-- cells hold the same but for the one that is linked
pub linked_values : (old new : Arena) (id piece : ℕ) (last : Option ℕ) → Links old new id piece last
    → (other : ℕ) → other ≢ id → value_at (cell_in new) other ≡ value_at (cell_in old) other
linked_values old new id piece last links other differ = by last refl
  where
    value : Option Cell → Seen
    value o = option_map_or (λ c. c.value) o (Const (record { 0 = 0 }))

    linked : Cell → Cell
    linked c = record { row = c.row; column = c.column; value = c.value; before = c.before; after = Some id }

    kept : (o : Option Cell) → value (option_map linked o) ≡ value o
    kept None = refl
    kept (Some c) = refl

    by : (o : Option ℕ) → last ≡ o → value_at (cell_in new) other ≡ value_at (cell_in old) other
    by None e = ap value (links.others other differ (λ same. let clash : None ≡ Some other = sym e ∙ same in cc))
    by (Some y) e = ⊎_elim
        (λ (same : y ≡ other). ap value (links.end other (e ∙ ap Some same)) ∙ kept (cell_in old other))
        (λ (n : y ≢ other). ap value (links.others other differ (λ same. let both : Some y ≡ Some other = sym e ∙ same in n cc)))
        (cases_eq y other)

-- a constant is written to a cell that held one
module _ (old new : Arena) (id : ℕ) (constant : ConstId) (is : new ≡ with_content old id (Const constant) None None) (was : Cell)
    (there : cell_in old id ≡ Some was) (plain : IsPlain was.value) where
  abbrev now : Cell
  now = record { row = was.row; column = was.column; value = Const constant; before = None; after = None }

  abbrev blanked : Cell → Cell
  blanked c = record { row = c.row; column = c.column; value = Const constant; before = None; after = None }

  put_here : cell_in new id ≡ Some now
  put_here =
      ap (λ (a : Arena). cell_in a id) is
      ∙ ap (λ (o : Option Cell). get_or (set old.cells id (option_map blanked o)) id None) there
      ∙ written_here old.cells id was now there

  put_else : (other : ℕ) → other ≢ id → cell_in new other ≡ cell_in old other
  put_else other differ = ap (λ (a : Arena). cell_in a other) is ∙ written_else old.cells id other _ differ

  pub put_sets : (row column : ℕ) → IsArena (row_in old) (cell_in old) → IsSomeAnd (row_in old row) (λ r. slice_get r.cells column ≡ Some id)
      → IsSomeAnd (cell_in old id) (λ c. StandsAt c row column) → SetsCell (rows_seen old) (rows_seen new) row column (Const constant)
  put_sets row column ok number at = sets_cell old new ok row column id (Const constant) (ap (λ (a : Arena). a.rows) is) number at
      (value_is (cell_in new) id now put_here)
      (λ other differ. ap (λ (o : Option Cell). option_map_or (λ c. c.value) o (Const (record { 0 = 0 }))) (put_else other differ))

  pub put_lists : (lists : List CellList) → AreListed (cell_in old) lists → AreListed (cell_in new) lists
  put_lists lists h = lists_stay (cell_in old) (cell_in new) lists
      (λ other c p v e. put_else other (λ same. plain_piece was.value p plain
      (ap (λ (w : Cell). w.value) (same_some (cell_in old id) was c there (sym (ap (cell_in old) same) ∙ e)) ∙ v)) ∙ e)
      (λ other c p v e. sym (put_else other (λ same.
      let both : Const constant ≡ Piece p = ap (λ (w : Cell). w.value) (same_some (cell_in new id) now c put_here
      (sym (ap (cell_in new) same) ∙ e)) ∙ v in cc)) ∙ e)
      h

-- a value is written to each cell that holds a piece
module _ (old new : Arena) (ok : IsArena (row_in old) (cell_in old)) (rows : new.rows ≡ old.rows) (piece : ℕ) (by : Seen)
    (values : (id : ℕ) (c : Cell) → cell_in old id ≡ Some c → value_at (cell_in new) id ≡ instead piece by c.value) where
  pub replaces_cells : ReplacesCells (rows_seen old) (rows_seen new) piece by
  replaces_cells n = row_seen new n ∙ ap (λ (l : List (Option RowOf)). option_map (seen_in (cell_in new)) (get_or l n None)) rows
      ∙ of_row (row_in old n) refl ∙ sym (ap (option_map (row_instead piece by)) (row_seen old n))
    where
      of_row : (o : Option RowOf) → row_in old n ≡ o
          → option_map (seen_in (cell_in new)) o ≡ option_map (row_instead piece by) (option_map (seen_in (cell_in old)) o)
      of_row None e = refl
      of_row (Some r) e =
          let cells = map_same (value_at (cell_in new)) (λ id. instead piece by (value_at (cell_in old) id)) r.cells (λ k id at.
          let c = some_and (λ (c : Cell). StandsAt c n k) (cell_in old id) (ok.columns n r e k id at) in
          values id c.0 c.1 ∙ ap (instead piece by) (sym (value_is (cell_in old) id c.0 c.1)))
          ∙ sym (map_map (instead piece by) (value_at (cell_in old)) r.cells) in
          λ i. Some (record { relation = r.relation; cells = cells i; span = r.span })

-- a row gets another span
module _ (old new : Arena) (number : ℕ) (span : Ends) (sets : SetsSpan old new number span) where
  same_cells : (id : ℕ) → cell_in new id ≡ cell_in old id
  same_cells id = ap (λ (l : List (Option Cell)). get_or l id None) sets.cells

  pub span_listed : (lists : List CellList) → AreListed (cell_in old) lists → AreListed (cell_in new) lists
  span_listed lists h = lists_stay (cell_in old) (cell_in new) lists (λ id c p v e. same_cells id ∙ e) (λ id c p v e. sym (same_cells id) ∙ e) h

  same_seen : (o : Option RowOf) → option_map (seen_in (cell_in new)) o ≡ option_map (seen_in (cell_in old)) o
  same_seen o = option_same (cell_in old) (cell_in new) o (λ r k id e at.
      ap (λ (c : Option Cell). option_map_or (λ w. w.value) c (Const (record { 0 = 0 }))) (same_cells id))

  pub sets_row_span : SetsRowSpan (rows_seen old) (rows_seen new) number span
  sets_row_span = record {
    here = row_seen new number ∙ ap (option_map (seen_in (cell_in new))) sets.row
        ∙ same_seen (option_map over (row_in old number)) ∙ over_seen (row_in old number)
        ∙ sym (ap (option_map seen_over) (row_seen old number));
    others = λ n differ. row_seen new n ∙ ap (option_map (seen_in (cell_in new))) (sets.rows n differ) ∙ same_seen (row_in old n)
        ∙ sym (row_seen old n);
  }
    where
      over : RowOf → RowOf
      over r = record { relation = r.relation; span = span; cells = r.cells }

      seen_over : SeenRow → SeenRow
      seen_over row = record { relation = row.relation; cells = row.cells; span = span }

      over_seen : (o : Option RowOf) → option_map (seen_in (cell_in old)) (option_map over o)
          ≡ option_map seen_over (option_map (seen_in (cell_in old)) o)
      over_seen None = refl
      over_seen (Some r) = refl

pub has_row : (arena : Arena) (number : ℕ) → IsSome (row_at (rows_seen arena) number) → HasRow arena number
has_row arena number h = by (row_in arena number) (subst (λ o. IsSome o) (row_seen arena number) h)
  where
    by : (o : Option RowOf) → IsSome (option_map (seen_in (cell_in arena)) o) → IsSome o
    by None e = e
    by (Some r) e = refl

-- a row has no more cells than a row may have
pub few_cells : (arena : Arena) → IsArena (row_in arena) (cell_in arena) → (number : ℕ) (row : SeenRow)
    → row_at (rows_seen arena) number ≡ Some row → length row.cells ≤ MOST_COLUMNS
few_cells arena ok number row e = by (row_in arena number) refl (sym (row_seen arena number) ∙ e)
  where
    by : (o : Option RowOf) → row_in arena number ≡ o → option_map (seen_in (cell_in arena)) o ≡ Some row → length row.cells ≤ MOST_COLUMNS
    by None is h = absurd cc
    by (Some r) is h =
        let same : seen_in (cell_in arena) r ≡ row = cc in
        subst (λ (w : SeenRow). length w.cells ≤ MOST_COLUMNS) same
        (omega (arith, ok.few number r is, length-map r.cells (value_at (cell_in arena))))
