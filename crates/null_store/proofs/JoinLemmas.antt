-- The lists of cells as another value is written to each cell that holds a piece.
use Rattle.std.proofs.Common.{◌≡◌, ◌≢◌, ◌⊎◌, inl, inr, ℕ, zero, suc, ◌+◌, ◌-◌, ◌<◌, ◌≤◌, if◌then◌else◌, Option, Some, None, List, [], ◌∷◌, ◌++◌, length, set, refl, sym, ap, ◌∙◌, subst, arith, ⊎_elim}
use Rattle.std.specs.Prelude.{slice_get, IsSomeAnd}
use Rattle.std.specs.Option.{option_map, option_or}
use Rattle.std.proofs.lemmas.Bool.{cases_lt, cases_eq, ne_eqb, eq-eqb}
use Rattle.std.proofs.lemmas.List.{length-append, length-set}
use Rattle.std.proofs.lemmas.Option.{slice_get_within, slice_get-get_or}
use Rattle.term_core.specs.declared.const_id.ConstId.{ConstId}
use Rattle.term_core.specs.declared.term.Seen.{Seen}
use Rattle.term_core.specs.declared.term.Seen.TheVariants.{Const, Piece}
use Rattle.row_arena.specs.declared.cell.Cell.{Cell}
use Rattle.null_store.specs.declared.piece.CellList.{CellList}
use Rattle.null_store.specs.Changes.{instead}
use Rattle.null_store.specs.Lists.{value_at, before_in, IsLinked, IsOccurrenceList, HasEnds, AreListed}
use Rattle.null_store.specs.Layout.{IsWalk, IsRewritten, with_value, no_cell}
use Rattle.null_store.proofs.ListLemmas.{some_and, and_some, same_some, in_front, behind, set_here, set_else}
use Rattle.null_store.proofs.LinkLemmas.{same_piece, list_stays, few_below}
use Rattle.null_store.proofs.ViewLemmas.{value_is}

-- a list of cells that hold a piece is walked
pub walk_of : (f : ℕ → Option Cell) (piece : ℕ) (list : CellList) (ids : List ℕ) → HasEnds list ids → IsOccurrenceList f piece ids
    → IsWalk f list ids
walk_of f piece list ids ends its = record {
  first = ends.first;
  count = ends.count;
  leads = λ k id e.
      let c = some_and (IsLinked piece ids k) (f id) (its.linked k id e) in
      and_some (λ (w : Cell). w.after ≡ slice_get ids (k + 1)) (f id) c.0 c.1 c.2.after;
  once = its.once;
}

-- the number is this one, or not
pub is_it : (o : Option ℕ) (id : ℕ) → (o ≡ Some id) ⊎ (o ≢ Some id)
is_it None id = inr (λ e. cc)
is_it (Some y) id = ⊎_elim
    (λ (same : y ≡ id). inl (ap Some same))
    (λ (differ : y ≢ id). inr (λ e. differ cc))
    (cases_eq y id)

-- the value is the piece, or not
pub is_piece : (v : Seen) (piece : ℕ) → (v ≡ Piece piece) ⊎ ¬ (v ≡ Piece piece)
is_piece (Const c) piece = inr (λ e. cc)
is_piece (Piece p) piece = ⊎_elim
    (λ (same : p ≡ piece). inl (ap Piece same))
    (λ (differ : p ≢ piece). inr (λ e. differ cc))
    (cases_eq p piece)

pub instead_here : (piece : ℕ) (by v : Seen) → v ≡ Piece piece → instead piece by v ≡ by
instead_here piece by v e =
    ap (instead piece by) e ∙ ap (λ b. if b then by else Piece piece) (eq-eqb piece piece refl)

pub instead_else : (piece : ℕ) (by v : Seen) → ¬ (v ≡ Piece piece) → instead piece by v ≡ v
instead_else piece by (Const c) n = refl
instead_else piece by (Piece p) n = ap (λ b. if b then by else Piece p) (ne_eqb p piece (λ e. n (ap Piece e)))

value_of : (by : Seen) (last : Option ℕ) (c : Cell) → (with_value by last c).value ≡ by
value_of (Const k) last c = refl
value_of (Piece p) last c = refl

-- a cell that leads to another
abbrev pub led : Option ℕ → Cell → Cell
led next c = record { row = c.row; column = c.column; value = c.value; before = c.before; after = next }

-- the cells of a piece are written once the last cell of another leads to them
module _ (f h g : ℕ → Option Cell) (piece : ℕ) (ids : List ℕ) (its : IsOccurrenceList f piece ids) (last next : Option ℕ)
    (end : (id : ℕ) → last ≡ Some id → h id ≡ option_map (led next) (f id))
    (else_same : (id : ℕ) → last ≢ Some id → h id ≡ f id)
    (another : (id : ℕ) (c : Cell) → last ≡ Some id → f id ≡ Some c → ¬ (c.value ≡ Piece piece)) where
  -- the cells are as they were
  still : (id : ℕ) (c : Cell) → f id ≡ Some c → c.value ≡ Piece piece → h id ≡ Some c
  still id c e v = else_same id (λ l. another id c l e v) ∙ e

  pub walk_led : (list : CellList) → HasEnds list ids → IsWalk h list ids
  walk_led list ends = record {
    first = ends.first;
    count = ends.count;
    leads = λ k id e.
        let c = some_and (IsLinked piece ids k) (f id) (its.linked k id e) in
        and_some (λ (w : Cell). w.after ≡ slice_get ids (k + 1)) (h id) c.0 (still id c.0 c.1 c.2.value) c.2.after;
    once = its.once;
  }

  module _ (n : ℕ) (size : n ≡ length ids) (by : Seen) (written : IsRewritten h g ids n by last) where
    pub moved : (id : ℕ) (c : Cell) → f id ≡ Some c → c.value ≡ Piece piece → g id ≡ Some (with_value by last c)
    moved id c e v =
        let k = its.all id c e v in
        let within = slice_get_within ids k.0 id k.1 in
        written.within k.0 id (omega (arith, within, size)) k.1 ∙ ap (option_map (with_value by last)) (still id c e v)

    untouched : (id : ℕ) → ((c : Cell) → f id ≡ Some c → ¬ (c.value ≡ Piece piece)) → g id ≡ h id
    untouched id never = written.others id (λ k l at.
        let c = some_and (IsLinked piece ids k) (f id) (its.linked k id at) in never c.0 c.1 c.2.value)

    pub tail : (id : ℕ) (c : Cell) → last ≡ Some id → f id ≡ Some c → g id ≡ Some (led next c)
    tail id c l e =
        untouched id (λ d at. another id d l at) ∙ end id l ∙ ap (option_map (led next)) e

    pub rest : (id : ℕ) → ((c : Cell) → f id ≡ Some c → ¬ (c.value ≡ Piece piece)) → last ≢ Some id → g id ≡ f id
    rest id never other = untouched id never ∙ else_same id other

module _ (f g : ℕ → Option Cell) (lists : List CellList) (listed : AreListed f lists) (piece : ℕ) (by : Seen) (last next : Option ℕ)
    (not_same : ¬ (by ≡ Piece piece)) (below : (q : ℕ) → by ≡ Piece q → q < length lists)
    (its_value : (id : ℕ) → last ≡ Some id → (c : Cell) × (f id ≡ Some c) × (c.value ≡ by))
    (moved : (id : ℕ) (c : Cell) → f id ≡ Some c → c.value ≡ Piece piece → g id ≡ Some (with_value by last c))
    (tail : (id : ℕ) (c : Cell) → last ≡ Some id → f id ≡ Some c → g id ≡ Some (led next c))
    (rest : (id : ℕ) → ((c : Cell) → f id ≡ Some c → ¬ (c.value ≡ Piece piece)) → last ≢ Some id → g id ≡ f id) where
  -- what a cell was
  abbrev pub Was : ℕ → Cell → Cell → Type 0
  Was id c d = ((d.value ≡ Piece piece) × (c ≡ with_value by last d))
      ⊎ (((last ≡ Some id) × (c ≡ led next d) × (d.value ≡ by)) ⊎ (¬ (d.value ≡ Piece piece) × (c ≡ d)))

  pub was : (id : ℕ) (c : Cell) → g id ≡ Some c → (d : Cell) × (f id ≡ Some d) × Was id c d
  was id c e = from (f id) refl
    where
      from : (o : Option Cell) → f id ≡ o → (d : Cell) × (f id ≡ Some d) × Was id c d
      from None at =
          let same = rest id (λ d is. let clash : None ≡ Some d = sym at ∙ is in absurd cc)
          (λ l. let d = its_value id l in let clash : None ≡ Some d.0 = sym at ∙ d.1 in absurd cc) in
          let clash : None ≡ Some c = sym at ∙ sym same ∙ e in
          absurd cc
      from (Some d) at = (
        d,
        at,
        ⊎_elim
            (λ (v : d.value ≡ Piece piece). inl (v, same_some (g id) c (with_value by last d) e (moved id d at v)))
            (λ (n : ¬ (d.value ≡ Piece piece)). inr (⊎_elim
            (λ (l : last ≡ Some id). let w = its_value id l in
            inl (l, same_some (g id) c (led next d) e (tail id d l at), ap (λ (x : Cell). x.value) (same_some (f id) d w.0 at w.1) ∙ w.2))
            (λ (o : last ≢ Some id).
            let same = rest id (λ w is v. n (ap (λ (x : Cell). x.value) (same_some (f id) d w at is) ∙ v)) o in
            inr (n, same_some (g id) c d e (same ∙ at)))
            (is_it last id)))
            (is_piece d.value piece),
      )

  -- what a cell holds
  pub its_instead : (id : ℕ) (d : Cell) → f id ≡ Some d → value_at g id ≡ instead piece by d.value
  its_instead id d at = ⊎_elim
      (λ (v : d.value ≡ Piece piece).
      value_is g id (with_value by last d) (moved id d at v) ∙ value_of by last d ∙ sym (instead_here piece by d.value v))
      (λ (n : ¬ (d.value ≡ Piece piece)). ⊎_elim
      (λ (l : last ≡ Some id). value_is g id (led next d) (tail id d l at))
      (λ (o : last ≢ Some id).
      value_is g id d (rest id (λ w is v. n (ap (λ (x : Cell). x.value) (same_some (f id) d w at is) ∙ v)) o ∙ at))
      (is_it last id) ∙ sym (instead_else piece by d.value n))
      (is_piece d.value piece)

  -- no cell holds the piece
  pub none_left : IsOccurrenceList g piece []
  none_left = record {
    linked = λ k id e. absurd cc;
    all = λ id c e v. let d = was id c e in ⊎_elim
        (λ (m : (d.0.value ≡ Piece piece) × (c ≡ with_value by last d.0)).
        absurd (not_same (sym (value_of by last d.0) ∙ sym (ap (λ (x : Cell). x.value) m.1) ∙ v)))
        (λ (o : ((last ≡ Some id) × (c ≡ led next d.0) × (d.0.value ≡ by)) ⊎ (¬ (d.0.value ≡ Piece piece) × (c ≡ d.0))). ⊎_elim
        (λ (l : (last ≡ Some id) × (c ≡ led next d.0) × (d.0.value ≡ by)).
        absurd (not_same (sym l.2 ∙ sym (ap (λ (x : Cell). x.value) l.1) ∙ v)))
        (λ (n : ¬ (d.0.value ≡ Piece piece) × (c ≡ d.0)). absurd (n.0 (sym (ap (λ (x : Cell). x.value) n.1) ∙ v)))
        o)
        d.2;
    once = λ j k id e. absurd cc;
  }

  -- the list of a piece that is neither stays
  pub stays : (q : ℕ) → q ≢ piece → ¬ (by ≡ Piece q) → (ids : List ℕ) → IsOccurrenceList f q ids → IsOccurrenceList g q ids
  stays q differ other = list_stays f g q
      (λ id c v e. rest id
      (λ d at w. differ (same_piece d.value q piece (ap (λ (x : Cell). x.value) (same_some (f id) d c at e) ∙ v) w))
      (λ l. let d = its_value id l in other (sym d.2 ∙ ap (λ (x : Cell). x.value) (same_some (f id) d.0 c d.1 e) ∙ v)) ∙ e)
      (λ id c v e. let d = was id c e in ⊎_elim
      (λ (m : (d.0.value ≡ Piece piece) × (c ≡ with_value by last d.0)).
      absurd (other (sym (value_of by last d.0) ∙ sym (ap (λ (x : Cell). x.value) m.1) ∙ v)))
      (λ (o : ((last ≡ Some id) × (c ≡ led next d.0) × (d.0.value ≡ by)) ⊎ (¬ (d.0.value ≡ Piece piece) × (c ≡ d.0))). ⊎_elim
      (λ (l : (last ≡ Some id) × (c ≡ led next d.0) × (d.0.value ≡ by)).
      absurd (other (sym l.2 ∙ sym (ap (λ (x : Cell). x.value) l.1) ∙ v)))
      (λ (n : ¬ (d.0.value ≡ Piece piece) × (c ≡ d.0)). d.1 ∙ ap Some (sym n.1))
      o)
      d.2)

  -- cells hold no other pieces
  pub there : (id : ℕ) (c : Cell) (q : ℕ) → g id ≡ Some c → c.value ≡ Piece q → q < length lists
  there id c q e v = let d = was id c e in ⊎_elim
      (λ (m : (d.0.value ≡ Piece piece) × (c ≡ with_value by last d.0)).
      below q (sym (value_of by last d.0) ∙ sym (ap (λ (x : Cell). x.value) m.1) ∙ v))
      (λ (o : ((last ≡ Some id) × (c ≡ led next d.0) × (d.0.value ≡ by)) ⊎ (¬ (d.0.value ≡ Piece piece) × (c ≡ d.0))). ⊎_elim
      (λ (l : (last ≡ Some id) × (c ≡ led next d.0) × (d.0.value ≡ by)).
      below q (sym l.2 ∙ sym (ap (λ (x : Cell). x.value) l.1) ∙ v))
      (λ (n : ¬ (d.0.value ≡ Piece piece) × (c ≡ d.0)).
      listed.there id d.0 q d.1 (sym (ap (λ (x : Cell). x.value) n.1) ∙ v))
      o)
      d.2

  -- where the value is no piece, the piece has the empty list, and the others stay
  pub listed_less : ((q : ℕ) → ¬ (by ≡ Piece q)) → (mine : CellList) → slice_get lists piece ≡ Some mine
      → AreListed g (set lists piece no_cell)
  listed_less plain mine is = record {
    each = λ q l e. ⊎_elim
        (λ (same : q ≡ piece).
        let its = same_some (slice_get (set lists piece no_cell) q) l no_cell e
        (ap (slice_get (set lists piece no_cell)) same ∙ set_here lists piece no_cell mine is) in
        subst (λ p. (i : List ℕ) × HasEnds l i × IsOccurrenceList g p i) (sym same)
        ([], subst (λ (w : CellList). HasEnds w []) (sym its) (record { first = refl; last = refl; count = refl }), none_left))
        (λ (differ : q ≢ piece).
        let ids = listed.each q l (sym (set_else lists piece q no_cell differ) ∙ e) in
        (ids.0, ids.1, stays q differ (plain q) ids.0 ids.2))
        (cases_eq q piece);
    there = λ id c q e v. omega (arith, there id c q e v, length-set lists piece no_cell);
  }

-- what stands before a place of two lists, one behind the other
before_front : (qs ps : List ℕ) (k : ℕ) → k ≤ length qs → before_in (qs ++ ps) k ≡ before_in qs k
before_front qs ps zero l = refl
before_front qs ps (suc k) l = in_front qs ps k (omega arith)

before_back : (qs ps : List ℕ) (last : Option ℕ) → last ≡ before_in qs (length qs) → (j n : ℕ) → j ≤ length ps → n ≡ length qs + j
    → option_or (before_in ps j) last ≡ before_in (qs ++ ps) n
before_back qs ps last e zero n l is =
    let same : n ≡ length qs = omega (arith, is) in
    e ∙ sym (before_front qs ps (length qs) (omega arith)) ∙ ap (before_in (qs ++ ps)) (sym same)
before_back qs ps last e (suc i) n l is =
    let at = slice_get-get_or ps i 0 (omega arith) in
    let place : n ≡ suc (length qs + i) = omega (arith, is) in
    ap (λ o. option_or o last) at ∙ sym (ap (before_in (qs ++ ps)) place ∙ behind qs ps (length qs + i) i refl ∙ at)

first_of : (qs ps : List ℕ) (a b : Option ℕ) → a ≡ slice_get qs 0 → b ≡ slice_get ps 0 → option_or a b ≡ slice_get (qs ++ ps) 0
first_of [] ps a b x y = ap (λ o. option_or o b) x ∙ y
first_of (q ∷ qs) ps a b x y = ap (λ o. option_or o b) x

-- two pieces have no cell in common
module _ (f : ℕ → Option Cell) (piece other : ℕ) (differ : other ≢ piece) (ps qs : List ℕ)
    (mine : IsOccurrenceList f piece ps) (theirs : IsOccurrenceList f other qs) where
  apart : (j k id : ℕ) → slice_get qs j ≡ Some id → ¬ (slice_get ps k ≡ Some id)
  apart j k id a b =
      let c = some_and (IsLinked other qs j) (f id) (theirs.linked j id a) in
      let d = some_and (IsLinked piece ps k) (f id) (mine.linked k id b) in
      differ (same_piece d.0.value other piece
      (ap (λ (x : Cell). x.value) (same_some (f id) d.0 c.0 d.1 c.1) ∙ c.2.value) d.2.value)

  -- a place of the two lists is one of either
  pub placed : (k id : ℕ) → slice_get (qs ++ ps) k ≡ Some id
      → (slice_get qs k ≡ Some id) ⊎ ((j : ℕ) × (k ≡ length qs + j) × (slice_get ps j ≡ Some id))
  placed k id e = ⊎_elim
      (λ (l : k < length qs). inl (sym (in_front qs ps k l) ∙ e))
      (λ (g : length qs ≤ k). let place : k ≡ length qs + (k - length qs) = omega (arith, g) in
      inr (k - length qs, place, sym (behind qs ps k (k - length qs) place) ∙ e))
      (cases_lt k (length qs))

  pub once_both : (j k id : ℕ) → slice_get (qs ++ ps) j ≡ Some id → slice_get (qs ++ ps) k ≡ Some id → j ≡ k
  once_both j k id a b = ⊎_elim
      (λ (x : slice_get qs j ≡ Some id). ⊎_elim
      (λ (y : slice_get qs k ≡ Some id). theirs.once j k id x y)
      (λ (y : (i : ℕ) × (k ≡ length qs + i) × (slice_get ps i ≡ Some id)). absurd (apart j y.0 id x y.2))
      (placed k id b))
      (λ (x : (i : ℕ) × (j ≡ length qs + i) × (slice_get ps i ≡ Some id)). ⊎_elim
      (λ (y : slice_get qs k ≡ Some id). absurd (apart k x.0 id y x.2))
      (λ (y : (i : ℕ) × (k ≡ length qs + i) × (slice_get ps i ≡ Some id)).
      x.1 ∙ ap (λ i. length qs + i) (mine.once x.0 y.0 id x.2 y.2) ∙ sym y.1)
      (placed k id b))
      (placed j id a)

  -- both together have no more cells than there are
  pub both_below : (n : ℕ) → ((id : ℕ) (c : Cell) → f id ≡ Some c → id < n) → length qs + length ps ≤ n
  both_below n below =
      let most = few_below (qs ++ ps) n once_both (λ k id e. ⊎_elim
      (λ (x : slice_get qs k ≡ Some id).
      let c = some_and (IsLinked other qs k) (f id) (theirs.linked k id x) in below id c.0 c.1)
      (λ (y : (i : ℕ) × (k ≡ length qs + i) × (slice_get ps i ≡ Some id)).
      let c = some_and (IsLinked piece ps y.0) (f id) (mine.linked y.0 id y.2) in below id c.0 c.1)
      (placed k id e)) in
      omega (arith, most, length-append qs ps)

-- the list of a piece behind that of another
abbrev pub joined : CellList → CellList → CellList
joined front back = record {
  first = option_or front.first back.first;
  last = option_or back.last front.last;
  count = front.count + back.count;
}

module _ (f g : ℕ → Option Cell) (lists : List CellList) (listed : AreListed f lists) (piece other : ℕ) (differ : other ≢ piece)
    (back front : CellList) (is_back : slice_get lists piece ≡ Some back) (is_front : slice_get lists other ≡ Some front)
    (moved : (id : ℕ) (c : Cell) → f id ≡ Some c → c.value ≡ Piece piece → g id ≡ Some (with_value (Piece other) front.last c))
    (tail : (id : ℕ) (c : Cell) → front.last ≡ Some id → f id ≡ Some c → g id ≡ Some (led back.first c))
    (rest : (id : ℕ) → ((c : Cell) → f id ≡ Some c → ¬ (c.value ≡ Piece piece)) → front.last ≢ Some id → g id ≡ f id) where
  abbrev mine : (ids : List ℕ) × HasEnds back ids × IsOccurrenceList f piece ids
  mine = listed.each piece back is_back

  abbrev theirs : (ids : List ℕ) × HasEnds front ids × IsOccurrenceList f other ids
  theirs = listed.each other front is_front

  abbrev all_ids : List ℕ
  all_ids = theirs.0 ++ mine.0

  front_last : (id : ℕ) → front.last ≡ Some id → (k : ℕ) × (k + 1 ≡ length theirs.0) × (slice_get theirs.0 k ≡ Some id)
  front_last id e = by (length theirs.0) refl (sym theirs.1.last ∙ e)
    where
      by : (n : ℕ) → n ≡ length theirs.0 → before_in theirs.0 n ≡ Some id
          → (k : ℕ) × (k + 1 ≡ length theirs.0) × (slice_get theirs.0 k ≡ Some id)
      by zero s h = absurd cc
      by (suc k) s h = (k, omega (arith, s), h)

  last_value : (id : ℕ) → front.last ≡ Some id → (c : Cell) × (f id ≡ Some c) × (c.value ≡ Piece other)
  last_value id e =
      let k = front_last id e in
      let c = some_and (IsLinked other theirs.0 k.0) (f id) (theirs.2.linked k.0 id k.2) in
      (c.0, c.1, c.2.value)

  not_same : ¬ (let a : Seen = Piece other in a ≡ Piece piece)
  not_same e = differ cc

  its_below : (q : ℕ) → (let a : Seen = Piece other in a ≡ Piece q) → q < length lists
  its_below q e =
      let same : other ≡ q = cc in
      let within = slice_get_within lists other front is_front in
      omega (arith, within, same)

  linked_front : (k id : ℕ) → slice_get theirs.0 k ≡ Some id → IsSomeAnd (g id) (IsLinked other all_ids k)
  linked_front k id e =
      let c = some_and (IsLinked other theirs.0 k) (f id) (theirs.2.linked k id e) in
      let within = slice_get_within theirs.0 k id e in
      ⊎_elim
      (λ (l : front.last ≡ Some id).
      let end = front_last id l in
      let same = theirs.2.once k end.0 id e end.2 in
      let next : k + 1 ≡ length theirs.0 + 0 = omega (arith, same, end.1) in
      and_some (IsLinked other all_ids k) (g id) (led back.first c.0) (tail id c.0 l c.1) (record {
        value = c.2.value;
        before = c.2.before ∙ sym (before_front theirs.0 mine.0 k (omega (arith, within)));
        after = mine.1.first ∙ sym (behind theirs.0 mine.0 (k + 1) 0 next);
      }))
      (λ (o : front.last ≢ Some id).
      let inner : k + 1 < length theirs.0 = ⊎_elim
      (λ (l : k + 1 < length theirs.0). l)
      (λ (m : length theirs.0 ≤ k + 1). let end : length theirs.0 ≡ suc k = omega (arith, m, within) in
      absurd (o (theirs.1.last ∙ ap (before_in theirs.0) end ∙ e)))
      (cases_lt (k + 1) (length theirs.0)) in
      and_some (IsLinked other all_ids k) (g id) c.0
      (rest id (λ d at v. differ (same_piece d.value other piece
      (ap (λ (x : Cell). x.value) (same_some (f id) d c.0 at c.1) ∙ c.2.value) v)) o ∙ c.1) (record {
        value = c.2.value;
        before = c.2.before ∙ sym (before_front theirs.0 mine.0 k (omega (arith, within)));
        after = c.2.after ∙ sym (in_front theirs.0 mine.0 (k + 1) inner);
      }))
      (is_it front.last id)

  linked_back : (k j id : ℕ) → k ≡ length theirs.0 + j → slice_get mine.0 j ≡ Some id → IsSomeAnd (g id) (IsLinked other all_ids k)
  linked_back k j id place e =
      let c = some_and (IsLinked piece mine.0 j) (f id) (mine.2.linked j id e) in
      let within = slice_get_within mine.0 j id e in
      and_some (IsLinked other all_ids k) (g id) (with_value (Piece other) front.last c.0) (moved id c.0 c.1 c.2.value) (record {
        value = refl;
        before = ap (λ o. option_or o front.last) c.2.before
            ∙ before_back theirs.0 mine.0 front.last theirs.1.last j k (omega (arith, within)) place;
        after = let next : k + 1 ≡ length theirs.0 + (j + 1) = omega (arith, place) in
            c.2.after ∙ sym (behind theirs.0 mine.0 (k + 1) (j + 1) next);
      })

  was_it : (id : ℕ) (c : Cell) → g id ≡ Some c → (d : Cell) × (f id ≡ Some d)
      × Was f g lists listed piece (Piece other) front.last back.first not_same its_below last_value moved tail rest id c d
  was_it = was f g lists listed piece (Piece other) front.last back.first not_same its_below last_value moved tail rest

  in_theirs : (id : ℕ) (d : Cell) → f id ≡ Some d → d.value ≡ Piece other → (k : ℕ) × (slice_get all_ids k ≡ Some id)
  in_theirs id d e v =
      let k = theirs.2.all id d e v in
      (k.0, in_front theirs.0 mine.0 k.0 (slice_get_within theirs.0 k.0 id k.1) ∙ k.1)

  joined_list : IsOccurrenceList g other all_ids
  joined_list = record {
    linked = λ k id e. ⊎_elim
        (λ (x : slice_get theirs.0 k ≡ Some id). linked_front k id x)
        (λ (y : (j : ℕ) × (k ≡ length theirs.0 + j) × (slice_get mine.0 j ≡ Some id)). linked_back k y.0 id y.1 y.2)
        (placed f piece other differ mine.0 theirs.0 mine.2 theirs.2 k id e);
    all = λ id c e v. let d = was_it id c e in ⊎_elim
        (λ (m : (d.0.value ≡ Piece piece) × (c ≡ with_value (Piece other) front.last d.0)).
        let k = mine.2.all id d.0 d.1 m.0 in
        (length theirs.0 + k.0, behind theirs.0 mine.0 (length theirs.0 + k.0) k.0 refl ∙ k.1))
        (λ (o : ((front.last ≡ Some id) × (c ≡ led back.first d.0) × (d.0.value ≡ Piece other))
        ⊎ (¬ (d.0.value ≡ Piece piece) × (c ≡ d.0))). ⊎_elim
        (λ (l : (front.last ≡ Some id) × (c ≡ led back.first d.0) × (d.0.value ≡ Piece other)). in_theirs id d.0 d.1 l.2)
        (λ (n : ¬ (d.0.value ≡ Piece piece) × (c ≡ d.0)).
        in_theirs id d.0 d.1 (sym (ap (λ (x : Cell). x.value) n.1) ∙ v))
        o)
        d.2;
    once = once_both f piece other differ mine.0 theirs.0 mine.2 theirs.2;
  }

  joined_ends : HasEnds (joined front back) all_ids
  joined_ends = record {
    first = first_of theirs.0 mine.0 front.first back.first theirs.1.first mine.1.first;
    last = ap (λ o. option_or o front.last) mine.1.last
        ∙ before_back theirs.0 mine.0 front.last theirs.1.last (length mine.0) (length all_ids) (omega arith)
        (length-append theirs.0 mine.0);
    count = omega (arith, theirs.1.count, mine.1.count, length-append theirs.0 mine.0);
  }

  abbrev later : List CellList
  later = set lists other (joined front back)

  pub listed_joined : AreListed g (set later piece no_cell)
  listed_joined =
      let here = set_else lists other piece (joined front back) (λ e. differ (sym e)) ∙ is_back in
      record {
        each = λ q l e. ⊎_elim
            (λ (same : q ≡ piece).
            let its = same_some (slice_get (set later piece no_cell) q) l no_cell e
            (ap (slice_get (set later piece no_cell)) same ∙ set_here later piece no_cell back here) in
            subst (λ p. (i : List ℕ) × HasEnds l i × IsOccurrenceList g p i) (sym same) (
              [],
              subst (λ (w : CellList). HasEnds w []) (sym its) (record { first = refl; last = refl; count = refl }),
              none_left f g lists listed piece (Piece other) front.last back.first not_same its_below last_value moved tail rest,
            ))
            (λ (n : q ≢ piece).
            let old = sym (set_else later piece q no_cell n) ∙ e in ⊎_elim
            (λ (same : q ≡ other).
            let its = same_some (slice_get later q) l (joined front back) old
            (ap (slice_get later) same ∙ set_here lists other (joined front back) front is_front) in
            subst (λ p. (i : List ℕ) × HasEnds l i × IsOccurrenceList g p i) (sym same)
            (all_ids, subst (λ (w : CellList). HasEnds w all_ids) (sym its) joined_ends, joined_list))
            (λ (m : q ≢ other).
            let ids = listed.each q l (sym (set_else lists other q (joined front back) m) ∙ old) in (
              ids.0,
              ids.1,
              stays f g lists listed piece (Piece other) front.last back.first not_same its_below last_value moved tail rest
                  q n (λ e. m cc) ids.0 ids.2,
            ))
            (cases_eq q other))
            (cases_eq q piece);
        there = λ id c q e v. omega (
          arith,
          there f g lists listed piece (Piece other) front.last back.first not_same its_below last_value moved tail rest id c q e v,
          length-set later piece no_cell,
          length-set lists other (joined front back),
        );
      }

-- a constant is written to the cells of a piece
module _ (f g : ℕ → Option Cell) (lists : List CellList) (listed : AreListed f lists) (piece : ℕ) (mine : CellList)
    (is : slice_get lists piece ≡ Some mine) (constant : ConstId) where
  abbrev by : Seen
  by = Const constant

  abbrev its : (ids : List ℕ) × HasEnds mine ids × IsOccurrenceList f piece ids
  its = listed.each piece mine is

  no_end : (id : ℕ) → (let o : Option ℕ = None in o ≡ Some id) → ⊥
  no_end id e = cc

  pub fixed_walk : (ids : List ℕ) × IsWalk f mine ids
  fixed_walk = (its.0, walk_of f piece mine its.0 its.1 its.2)

  module _ (written : (ids : List ℕ) → IsWalk f mine ids → IsRewritten f g ids mine.count by None) where
    its_moved : (id : ℕ) (c : Cell) → f id ≡ Some c → c.value ≡ Piece piece → g id ≡ Some (with_value by None c)
    its_moved = moved f f g piece its.0 its.2 None None (λ id e. absurd (no_end id e)) (λ id e. refl) (λ id c e. absurd (no_end id e))
        mine.count its.1.count by (written its.0 (walk_of f piece mine its.0 its.1 its.2))

    its_rest : (id : ℕ) → ((c : Cell) → f id ≡ Some c → ¬ (c.value ≡ Piece piece)) → (let o : Option ℕ = None in o ≢ Some id)
        → g id ≡ f id
    its_rest = rest f f g piece its.0 its.2 None None (λ id e. absurd (no_end id e)) (λ id e. refl) (λ id c e. absurd (no_end id e))
        mine.count its.1.count by (written its.0 (walk_of f piece mine its.0 its.1 its.2))

    no_piece : (q : ℕ) → ¬ (by ≡ Piece q)
    no_piece q e = cc

    pub fixed_listed : AreListed g (set lists piece no_cell)
    fixed_listed = listed_less f g lists listed piece by None None (no_piece piece) (λ q e. absurd (no_piece q e))
        (λ id e. absurd (no_end id e)) its_moved (λ id c e. absurd (no_end id e)) its_rest no_piece mine is

    pub fixed_instead : (id : ℕ) (d : Cell) → f id ≡ Some d → value_at g id ≡ instead piece by d.value
    fixed_instead = its_instead f g lists listed piece by None None (no_piece piece) (λ q e. absurd (no_piece q e))
        (λ id e. absurd (no_end id e)) its_moved (λ id c e. absurd (no_end id e)) its_rest

-- another piece is written to them
module _ (f h g : ℕ → Option Cell) (lists : List CellList) (listed : AreListed f lists) (piece other : ℕ) (differ : other ≢ piece)
    (back front : CellList) (is_back : slice_get lists piece ≡ Some back) (is_front : slice_get lists other ≡ Some front) where
  abbrev its_cells : (ids : List ℕ) × HasEnds back ids × IsOccurrenceList f piece ids
  its_cells = listed.each piece back is_back

  pub end_value : (id : ℕ) → front.last ≡ Some id → (c : Cell) × (f id ≡ Some c) × (c.value ≡ Piece other)
  end_value id e = by (length ids.0) refl (sym ids.1.last ∙ e)
    where
      ids : (l : List ℕ) × HasEnds front l × IsOccurrenceList f other l
      ids = listed.each other front is_front

      by : (n : ℕ) → n ≡ length ids.0 → before_in ids.0 n ≡ Some id → (c : Cell) × (f id ≡ Some c) × (c.value ≡ Piece other)
      by zero s x = absurd cc
      by (suc k) s x = let c = some_and (IsLinked other ids.0 k) (f id) (ids.2.linked k id x) in (c.0, c.1, c.2.value)

  is_another : (id : ℕ) (c : Cell) → front.last ≡ Some id → f id ≡ Some c → ¬ (c.value ≡ Piece piece)
  is_another id c e at v =
      let d = end_value id e in
      differ (same_piece c.value other piece (ap (λ (x : Cell). x.value) (same_some (f id) c d.0 at d.1) ∙ d.2) v)

  pub sum_fits : (n : ℕ) → ((id : ℕ) (c : Cell) → f id ≡ Some c → id < n) → front.count + back.count ≤ n
  sum_fits n below =
      let theirs = listed.each other front is_front in
      let most = both_below f piece other differ its_cells.0 theirs.0 its_cells.2 theirs.2 n below in
      omega (arith, most, theirs.1.count, its_cells.1.count)

  module _ (end : (id : ℕ) → front.last ≡ Some id → h id ≡ option_map (led back.first) (f id))
      (else_same : (id : ℕ) → front.last ≢ Some id → h id ≡ f id) where
    led_walk : IsWalk h back its_cells.0
    led_walk = walk_led f h g piece its_cells.0 its_cells.2 front.last back.first end else_same is_another back its_cells.1

    pub join_walk : (ids : List ℕ) × IsWalk h back ids
    join_walk = (its_cells.0, led_walk)

    module _ (written : (ids : List ℕ) → IsWalk h back ids → IsRewritten h g ids back.count (Piece other) front.last) where
      join_moved : (id : ℕ) (c : Cell) → f id ≡ Some c → c.value ≡ Piece piece → g id ≡ Some (with_value (Piece other) front.last c)
      join_moved = moved f h g piece its_cells.0 its_cells.2 front.last back.first end else_same is_another back.count its_cells.1.count
          (Piece other) (written its_cells.0 led_walk)

      join_tail : (id : ℕ) (c : Cell) → front.last ≡ Some id → f id ≡ Some c → g id ≡ Some (led back.first c)
      join_tail = tail f h g piece its_cells.0 its_cells.2 front.last back.first end else_same is_another back.count its_cells.1.count
          (Piece other) (written its_cells.0 led_walk)

      join_rest : (id : ℕ) → ((c : Cell) → f id ≡ Some c → ¬ (c.value ≡ Piece piece)) → front.last ≢ Some id → g id ≡ f id
      join_rest = rest f h g piece its_cells.0 its_cells.2 front.last back.first end else_same is_another back.count its_cells.1.count
          (Piece other) (written its_cells.0 led_walk)

      pub join_listed : AreListed g (set (set lists other (joined front back)) piece no_cell)
      join_listed = listed_joined f g lists listed piece other differ back front is_back is_front join_moved join_tail join_rest

      pub join_instead : (id : ℕ) (d : Cell) → f id ≡ Some d → value_at g id ≡ instead piece (Piece other) d.value
      join_instead = its_instead f g lists listed piece (Piece other) front.last back.first
          (λ e. differ cc)
          (λ q e. let same : other ≡ q = cc in let within = slice_get_within lists other front is_front in omega (arith, within, same))
          end_value join_moved join_tail join_rest
