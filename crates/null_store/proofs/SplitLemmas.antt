-- Pieces that are cut at an instant, one after another, and the cells of a row's copy.
use Rattle.std.proofs.Common.{◌≡◌, ◌≢◌, ◌⊎◌, inl, inr, ℤ, ℕ, zero, suc, ◌+◌, ◌<◌, ◌≤◌, get_or, Option, Some, List, [], ◌∷◌, ◌++◌, length, map, set, take, refl, sym, ap, ◌∙◌, subst, arith, ⊎_elim, Contains}
use Rattle.std.specs.Prelude.{slice_get, IsSomeAnd}
use Rattle.std.specs.Option.{option_map, option_map_or}
use Rattle.std.proofs.lemmas.Bool.{cases_lt, cases_eq}
use Rattle.std.proofs.lemmas.Int.{ints}
use Rattle.std.proofs.lemmas.List.{length-set, length_push}
use Rattle.std.proofs.lemmas.Option.{slice_get_within, slice_get-get_or}
use Rattle.time_line.specs.Span.{Ends, Has}
use Rattle.term_core.specs.declared.term.Seen.{Seen}
use Rattle.term_core.specs.declared.term.Seen.TheVariants.{Const, Piece}
use Rattle.fact_table.specs.Rows.{SeenRow, row_at}
use Rattle.null_store.specs.declared.piece.NamedPiece.{NamedPiece}
use Rattle.null_store.specs.Splits.{part_before, part_after}
use Rattle.null_store.specs.Layout.{IsPlain, HasPlain, SetsCell, with_cell, narrowed, cut_off, twin_in, twin_cell, PartsPiece, HasTwin, IsCut, CutsPieces, CutsRow}
use Rattle.null_store.proofs.ListLemmas.{some_and, and_some, same_some, holds_at, in_front, at_end, contains_from_at, at_from_contains, set_here, set_else}
use Rattle.null_store.proofs.RowLemmas.{blanks}

-- the part before an instant does not have it
pub never_before : (m : ℤ) (s : Ends) → ¬ (Has (part_before m s) m)
never_before m s h = let last = h.1 in absurd (omega (arith, ints, last))

-- what was cut does not have the instant
pub cut_has_not : (m : ℤ) (old new : List NamedPiece) (was now : NamedPiece) → IsCut m old new was now → ¬ (Has now.span m)
cut_has_not m old new was now cut h =
    never_before m was.span (subst (λ (s : Ends). Has s m) (ap (λ (p : NamedPiece). p.span) cut.first) h)

-- no piece is cut yet
pub none_cut : (m : ℤ) (pieces : List NamedPiece) → CutsPieces m pieces pieces
none_cut m pieces = record {
  kept = λ p was e. and_some (λ (now : NamedPiece). (now ≡ was) ⊎ IsCut m pieces pieces was now) (slice_get pieces p) was e (inl refl);
  added = λ t piece l e. let within = slice_get_within pieces t piece e in absurd (omega (arith, l, within));
  grows = omega arith;
}

-- a piece is cut
module _ (m : ℤ) (old : List NamedPiece) (p : ℕ) (q : NamedPiece) (at : slice_get old p ≡ Some q) (has : Has q.span m) where
  abbrev first_part : NamedPiece
  first_part = narrowed (part_before m q.span) (length old) q

  abbrev other_part : NamedPiece
  other_part = cut_off (part_after m q.span) q

  abbrev parted : List NamedPiece
  parted = set old p first_part ++ other_part ∷ []

  long : length (set old p first_part) ≡ length old
  long = length-set old p first_part

  longer : length parted ≡ length old + 1
  longer = omega (arith, long, length_push (set old p first_part) other_part)

  at_p : slice_get parted p ≡ Some first_part
  at_p =
      let within = slice_get_within old p q at in
      in_front (set old p first_part) (other_part ∷ []) p (omega (arith, within, long)) ∙ set_here old p first_part q at

  same_else : (j : ℕ) → j < length old → j ≢ p → slice_get parted j ≡ slice_get old j
  same_else j l differ =
      in_front (set old p first_part) (other_part ∷ []) j (omega (arith, l, long)) ∙ set_else old p j first_part differ

  at_else : (j : ℕ) (x : NamedPiece) → j ≢ p → slice_get old j ≡ Some x → slice_get parted j ≡ Some x
  at_else j x differ e = same_else j (slice_get_within old j x e) differ ∙ e

  at_new : slice_get parted (length old) ≡ Some other_part
  at_new = ap (slice_get parted) (sym long) ∙ at_end (set old p first_part) other_part

  -- what stands there was there, or is one of the two
  was_at : (j : ℕ) (x : NamedPiece) → slice_get parted j ≡ Some x → (slice_get old j ≡ Some x × (j ≢ p))
      ⊎ (((j ≡ p) × (x ≡ first_part)) ⊎ ((j ≡ length old) × (x ≡ other_part)))
  was_at j x e = ⊎_elim
      (λ (same : j ≡ p). inr (inl (same, same_some (slice_get parted j) x first_part e (ap (slice_get parted) same ∙ at_p))))
      (λ (differ : j ≢ p). ⊎_elim
      (λ (l : j < length old). inl (sym (same_else j l differ) ∙ e, differ))
      (λ (g : length old ≤ j).
      let within = slice_get_within parted j x e in
      let place : j ≡ length old = omega (arith, within, g, longer) in
      inr (inr (place, same_some (slice_get parted j) x other_part e (ap (slice_get parted) place ∙ at_new))))
      (cases_lt j (length old)))
      (cases_eq j p)

  -- a piece that does not have the instant is another
  is_other : (j : ℕ) (x : NamedPiece) → slice_get old j ≡ Some x → ¬ (Has x.span m) → j ≢ p
  is_other j x e none same =
      none (subst (λ (y : NamedPiece). Has y.span m) (same_some (slice_get old p) q x at (ap (slice_get old) (sym same) ∙ e)) has)

  -- it is one more of those that are cut
  module _ (first : List NamedPiece) (inside : p < length first) (cuts : CutsPieces m first old) where
    is_first : slice_get first p ≡ Some q
    is_first =
        let there = slice_get-get_or first p q inside in
        let was = get_or first p q in
        let now = some_and (λ (x : NamedPiece). (x ≡ was) ⊎ IsCut m first old was x) (slice_get old p) (cuts.kept p was there) in
        let same = same_some (slice_get old p) now.0 q now.1 at in ⊎_elim
        (λ (e : now.0 ≡ was). there ∙ ap Some (sym e ∙ same))
        (λ (cut : IsCut m first old was now.0).
        absurd (cut_has_not m first old was now.0 cut (subst (λ (x : NamedPiece). Has x.span m) (sym same) has)))
        now.2

    -- a piece that was cut before stays cut
    cut_stays : (was now : NamedPiece) → IsCut m first old was now → IsCut m first parted was now
    cut_stays was now cut = record {
      has = cut.has;
      first = cut.first;
      second = at_else now.twin (cut_off (part_after m was.span) was) (λ e. omega (arith, e, cut.new_twin, inside)) cut.second;
      new_twin = cut.new_twin;
    }

    new_cut : IsCut m first parted q first_part
    new_cut = record { has = has; first = refl; second = at_new; new_twin = cuts.grows }

    one_more_cut : CutsPieces m first parted
    one_more_cut = record {
      kept = λ j was e. ⊎_elim
          (λ (same : j ≡ p).
          let its = same_some (slice_get first j) was q e (ap (slice_get first) same ∙ is_first) in
          and_some (λ (now : NamedPiece). (now ≡ was) ⊎ IsCut m first parted was now) (slice_get parted j) first_part
          (ap (slice_get parted) same ∙ at_p) (inr (subst (λ (w : NamedPiece). IsCut m first parted w first_part) (sym its) new_cut)))
          (λ (differ : j ≢ p).
          let now = some_and (λ (x : NamedPiece). (x ≡ was) ⊎ IsCut m first old was x) (slice_get old j) (cuts.kept j was e) in
          and_some (λ (x : NamedPiece). (x ≡ was) ⊎ IsCut m first parted was x) (slice_get parted j) now.0 (at_else j now.0 differ now.1)
          (⊎_elim
          (λ (s : now.0 ≡ was). inl s)
          (λ (c : IsCut m first old was now.0). inr (cut_stays was now.0 c))
          now.2))
          (cases_eq j p);
      added = λ t piece l e. ⊎_elim
          (λ (o : slice_get old t ≡ Some piece × (t ≢ p)).
          let by = cuts.added t piece l o.0 in
          let other = is_other by.0 by.2 by.4 (cut_has_not m first old by.1 by.2 by.5) in
          (by.0, by.1, by.2, by.3, at_else by.0 by.2 other by.4, cut_stays by.1 by.2 by.5, by.6))
          (λ (n : ((t ≡ p) × (piece ≡ first_part)) ⊎ ((t ≡ length old) × (piece ≡ other_part))). ⊎_elim
          (λ (h : (t ≡ p) × (piece ≡ first_part)). absurd (omega (arith, l, h.0, inside)))
          (λ (h : (t ≡ length old) × (piece ≡ other_part)). (p, q, first_part, is_first, at_p, new_cut, sym h.0))
          n)
          (was_at t piece e);
      grows = omega (arith, cuts.grows, longer);
    }

-- the piece is not cut yet and is over the row's span, or has a twin
abbrev pub CanBeCut : ℤ → SeenRow → List NamedPiece → NamedPiece → Type 0
CanBeCut m row pieces q = (Has q.span m → q.span ≡ row.span) × (¬ (Has q.span m) → q.twin < length pieces)

-- the piece has been cut
abbrev pub HasBeenCut : ℤ → List NamedPiece → NamedPiece → Type 0
HasBeenCut m pieces q = ¬ (Has q.span m) × (q.twin < length pieces)

-- the pieces of the first k cells of a row are cut, those of the others can be; what was cut before stays, and so does what the row
-- does not hold
pub record HalfCut (m : ℤ) (row : SeenRow) (k : ℕ) (old new : List NamedPiece) : Type 0 where
  pub base : (first : List NamedPiece) → CutsPieces m first old
      → ((p : ℕ) → Contains row.cells (Piece p) → p < length first) → CutsPieces m first new
  pub kept : (p : ℕ) (piece : NamedPiece) → slice_get old p ≡ Some piece → ¬ (Has piece.span m) → slice_get new p ≡ Some piece
  pub cut : (j p : ℕ) → j < k → slice_get row.cells j ≡ Some (Piece p) → IsSomeAnd (slice_get new p) (HasBeenCut m new)
  pub ready : (p : ℕ) → Contains row.cells (Piece p) → IsSomeAnd (slice_get new p) (CanBeCut m row new)
  pub others : (p : ℕ) → p < length old → ¬ (Contains row.cells (Piece p)) → slice_get new p ≡ slice_get old p
  pub grows : length old ≤ length new

pub none_half : (m : ℤ) (row : SeenRow) (pieces : List NamedPiece)
    → ((p : ℕ) → Contains row.cells (Piece p) → IsSomeAnd (slice_get pieces p) (CanBeCut m row pieces)) → HalfCut m row zero pieces pieces
none_half m row pieces ready = record {
  base = λ first cuts within. cuts;
  kept = λ p piece e none. e;
  cut = λ j p l e. absurd (omega (arith, l));
  ready = ready;
  others = λ p l none. refl;
  grows = omega arith;
}

-- the next cell's piece has been cut and this is its twin
pub record TakesTwin (m : ℤ) (row : SeenRow) (k : ℕ) (old mid now : List NamedPiece) (p twin : ℕ) : Type 0 where
  pub half : HalfCut m row (k + 1) old now
  pub is : twin_in now p ≡ twin
  pub less : twin < length now
  pub kept : (x : ℕ) (piece : NamedPiece) → slice_get mid x ≡ Some piece → ¬ (Has piece.span m) → slice_get now x ≡ Some piece

module _ (m : ℤ) (row : SeenRow) (k : ℕ) (old mid : List NamedPiece) (past : HalfCut m row k old mid) where
  abbrev Cut : List NamedPiece → ℕ → Type 0
  Cut pieces p = IsSomeAnd (slice_get pieces p) (HasBeenCut m pieces)

  -- the next cell needs no cut
  half_same : ((p : ℕ) → slice_get row.cells k ≡ Some (Piece p) → Cut mid p) → HalfCut m row (k + 1) old mid
  half_same last = record {
    base = past.base;
    kept = past.kept;
    cut = λ j p l e. ⊎_elim
        (λ (lt : j < k). past.cut j p lt e)
        (λ (ge : k ≤ j). let same : j ≡ k = omega (arith, l) in last p (ap (slice_get row.cells) (sym same) ∙ e))
        (cases_lt j k);
    ready = past.ready;
    others = past.others;
    grows = past.grows;
  }

  -- it is a constant
  pub half_const : (v : Seen) → slice_get row.cells k ≡ Some v → IsPlain v → HalfCut m row (k + 1) old mid
  half_const (Const c) e plain = half_same (λ p at. let both : Some (Const c) ≡ Some (Piece p) = sym e ∙ at in cc)
  half_const (Piece p) e plain = absurd plain

  module _ (p : ℕ) (its : slice_get row.cells k ≡ Some (Piece p)) where
    there : Contains row.cells (Piece p)
    there = contains_from_at row.cells k (Piece p) its

    same_number : (j : ℕ) → slice_get row.cells k ≡ Some (Piece j) → p ≡ j
    same_number j e = let both : Some (Piece p) ≡ Some (Piece j) = sym its ∙ e in cc

    -- it is cut
    module _ (q : NamedPiece) (at : slice_get mid p ≡ Some q) (has : Has q.span m) where
      half_cut : HalfCut m row (k + 1) old (parted m mid p q at has)
      half_cut = record {
        base = λ first cuts within. one_more_cut m mid p q at has first (within p there) (past.base first cuts within);
        kept = λ j piece e none. at_else m mid p q at has j piece (is_other m mid p q at has j piece (past.kept j piece e none) none)
            (past.kept j piece e none);
        cut = λ j x l e. ⊎_elim
            (λ (lt : j < k). cut_before x (past.cut j x lt e))
            (λ (ge : k ≤ j). let same : j ≡ k = omega (arith, l) in
            subst (Cut (parted m mid p q at has)) (same_number x (ap (slice_get row.cells) (sym same) ∙ e)) cut_now)
            (cases_lt j k);
        ready = λ x c. ⊎_elim
            (λ (same : x ≡ p). subst (λ y. IsSomeAnd (slice_get (parted m mid p q at has) y) (CanBeCut m row (parted m mid p q at has))) (sym same) ready_now)
            (λ (differ : x ≢ p).
            let r = some_and (CanBeCut m row mid) (slice_get mid x) (past.ready x c) in
            and_some (CanBeCut m row (parted m mid p q at has)) (slice_get (parted m mid p q at has) x) r.0 (at_else m mid p q at has x r.0 differ r.1)
            (r.2.0, λ none. let less = r.2.1 none in omega (arith, less, longer m mid p q at has)))
            (cases_eq x p);
        others = λ x l none. same_else m mid p q at has x (omega (arith, l, past.grows))
            (λ same. none (subst (λ y. Contains row.cells (Piece y)) (sym same) there)) ∙ past.others x l none;
        grows = omega (arith, past.grows, longer m mid p q at has);
      }
        where
          cut_before : (x : ℕ) → Cut mid x → Cut (parted m mid p q at has) x
          cut_before x c =
              let r = some_and (HasBeenCut m mid) (slice_get mid x) c in
              and_some (HasBeenCut m (parted m mid p q at has)) (slice_get (parted m mid p q at has) x) r.0
              (at_else m mid p q at has x r.0 (is_other m mid p q at has x r.0 r.1 r.2.0) r.1)
              (r.2.0, (let less = r.2.1 in omega (arith, less, longer m mid p q at has)))

          cut_now : Cut (parted m mid p q at has) p
          cut_now = and_some (HasBeenCut m (parted m mid p q at has)) (slice_get (parted m mid p q at has) p) (first_part m mid p q at has)
              (at_p m mid p q at has) (never_before m q.span, omega (arith, longer m mid p q at has))

          ready_now : IsSomeAnd (slice_get (parted m mid p q at has) p) (CanBeCut m row (parted m mid p q at has))
          ready_now = and_some (CanBeCut m row (parted m mid p q at has)) (slice_get (parted m mid p q at has) p) (first_part m mid p q at has)
              (at_p m mid p q at has) (λ h. absurd (never_before m q.span h), λ none. omega (arith, longer m mid p q at has))

    -- its piece has its twin now
    pub half_piece : (now : List NamedPiece) (twin : ℕ) → HasTwin mid now p m (part_before m row.span) (part_after m row.span) twin
        → TakesTwin m row k old mid now p twin
    half_piece now twin h =
        let q = some_and (λ (x : NamedPiece). (Has x.span m × PartsPiece mid now p (part_before m row.span) (part_after m row.span) × (twin ≡ length mid))
        ⊎ (¬ (Has x.span m) × (now ≡ mid) × (twin ≡ x.twin))) (slice_get mid p) h in
        let can = holds_at (CanBeCut m row mid) (slice_get mid p) q.0 q.1 (past.ready p there) in ⊎_elim
        (λ (c : Has q.0.span m × PartsPiece mid now p (part_before m row.span) (part_after m row.span) × (twin ≡ length mid)).
        let over = can.0 c.0 in
        let splits = holds_at (λ (x : NamedPiece). now ≡ set mid p (narrowed (part_before m row.span) (length mid) x)
        ++ cut_off (part_after m row.span) x ∷ []) (slice_get mid p) q.0 q.1 c.1 in
        let is : now ≡ parted m mid p q.0 q.1 c.0 = splits ∙ ap (λ (s : Ends). set mid p (narrowed (part_before m s) (length mid) q.0)
        ++ cut_off (part_after m s) q.0 ∷ []) (sym over) in
        subst (λ (l : List NamedPiece). TakesTwin m row k old mid l p twin) (sym is) (record {
          half = half_cut q.0 q.1 c.0;
          is = ap (λ (o : Option NamedPiece). option_map_or (λ x. x.twin) o 0) (at_p m mid p q.0 q.1 c.0) ∙ sym c.2;
          less = omega (arith, c.2, longer m mid p q.0 q.1 c.0);
          kept = λ x piece e none. at_else m mid p q.0 q.1 c.0 x piece (is_other m mid p q.0 q.1 c.0 x piece e none) e;
        }))
        (λ (c : ¬ (Has q.0.span m) × (now ≡ mid) × (twin ≡ q.0.twin)).
        let less = can.1 c.0 in
        subst (λ (l : List NamedPiece). TakesTwin m row k old mid l p twin) (sym c.1) (record {
          half = half_same (λ j e. subst (Cut mid) (same_number j e) (and_some (HasBeenCut m mid) (slice_get mid p) q.0 q.1 (c.0, less)));
          is = ap (λ (o : Option NamedPiece). option_map_or (λ x. x.twin) o 0) q.1 ∙ sym c.2;
          less = omega (arith, c.2, less);
          kept = λ x piece e none. e;
        }))
        q.2

-- all pieces of the row are cut
pub whole_cut : (m : ℤ) (row : SeenRow) (k : ℕ) (old new : List NamedPiece) → length row.cells ≤ k → HalfCut m row k old new → CutsRow m row old new
whole_cut m row k old new l past = record {
  base = past.base;
  kept = past.kept;
  cut = λ p c. past.cut c.0 p (omega (arith, l, c.1)) (at_from_contains row.cells (Piece p) c.0 c.1 c.2);
  others = past.others;
  grows = past.grows;
}

-- the first k cells with the twins of their pieces, and a constant for each of the others
abbrev pub with_twins : (ℕ → ℕ) → ℕ → List Seen → List Seen
with_twins twin k [] = []
with_twins twin zero (v ∷ cells) = Const (record { 0 = 0 }) ∷ with_twins twin zero cells
with_twins twin (suc k) (v ∷ cells) = twin_cell twin v ∷ with_twins twin k cells

abbrev pub copy_so_far : (ℕ → ℕ) → Ends → ℕ → SeenRow → SeenRow
copy_so_far twin span k row = record { relation = row.relation; cells = with_twins twin k row.cells; span = span }

-- one more is there
twins_more : (twin : ℕ → ℕ) (cells : List Seen) (k : ℕ) (v : Seen) → slice_get cells k ≡ Some v
    → set (with_twins twin k cells) k (twin_cell twin v) ≡ with_twins twin (k + 1) cells
twins_more twin cells k v e = let next : suc k ≡ k + 1 = omega arith in by cells k e ∙ ap (λ n. with_twins twin n cells) next
  where
    by : (vs : List Seen) (n : ℕ) → slice_get vs n ≡ Some v → set (with_twins twin n vs) n (twin_cell twin v) ≡ with_twins twin (suc n) vs
    by [] n h = absurd cc
    by (w ∷ vs) zero h = let same : v ≡ w = cc in ap (λ x. twin_cell twin x ∷ with_twins twin zero vs) same
    by (w ∷ vs) (suc n) h = ap (λ l. twin_cell twin w ∷ l) (by vs n h)

pub twins_all : (twin : ℕ → ℕ) (cells : List Seen) → with_twins twin (length cells) cells ≡ map (twin_cell twin) cells
twins_all twin [] = refl
twins_all twin (v ∷ cells) = ap (λ l. twin_cell twin v ∷ l) (twins_all twin cells)

pub twins_long : (twin : ℕ → ℕ) (k : ℕ) (cells : List Seen) → length (with_twins twin k cells) ≡ length cells
twins_long twin k [] = refl
twins_long twin zero (v ∷ cells) = ap suc (twins_long twin zero cells)
twins_long twin (suc k) (v ∷ cells) = ap suc (twins_long twin k cells)

-- the next one is a constant
twins_plain : (twin : ℕ → ℕ) (cells : List Seen) (k : ℕ) → k < length cells → IsSomeAnd (slice_get (with_twins twin k cells) k) IsPlain
twins_plain twin [] k l = absurd (omega arith)
twins_plain twin (v ∷ cells) zero l = tt
twins_plain twin (v ∷ cells) (suc k) l = twins_plain twin cells k (omega arith)

-- none is there where all are one constant
pub twins_blank : (twin : ℕ → ℕ) (m n : ℕ) (cells : List Seen) → n ≡ length cells → length cells ≤ m → take n (blanks m) ≡ with_twins twin zero cells
twins_blank twin m zero [] e l = refl
twins_blank twin m (suc n) [] e l = absurd (omega (arith, e))
twins_blank twin m zero (v ∷ cells) e l = absurd (omega (arith, e))
twins_blank twin zero (suc n) (v ∷ cells) e l = absurd (omega (arith, l))
twins_blank twin (suc m) (suc n) (v ∷ cells) e l =
    ap (λ w. Const (record { 0 = 0 }) ∷ w) (twins_blank twin m n cells (omega (arith, e)) (omega (arith, l)))

-- pieces that have the same twins make the same cells
twins_alike : (f g : ℕ → ℕ) (cells : List Seen) (k : ℕ) → ((j p : ℕ) → j < k → slice_get cells j ≡ Some (Piece p) → f p ≡ g p)
    → with_twins f k cells ≡ with_twins g k cells
twins_alike f g [] k h = refl
twins_alike f g (v ∷ cells) zero h = ap (λ l. Const (record { 0 = 0 }) ∷ l) (twins_alike f g cells zero (λ j p l e. absurd (omega (arith, l))))
twins_alike f g (Const c ∷ cells) (suc k) h = ap (λ l. Const c ∷ l) (twins_alike f g cells k (λ j p l e. h (suc j) p (omega (arith, l)) e))
twins_alike f g (Piece q ∷ cells) (suc k) h =
    let first = h 0 q (omega arith) refl in
    let rest = twins_alike f g cells k (λ j p l e. h (suc j) p (omega (arith, l)) e) in
    λ i. Piece (first i) ∷ rest i

-- the copy while it is filled
module _ (row : SeenRow) (span : Ends) where
  pub copy_plain : (twin : ℕ → ℕ) (rows : List (Option SeenRow)) (n k : ℕ) → row_at rows n ≡ Some (copy_so_far twin span k row)
      → k < length row.cells → HasPlain rows n k
  copy_plain twin rows n k e l = and_some (λ (r : SeenRow). IsSomeAnd (slice_get r.cells k) IsPlain) (row_at rows n) (copy_so_far twin span k row) e
      (twins_plain twin row.cells k l)

  pub copy_fills : (f g : ℕ → ℕ) (k : ℕ) → ((j p : ℕ) → j < k → slice_get row.cells j ≡ Some (Piece p) → f p ≡ g p)
      → (v value : Seen) → slice_get row.cells k ≡ Some v → value ≡ twin_cell g v → (old new : List (Option SeenRow)) (n : ℕ)
      → row_at old n ≡ Some (copy_so_far f span k row) → SetsCell old new n k value → row_at new n ≡ Some (copy_so_far g span (k + 1) row)
  copy_fills f g k alike v value at is old new n before sets =
      let same = twins_alike f g row.cells k alike in
      let more = twins_more g row.cells k v at in
      sets.here ∙ ap (option_map (with_cell k value)) before
      ∙ (λ i. Some (record { relation = row.relation; cells = set (same i) k (is i); span = span }))
      ∙ (λ i. Some (record { relation = row.relation; cells = more i; span = span }))

-- what was cut keeps its twin
pub twin_stays : (m : ℤ) (old new : List NamedPiece) (p : ℕ) → IsSomeAnd (slice_get old p) (HasBeenCut m old)
    → ((x : ℕ) (piece : NamedPiece) → slice_get old x ≡ Some piece → ¬ (Has piece.span m) → slice_get new x ≡ Some piece)
    → twin_in old p ≡ twin_in new p
twin_stays m old new p cut kept =
    let q = some_and (HasBeenCut m old) (slice_get old p) cut in
    let twin : Option NamedPiece → ℕ = λ o. option_map_or (λ x. x.twin) o 0 in
    ap twin q.1 ∙ sym (ap twin (kept p q.0 q.1 q.2.0))
