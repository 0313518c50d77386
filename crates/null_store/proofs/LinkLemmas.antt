-- The lists of cells that hold pieces, as a cell is written.
use Rattle.std.proofs.Common.{◌≡◌, ◌≢◌, ◌⊎◌, inl, inr, ℕ, zero, suc, ◌+◌, ◌<◌, ◌≤◌, ◌||◌, eqb, true, false, Option, Some, None, List, [], ◌∷◌, ◌++◌, length, set, refl, sym, ap, ◌∙◌, subst, arith, ⊎_elim}
use Rattle.std.specs.Prelude.{slice_get, IsSomeAnd}
use Rattle.std.specs.List.{list_any, IsDistinct, AllByRecursion}
use Rattle.std.specs.Option.{option_or}
use Rattle.std.proofs.lemmas.Bool.{cases_lt, cases_eq, cases_Bool, eqb-true, ne_eqb}
use Rattle.std.proofs.lemmas.List.{length_push, length-set}
use Rattle.std.proofs.lemmas.Map.Steps.{length-le_from_distinct_below}
use Rattle.std.proofs.lemmas.Option.{slice_get_within, slice_get_past}
use Rattle.term_core.specs.declared.term.Seen.{Seen}
use Rattle.term_core.specs.declared.term.Seen.TheVariants.{Const, Piece}
use Rattle.row_arena.specs.declared.cell.Cell.{Cell}
use Rattle.null_store.specs.declared.piece.CellList.{CellList}
use Rattle.null_store.specs.Lists.{before_in, IsLinked, IsOccurrenceList, HasEnds, AreListed}
use Rattle.null_store.specs.Layout.{IsPlain}
use Rattle.null_store.proofs.ListLemmas.{some_and, and_some, same_some, in_front, at_end, pushed_at, set_here, set_else}

-- a constant is no piece
pub plain_piece : (v : Seen) (p : ℕ) → IsPlain v → ¬ (v ≡ Piece p)
plain_piece (Const c) p h e = cc
plain_piece (Piece q) p h e = h

pub same_piece : (v : Seen) (p q : ℕ) → v ≡ Piece p → v ≡ Piece q → p ≡ q
same_piece v p q a b = let both : Piece p ≡ Piece q = sym a ∙ b in cc

-- the list of a piece is told by the cells that hold it
module _ (f g : ℕ → Option Cell) (piece : ℕ)
    (stay : (id : ℕ) (c : Cell) → c.value ≡ Piece piece → f id ≡ Some c → g id ≡ Some c)
    (back : (id : ℕ) (c : Cell) → c.value ≡ Piece piece → g id ≡ Some c → f id ≡ Some c) where
  pub list_stays : (ids : List ℕ) → IsOccurrenceList f piece ids → IsOccurrenceList g piece ids
  list_stays ids h = record {
    linked = λ k id e.
        let c = some_and (IsLinked piece ids k) (f id) (h.linked k id e) in
        and_some (IsLinked piece ids k) (g id) c.0 (stay id c.0 c.2.value c.1) c.2;
    all = λ id c e v. h.all id c (back id c v e) v;
    once = h.once;
  }

-- the lists stay where the cells that hold pieces do
module _ (f g : ℕ → Option Cell) (lists : List CellList)
    (stay : (id : ℕ) (c : Cell) (p : ℕ) → c.value ≡ Piece p → f id ≡ Some c → g id ≡ Some c)
    (back : (id : ℕ) (c : Cell) (p : ℕ) → c.value ≡ Piece p → g id ≡ Some c → f id ≡ Some c) where
  pub lists_stay : AreListed f lists → AreListed g lists
  lists_stay h = record {
    each = λ piece list e.
        let ids = h.each piece list e in
        (ids.0, ids.1, list_stays f g piece (λ id c. stay id c piece) (λ id c. back id c piece) ids.0 ids.2);
    there = λ id c piece e v. h.there id c piece (back id c piece v e) v;
  }

-- a piece that no cell holds has the empty list
pub one_more : (f : ℕ → Option Cell) (lists : List CellList) → AreListed f lists
    → AreListed f (lists ++ record { first = None; last = None; count = 0 } ∷ [])
one_more f lists h = record {
  each = λ piece list e. ⊎_elim
      (λ (old : slice_get lists piece ≡ Some list). h.each piece list old)
      (λ (new : (piece ≡ length lists) × (list ≡ record { first = None; last = None; count = 0 })). (
        [],
        subst (λ (l : CellList). HasEnds l []) (sym new.1) (record { first = refl; last = refl; count = refl }),
        record {
          linked = λ k id at. absurd cc;
          all = λ id c is v. let l = h.there id c piece is v in absurd (omega (arith, l, new.0));
          once = λ j k id at. absurd cc;
        },
      ))
      (pushed_at lists (record { first = None; last = None; count = 0 }) list piece e);
  there = λ id c piece e v. let l = h.there id c piece e v in
      omega (arith, l, length_push lists (record { first = None; last = None; count = 0 }));
}

-- distinct numbers below n are at most n
apart : (x : ℕ) (ys : List ℕ) → ((k y : ℕ) → slice_get ys k ≡ Some y → y ≢ x) → AllByRecursion (λ y. eqb x y ≡ false) ys
apart x [] h = tt
apart x (y ∷ ys) h = (ne_eqb x y (λ e. h 0 y refl (sym e)), apart x ys (λ k z e. h (suc k) z e))

distinct : (xs : List ℕ) → ((j k id : ℕ) → slice_get xs j ≡ Some id → slice_get xs k ≡ Some id → j ≡ k) → IsDistinct eqb xs
unfolding IsDistinct
distinct [] h = tt
distinct (x ∷ xs) h = (
  apart x xs (λ k y e same. let clash = h 0 (suc k) x refl (e ∙ ap Some same) in omega (arith, clash)),
  distinct xs (λ j k id a b. let same = h (suc j) (suc k) id a b in omega (arith, same)),
)

found : (xs : List ℕ) (q : ℕ) → list_any (eqb q) xs ≡ true → (k : ℕ) × (slice_get xs k ≡ Some q)
found [] q h = absurd cc
found (x ∷ xs) q h = ⊎_elim
    (λ (t : eqb q x ≡ true). (0, ap Some (sym (eqb-true q x t))))
    (λ (f : eqb q x ≡ false). let rest = found xs q (subst (λ b. b || list_any (eqb q) xs ≡ true) f h) in (suc rest.0, rest.1))
    (cases_Bool (eqb q x))

pub few_below : (xs : List ℕ) (n : ℕ) → ((j k id : ℕ) → slice_get xs j ≡ Some id → slice_get xs k ≡ Some id → j ≡ k)
    → ((k id : ℕ) → slice_get xs k ≡ Some id → id < n) → length xs ≤ n
few_below xs n once below =
    length-le_from_distinct_below xs n (distinct xs once) (λ q h. let at = found xs q h in below at.0 q at.1)

-- a place before the end is the same with one more number behind
before_front : (ids : List ℕ) (x k : ℕ) → k ≤ length ids → before_in (ids ++ x ∷ []) k ≡ before_in ids k
before_front ids x zero l = refl
before_front ids x (suc k) l = in_front ids (x ∷ []) k (omega arith)

last_at : (ids : List ℕ) (n y : ℕ) → n ≡ length ids → before_in ids n ≡ Some y → (k : ℕ) × (k + 1 ≡ length ids) × (slice_get ids k ≡ Some y)
last_at ids zero y e b = absurd cc
last_at ids (suc k) y e b = (k, omega (arith, e), b)

first_more : (ids : List ℕ) (x : ℕ) (o : Option ℕ) → o ≡ slice_get ids 0 → option_or o (Some x) ≡ slice_get (ids ++ x ∷ []) 0
first_more [] x o e = ap (λ w. option_or w (Some x)) e
first_more (y ∷ ids) x o e = ap (λ w. option_or w (Some x)) e

-- a cell that held a constant is linked behind the last cell of a piece
module _ (f : ℕ → Option Cell) (lists : List CellList) (listed : AreListed f lists) (piece : ℕ) (list : CellList)
    (is : slice_get lists piece ≡ Some list) (x : ℕ) (old : Cell) (was : f x ≡ Some old) (plain : IsPlain old.value) where
  abbrev ids : List ℕ
  ids = (listed.each piece list is).0

  ends : HasEnds list ids
  ends = (listed.each piece list is).1

  its : IsOccurrenceList f piece ids
  its = (listed.each piece list is).2

  abbrev more : List ℕ
  more = ids ++ x ∷ []

  at_place : (k id : ℕ) → slice_get ids k ≡ Some id → (c : Cell) × (f id ≡ Some c) × IsLinked piece ids k c
  at_place k id e = some_and (IsLinked piece ids k) (f id) (its.linked k id e)

  not_x : (id : ℕ) (c : Cell) (p : ℕ) → f id ≡ Some c → c.value ≡ Piece p → id ≢ x
  not_x id c p e v same =
      plain_piece old.value p plain (ap (λ (d : Cell). d.value) (same_some (f id) old c (ap f same ∙ was) e) ∙ v)

  -- the last cell
  end_at : (y : ℕ) → list.last ≡ Some y → (k : ℕ) × (k + 1 ≡ length ids) × (slice_get ids k ≡ Some y)
  end_at y e = last_at ids (length ids) y refl (sym ends.last ∙ e)

  end_holds : (y : ℕ) → list.last ≡ Some y → (c : Cell) × (f y ≡ Some c) × (c.value ≡ Piece piece)
  end_holds y e = let k = end_at y e in let c = at_place k.0 y k.2 in (c.0, c.1, c.2.value)

  is_end : (id : ℕ) → (list.last ≡ Some id) ⊎ (list.last ≢ Some id)
  is_end id = by list.last refl
    where
      by : (o : Option ℕ) → list.last ≡ o → (list.last ≡ Some id) ⊎ (list.last ≢ Some id)
      by None e = inr (λ same. let clash : None ≡ Some id = sym e ∙ same in cc)
      by (Some y) e = ⊎_elim
          (λ (same : y ≡ id). inl (e ∙ ap Some same))
          (λ (differ : y ≢ id). inr (λ same. let both : Some y ≡ Some id = sym e ∙ same in differ cc))
          (cases_eq y id)

  once_more : (j k id : ℕ) → slice_get more j ≡ Some id → slice_get more k ≡ Some id → j ≡ k
  once_more j k id a b = ⊎_elim
      (λ (o : slice_get ids j ≡ Some id). ⊎_elim
      (λ (p : slice_get ids k ≡ Some id). its.once j k id o p)
      (λ (p : (k ≡ length ids) × (id ≡ x)). let c = at_place j id o in absurd (not_x id c.0 piece c.1 c.2.value p.1))
      (pushed_at ids x id k b))
      (λ (o : (j ≡ length ids) × (id ≡ x)). ⊎_elim
      (λ (p : slice_get ids k ≡ Some id). let c = at_place k id p in absurd (not_x id c.0 piece c.1 c.2.value o.1))
      (λ (p : (k ≡ length ids) × (id ≡ x)). o.0 ∙ sym p.0)
      (pushed_at ids x id k b))
      (pushed_at ids x id j a)

  -- the last cell is there, and another
  pub end_there : (y : ℕ) → list.last ≡ Some y → (c : Cell) × (f y ≡ Some c) × (y ≢ x)
  end_there y e = let c = end_holds y e in (c.0, c.1, not_x y c.0 piece c.1 c.2)

  -- the count has room
  pub count_below : (n : ℕ) → ((id : ℕ) (c : Cell) → f id ≡ Some c → id < n) → list.count < n
  count_below n below =
      let most = few_below more n once_more (λ k id e. ⊎_elim
      (λ (o : slice_get ids k ≡ Some id). let c = at_place k id o in below id c.0 c.1)
      (λ (p : (k ≡ length ids) × (id ≡ x)). subst (λ i. i < n) (sym p.1) (below x old was))
      (pushed_at ids x id k e)) in
      omega (arith, most, length_push ids x, ends.count)

  module _ (g : ℕ → Option Cell) (new : Cell) (here : g x ≡ Some new) (value : new.value ≡ Piece piece) (before : new.before ≡ list.last)
      (after : new.after ≡ None) (tail : (y : ℕ) (c : Cell) → list.last ≡ Some y → f y ≡ Some c
      → (d : Cell) × (g y ≡ Some d) × (d.value ≡ c.value) × (d.before ≡ c.before) × (d.after ≡ Some x))
      (others : (id : ℕ) → id ≢ x → list.last ≢ Some id → g id ≡ f id) where
    old_linked : (k id : ℕ) → slice_get ids k ≡ Some id → IsSomeAnd (g id) (IsLinked piece more k)
    old_linked k id e =
        let c = at_place k id e in
        let within = slice_get_within ids k id e in
        ⊎_elim
        (λ (last : list.last ≡ Some id).
        let d = tail id c.0 last c.1 in
        let place = end_at id last in
        let same = its.once k place.0 id e place.2 in
        and_some (IsLinked piece more k) (g id) d.0 d.1 (record {
          value = d.2 ∙ c.2.value;
          before = d.3 ∙ c.2.before ∙ sym (before_front ids x k (omega (arith, within)));
          after = let next : length ids ≡ k + 1 = omega (arith, same, place.1) in
              d.4 ∙ sym (at_end ids x) ∙ ap (slice_get more) next;
        }))
        (λ (other : list.last ≢ Some id).
        let inner : k + 1 < length ids = ⊎_elim
        (λ (l : k + 1 < length ids). l)
        (λ (m : length ids ≤ k + 1). let end : length ids ≡ suc k = omega (arith, m, within) in
        absurd (other (ends.last ∙ ap (before_in ids) end ∙ e)))
        (cases_lt (k + 1) (length ids)) in
        and_some (IsLinked piece more k) (g id) c.0 (others id (not_x id c.0 piece c.1 c.2.value) other ∙ c.1) (record {
          value = c.2.value;
          before = c.2.before ∙ sym (before_front ids x k (omega (arith, within)));
          after = c.2.after ∙ sym (in_front ids (x ∷ []) (k + 1) inner);
        }))
        (is_end id)

    new_linked : IsSomeAnd (g x) (IsLinked piece more (length ids))
    new_linked = and_some (IsLinked piece more (length ids)) (g x) new here (record {
      value = value;
      before = before ∙ ends.last ∙ sym (before_front ids x (length ids) (omega arith));
      after = after ∙ sym (slice_get_past more (length ids + 1) (omega (arith, length_push ids x)));
    })

    its_more : IsOccurrenceList g piece more
    its_more = record {
      linked = λ k id e. ⊎_elim
          (λ (o : slice_get ids k ≡ Some id). old_linked k id o)
          (λ (n : (k ≡ length ids) × (id ≡ x)).
          subst (λ i. IsSomeAnd (g i) (IsLinked piece more k)) (sym n.1)
          (subst (λ j. IsSomeAnd (g x) (IsLinked piece more j)) (sym n.0) new_linked))
          (pushed_at ids x id k e);
      all = λ id c e v. ⊎_elim
          (λ (same : id ≡ x). (length ids, at_end ids x ∙ ap Some (sym same)))
          (λ (differ : id ≢ x). let place = ⊎_elim
          (λ (last : list.last ≡ Some id). let k = end_at id last in (k.0, k.2))
          (λ (other : list.last ≢ Some id). its.all id c (sym (others id differ other) ∙ e) v)
          (is_end id) in
          (place.0, in_front ids (x ∷ []) place.0 (slice_get_within ids place.0 id place.1) ∙ place.1))
          (cases_eq id x);
      once = once_more;
    }

    -- cells of another piece stay
    other_stays : (id : ℕ) (c : Cell) (q : ℕ) → q ≢ piece → c.value ≡ Piece q → f id ≡ Some c → g id ≡ Some c
    other_stays id c q differ v e = others id (not_x id c q e v) (λ last.
        let d = end_holds id last in
        differ (same_piece c.value q piece v (ap (λ (w : Cell). w.value) (same_some (f id) c d.0 e d.1) ∙ d.2))) ∙ e

    other_back : (id : ℕ) (c : Cell) (q : ℕ) → q ≢ piece → c.value ≡ Piece q → g id ≡ Some c → f id ≡ Some c
    other_back id c q differ v e = sym (others id
        (λ same. differ (same_piece c.value q piece v
        (ap (λ (w : Cell). w.value) (same_some (g id) c new e (ap g same ∙ here)) ∙ value)))
        (λ last.
        let h = end_holds id last in
        let d = tail id h.0 last h.1 in
        differ (same_piece c.value q piece v (ap (λ (w : Cell). w.value) (same_some (g id) c d.0 e d.1) ∙ d.2 ∙ h.2)))) ∙ e

    abbrev later : CellList
    later = record { first = option_or list.first (Some x); last = Some x; count = list.count + 1 }

    its_ends : HasEnds later more
    its_ends = record {
      first = first_more ids x list.first ends.first;
      last = let long : length more ≡ suc (length ids) = omega (arith, length_push ids x) in
          sym (at_end ids x) ∙ sym (ap (before_in more) long);
      count = omega (arith, ends.count, length_push ids x);
    }

    written : (q : ℕ) (l : CellList) → slice_get (set lists piece later) q ≡ Some l
        → ((q ≡ piece) × (l ≡ later)) ⊎ ((q ≢ piece) × (slice_get lists q ≡ Some l))
    written q l e = ⊎_elim
        (λ (same : q ≡ piece). inl (
          same,
          same_some (slice_get (set lists piece later) q) l later e
              (ap (slice_get (set lists piece later)) same ∙ set_here lists piece later list is),
        ))
        (λ (differ : q ≢ piece). inr (differ, sym (set_else lists piece q later differ) ∙ e))
        (cases_eq q piece)

    pub listed_more : AreListed g (set lists piece later)
    listed_more = record {
      each = λ q l e. ⊎_elim
          (λ (h : (q ≡ piece) × (l ≡ later)).
          subst (λ p. (i : List ℕ) × HasEnds l i × IsOccurrenceList g p i) (sym h.0)
          (more, subst (λ (w : CellList). HasEnds w more) (sym h.1) its_ends, its_more))
          (λ (h : (q ≢ piece) × (slice_get lists q ≡ Some l)).
          let old_ids = listed.each q l h.1 in (
            old_ids.0,
            old_ids.1,
            list_stays f g q (λ id c v at. other_stays id c q h.0 v at) (λ id c v at. other_back id c q h.0 v at) old_ids.0 old_ids.2,
          ))
          (written q l e);
      there = λ id c q e v. ⊎_elim
          (λ (same : q ≡ piece). omega (arith, same, slice_get_within lists piece list is, length-set lists piece later))
          (λ (differ : q ≢ piece). omega (arith, listed.there id c q (other_back id c q differ v e) v, length-set lists piece later))
          (cases_eq q piece);
    }
