-- What a store is when the rows and the pieces of a firing are added.
use Rattle.std.proofs.Common.{◌≡◌, ◌≢◌, ℕ, ◌+◌, ◌-◌, ◌<◌, ◌≤◌, ◌==◌, Option, Some, None, List, ◌++◌, length, map, get_or, refl, sym, ap, ◌∙◌, subst, arith, ⊎_elim, All, Contains}
use Rattle.std.specs.Prelude.{slice_get, position, IsSomeAnd, IsPermutation}
use Rattle.std.specs.Option.{option_and_then, option_map, option_map_or}
use Rattle.std.proofs.lemmas.Bool.{cases_lt, eqb-true}
use Rattle.std.proofs.lemmas.List.{length-map, get_or_default}
use Rattle.std.proofs.lemmas.List.Elements.{All-map, All-contains, Contains-get_or}
use Rattle.std.proofs.lemmas.List.Quantifiers.{position-Some}
use Rattle.std.proofs.lemmas.Option.{slice_get_within}
use Rattle.time_line.specs.Span.{Ends, Has, Meet, AreApart}
use Rattle.term_core.specs.declared.const_id.ConstId.{ConstId}
use Rattle.term_core.specs.declared.term.Unknown.{Unknown as HeldUnknown}
use Rattle.term_core.specs.declared.term.Seen.{Seen}
use Rattle.term_core.specs.declared.term.Seen.TheVariants.{Const, Piece}
use Rattle.rule_core.specs.declared.rules.Arg.{Arg}
use Rattle.rule_core.specs.declared.rules.Arg.TheVariants.{Var, Const as Fixed}
use Rattle.rule_core.specs.declared.rules.Atom.{Atom}
use Rattle.rule_core.specs.declared.rules.Tgd.{Tgd}
use Rattle.rule_core.specs.Terms.{numbered, named, TermOf, constant, unknown, FactOf, StampedOf}
use Rattle.rule_core.specs.Values.{unknown_value}
use Rattle.rule_core.specs.Match.{value, image}
use Rattle.rule_core.specs.Validity.{IsWithin}
use Rattle.rule_core.specs.Frontier.{Occurs}
use Rattle.rule_core.specs.Firing.{frontier_of, frontier_value, fired_term, fired_facts}
use Rattle.rule_core.proofs.FiringLemmas.{frontier_is}
use Rattle.fact_table.specs.Rows.{SeenRow, row_at}
use Rattle.null_store.specs.declared.piece.NamedPiece.{NamedPiece}
use Rattle.null_store.specs.Store.{NameOf, PieceOf, Spare, Store, piece_at, term_in, fact_in, facts_in, IsLiveOver, IsStore}
use Rattle.null_store.specs.Changes.{IsFresh}
use Rattle.null_store.specs.Layout.{unknown_in, with_name, piece_of, cell_of, row_for, HasFrontierValues, piece_for, IsPieceOf, AddsPieces, AddsRows}
use Rattle.null_store.proofs.ListLemmas.{some_and, and_some, same_some, held_at, held_behind, stands, map_alike, map_map, held_contains, contains_map, at_map, at_from_contains}
use Rattle.null_store.proofs.GrowthLemmas.{before, grown, facts_grow, grown_is_store}

-- an `exists` variable has no place in the frontier
no_value : (tgd : Tgd) (values : List ConstId) (v : ℕ) → tgd.body_vars ≤ v → frontier_value (frontier_of tgd) values v ≡ None
no_value tgd values v h = by (position (λ w. w == v) (frontier_of tgd)) refl
  where
    by : (o : Option ℕ) → position (λ w. w == v) (frontier_of tgd) ≡ o → frontier_value (frontier_of tgd) values v ≡ None
    by None e = ap (option_and_then (λ k. slice_get values k)) e
    by (Some k) e =
        let at = position-Some (λ w. w == v) (frontier_of tgd) k 0 e in
        let same = eqb-true (get_or (frontier_of tgd) k 0) v at.1 in
        let below = (((frontier_is tgd).same (get_or (frontier_of tgd) k 0)).0 (Contains-get_or (frontier_of tgd) k 0 at.0)).0 in
        absurd (omega (arith, same, below, h))

module _ (tgd : Tgd) (n : NameOf) (name : ℕ) (span : Ends) (names : List NameOf) (values : List Seen) (old more : List NamedPiece)
    (is_named : 0 < length more → slice_get names name ≡ Some n) (safe : All (λ (atom : Atom). All (IsWithin (length tgd.vars)) atom.args) tgd.head)
    (has : HasFrontierValues tgd n.frontier values) (adds : AddsPieces tgd name span old more values (length tgd.vars))
    (rows later : List (Option SeenRow)) (spare room : Spare) where
  abbrev pieces : List (Option PieceOf)
  pieces = map (piece_of names) old

  abbrev new_pieces : List (Option PieceOf)
  new_pieces = map (piece_of names) more

  abbrev new_rows : List SeenRow
  new_rows = map (row_for values span) tgd.head

  abbrev store : Store
  store = before rows later pieces names spare room new_pieces

  abbrev after : Store
  after = grown rows later pieces names spare room new_pieces

  -- the piece of an `exists` variable
  abbrev made : ℕ → PieceOf
  made v = record { unknown = unknown_in n (v - tgd.body_vars); span = span }

  -- where a variable has a piece, some are new
  some_more : (v k : ℕ) → IsPieceOf tgd name span (length old) more values v k → 0 < length more
  some_more v k h =
      let inside = slice_get_within more k (piece_for tgd name span v) h.piece in
      omega (arith, inside)

  made_at : (v k : ℕ) → IsPieceOf tgd name span (length old) more values v k → held_at new_pieces k ≡ Some (made v)
  made_at v k h =
      ap (option_and_then (λ (p : Option PieceOf). p)) (at_map (piece_of names) more k (piece_for tgd name span v) h.piece)
      ∙ ap (option_map (with_name (piece_for tgd name span v))) (is_named (some_more v k h))

  value_at : (v k : ℕ) → IsPieceOf tgd name span (length old) more values v k → get_or values v (Piece 0) ≡ Piece (length pieces + k)
  value_at v k h = h.value ∙ ap (λ m. Piece (m + k)) (sym (length-map old (piece_of names)))

  -- what a cell of a new row is: live over the span where it is a piece, and the term that its argument stands for
  abbrev Stands : Arg → Type 0
  Stands arg = IsLiveOver after span (cell_of values arg)
      × (term_in after (cell_of values arg) ≡ value (λ c. c) (fired_term n.rule tgd n.frontier) arg)

  abbrev fresh_term : ℕ → TermOf ConstId
  fresh_term v = unknown (named n.rule n.frontier (v - tgd.body_vars))

  frontier_stands : (v : ℕ) → v < tgd.body_vars → Occurs tgd.head v → Stands (Var v)
  frontier_stands v l occurs = by (frontier_value (frontier_of tgd) n.frontier v) refl (has v l occurs)
    where
      by : (o : Option ConstId) → frontier_value (frontier_of tgd) n.frontier v ≡ o → Some (get_or values v (Piece 0)) ≡ option_map Const o
          → Stands (Var v)
      by None q e = absurd cc
      by (Some c) q e =
          let cell : get_or values v (Piece 0) ≡ Const c = cc in (
            subst (IsLiveOver after span) (sym cell) tt,
            ap (term_in after) cell ∙ ap (λ o. option_map_or constant o (fresh_term v)) (sym q),
          )

  exists_stands : (v : ℕ) → tgd.body_vars ≤ v → v < length tgd.vars → Occurs tgd.head v → Stands (Var v)
  exists_stands v g l occurs =
      let h = adds.each v g l occurs in
      let cell = value_at v h.0 h.1 in
      let piece = held_behind pieces new_pieces h.0 (made v) (made_at v h.0 h.1) in (
        subst (IsLiveOver after span) (sym cell)
            (and_some (λ (p : PieceOf). p.span ≡ span) (piece_at after (length pieces + h.0)) (made v) piece refl),
        ap (term_in after) cell
            ∙ ap (λ (o : Option PieceOf).
            option_map_or (λ p. unknown (unknown_value p.unknown)) o (unknown (numbered (length pieces + h.0)))) piece
            ∙ ap (λ o. option_map_or constant o (fresh_term v)) (sym (no_value tgd n.frontier v g)),
      )

  arg_stands : (arg : Arg) → ((v : ℕ) → arg ≡ Var v → Occurs tgd.head v) → IsWithin (length tgd.vars) arg → Stands arg
  arg_stands (Fixed c) occurs within = (tt, refl)
  arg_stands (Var v) occurs within = ⊎_elim
      (λ (l : v < tgd.body_vars). frontier_stands v l (occurs v refl))
      (λ (g : tgd.body_vars ≤ v). exists_stands v g within (occurs v refl))
      (cases_lt v tgd.body_vars)

  each_stands : (k : ℕ) (d : Atom) → k < length tgd.head → All Stands (get_or tgd.head k d).args
  each_stands k d l j e m =
      let atom = get_or tgd.head k d in
      arg_stands (get_or atom.args j e)
      (λ v is. (k, atom, l, get_or_default tgd.head k atom d l, subst (Contains atom.args) is (Contains-get_or atom.args j e m)))
      (safe k d l j e m)

  -- the new rows hold the images of the head
  abbrev stamped : FactOf ConstId → StampedOf (FactOf ConstId)
  stamped fact = record { row = fact; span = span }

  new_facts : map (fact_in after) new_rows ≡ map stamped (fired_facts (λ c. c) n.rule tgd n.frontier)
  new_facts =
      let made_fact = image (λ c. c) (fired_term n.rule tgd n.frontier) in
      map_map (fact_in after) (row_for values span) tgd.head
      ∙ map_alike (λ atom. fact_in after (row_for values span atom)) (λ atom. stamped (made_fact atom)) tgd.head (λ k d l.
      let atom = get_or tgd.head k d in
      let terms = map_map (term_in after) (cell_of values) atom.args
      ∙ map_alike (λ arg. term_in after (cell_of values arg)) (value (λ c. c) (fired_term n.rule tgd n.frontier)) atom.args
      (λ j e m. (each_stands k d l j e m).1) in
      λ i. record { row = record { relation = atom.relation; terms = terms i }; span = span })
      ∙ sym (map_map stamped made_fact tgd.head)

  new_live : All (λ (row : SeenRow). All (IsLiveOver after row.span) row.cells) new_rows
  new_live = All-map (λ (row : SeenRow). All (IsLiveOver after row.span) row.cells) (row_for values span) tgd.head (λ k d l.
      All-map (IsLiveOver after span) (cell_of values) (get_or tgd.head k d).args (λ j e m. (each_stands k d l j e m).0))

  -- each new piece is that of a variable of the head
  from_more : (k : ℕ) (piece : PieceOf) → held_at new_pieces k ≡ Some piece
      → (v : ℕ) × IsPieceOf tgd name span (length old) more values v k × (made v ≡ piece)
  from_more k piece e =
      let inside = slice_get_within new_pieces k (Some piece) (stands (slice_get new_pieces k) piece e) in
      let h = adds.only k (omega (arith, inside, length-map more (piece_of names))) in
      (h.0, h.2, same_some (held_at new_pieces k) (made h.0) piece (made_at h.0 k h.2) e)

  new_used : (k : ℕ) (piece : PieceOf) → held_at new_pieces k ≡ Some piece
      → (m : ℕ) × IsSomeAnd (slice_get new_rows m) (λ row. Contains row.cells (Piece (length pieces + k)))
  new_used k piece e =
      let h = from_more k piece e in
      let atom = h.1.occurs in
      let row = at_map (row_for values span) tgd.head atom.0 atom.1 (at_from_contains tgd.head atom.1 atom.0 atom.2 atom.3) in (
        atom.0,
        and_some (λ (r : SeenRow). Contains r.cells (Piece (length pieces + k))) (slice_get new_rows atom.0)
            (row_for values span atom.1) row
            (subst (Contains (map (cell_of values) atom.1.args)) (value_at h.0 k h.1)
            (contains_map (cell_of values) atom.1.args (Var h.0) atom.4)),
      )

  new_apart : (j k : ℕ) (a b : PieceOf) → held_at new_pieces j ≡ Some a → held_at new_pieces k ≡ Some b → a.unknown ≡ b.unknown
      → j ≢ k → AreApart a.span b.span
  new_apart j k a b p q e differ =
      let x = from_more j a p in
      let y = from_more k b q in
      let unknowns : unknown_in n (x.0 - tgd.body_vars) ≡ unknown_in n (y.0 - tgd.body_vars) =
      ap (λ (piece : PieceOf). piece.unknown) x.2 ∙ e ∙ ap (λ (piece : PieceOf). piece.unknown) (sym y.2) in
      let variables : x.0 ≡ y.0 = omega (arith, ap (λ (u : HeldUnknown). u.var) unknowns, x.1.exists, y.1.exists) in
      let both : Piece (length pieces + j) ≡ Piece (length pieces + k) =
      sym (value_at x.0 j x.1) ∙ ap (λ v. get_or values v (Piece 0)) variables ∙ value_at y.0 k y.1 in
      let places : length pieces + j ≡ length pieces + k = cc in
      absurd (differ (omega (arith, places)))

  module _ (ok : IsStore store) (fresh : 0 < length more → IsFresh store n span) where
    -- no live piece of the name meets the span
    new_fresh : (m k : ℕ) (a b : PieceOf) → held_at pieces m ≡ Some a → held_at new_pieces k ≡ Some b → a.unknown ≡ b.unknown
        → AreApart a.span b.span
    new_fresh m k a b p q e =
        let x = from_more k b q in
        let holder = ok.used m a p in
        let row = some_and (λ (r : SeenRow). Contains r.cells (Piece m)) (row_at rows holder.0) holder.1 in
        let live = some_and (λ (piece : PieceOf). piece.span ≡ row.0.span) (piece_at store m)
        (All-contains (IsLiveOver store row.0.span) row.0.cells (Piece m) (ok.live holder.0 row.0 row.1) row.2) in
        let spans : a.span ≡ row.0.span =
        ap (λ (piece : PieceOf). piece.span) (same_some (held_at pieces m) a live.0 p live.1) ∙ live.2 in
        let unknowns : a.unknown ≡ unknown_in n (x.0 - tgd.body_vars) = e ∙ ap (λ (piece : PieceOf). piece.unknown) (sym x.2) in
        let term : term_in store (Piece m) ≡ fresh_term x.0 =
        ap (λ (o : Option PieceOf). option_map_or (λ piece. unknown (unknown_value piece.unknown)) o (unknown (numbered m))) p
        ∙ ap (λ (u : HeldUnknown). unknown (unknown_value u)) unknowns in
        let held = subst (Contains (map (term_in store) row.0.cells)) term (contains_map (term_in store) row.0.cells (Piece m) row.2) in
        let none = All-contains (λ (fact : StampedOf (FactOf ConstId)). Meet fact.span span
        → (var : ℕ) → ¬ (Contains fact.row.terms (unknown (named n.rule n.frontier var)))) (facts_in store) (fact_in store row.0) (fresh (some_more x.0 k x.1))
        (held_contains (fact_in store) rows holder.0 row.0 row.1) in
        let over : b.span ≡ span = ap (λ (piece : PieceOf). piece.span) (sym x.2) in
        λ t in_a in_b. none
        (t, subst (λ (s : Ends). Has s t) spans in_a, subst (λ (s : Ends). Has s t) over in_b) (x.0 - tgd.body_vars) held

    module _ (added : AddsRows rows later new_rows) where
      pub store_after : IsStore after
      store_after = grown_is_store rows later pieces names spare room new_pieces ok new_rows added new_live new_used new_fresh new_apart

      pub facts_after : IsPermutation (facts_in store ++ map stamped (fired_facts (λ c. c) n.rule tgd n.frontier)) (facts_in after)
      facts_after = subst (λ l. IsPermutation (facts_in store ++ l) (facts_in after)) new_facts
          (facts_grow rows later pieces names spare room new_pieces ok new_rows added)
