-- What two cells of rows over a common instant hold.
use Rattle.std.proofs.Common.{◌≡◌, ◌≢◌, ℕ, ◌<◌, ◌≤◌, Option, Some, ap, sym, ◌∙◌, subst, arith, ⊎_elim}
use Rattle.std.specs.Option.{option_map_or}
use Rattle.std.proofs.lemmas.Bool.{cases_lt}
use Rattle.time_line.specs.Span.{Ends, Has, Meet}
use Rattle.term_core.specs.declared.const_id.ConstId.{ConstId}
use Rattle.term_core.specs.declared.term.Unknown.{Unknown as HeldUnknown}
use Rattle.term_core.specs.declared.term.Seen.{Seen}
use Rattle.term_core.specs.declared.term.Seen.TheVariants.{Const, Piece}
use Rattle.rule_core.specs.Terms.{numbered, TermOf, unknown}
use Rattle.rule_core.specs.Values.{unknown_value}
use Rattle.null_store.specs.Store.{Store, PieceOf, piece_at, term_in, IsLiveOver, IsStore}
use Rattle.null_store.proofs.ListLemmas.{some_and}

-- unknowns are told by their rule, their frontier and their variable
same_unknowns : (u v : HeldUnknown) → (let term : HeldUnknown → TermOf ConstId = λ w. unknown (unknown_value w) in term u ≡ term v) → u ≡ v
same_unknowns u v e =
    let rule : u.rule ≡ v.rule = cc in
    let frontier : u.frontier ≡ v.frontier = cc in
    let var : u.var ≡ v.var = cc in
    λ i. record { rule = rule i; frontier = frontier i; var = var i }

module _ (store : Store) (ok : IsStore store) (s t : Ends) (meet : Meet s t) where
  piece_term : (m : ℕ) (p : PieceOf) → piece_at store m ≡ Some p → term_in store (Piece m) ≡ unknown (unknown_value p.unknown)
  piece_term m p e = ap (λ (o : Option PieceOf). option_map_or (λ q. unknown (unknown_value q.unknown)) o (unknown (numbered m))) e

  one_piece : (m n : ℕ) → IsLiveOver store s (Piece m) → IsLiveOver store t (Piece n)
      → term_in store (Piece m) ≡ term_in store (Piece n) → m ≡ n
  one_piece m n x y e =
      let p = some_and (λ (piece : PieceOf). piece.span ≡ s) (piece_at store m) x in
      let q = some_and (λ (piece : PieceOf). piece.span ≡ t) (piece_at store n) y in
      let unknowns = same_unknowns p.0.unknown q.0.unknown (sym (piece_term m p.0 p.1) ∙ e ∙ piece_term n q.0 q.1) in
      let never : ¬ (m ≢ n) = λ differ. ok.apart m n p.0 q.0 p.1 q.1 unknowns differ meet.0
      (subst (λ (ends : Ends). Has ends meet.0) (sym p.2) meet.1) (subst (λ (ends : Ends). Has ends meet.0) (sym q.2) meet.2) in
      ⊎_elim
      (λ (l : m < n). absurd (never (λ same. omega (arith, l, same))))
      (λ (g : n ≤ m). ⊎_elim
      (λ (l : n < m). absurd (never (λ same. omega (arith, l, same))))
      (λ (h : m ≤ n). omega (arith, g, h))
      (cases_lt n m))
      (cases_lt m n)

  -- they are the same where they are one term
  pub one_cell : (x y : Seen) → IsLiveOver store s x → IsLiveOver store t y → term_in store x ≡ term_in store y → x ≡ y
  one_cell (Const c) (Const d) p q e = let same : c ≡ d = cc in ap Const same
  one_cell (Const c) (Piece n) p q e =
      let piece = some_and (λ (r : PieceOf). r.span ≡ t) (piece_at store n) q in
      let clash = e ∙ piece_term n piece.0 piece.1 in
      absurd cc
  one_cell (Piece m) (Const d) p q e =
      let piece = some_and (λ (r : PieceOf). r.span ≡ s) (piece_at store m) p in
      let clash = sym (piece_term m piece.0 piece.1) ∙ e in
      absurd cc
  one_cell (Piece m) (Piece n) p q e = ap Piece (one_piece m n p q e)
