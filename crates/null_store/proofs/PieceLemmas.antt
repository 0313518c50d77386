-- New pieces as they are added one after another.
use Rattle.std.proofs.Common.{◌≡◌, ◌≢◌, ℕ, ◌+◌, ◌<◌, ◌≤◌, List, [], ◌∷◌, ◌++◌, length, set, sym, ap, ◌∙◌, subst, arith, ⊎_elim}
use Rattle.std.proofs.lemmas.Bool.{cases_lt}
use Rattle.std.proofs.lemmas.List.{get_or-set_same, get_or-set_other, length_push, length-append, append_assoc}
use Rattle.std.proofs.lemmas.Option.{slice_get_within}
use Rattle.time_line.specs.Span.{Ends}
use Rattle.term_core.specs.declared.term.Seen.{Seen}
use Rattle.term_core.specs.declared.term.Seen.TheVariants.{Piece}
use Rattle.rule_core.specs.declared.rules.Tgd.{Tgd}
use Rattle.rule_core.specs.Frontier.{Occurs}
use Rattle.null_store.specs.declared.piece.NamedPiece.{NamedPiece}
use Rattle.null_store.specs.Layout.{piece_for, IsPieceOf, AddsPieces}
use Rattle.null_store.proofs.ListLemmas.{in_front, at_end}

module _ (tgd : Tgd) (name : ℕ) (span : Ends) (old : List NamedPiece) where
  -- no piece yet
  pub pieces_none : (values : List Seen) (n : ℕ) → n ≤ tgd.body_vars → AddsPieces tgd name span old [] values n
  pieces_none values n h = record {
    each = λ v e l o. absurd (omega (arith, e, l, h));
    only = λ k l. absurd (omega arith);
    few = omega arith;
  }

  module _ (more : List NamedPiece) (values : List Seen) (n : ℕ) (exists : tgd.body_vars ≤ n)
      (before : AddsPieces tgd name span old more values n) where
    -- a piece is where it was when one more is added
    piece_kept : (v k : ℕ) → v < n → IsPieceOf tgd name span (length old) more values v k
        → IsPieceOf tgd name span (length old) (more ++ piece_for tgd name span n ∷ [])
        (set values n (Piece (length old + length more))) v k
    piece_kept v k l h =
        let other : v ≢ n = omega (arith, l) in
        record {
          exists = h.exists;
          occurs = h.occurs;
          piece = in_front more (piece_for tgd name span n ∷ []) k (slice_get_within more k (piece_for tgd name span v) h.piece) ∙ h.piece;
          value = get_or-set_other values n v (Piece (length old + length more)) (Piece 0) other ∙ h.value;
        }

    module _ (inside : n < length values) (occurs : Occurs tgd.head n) where
      -- the new piece is behind the others
      piece_new : IsPieceOf tgd name span (length old) (more ++ piece_for tgd name span n ∷ [])
          (set values n (Piece (length old + length more))) n (length more)
      piece_new = record {
        exists = exists;
        occurs = occurs;
        piece = at_end more (piece_for tgd name span n);
        value = get_or-set_same values n (Piece (length old + length more)) (Piece 0) inside;
      }

      pub pieces_pushed : AddsPieces tgd name span old (more ++ piece_for tgd name span n ∷ [])
          (set values n (Piece (length old + length more))) (n + 1)
      pieces_pushed = record {
        each = λ v e l o. ⊎_elim
            (λ (lt : v < n). let h = before.each v e lt o in (h.0, piece_kept v h.0 lt h.1))
            (λ (ge : n ≤ v). let same : n ≡ v = omega (arith, l) in
            subst (λ w. (k : ℕ) × IsPieceOf tgd name span (length old) (more ++ piece_for tgd name span n ∷ [])
            (set values n (Piece (length old + length more))) w k) same (length more, piece_new))
            (cases_lt v n);
        only = λ k l. ⊎_elim
            (λ (lt : k < length more). let h = before.only k lt in (h.0, omega (arith, h.1), piece_kept h.0 k h.1 h.2))
            (λ (ge : length more ≤ k). let same : length more ≡ k = omega (arith, l, length_push more (piece_for tgd name span n)) in
            subst (λ j. (v : ℕ) × (v < n + 1) × IsPieceOf tgd name span (length old) (more ++ piece_for tgd name span n ∷ [])
            (set values n (Piece (length old + length more))) v j) same (n, omega arith, piece_new))
            (cases_lt k (length more));
        few = omega (arith, before.few, exists, length_push more (piece_for tgd name span n));
      }

    pub pieces_skipped : ¬ (Occurs tgd.head n) → AddsPieces tgd name span old more values (n + 1)
    pieces_skipped none = record {
      each = λ v e l o. ⊎_elim
          (λ (lt : v < n). before.each v e lt o)
          (λ (ge : n ≤ v). let same : v ≡ n = omega (arith, l) in absurd (none (subst (Occurs tgd.head) same o)))
          (cases_lt v n);
      only = λ k l. let h = before.only k l in (h.0, omega (arith, h.1), h.2);
      few = omega (arith, before.few, exists);
    }

  -- the same for lists that begin with the pieces before
  pub pieces_go_on : (more items new_items : List NamedPiece) (values new_values : List Seen) (n place : ℕ) → tgd.body_vars ≤ n
      → n < length values → Occurs tgd.head n → AddsPieces tgd name span old more values n → items ≡ old ++ more → place ≡ length items
      → new_items ≡ items ++ piece_for tgd name span n ∷ [] → new_values ≡ set values n (Piece place)
      → (after : List NamedPiece) × (new_items ≡ old ++ after) × AddsPieces tgd name span old after new_values (n + 1)
  pieces_go_on more items new_items values new_values n place exists inside occurs before i p ni nv =
      let piece = piece_for tgd name span n in
      let behind : place ≡ length old + length more = p ∙ ap length i ∙ length-append old more in (
        more ++ piece ∷ [],
        ni ∙ ap (λ (l : List NamedPiece). l ++ piece ∷ []) i ∙ append_assoc old more (piece ∷ []),
        subst (λ (vs : List Seen). AddsPieces tgd name span old (more ++ piece ∷ []) vs (n + 1))
            (sym (nv ∙ ap (λ k. set values n (Piece k)) behind)) (pieces_pushed more values n exists before inside occurs),
      )
