-- What a head's cells hold is a constant, or a piece that is there.
use Rattle.std.proofs.Common.{◌≡◌, ℕ, ◌+◌, ◌<◌, ◌≤◌, Option, Some, None, List, ◌++◌, length, get_or, refl, subst, arith, ⊎_elim, All, Contains}
use Rattle.std.specs.Option.{option_map}
use Rattle.std.proofs.lemmas.Bool.{cases_lt}
use Rattle.std.proofs.lemmas.List.{get_or_default, length-append}
use Rattle.std.proofs.lemmas.List.Elements.{Contains-get_or}
use Rattle.std.proofs.lemmas.Option.{slice_get_within}
use Rattle.time_line.specs.Span.{Ends}
use Rattle.term_core.specs.declared.const_id.ConstId.{ConstId}
use Rattle.term_core.specs.declared.term.Seen.{Seen}
use Rattle.term_core.specs.declared.term.Seen.TheVariants.{Const, Piece}
use Rattle.rule_core.specs.declared.rules.Arg.{Arg}
use Rattle.rule_core.specs.declared.rules.Arg.TheVariants.{Var, Const as Fixed}
use Rattle.rule_core.specs.declared.rules.Atom.{Atom}
use Rattle.rule_core.specs.declared.rules.Tgd.{Tgd}
use Rattle.rule_core.specs.Frontier.{Occurs}
use Rattle.rule_core.specs.Validity.{IsWithin}
use Rattle.rule_core.specs.Firing.{frontier_of, frontier_value}
use Rattle.null_store.specs.declared.piece.NamedPiece.{NamedPiece}
use Rattle.null_store.specs.Layout.{HasFrontierValues, AddsPieces, IsThere, piece_for}
use Rattle.null_store.proofs.LinkLemmas.{same_piece}

module _ (tgd : Tgd) (frontier : List ConstId) (name : ℕ) (span : Ends) (values : List Seen) (old more : List NamedPiece)
    (safe : All (λ (atom : Atom). All (IsWithin (length tgd.vars)) atom.args) tgd.head) (has : HasFrontierValues tgd frontier values)
    (adds : AddsPieces tgd name span old more values (length tgd.vars)) where
  no_piece : (v p : ℕ) (o : Option ConstId) → Some (get_or values v (Piece 0)) ≡ option_map Const o → ¬ (get_or values v (Piece 0) ≡ Piece p)
  no_piece v p None e q = cc
  no_piece v p (Some k) e q = let clash : Const k ≡ Piece p = cc in cc

  arg_there : (arg : Arg) → ((v : ℕ) → arg ≡ Var v → Occurs tgd.head v) → IsWithin (length tgd.vars) arg
      → IsThere values (length (old ++ more)) arg
  arg_there (Fixed k) occurs within p e = cc
  arg_there (Var v) occurs within p e = ⊎_elim
      (λ (l : v < tgd.body_vars).
      absurd (no_piece v p (frontier_value (frontier_of tgd) frontier v) (has v l (occurs v refl)) e))
      (λ (g : tgd.body_vars ≤ v).
      let h = adds.each v g within (occurs v refl) in
      let same = same_piece (get_or values v (Piece 0)) p (length old + h.0) e h.1.value in
      let inside = slice_get_within more h.0 (piece_for tgd name span v) h.1.piece in
      omega (arith, same, inside, length-append old more))
      (cases_lt v tgd.body_vars)

  pub head_there : All (λ (atom : Atom). All (IsThere values (length (old ++ more))) atom.args) tgd.head
  head_there k d l j e m =
      let atom = get_or tgd.head k d in
      arg_there (get_or atom.args j e)
      (λ v is. (k, atom, l, get_or_default tgd.head k atom d l, subst (Contains atom.args) is (Contains-get_or atom.args j e m)))
      (safe k d l j e m)
