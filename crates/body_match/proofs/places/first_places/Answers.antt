use Rattle.std.proofs.Common.{ℕ, ◌+◌, [], ◌∷◌, ◌++◌, List, sym, ap, ◌∙◌, subst, inl, inr}
use Rattle.std.proofs.lemmas.List.{length_push}
use Rattle.body_match.specs.declared.places.Place.{Place}
use Rattle.body_match.specs.Places.{IsFirstPlace, AreFirstPlaces}
use Rattle.rule_core.specs.declared.rules.Atom.{Atom}
use Rattle.body_match.proofs.ListLemmas.{at_push}
use Rattle.body_match.proofs.places.first_places.Goals as goal

places_more : (body : List Atom) (places : List Place) (place : Place) (v : ℕ) → AreFirstPlaces body v places → IsFirstPlace body v place
    → AreFirstPlaces body (v + 1) (places ++ place ∷ [])
places_more body places place v old new = record {
  size = length_push places place ∙ ap (λ n. n + 1) old.size;
  each = λ w other e. elim (at_push places place w other e) [
    | inl before ↦ old.each w other before
    | inr last ↦ subst (λ u. IsFirstPlace body u other) (sym (last.0 ∙ old.size)) (subst (IsFirstPlace body v) last.1 new)
  ];
}

pub loop-variable-preserved : goal.loop-variable-preserved
loop-variable-preserved c =
    rw c.in_ok-push.ensures.items (places_more c.args.body.now c.loop-variable.places.items c.first_place.result c.loop-variable.variable
    c.loop-variable.invariant c.first_place.ensures)
