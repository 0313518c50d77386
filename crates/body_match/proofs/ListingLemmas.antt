-- A list of matches as it grows.
use Rattle.std.proofs.Common.{◌≡◌, ◌↔◌, Bool, true, false, List, [], ◌∷◌, ◌++◌, Option, ℕ, refl, sym, ap, ◌∙◌, subst, Contains, append_assoc}
use Rattle.std.proofs.lemmas.List.{append-nil}
use Rattle.body_match.specs.declared.found.Match.{Match}
use Rattle.body_match.specs.declared.listing.Listing.{Listing}
use Rattle.rule_core.specs.declared.rules.Atom.{Atom}
use Rattle.fact_table.specs.Rows.{SeenRow}
use Rattle.body_match.specs.Matches.{AreMatches}
use Rattle.body_match.specs.Visits.{TakesInTurn}
use Rattle.body_match.specs.Listings.{Adds}
use Rattle.body_match.specs.Search.{Gives}

-- behind the list stand the matches that it was given
adds_in_turn : (old new : Listing) (list : List Match) → TakesInTurn Adds old list new → new.list.items ≡ old.list.items ++ list
adds_in_turn old new [] same = ap (λ (l : Listing). l.list.items) (sym same) ∙ sym (append-nil old.list.items)
adds_in_turn old new (found ∷ list) took =
    adds_in_turn took.0 new list took.2 ∙ ap (λ l. l ++ list) took.1 ∙ append_assoc old.list.items (found ∷ []) list

-- so a list that began empty has those
from_empty : (old new : Listing) (list : List Match) → old.list.items ≡ [] → TakesInTurn Adds old list new → new.list.items ≡ list
from_empty old new list empty took = adds_in_turn old new list took ∙ ap (λ l. l ++ list) empty

-- and all matches, where what visits never stops
pub lists_all : (old new : Listing) (body : List Atom) (vars : ℕ) (rows : List (Option SeenRow)) (whole : Bool) → (whole ≡ false → ⊥)
    → old.list.items ≡ []
    → ((list : List Match) × (rest : List Match) × AreMatches body vars rows (list ++ rest) × (whole ≡ true → rest ≡ [])
    × TakesInTurn Adds old list new)
    → AreMatches body vars rows new.list.items
lists_all old new body vars rows false stops empty h = absurd (stops refl)
lists_all old new body vars rows true stops empty h =
    subst (AreMatches body vars rows) (sym (from_empty old new h.0 empty h.4 ∙ sym (append-nil h.0) ∙ ap (λ l. h.0 ++ l) (sym (h.3 refl)))) h.2

-- so it is with what a search gives
pub lists_given : (old new : Listing) (IsSo CanFind : Match → Type 0) → ((m : Match) → CanFind m) → (whole : Bool) → (whole ≡ false → ⊥) → old.list.items ≡ []
    → Gives Adds IsSo CanFind old new whole → (m : Match) → Contains new.list.items m ↔ IsSo m
lists_given old new IsSo CanFind every false stops empty given m = absurd (stops refl)
lists_given old new IsSo CanFind every true stops empty given m =
    let is = from_empty old new given.list empty given.taken in (
      λ c. given.first.each m (subst (λ l. Contains l m) is c),
      λ h. subst (λ l. Contains l m) (sym is) (given.whole refl m h (every m)),
    )
