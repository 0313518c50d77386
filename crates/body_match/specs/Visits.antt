-- Matches that are taken one after the other.
use Rattle.std.specs.Prelude.{◌≡◌, List, [], ◌∷◌}
use Rattle.body_match.specs.declared.found.Match.{Match}

-- what takes matches becomes this by taking those of the list, in turn
abbrev pub TakesInTurn : {S : Type 0} → (S → Match → S → Type 0) → S → List Match → S → Type 0
TakesInTurn takes old [] new = old ≡ new
TakesInTurn {S} takes old (found ∷ list) new = (between : S) × takes old found between × TakesInTurn takes between list new
