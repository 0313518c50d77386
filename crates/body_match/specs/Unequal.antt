-- A search for matches with two different values. No public clause cites this module.
use Rattle.std.specs.Prelude.{◌≡◌, ◌≢◌, ◌⊎◌, ◌++◌, ◌∷◌, [], ℕ, slice_get}
use Rattle.body_match.specs.declared.found.Match.{Match}
use Rattle.body_match.specs.declared.unequal.Unequal.{Unequal}

-- the match gives the two variables different values
abbrev pub Differ : ℕ → ℕ → Match → Type 0
Differ left right found = slice_get found.binding left ≢ slice_get found.binding right

-- a match with different values is listed last, and one with equal values passed over
pub record Meets (old : Unequal) (next : Match) (new : Unequal) : Type 0 where
  pub left : new.left ≡ old.left
  pub right : new.right ≡ old.right
  pub list : (Differ old.left old.right next × (new.list.items ≡ old.list.items ++ next ∷ []))
      ⊎ ((slice_get next.binding old.left ≡ slice_get next.binding old.right) × (new.list.items ≡ old.list.items))
