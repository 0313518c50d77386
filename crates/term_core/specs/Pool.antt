-- What a pool is: few texts, in the order of their bytes.
use Rattle.std.specs.Prelude.{◌≡◌, ℕ, ◌^◌, ◌<◌, List, length, AllPairs}
use Rattle.std.specs.declared.cmp.Ordering.TheVariants.{Less}
use Rattle.std.specs.Ordering.{nat_cmp}
use Rattle.std.specs.Cmp.Lexicographic.{slice_cmp}

-- one text stands before another by their bytes
abbrev pub IsBefore : List ℕ → List ℕ → Type 0
IsBefore a b = slice_cmp nat_cmp a b ≡ Less

-- each text stands before all later ones, so that none stands twice, and the place of each is a number of 32 bits
pub record IsPool (texts : List (List ℕ)) : Type 0 where
  pub order : AllPairs IsBefore texts
  pub few : length texts < 2 ^ 32
