-- What may be a name in a mapping.
use Rattle.std.specs.Prelude.{◌≡◌, ◌≢◌, ◌⊎◌, ℕ, ◌≤◌, List, length, codes, All, IsSomeAnd, slice_get}
use Rattle.rule_core.specs.Limits.{longest_name}

-- a letter, A to Z or a to z
abbrev pub IsLetter : ℕ → Type 0
IsLetter b = ((65 ≤ b) × (b ≤ 90)) ⊎ ((97 ≤ b) × (b ≤ 122))

-- a letter, a digit or `_`
abbrev pub IsNameByte : ℕ → Type 0
IsNameByte b = IsLetter b ⊎ (((48 ≤ b) × (b ≤ 57)) ⊎ (b ≡ 95))

-- a text that may be a name: a letter, then letters, digits and `_` up to the limit, and not the word `exists`
pub record IsName (text : List ℕ) : Type 0 where
  pub first : IsSomeAnd (slice_get text 0) IsLetter
  pub bytes : All IsNameByte text
  pub most : length text ≤ longest_name
  pub word : text ≢ codes "exists"
