-- What a step of reading or writing does, where the bytes are known. No public clause cites this module.
use Rattle.std.specs.Prelude.{◌≡◌, ℕ, List, ◌++◌, length, take}
use Rattle.std.specs.declared.option.Option.{Option}
use Rattle.std.specs.Io.KnownBytes.{Appends, Consumes, IsAtEnd}

-- the known bytes grow by some first part of those bytes
abbrev pub AppendsPart : Option (List ℕ) → Option (List ℕ) → List ℕ → Type 0
AppendsPart before after bytes = (count : ℕ) × Appends before after (take count bytes)

-- a part of that length was read and appended, and where it is empty none is left
pub record ReadsPart (before after : Option (List ℕ)) (old new : List ℕ) (count : ℕ) : Type 0 where
  pub part : List ℕ
  pub appended : new ≡ old ++ part
  pub size : length part ≡ count
  pub consumed : Consumes before after part
  pub end : count ≡ 0 → IsAtEnd after
