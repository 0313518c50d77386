-- What a fetch answers.
use Rattle.std.specs.Prelude.{◌≡◌, ℕ, ◌≤◌, List, length, nat_le, if◌then◌else◌, ⊤}
use Rattle.std.specs.declared.option.Option.{Option}
use Rattle.std.specs.declared.option.Option.TheVariants.{None, Some}
use Rattle.std.specs.declared.result.Result.{Result}
use Rattle.std.specs.declared.result.Result.TheVariants.{Ok, Err}
use Rattle.std.specs.FinMap.{get}
use Rattle.shelf_core.specs.declared.shelf.Fetched.{Fetched}
use Rattle.shelf_core.specs.declared.shelf.Fetched.TheVariants.{Bytes, Missing, TooLong}
use Rattle.shelf_core.specs.declared.shelf.FetchError.{FetchError}
use Rattle.shelf_core.specs.Held.{Held}

-- what is answered for an entry, or for no entry, under a limit
abbrev pub fetched_of : Option (List ℕ) → ℕ → Fetched
fetched_of None limit = Missing
fetched_of (Some bytes) limit = if nat_le (length bytes) limit then Bytes bytes else TooLong

-- an answer has no more bytes than the limit
abbrev pub IsWithin : ℕ → Fetched → Type 0
IsWithin limit (Bytes bytes) = length bytes ≤ limit
IsWithin limit Missing = ⊤
IsWithin limit TooLong = ⊤

-- where it is told what is held, an answer is that of the name's entry
abbrev pub Shows : Option Held → List ℕ → ℕ → Result Fetched FetchError → Type 0
Shows None name limit result = ⊤
Shows (Some held) name limit (Ok fetched) = fetched ≡ fetched_of (get held name) limit
Shows (Some held) name limit (Err error) = ⊤
