-- Counts of faults: when a count rises, and what a call that may fail owes to its object's count.
use Rattle.std.specs.Prelude.{◌≡◌, ℕ, ◌-◌, ◌^◌, ◌<◌, ◌≤◌, ◌⊎◌}

-- where a count stops
abbrev pub last_count : ℕ
last_count = 2 ^ 64 - 1

-- the count rose; one that stands at its last value is said to rise in every call
abbrev pub Rises : ℕ → ℕ → Type 0
Rises before now = (before < now) ⊎ (before ≡ last_count)

-- a call left the count no lower, and where the call failed, the count rose
pub record HasCause (before now : ℕ) (failed : Type 0) : Type 0 where
  pub later : before ≤ now
  pub rose : failed → Rises before now
