-- The ends at which the facts of groups are cut, in order. No public clause cites this module.
use Rattle.std.specs.Prelude.{◌≡◌, ◌⊎◌, ◌↔◌, ℕ, ◌==◌, ◌<◌, ℤ, ◌<ℤ◌, Bool, true, false, nat_lt, ◌&&◌, ◌||◌, int_le, int_lt, List, Option, Some, None, IsSomeAnd, All, AllPairs, Contains, length, map, slice_get, slice_index, slice_index_or}
use Rattle.std.specs.declared.cmp.Ordering.{Ordering}
use Rattle.std.specs.declared.cmp.Ordering.TheVariants.{Less}
use Rattle.std.specs.Ordering.{nat_cmp, int_cmp, ordering_then}
use Rattle.time_line.specs.Span.{Ends, IsWithinLimit}
use Rattle.fact_table.specs.declared.fact.Fact.{Fact}
use Rattle.normaliser.specs.declared.cuts.Cut.{Cut}
use Rattle.normaliser.specs.Normalised.{IsEndOf}

-- an end of a fact of the group
abbrev pub cut : ℕ → ℤ → Cut
cut group at = record { group = group; at = at }

-- the order of cuts: by group, then by the line of time
abbrev pub cut_cmp : Cut → Cut → Ordering
cut_cmp a b = ordering_then (nat_cmp a.group b.group) (int_cmp a.at b.at)

-- each stands before all later ones
abbrev pub AreCutsInOrder : List Cut → Type 0
AreCutsInOrder cuts = AllPairs (λ a b. cut_cmp a b ≡ Less) cuts

-- each can be an end of a span
abbrev pub AreWithinLimit : List Cut → Type 0
AreWithinLimit cuts = All (λ c. IsWithinLimit (Some c.at)) cuts

-- a further place has the group for the least of its group
abbrev pub IsShared : List ℕ → ℕ → Type 0
IsShared places group = (n : ℕ) × (n < length places) × (slice_index places n ≡ group) × (n ≡ group → ⊥)

-- the number is an end of a fact at a place of the group
abbrev pub IsEndAmong : List Fact → List ℕ → Cut → Type 0
IsEndAmong facts places c =
    (n : ℕ) × (slice_index places n ≡ c.group) × IsSomeAnd (slice_get facts n) (λ fact. IsEndOf fact.span c.at)

-- the ends of the facts of each group of two facts or more, in order
pub record AreCuts (facts : List Fact) (places : List ℕ) (cuts : List Cut) : Type 0 where
  pub each : (c : Cut) → Contains cuts c ↔ (IsShared places c.group × IsEndAmong facts places c)
  pub order : AreCutsInOrder cuts
  pub limit : AreWithinLimit cuts

-- the new list has the end of the group too, if it is present
abbrev pub AddsCut : ℕ → Option ℤ → List Cut → List Cut → Type 0
AddsCut group end old new = (c : Cut) → Contains new c ↔ (Contains old c ⊎ ((c.group ≡ group) × (end ≡ Some c.at)))

-- the new list has both ends of the span too, as far as they are present
abbrev pub AddsCuts : ℕ → Ends → List Cut → List Cut → Type 0
AddsCuts group span old new = (between : List Cut) × AddsCut group span.lo old between × AddsCut group span.hi between new

-- where the cuts are on the line of time
abbrev pub ats : List Cut → List ℤ
ats cuts = map (λ c. c.at) cuts

-- each number is below all later ones
abbrev pub AreInOrder : List ℤ → Type 0
AreInOrder ends = AllPairs (λ a b. a <ℤ b) ends

-- the number is one of the cuts of the group
abbrev pub IsCutAt : List Cut → ℕ → ℤ → Type 0
IsCutAt cuts group m = Contains cuts (cut group m)

-- the number is not after the start
abbrev pub is_up_to_start : Option ℤ → ℤ → Bool
is_up_to_start None m = false
is_up_to_start (Some lo) m = int_le m lo

-- the number is before the stop
abbrev pub is_before_stop : Option ℤ → ℤ → Bool
is_before_stop None m = true
is_before_stop (Some hi) m = int_lt m hi

-- the cut is of a lesser group, or of the group and not after the start
abbrev pub is_up_to : ℕ → Option ℤ → Cut → Bool
is_up_to group lo c = nat_lt c.group group || ((c.group == group) && is_up_to_start lo c.at)

-- the cut is of a lesser group, or of the group and before the stop
abbrev pub is_before : ℕ → Option ℤ → Cut → Bool
is_before group hi c = nat_lt c.group group || ((c.group == group) && is_before_stop hi c.at)

-- for each place, whether another one has it for the least of its group
pub record AreShared (places : List ℕ) (shared : List Bool) : Type 0 where
  pub size : length shared ≡ length places
  pub each : (group : ℕ) → group < length places → (slice_index_or shared group false ≡ true) ↔ IsShared places group
