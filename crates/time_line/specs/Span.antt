-- A span of time: its two ends, and the instants that it has. An instant is any whole number.
use Rattle.std.specs.Prelude.{◌≡◌, ◌⊎◌, ◌↔◌, ℤ, pos, negsuc, ◌≤ℤ◌, ◌<ℤ◌, ◌-ℤ◌, Bool, true, ◌&&◌, int_le, int_lt, Option, Some, None, ⊤}
use Rattle.std.specs.declared.cmp.Ordering.{Ordering}
use Rattle.std.specs.declared.cmp.Ordering.TheVariants.{Less, Equal, Greater}
use Rattle.std.specs.Ordering.{int_cmp, ordering_then}
use Rattle.std.specs.Option.{option_cmp}

-- where a span starts and where it stops; an absent end bounds nothing
pub record Ends : Type 0 where
  pub lo : Option ℤ
  pub hi : Option ℤ

-- these two ends
abbrev pub ends : Option ℤ → Option ℤ → Ends
ends lo hi = record { lo = lo; hi = hi }

-- the instant is not before the start
abbrev pub IsFrom : Option ℤ → ℤ → Type 0
IsFrom None t = ⊤
IsFrom (Some lo) t = lo ≤ℤ t

-- the instant is before the end
abbrev pub IsBefore : Option ℤ → ℤ → Type 0
IsBefore None t = ⊤
IsBefore (Some hi) t = t <ℤ hi

-- the span has the instant
abbrev pub Has : Ends → ℤ → Type 0
Has s t = IsFrom s.lo t × IsBefore s.hi t

-- the tests of `IsFrom`, `IsBefore` and `Has`
abbrev pub is_from : Option ℤ → ℤ → Bool
is_from None t = true
is_from (Some lo) t = int_le lo t

abbrev pub is_before : Option ℤ → ℤ → Bool
is_before None t = true
is_before (Some hi) t = int_lt t hi

abbrev pub has : Ends → ℤ → Bool
has s t = is_from s.lo t && is_before s.hi t

-- some instant is in the span
abbrev pub HasInstant : Ends → Type 0
HasInstant s = (t : ℤ) × Has s t

-- a present end is from -10^15 to 10^15
abbrev pub IsWithinLimit : Option ℤ → Type 0
IsWithinLimit None = ⊤
IsWithinLimit (Some end) = (negsuc 999999999999999 ≤ℤ end) × (end ≤ℤ pos 1000000000000000)

-- a present end is from -2 * 10^15 to 2 * 10^15
abbrev pub IsWithinInstants : Option ℤ → Type 0
IsWithinInstants None = ⊤
IsWithinInstants (Some end) = (negsuc 1999999999999999 ≤ℤ end) × (end ≤ℤ pos 2000000000000000)

-- the start is before the stop, where both are present
abbrev pub AreOrdered : Option ℤ → Option ℤ → Type 0
AreOrdered (Some lo) (Some hi) = lo <ℤ hi
AreOrdered None hi = ⊤
AreOrdered (Some lo) None = ⊤

-- what each span is: it has an instant, and its ends are within the limit
pub record IsSpan (s : Ends) : Type 0 where
  pub instant : HasInstant s
  pub start : IsWithinLimit s.lo
  pub stop : IsWithinLimit s.hi

-- the spans have no instant in common
abbrev pub AreApart : Ends → Ends → Type 0
AreApart a b = (t : ℤ) → Has a t → ¬ (Has b t)

-- the spans have an instant in common
abbrev pub Meet : Ends → Ends → Type 0
Meet a b = (t : ℤ) × Has a t × Has b t

-- the span has exactly the instants that both have
abbrev pub IsMeet : Ends → Ends → Ends → Type 0
IsMeet a b s = (t : ℤ) → Has s t ↔ (Has a t × Has b t)

-- the stop and the start are present, and the same
abbrev pub StopsAt : Option ℤ → Option ℤ → Type 0
StopsAt (Some hi) (Some lo) = hi ≡ lo
StopsAt None other = ⊥
StopsAt (Some hi) None = ⊥

-- one of the spans stops where the other starts
abbrev pub Touch : Ends → Ends → Type 0
Touch a b = StopsAt a.hi b.lo ⊎ StopsAt b.hi a.lo

-- the span has exactly the instants that one of the two has
abbrev pub IsJoin : Ends → Ends → Ends → Type 0
IsJoin a b s = (t : ℤ) → Has s t ↔ (Has a t ⊎ Has b t)

-- the instant and the one before it are in the span
abbrev pub IsInside : Ends → ℤ → Type 0
IsInside s m = Has s m × Has s (m -ℤ pos 1)

-- the parts of a span before an instant and from it on: which instants they have, and which ends
pub record AreParts (s before after : Ends) (m : ℤ) : Type 0 where
  pub first : (t : ℤ) → Has before t ↔ (Has s t × (t <ℤ m))
  pub second : (t : ℤ) → Has after t ↔ (Has s t × (m ≤ℤ t))
  pub first_ends : before ≡ ends s.lo (Some m)
  pub second_ends : after ≡ ends (Some m) s.hi

-- an instant between two ends: the start, else the last one before the stop, else 0
abbrev pub instant_between : Option ℤ → Option ℤ → ℤ
instant_between (Some lo) hi = lo
instant_between None (Some hi) = hi -ℤ pos 1
instant_between None None = pos 0

-- the order of starts, absent first
abbrev pub start_cmp : Option ℤ → Option ℤ → Ordering
start_cmp = option_cmp int_cmp

-- the order of stops, absent last
abbrev pub stop_cmp : Option ℤ → Option ℤ → Ordering
stop_cmp None None = Equal
stop_cmp None (Some b) = Greater
stop_cmp (Some a) None = Less
stop_cmp (Some a) (Some b) = int_cmp a b

-- the order of spans: by start, then by stop
abbrev pub span_cmp : Ends → Ends → Ordering
span_cmp a b = ordering_then (start_cmp a.lo b.lo) (stop_cmp a.hi b.hi)
