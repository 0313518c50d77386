-- Coalesced lists: each row once for each stretch of time that it covers, in order.
use Rattle.std.specs.Prelude.{◌≡◌, ℤ, List, All, AllPairs, Any}
use Rattle.std.specs.declared.cmp.Ordering.{Ordering}
use Rattle.std.specs.declared.cmp.Ordering.TheVariants.{Less}
use Rattle.std.specs.Ordering.{ordering_then}
use Rattle.time_line.specs.Span.{Has, HasInstant, Meet, Touch, span_cmp}
use Rattle.rule_core.specs.Terms.{StampedOf}

-- an entry of the row has a span with the instant
abbrev pub Covers : {X : Type 0} → List (StampedOf X) → X → ℤ → Type 0
Covers list row t = Any (λ entry. (entry.row ≡ row) × Has entry.span t) list

-- the order by row, and then by span
abbrev pub stamped_cmp : {X : Type 0} → (X → X → Ordering) → StampedOf X → StampedOf X → Ordering
stamped_cmp cmp a b = ordering_then (cmp a.row b.row) (span_cmp a.span b.span)

-- entries of one row neither meet nor touch
abbrev pub AreSeparate : {X : Type 0} → StampedOf X → StampedOf X → Type 0
AreSeparate a b = a.row ≡ b.row → ¬ (Meet a.span b.span) × ¬ (Touch a.span b.span)

-- no span is empty, entries are separate, and each stands before all later ones in the order of rows
pub record IsCoalesced {X : Type 0} (cmp : X → X → Ordering) (list : List (StampedOf X)) : Type 0 where
  pub spans : All (λ entry. HasInstant entry.span) list
  pub separate : AllPairs AreSeparate list
  pub ordered : AllPairs (λ a b. stamped_cmp cmp a b ≡ Less) list
