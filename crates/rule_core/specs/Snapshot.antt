-- What holds at one instant. No definition compares the unknowns of two instants.
use Rattle.std.specs.Prelude.{ℤ, List, map, filter}
pub use Rattle.time_line.specs.Span.{is_from, is_before, has}
use Rattle.rule_core.specs.Terms.{StampedOf}

-- the facts or rows whose span has the instant, without their spans
abbrev pub snapshot_at : {X : Type 0} → List (StampedOf X) → ℤ → List X
snapshot_at stamped t = map (λ e. e.row) (filter (λ e. has e.span t) stamped)
