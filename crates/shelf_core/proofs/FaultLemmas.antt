-- How the causes of calls that follow each other join, for whoever makes several calls of one object.
use Rattle.std.proofs.Common.{ℕ, ◌≤◌, ◌⊎◌, inl, inr, arith}
use Rattle.shelf_core.specs.Faults.{HasCause, Rises}

-- a count that rose and then fell no more has risen
pub rises_then : (a b c : ℕ) → Rises a b → b ≤ c → Rises a c
rises_then a b c (inl rose) later = inl (omega arith)
rises_then a b c (inr last) later = inr last

-- a count that fell no more and then rose has risen
pub then_rises : (a b c : ℕ) → a ≤ b → b ≤ c → Rises b c → Rises a c
then_rises a b c before later (inl rose) = inl (omega arith)
then_rises a b c before later (inr last) = grind arith

-- no call was made
pub cause_of_none : (a : ℕ) (failed : Type 0) → (failed → ⊥) → HasCause a a failed
cause_of_none a failed never = record { later = omega arith; rose = λ f. absurd (never f) }

-- two calls, where a failure of both is one of either
pub cause_of_two : (a b c : ℕ) (first second both : Type 0) → HasCause a b first → HasCause b c second →
    (both → first ⊎ second) → HasCause a c both
cause_of_two a b c first second both one two either = record {
  later = omega (arith, one.later, two.later);
  rose = λ f. elim (either f) as (λ _. Rises a c) [
    | inl x ↦ rises_then a b c (one.rose x) two.later
    | inr y ↦ then_rises a b c one.later two.later (two.rose y)
  ];
}

-- a first call that went well, and a second one that decides
pub cause_of_last : (a b c : ℕ) (first second : Type 0) → HasCause a b first → HasCause b c second → HasCause a c second
cause_of_last a b c first second one two = cause_of_two a b c first second second one two (λ f. inr f)

-- a first call that decides, and calls after it that may fail as they will
pub cause_of_first : (a b c : ℕ) (first second : Type 0) → HasCause a b first → HasCause b c second → HasCause a c first
cause_of_first a b c first second one two = cause_of_two a b c first second first one two (λ f. inl f)

-- a failure that follows from another
pub cause_of_less : (a b : ℕ) (first second : Type 0) → (second → first) → HasCause a b first → HasCause a b second
cause_of_less a b first second less one = record { later = one.later; rose = λ f. one.rose (less f) }
