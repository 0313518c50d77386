-- The inner numbers by which rows have a trace's unknowns. No public clause cites this module.
use Rattle.std.specs.Prelude.{◌≡◌, ◌≢◌, ◌<◌, ℕ, Option, Some, None, List, length, map, Contains, slice_index_or, nat_eq}
use Rattle.std.specs.Option.{unwrap_or}
use Rattle.indexmap.specs.IndexMap.{get}
use Rattle.rule_core.specs.Terms.{Unknown, numbered, named, TermOf, unknown, FactOf}
use Rattle.rule_core.specs.Homomorphism.{fact_image}
use Rattle.rule_core.specs.Renaming.{HoldTheSame}
use Rattle.failure_trace.specs.Equating.{Replacement, replaced_fact}
use Rattle.failure_trace.specs.TraceRun.{text_cmp}
use Rattle.trace_checker.specs.declared.numbers.Numbers.{Numbers}
use Rattle.trace_checker.specs.Listed.{HasNumber}

-- the unknown with another number
abbrev pub other_number : (ℕ → ℕ) → Unknown (List ℕ) → TermOf (List ℕ)
other_number f (numbered n) = unknown (numbered (f n))
other_number f (named rule frontier var) = unknown (named rule frontier var)

-- the fact with other numbers
abbrev pub renumbered : (ℕ → ℕ) → FactOf (List ℕ) → FactOf (List ℕ)
renumbered f fact = fact_image (other_number f) fact

-- the number that an inner one stands for
abbrev pub outward : Numbers → ℕ → ℕ
outward numbers inner = slice_index_or numbers.outer.items inner 0

-- the inner number that a number has
abbrev pub inner_of : Numbers → ℕ → Option ℕ
inner_of numbers number = get nat_eq numbers.inner number

-- the same, where one that has none gets one that stands for nothing
abbrev pub inward : Numbers → ℕ → ℕ
inward numbers number = unwrap_or (inner_of numbers number) (length numbers.outer.items)

-- each number has an inner one of its own
abbrev pub AreOwn : Numbers → Type 0
AreOwn numbers = (number inner : ℕ) → inner_of numbers number ≡ Some inner
    → (inner < length numbers.outer.items) × (outward numbers inner ≡ number)

-- the number has an inner one
abbrev pub IsTaken : Numbers → ℕ → Type 0
IsTaken numbers number = (inner : ℕ) × (inner_of numbers number ≡ Some inner)

-- it has, where the term is an unknown
abbrev pub IsTakenFor : Numbers → TermOf (List ℕ) → Type 0
IsTakenFor numbers term = (number : ℕ) → term ≡ unknown (numbered number) → IsTaken numbers number

-- each number of the fact has an inner one
abbrev pub AreTaken : Numbers → FactOf (List ℕ) → Type 0
AreTaken numbers fact = (number : ℕ) → HasNumber fact number → IsTaken numbers number

-- each number of the facts is the inner one of a number
abbrev pub HaveInner : Numbers → List (FactOf (List ℕ)) → Type 0
HaveInner numbers facts = (fact : FactOf (List ℕ)) (inner : ℕ) → Contains facts fact → HasNumber fact inner
    → (number : ℕ) × (inner_of numbers number ≡ Some inner)

-- each number that has an inner one keeps it
abbrev pub KeepsInner : Numbers → Numbers → Type 0
KeepsInner old new = (number inner : ℕ) → inner_of old number ≡ Some inner → inner_of new number ≡ Some inner

-- the inner number of the one number has become that of the other
pub record Renames (old : Numbers) (gone kept inner : ℕ) (new : Numbers) : Type 0 where
  pub own : AreOwn new
  pub here : inner_of new kept ≡ Some inner
  pub shown : outward new inner ≡ kept
  pub others : (i : ℕ) → i ≢ inner → outward new i ≡ outward old i
  pub rest : (n : ℕ) → n ≢ kept → n ≢ gone → inner_of new n ≡ inner_of old n

-- the facts show as before, but for the one unknown
pub record Replaces (r : Replacement (List ℕ)) (old : Numbers) (before : List (FactOf (List ℕ))) (new : Numbers)
    (after : List (FactOf (List ℕ))) : Type 0 where
  pub own : AreOwn new
  pub inner : HaveInner new after
  pub shown : HoldTheSame (map (renumbered (outward new)) after)
      (map (replaced_fact text_cmp r) (map (renumbered (outward old)) before))
