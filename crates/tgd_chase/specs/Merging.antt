-- Candidates in order, and the firings that they make up. No public clause cites this module.
use Rattle.std.specs.Prelude.{◌≡◌, ◌⊎◌, ◌↔◌, ℕ, ℤ, ◌≤ℤ◌, List, [], ◌∷◌, ◌++◌, Some, All, AllPairs, Any, Contains}
use Rattle.std.specs.declared.cmp.Ordering.{Ordering}
use Rattle.std.specs.declared.cmp.Ordering.TheVariants.{Less}
use Rattle.std.specs.Ordering.{nat_cmp, ordering_then}
use Rattle.std.specs.Cmp.Lexicographic.{slice_cmp}
use Rattle.time_line.specs.Span.{Ends, Has, HasInstant, IsBefore, AreApart, Touch, IsJoin, span_cmp}
use Rattle.term_core.specs.declared.const_id.ConstId.{ConstId}
use Rattle.term_core.specs.Order.{id_cmp}
use Rattle.normaliser.specs.Normalised.{IsEndOf}
use Rattle.failure_trace.specs.declared.firing.Firing.{Firing}
use Rattle.failure_trace.specs.declared.firing.Support.{Support}
use Rattle.failure_trace.specs.Firings.{IsFiredAt, firing_cmp, AreSeparate, IsEarlier}
use Rattle.tgd_chase.specs.Candidates.{IsFoundAt}
use Rattle.tgd_chase.specs.declared.candidates.Candidate.{Candidate}

-- the order of candidates: by rule, then by frontier values, then by span
abbrev pub candidate_cmp : Candidate → Candidate → Ordering
candidate_cmp a b =
    ordering_then (nat_cmp a.rule b.rule) (ordering_then (slice_cmp id_cmp a.frontier b.frontier) (span_cmp a.support.span b.support.span))

-- they have one rule and one list of frontier values
abbrev pub IsAlike : Firing → Candidate → Type 0
IsAlike firing candidate = (firing.rule ≡ candidate.rule) × (firing.frontier ≡ candidate.frontier)

-- the candidate alone as a firing
abbrev pub firing_of : Candidate → Firing
firing_of c = record { rule = c.rule; frontier = c.frontier; span = c.support.span; supports = c.support ∷ [] }

-- behind the firings stands that of the candidate alone
abbrev pub Begins : Candidate → List Firing → List Firing → Type 0
Begins next old new = new ≡ old ++ firing_of next ∷ []

-- the part of the span from the other's stop on
pub record IsBehind (done span part : Ends) : Type 0 where
  pub stop : ℤ
  pub is : done.hi ≡ Some stop
  pub instant : HasInstant part
  pub same : (t : ℤ) → Has part t ↔ (Has span t × (stop ≤ℤ t))
  pub ends : (m : ℤ) → IsEndOf part m → (m ≡ stop) ⊎ IsEndOf span m

-- what of the support is behind the firing's stop is added to its supports, if there is any
abbrev pub AddsPart : Support → Firing → List Support → Type 0
AddsPart next old new =
    ((part : Ends) × IsBehind old.span next.span part × (new ≡ old.supports ++ record { span = part; binding = next.binding } ∷ []))
    ⊎ (((t : ℤ) → Has next.span t → IsBefore old.span.hi t) × (new ≡ old.supports))

-- the firing has the time of the support too
pub record GoesOn (next : Support) (old new : Firing) : Type 0 where
  pub rule : new.rule ≡ old.rule
  pub frontier : new.frontier ≡ old.frontier
  pub join : IsJoin old.span next.span new.span
  pub start : (new.span.lo ≡ old.span.lo) ⊎ (new.span.lo ≡ next.span.lo)
  pub stop : (new.span.hi ≡ old.span.hi) ⊎ (new.span.hi ≡ next.span.hi)
  pub supports : AddsPart next old new.supports

-- the last firing goes on with the candidate
pub record Extends (next : Candidate) (old new : List Firing) : Type 0 where
  pub front : List Firing
  pub last : Firing
  pub after : Firing
  pub was : old ≡ front ++ last ∷ []
  pub is : new ≡ front ++ after ∷ []
  pub alike : IsAlike last next
  pub goes_on : GoesOn next.support last after

-- the last firing, if there is one, doesn't go on with the candidate
abbrev pub IsApart : Candidate → List Firing → Type 0
IsApart next old = (front : List Firing) (last : Firing) → old ≡ front ++ last ∷ [] → IsAlike last next
    → AreApart last.span next.support.span × ¬ (Touch last.span next.support.span)

-- the last firing goes on with the candidate, or that begins a firing
abbrev pub Takes : Candidate → List Firing → List Firing → Type 0
Takes next old new = Extends next old new ⊎ (IsApart next old × Begins next old new)

-- a candidate of the firing's rule and frontier values has the end
abbrev pub IsEndFrom : List Candidate → Firing → ℤ → Type 0
IsEndFrom candidates firing m =
    (candidate : Candidate) × Contains candidates candidate × IsAlike firing candidate × IsEndOf candidate.support.span m

-- a stretch of such a candidate, which starts and stops where such candidates do
pub record IsPart (candidates : List Candidate) (firing : Firing) (support : Support) : Type 0 where
  pub whole : Candidate
  pub there : Contains candidates whole
  pub alike : IsAlike firing whole
  pub binding : support.binding ≡ whole.support.binding
  pub instant : HasInstant support.span
  pub within : (t : ℤ) → Has support.span t → Has whole.support.span t
  pub ends : (m : ℤ) → IsEndOf support.span m → IsEndFrom candidates firing m

-- stretches of such candidates, one after the other, make up the firing
pub record IsMadeUp (candidates : List Candidate) (firing : Firing) : Type 0 where
  pub first : (candidate : Candidate) × Contains candidates candidate × IsAlike firing candidate
  pub instant : HasInstant firing.span
  pub each : All (IsPart candidates firing) firing.supports
  pub order : AllPairs (λ a b. IsEarlier a.span b.span) firing.supports
  pub whole : (t : ℤ) → Has firing.span t ↔ Any (λ support. Has support.span t) firing.supports
  pub stop : (m : ℤ) → firing.span.hi ≡ Some m → IsEndFrom candidates firing m

-- the firings have the time of the candidates, coalesced
pub record AreMerged (candidates : List Candidate) (firings : List Firing) : Type 0 where
  pub same : (rule : ℕ) (values : List ConstId) (t : ℤ) → IsFiredAt firings rule values t ↔ IsFoundAt candidates rule values t
  pub instants : All (λ firing. HasInstant firing.span) firings
  pub separate : AllPairs AreSeparate firings
  pub ordered : AllPairs (λ a b. firing_cmp a b ≡ Less) firings
  pub made : All (IsMadeUp candidates) firings
