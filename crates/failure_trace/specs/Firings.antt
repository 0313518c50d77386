-- The firings of a mapping's tgds on a source, each with matches that support it.
use Rattle.std.specs.Prelude.{◌≡◌, ◌↔◌, ℕ, ℤ, ◌<ℤ◌, List, Some, map, length, slice_get, All, AllPairs, Any, IsSomeAnd}
use Rattle.std.specs.declared.cmp.Ordering.{Ordering}
use Rattle.std.specs.declared.cmp.Ordering.TheVariants.{Less}
use Rattle.std.specs.Ordering.{nat_cmp, ordering_then}
use Rattle.std.specs.Cmp.Lexicographic.{slice_cmp}
use Rattle.time_line.specs.Span.{Ends, Has, HasInstant, Meet, Touch, span_cmp}
use Rattle.term_core.specs.declared.const_id.ConstId.{ConstId}
use Rattle.term_core.specs.Order.{id_cmp}
use Rattle.rule_core.specs.declared.rules.Tgd.{Tgd}
use Rattle.rule_core.specs.Terms.{TermOf, constant, FactOf, StampedOf}
use Rattle.rule_core.specs.Mapping.{RuleSet}
use Rattle.rule_core.specs.Match.{Matches}
use Rattle.rule_core.specs.Snapshot.{snapshot_at}
use Rattle.rule_core.specs.Firing.{frontier_of, Fires}
use Rattle.failure_trace.specs.declared.firing.Firing.{Firing}
use Rattle.failure_trace.specs.declared.firing.Support.{Support}

-- the tgd with the place fires with these values on the instance; constants stand for themselves
abbrev pub FiresOn : RuleSet → List (FactOf ConstId) → ℕ → List ConstId → Type 0
FiresOn rules instance rule values = IsSomeAnd (slice_get rules.tgds rule) (λ tgd. Fires (λ c. c) tgd instance values)

-- a firing of the rule with these values has the instant
abbrev pub IsFiredAt : List Firing → ℕ → List ConstId → ℤ → Type 0
IsFiredAt firings rule values t = Any (λ f. (f.rule ≡ rule) × (f.frontier ≡ values) × Has f.span t) firings

-- the order of firings: by rule, then by frontier values, then by span
abbrev pub firing_cmp : Firing → Firing → Ordering
firing_cmp a b = ordering_then (nat_cmp a.rule b.rule) (ordering_then (slice_cmp id_cmp a.frontier b.frontier) (span_cmp a.span b.span))

-- firings of one rule and one list of frontier values neither meet nor touch
abbrev pub AreSeparate : Firing → Firing → Type 0
AreSeparate a b = a.rule ≡ b.rule → a.frontier ≡ b.frontier → ¬ (Meet a.span b.span) × ¬ (Touch a.span b.span)

-- the binding gives each variable the constant at its place
abbrev pub GivesConstants : List ConstId → (ℕ → TermOf ConstId) → Type 0
GivesConstants values binding = (v : ℕ) (c : ConstId) → slice_get values v ≡ Some c → binding v ≡ constant c

-- a span with an instant, and a constant for each variable of the body, which matches the body in the source at each instant of the
-- span and gives the frontier these values
pub record Supports (source : List (StampedOf (FactOf ConstId))) (tgd : Tgd) (values : List ConstId) (support : Support) : Type 0 where
  pub instant : HasInstant support.span
  pub size : length support.binding ≡ tgd.body_vars
  pub frontier : map (λ v. slice_get support.binding v) (frontier_of tgd) ≡ map (λ c. Some c) values
  pub matches : (binding : ℕ → TermOf ConstId) (t : ℤ) → GivesConstants support.binding binding → Has support.span t
      → Matches (λ c. c) binding tgd.body (snapshot_at source t)

-- the one span ends before the other begins
abbrev pub IsEarlier : Ends → Ends → Type 0
IsEarlier a b = (s t : ℤ) → Has a s → Has b t → s <ℤ t

-- the firing's supports are matches of its tgd's body; their spans follow each other, and make up that of the firing
pub record IsSupported (rules : RuleSet) (source : List (StampedOf (FactOf ConstId))) (firing : Firing) : Type 0 where
  pub each : IsSomeAnd (slice_get rules.tgds firing.rule) (λ tgd. All (Supports source tgd firing.frontier) firing.supports)
  pub order : AllPairs (λ a b. IsEarlier a.span b.span) firing.supports
  pub whole : (t : ℤ) → Has firing.span t ↔ Any (λ support. Has support.span t) firing.supports

-- exactly what fires on the source: a firing's span has an instant exactly where its tgd fires with its values on the snapshot there;
-- each span has an instant, and those of one tgd and one list of values are coalesced
pub record AreFirings (rules : RuleSet) (source : List (StampedOf (FactOf ConstId))) (firings : List Firing) : Type 0 where
  pub exact : (rule : ℕ) (values : List ConstId) (t : ℤ)
      → IsFiredAt firings rule values t ↔ FiresOn rules (snapshot_at source t) rule values
  pub instants : All (λ f. HasInstant f.span) firings
  pub separate : AllPairs AreSeparate firings
  pub ordered : AllPairs (λ a b. firing_cmp a b ≡ Less) firings
  pub supported : All (IsSupported rules source) firings
