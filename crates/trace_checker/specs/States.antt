-- What a checker holds between steps. No public clause cites this module.
use Rattle.std.specs.Prelude.{◌≡◌, ◌⊎◌, ◌↔◌, ◌≤◌, ◌<◌, ◌+◌, ℕ, List, length, map, All, Contains}
use Rattle.term_core.specs.declared.const_id.ConstId.{ConstId}
use Rattle.rule_core.specs.declared.rules.Tgd.{Tgd}
use Rattle.rule_core.specs.declared.rules.Egd.{Egd}
use Rattle.rule_core.specs.Terms.{numbered, constant, FactOf}
use Rattle.rule_core.specs.Match.{Matches}
use Rattle.rule_core.specs.Renaming.{HoldTheSame}
use Rattle.failure_trace.specs.declared.trace.Bound.{Bound}
use Rattle.failure_trace.specs.declared.why.Why.TheVariants.{K2, K3, K4, K6, K8}
use Rattle.failure_trace.specs.Equating.{Replacement, bound_to, AreClashing}
use Rattle.failure_trace.specs.Trace.{terms_in}
use Rattle.failure_trace.specs.TraceRun.{Instance, going, clashed, Outcome, goes, stops, Goes as GoesOn, Test, FitsTgd, FitsEgd, AreNew, given_numbers, with_head, left_side, right_side}
use Rattle.trace_checker.specs.declared.name.Name.{Name}
use Rattle.trace_checker.specs.declared.row.Row.{Row}
use Rattle.trace_checker.specs.declared.state.Next.{Next}
use Rattle.trace_checker.specs.declared.state.Next.TheVariants.{Goes, Clashes, Stops}
use Rattle.trace_checker.specs.declared.verdict.Verdict.{Verdict}
use Rattle.trace_checker.specs.declared.verdict.Verdict.TheVariants.{Accepted, Refused}
use Rattle.failure_trace.specs.Projected.{pool_text}
use Rattle.trace_checker.specs.Names.{term_named, AreKnown}

-- the fact that a row is
abbrev pub fact_named : Row → FactOf (List ℕ)
fact_named row = record { relation = row.relation; terms = map term_named row.names.items }

-- the unknown with the number becomes the term
abbrev pub replacement : ℕ → Name → Replacement (List ℕ)
replacement gone by = record { gone = numbered gone; by = term_named by }

-- the facts of the one list and this one
abbrev pub HoldsAlso : List (FactOf (List ℕ)) → FactOf (List ℕ) → List (FactOf (List ℕ)) → Type 0
HoldsAlso old added new = (fact : FactOf (List ℕ)) → Contains new fact ↔ (Contains old fact ⊎ (added ≡ fact))

-- the constants of a pool that are these terms
pub record NameThem (pool : List (List ℕ)) (ids : List ConstId) (names : List Name) : Type 0 where
  pub within : All (λ id. id.0 < length pool) ids
  pub same : map (λ id. constant (pool_text pool id)) ids ≡ map term_named names

-- the arguments of the tgd's atoms are its variables, or constants of the pool
pub record CanFire (pool : List (List ℕ)) (tgd : Tgd) : Type 0 where
  pub body : AreKnown pool (length tgd.vars) tgd.body
  pub head : AreKnown pool (length tgd.vars) tgd.head
  pub within : tgd.body_vars ≤ length tgd.vars

-- so are those of the egd's, and its sides are variables
pub record CanSettle (pool : List (List ℕ)) (egd : Egd) : Type 0 where
  pub body : AreKnown pool (length egd.vars) egd.body
  pub left : egd.left < length egd.vars
  pub right : egd.right < length egd.vars

-- the state has the facts of the instance, and its numbers
pub record IsState (state held : Instance) : Type 0 where
  pub facts : HoldTheSame state.facts held.facts
  pub used : state.used ≡ held.used

-- the answer tells the outcome, up to the order of facts
abbrev pub Tells : Next → Outcome → Type 0
Tells (Goes state) outcome = (held : Instance) × (outcome ≡ goes (going held)) × IsState state held
Tells Clashes outcome = outcome ≡ goes clashed
Tells (Stops why) outcome = outcome ≡ stops why

-- the tests come to an outcome that the answer tells
abbrev pub ComesTo : (Outcome → Type 0) → Next → Type 0
ComesTo Tests next = (outcome : Outcome) × Tests outcome × Tells next outcome

-- the tests of a step of a tgd that has the name, on the source's facts at the instant
abbrev pub TgdTests : (ConstId → List ℕ) → Tgd → List Bound → List (FactOf (List ℕ)) → Instance → Outcome → Type 0
TgdTests name tgd binding source held =
    Test (FitsTgd tgd binding) K2
    (Test (Matches name (bound_to (terms_in binding)) tgd.body source) K3
    (Test (AreNew held.used (given_numbers tgd binding)) K4
    (GoesOn (going (with_head name tgd binding held)))))

-- the tests that a step of an egd and a clash have in common
abbrev pub EgdTests : (ConstId → List ℕ) → Egd → List Bound → Instance → (Outcome → Type 0) → Outcome → Type 0
EgdTests name egd binding held further =
    Test (FitsEgd egd binding) K2 (Test (Matches name (bound_to (terms_in binding)) egd.body held.facts) K3 further)

-- the test of a clash alone
abbrev pub ClashesSides : Egd → List Bound → Outcome → Type 0
ClashesSides egd binding = Test (AreClashing (left_side egd binding) (right_side egd binding)) K6 (GoesOn clashed)

-- what is said where the step with this number, of so many, is the first clash that is allowed
abbrev pub EndsAt : ℕ → ℕ → Verdict → Type 0
EndsAt done all Accepted = done ≡ all
EndsAt done all (Refused step why) = (done < all) × (step ≡ done + 1) × (why ≡ K8)
