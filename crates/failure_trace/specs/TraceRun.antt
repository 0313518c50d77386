-- Checking a trace. Its steps are tried in turn on an instance that is empty at first, all at the trace's one instant. Each step has
-- its tests, in an order; a trace is refused by the first test that fails, at the first step that fails one.
use Rattle.std.specs.Prelude.{◌≡◌, ◌≢◌, ◌⊎◌, ◌+◌, ℕ, List, [], ◌∷◌, ◌++◌, map, drop, All, AllPairs, Contains, MatchOption}
use Rattle.std.specs.declared.cmp.Ordering.{Ordering}
use Rattle.std.specs.Ordering.{nat_cmp}
use Rattle.std.specs.Cmp.Lexicographic.{slice_cmp}
use Rattle.term_core.specs.declared.const_id.ConstId.{ConstId}
use Rattle.rule_core.specs.declared.rules.Tgd.{Tgd}
use Rattle.rule_core.specs.declared.rules.Egd.{Egd}
use Rattle.rule_core.specs.Terms.{TermOf, FactOf, StampedOf}
use Rattle.rule_core.specs.Mapping.{RuleSet}
use Rattle.rule_core.specs.Match.{image, Matches}
use Rattle.rule_core.specs.Snapshot.{snapshot_at}
use Rattle.failure_trace.specs.declared.trace.Bound.{Bound}
use Rattle.failure_trace.specs.declared.trace.StepKind.{StepKind}
use Rattle.failure_trace.specs.declared.trace.StepKind.TheVariants.{Tgd as TgdStep, Egd as EgdStep, Clash as ClashStep}
use Rattle.failure_trace.specs.declared.trace.Trace.{Trace}
use Rattle.failure_trace.specs.declared.trace.TraceStep.{TraceStep}
use Rattle.failure_trace.specs.declared.why.Why.{Why}
use Rattle.failure_trace.specs.declared.why.Why.TheVariants.{K1, K2, K3, K4, K5, K6, K7, K8}
use Rattle.failure_trace.specs.Equating.{bound_to, AreClashing, replacement_of, replaced_fact}
use Rattle.failure_trace.specs.Trace.{IsUnknown, names_in, terms_in, numbers_in}

-- the target's facts so far, and the numbers that tgds gave, also of unknowns that were replaced since
pub record Instance : Type 0 where
  pub facts : List (FactOf (List ℕ))
  pub used : List ℕ

-- where a trace stands after some of its steps: it goes on with an instance, or it has come to a clash
pub data Stage : Type 0 where
  going : Instance → Stage
  clashed : Stage

-- where each trace begins
abbrev pub start : Stage
start = going (record { facts = []; used = [] })

-- what the tests of a step come to: where the trace stands after it, or the part of the table that fails first
pub data Outcome : Type 0 where
  goes : Stage → Outcome
  stops : Why → Outcome

abbrev pub Goes : Stage → Outcome → Type 0
Goes stage outcome = outcome ≡ goes stage

abbrev pub Stops : Why → Outcome → Type 0
Stops why outcome = outcome ≡ stops why

-- one test: where the fact doesn't hold the step fails, else the further tests follow
abbrev pub Test : Type 0 → Why → (Outcome → Type 0) → Outcome → Type 0
Test fact why further outcome = (fact × further outcome) ⊎ (¬ fact × Stops why outcome)

-- a rule of the list is wanted by its name, and the further tests are about it
abbrev pub Named : {R : Type 0} → (R → List ℕ) → List R → List ℕ → (R → Outcome → Type 0) → Outcome → Type 0
Named {R} name_of rules name further outcome =
    ((rule : R) × Contains rules rule × (name_of rule ≡ name) × further rule outcome)
    ⊎ (All (λ rule. name_of rule ≢ name) rules × Stops K1 outcome)

-- the names are the tgd's variables in their order, and its `exists` variables are bound to unknowns
abbrev pub FitsTgd : Tgd → List Bound → Type 0
FitsTgd tgd binding = (names_in binding ≡ tgd.vars) × All (λ b. IsUnknown b.value) (drop tgd.body_vars binding)

-- the names are the egd's variables in their order
abbrev pub FitsEgd : Egd → List Bound → Type 0
FitsEgd egd binding = names_in binding ≡ egd.vars

-- the numbers that the binding gives the tgd's `exists` variables
abbrev pub given_numbers : Tgd → List Bound → List ℕ
given_numbers tgd binding = numbers_in (drop tgd.body_vars binding)

-- the numbers differ, and none is used
abbrev pub AreNew : List ℕ → List ℕ → Type 0
AreNew used numbers = AllPairs (λ a b. a ≢ b) numbers × All (λ n. ¬ (Contains used n)) numbers

-- the sides of an egd
abbrev pub left_side : Egd → List Bound → TermOf (List ℕ)
left_side egd binding = bound_to (terms_in binding) egd.left

abbrev pub right_side : Egd → List Bound → TermOf (List ℕ)
right_side egd binding = bound_to (terms_in binding) egd.right

-- the order of constants
abbrev pub text_cmp : List ℕ → List ℕ → Ordering
text_cmp = slice_cmp nat_cmp

-- a tgd adds the images of its head
abbrev pub with_head : (ConstId → List ℕ) → Tgd → List Bound → Instance → Instance
with_head name tgd binding held = record {
  facts = held.facts ++ map (image name (bound_to (terms_in binding))) tgd.head;
  used = held.used ++ given_numbers tgd binding;
}

-- an egd replaces one unknown, in every fact
abbrev pub EquatesSides : Egd → List Bound → Instance → Outcome → Type 0
EquatesSides egd binding held outcome =
    MatchOption (replacement_of text_cmp (left_side egd binding) (right_side egd binding))
    (Stops K5 outcome)
    (λ r. Goes (going (record held { facts = map (replaced_fact text_cmp r) held.facts })) outcome)

module _ (name : ConstId → List ℕ) (rules : RuleSet) (source : List (FactOf (List ℕ))) where
  -- the tests of a step of each kind
  abbrev pub tgd_tests : Instance → TraceStep → Outcome → Type 0
  tgd_tests held step =
      Named (λ tgd. tgd.name) rules.tgds step.rule (λ tgd.
      Test (FitsTgd tgd step.binding) K2
      (Test (Matches name (bound_to (terms_in step.binding)) tgd.body source) K3
      (Test (AreNew held.used (given_numbers tgd step.binding)) K4
      (Goes (going (with_head name tgd step.binding held))))))

  abbrev pub egd_tests : Instance → TraceStep → Outcome → Type 0
  egd_tests held step =
      Named (λ egd. egd.name) rules.egds step.rule (λ egd.
      Test (FitsEgd egd step.binding) K2
      (Test (Matches name (bound_to (terms_in step.binding)) egd.body held.facts) K3
      (EquatesSides egd step.binding held)))

  abbrev pub clash_tests : Instance → TraceStep → Outcome → Type 0
  clash_tests held step =
      Named (λ egd. egd.name) rules.egds step.rule (λ egd.
      Test (FitsEgd egd step.binding) K2
      (Test (Matches name (bound_to (terms_in step.binding)) egd.body held.facts) K3
      (Test (AreClashing (left_side egd step.binding) (right_side egd step.binding)) K6
      (Goes clashed))))

  abbrev pub kind_tests : StepKind → Instance → TraceStep → Outcome → Type 0
  kind_tests TgdStep = tgd_tests
  kind_tests EgdStep = egd_tests
  kind_tests ClashStep = clash_tests

  -- no step stands behind a clash
  abbrev pub step_tests : Stage → TraceStep → Outcome → Type 0
  step_tests (going held) step = kind_tests step.kind held step
  step_tests clashed step = Stops K8

  -- the steps are allowed, each where the one before leads, and lead from the one stage to the other
  abbrev pub Pass : Stage → List TraceStep → Stage → Type 0
  Pass stage [] last = last ≡ stage
  Pass stage (step ∷ steps) last = (next : Stage) × step_tests stage step (goes next) × Pass next steps last

  -- the trace ends without a clash
  abbrev pub EndsOpen : Stage → Why → Type 0
  EndsOpen (going held) why = why ≡ K7
  EndsOpen clashed why = ⊥

  -- of these steps, the first of which has the number, this one is the first that fails, by this part of the table;
  -- what fails behind the last step has the next number
  abbrev pub FailsFrom : ℕ → Stage → List TraceStep → ℕ → Why → Type 0
  FailsFrom number stage [] at why = (at ≡ number) × EndsOpen stage why
  FailsFrom number stage (step ∷ steps) at why =
      ((at ≡ number) × step_tests stage step (stops why))
      ⊎ ((next : Stage) × step_tests stage step (goes next) × FailsFrom (number + 1) next steps at why)

module _ (name : ConstId → List ℕ) (rules : RuleSet) (source : List (StampedOf (FactOf (List ℕ)))) where
  -- the trace is accepted on the mapping and the source: its steps are allowed, and the last is the one clash
  abbrev pub IsAccepted : Trace → Type 0
  IsAccepted trace = Pass name rules (snapshot_at source trace.instant) start trace.steps clashed

  -- this step of the trace, counted from 1, is the first that fails, by this part of the table
  abbrev pub IsRefused : Trace → ℕ → Why → Type 0
  IsRefused trace step why = FailsFrom name rules (snapshot_at source trace.instant) 1 start trace.steps step why
