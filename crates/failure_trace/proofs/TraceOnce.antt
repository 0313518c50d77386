-- The tests of a step come to one outcome, where no two rules of a kind have one name.
use Rattle.std.proofs.Common.{◌≡◌, ◌≢◌, ◌⊎◌, ℕ, ◌+◌, Option, Some, None, List, [], ◌∷◌, ◌++◌, map, sym, ◌∙◌, subst, inl, inr, AllPairs, MatchOption}
use Rattle.std.proofs.lemmas.List.Elements.{All-contains, Contains-append_left}
use Rattle.term_core.specs.declared.const_id.ConstId.{ConstId}
use Rattle.rule_core.specs.declared.rules.Tgd.{Tgd}
use Rattle.rule_core.specs.declared.rules.Egd.{Egd}
use Rattle.rule_core.specs.Terms.{FactOf}
use Rattle.rule_core.specs.Mapping.{RuleSet}
use Rattle.rule_core.specs.Match.{Matches}
use Rattle.rule_core.specs.Validity.{AreRules}
use Rattle.rule_core.proofs.ListLemmas.{AllPairs-members, AllPairs-nil, AllPairs-cons, AllPairs-head, AllPairs-tail, AllPairs-from_map}
use Rattle.failure_trace.specs.declared.trace.StepKind.{StepKind}
use Rattle.failure_trace.specs.declared.trace.StepKind.TheVariants.{Tgd as TgdStep, Egd as EgdStep, Clash as ClashStep}
use Rattle.failure_trace.specs.declared.trace.TraceStep.{TraceStep}
use Rattle.failure_trace.specs.declared.why.Why.{Why}
use Rattle.failure_trace.specs.declared.why.Why.TheVariants.{K2, K3, K4, K6}
use Rattle.failure_trace.specs.Equating.{Replacement, bound_to, AreClashing, replacement_of}
use Rattle.failure_trace.specs.Trace.{terms_in}
use Rattle.failure_trace.specs.TraceRun.{Instance, Stage, going, clashed, Outcome, goes, stops, Test, Named, FitsTgd, FitsEgd, given_numbers, AreNew, left_side, right_side, text_cmp, step_tests, kind_tests, Pass, FailsFrom}

-- what elements of a list are to each other, those of its first part are, and those of its second
AllPairs-first : {X : Type 0} (R : X → X → Type 0) (xs ys : List X) → AllPairs R (xs ++ ys) → AllPairs R xs
AllPairs-first R [] ys pairs = AllPairs-nil R
AllPairs-first R (x ∷ xs) ys pairs =
    AllPairs-cons R x xs (λ y c. AllPairs-head R x (xs ++ ys) pairs y (Contains-append_left xs ys y c))
    (AllPairs-first R xs ys (AllPairs-tail R x (xs ++ ys) pairs))

AllPairs-second : {X : Type 0} (R : X → X → Type 0) (xs ys : List X) → AllPairs R (xs ++ ys) → AllPairs R ys
AllPairs-second R [] ys pairs = pairs
AllPairs-second R (x ∷ xs) ys pairs = AllPairs-second R xs ys (AllPairs-tail R x (xs ++ ys) pairs)

-- no two tgds have one name, and no two egds
tgd_names : (rules : RuleSet) → AreRules rules → AllPairs (λ a b. a.name ≢ b.name) rules.tgds
tgd_names rules valid = AllPairs-from_map (λ a b. a ≢ b) (λ (t : Tgd). t.name) rules.tgds
    (AllPairs-first (λ a b. a ≢ b) (map (λ (t : Tgd). t.name) rules.tgds) (map (λ (e : Egd). e.name) rules.egds) valid.names)

egd_names : (rules : RuleSet) → AreRules rules → AllPairs (λ a b. a.name ≢ b.name) rules.egds
egd_names rules valid = AllPairs-from_map (λ a b. a ≢ b) (λ (e : Egd). e.name) rules.egds
    (AllPairs-second (λ a b. a ≢ b) (map (λ (t : Tgd). t.name) rules.tgds) (map (λ (e : Egd). e.name) rules.egds) valid.names)

-- the tests come to one outcome at most
abbrev Once : (Outcome → Type 0) → Type 0
Once Tests = (a b : Outcome) → Tests a → Tests b → a ≡ b

Test-once : (P : Type 0) (why : Why) (Further : Outcome → Type 0) → (P → Once Further) → Once (Test P why Further)
Test-once P why Further once a b (inl x) (inl y) = once x.0 a b x.1 y.1
Test-once P why Further once a b (inl x) (inr y) = absurd (y.0 x.0)
Test-once P why Further once a b (inr x) (inl y) = absurd (x.0 y.0)
Test-once P why Further once a b (inr x) (inr y) = x.1 ∙ sym y.1

Named-once : {R : Type 0} (name_of : R → List ℕ) (rules : List R) (name : List ℕ) (Further : R → Outcome → Type 0)
    → AllPairs (λ a b. name_of a ≢ name_of b) rules → ((rule : R) → Once (Further rule)) → Once (Named name_of rules name Further)
Named-once {R} name_of rules name Further names once a b (inl x) (inl y) = same (AllPairs-members (λ r s. name_of r ≢ name_of s) rules names x.0 y.0 x.1 y.1)
  where
    same : (x.0 ≡ y.0) ⊎ ((name_of x.0 ≢ name_of y.0) ⊎ (name_of y.0 ≢ name_of x.0)) → a ≡ b
    same (inl e) = once y.0 a b (subst (λ r. Further r a) e x.3) y.3
    same (inr (inl n)) = absurd (n (x.2 ∙ sym y.2))
    same (inr (inr n)) = absurd (n (y.2 ∙ sym x.2))
Named-once name_of rules name Further names once a b (inl x) (inr y) = absurd (All-contains (λ r. name_of r ≢ name) rules x.0 y.0 x.1 x.2)
Named-once name_of rules name Further names once a b (inr x) (inl y) = absurd (All-contains (λ r. name_of r ≢ name) rules y.0 x.0 y.1 y.2)
Named-once name_of rules name Further names once a b (inr x) (inr y) = x.1 ∙ sym y.1

-- what an option says of an outcome, each way one
Match-once : (o : Option (Replacement (List ℕ))) (none : Outcome) (some : Replacement (List ℕ) → Outcome)
    → Once (λ x. MatchOption o (x ≡ none) (λ r. x ≡ some r))
Match-once None none some a b x y = x ∙ sym y
Match-once (Some r) none some a b x y = x ∙ sym y

one_value : (value : Outcome) → Once (λ x. x ≡ value)
one_value value a b x y = x ∙ sym y

module _ (name : ConstId → List ℕ) (rules : RuleSet) (source : List (FactOf (List ℕ))) (valid : AreRules rules) where
  kind_once : (kind : StepKind) (held : Instance) (step : TraceStep) → Once (kind_tests name rules source kind held step)
  kind_once TgdStep held step = Named-once (λ tgd. tgd.name) rules.tgds step.rule _ (tgd_names rules valid) (λ tgd.
      Test-once (FitsTgd tgd step.binding) K2 _ (λ _.
      Test-once (Matches name (bound_to (terms_in step.binding)) tgd.body source) K3 _ (λ _.
      Test-once (AreNew held.used (given_numbers tgd step.binding)) K4 _ (λ _. one_value _))))
  kind_once EgdStep held step = Named-once (λ egd. egd.name) rules.egds step.rule _ (egd_names rules valid) (λ egd.
      Test-once (FitsEgd egd step.binding) K2 _ (λ _.
      Test-once (Matches name (bound_to (terms_in step.binding)) egd.body held.facts) K3 _ (λ _.
      Match-once (replacement_of text_cmp (left_side egd step.binding) (right_side egd step.binding)) _ _)))
  kind_once ClashStep held step = Named-once (λ egd. egd.name) rules.egds step.rule _ (egd_names rules valid) (λ egd.
      Test-once (FitsEgd egd step.binding) K2 _ (λ _.
      Test-once (Matches name (bound_to (terms_in step.binding)) egd.body held.facts) K3 _ (λ _.
      Test-once (AreClashing (left_side egd step.binding) (right_side egd step.binding)) K6 _ (λ _. one_value _))))

  pub step_once : (stage : Stage) (step : TraceStep) → Once (step_tests name rules source stage step)
  step_once (going held) step = kind_once step.kind held step
  step_once clashed step = one_value _

  -- two ways through one step lead to one stage
  next_stage : (stage : Stage) (step : TraceStep) (a b : Stage) → step_tests name rules source stage step (goes a)
      → step_tests name rules source stage step (goes b) → a ≡ b
  next_stage stage step a b x y = let e = step_once stage step (goes a) (goes b) x y in cc

  -- an accepted trace has no part that fails
  pub accepted_fails_nowhere : (number : ℕ) (stage : Stage) (steps : List TraceStep) (at : ℕ) (why : Why)
      → Pass name rules source stage steps clashed → ¬ (FailsFrom name rules source number stage steps at why)
  accepted_fails_nowhere number (going held) [] at why pass fail = absurd cc
  accepted_fails_nowhere number clashed [] at why pass fail = fail.1
  accepted_fails_nowhere number stage (step ∷ steps) at why pass (inl x) =
      let e = step_once stage step (goes pass.0) (stops why) pass.1 x.1 in absurd cc
  accepted_fails_nowhere number stage (step ∷ steps) at why pass (inr x) =
      accepted_fails_nowhere (number + 1) x.0 steps at why
      (subst (λ s. Pass name rules source s steps clashed) (next_stage stage step pass.0 x.0 pass.1 x.1) pass.2) x.2

  -- a trace has one first part that fails
  pub one_first_failure : (number : ℕ) (stage : Stage) (steps : List TraceStep) (at other : ℕ) (why reason : Why)
      → FailsFrom name rules source number stage steps at why → FailsFrom name rules source number stage steps other reason
      → (at ≡ other) × (why ≡ reason)
  one_first_failure number (going held) [] at other why reason x y = (x.0 ∙ sym y.0, x.1 ∙ sym y.1)
  one_first_failure number clashed [] at other why reason x y = absurd x.1
  one_first_failure number stage (step ∷ steps) at other why reason (inl x) (inl y) =
      let e = step_once stage step (stops why) (stops reason) x.1 y.1 in (x.0 ∙ sym y.0, cc)
  one_first_failure number stage (step ∷ steps) at other why reason (inl x) (inr y) =
      let e = step_once stage step (stops why) (goes y.0) x.1 y.1 in absurd cc
  one_first_failure number stage (step ∷ steps) at other why reason (inr x) (inl y) =
      let e = step_once stage step (goes x.0) (stops reason) x.1 y.1 in absurd cc
  one_first_failure number stage (step ∷ steps) at other why reason (inr x) (inr y) =
      one_first_failure (number + 1) x.0 steps at other why reason x.2
      (subst (λ s. FailsFrom name rules source (number + 1) s steps other reason) (next_stage stage step y.0 x.0 y.1 x.1) y.2)
