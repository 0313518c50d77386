-- The tests of a trace's steps as a computation: what a step comes to, and where a trace ends.
use Rattle.std.proofs.Common.{◌≡◌, ◌≢◌, ℕ, ◌+◌, ◌==◌, Bool, true, false, cond, not, ◌&&◌, ◌||◌, Option, Some, None, List, [], ◌∷◌, drop, map}
use Rattle.std.proofs.Common.{refl, sym, ap, subst, inl, inr, All, AllPairs, Contains, get_or, MatchOption, unwrap_or}
use Rattle.std.specs.List.{list_any, list_all, find}
use Rattle.std.specs.Bool.{Decides}
use Rattle.std.specs.declared.cmp.Ordering.{Ordering}
use Rattle.std.specs.declared.cmp.Ordering.TheVariants.{Less, Equal, Greater}
use Rattle.std.specs.Ordering.{nat_cmp, ordering_then, is_eq, on, then_cmp}
use Rattle.std.specs.Cmp.{IsTotalOrder}
use Rattle.std.specs.Cmp.Lexicographic.{slice_cmp}
use Rattle.std.specs.FinMap.{IsAntisymmetric, nat_cmp-IsAntisymmetric, slice_cmp-IsAntisymmetric}
use Rattle.std.proofs.lemmas.Cmp.{tied_itself, then_total, on_total, lists_total, nat_cmp_total}
use Rattle.std.proofs.lemmas.Bool.Decides.{Decides-eqb, Decides-and, Decides-not, Decides-by_and}
use Rattle.std.proofs.lemmas.List.Elements.{All-nil, All-cons, Contains-get_or}
use Rattle.term_core.specs.declared.const_id.ConstId.{ConstId}
use Rattle.rule_core.specs.declared.rules.Atom.{Atom}
use Rattle.rule_core.specs.declared.rules.Tgd.{Tgd}
use Rattle.rule_core.specs.declared.rules.Egd.{Egd}
use Rattle.rule_core.specs.Terms.{TermOf, constant, unknown, FactOf}
use Rattle.rule_core.specs.Order.{row_cmp}
use Rattle.rule_core.specs.Mapping.{RuleSet}
use Rattle.rule_core.specs.Match.{image, Matches}
use Rattle.rule_core.proofs.ListLemmas.{Contains-nil, Contains-head, Contains-cons, Contains-cons_cases, AllPairs-nil, AllPairs-cons, AllPairs-head, AllPairs-tail}
use Rattle.rule_core.proofs.OrderLemmas.{row_cmp-total, row_cmp-IsAntisymmetric}
use Rattle.failure_trace.specs.declared.trace.Bound.{Bound}
use Rattle.failure_trace.specs.declared.trace.Value.{Value}
use Rattle.failure_trace.specs.declared.trace.Value.TheVariants.{Const, Null}
use Rattle.failure_trace.specs.declared.trace.StepKind.{StepKind}
use Rattle.failure_trace.specs.declared.trace.StepKind.TheVariants.{Tgd as TgdStep, Egd as EgdStep, Clash as ClashStep}
use Rattle.failure_trace.specs.declared.trace.TraceStep.{TraceStep}
use Rattle.failure_trace.specs.declared.why.Why.{Why}
use Rattle.failure_trace.specs.declared.why.Why.TheVariants.{K1, K2, K3, K4, K5, K6, K7, K8}
use Rattle.failure_trace.specs.Equating.{Replacement, bound_to, AreClashing, replacement_of, replaced_fact}
use Rattle.failure_trace.specs.Trace.{IsUnknown, names_in, terms_in}
use Rattle.failure_trace.specs.TraceRun.{Instance, Stage, going, clashed, Outcome, goes, stops, Test, Named, FitsTgd, FitsEgd, given_numbers, AreNew, left_side, right_side, text_cmp, with_head, EquatesSides, step_tests, kind_tests, Pass, FailsFrom}

-- equal where an order finds no difference
Decides-tied : {X : Type 0} (cmp : X → X → Ordering) → IsTotalOrder cmp → IsAntisymmetric cmp → (a b : X) → Decides (is_eq (cmp a b)) (a ≡ b)
Decides-tied cmp total apart a b =
    (λ e. apart a b (tied (cmp a b) e), λ e. ap is_eq (subst (λ x. cmp a x ≡ Equal) e (tied_itself total a)))
  where
    tied : (o : Ordering) → is_eq o ≡ true → o ≡ Equal
    tied Less e = absurd cc
    tied Equal e = refl
    tied Greater e = absurd cc

text_total : IsTotalOrder text_cmp
text_total = lists_total nat_cmp_total

text_apart : IsAntisymmetric text_cmp
text_apart = slice_cmp-IsAntisymmetric nat_cmp-IsAntisymmetric

abbrev pub text_eq : List ℕ → List ℕ → Bool
text_eq a b = is_eq (text_cmp a b)

pub Decides-text : (a b : List ℕ) → Decides (text_eq a b) (a ≡ b)
Decides-text = Decides-tied text_cmp text_total text_apart

abbrev names_eq : List (List ℕ) → List (List ℕ) → Bool
names_eq a b = is_eq (slice_cmp text_cmp a b)

Decides-names : (a b : List (List ℕ)) → Decides (names_eq a b) (a ≡ b)
Decides-names = Decides-tied (slice_cmp text_cmp) (lists_total text_total) (slice_cmp-IsAntisymmetric text_apart)

abbrev fact_cmp : FactOf (List ℕ) → FactOf (List ℕ) → Ordering
fact_cmp = then_cmp (on (λ (f : FactOf (List ℕ)). f.relation) nat_cmp) (on (λ (f : FactOf (List ℕ)). f.terms) (row_cmp text_cmp))

-- where both parts of a comparison tie
then_ties : (r s : Ordering) → ordering_then r s ≡ Equal → (r ≡ Equal) × (s ≡ Equal)
then_ties Less s e = absurd cc
then_ties Equal s e = (refl, e)
then_ties Greater s e = absurd cc

fact_apart : IsAntisymmetric fact_cmp
fact_apart a b e =
    let parts = then_ties (nat_cmp a.relation b.relation) (row_cmp text_cmp a.terms b.terms) e in
    λ i. record {
      relation = nat_cmp-IsAntisymmetric a.relation b.relation parts.0 i;
      terms = row_cmp-IsAntisymmetric text_cmp text_apart a.terms b.terms parts.1 i;
    }

abbrev fact_eq : FactOf (List ℕ) → FactOf (List ℕ) → Bool
fact_eq a b = is_eq (fact_cmp a b)

Decides-fact : (a b : FactOf (List ℕ)) → Decides (fact_eq a b) (a ≡ b)
Decides-fact = Decides-tied fact_cmp
    (then_total (on_total (λ (f : FactOf (List ℕ)). f.relation) nat_cmp_total)
    (on_total (λ (f : FactOf (List ℕ)). f.terms) (row_cmp-total text_cmp text_total)))
    fact_apart

-- a member, by a test of equality
Decides-any : {X : Type 0} (eq : X → X → Bool) → ((a b : X) → Decides (eq a b) (a ≡ b)) → (xs : List X) (x : X)
    → Decides (list_any (λ y. eq y x) xs) (Contains xs x)
Decides-any eq same [] x = (λ e. absurd cc, λ c. absurd (Contains-nil x c))
Decides-any {X} eq same (y ∷ ys) x = by (eq y x) refl (same y x) (Decides-any eq same ys x)
  where
    by : (b : Bool) → eq y x ≡ b → Decides (eq y x) (y ≡ x) → Decides (list_any (λ z. eq z x) ys) (Contains ys x)
        → Decides (b || list_any (λ z. eq z x) ys) (Contains (y ∷ ys) x)
    by true e first later = (λ _. subst (λ z. Contains (z ∷ ys) x) (sym (first.0 e)) (Contains-head x ys), λ _. refl)
    by false e first later = (
      λ r. Contains-cons y x ys (later.0 r),
      λ c. elim (Contains-cons_cases y x ys c) [ inl h ↦ absurd (cc (first.1 h)) | inr d ↦ later.1 d ],
    )

-- every element, by a test of each
Decides-every : {X : Type 0} (p : X → Bool) (P : X → Type 0) → ((x : X) → Decides (p x) (P x)) → (xs : List X) → Decides (list_all p xs) (All P xs)
Decides-every p P each = Decides-by_and p P (list_all p) each refl (λ _ _. refl)

abbrev has_fact : List (FactOf (List ℕ)) → FactOf (List ℕ) → Bool
has_fact facts fact = list_any (λ f. fact_eq f fact) facts

abbrev pub matches : (ConstId → List ℕ) → (ℕ → TermOf (List ℕ)) → List Atom → List (FactOf (List ℕ)) → Bool
matches name binding atoms facts = list_all (λ atom. has_fact facts (image name binding atom)) atoms

Decides-matches : (name : ConstId → List ℕ) (binding : ℕ → TermOf (List ℕ)) (atoms : List Atom) (facts : List (FactOf (List ℕ)))
    → Decides (matches name binding atoms facts) (Matches name binding atoms facts)
Decides-matches name binding atoms facts =
    Decides-every (λ atom. has_fact facts (image name binding atom)) (λ atom. Contains facts (image name binding atom))
    (λ atom. Decides-any fact_eq Decides-fact facts (image name binding atom)) atoms

abbrev is_unknown : Value → Bool
is_unknown (Const text) = false
is_unknown (Null number) = true

Decides-is_unknown : (v : Value) → Decides (is_unknown v) (IsUnknown v)
Decides-is_unknown (Const text) = (λ e. absurd cc, λ h. absurd h)
Decides-is_unknown (Null number) = (λ _. tt, λ _. refl)

abbrev pub fits_tgd : Tgd → List Bound → Bool
fits_tgd tgd binding = names_eq (names_in binding) tgd.vars && list_all (λ b. is_unknown b.value) (drop tgd.body_vars binding)

Decides-fits_tgd : (tgd : Tgd) (binding : List Bound) → Decides (fits_tgd tgd binding) (FitsTgd tgd binding)
Decides-fits_tgd tgd binding =
    Decides-and (names_eq (names_in binding) tgd.vars) (list_all (λ b. is_unknown b.value) (drop tgd.body_vars binding))
    (Decides-names (names_in binding) tgd.vars)
    (Decides-every (λ (b : Bound). is_unknown b.value) (λ b. IsUnknown b.value) (λ b. Decides-is_unknown b.value) (drop tgd.body_vars binding))

-- whether no number stands twice
abbrev are_distinct : List ℕ → Bool
are_distinct [] = true
are_distinct (n ∷ ns) = list_all (λ m. not (n == m)) ns && are_distinct ns

Decides-are_distinct : (ns : List ℕ) → Decides (are_distinct ns) (AllPairs (λ a b. a ≢ b) ns)
Decides-are_distinct [] = (λ _. AllPairs-nil (λ a b. a ≢ b), λ _. refl)
Decides-are_distinct (n ∷ ns) =
    let first = Decides-every (λ m. not (n == m)) (λ m. n ≢ m) (λ m. Decides-not (n == m) (Decides-eqb n m)) ns in
    let both = Decides-and (list_all (λ m. not (n == m)) ns) (are_distinct ns) first (Decides-are_distinct ns) in (
      λ e. let h = both.0 e in AllPairs-cons (λ a b. a ≢ b) n ns (λ m c. subst (λ x. n ≢ x) c.2 (h.0 c.0 m c.1)) h.1,
      λ pairs. both.1 (λ k d l. AllPairs-head (λ a b. a ≢ b) n ns pairs (get_or ns k d) (Contains-get_or ns k d l), AllPairs-tail (λ a b. a ≢ b) n ns pairs),
    )

abbrev pub are_new : List ℕ → List ℕ → Bool
are_new used numbers = are_distinct numbers && list_all (λ n. not (list_any (λ m. m == n) used)) numbers

Decides-are_new : (used numbers : List ℕ) → Decides (are_new used numbers) (AreNew used numbers)
Decides-are_new used numbers =
    Decides-and (are_distinct numbers) (list_all (λ n. not (list_any (λ m. m == n) used)) numbers)
    (Decides-are_distinct numbers)
    (Decides-every (λ n. not (list_any (λ m. m == n) used)) (λ n. ¬ (Contains used n))
    (λ n. Decides-not (list_any (λ m. m == n) used) (Decides-any (λ m k. m == k) Decides-eqb used n)) numbers)

abbrev pub are_clashing : TermOf (List ℕ) → TermOf (List ℕ) → Bool
are_clashing (constant c) (constant d) = not (text_eq c d)
are_clashing (constant c) (unknown w) = false
are_clashing (unknown u) b = false

Decides-are_clashing : (a b : TermOf (List ℕ)) → Decides (are_clashing a b) (AreClashing a b)
Decides-are_clashing (constant c) (constant d) = Decides-not (text_eq c d) (Decides-text c d)
Decides-are_clashing (constant c) (unknown w) = (λ e. absurd cc, λ h. absurd h)
Decides-are_clashing (unknown u) b = (λ e. absurd cc, λ h. absurd h)

-- the first rule with the name
abbrev pub rule_named : {R : Type 0} → (R → List ℕ) → List R → List ℕ → Option R
rule_named name_of rules name = find (λ rule. text_eq (name_of rule) name) rules

-- a test and what follows it
abbrev pub tested : Bool → Why → Outcome → Outcome
tested test why further = cond test further (stops why)

Test-tested : (P : Type 0) (test : Bool) (why : Why) (Further : Outcome → Type 0) (further : Outcome) → Decides test P → (P → Further further)
    → Test P why Further (tested test why further)
Test-tested P true why Further further d then_ = inl (d.0 refl, then_ (d.0 refl))
Test-tested P false why Further further d then_ = inr (λ h. absurd (cc (d.1 h)), refl)

abbrev pub named : {R : Type 0} → Option R → (R → Outcome) → Outcome
named None further = stops K1
named (Some rule) further = further rule

Named-named : {R : Type 0} (name_of : R → List ℕ) (rules : List R) (name : List ℕ) (Further : R → Outcome → Type 0) (further : R → Outcome)
    → ((rule : R) → Further rule (further rule)) → Named name_of rules name Further (named (rule_named name_of rules name) further)
Named-named name_of [] name Further further each = inr (All-nil (λ rule. name_of rule ≢ name), refl)
Named-named {R} name_of (rule ∷ rules) name Further further each =
    by (text_eq (name_of rule) name) (Decides-text (name_of rule) name) (Named-named name_of rules name Further further each)
  where
    by : (b : Bool) → Decides b (name_of rule ≡ name) → Named name_of rules name Further (named (rule_named name_of rules name) further)
        → Named name_of (rule ∷ rules) name Further (named (cond b (Some rule) (rule_named name_of rules name)) further)
    by true d later = inl (rule, Contains-head rule rules, d.0 refl, each rule)
    by false d later = elim later [
      | inl h ↦ inl (h.0, Contains-cons rule h.0 rules h.1, h.2, h.3)
      | inr h ↦ inr (All-cons (λ r. name_of r ≢ name) rule rules (λ e. absurd (cc (d.1 e))) h.0, h.1)
    ]

-- the end of a trace, with the number of the step that would stand there
abbrev pub open_end : ℕ → Stage → Option (ℕ × Why)
open_end number (going held) = Some (number, K7)
open_end number clashed = None

abbrev pub after : ℕ → Outcome → (Stage → Option (ℕ × Why)) → Option (ℕ × Why)
after number (goes next) further = further next
after number (stops why) further = Some (number, why)

-- a number and a part of the table, as they are told
told : (a b : ℕ) (why other : Why) → ◌≡◌ {A = Option (ℕ × Why)} (Some (a, why)) (Some (b, other)) → (a ≡ b) × (why ≡ other)
told a b why other e =
    (ap (λ (o : Option (ℕ × Why)). (unwrap_or o (a, why)).0) e, ap (λ (o : Option (ℕ × Why)). (unwrap_or o (a, why)).1) e)

-- what an egd comes to
abbrev pub equated : Instance → Option (Replacement (List ℕ)) → Outcome
equated held None = stops K5
equated held (Some r) = goes (going (record held { facts = map (replaced_fact text_cmp r) held.facts }))

Equates-equated : (held : Instance) (r : Option (Replacement (List ℕ))) → MatchOption r (equated held r ≡ stops K5)
    (λ x. equated held r ≡ goes (going (record held { facts = map (replaced_fact text_cmp x) held.facts })))
Equates-equated held None = refl
Equates-equated held (Some r) = refl

module _ (name : ConstId → List ℕ) (rules : RuleSet) (source : List (FactOf (List ℕ))) where
  abbrev pub tgd_outcome : Instance → TraceStep → Outcome
  tgd_outcome held step =
      named (rule_named (λ tgd. tgd.name) rules.tgds step.rule) (λ tgd.
      tested (fits_tgd tgd step.binding) K2
      (tested (matches name (bound_to (terms_in step.binding)) tgd.body source) K3
      (tested (are_new held.used (given_numbers tgd step.binding)) K4
      (goes (going (with_head name tgd step.binding held))))))

  abbrev pub egd_outcome : Instance → TraceStep → Outcome
  egd_outcome held step =
      named (rule_named (λ egd. egd.name) rules.egds step.rule) (λ egd.
      tested (names_eq (names_in step.binding) egd.vars) K2
      (tested (matches name (bound_to (terms_in step.binding)) egd.body held.facts) K3
      (equated held (replacement_of text_cmp (left_side egd step.binding) (right_side egd step.binding)))))

  abbrev pub clash_outcome : Instance → TraceStep → Outcome
  clash_outcome held step =
      named (rule_named (λ egd. egd.name) rules.egds step.rule) (λ egd.
      tested (names_eq (names_in step.binding) egd.vars) K2
      (tested (matches name (bound_to (terms_in step.binding)) egd.body held.facts) K3
      (tested (are_clashing (left_side egd step.binding) (right_side egd step.binding)) K6
      (goes clashed))))

  abbrev pub kind_outcome : StepKind → Instance → TraceStep → Outcome
  kind_outcome TgdStep = tgd_outcome
  kind_outcome EgdStep = egd_outcome
  kind_outcome ClashStep = clash_outcome

  -- what a step comes to
  abbrev pub step_outcome : Stage → TraceStep → Outcome
  step_outcome (going held) step = kind_outcome step.kind held step
  step_outcome clashed step = stops K8

  tgd_tested : (held : Instance) (step : TraceStep) → kind_tests name rules source TgdStep held step (tgd_outcome held step)
  tgd_tested held step =
      let binding : ℕ → TermOf (List ℕ) = bound_to (terms_in step.binding) in
      let numbers : Tgd → List ℕ = λ tgd. given_numbers tgd step.binding in
      let Added : Tgd → Outcome → Type 0 = λ tgd o. o ≡ goes (going (with_head name tgd step.binding held)) in
      let added : Tgd → Outcome = λ tgd. goes (going (with_head name tgd step.binding held)) in
      let New : Tgd → Outcome → Type 0 = λ tgd. Test (AreNew held.used (numbers tgd)) K4 (Added tgd) in
      let new : Tgd → Outcome = λ tgd. tested (are_new held.used (numbers tgd)) K4 (added tgd) in
      let Matched : Tgd → Outcome → Type 0 = λ tgd. Test (Matches name binding tgd.body source) K3 (New tgd) in
      let matched : Tgd → Outcome = λ tgd. tested (matches name binding tgd.body source) K3 (new tgd) in
      Named-named (λ (tgd : Tgd). tgd.name) rules.tgds step.rule
      (λ tgd. Test (FitsTgd tgd step.binding) K2 (Matched tgd)) (λ tgd. tested (fits_tgd tgd step.binding) K2 (matched tgd))
      (λ tgd.
      Test-tested (FitsTgd tgd step.binding) (fits_tgd tgd step.binding) K2 (Matched tgd) (matched tgd) (Decides-fits_tgd tgd step.binding) (λ _.
      Test-tested (Matches name binding tgd.body source) (matches name binding tgd.body source) K3 (New tgd) (new tgd)
      (Decides-matches name binding tgd.body source) (λ _.
      Test-tested (AreNew held.used (numbers tgd)) (are_new held.used (numbers tgd)) K4 (Added tgd) (added tgd)
      (Decides-are_new held.used (numbers tgd)) (λ _. refl))))

  -- the tests that a step of an egd and a clash have in common
  egd_named : (held : Instance) (step : TraceStep) (Further : Egd → Outcome → Type 0) (further : Egd → Outcome)
      → ((egd : Egd) → Further egd (further egd))
      → Named (λ egd. egd.name) rules.egds step.rule (λ egd. Test (FitsEgd egd step.binding) K2
      (Test (Matches name (bound_to (terms_in step.binding)) egd.body held.facts) K3 (Further egd)))
      (named (rule_named (λ egd. egd.name) rules.egds step.rule) (λ egd. tested (names_eq (names_in step.binding) egd.vars) K2
      (tested (matches name (bound_to (terms_in step.binding)) egd.body held.facts) K3 (further egd))))
  egd_named held step Further further each =
      let binding : ℕ → TermOf (List ℕ) = bound_to (terms_in step.binding) in
      let Matched : Egd → Outcome → Type 0 = λ egd. Test (Matches name binding egd.body held.facts) K3 (Further egd) in
      let matched : Egd → Outcome = λ egd. tested (matches name binding egd.body held.facts) K3 (further egd) in
      Named-named (λ (egd : Egd). egd.name) rules.egds step.rule
      (λ egd. Test (FitsEgd egd step.binding) K2 (Matched egd)) (λ egd. tested (names_eq (names_in step.binding) egd.vars) K2 (matched egd))
      (λ egd.
      Test-tested (FitsEgd egd step.binding) (names_eq (names_in step.binding) egd.vars) K2 (Matched egd) (matched egd)
      (Decides-names (names_in step.binding) egd.vars) (λ _.
      Test-tested (Matches name binding egd.body held.facts) (matches name binding egd.body held.facts) K3 (Further egd) (further egd)
      (Decides-matches name binding egd.body held.facts) (λ _. each egd)))

  egd_tested : (held : Instance) (step : TraceStep) → kind_tests name rules source EgdStep held step (egd_outcome held step)
  egd_tested held step =
      egd_named held step (λ egd. EquatesSides egd step.binding held)
      (λ egd. equated held (replacement_of text_cmp (left_side egd step.binding) (right_side egd step.binding)))
      (λ egd. Equates-equated held (replacement_of text_cmp (left_side egd step.binding) (right_side egd step.binding)))

  clash_tested : (held : Instance) (step : TraceStep) → kind_tests name rules source ClashStep held step (clash_outcome held step)
  clash_tested held step =
      egd_named held step
      (λ egd. Test (AreClashing (left_side egd step.binding) (right_side egd step.binding)) K6 (λ o. o ≡ goes clashed))
      (λ egd. tested (are_clashing (left_side egd step.binding) (right_side egd step.binding)) K6 (goes clashed))
      (λ egd. Test-tested (AreClashing (left_side egd step.binding) (right_side egd step.binding))
      (are_clashing (left_side egd step.binding) (right_side egd step.binding)) K6 (λ o. o ≡ goes clashed) (goes clashed)
      (Decides-are_clashing (left_side egd step.binding) (right_side egd step.binding)) (λ _. refl))

  -- the tests of a step come to its outcome
  pub step_tested : (stage : Stage) (step : TraceStep) → step_tests name rules source stage step (step_outcome stage step)
  step_tested (going held) step = by_kind step.kind
    where
      by_kind : (kind : StepKind) → kind_tests name rules source kind held step (kind_outcome kind held step)
      by_kind TgdStep = tgd_tested held step
      by_kind EgdStep = egd_tested held step
      by_kind ClashStep = clash_tested held step
  step_tested clashed step = refl

  -- the first step that fails, with the part of the table, if there is one
  abbrev pub first_failure : ℕ → Stage → List TraceStep → Option (ℕ × Why)
  first_failure number stage [] = open_end number stage
  first_failure number stage (step ∷ steps) = after number (step_outcome stage step) (λ next. first_failure (number + 1) next steps)

  -- where no step fails the trace is accepted
  pub passes : (number : ℕ) (stage : Stage) (steps : List TraceStep) → first_failure number stage steps ≡ None
      → Pass name rules source stage steps clashed
  passes number (going held) [] e = absurd cc
  passes number clashed [] e = refl
  passes number stage (step ∷ steps) e =
      by (step_outcome stage step) (step_tested stage step) e (λ next. passes (number + 1) next steps)
    where
      by : (o : Outcome) → step_tests name rules source stage step o → after number o (λ next. first_failure (number + 1) next steps) ≡ None
          → ((next : Stage) → first_failure (number + 1) next steps ≡ None → Pass name rules source next steps clashed)
          → Pass name rules source stage (step ∷ steps) clashed
      by (goes next) t f later = (next, t, later next f)
      by (stops why) t f later = absurd cc

  -- else it is refused by the first that does
  pub fails : (number : ℕ) (stage : Stage) (steps : List TraceStep) (at : ℕ) (why : Why) → first_failure number stage steps ≡ Some (at, why)
      → FailsFrom name rules source number stage steps at why
  fails number (going held) [] at why e = let h = told number at K7 why e in (sym h.0, sym h.1)
  fails number clashed [] at why e = absurd cc
  fails number stage (step ∷ steps) at why e =
      by (step_outcome stage step) (step_tested stage step) e (λ next. fails (number + 1) next steps at why)
    where
      by : (o : Outcome) → step_tests name rules source stage step o
          → after number o (λ next. first_failure (number + 1) next steps) ≡ Some (at, why)
          → ((next : Stage) → first_failure (number + 1) next steps ≡ Some (at, why)
          → FailsFrom name rules source (number + 1) next steps at why)
          → FailsFrom name rules source number stage (step ∷ steps) at why
      by (goes next) t f later = inr (next, t, later next f)
      by (stops reason) t f later =
          let h = told number at reason why f in
          inl (sym h.0, subst (λ w. step_tests name rules source stage step (stops w)) h.1 t)
