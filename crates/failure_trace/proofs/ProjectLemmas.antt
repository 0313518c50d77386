-- The whole trace of one instant, whose unknowns are numbered among sorted ones.
use Rattle.std.proofs.Common.{◌≡◌, ℕ, ℤ, ◌+◌, cond, Option, Some, None, List, [], ◌∷◌, ◌++◌, map, refl, ap, ◌∙◌, subst, IsSomeAnd, IsPermutation, slice_get}
use Rattle.std.specs.List.{AllZip}
use Rattle.std.specs.Ordering.{is_lt}
use Rattle.std.proofs.lemmas.List.{append_assoc}
use Rattle.std.proofs.lemmas.List.Sorted.{sum_by-IsPermutation}
use Rattle.term_core.specs.declared.term.Unknown.{Unknown as HeldUnknown}
use Rattle.term_core.specs.declared.term.Term.{Term}
use Rattle.term_core.specs.declared.term.Term.TheVariants.{Const as ConstTerm, Null as NullTerm}
use Rattle.term_core.specs.Order.{unknown_cmp}
use Rattle.rule_core.specs.declared.rules.Tgd.{Tgd}
use Rattle.rule_core.specs.declared.rules.Egd.{Egd}
use Rattle.rule_core.specs.Mapping.{RuleSet}
use Rattle.failure_trace.specs.declared.firing.Firing.{Firing}
use Rattle.failure_trace.specs.declared.firing.Support.{Support}
use Rattle.failure_trace.specs.declared.journal.JournalStep.{JournalStep}
use Rattle.failure_trace.specs.declared.trace.Value.{Value}
use Rattle.failure_trace.specs.declared.trace.Value.TheVariants.{Const, Null}
use Rattle.failure_trace.specs.declared.trace.StepKind.{StepKind}
use Rattle.failure_trace.specs.declared.trace.StepKind.TheVariants.{Tgd as TgdStep, Egd as EgdStep, Clash as ClashStep}
use Rattle.failure_trace.specs.declared.trace.TraceStep.{TraceStep}
use Rattle.failure_trace.specs.Projected.{firings_at, steps_at, exists_unknowns, unknowns_at, number_among, pool_text, told_value, Tells, TellsFiring, TellsStep, IsProjected}

-- what holds of the one holds of the other
some_weaker : {X : Type 0} (P Q : X → Type 0) → ((x : X) → P x → Q x) → (o : Option X) → IsSomeAnd o P → IsSomeAnd o Q
some_weaker P Q w None h = h
some_weaker P Q w (Some x) h = w x h

zip_weaker : {X Y : Type 0} (R S : X → Y → Type 0) → ((x : X) (y : Y) → R x y → S x y) → (xs : List X) (ys : List Y) → AllZip R xs ys → AllZip S xs ys
zip_weaker R S w [] [] h = h
zip_weaker R S w [] (y ∷ ys) h = absurd h
zip_weaker R S w (x ∷ xs) [] h = absurd h
zip_weaker R S w (x ∷ xs) (y ∷ ys) h = (w x y h.0, zip_weaker R S w xs ys h.1)

-- one pair more
pub zip_push : {X Y : Type 0} (R : X → Y → Type 0) (xs : List X) (ys : List Y) (x : X) (y : Y) → AllZip R xs ys → R x y
    → AllZip R (xs ++ x ∷ []) (ys ++ y ∷ [])
zip_push R [] [] x y h r = (r, tt)
zip_push R [] (b ∷ ys) x y h r = absurd h
zip_push R (a ∷ xs) [] x y h r = absurd h
zip_push R (a ∷ xs) (b ∷ ys) x y h r = (h.0, zip_push R xs ys x y h.1 r)

-- the values of a firing, where unknowns have these numbers
abbrev values_by : List (List ℕ) → Firing → Support → Tgd → (HeldUnknown → ℕ) → List Value
values_by pool firing support tgd number =
    map (λ c. Const (pool_text pool c)) support.binding ++ map (λ u. Null (number u)) (exists_unknowns tgd firing)

-- lists of the same unknowns number them alike
module _ (rules : RuleSet) (pool : List (List ℕ)) (listed sorted : List HeldUnknown) (same : IsPermutation listed sorted) where
  alike : (u : HeldUnknown) → number_among sorted u ≡ number_among listed u
  alike u = ap (λ n. n + 1) (sum_by-IsPermutation (λ w. cond (is_lt (unknown_cmp w u)) 1 0) listed sorted same)

  numbers : number_among sorted ≡ number_among listed
  numbers = λ i u. alike u i

  value_alike : (term : Term) → told_value pool sorted term ≡ told_value pool listed term
  value_alike (ConstTerm c) = refl
  value_alike (NullTerm u) = ap Null (alike u)

  pub firing_told : (t : ℤ) (firing : Firing) (step : TraceStep) → TellsFiring rules pool sorted t firing step → TellsFiring rules pool listed t firing step
  firing_told t firing step h = record {
    support = h.support;
    among = h.among;
    at = h.at;
    tells = some_weaker (λ (tgd : Tgd). Tells TgdStep tgd.name tgd.vars (values_by pool firing h.support tgd (number_among sorted)) step)
        (λ (tgd : Tgd). Tells TgdStep tgd.name tgd.vars (values_by pool firing h.support tgd (number_among listed)) step)
        (λ tgd k. subst (λ n. Tells TgdStep tgd.name tgd.vars (values_by pool firing h.support tgd n) step) numbers k) (slice_get rules.tgds firing.rule) h.tells;
  }

  pub step_told : (kind : StepKind) (told : JournalStep) (step : TraceStep) → TellsStep rules pool sorted kind told step
      → TellsStep rules pool listed kind told step
  step_told kind told step h =
      some_weaker (λ (egd : Egd). Tells kind egd.name egd.vars (map (told_value pool sorted) told.binding) step)
      (λ (egd : Egd). Tells kind egd.name egd.vars (map (told_value pool listed) told.binding) step)
      (λ egd k. subst (λ (f : Term → Value). Tells kind egd.name egd.vars (map f told.binding) step) (λ i x. value_alike x i) k)
      (slice_get rules.egds told.egd) h

module _ (rules : RuleSet) (pool : List (List ℕ)) (firings : List Firing) (journal : List JournalStep) (last : JournalStep) (t : ℤ)
    (sorted : List HeldUnknown) (same : IsPermutation (unknowns_at rules firings t) sorted) where
  pub whole : (instant : ℤ) (fired before settled steps : List TraceStep) (clash : TraceStep) → instant ≡ t → before ≡ fired ++ settled
      → steps ≡ before ++ clash ∷ [] → AllZip (TellsFiring rules pool sorted t) (firings_at firings t) fired
      → AllZip (TellsStep rules pool sorted EgdStep) (steps_at journal t) settled → TellsStep rules pool sorted ClashStep last clash
      → IsProjected rules pool firings journal last t (record { instant = instant; steps = steps })
  whole instant fired before settled steps clash at added pushed f j l = record {
    instant = at;
    fired = fired;
    settled = settled;
    clash = clash;
    steps = pushed ∙ ap (λ xs. xs ++ clash ∷ []) added ∙ append_assoc fired settled (clash ∷ []);
    firings_are = zip_weaker (TellsFiring rules pool sorted t) (TellsFiring rules pool (unknowns_at rules firings t) t)
        (firing_told rules pool (unknowns_at rules firings t) sorted same t) (firings_at firings t) fired f;
    journal_is = zip_weaker (TellsStep rules pool sorted EgdStep) (TellsStep rules pool (unknowns_at rules firings t) EgdStep)
        (step_told rules pool (unknowns_at rules firings t) sorted same EgdStep) (steps_at journal t) settled j;
    last_is = step_told rules pool (unknowns_at rules firings t) sorted same ClashStep last clash l;
  }
