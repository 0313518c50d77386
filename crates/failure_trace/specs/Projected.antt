-- The trace of one instant that firings and a journal tell: a step for each firing there, then one for each step of the journal there, then
-- the clash. Constants are told by their texts, and the unknowns of the firings there by numbers from 1 in their order.
use Rattle.std.specs.Prelude.{◌≡◌, ◌+◌, ◌-◌, ◌<◌, ℕ, ℤ, List, [], ◌∷◌, ◌++◌, map, filter, flat_map, length, take, All, Any, Contains, IsSomeAnd, slice_get, slice_index_or, count_by, ⊤}
use Rattle.std.specs.List.{range_with_len, AllZip}
use Rattle.std.specs.Option.{option_map_or}
use Rattle.std.specs.Ordering.{is_lt}
use Rattle.time_line.specs.Span.{Has, has}
use Rattle.term_core.specs.declared.const_id.ConstId.{ConstId}
use Rattle.term_core.specs.declared.term.Unknown.{Unknown as HeldUnknown}
use Rattle.term_core.specs.declared.term.Term.{Term}
use Rattle.term_core.specs.declared.term.Term.TheVariants.{Const as ConstTerm, Null as NullTerm}
use Rattle.term_core.specs.Order.{unknown_cmp}
use Rattle.rule_core.specs.declared.rules.Tgd.{Tgd}
use Rattle.rule_core.specs.Mapping.{RuleSet}
use Rattle.failure_trace.specs.declared.firing.Firing.{Firing}
use Rattle.failure_trace.specs.declared.firing.Support.{Support}
use Rattle.failure_trace.specs.declared.journal.JournalStep.{JournalStep}
use Rattle.failure_trace.specs.declared.trace.Value.{Value}
use Rattle.failure_trace.specs.declared.trace.Value.TheVariants.{Const, Null}
use Rattle.failure_trace.specs.declared.trace.Bound.{Bound}
use Rattle.failure_trace.specs.declared.trace.StepKind.{StepKind}
use Rattle.failure_trace.specs.declared.trace.StepKind.TheVariants.{Tgd as TgdStep, Egd as EgdStep, Clash as ClashStep}
use Rattle.failure_trace.specs.declared.trace.TraceStep.{TraceStep}
use Rattle.failure_trace.specs.declared.trace.Trace.{Trace}
use Rattle.failure_trace.specs.Trace.{names_in}
use Rattle.failure_trace.specs.Printed.{IsWritableBound}

-- the firings whose spans have the instant, and the steps
abbrev pub firings_at : List Firing → ℤ → List Firing
firings_at firings t = filter (λ f. has f.span t) firings

abbrev pub steps_at : List JournalStep → ℤ → List JournalStep
steps_at journal t = filter (λ s. has s.span t) journal

-- the unknowns of a firing: one for each `exists` variable of its tgd, whether or not the head uses it
abbrev pub exists_unknowns : Tgd → Firing → List HeldUnknown
exists_unknowns tgd firing =
    map (λ var. record { rule = firing.rule; frontier = firing.frontier; var = var }) (range_with_len 0 (length tgd.vars - tgd.body_vars))

abbrev pub unknowns_of : RuleSet → Firing → List HeldUnknown
unknowns_of rules firing = option_map_or (λ tgd. exists_unknowns tgd firing) (slice_get rules.tgds firing.rule) []

-- those of all firings at the instant
abbrev pub unknowns_at : RuleSet → List Firing → ℤ → List HeldUnknown
unknowns_at rules firings t = flat_map (unknowns_of rules) (firings_at firings t)

-- the number of an unknown: one more than how many of these stand before it
abbrev pub number_among : List HeldUnknown → HeldUnknown → ℕ
number_among unknowns u = count_by (λ w. is_lt (unknown_cmp w u)) unknowns + 1

-- the constant's text
abbrev pub pool_text : List (List ℕ) → ConstId → List ℕ
pool_text pool c = slice_index_or pool c.0 []

module _ (pool : List (List ℕ)) (unknowns : List HeldUnknown) where
  -- what is told of a constant and of an unknown
  abbrev pub told_value : Term → Value
  told_value (ConstTerm c) = Const (pool_text pool c)
  told_value (NullTerm u) = Null (number_among unknowns u)

  -- what is told of the variables of a tgd's firing: the support's constants, then the firing's unknowns
  abbrev pub firing_values : Tgd → Firing → Support → List Value
  firing_values tgd firing support =
      map (λ c. Const (pool_text pool c)) support.binding ++ map (λ u. Null (number_among unknowns u)) (exists_unknowns tgd firing)

-- the step is of the kind, and binds the variables of the rule with the name to the values, in their order
pub record Tells (kind : StepKind) (rule : List ℕ) (vars : List (List ℕ)) (values : List Value) (step : TraceStep) : Type 0 where
  pub kind_is : step.kind ≡ kind
  pub rule_is : step.rule ≡ rule
  pub names : names_in step.binding ≡ vars
  pub told : map (λ b. b.value) step.binding ≡ values

module _ (rules : RuleSet) (pool : List (List ℕ)) (unknowns : List HeldUnknown) where
  -- the step tells the firing at the instant, by a match that supports it there
  pub record TellsFiring (t : ℤ) (firing : Firing) (step : TraceStep) : Type 0 where
    pub support : Support
    pub among : Contains firing.supports support
    pub at : Has support.span t
    pub tells : IsSomeAnd (slice_get rules.tgds firing.rule)
        (λ tgd. Tells TgdStep tgd.name tgd.vars (firing_values pool unknowns tgd firing support) step)

  -- the step tells that of a journal
  abbrev pub TellsStep : StepKind → JournalStep → TraceStep → Type 0
  TellsStep kind told step = IsSomeAnd (slice_get rules.egds told.egd)
      (λ egd. Tells kind egd.name egd.vars (map (told_value pool unknowns) told.binding) step)

-- the trace tells the firings at the instant, then the steps at the instant, then the clash
pub record IsProjected (rules : RuleSet) (pool : List (List ℕ)) (firings : List Firing) (journal : List JournalStep) (last : JournalStep)
    (t : ℤ) (trace : Trace) : Type 0 where
  pub instant : trace.instant ≡ t
  pub fired : List TraceStep
  pub settled : List TraceStep
  pub clash : TraceStep
  pub steps : trace.steps ≡ fired ++ (settled ++ clash ∷ [])
  pub firings_are : AllZip (TellsFiring rules pool (unknowns_at rules firings t) t) (firings_at firings t) fired
  pub journal_is : AllZip (TellsStep rules pool (unknowns_at rules firings t) EgdStep) (steps_at journal t) settled
  pub last_is : TellsStep rules pool (unknowns_at rules firings t) ClashStep last clash

-- the constants have texts in the pool
abbrev pub AreInPool : List (List ℕ) → List ConstId → Type 0
AreInPool pool constants = All (λ c. c.0 < length pool) constants

abbrev pub IsInPool : List (List ℕ) → Term → Type 0
IsInPool pool (ConstTerm c) = c.0 < length pool
IsInPool pool (NullTerm u) = ⊤

-- the support has a constant with a text for each variable of the tgd's body
abbrev pub FitsBody : List (List ℕ) → Tgd → Support → Type 0
FitsBody pool tgd support = (length support.binding ≡ tgd.body_vars) × AreInPool pool support.binding

-- the firing is one of a tgd of the rules, with supports that fit its body; where it has the instant, a support has it
abbrev pub CanTellFiring : RuleSet → List (List ℕ) → ℤ → Firing → Type 0
CanTellFiring rules pool t firing =
    IsSomeAnd (slice_get rules.tgds firing.rule) (λ tgd. All (FitsBody pool tgd) firing.supports)
    × (Has firing.span t → Any (λ s. Has s.span t) firing.supports)

-- the step is one of an egd of the rules, with a term for each of its variables; constants have texts
abbrev pub CanTellStep : RuleSet → List (List ℕ) → JournalStep → Type 0
CanTellStep rules pool step =
    IsSomeAnd (slice_get rules.egds step.egd) (λ egd. length step.binding ≡ length egd.vars) × All (IsInPool pool) step.binding

-- the binding gives the first names the values, in their order, and may be written
pub record BindsFirst (names : List (List ℕ)) (values : List Value) (binding : List Bound) : Type 0 where
  pub names_are : names_in binding ≡ take (length values) names
  pub told : map (λ b. b.value) binding ≡ values
  pub writable : All IsWritableBound binding
