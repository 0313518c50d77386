-- What a trace comes to, from what its steps come to.
use Rattle.std.proofs.Common.{◌≡◌, ℕ, ℤ, suc, ◌+◌, ◌<◌, ◌≤◌, List, [], ◌∷◌, ◌++◌, length, map, take, drop, get_or, refl, sym, ap, ◌∙◌, subst, inl, inr, arith, All}
use Rattle.std.proofs.lemmas.List.{take_more, take_all, drop_more, take-append-drop, length-take}
use Rattle.std.proofs.lemmas.List.Elements.{All-nil, All-cons, All-map}
use Rattle.term_core.specs.declared.const_id.ConstId.{ConstId}
use Rattle.rule_core.specs.Terms.{TermOf, constant, FactOf, StampedOf}
use Rattle.rule_core.specs.Mapping.{RuleSet}
use Rattle.rule_core.specs.Snapshot.{snapshot_at}
use Rattle.rule_core.specs.Solution.{IsSolvable}
use Rattle.rule_core.specs.Renaming.{renamed_term}
use Rattle.fact_table.specs.declared.fact.Fact.{Fact}
use Rattle.failure_trace.specs.declared.trace.Trace.{Trace}
use Rattle.failure_trace.specs.declared.trace.TraceStep.{TraceStep}
use Rattle.failure_trace.specs.declared.why.Why.{Why}
use Rattle.failure_trace.specs.declared.why.Why.TheVariants.{K7}
use Rattle.failure_trace.specs.TraceRun.{Instance, Stage, going, clashed, start, goes, stops, step_tests, kind_tests, Pass, FailsFrom, IsAccepted}
use Rattle.trace_checker.specs.declared.state.Next.{Next}
use Rattle.trace_checker.specs.declared.state.Next.TheVariants.{Goes, Clashes, Stops}
use Rattle.trace_checker.specs.declared.verdict.Verdict.{Verdict}
use Rattle.trace_checker.specs.declared.verdict.Verdict.TheVariants.{Accepted, Refused}
use Rattle.failure_trace.specs.Projected.{pool_text}
use Rattle.trace_checker.specs.Checked.{source_of, HasConstantsOnly, IsVerdict, Shows}
use Rattle.trace_checker.specs.States.{IsState, ComesTo, EndsAt}
use Rattle.trace_checker.proofs.SourceLemmas.{as_text, source_is}

-- what a step comes to at an instant, for each instance with the facts of a state
abbrev pub TriedAt : (ConstId → List ℕ) → RuleSet → List (StampedOf (FactOf (List ℕ))) → TraceStep → Instance → ℤ → Next → Type 0
TriedAt name rules stamped step state t next =
    (held : Instance) → IsState state held → ComesTo (kind_tests name rules (snapshot_at stamped t) step.kind held step) next

pub tried : (name : ConstId → List ℕ) (rules : RuleSet) (stamped : List (StampedOf (FactOf (List ℕ)))) (step : TraceStep) (state : Instance)
    → (t : ℤ) (next other : Next) → next ≡ other → TriedAt name rules stamped step state t next → TriedAt name rules stamped step state t other
tried name rules stamped step state t next other is tests = subst (TriedAt name rules stamped step state t) is tests

module _ (name : ConstId → List ℕ) (rules : RuleSet) (source : List (FactOf (List ℕ))) where
  -- one step more
  pass_more : (stage : Stage) (steps : List TraceStep) (step : TraceStep) (mid last : Stage) → Pass name rules source stage steps mid
      → step_tests name rules source mid step (goes last) → Pass name rules source stage (steps ++ step ∷ []) last
  pass_more stage [] step mid last p t = (last, subst (λ s. step_tests name rules source s step (goes last)) p t, refl)
  pass_more stage (s ∷ steps) step mid last p t = (p.0, p.1, pass_more p.0 steps step mid last p.2 t)

  -- what fails behind steps that are allowed
  fails_behind : (number : ℕ) (stage : Stage) (steps rest : List TraceStep) (mid : Stage) (at : ℕ) (why : Why)
      → Pass name rules source stage steps mid → FailsFrom name rules source (number + length steps) mid rest at why
      → FailsFrom name rules source number stage (steps ++ rest) at why
  fails_behind number stage [] rest mid at why p f =
      let none : number + 0 ≡ number = omega arith in
      subst (λ s. FailsFrom name rules source number s rest at why) p (subst (λ n. FailsFrom name rules source n mid rest at why) none f)
  fails_behind number stage (s ∷ steps) rest mid at why p f =
      let one : number + suc (length steps) ≡ (number + 1) + length steps = omega arith in
      inr (p.0, p.1, fails_behind (number + 1) p.0 steps rest mid at why p.2 (subst (λ n. FailsFrom name rules source n mid rest at why) one f))

  -- a step of a list, as it is read
  module _ (steps : List TraceStep) (i : ℕ) (step : TraceStep) (lt : i < length steps) (at : step ≡ get_or steps i step) where
    front : take (i + 1) steps ≡ take i steps ++ step ∷ []
    front = take_more steps i step lt ∙ ap (λ y. take i steps ++ y ∷ []) (sym at)

    whole : take i steps ++ step ∷ drop (i + 1) steps ≡ steps
    whole = ap (λ l. take i steps ++ l) (ap (λ y. y ∷ drop (i + 1) steps) at ∙ sym (drop_more steps i step lt)) ∙ take-append-drop i steps

    done : 1 + length (take i steps) ≡ i + 1
    done = let long = length-take i steps in omega (arith, lt, long)

    -- where the trace has come to after some steps, up to the order of facts
    abbrev pub Stands : ℕ → Instance → Type 0
    Stands n state = (held : Instance) × Pass name rules source start (take n steps) (going held) × IsState state held

    pub goes_on : (state next : Instance) → Stands i state
        → ((held : Instance) → IsState state held → ComesTo (kind_tests name rules source step.kind held step) (Goes next))
        → Stands (i + 1) next
    goes_on state next so_far tests =
        let c = tests so_far.0 so_far.2 in (
          c.2.0,
          subst (λ l. Pass name rules source start l (going c.2.0)) (sym front)
              (pass_more start (take i steps) step (going so_far.0) (going c.2.0) so_far.1
              (subst (kind_tests name rules source step.kind so_far.0 step) c.2.1 c.1)),
          c.2.2,
        )

    pub stops_here : (state : Instance) (why : Why) → Stands i state
        → ((held : Instance) → IsState state held → ComesTo (kind_tests name rules source step.kind held step) (Stops why))
        → FailsFrom name rules source 1 start steps (i + 1) why
    stops_here state why so_far tests =
        let c = tests so_far.0 so_far.2 in
        subst (λ l. FailsFrom name rules source 1 start l (i + 1) why) whole
        (fails_behind 1 start (take i steps) (step ∷ drop (i + 1) steps) (going so_far.0) (i + 1) why so_far.1
        (inl (sym done, subst (kind_tests name rules source step.kind so_far.0 step) c.2 c.1)))

    clashes_here : (state : Instance) → Stands i state
        → ((held : Instance) → IsState state held → ComesTo (kind_tests name rules source step.kind held step) Clashes)
        → Pass name rules source start (take (i + 1) steps) clashed
    clashes_here state so_far tests =
        let c = tests so_far.0 so_far.2 in
        subst (λ l. Pass name rules source start l clashed) (sym front)
        (pass_more start (take i steps) step (going so_far.0) clashed so_far.1
        (subst (kind_tests name rules source step.kind so_far.0 step) c.2 c.1))

    -- the clash is the last step, or a step stands behind it
    pub ends_here : (state : Instance) (stamped : List (StampedOf (FactOf (List ℕ)))) (t : ℤ) (verdict : Verdict) → Stands i state
        → ((held : Instance) → IsState state held → ComesTo (kind_tests name rules source step.kind held step) Clashes)
        → source ≡ snapshot_at stamped t → EndsAt (i + 1) (length steps) verdict
        → IsVerdict name rules stamped (record { instant = t; steps = steps }) verdict
    ends_here state stamped t Accepted so_far tests same e =
        subst (λ s. Pass name rules s start steps clashed) same
        (subst (λ l. Pass name rules source start l clashed) (take_all (i + 1) steps (omega (arith, e))) (clashes_here state so_far tests))
    ends_here state stamped t (Refused number why) so_far tests same e =
        subst (λ s. FailsFrom name rules s 1 start steps number why) same
        (subst (λ l. FailsFrom name rules source 1 start l number why) (take-append-drop (i + 1) steps)
        (fails_behind 1 start (take (i + 1) steps) (drop (i + 1) steps) clashed number why (clashes_here state so_far tests)
        (subst (λ l. FailsFrom name rules source (1 + length (take (i + 1) steps)) clashed l number why)
        (sym (drop_more steps (i + 1) step e.0))
        (inl (omega (arith, e.1, e.0, length-take (i + 1) steps), ap stops e.2)))))

  -- no step was a clash
  pub ends_open : (steps : List TraceStep) (n : ℕ) (state : Instance) → length steps ≤ n
      → (held : Instance) × Pass name rules source start (take n steps) (going held) × IsState state held
      → FailsFrom name rules source 1 start steps (length steps + 1) K7
  ends_open steps n state past so_far =
      let all : take n steps ≡ steps = take_all n steps past in
      subst (λ l. FailsFrom name rules source 1 start l (length steps + 1) K7) (append_nil steps)
      (fails_behind 1 start steps [] (going so_far.0) (length steps + 1) K7
      (subst (λ l. Pass name rules source start l (going so_far.0)) all so_far.1)
      (omega arith, refl))
    where
      append_nil : (xs : List TraceStep) → xs ++ [] ≡ xs
      append_nil [] = refl
      append_nil (x ∷ xs) = λ i. x ∷ append_nil xs i

-- a source of a pool and a table is one of constants
abbrev IsConstant : TermOf (List ℕ) → Type 0
IsConstant term = (c : List ℕ) × (term ≡ constant c)

constants_are : (pool : List (List ℕ)) (row : List ConstId) → All IsConstant (map (renamed_term (pool_text pool)) (map constant row))
constants_are pool [] = All-nil IsConstant
constants_are pool (c ∷ row) = All-cons IsConstant (constant (pool_text pool c)) (map (renamed_term (pool_text pool)) (map constant row))
    (pool_text pool c, refl) (constants_are pool row)

pub constants_only : (pool : List (List ℕ)) (table : List Fact) → HasConstantsOnly (source_of pool table)
constants_only pool table =
    subst HasConstantsOnly (sym (source_is pool table))
    (All-map (λ (e : StampedOf (FactOf (List ℕ))). All IsConstant e.row.terms) (as_text pool) table
    (λ k d lt. constants_are pool (get_or table k d).row))

pub verdict_shows : (name : ConstId → List ℕ) (rules : RuleSet) (source : List (StampedOf (FactOf (List ℕ)))) (trace : Trace) (verdict : Verdict)
    → (IsAccepted name rules source trace → ¬ (IsSolvable name rules (snapshot_at source trace.instant)))
    → IsVerdict name rules source trace verdict → Shows name rules source trace verdict
verdict_shows name rules source trace Accepted law h = law h
verdict_shows name rules source trace (Refused step why) law h = tt
