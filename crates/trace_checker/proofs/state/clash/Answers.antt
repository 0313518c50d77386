use Rattle.std.proofs.Common.{◌∙◌, true≢false, length, refl, sym, subst}
use Rattle.std.specs.Prelude.{IsTrue, ◌↔◌}
use Rattle.rule_core.specs.Match.{Matches}
use Rattle.failure_trace.specs.declared.why.Why.TheVariants.{K6}
use Rattle.failure_trace.specs.Equating.{bound_to, AreClashing}
use Rattle.failure_trace.specs.Trace.{terms_in}
use Rattle.failure_trace.specs.TraceRun.{Instance, clashed, Goes as GoesOn, left_side, right_side}
use Rattle.failure_trace.specs.Projected.{pool_text}
use Rattle.trace_checker.specs.declared.state.Next.TheVariants.{Stops, Clashes}
use Rattle.trace_checker.specs.Names.{AreKnown}
use Rattle.trace_checker.specs.States.{IsState, ClashesSides}
use Rattle.trace_checker.proofs.StepLemmas.{as_many, fails_test, passes_test, egd_goes, egd_unmatched, egd_unfit}
use Rattle.trace_checker.proofs.state.clash.Goals as goal

pub matches-requires : goal.matches-requires
matches-requires c =
    let many = as_many c.args.binding.now c.args.egd.now.vars (c.has_names.ensures.0 c.if-not-has_names.false ∙ c.as_slice.ensures) in
    subst (λ n. AreKnown c.args.pool.now n c.as_slice-2.result.now) many
    (subst (AreKnown c.args.pool.now (length c.args.egd.now.vars)) (sym c.as_slice-2.ensures) c.requires.body)

pub returns-then-not-has_names : goal.returns-then-not-has_names
returns-then-not-has_names c = λ held is.
    egd_unfit (pool_text c.args.pool.now) c.args.binding.now c.args.egd.now held (ClashesSides c.args.egd.now c.args.binding.now)
    (λ fits. true≢false (sym (c.has_names.ensures.1 (fits ∙ sym c.as_slice.ensures)) ∙ c.if-not-has_names.true))

pub returns-then-not-there : goal.returns-then-not-there
returns-then-not-there c =
    let name = pool_text c.args.pool.now in
    let egd = c.args.egd.now in
    let binding = bound_to (terms_in c.args.binding.now) in
    let state : Instance = record { facts = c.state.inside.facts; used = c.state.inside.used.keys } in
    let there = subst (λ atoms. IsTrue c.in_ok-there.there ↔ Matches name binding atoms state.facts) c.as_slice-2.ensures c.in_ok-there.ensures in
    λ held is.
    egd_unmatched name c.args.binding.now egd state held (ClashesSides egd c.args.binding.now)
    (subst (λ s. IsState s held) (sym c.state.view_is) is) (c.has_names.ensures.0 c.if-not-has_names.false ∙ c.as_slice.ensures)
    (λ m. true≢false (sym (there.1 m) ∙ c.if-not-there.true))

pub returns-then-not-are_clashing : goal.returns-then-not-are_clashing
returns-then-not-are_clashing c =
    let name = pool_text c.args.pool.now in
    let egd = c.args.egd.now in
    let binding = bound_to (terms_in c.args.binding.now) in
    let state : Instance = record { facts = c.state.inside.facts; used = c.state.inside.used.keys } in
    let there = subst (λ atoms. IsTrue c.in_ok-there.there ↔ Matches name binding atoms state.facts) c.as_slice-2.ensures c.in_ok-there.ensures in
    λ held is.
    egd_goes name c.args.binding.now egd state held (ClashesSides egd c.args.binding.now) (Stops K6)
    (subst (λ s. IsState s held) (sym c.state.view_is) is) (c.has_names.ensures.0 c.if-not-has_names.false ∙ c.as_slice.ensures)
    (there.0 c.if-not-there.false)
    (fails_test (AreClashing (left_side egd c.args.binding.now) (right_side egd c.args.binding.now)) K6 (GoesOn clashed)
    (λ clash. true≢false (sym (c.are_clashing.ensures.1
    (subst (λ x. x) (λ i. AreClashing (sym c.side.ensures i) (sym c.side-2.ensures i)) clash)) ∙ c.if-not-are_clashing.true)))

pub returns : goal.returns
returns c =
    let name = pool_text c.args.pool.now in
    let egd = c.args.egd.now in
    let binding = bound_to (terms_in c.args.binding.now) in
    let state : Instance = record { facts = c.state.inside.facts; used = c.state.inside.used.keys } in
    let there = subst (λ atoms. IsTrue c.in_ok-there.there ↔ Matches name binding atoms state.facts) c.as_slice-2.ensures c.in_ok-there.ensures in
    λ held is.
    egd_goes name c.args.binding.now egd state held (ClashesSides egd c.args.binding.now) Clashes
    (subst (λ s. IsState s held) (sym c.state.view_is) is) (c.has_names.ensures.0 c.if-not-has_names.false ∙ c.as_slice.ensures)
    (there.0 c.if-not-there.false)
    (passes_test (AreClashing (left_side egd c.args.binding.now) (right_side egd c.args.binding.now)) K6 (GoesOn clashed) Clashes
    (subst (λ x. x) (λ i. AreClashing (c.side.ensures i) (c.side-2.ensures i)) (c.are_clashing.ensures.0 c.if-not-are_clashing.false))
    (_, refl, refl))
