use Rattle.std.proofs.Common.{◌∙◌, true≢false, length, refl, sym, subst}
use Rattle.std.specs.Prelude.{IsTrue, ◌↔◌}
use Rattle.rule_core.specs.Match.{Matches}
use Rattle.failure_trace.specs.declared.why.Why.TheVariants.{K5}
use Rattle.failure_trace.specs.Equating.{bound_to, replacement_of}
use Rattle.failure_trace.specs.Trace.{terms_in}
use Rattle.failure_trace.specs.TraceRun.{Instance, EquatesSides, text_cmp}
use Rattle.failure_trace.specs.Projected.{pool_text}
use Rattle.trace_checker.specs.declared.state.Next.TheVariants.{Stops, Goes}
use Rattle.trace_checker.specs.Names.{AreKnown}
use Rattle.trace_checker.specs.States.{IsState, replacement}
use Rattle.trace_checker.proofs.StepLemmas.{as_many, egd_goes, egd_unmatched, egd_unfit, equated, not_equated}
use Rattle.trace_checker.proofs.state.equate.Goals as goal

pub matches-requires : goal.matches-requires
matches-requires c =
    let many = as_many c.args.binding.now c.args.egd.now.vars (c.has_names.ensures.0 c.if-not-has_names.false ∙ c.as_slice.ensures) in
    subst (λ n. AreKnown c.args.pool.now n c.as_slice-2.result.now) many
    (subst (AreKnown c.args.pool.now (length c.args.egd.now.vars)) (sym c.as_slice-2.ensures) c.requires.body)

pub returns-then-not-has_names : goal.returns-then-not-has_names
returns-then-not-has_names c = λ held is.
    egd_unfit (pool_text c.args.pool.now) c.args.binding.now c.args.egd.now held (EquatesSides c.args.egd.now c.args.binding.now held)
    (λ fits. true≢false (sym (c.has_names.ensures.1 (fits ∙ sym c.as_slice.ensures)) ∙ c.if-not-has_names.true))

pub returns-then-not-there : goal.returns-then-not-there
returns-then-not-there c =
    let name = pool_text c.args.pool.now in
    let egd = c.args.egd.now in
    let binding = bound_to (terms_in c.args.binding.now) in
    let state : Instance = record { facts = c.state.inside.facts; used = c.state.inside.used.keys } in
    let there = subst (λ atoms. IsTrue c.in_ok-there.there ↔ Matches name binding atoms state.facts) c.as_slice-2.ensures c.in_ok-there.ensures in
    λ held is.
    egd_unmatched name c.args.binding.now egd state held (EquatesSides egd c.args.binding.now held)
    (subst (λ s. IsState s held) (sym c.state.view_is) is) (c.has_names.ensures.0 c.if-not-has_names.false ∙ c.as_slice.ensures)
    (λ m. true≢false (sym (there.1 m) ∙ c.if-not-there.true))

pub returns-in_default : goal.returns-in_default
returns-in_default c =
    let name = pool_text c.args.pool.now in
    let egd = c.args.egd.now in
    let binding = bound_to (terms_in c.args.binding.now) in
    let state : Instance = record { facts = c.state.inside.facts; used = c.state.inside.used.keys } in
    let there = subst (λ atoms. IsTrue c.in_ok-there.there ↔ Matches name binding atoms state.facts) c.as_slice-2.ensures c.in_ok-there.ensures in
    λ held is.
    egd_goes name c.args.binding.now egd state held (EquatesSides egd c.args.binding.now held) (Stops K5)
    (subst (λ s. IsState s held) (sym c.state.view_is) is) (c.has_names.ensures.0 c.if-not-has_names.false ∙ c.as_slice.ensures)
    (there.0 c.if-not-there.false)
    (not_equated name c.args.binding.now egd held
    ((λ i. replacement_of text_cmp (sym c.side.ensures i) (sym c.side-2.ensures i)) ∙ c.in_default.ensures))

pub returns : goal.returns
returns c =
    let name = pool_text c.args.pool.now in
    let egd = c.args.egd.now in
    let binding = bound_to (terms_in c.args.binding.now) in
    let state : Instance = record { facts = c.state.inside.facts; used = c.state.inside.used.keys } in
    let after : Instance = record { facts = c.in_ok-facts.facts; used = c.state.inside.used.keys } in
    let there = subst (λ atoms. IsTrue c.in_ok-there.there ↔ Matches name binding atoms state.facts) c.as_slice-2.ensures c.in_ok-there.ensures in
    λ held is.
    let same = subst (λ s. IsState s held) (sym c.state.view_is) is in
    egd_goes name c.args.binding.now egd state held (EquatesSides egd c.args.binding.now held) (Goes after) same
    (c.has_names.ensures.0 c.if-not-has_names.false ∙ c.as_slice.ensures) (there.0 c.if-not-there.false)
    (equated name c.args.binding.now egd state held after (replacement c.in-Some.r.gone c.in-Some.r.by) same
    ((λ i. replacement_of text_cmp (sym c.side.ensures i) (sym c.side-2.ensures i)) ∙ c.in-Some.ensures)
    c.in_ok-facts.ensures refl)
