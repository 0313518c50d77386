use Rattle.std.proofs.Common.{◌≡◌, ◌∙◌, ◌++◌, ◌≤◌, true≢false, length, map, refl, sym, subst, inl, inr, to_z, of_z, w64}
use Rattle.std.specs.Prelude.{IsTrue, ◌↔◌}
use Rattle.std.proofs.lemmas.Bool.{OnFalse_at}
use Rattle.std.proofs.lemmas.Int.{to_z-of_z}
use Rattle.rule_core.specs.Match.{Matches, image}
use Rattle.rule_core.specs.Renaming.{HoldTheSame}
use Rattle.rule_core.specs.Snapshot.{snapshot_at}
use Rattle.failure_trace.specs.declared.why.Why.TheVariants.{K2, K3, K4}
use Rattle.failure_trace.specs.Equating.{bound_to}
use Rattle.failure_trace.specs.Trace.{terms_in, numbers_in}
use Rattle.failure_trace.specs.TraceRun.{Instance, stops, FitsTgd, AreNew}
use Rattle.failure_trace.specs.Projected.{pool_text}
use Rattle.trace_checker.specs.declared.state.Next.TheVariants.{Stops, Goes}
use Rattle.trace_checker.specs.Checked.{source_of}
use Rattle.trace_checker.specs.Names.{AreKnown}
use Rattle.trace_checker.specs.States.{IsState}
use Rattle.trace_checker.proofs.StepLemmas.{as_many, passes_test, fired, not_fired}
use Rattle.trace_checker.proofs.state.fire.Goals as goal

pub matches_at-requires-clause-known : goal.matches_at-requires-clause-known
matches_at-requires-clause-known c =
    let many = as_many c.args.binding.now c.args.tgd.now.vars (c.fits_tgd.ensures.0 c.if-not-fits_tgd.false).0 in
    subst (λ n. AreKnown c.args.pool.now n c.as_slice.result.now) many
    (subst (AreKnown c.args.pool.now (length c.args.tgd.now.vars)) (sym c.as_slice.ensures) c.requires.known.body)

pub with_images-requires : goal.with_images-requires
with_images-requires c =
    let many = as_many c.args.binding.now c.args.tgd.now.vars (c.fits_tgd.ensures.0 c.if-not-fits_tgd.false).0 in
    subst (λ n. AreKnown c.args.pool.now n c.as_slice-2.result.now) many
    (subst (AreKnown c.args.pool.now (length c.args.tgd.now.vars)) (sym c.as_slice-2.ensures) c.requires.known.head)

pub exists_values-requires : goal.exists_values-requires
exists_values-requires c =
    let many = as_many c.args.binding.now c.args.tgd.now.vars (c.fits_tgd.ensures.0 c.if-not-fits_tgd.false).0 in
    subst (λ n. c.args.tgd.now.body_vars ≤ n) many c.requires.known.within

pub returns-then-not-fits_tgd : goal.returns-then-not-fits_tgd
returns-then-not-fits_tgd c = λ held is.
    (stops K2, inr (λ fits. true≢false (sym (c.fits_tgd.ensures.1 fits) ∙ c.if-not-fits_tgd.true), refl), refl)

pub returns-then-not-there : goal.returns-then-not-there
returns-then-not-there c =
    let name = pool_text c.args.pool.now in
    let binding = bound_to (terms_in c.args.binding.now) in
    let source = source_of c.args.pool.now c.args.table.now in
    let r = c.in_ok-there.there in
    let there = subst (λ u. IsTrue r ↔ Matches name binding c.args.tgd.now.body (snapshot_at source u)) (to_z-of_z w64 c.args.t c.ranges.t)
    (subst (λ atoms. IsTrue r ↔ Matches name binding atoms (snapshot_at source (to_z w64 (of_z w64 c.args.t)))) c.as_slice.ensures c.in_ok-there.ensures) in
    λ held is. (stops K3, inl (c.fits_tgd.ensures.0 c.if-not-fits_tgd.false, inr (λ m. true≢false (sym (there.1 m) ∙ c.if-not-there.true), refl)), refl)

pub returns-then-not-new : goal.returns-then-not-new
returns-then-not-new c =
    let name = pool_text c.args.pool.now in
    let binding = bound_to (terms_in c.args.binding.now) in
    let source = source_of c.args.pool.now c.args.table.now in
    let r = c.in_ok-there.there in
    let there = subst (λ u. IsTrue r ↔ Matches name binding c.args.tgd.now.body (snapshot_at source u)) (to_z-of_z w64 c.args.t c.ranges.t)
    (subst (λ atoms. IsTrue r ↔ Matches name binding atoms (snapshot_at source (to_z w64 (of_z w64 c.args.t)))) c.as_slice.ensures c.in_ok-there.ensures) in
    let state : Instance = record { facts = c.state.inside.facts; used = c.state.inside.used.keys } in
    λ held is.
    passes_test (FitsTgd c.args.tgd.now c.args.binding.now) K2 _ (Stops K4) (c.fits_tgd.ensures.0 c.if-not-fits_tgd.false)
    (passes_test (Matches name binding c.args.tgd.now.body (snapshot_at source c.args.t)) K3 _ (Stops K4) (there.0 c.if-not-there.false)
    (not_fired name c.args.binding.now c.args.tgd.now state held (subst (λ s. IsState s held) (sym c.state.view_is) is)
    (subst (λ l. ¬ (AreNew state.used (numbers_in l))) c.exists_values.ensures (OnFalse_at c.if-not-new.true c.in_ok-new.ensures.used))))

pub returns : goal.returns
returns c =
    let name = pool_text c.args.pool.now in
    let binding = bound_to (terms_in c.args.binding.now) in
    let source = source_of c.args.pool.now c.args.table.now in
    let r = c.in_ok-there.there in
    let there = subst (λ u. IsTrue r ↔ Matches name binding c.args.tgd.now.body (snapshot_at source u)) (to_z-of_z w64 c.args.t c.ranges.t)
    (subst (λ atoms. IsTrue r ↔ Matches name binding atoms (snapshot_at source (to_z w64 (of_z w64 c.args.t)))) c.as_slice.ensures c.in_ok-there.ensures) in
    let state : Instance = record { facts = c.state.inside.facts; used = c.state.inside.used.keys } in
    let after : Instance = record { facts = c.in_ok-facts.facts; used = c.take_numbers.new.used.keys } in
    λ held is.
    passes_test (FitsTgd c.args.tgd.now c.args.binding.now) K2 _ (Goes after) (c.fits_tgd.ensures.0 c.if-not-fits_tgd.false)
    (passes_test (Matches name binding c.args.tgd.now.body (snapshot_at source c.args.t)) K3 _ (Goes after) (there.0 c.if-not-there.false)
    (fired name c.args.binding.now c.args.tgd.now state held after (subst (λ s. IsState s held) (sym c.state.view_is) is)
    (subst (λ l. AreNew state.used (numbers_in l)) c.exists_values.ensures (c.in_ok-new.ensures.new c.if-not-new.false))
    (subst (λ atoms. HoldTheSame after.facts (state.facts ++ map (image name binding) atoms)) c.as_slice-2.ensures c.in_ok-facts.ensures)
    (subst (λ l. after.used ≡ state.used ++ numbers_in l) c.exists_values.ensures (c.in_ok-new.ensures.taken c.if-not-new.false))))
