use Rattle.std.proofs.Common.{◌∙◌, subst, w64}
use Rattle.std.proofs.lemmas.Int.{to_z-of_z}
use Rattle.time_line.specs.Span.{Has}
use Rattle.failure_trace.proofs.ToldLemmas.{tells_firing, firing_writable}
use Rattle.failure_trace.proofs.projection.firing_step.Goals as goal

pub returns-clause-told : goal.returns-clause-told
returns-clause-told c =
    let found = c.in-Some.ensures.found in
    let support = c.in-Some.support.now in
    tells_firing c.args.rules.now c.args.pool.now c.args.unknowns.now c.args.t c.args.firing.now c.tgd_at-tgd.result.now support
    c.tgd_at-tgd.ensures.there c.tgd_at-tgd.ensures.valid c.requires.firing found.0
    (subst (λ t. Has support.span t) (to_z-of_z w64 c.args.t c.ranges.t) found.1)
    c.in_ok-rule.rule c.in_ok-binding.binding (c.in_ok-rule.ensures ∙ c.as_str.ensures) c.in_ok-binding.ensures

pub returns-clause-writable : goal.returns-clause-writable
returns-clause-writable c =
    firing_writable c.args.rules.now c.args.pool.now c.args.unknowns.now c.args.t c.args.firing.now c.tgd_at-tgd.result.now c.in-Some.support.now
    c.tgd_at-tgd.ensures.there c.tgd_at-tgd.ensures.valid c.requires.firing c.in-Some.ensures.found.0
    c.in_ok-rule.rule c.in_ok-binding.binding (c.in_ok-rule.ensures ∙ c.as_str.ensures) c.in_ok-binding.ensures
