use Rattle.std.proofs.Common.{◌∙◌, ◌<◌, ◌≤◌, true≢false, refl, sym, ap, subst}
use Rattle.std.proofs.lemmas.List.{take_all}
use Rattle.failure_trace.specs.Trace.{names_in}
use Rattle.trace_checker.proofs.NameLemmas.{names_more, names_differ}
use Rattle.trace_checker.proofs.binding.has_names.Goals as goal

pub loop-at-preserved : goal.loop-at-preserved
loop-at-preserved c =
    names_more c.args.binding.now c.args.vars.now c.loop-at.at c.index-binding-at.result c.index-vars-at.result c.loop-at-test.true
    (subst (λ n. c.loop-at.at < n) c.if-binding-vars.false c.loop-at-test.true)
    c.index-binding-at.is c.index-vars-at.is (c.has_name.ensures.0 c.if-not-has_name.false) c.loop-at.invariant

pub returns-then-not-has_name : goal.returns-then-not-has_name
returns-then-not-has_name c = (
  λ h. absurd (true≢false (sym h)),
  λ e. absurd (names_differ c.args.binding.now c.args.vars.now c.loop-at.at c.index-binding-at.result c.index-vars-at.result c.loop-at-test.true
      c.index-binding-at.is c.index-vars-at.is (λ same. true≢false (sym (c.has_name.ensures.1 same) ∙ c.if-not-has_name.true)) e),
)

pub returns : goal.returns
returns c = (
  λ _.
      ap names_in (sym (take_all c.loop-at.at c.args.binding.now c.loop-at-test.false)) ∙ c.loop-at.invariant
      ∙ take_all c.loop-at.at c.args.vars.now (subst (λ n. n ≤ c.loop-at.at) c.if-binding-vars.false c.loop-at-test.false),
  λ _. refl,
)
