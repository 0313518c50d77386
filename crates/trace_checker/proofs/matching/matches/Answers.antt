use Rattle.std.proofs.Common.{◌∙◌, true≢false, length, refl, sym, subst, Contains}
use Rattle.std.proofs.lemmas.List.{take_all}
use Rattle.std.proofs.lemmas.List.Elements.{All-more}
use Rattle.rule_core.specs.declared.rules.Atom.{Atom}
use Rattle.rule_core.specs.Match.{image, Matches}
use Rattle.failure_trace.specs.Equating.{bound_to}
use Rattle.failure_trace.specs.Trace.{terms_in}
use Rattle.failure_trace.specs.Projected.{pool_text}
use Rattle.trace_checker.specs.Names.{IsKnown}
use Rattle.trace_checker.proofs.matching.matches.Goals as goal

pub image_row-requires : goal.image_row-requires
image_row-requires c =
    subst (IsKnown c.args.pool.now (length c.args.binding.now)) (sym c.atom-item.is)
    (c.requires c.loop-atom.atom-index c.atom-item.result c.loop-atom-test.true)

pub returns-then-not-there : goal.returns-then-not-there
returns-then-not-there c =
    let name = pool_text c.args.pool.now in
    let binding = bound_to (terms_in c.args.binding.now) in
    let facts = c.args.facts.now in
    let x = c.atom-item.result in (
      λ h. absurd (true≢false (sym h)),
      λ m.
          let there = subst (λ (a : Atom). Contains facts (image name binding a)) (sym c.atom-item.is) (m c.loop-atom.atom-index x c.loop-atom-test.true) in
          absurd (true≢false (sym (c.in_ok-there.ensures.1 (subst (Contains facts) (sym c.in_ok-row.ensures) there)) ∙ c.if-not-there.true)),
    )

pub loop-atom-preserved : goal.loop-atom-preserved
loop-atom-preserved c =
    let name = pool_text c.args.pool.now in
    let binding = bound_to (terms_in c.args.binding.now) in
    let facts = c.args.facts.now in
    All-more (λ (a : Atom). Contains facts (image name binding a)) c.args.atoms.now c.loop-atom.atom-index c.atom-item.result c.loop-atom-test.true
    c.loop-atom.invariant
    (subst (λ (a : Atom). Contains facts (image name binding a)) c.atom-item.is
    (subst (Contains facts) c.in_ok-row.ensures (c.in_ok-there.ensures.0 c.if-not-there.false)))

pub returns : goal.returns
returns c = (
  λ _. subst (λ atoms. Matches (pool_text c.args.pool.now) (bound_to (terms_in c.args.binding.now)) atoms c.args.facts.now)
      (take_all c.loop-atom.atom-index c.args.atoms.now c.loop-atom-test.false) c.loop-atom.invariant,
  λ _. refl,
)
