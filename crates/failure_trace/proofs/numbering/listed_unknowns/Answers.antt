use Rattle.std.proofs.lemmas.Int.{to_z-of_z}
use Rattle.std.proofs.Common.{◌≡◌, ◌∙◌, ap, subst, to_z, of_z, w64}
use Rattle.std.proofs.lemmas.List.{take_all}
use Rattle.failure_trace.specs.Projected.{unknowns_at}
use Rattle.failure_trace.proofs.NumberLemmas.{unknowns_more, unknowns_same}
use Rattle.failure_trace.proofs.numbering.listed_unknowns.Goals.{then-has+in_ok-add_unknowns, else-has}
use Rattle.failure_trace.proofs.numbering.listed_unknowns.Goals as goal

pub loop-firing-preserved : goal.loop-firing-preserved
loop-firing-preserved c =
    let rules = c.args.rules.now in
    let firings = c.args.firings.now in
    let t = to_z w64 (of_z w64 c.args.t) in
    let i = c.loop-firing.firing-index in
    let f = c.firing-item.result in
    elim c.if-has.branch [
      | then-has+in_ok-add_unknowns w ↦ ap (λ v. v.items) w.unknowns-is
          ∙ unknowns_more rules firings t i f c.loop-firing-test.true c.firing-item.is w.tgd_at.result.now c.loop-firing.unknowns.items
          w.add_unknowns.new.unknowns.items (c.has.ensures.0 w.if-has.true) w.tgd_at.ensures.there c.loop-firing.invariant w.in_ok-add_unknowns.ensures
      | else-has w ↦ ap (λ v. v.items) w.unknowns-is
          ∙ unknowns_same rules firings t i f c.loop-firing-test.true c.firing-item.is c.loop-firing.unknowns.items
          (λ h. let yes = c.has.ensures.1 h in let no = w.if-has.false in absurd cc) c.loop-firing.invariant
    ]

pub returns : goal.returns
returns c =
    let rules = c.args.rules.now in
    let t = to_z w64 (of_z w64 c.args.t) in
    subst (λ u. c.loop-firing.unknowns.items ≡ unknowns_at rules c.args.firings.now u) (to_z-of_z w64 c.args.t c.ranges.t)
    (subst (λ fs. c.loop-firing.unknowns.items ≡ unknowns_at rules fs t)
    (take_all c.loop-firing.firing-index c.args.firings.now c.loop-firing-test.false) c.loop-firing.invariant)
