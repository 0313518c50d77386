use Rattle.failure_trace.proofs.NumberLemmas.{one_more}
use Rattle.failure_trace.proofs.numbering.add_unknowns.Goals as goal

pub loop-var-preserved : goal.loop-var-preserved
loop-var-preserved c =
    one_more (λ var. record { rule = c.args.firing.now.rule; frontier = c.args.firing.now.frontier; var = var }) c.args.unknowns.now.items
    c.loop-var.unknowns.items c.push.new.self.items c.loop-var.var
    (record { rule = c.args.firing.now.rule; frontier = c.in_ok-copy.field-0; var = c.loop-var.var })
    c.loop-var.invariant c.in_ok-push.ensures.items
    (λ i. record { rule = c.args.firing.now.rule; frontier = c.in_ok-copy.ensures i; var = c.loop-var.var })
