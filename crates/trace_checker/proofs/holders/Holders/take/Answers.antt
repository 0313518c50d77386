use Rattle.std.proofs.Common.{◌∙◌, Some, refl}
use Rattle.trace_checker.specs.declared.holders.Holders.{Holders}
use Rattle.trace_checker.specs.Listed.{facts_of}
use Rattle.trace_checker.proofs.ListedLemmas.{taken, same_list}
use Rattle.trace_checker.proofs.holders.Holders.take.Goals as goal

pub returns-in-Some : goal.returns-in-Some
returns-in-Some c =
    let after : Holders = record { lists = c.swap_remove.new.self } in
    taken c.args.self.now after c.args.number (facts_of c.in-Some.list.items)
    (λ there e. same_list (Some c.in-Some.list) c.in-Some.list there refl (c.in-Some.ensures.value ∙ e))
    c.in-Some.ensures.updates.2

pub returns-in-None : goal.returns-in-None
returns-in-None c =
    let after : Holders = record { lists = c.swap_remove.new.self } in
    taken c.args.self.now after c.args.number (facts_of c.new.result.items)
    (λ there e. absurd cc)
    c.in-None.ensures.updates.2
