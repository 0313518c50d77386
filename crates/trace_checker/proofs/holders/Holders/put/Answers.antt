use Rattle.trace_checker.specs.declared.holders.Holders.{Holders}
use Rattle.trace_checker.specs.States.{fact_named}
use Rattle.trace_checker.specs.Listed.{facts_of}
use Rattle.trace_checker.proofs.ListedLemmas.{put_kept, put_there, facts_more}
use Rattle.trace_checker.proofs.holders.Holders.put.Goals as goal

pub returns-clause-kept : goal.returns-clause-kept
returns-clause-kept c =
    let after : Holders = record { lists = c.insert.new.self } in
    put_kept c.args.self.now c.take-list.new.self after c.args.number (facts_of c.take-list.result.items) c.push.new.self (fact_named c.args.row)
    c.take-list.ensures (facts_more c.take-list.result.items c.push.new.self.items c.args.row c.in_ok-push.ensures.items)
    c.in_ok-insert.ensures.updates.1 c.in_ok-insert.ensures.updates.2

pub returns-clause-there : goal.returns-clause-there
returns-clause-there c =
    let after : Holders = record { lists = c.insert.new.self } in
    put_there after c.args.number (facts_of c.take-list.result.items) c.push.new.self (fact_named c.args.row)
    (facts_more c.take-list.result.items c.push.new.self.items c.args.row c.in_ok-push.ensures.items)
    c.in_ok-insert.ensures.updates.1
