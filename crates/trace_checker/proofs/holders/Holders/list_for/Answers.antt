use Rattle.std.proofs.Common.{ap, subst}
use Rattle.std.proofs.lemmas.Result.{on_ok_weaker}
use Rattle.trace_checker.specs.Names.{term_named}
use Rattle.trace_checker.specs.States.{fact_named}
use Rattle.trace_checker.specs.Listed.{IsListed}
use Rattle.trace_checker.proofs.ListedLemmas.{one_number}
use Rattle.trace_checker.proofs.holders.Holders.list_for.Goals as goal

pub returns-in_ok-copied_row-in-Number-clause-there :
    goal.returns-in_ok-copied_row-in-Number-clause-there
returns-in_ok-copied_row-in-Number-clause-there c =
    let number = c.in-Number.number in
    on_ok_weaker c.put.result
    (λ there n e. one_number number n (term_named c.args.name.now) c.put.new.self (fact_named c.args.row.now) (ap term_named c.in-Number.is) e
    (subst (IsListed c.put.new.self number) c.in_ok-copied_row-in-Number.ensures there))
    c.put.ensures.there
