use Rattle.std.proofs.Common.{◌≡◌, ◌∙◌, Some, length, ap, arith}
use Rattle.trace_checker.specs.declared.numbers.Numbers.{Numbers}
use Rattle.trace_checker.proofs.NumberLemmas.{given_own}
use Rattle.trace_checker.proofs.numbers.Numbers.give.Goals as goal

pub returns-clause-own : goal.returns-clause-own
returns-clause-own c =
    let after : Numbers = record { outer = c.push.new.self; inner = c.insert.new.self } in
    let size : c.len-inner.result ≡ length c.args.self.now.outer.items = omega (arith, c.len-inner.ensures, c.args.self.now.outer.ok) in
    given_own c.args.self.now after c.args.number c.requires c.in_ok-push.ensures.items
    (c.in_ok-insert.ensures.updates.1 ∙ ap (λ k. Some k) size)
    c.in_ok-insert.ensures.updates.2
