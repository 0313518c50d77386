use Rattle.std.proofs.Common.{sym, subst, Contains}
use Rattle.std.specs.Prelude.{IsTrue, ◌↔◌}
use Rattle.trace_checker.specs.States.{fact_named}
use Rattle.trace_checker.proofs.NumberLemmas.{shown_there, shown_found}
use Rattle.trace_checker.proofs.facts.Facts.has.Goals as goal

pub returns : goal.returns
returns c =
    let numbers = c.self.inside.numbers in
    let rows = c.self.inside.rows in
    let row = fact_named c.args.row.now in
    let is = c.in_ok-inner.ensures in
    subst (λ facts. IsTrue c.has.result ↔ Contains facts row) c.self.view_is (
      λ h. shown_there numbers c.self.invariant.0 rows c.self.invariant.1 row (subst (Contains rows) is (c.has.ensures.0 h)),
      λ h. c.has.ensures.1 (subst (Contains rows) (sym is) (shown_found numbers c.self.invariant.0 rows c.self.invariant.1 row h)),
    )
