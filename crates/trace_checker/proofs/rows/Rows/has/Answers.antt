use Rattle.std.proofs.Common.{◌∙◌, sym, subst, Contains}
use Rattle.std.specs.Prelude.{IsTrue, ◌↔◌}
use Rattle.trace_checker.specs.States.{fact_named}
use Rattle.trace_checker.proofs.FactLemmas.{row_there, row_found}
use Rattle.trace_checker.proofs.rows.Rows.has.Goals as goal

pub returns : goal.returns
returns c =
    let keys = c.self.inside.rows.keys in
    let row = c.args.row.now in
    let found = c.contains.ensures in
    subst (λ facts. IsTrue c.contains.result ↔ Contains facts (fact_named row)) c.self.view_is
    (λ h. row_there keys row (sym found ∙ h), λ h. found ∙ row_found keys row h)
