use Rattle.std.proofs.Common.{◌++◌, codes}
use Rattle.std.proofs.lemmas.Result.{on_ok_weaker}
use Rattle.shelf_core.specs.Texts.{Appends}
use Rattle.shelf_core.proofs.TextLemmas.{appends_then_appends}
use Rattle.exchange_cli.proofs.reporting.put_table.Goals as goal

pub returns-clause-text : goal.returns-clause-text
returns-clause-text g c =
    let text = g.E.Sink.text in
    let name = c.args.name.now in
    on_ok_weaker {P = Appends (text c.put-2.new.self) (text c.put-3.new.self) (codes " ")} c.put-3.result
    (λ last. appends_then_appends (text c.args.err.now) (text c.put-2.new.self) (text c.put-3.new.self) (codes "refused: table " ++ name)
    (codes " ")
    (appends_then_appends (text c.args.err.now) (text c.put.new.self) (text c.put-2.new.self) (codes "refused: table ") name
    c.in_ok-put.ensures.appends (rw c.as_bytes.ensures.value at c.in_ok-put-2.ensures.appends)) last)
    c.put-3.ensures.appends
