use Rattle.std.proofs.Common.{◌≤◌, ◌++◌, [], ◌∷◌, codes, sym, ◌∙◌, arith}
use Rattle.shelf_core.specs.Texts.{Appends}
use Rattle.shelf_core.proofs.TextLemmas.{appends_then_appends}
use Rattle.exchange_cli.specs.VerdictTexts.{trace_fault}
use Rattle.exchange_cli.specs.Run.{device}
use Rattle.exchange_cli.proofs.SayLemmas.{on_ok, says_last}
use Rattle.exchange_cli.proofs.reporting.say_trace.Goals as goal

pub returns-then-is_ok-2 : goal.returns-then-is_ok-2
returns-then-is_ok-2 g c =
    let text = g.E.Sink.text in
    let faults = g.E.Sink.faults in
    let kind = codes "refused: trace " in
    let about = trace_fault c.args.fault in
    let first : Appends (text c.args.err.now) (text c.put.new.self) kind =
    on_ok c.put.result (Appends (text c.args.err.now) (text c.put.new.self) kind) c.put.ensures.appends
    (sym c.is_ok.ensures.value ∙ c.if-is_ok.true) in
    let second : Appends (text c.put.new.self) (text c.put_fault.new.err) about =
    on_ok c.put_fault.result (Appends (text c.put.new.self) (text c.put_fault.new.err) about)
    (rw c.trace_code-code.ensures at c.put_fault.ensures.text) (sym c.is_ok-then-is_ok.ensures.value ∙ c.if-is_ok-2.true) in
    let kept : faults c.args.err.now ≤ faults c.put_fault.new.err =
    omega (arith, c.put.ensures.cause.later, c.put_fault.ensures.cause.later) in
    says_last (device (text c.args.err.now) (faults c.args.err.now)) (device (text c.put_fault.new.err) (faults c.put_fault.new.err))
    (device (text c.put-then-is_ok-2.new.self) (faults c.put-then-is_ok-2.new.self)) (kind ++ about) (10 ∷ []) c.put-then-is_ok-2.result
    (appends_then_appends (text c.args.err.now) (text c.put.new.self) (text c.put_fault.new.err) kind about first second) kept
    c.put-then-is_ok-2.ensures.appends c.put-then-is_ok-2.ensures.cause
