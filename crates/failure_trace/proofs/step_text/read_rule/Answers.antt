use Rattle.std.proofs.Common.{◌≡◌, take, drop, sym, subst, ◌∙◌, true}
use Rattle.std.proofs.lemmas.List.{take-append-drop, take_rest}
use Rattle.failure_trace.specs.TraceText.{EndsPart}
use Rattle.failure_trace.proofs.FrontLemmas.{name_once, ends_word}
use Rattle.failure_trace.proofs.step_text.read_rule.Goals as goal

pub returns-then-not-ends_part-clause-none : goal.returns-then-not-ends_part-clause-none
returns-then-not-ends_part-clause-none c rule rest is =
    let same = name_once (take c.in-Some.len c.args.bytes.now) rule (drop c.in-Some.len c.args.bytes.now) rest
    c.in-Some.ensures.name is.name c.in-Some.ensures.whole (ends_word rest is.ends)
    (take-append-drop c.in-Some.len c.args.bytes.now ∙ is.bytes_are) in
    let told = simp take_rest at c.ends_part.ensures in
    let passes : c.ends_part.result ≡ true = told.1 (subst EndsPart (sym same.1) is.ends) in
    cc
