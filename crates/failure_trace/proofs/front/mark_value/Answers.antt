use Rattle.std.proofs.Common.{take, drop, sym, subst, ◌∙◌}
use Rattle.std.proofs.lemmas.List.{take-append-drop}
use Rattle.time_line.specs.Numeral.{IsMark}
use Rattle.failure_trace.proofs.FrontLemmas.{mark_whole, part_once}
use Rattle.failure_trace.proofs.front.mark_value.Goals as goal

pub returns-in_default-clause-none : goal.returns-in_default-clause-none
returns-in_default-clause-none c text rest number is ends e =
    let same = part_once text (take c.part_len-len.result c.args.bytes.now) rest (drop c.part_len-len.result c.args.bytes.now)
    (mark_whole text number is.0) c.part_len-len.ensures.part ends c.part_len-len.ensures.whole
    (sym e ∙ sym (take-append-drop c.part_len-len.result c.args.bytes.now)) in
    c.in_default.ensures.none number is.1 (subst (λ w. IsMark w number) same.0 is.0)
