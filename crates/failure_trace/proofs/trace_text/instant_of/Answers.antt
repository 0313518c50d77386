use Rattle.std.proofs.Common.{◌≡◌, ℤ, ◌++◌, take, drop, codes, sym, ◌∙◌, subst, rules, SFits, w64}
use Rattle.std.proofs.lemmas.Int.{to_z-of_z}
use Rattle.time_line.specs.Numeral.{IsNumber, number_of}
use Rattle.failure_trace.specs.TraceText.{BeginsInstant}
use Rattle.failure_trace.proofs.LineLemmas.{line_once, instant_line, no_instant, number_after}
use Rattle.failure_trace.proofs.trace_text.instant_of.Goals as goal

pub returns-in_default-after_word-clause-none : goal.returns-in_default-after_word-clause-none
returns-in_default-after_word-clause-none c t rest begins =
    let same = line_once c.args.bytes.now (take c.in-Some.line.len c.args.bytes.now) (codes "instant " ++ begins.number)
    (drop c.in-Some.line.end c.args.bytes.now) rest c.in-Some.ensures.line begins.line in
    c.in_default-after_word.ensures.none begins.number same.0

pub returns-in_default-read_instant-clause-none : goal.returns-in_default-read_instant-clause-none
returns-in_default-read_instant-clause-none c t rest begins =
    let same = line_once c.args.bytes.now (take c.in-Some.line.len c.args.bytes.now) (codes "instant " ++ begins.number)
    (drop c.in-Some.line.end c.args.bytes.now) rest c.in-Some.ensures.line begins.line in
    let number : begins.number ≡ c.in-Some-after_word.number.now =
    number_after begins.number c.in-Some-after_word.number.now (sym same.0 ∙ c.in-Some-after_word.ensures.found) in
    no_instant c.in_default-read_instant.field-0 c.in-Some-after_word.number.now c.in_default-read_instant.ensures.form
    c.in_default-read_instant.ensures.limit t (subst IsNumber number begins.form) (subst (λ l. number_of l ≡ t) number begins.is) begins.within

pub returns-clause-line : goal.returns-clause-line
returns-clause-line c =
    let t : ℤ = c.in-Ok.instant in
    let fits : SFits w64 t = search rules in
    subst (λ m. BeginsInstant c.args.bytes.now m (drop c.in-Some.line.end c.args.bytes.now)) (sym (to_z-of_z w64 t fits))
    (instant_line c.args.bytes.now (drop c.in-Some.line.end c.args.bytes.now) (take c.in-Some.line.len c.args.bytes.now)
    c.in-Some-after_word.number.now t c.in-Some.ensures.line c.in-Some-after_word.ensures.found c.in-Ok.ensures.value.0
    c.in-Ok.ensures.value.1 c.in-Ok.ensures.within)
