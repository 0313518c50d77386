use Rattle.std.proofs.Common.{length, take, drop, sym, ap, ◌∙◌, ◌≡◌, subst, arith, ◌++◌}
use Rattle.std.specs.Str.{IsValidUpTo}
use Rattle.std.proofs.lemmas.List.{take-append-drop, length-take-le}
use Rattle.decl_text.proofs.QuoteLemmas.{no_char_in_nothing, no_valid_front}
use Rattle.decl_text.proofs.quotes.valid_front.Goals as goal

pub returns-in-Ok-clause-none : goal.returns-in-Ok-clause-none
returns-in-Ok-clause-none c none = no_char_in_nothing c.args.bytes.now (ap length (sym c.in-Ok.ensures.cases.0) ∙ none)

pub returns-in-Ok-from_utf8-clause-front : goal.returns-in-Ok-from_utf8-clause-front
returns-in-Ok-from_utf8-clause-front c = (
  drop c.valid_up_to.result c.args.bytes.now,
  sym (take-append-drop c.valid_up_to.result c.args.bytes.now) ∙ ap (λ l. l ++ drop c.valid_up_to.result c.args.bytes.now) (sym c.in-Ok-from_utf8.ensures.cases.0),
)

pub returns-in-Ok-from_utf8-clause-none : goal.returns-in-Ok-from_utf8-clause-none
returns-in-Ok-from_utf8-clause-none c none =
    let valid : IsValidUpTo c.args.bytes.now c.valid_up_to.result =
    subst (IsValidUpTo c.args.bytes.now) (sym c.valid_up_to.ensures) c.in-Err.ensures.cases.1 in
    let short = valid.short in
    let size : length (take c.valid_up_to.result c.args.bytes.now) ≡ c.valid_up_to.result =
    length-take-le c.valid_up_to.result c.args.bytes.now (omega arith) in
    let same = ap length c.in-Ok-from_utf8.ensures.cases.0 in
    no_valid_front c.args.bytes.now c.valid_up_to.result valid (sym size ∙ sym same ∙ none)
