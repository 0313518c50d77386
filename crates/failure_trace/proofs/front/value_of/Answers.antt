use Rattle.std.proofs.Common.{◌≢◌, ℕ, List, ◌++◌}
use Rattle.std.specs.declared.option.Option.{Option}
use Rattle.std.specs.declared.option.Option.TheVariants.{Some, None}
use Rattle.std.specs.Prelude.{IfNone}
use Rattle.failure_trace.specs.declared.front.ValueFront.{ValueFront}
use Rattle.failure_trace.specs.declared.trace.Value.{Value}
use Rattle.failure_trace.specs.declared.trace.Value.TheVariants.{Const, Null}
use Rattle.failure_trace.specs.TraceText.{EndsPart, IsValue}
use Rattle.failure_trace.proofs.front.value_of.Goals as goal

-- bytes that begin neither with a text in quotes nor with a mark begin with no value
neither : (bytes text rest : List ℕ) (value : Value) → IsValue text value → EndsPart rest
    → ((constant : List ℕ) → IsValue text (Const constant) → EndsPart rest → bytes ≢ text ++ rest)
    → ((number : ℕ) → IsValue text (Null number) → EndsPart rest → bytes ≢ text ++ rest) → bytes ≢ text ++ rest
neither bytes text rest (Const constant) is ends quoted mark = quoted constant is ends
neither bytes text rest (Null number) is ends quoted mark = mark number is ends

pub returns-clause-none : goal.returns-clause-none
returns-clause-none c = by c.mark_value.result c.mark_value.ensures.none
  where
    by : (o : Option ValueFront)
        → IfNone o ((text rest : List ℕ) (number : ℕ) → IsValue text (Null number) → EndsPart rest → c.args.bytes.now ≢ text ++ rest)
        → IfNone o ((text rest : List ℕ) (value : Value) → IsValue text value → EndsPart rest → c.args.bytes.now ≢ text ++ rest)
    by (Some front) h = tt
    by None h = λ text rest value is ends.
        neither c.args.bytes.now text rest value is ends ((rw c.in_default.is at c.in_ok-front.ensures.none) text rest) (h text rest)
