-- The text that is printed of a trace, and which traces are read back from it.
use Rattle.std.specs.Prelude.{◌≤◌, ◌<◌, ◌^◌, ℕ, Some, List, [], ◌∷◌, codes, decimal, length, All, IsUtf8}
use Rattle.std.specs.Fmt.{signed_decimal}
use Rattle.std.specs.List.{concat, flat_map}
use Rattle.time_line.specs.Span.{IsWithinInstants}
use Rattle.time_line.specs.Numeral.{mark}
use Rattle.rule_core.specs.Names.{IsName}
use Rattle.decl_text.specs.Canonical.{quoted_text}
use Rattle.failure_trace.specs.declared.trace.Value.{Value}
use Rattle.failure_trace.specs.declared.trace.Value.TheVariants.{Const, Null}
use Rattle.failure_trace.specs.declared.trace.Bound.{Bound}
use Rattle.failure_trace.specs.declared.trace.TraceStep.{TraceStep}
use Rattle.failure_trace.specs.declared.trace.Trace.{Trace}
use Rattle.failure_trace.specs.TraceText.{kind_word}

-- a constant in quotes, or the mark of a number
abbrev pub value_text : Value → List ℕ
value_text (Const text) = quoted_text text
value_text (Null number) = mark ∷ decimal number

-- a binding, behind a space
abbrev pub bound_text : Bound → List ℕ
bound_text bound = concat (codes " " ∷ bound.name ∷ codes "=" ∷ value_text bound.value ∷ [])

-- the line of a step
abbrev pub step_text : TraceStep → List ℕ
step_text step = concat (kind_word step.kind ∷ step.rule ∷ flat_map bound_text step.binding ∷ (10 ∷ []) ∷ [])

-- the text of a trace
abbrev pub trace_text : Trace → List ℕ
trace_text trace =
    concat (codes "trace 1" ∷ (10 ∷ []) ∷ codes "instant " ∷ signed_decimal trace.instant ∷ (10 ∷ []) ∷ flat_map step_text trace.steps ∷ [])

-- a text, or a number of 64 bits that is at least 1
abbrev pub IsWritableValue : Value → Type 0
IsWritableValue (Const text) = IsUtf8 text
IsWritableValue (Null number) = (1 ≤ number) × (number < 2 ^ 64)

-- a name, and a value that may be written
abbrev pub IsWritableBound : Bound → Type 0
IsWritableBound bound = IsName bound.name × IsWritableValue bound.value

-- a name, and at most 32 bindings
pub record IsWritableStep (step : TraceStep) : Type 0 where
  pub rule : IsName step.rule
  pub most : length step.binding ≤ 32
  pub bound : All IsWritableBound step.binding

-- an instant within its limit, and steps that may be written
pub record IsWritable (trace : Trace) : Type 0 where
  pub instant : IsWithinInstants (Some trace.instant)
  pub steps : All IsWritableStep trace.steps
