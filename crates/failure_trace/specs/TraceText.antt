-- Traces as text: which text is which trace, and which is the first fault of a text. Words are divided by one space, and names and texts
-- in quotes are spelled as in a mapping.
use Rattle.std.specs.Prelude.{◌≡◌, ◌≢◌, ◌⊎◌, ◌+◌, ◌<◌, ◌≤◌, ◌^◌, ℕ, ℤ, Some, List, [], ◌∷◌, ◌++◌, codes, length, All, Result, Ok, Err, ⊤}
use Rattle.time_line.specs.Span.{IsWithinInstants}
use Rattle.time_line.specs.Numeral.{IsNumber, number_of, IsMark}
use Rattle.rule_core.specs.Names.{IsName}
use Rattle.decl_text.specs.Quotes.{IsQuoted}
use Rattle.failure_trace.specs.declared.trace.Value.{Value}
use Rattle.failure_trace.specs.declared.trace.Value.TheVariants.{Const, Null}
use Rattle.failure_trace.specs.declared.trace.Bound.{Bound}
use Rattle.failure_trace.specs.declared.trace.StepKind.{StepKind}
use Rattle.failure_trace.specs.declared.trace.StepKind.TheVariants.{Tgd, Egd, Clash}
use Rattle.failure_trace.specs.declared.trace.TraceStep.{TraceStep}
use Rattle.failure_trace.specs.declared.trace.Trace.{Trace}
use Rattle.failure_trace.specs.declared.fault.TraceCode.{TraceCode}
use Rattle.failure_trace.specs.declared.fault.TraceCode.TheVariants.{L1, L2, L3, L4, L5, L6}
use Rattle.failure_trace.specs.declared.fault.TraceFault.{TraceFault}
use Rattle.failure_trace.specs.declared.fault.TraceError.{TraceError}
use Rattle.failure_trace.specs.declared.fault.TraceError.TheVariants.{Fault, Memory}

-- a part of a line ends before these bytes: a space follows, or the line ends
abbrev pub EndsPart : List ℕ → Type 0
EndsPart [] = ⊤
EndsPart (b ∷ bs) = b ≡ 32

-- the text is this value: a text in quotes, or the mark of a number of 64 bits
abbrev pub IsValue : List ℕ → Value → Type 0
IsValue text (Const constant) = IsQuoted text constant
IsValue text (Null number) = IsMark text number × (number < 2 ^ 64)

-- the bytes begin with a rule's name, which ends there
pub record BeginsRule (bytes rule rest : List ℕ) : Type 0 where
  pub bytes_are : bytes ≡ rule ++ rest
  pub name : IsName rule
  pub ends : EndsPart rest

-- the bytes begin with a binding, as `n="Ada"` or `s=?1`, which ends there
pub record BeginsBound (bytes : List ℕ) (bound : Bound) (rest : List ℕ) : Type 0 where
  pub value : List ℕ
  pub bytes_are : bytes ≡ bound.name ++ (61 ∷ (value ++ rest))
  pub name : IsName bound.name
  pub is : IsValue value bound.value
  pub ends : EndsPart rest

-- the bytes are these bindings, each behind a space, and then the rest
abbrev pub Bind : List ℕ → List Bound → List ℕ → Type 0
Bind bytes [] rest = rest ≡ bytes
Bind bytes (bound ∷ binding) rest =
    (from : List ℕ) × (after : List ℕ) × (bytes ≡ 32 ∷ from) × BeginsBound from bound after × Bind after binding rest

-- the word of a kind of step, and a space
abbrev pub kind_word : StepKind → List ℕ
kind_word Tgd = codes "tgd "
kind_word Egd = codes "egd "
kind_word Clash = codes "clash "

-- the line begins with the word of a kind and the name of a rule, and then the rest follows
pub record BeginsStep (line : List ℕ) (kind : StepKind) (rule rest : List ℕ) : Type 0 where
  pub from : List ℕ
  pub word : line ≡ kind_word kind ++ from
  pub name : BeginsRule from rule rest

-- the line is this step, with at most 32 bindings
pub record IsStepLine (line : List ℕ) (step : TraceStep) : Type 0 where
  pub after : List ℕ
  pub begins : BeginsStep line step.kind step.rule after
  pub binding : Bind after step.binding []
  pub most : length step.binding ≤ 32

-- the first fault of what follows a rule's name: a space with no binding behind it, or one behind the 32nd binding
abbrev pub FailsBinding : List ℕ → TraceCode → Type 0
FailsBinding bytes L5 = (binding : List Bound) × (from : List ℕ) × Bind bytes binding (32 ∷ from) × (length binding < 32)
    × ((bound : Bound) (rest : List ℕ) → ¬ (BeginsBound from bound rest))
FailsBinding bytes L6 = (binding : List Bound) × (from : List ℕ) × Bind bytes binding (32 ∷ from) × (length binding ≡ 32)
FailsBinding bytes other = ⊥

-- the first fault of the line of a step
abbrev pub FailsStep : List ℕ → TraceCode → Type 0
FailsStep line L3 = (kind : StepKind) (from : List ℕ) → line ≢ kind_word kind ++ from
FailsStep line L4 = (kind : StepKind) × (from : List ℕ) × (line ≡ kind_word kind ++ from) × ((rule rest : List ℕ) → ¬ (BeginsRule from rule rest))
FailsStep line other = (kind : StepKind) × (rule : List ℕ) × (after : List ℕ) × BeginsStep line kind rule after × FailsBinding after other

-- the bytes begin with this line; behind its line feed the rest follows. A last line needs no line feed
abbrev pub BeginsLine : List ℕ → List ℕ → List ℕ → Type 0
BeginsLine bytes line rest = All (λ b. b ≢ 10) line × ((bytes ≡ line ++ (10 ∷ rest)) ⊎ ((bytes ≡ line) × (line ≢ []) × (rest ≡ [])))

-- the bytes are lines of these steps, and then the rest
abbrev pub Steps : List ℕ → List TraceStep → List ℕ → Type 0
Steps bytes [] rest = rest ≡ bytes
Steps bytes (step ∷ steps) rest =
    (line : List ℕ) × (after : List ℕ) × BeginsLine bytes line after × IsStepLine line step × Steps after steps rest

-- the first line
abbrev pub BeginsTrace : List ℕ → List ℕ → Type 0
BeginsTrace bytes rest = BeginsLine bytes (codes "trace 1") rest

-- the second line
pub record BeginsInstant (bytes : List ℕ) (t : ℤ) (rest : List ℕ) : Type 0 where
  pub number : List ℕ
  pub line : BeginsLine bytes (codes "instant " ++ number) rest
  pub form : IsNumber number
  pub is : number_of number ≡ t
  pub within : IsWithinInstants (Some t)

-- the text is this trace
pub record IsTrace (text : List ℕ) (trace : Trace) : Type 0 where
  pub second : List ℕ
  pub third : List ℕ
  pub first_line : BeginsTrace text second
  pub second_line : BeginsInstant second trace.instant third
  pub steps : Steps third trace.steps []

-- of the lines of steps, this one, counted from 1, is the first with a fault, and this is the first fault of the line
abbrev pub FailsSteps : List ℕ → TraceCode → ℕ → Type 0
FailsSteps bytes code number = (steps : List TraceStep) × (from : List ℕ) × (line : List ℕ) × (rest : List ℕ)
    × Steps bytes steps from × BeginsLine from line rest × FailsStep line code × (number ≡ 1 + length steps)

-- the text has this fault as its first: the lines before it are good, and it is the first of its line
abbrev pub FailsAtLine : List ℕ → TraceCode → ℕ → Type 0
FailsAtLine text L1 number = (number ≡ 1) × ((rest : List ℕ) → ¬ (BeginsTrace text rest))
FailsAtLine text L2 number = (second : List ℕ) × BeginsTrace text second × (number ≡ 2)
    × ((t : ℤ) (rest : List ℕ) → ¬ (BeginsInstant second t rest))
FailsAtLine text other number = (second : List ℕ) × (third : List ℕ) × (t : ℤ) × BeginsTrace text second × BeginsInstant second t third
    × ((place : ℕ) × FailsSteps third other place × (number ≡ 2 + place))

abbrev pub Fails : List ℕ → TraceFault → Type 0
Fails text fault = FailsAtLine text fault.code fault.line

-- what holds of the fault that was answered, if one was
abbrev pub IfFault : {T : Type 0} → Result T TraceError → (TraceFault → Type 0) → Type 0
IfFault (Ok value) P = ⊤
IfFault (Err (Fault fault)) P = P fault
IfFault (Err Memory) P = ⊤
