-- The words of a run, and the commands that they spell.
use Rattle.std.specs.Prelude.{◌≡◌, ℕ, ℤ, List, [], ◌∷◌, codes}
use Rattle.std.specs.declared.option.Option.{Option}
use Rattle.std.specs.declared.option.Option.TheVariants.{None, Some}
use Rattle.time_line.specs.Span.{IsWithinInstants}
use Rattle.time_line.specs.Numeral.{IsNumber, number_of}

-- from where a command reads: the name of the mapping, and the prefix of the source's tables
pub record Origin : Type 0 where
  pub mapping : List ℕ
  pub source : List ℕ

-- the commands that are built
pub data Command : Type 0 where
  -- `exchange MAPPING SOURCE TARGET`
  Exchange : Origin → List ℕ → Command
  -- `normalise MAPPING SOURCE OUT`
  Normalise : Origin → List ℕ → Command
  -- `snapshot MAPPING SOURCE INSTANT OUT`
  Snapshot : Origin → ℤ → List ℕ → Command
  -- `check MAPPING SOURCE TRACE`
  Check : Origin → List ℕ → Command

-- the word is this instant: a number, within the limit of instants
pub record IsInstant (word : List ℕ) (t : ℤ) : Type 0 where
  pub form : IsNumber word
  pub is : number_of word ≡ t
  pub within : IsWithinInstants (Some t)

-- the words spell the command
abbrev pub Spells : List (List ℕ) → Command → Type 0
Spells words (Exchange origin target) = words ≡ codes "exchange" ∷ origin.mapping ∷ origin.source ∷ target ∷ []
Spells words (Normalise origin out) = words ≡ codes "normalise" ∷ origin.mapping ∷ origin.source ∷ out ∷ []
Spells words (Snapshot origin t out) =
    (word : List ℕ) × IsInstant word t × (words ≡ codes "snapshot" ∷ origin.mapping ∷ origin.source ∷ word ∷ out ∷ [])
Spells words (Check origin trace) = words ≡ codes "check" ∷ origin.mapping ∷ origin.source ∷ trace ∷ []

-- the words spell no command
abbrev pub SpellsNone : List (List ℕ) → Type 0
SpellsNone words = (command : Command) → ¬ (Spells words command)

-- from where it reads
abbrev pub origin_of : Command → Origin
origin_of (Exchange origin target) = origin
origin_of (Normalise origin out) = origin
origin_of (Snapshot origin t out) = origin
origin_of (Check origin trace) = origin

-- the name of the trace that it reads, if it reads one
abbrev pub trace_of : Command → Option (List ℕ)
trace_of (Exchange origin target) = None
trace_of (Normalise origin out) = None
trace_of (Snapshot origin t out) = None
trace_of (Check origin trace) = Some trace
