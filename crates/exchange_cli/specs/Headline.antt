-- The clauses under the headline: what is promised of every command, and then of each.
use Rattle.std.specs.Prelude.{◌≡◌, ◌≢◌, ◌⊎◌, ◌↔◌, ℕ, ℤ, List, [], ◌∷◌, Some}
use Rattle.shelf_core.specs.Held.{Held}
use Rattle.shelf_core.specs.Faults.{Rises}
use Rattle.shelf_core.specs.Texts.{Appends, AppendsPrefix}
use Rattle.term_core.specs.declared.const_id.ConstId.{ConstId}
use Rattle.rule_core.specs.Mapping.{RuleSet}
use Rattle.rule_core.specs.Terms.{FactOf, StampedOf}
use Rattle.rule_core.specs.Snapshot.{snapshot_at}
use Rattle.rule_core.specs.Solution.{HasSolution, IsSolution}
use Rattle.failure_trace.specs.declared.trace.Trace.{Trace}
use Rattle.failure_trace.specs.declared.why.Why.{Why}
use Rattle.failure_trace.specs.TraceRun.{IsAccepted, IsRefused as TraceIsRefused}
use Rattle.trace_checker.specs.declared.verdict.Verdict.TheVariants.{Accepted, Refused}
use Rattle.exchange_cli.specs.Words.{Command, Exchange, Normalise, Snapshot, Check, Origin, Spells, SpellsNone}
use Rattle.exchange_cli.specs.Inputs.{Inputs, name_of, source_of}
use Rattle.exchange_cli.specs.Judged.{HasNoneAt}
use Rattle.exchange_cli.specs.Files.{SolvedFiles, AreSolvedFiles, in_order}
use Rattle.exchange_cli.specs.Product.{Makes, IsFindingOf, IsOwnStatus}
use Rattle.exchange_cli.specs.Endings.{IsDone, IsRefused, status_of, status_found, line_of, printed_of}
use Rattle.exchange_cli.specs.Work.{Fetch, AreTold, Reads, FailsFirst}
use Rattle.exchange_cli.specs.Run.{Device, Moment, with_files, Untouched, Stores, Delivers, IsMadeFor, Says}
use Rattle.exchange_cli.specs.Answers.{AreAnswerFiles}
use Rattle.exchange_cli.specs.Pieces.{ArePieceFiles}
use Rattle.exchange_cli.specs.Target.{TargetTable, AreTableFiles}
use Rattle.exchange_cli.specs.RunBehind.{IsRunBehind}
use Rattle.exchange_cli.specs.Certificate.{IsCertificate}
use Rattle.exchange_cli.specs.Snapshot.{SnapshotFiles, AreSnapshotFiles, shown_in_order}
use Rattle.exchange_cli.specs.declared.file.FileOut.{FileOut}
use Rattle.exchange_cli.specs.declared.ending.Finding.TheVariants.{Solved, NoSolution, Normalised, Shown, Checked}
use Rattle.exchange_cli.specs.declared.product.Product.{Product}
use Rattle.exchange_cli.specs.declared.ending.Finding.{Finding}
use Rattle.exchange_cli.specs.declared.ending.Ending.{Ending}
use Rattle.exchange_cli.specs.declared.ending.Ending.TheVariants.{Words, Read, Write, Output}

-- every command

-- words that spell no command: nothing was fetched, stored or printed, and that is said
pub record WordsClause (words : List (List ℕ)) (before after : Moment) (err err_after : Device (List ℕ)) (status : ℕ) : Type 0 where
  pub answer : SpellsNone words → status ≡ 5
  pub same : SpellsNone words → after ≡ before
  pub line : SpellsNone words → Says err err_after (line_of Words)

-- words that spell a command: it is refused, a fault or want of memory ends it, or it ends with a status of its own
abbrev pub AnswerClause : List (List ℕ) → ℕ → Type 0
AnswerClause words status = (command : Command) → Spells words command
    → IsOwnStatus command status ⊎ ((status ≡ 1) ⊎ ((status ≡ 3) ⊎ (status ≡ 4)))

-- where the shelf tells what it holds, what it holds fails first so, and neither memory nor the shelf failed in this call: the
-- status and the line are those of this failure, and nothing was stored or printed
abbrev pub RefusalClause : List (List ℕ) → Moment → Moment → Device (List ℕ) → Device (List ℕ) → ℕ → Type 0
RefusalClause words before after err err_after status =
    (command : Command) (held : Held) (fetches : List Fetch) (ending : Ending)
    → Spells words command → before.shelf.content ≡ Some held → AreTold (Some held) fetches → FailsFirst command fetches ending
    → ((name : List ℕ) → ending ≢ Read name) → status ≢ 4 → ¬ (Rises before.shelf.faults after.shelf.faults)
    → (status ≡ status_of ending) × Untouched before after × Says err err_after (line_of ending)

-- the premises of the clauses that follow: the shelf tells what it holds, the command reads all that it needs there, and
-- neither memory nor the shelf nor the output failed in this call
pub record IsUnhindered (words : List (List ℕ)) (before after : Moment) (status : ℕ) (command : Command) (held : Held)
    (inputs : Inputs) : Type 0 where
  pub spelled : Spells words command
  pub told : before.shelf.content ≡ Some held
  pub fetches : List Fetch
  pub each : AreTold (Some held) fetches
  pub reads : Reads command fetches inputs
  pub memory : status ≢ 4
  pub shelf : ¬ (Rises before.shelf.faults after.shelf.faults)
  pub out : ¬ (Rises before.out.faults after.out.faults)

-- a product of the command was delivered: the shelf holds what it held, with exactly its files set, its line is printed, and
-- the status is that of what was found, which is one of the command's own
pub record Completes (before after : Moment) (status : ℕ) (command : Command) (held : Held) (inputs : Inputs) : Type 0 where
  pub product : Product
  pub made : Makes command inputs product
  pub found : IsFindingOf command product.finding
  pub answer : status ≡ status_found product.finding
  pub stored : after.shelf.content ≡ Some (with_files held product.files)
  pub printed : Appends before.out.content after.out.content product.line

-- unhindered, a run comes to its end
abbrev pub CompletesClause : List (List ℕ) → Moment → Moment → ℕ → Type 0
CompletesClause words before after status =
    (command : Command) (held : Held) (inputs : Inputs) → IsUnhindered words before after status command held inputs
    → Completes before after status command held inputs

-- a line by which a command of these words says what it found
abbrev pub IsLineOf : List (List ℕ) → ℕ → List ℕ → Type 0
IsLineOf words status line =
    (command : Command) × (finding : Finding) × Spells words command × IsFindingOf command finding
    × (status ≡ status_found finding) × (line ≡ printed_of finding)

-- after 0, 2 and 6 the line of what was found is printed; after 3 a first part of such a line may be; after 1, 4 and 5 nothing is
pub record OutputClause (words : List (List ℕ)) (before after : Device (List ℕ)) (status : ℕ) : Type 0 where
  pub done : IsDone status → (line : List ℕ) × IsLineOf words status line × Appends before.content after.content line
  pub failed : status ≡ 3 → (after ≡ before)
      ⊎ ((own : ℕ) × (line : List ℕ) × IsLineOf words own line × AppendsPrefix before.content after.content line
      × Rises before.faults after.faults)
  pub refused : IsRefused status → after ≡ before

-- what the shelf holds at the end: after 0, 2 and 6 what it held, with exactly the files of a product of the command set; after 3
-- what it held where a fetch failed, all those files where the output failed, and the files before the one whose store failed;
-- after 1, 4 and 5 what it held
pub record StoreClause (words : List (List ℕ)) (before after : Moment) (status : ℕ) : Type 0 where
  pub done : IsDone status → (product : Product) × IsMadeFor words before product × (status ≡ status_found product.finding)
      × Stores before.shelf after.shelf product.files
  pub failed : status ≡ 3 → (Untouched before after × Rises before.shelf.faults after.shelf.faults)
      ⊎ ((product : Product) × IsMadeFor words before product
      × (Delivers before after product Output ⊎ ((name : List ℕ) × Delivers before after product (Write name))))
  pub refused : IsRefused status → Untouched before after

-- `exchange MAPPING SOURCE TARGET`

-- some instant of the source has no solution
abbrev pub HasNoSolution : (ConstId → List ℕ) → RuleSet → List (StampedOf (FactOf (List ℕ))) → Type 0
HasNoSolution name rules source =
    (t : ℤ) × ((target : List (FactOf (List ℕ))) → ¬ (IsSolution name rules (snapshot_at source t) target))

-- the status is 0 and the mapping has a solution for the source at every instant, or it is 2 and some instant has none
abbrev pub StatusClause : List (List ℕ) → Moment → Moment → ℕ → Type 0
StatusClause words before after status =
    (origin : Origin) (target : List ℕ) (held : Held) (inputs : Inputs)
    → IsUnhindered words before after status (Exchange origin target) held inputs
    → ((status ≡ 0) × HasSolution (name_of inputs) inputs.mapping.rules (source_of inputs))
    ⊎ ((status ≡ 2) × HasNoSolution (name_of inputs) inputs.mapping.rules (source_of inputs))

-- after 0 the shelf holds what it held, with exactly the files of a solved exchange set: the target's tables are coalesced, and
-- at every instant they are a solution that maps into every solution
abbrev pub TargetClause : List (List ℕ) → Moment → Moment → ℕ → Type 0
TargetClause words before after status =
    (origin : Origin) (target : List ℕ) (held : Held) (inputs : Inputs)
    → IsUnhindered words before after status (Exchange origin target) held inputs → status ≡ 0
    → (files : SolvedFiles) × AreSolvedFiles inputs target files × (after.shelf.content ≡ Some (with_files held (in_order files)))

-- and the files of the answers are, in the order of the queries, coalesced, and cover at each instant exactly what is certain there
abbrev pub AnswersClause : List (List ℕ) → Moment → Moment → ℕ → Type 0
AnswersClause words before after status =
    (origin : Origin) (target : List ℕ) (held : Held) (inputs : Inputs)
    → IsUnhindered words before after status (Exchange origin target) held inputs → status ≡ 0
    → (files : SolvedFiles) × AreAnswerFiles inputs target files.answers × (after.shelf.content ≡ Some (with_files held (in_order files)))

-- and the printed numbers are those of a run behind the target's tables: of its pieces of the source, its firings, its steps and its cuts
abbrev pub CountsClause : List (List ℕ) → Moment → Moment → ℕ → Type 0
CountsClause words before after status =
    (origin : Origin) (target : List ℕ) (held : Held) (inputs : Inputs)
    → IsUnhindered words before after status (Exchange origin target) held inputs → status ≡ 0
    → (files : SolvedFiles) × (tables : List TargetTable) × AreTableFiles target inputs.mapping.rules.targets files.tables tables
    × (after.shelf.content ≡ Some (with_files held (in_order files)))
    × (pieces : ℕ) × (firings : ℕ) × (steps : ℕ) × (cuts : ℕ) × IsRunBehind inputs tables pieces firings steps cuts
    × Appends before.out.content after.out.content (printed_of (Solved pieces firings steps cuts))

-- after 2 the shelf holds what it held, with the verdict alone set: it is the text of a trace that the trace run accepts on the mapping
-- and the source, whose instant has no solution; the line with this instant is printed
abbrev pub CertificateClause : List (List ℕ) → Moment → Moment → ℕ → Type 0
CertificateClause words before after status =
    (origin : Origin) (target : List ℕ) (held : Held) (inputs : Inputs)
    → IsUnhindered words before after status (Exchange origin target) held inputs → status ≡ 2
    → (trace : Trace) × (file : FileOut) × IsCertificate inputs target trace file
    × (after.shelf.content ≡ Some (with_files held (file ∷ [])))
    × Appends before.out.content after.out.content (printed_of (NoSolution trace.instant))

-- `normalise MAPPING SOURCE OUT`

-- the status is 0, the shelf holds what it held, with exactly the files of the source in pieces set, and the line with the numbers of
-- facts and of pieces is printed
abbrev pub PiecesClause : List (List ℕ) → Moment → Moment → ℕ → Type 0
PiecesClause words before after status =
    (origin : Origin) (out : List ℕ) (held : Held) (inputs : Inputs)
    → IsUnhindered words before after status (Normalise origin out) held inputs
    → (files : List FileOut) × (facts : ℕ) × (pieces : ℕ) × ArePieceFiles inputs out files facts pieces × (status ≡ 0)
    × (after.shelf.content ≡ Some (with_files held files))
    × Appends before.out.content after.out.content (printed_of (Normalised facts pieces))

-- `snapshot MAPPING SOURCE INSTANT OUT`

-- the status is 0 and the mapping has a solution for the source at every instant; the shelf holds what it held, with exactly the files of a
-- snapshot at the instant set, and the line with the number of their rows is printed
pub record ShowsSnapshot (before after : Moment) (status : ℕ) (t : ℤ) (out : List ℕ) (held : Held) (inputs : Inputs) : Type 0 where
  pub answer : status ≡ 0
  pub solvable : HasSolution (name_of inputs) inputs.mapping.rules (source_of inputs)
  pub files : SnapshotFiles
  pub rows : ℕ
  pub each : AreSnapshotFiles inputs t out files rows
  pub stored : after.shelf.content ≡ Some (with_files held (shown_in_order files))
  pub printed : Appends before.out.content after.out.content (printed_of (Shown t rows))

-- the status is 2; the shelf holds what it held, with the verdict alone set: it is the text of a trace that the trace run accepts on the
-- mapping and the source, whose instant has no solution; the line with this instant is printed
pub record ShowsNone (before after : Moment) (status : ℕ) (out : List ℕ) (held : Held) (inputs : Inputs) : Type 0 where
  pub answer : status ≡ 2
  pub trace : Trace
  pub file : FileOut
  pub certificate : IsCertificate inputs out trace file
  pub stored : after.shelf.content ≡ Some (with_files held (file ∷ []))
  pub printed : Appends before.out.content after.out.content (printed_of (NoSolution trace.instant))

-- the target is shown at the instant, or there is none at some instant and a certificate is stored
abbrev pub SnapshotClause : List (List ℕ) → Moment → Moment → ℕ → Type 0
SnapshotClause words before after status =
    (origin : Origin) (t : ℤ) (out : List ℕ) (held : Held) (inputs : Inputs)
    → IsUnhindered words before after status (Snapshot origin t out) held inputs
    → ShowsSnapshot before after status t out held inputs
    ⊎ ShowsNone before after status out held inputs

-- `check MAPPING SOURCE TRACE`

-- the status is 0 exactly where the trace is accepted on what was read, and then its instant has no solution; else it is 6, and the line
-- names the first step that fails and the first part of the table by which it does. Nothing was stored
pub record ChecksTrace (before after : Moment) (status : ℕ) (inputs : Inputs) : Type 0 where
  pub trace : Trace
  pub read : inputs.trace ≡ Some trace
  pub exactly : (status ≡ 0) ↔ IsAccepted (name_of inputs) inputs.mapping.rules (source_of inputs) trace
  pub shows : status ≡ 0 → HasNoneAt inputs trace.instant
  pub accepted : status ≡ 0 → Appends before.out.content after.out.content (printed_of (Checked Accepted))
  pub refused : status ≢ 0 → (status ≡ 6) × (step : ℕ) × (why : Why)
      × TraceIsRefused (name_of inputs) inputs.mapping.rules (source_of inputs) trace step why
      × Appends before.out.content after.out.content (printed_of (Checked (Refused step why)))
  pub same : after.shelf.content ≡ before.shelf.content

abbrev pub CheckClause : List (List ℕ) → Moment → Moment → ℕ → Type 0
CheckClause words before after status =
    (origin : Origin) (name : List ℕ) (held : Held) (inputs : Inputs)
    → IsUnhindered words before after status (Check origin name) held inputs → ChecksTrace before after status inputs
