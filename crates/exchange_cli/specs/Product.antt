-- What each command makes of what it read: the files that it stores, in their order, the line that it prints, and what it
-- found, which gives its status.
use Rattle.std.specs.Prelude.{◌≡◌, ◌⊎◌, ℕ, ℤ, List, []}
use Rattle.trace_checker.specs.declared.verdict.Verdict.{Verdict}
use Rattle.exchange_cli.specs.Words.{Command, Exchange, Normalise, Snapshot, Check}
use Rattle.exchange_cli.specs.Inputs.{Inputs}
use Rattle.exchange_cli.specs.Files.{SolvedFiles, AreSolvedFiles, in_order}
use Rattle.exchange_cli.specs.RunBehind.{IsRunBehind}
use Rattle.exchange_cli.specs.Pieces.{ArePieceFiles}
use Rattle.exchange_cli.specs.Judged.{IsVerdictOf}
use Rattle.exchange_cli.specs.Certificate.{IsUnsolved}
use Rattle.exchange_cli.specs.Snapshot.{SnapshotFiles, AreSnapshotFiles, shown_in_order}
use Rattle.exchange_cli.specs.Endings.{status_found, printed_of}
use Rattle.exchange_cli.specs.declared.ending.Finding.{Finding}
use Rattle.exchange_cli.specs.declared.ending.Finding.TheVariants.{Solved, NoSolution, Normalised, Shown, Checked}
use Rattle.exchange_cli.specs.declared.product.Product.{Product}

-- the product is a solved exchange: the files of a target of the inputs, and the numbers of a run behind it
pub record IsSolved (inputs : Inputs) (prefix : List ℕ) (product : Product) : Type 0 where
  pub groups : SolvedFiles
  pub each : AreSolvedFiles inputs prefix groups
  pub files : product.files ≡ in_order groups
  pub pieces : ℕ
  pub firings : ℕ
  pub steps : ℕ
  pub cuts : ℕ
  pub counts : IsRunBehind inputs each.tables.tables pieces firings steps cuts
  pub found : product.finding ≡ Solved pieces firings steps cuts
  pub line : product.line ≡ printed_of product.finding

-- the product is a source in pieces: their files, and the numbers of facts and of pieces
pub record IsNormalisedSource (inputs : Inputs) (prefix : List ℕ) (product : Product) : Type 0 where
  pub facts : ℕ
  pub pieces : ℕ
  pub files : ArePieceFiles inputs prefix product.files facts pieces
  pub found : product.finding ≡ Normalised facts pieces
  pub line : product.line ≡ printed_of product.finding

-- the product is a target at one instant: the files of a snapshot of it, and the number of their rows
pub record IsShownTarget (inputs : Inputs) (t : ℤ) (prefix : List ℕ) (product : Product) : Type 0 where
  pub groups : SnapshotFiles
  pub rows : ℕ
  pub each : AreSnapshotFiles inputs t prefix groups rows
  pub files : product.files ≡ shown_in_order groups
  pub found : product.finding ≡ Shown t rows
  pub line : product.line ≡ printed_of product.finding

-- the product is the verdict on the trace that was read, and no file
pub record IsJudged (inputs : Inputs) (product : Product) : Type 0 where
  pub verdict : Verdict
  pub judges : IsVerdictOf inputs verdict
  pub files : product.files ≡ []
  pub found : product.finding ≡ Checked verdict
  pub line : product.line ≡ printed_of product.finding

-- what a command promises of what it makes
abbrev pub Makes : Command → Inputs → Product → Type 0
Makes (Exchange origin target) inputs product = IsSolved inputs target product ⊎ IsUnsolved inputs target product
Makes (Normalise origin out) inputs product = IsNormalisedSource inputs out product
Makes (Snapshot origin t out) inputs product = IsShownTarget inputs t out product ⊎ IsUnsolved inputs out product
Makes (Check origin trace) inputs product = IsJudged inputs product

-- what a command may find
abbrev pub IsFindingOf : Command → Finding → Type 0
IsFindingOf (Exchange origin target) finding =
    ((pieces : ℕ) × (firings : ℕ) × (steps : ℕ) × (cuts : ℕ) × (finding ≡ Solved pieces firings steps cuts))
    ⊎ ((instant : ℤ) × (finding ≡ NoSolution instant))
IsFindingOf (Normalise origin out) finding = (facts : ℕ) × (pieces : ℕ) × (finding ≡ Normalised facts pieces)
IsFindingOf (Snapshot origin t out) finding = ((rows : ℕ) × (finding ≡ Shown t rows)) ⊎ ((instant : ℤ) × (finding ≡ NoSolution instant))
IsFindingOf (Check origin trace) finding = (verdict : Verdict) × (finding ≡ Checked verdict)

-- a status with which the command may end where all was done
abbrev pub IsOwnStatus : Command → ℕ → Type 0
IsOwnStatus command status = (finding : Finding) × IsFindingOf command finding × (status ≡ status_found finding)
