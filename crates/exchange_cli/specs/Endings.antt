-- The status and the lines of each ending.
use Rattle.std.specs.Prelude.{◌≡◌, ◌⊎◌, ℕ, List, [], ◌∷◌, ◌++◌, codes}
use Rattle.std.specs.Fmt.{decimal, signed_decimal}
use Rattle.exchange_cli.specs.declared.ending.Finding.{Finding}
use Rattle.exchange_cli.specs.declared.ending.Finding.TheVariants.{Solved, NoSolution, Normalised, Shown, Checked}
use Rattle.exchange_cli.specs.declared.ending.Ending.{Ending}
use Rattle.exchange_cli.specs.declared.ending.Ending.TheVariants.{Done, Words, Missing, TooLong, Mapping, Table, Trace, Read, Write, Output, Memory}
use Rattle.exchange_cli.specs.FaultTexts.{mapping_fault, table_fault}
use Rattle.exchange_cli.specs.VerdictTexts.{trace_fault, verdict_text, status_judged}

-- the answer of the program where all was done, by what was found
abbrev pub status_found : Finding → ℕ
status_found (Solved pieces firings steps cuts) = 0
status_found (NoSolution instant) = 2
status_found (Normalised facts pieces) = 0
status_found (Shown instant rows) = 0
status_found (Checked verdict) = status_judged verdict

-- the answer of the program
abbrev pub status_of : Ending → ℕ
status_of (Done finding) = status_found finding
status_of Words = 5
status_of (Missing name) = 1
status_of (TooLong name) = 1
status_of (Mapping fault) = 1
status_of (Table name fault) = 1
status_of (Trace fault) = 1
status_of (Read name) = 3
status_of (Write name) = 3
status_of Output = 3
status_of Memory = 4

-- the statuses of a run that came to its end: it is done, some instant has no solution, or a trace isn't accepted
abbrev pub IsDone : ℕ → Type 0
IsDone status = (status ≡ 0) ⊎ ((status ≡ 2) ⊎ (status ≡ 6))

-- the statuses of a run that was refused, or for which there was no memory
abbrev pub IsRefused : ℕ → Type 0
IsRefused status = (status ≡ 1) ⊎ ((status ≡ 4) ⊎ (status ≡ 5))

-- a text as a line
abbrev pub line : List ℕ → List ℕ
line text = text ++ 10 ∷ []

-- what the verdict of a solved exchange holds
abbrev pub solved : List ℕ
solved = line (codes "solved")

-- what is printed on the standard output, by what was found
abbrev pub printed_of : Finding → List ℕ
printed_of (Solved pieces firings steps cuts) =
    line (codes "solved: " ++ decimal pieces ++ codes " source pieces, " ++ decimal firings ++ codes " firings, "
    ++ decimal steps ++ codes " steps, " ++ decimal cuts ++ codes " cuts")
printed_of (NoSolution instant) = line (codes "no solution at instant " ++ signed_decimal instant)
printed_of (Normalised facts pieces) =
    line (codes "normalised: " ++ decimal facts ++ codes " facts, " ++ decimal pieces ++ codes " pieces")
printed_of (Shown instant rows) =
    line (codes "snapshot at " ++ signed_decimal instant ++ codes ": " ++ decimal rows ++ codes " rows")
printed_of (Checked verdict) = line (verdict_text verdict)

-- what is said of an ending on the standard error
abbrev pub line_of : Ending → List ℕ
line_of (Done finding) = []
line_of Words = line (codes "refused: words")
line_of (Missing name) = line (codes "refused: missing " ++ name)
line_of (TooLong name) = line (codes "refused: too long " ++ name)
line_of (Mapping fault) = line (codes "refused: mapping " ++ mapping_fault fault)
line_of (Table name fault) = line (codes "refused: table " ++ name ++ codes " " ++ table_fault fault)
line_of (Trace fault) = line (codes "refused: trace " ++ trace_fault fault)
line_of (Read name) = line (codes "fault: read " ++ name)
line_of (Write name) = line (codes "fault: write " ++ name)
line_of Output = line (codes "fault: output")
line_of Memory = line (codes "fault: memory")
