-- How target tables become files.
use Rattle.std.proofs.Common.{List, [], ◌∷◌, ◌++◌, ◌<◌, refl, inr, codes, length, arith, All, ℕ}
use Rattle.std.proofs.lemmas.List.Elements.{All-nil, All-cons, All-append, All-weaker}
use Rattle.rule_core.specs.Names.{IsName}
use Rattle.rule_core.specs.declared.rules.Relation.{Relation}
use Rattle.temporal_csv.specs.Stored.{header_of, BeginsWithLetter}
use Rattle.exchange_cli.specs.Target.{TargetTable, IsTableFile, AreTableFiles}
use Rattle.exchange_cli.specs.declared.file.FileOut.{FileOut}

-- a header has the two columns of a span
pub header_some : (columns : List (List ℕ)) → 0 < length (header_of columns)
header_some [] = omega arith
header_some (c ∷ cs) = omega arith

-- names begin with letters, and so does each column of a header
pub letters_are : (columns : List (List ℕ)) → All IsName columns → All BeginsWithLetter (header_of columns)
letters_are columns names =
    All-append BeginsWithLetter columns (codes "start" ∷ codes "end" ∷ [])
    (All-weaker IsName BeginsWithLetter (λ text name. name.first) columns names)
    (All-cons BeginsWithLetter (codes "start") (codes "end" ∷ []) (inr (omega arith, omega arith))
    (All-cons BeginsWithLetter (codes "end") [] (inr (omega arith, omega arith)) (All-nil BeginsWithLetter)))

-- one more file
pub files_push : (prefix : List ℕ) (relations : List Relation) (files : List FileOut) (tables : List TargetTable)
    (r : Relation) (f : FileOut) (t : TargetTable)
    → AreTableFiles prefix relations files tables → IsTableFile prefix r f t
    → AreTableFiles prefix (relations ++ r ∷ []) (files ++ f ∷ []) (tables ++ t ∷ [])
files_push prefix [] [] [] r f t are file = (file, (refl, refl))
files_push prefix [] [] (u ∷ us) r f t are file = absurd (let bad = are.1 in cc)
files_push prefix [] (g ∷ gs) tables r f t are file = absurd (let bad = are.0 in cc)
files_push prefix (q ∷ qs) [] tables r f t are file = absurd are
files_push prefix (q ∷ qs) (g ∷ gs) [] r f t are file = absurd are
files_push prefix (q ∷ qs) (g ∷ gs) (u ∷ us) r f t are file = (are.0, files_push prefix qs gs us r f t are.1 file)
