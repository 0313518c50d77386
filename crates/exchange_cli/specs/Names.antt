-- The names of files on a shelf.
use Rattle.std.specs.Prelude.{ℕ, List, ◌++◌, codes}

-- the table of a relation below a prefix
abbrev pub table_name : List ℕ → List ℕ → List ℕ
table_name prefix relation = prefix ++ codes "/" ++ relation ++ codes ".csv"

-- the verdict below a prefix
abbrev pub verdict_name : List ℕ → List ℕ
verdict_name prefix = prefix ++ codes "/verdict.txt"
