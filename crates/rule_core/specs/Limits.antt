-- The limits of a mapping: the most of each of its parts, and the longest name and constant in bytes.
use Rattle.std.specs.Prelude.{ℕ}

-- the relations of both sides together
abbrev pub most_relations : ℕ
most_relations = 64

-- the columns of a relation
abbrev pub most_columns : ℕ
most_columns = 16

abbrev pub most_tgds : ℕ
most_tgds = 256

abbrev pub most_egds : ℕ
most_egds = 256

abbrev pub most_queries : ℕ
most_queries = 64

-- the atoms of a body, a head or a disjunct
abbrev pub most_atoms : ℕ
most_atoms = 8

-- the variables of a tgd, an egd or a disjunct
abbrev pub most_variables : ℕ
most_variables = 32

-- the head variables of a query
abbrev pub most_head_variables : ℕ
most_head_variables = 16

-- the disjuncts of a query
abbrev pub most_disjuncts : ℕ
most_disjuncts = 8

-- the bytes of a name
abbrev pub longest_name : ℕ
longest_name = 64

-- the bytes of a constant in quotes
abbrev pub longest_constant : ℕ
longest_constant = 4096
