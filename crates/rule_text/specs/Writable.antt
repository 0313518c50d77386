-- What can be written: relations, variables and constants that are there. No public clause cites this module.
use Rattle.std.specs.Prelude.{ℕ, ◌<◌, List, length, All}
use Rattle.rule_core.specs.declared.rules.Relation.{Relation}
use Rattle.rule_core.specs.declared.rules.Arg.{Arg}
use Rattle.rule_core.specs.declared.rules.Arg.TheVariants.{Var, Const}
use Rattle.rule_core.specs.declared.rules.Atom.{Atom}

-- a variable with a name, or a constant with a text
abbrev pub IsNamed : List (List ℕ) → List (List ℕ) → Arg → Type 0
IsNamed vars pool (Var v) = v < length vars
IsNamed vars pool (Const c) = c.0 < length pool

-- an atom whose relation and arguments are there
pub record IsWritable (relations : List Relation) (vars pool : List (List ℕ)) (atom : Atom) : Type 0 where
  pub relation : atom.relation < length relations
  pub named : All (IsNamed vars pool) atom.args

-- and so each atom
abbrev pub AreWritable : List Relation → List (List ℕ) → List (List ℕ) → List Atom → Type 0
AreWritable relations vars pool atoms = All (IsWritable relations vars pool) atoms
