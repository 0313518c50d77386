-- Terms as a checker has them. No public clause cites this module.
use Rattle.std.specs.Prelude.{ℕ, ◌<◌, List, length, All, ⊤}
use Rattle.rule_core.specs.declared.rules.Arg.{Arg}
use Rattle.rule_core.specs.declared.rules.Arg.TheVariants.{Var, Const}
use Rattle.rule_core.specs.declared.rules.Atom.{Atom}
use Rattle.rule_core.specs.Terms.{numbered, TermOf, constant, unknown}
use Rattle.rule_core.specs.Validity.{IsWithin}
use Rattle.trace_checker.specs.declared.name.Name.{Name}
use Rattle.trace_checker.specs.declared.name.Name.TheVariants.{Text, Number}

-- the constant with the text, or the unknown with the number
abbrev pub term_named : Name → TermOf (List ℕ)
term_named (Text text) = constant text.now
term_named (Number number) = unknown (numbered number)

-- the argument is a variable, or the pool has its constant
abbrev pub HasConstant : List (List ℕ) → Arg → Type 0
HasConstant pool (Var v) = ⊤
HasConstant pool (Const c) = c.0 < length pool

-- the arguments of the atom are among the first n variables, or constants of the pool
pub record IsKnown (pool : List (List ℕ)) (n : ℕ) (atom : Atom) : Type 0 where
  pub within : All (IsWithin n) atom.args
  pub there : All (HasConstant pool) atom.args

-- so are those of each atom
abbrev pub AreKnown : List (List ℕ) → ℕ → List Atom → Type 0
AreKnown pool n atoms = All (IsKnown pool n) atoms
