-- The frontier of a tgd: the variables of its body that its head needs.
use Rattle.std.specs.Prelude.{◌↔◌, ℕ, ◌<◌, List, AllPairs, Any, Contains}
use Rattle.rule_core.specs.declared.rules.Arg.TheVariants.{Var}
use Rattle.rule_core.specs.declared.rules.Atom.{Atom}
use Rattle.rule_core.specs.declared.rules.Tgd.{Tgd}

-- the variable is an argument of one of the atoms
abbrev pub Occurs : List Atom → ℕ → Type 0
Occurs atoms v = Any (λ atom. Contains atom.args (Var v)) atoms

-- the body's variables that occur in the head, ascending
pub record IsFrontier (tgd : Tgd) (variables : List ℕ) : Type 0 where
  pub same : (v : ℕ) → Contains variables v ↔ ((v < tgd.body_vars) × Occurs tgd.head v)
  pub ascending : AllPairs (λ a b. a < b) variables
