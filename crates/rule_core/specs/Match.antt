-- Matches of a body: a binding gives each variable a term, and `name` gives each constant of a rule its value.
use Rattle.std.specs.Prelude.{ℕ, List, map, All, Contains}
use Rattle.term_core.specs.declared.const_id.ConstId.{ConstId}
use Rattle.rule_core.specs.declared.rules.Arg.{Arg}
use Rattle.rule_core.specs.declared.rules.Arg.TheVariants.{Var, Const}
use Rattle.rule_core.specs.declared.rules.Atom.{Atom}
use Rattle.rule_core.specs.Terms.{TermOf, constant, FactOf}

module _ {C : Type 0} (name : ConstId → C) where
  -- what an argument stands for
  abbrev pub value : (ℕ → TermOf C) → Arg → TermOf C
  value binding (Var v) = binding v
  value binding (Const c) = constant (name c)

  -- the fact that an atom becomes, with as many terms as the atom has arguments
  abbrev pub image : (ℕ → TermOf C) → Atom → FactOf C
  image binding atom = record { relation = atom.relation; terms = map (value binding) atom.args }

  -- the image of each atom is in the instance
  abbrev pub Matches : (ℕ → TermOf C) → List Atom → List (FactOf C) → Type 0
  Matches binding atoms instance = All (λ atom. Contains instance (image binding atom)) atoms
