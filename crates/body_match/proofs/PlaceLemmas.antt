-- Where variables occur.
use Rattle.std.proofs.Common.{◌≡◌, inl, inr, ℕ, zero, suc, Some, List, [], ◌∷◌, refl, sym, subst, Contains}
use Rattle.std.specs.Prelude.{slice_get}
use Rattle.std.proofs.lemmas.List.Elements.{Contains-append_left, Contains-append_right, Contains-append_cases}
use Rattle.rule_core.specs.declared.rules.Arg.{Arg}
use Rattle.rule_core.specs.declared.rules.Arg.TheVariants.{Var, Const}
use Rattle.rule_core.specs.declared.rules.Atom.{Atom}
use Rattle.rule_core.specs.Validity.{variables_in, occurrences}
use Rattle.rule_core.proofs.ListLemmas.{Contains-head, Contains-cons, Contains-cons_cases, Contains-nil}

-- a variable among arguments is one of them
pub argument_from_variables : (args : List Arg) (v : ℕ) → Contains (variables_in args) v → Contains args (Var v)
argument_from_variables [] v c = absurd (Contains-nil v c)
argument_from_variables (Var w ∷ args) v c = elim (Contains-cons_cases w v (variables_in args) c) [
  | inl e ↦ subst (λ u. Contains (Var w ∷ args) (Var u)) e (Contains-head (Var w) args)
  | inr d ↦ Contains-cons (Var w) (Var v) args (argument_from_variables args v d)
]
argument_from_variables (Const a ∷ args) v c = Contains-cons (Const a) (Var v) args (argument_from_variables args v c)

pub variable_from_argument : (args : List Arg) (v : ℕ) → Contains args (Var v) → Contains (variables_in args) v
variable_from_argument [] v c = absurd (Contains-nil (Var v) c)
variable_from_argument (Var w ∷ args) v c = elim (Contains-cons_cases (Var w) (Var v) args c) [
  | inl e ↦ let same : w ≡ v = cc in subst (Contains (w ∷ variables_in args)) same (Contains-head w (variables_in args))
  | inr d ↦ Contains-cons w v (variables_in args) (variable_from_argument args v d)
]
variable_from_argument (Const a ∷ args) v c = elim (Contains-cons_cases (Const a) (Var v) args c) [
  | inl e ↦ absurd cc
  | inr d ↦ variable_from_argument args v d
]

-- a variable that occurs is an argument of an atom
pub atom_from_occurs : (body : List Atom) (v : ℕ) → Contains (occurrences body) v
    → (k : ℕ) × (atom : Atom) × (slice_get body k ≡ Some atom) × Contains atom.args (Var v)
atom_from_occurs [] v c = absurd (Contains-nil v c)
atom_from_occurs (atom ∷ body) v c = elim (Contains-append_cases (variables_in atom.args) (occurrences body) v c) [
  | inl d ↦ (0, atom, refl, argument_from_variables atom.args v d)
  | inr d ↦ let h = atom_from_occurs body v d in (suc h.0, h.1, h.2, h.3)
]

pub occurs_from_atom : (body : List Atom) (v k : ℕ) (atom : Atom) → slice_get body k ≡ Some atom → Contains atom.args (Var v)
    → Contains (occurrences body) v
occurs_from_atom [] v k atom e c = absurd cc
occurs_from_atom (first ∷ body) v zero atom e c =
    let same : first ≡ atom = cc in
    Contains-append_left (variables_in first.args) (occurrences body) v
    (variable_from_argument first.args v (subst (λ (a : Atom). Contains a.args (Var v)) (sym same) c))
occurs_from_atom (first ∷ body) v (suc k) atom e c =
    Contains-append_right (variables_in first.args) (occurrences body) v (occurs_from_atom body v k atom e c)
