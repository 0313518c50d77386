-- What a valid rule names is there.
use Rattle.std.proofs.Common.{◌≡◌, ℕ, zero, suc, ◌<◌, ◌≤◌, All, List, [], ◌∷◌, length, get_or, refl, subst, arith, ⊎_elim}
use Rattle.std.specs.Prelude.{slice_get, IsSomeAnd, ⊤}
use Rattle.std.proofs.lemmas.Bool.{cases_lt}
use Rattle.rule_core.specs.declared.rules.Relation.{Relation}
use Rattle.rule_core.specs.declared.rules.Arg.{Arg}
use Rattle.rule_core.specs.declared.rules.Arg.TheVariants.{Var, Const}
use Rattle.rule_core.specs.declared.rules.Atom.{Atom}
use Rattle.rule_core.specs.declared.rules.Branch.{Branch}
use Rattle.rule_core.specs.Validity.{AreNumbered, occurrences, IsWithin, AreAtoms, IsBranch}
use Rattle.rule_core.proofs.NumberingLemmas.{occurrences_split, too_high}
use Rattle.rule_text.specs.Constants.{IsTextual, AreTextual}
use Rattle.rule_text.specs.Writable.{IsNamed, AreWritable}

-- a number at which something is found is within the list
pub within_found : {X : Type 0} (P : X → Type 0) (xs : List X) (k : ℕ) → IsSomeAnd (slice_get xs k) P → k < length xs
within_found P [] k found = absurd found
within_found P (x ∷ xs) zero found = omega arith
within_found P (x ∷ xs) (suc k) found = omega (arith, within_found P xs k found)

-- the arguments of atoms whose variables are numbered
pub numbered_within : (n : ℕ) (atoms : List Atom) → AreNumbered n (occurrences atoms) → All (λ atom. All (IsWithin n) atom.args) atoms
numbered_within n atoms numbered i b lt j d within = by_argument (get_or (get_or atoms i b).args j d) refl
  where
    by_argument : (arg : Arg) → get_or (get_or atoms i b).args j d ≡ arg → IsWithin n arg
    by_argument (Const c) e = tt
    by_argument (Var v) e =
        let split = occurrences_split atoms i b (get_or atoms i b) lt refl (get_or atoms i b).args refl j v d within e in
        ⊎_elim (λ (h : v < n). h)
        (λ (h : n ≤ v). absurd (too_high _ split.0 v n h (subst (AreNumbered n) split.1 numbered))) (cases_lt v n)

named_argument : (vars pool : List (List ℕ)) (n : ℕ) (arg : Arg) → n ≤ length vars → IsWithin n arg → IsTextual pool (λ text. ⊤) arg
    → IsNamed vars pool arg
named_argument vars pool n (Var v) fits within textual = omega arith
named_argument vars pool n (Const c) fits within textual = within_found (λ text. ⊤) pool c.0 textual

-- atoms over relations that are there, with arguments within the variables and constants with texts
pub atoms_writable : (relations : List Relation) (vars pool : List (List ℕ)) (n : ℕ) (atoms : List Atom) → AreAtoms relations atoms
    → n ≤ length vars → All (λ atom. All (IsWithin n) atom.args) atoms → AreTextual pool (λ text. ⊤) atoms
    → AreWritable relations vars pool atoms
atoms_writable relations vars pool n atoms are fits within textual k d lt = record {
  relation = within_found (λ (r : Relation). length (get_or atoms k d).args ≡ length r.columns) relations (get_or atoms k d).relation (are.fit k d lt);
  named = λ j e less. named_argument vars pool n (get_or (get_or atoms k d).args j e) fits (within k d lt j e less) (textual k d lt j e less);
}

pub branches_writable : (relations : List Relation) (pool head : List (List ℕ)) (branches : List Branch)
    → All (IsBranch relations head) branches → All (λ branch. AreTextual pool (λ text. ⊤) branch.body) branches
    → All (λ b. AreWritable relations b.vars pool b.body) branches
branches_writable relations pool head branches each textual k d lt =
    let branch = get_or branches k d in
    let valid = each k d lt in
    atoms_writable relations branch.vars pool (length branch.vars) branch.body valid.body (omega arith)
    (numbered_within (length branch.vars) branch.body valid.body_vars) (textual k d lt)
