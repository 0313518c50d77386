-- What holds of the atoms and variables of a line as far as they are said, with one more of either.
use Rattle.std.proofs.Common.{◌≡◌, ⊎_elim, ℕ, zero, suc, ◌+◌, ◌<◌, ◌≤◌, List, [], ◌∷◌, ◌++◌, length, append_assoc, All, Contains, refl, sym, ap, ◌∙◌, subst, arith}
use Rattle.std.specs.Prelude.{slice_get, slice_index_or, IsSomeAnd}
use Rattle.std.proofs.lemmas.Bool.{cases_lt}
use Rattle.std.proofs.lemmas.List.{append-nil, length_push}
use Rattle.std.proofs.lemmas.List.Elements.{All-nil, All-push}
use Rattle.std.proofs.lemmas.Option.{slice_get_within, get_or_from_slice_get}
use Rattle.std.proofs.Math.ListN.{get_or-append}
use Rattle.term_core.specs.declared.const_id.ConstId.{ConstId}
use Rattle.rule_core.specs.declared.rules.Relation.{Relation}
use Rattle.rule_core.specs.declared.rules.Arg.{Arg}
use Rattle.rule_core.specs.declared.rules.Arg.TheVariants.{Var, Const}
use Rattle.rule_core.specs.declared.rules.Atom.{Atom}
use Rattle.rule_core.specs.Names.{IsName}
use Rattle.rule_core.specs.Validity.{AreNumbered, variables_in, occurrences, IsWithin, FitsRelation, AreAtoms, AreVariables, IsBranch}
use Rattle.rule_core.proofs.NumberingLemmas.{numbered_none, numbered_old, numbered_new, variables_in-append, occurrences-append}
use Rattle.decl_text.proofs.FitLemmas.{no_names, names_more}
use Rattle.rule_text.specs.RuleLine.{Said, nothing_said, OpenAtom, with_atom, with_variable, IsFirstAt, AreColumns}

pub first_within : (names : List (List ℕ)) (name : List ℕ) (place : ℕ) → IsFirstAt names name place → place < length names
first_within names name place first = slice_get_within names place name first.there

-- a new name stands first as the last
pub first_of_new : (names : List (List ℕ)) (name : List ℕ) (place : ℕ) → ¬ Contains names name → IsFirstAt (names ++ name ∷ []) name place
    → place ≡ length names
first_of_new names name place new first =
    let within = first_within (names ++ name ∷ []) name place first in
    ⊎_elim
    (λ lt. absurd (new (
      place,
      lt,
      sym (get_or-append names (name ∷ []) name place lt)
          ∙ get_or_from_slice_get (names ++ name ∷ []) place name name first.there,
    )))
    (λ ge. omega (arith, ge, within, length_push names name))
    (cases_lt place (length names))

pub no_variables : AreVariables []
no_variables = record { most = omega arith; names = no_names.each; distinct = no_names.distinct }

pub variables_more : (vars : List (List ℕ)) (name : List ℕ) → AreVariables vars → IsName name → ¬ Contains vars name → length vars < 32
    → AreVariables (vars ++ name ∷ [])
variables_more vars name h is new fewer =
    let more = names_more vars name (record { each = h.names; distinct = h.distinct }) is new in
    record { most = omega (arith, fewer, length_push vars name); names = more.each; distinct = more.distinct }

-- one more argument of the atom that isn't closed
args_more : (atoms : List Atom) (args : List Arg) (arg : Arg)
    → occurrences atoms ++ variables_in (args ++ arg ∷ []) ≡ (occurrences atoms ++ variables_in args) ++ variables_in (arg ∷ [])
args_more atoms args arg =
    ap (λ l. occurrences atoms ++ l) (variables_in-append args (arg ∷ []))
    ∙ sym (append_assoc (occurrences atoms) (variables_in args) (variables_in (arg ∷ [])))

-- and the atom closed
atoms_more : (atoms : List Atom) (atom : Atom) → occurrences (atoms ++ atom ∷ []) ++ [] ≡ occurrences atoms ++ variables_in atom.args
atoms_more atoms atom =
    append-nil (occurrences (atoms ++ atom ∷ [])) ∙ occurrences-append atoms (atom ∷ [])
    ∙ ap (λ l. occurrences atoms ++ l) (append-nil (variables_in atom.args))

-- the atom has so many arguments at most, and its relation so many columns
abbrev pub FitsWidth : List Relation → OpenAtom → Type 0
FitsWidth relations atom = IsSomeAnd (slice_get relations atom.relation) (λ r. atom.width ≡ length r.columns)

abbrev pub closed : OpenAtom → Atom
closed atom = record { relation = atom.relation; args = atom.args }

closed_fits : (relations : List Relation) (atom : OpenAtom) → FitsWidth relations atom → length atom.args ≡ atom.width
    → FitsRelation relations (closed atom)
closed_fits relations atom fits whole =
    subst (λ n. IsSomeAnd (slice_get relations atom.relation) (λ r. n ≡ length r.columns)) (sym whole) fits

-- a body as far as it is said, with the arguments of the atom that isn't closed: its variables are numbered as they come
pub record BodyFits (relations : List Relation) (said : Said) (args : List Arg) : Type 0 where
  pub vars : AreVariables said.vars
  pub fit : All (FitsRelation relations) said.atoms
  pub most : length said.atoms ≤ 8
  pub numbered : AreNumbered (length said.vars) (occurrences said.atoms ++ variables_in args)

module _ (relations : List Relation) where
  pub body_none : BodyFits relations nothing_said []
  body_none = record { vars = no_variables; fit = All-nil (FitsRelation relations); most = omega arith; numbered = numbered_none }

  pub body_known : (said : Said) (args : List Arg) (name : List ℕ) (v : ℕ) → BodyFits relations said args → IsFirstAt said.vars name v
      → BodyFits relations said (args ++ Var v ∷ [])
  body_known said args name v h first = record {
    vars = h.vars;
    fit = h.fit;
    most = h.most;
    numbered = subst (AreNumbered (length said.vars)) (sym (args_more said.atoms args (Var v)))
        (numbered_old (length said.vars) (occurrences said.atoms ++ variables_in args) h.numbered v (first_within said.vars name v first));
  }

  pub body_new : (said : Said) (args : List Arg) (name : List ℕ) (v : ℕ) → BodyFits relations said args → IsName name
      → ¬ Contains said.vars name → length said.vars < 32 → IsFirstAt (said.vars ++ name ∷ []) name v
      → BodyFits relations (with_variable said name) (args ++ Var v ∷ [])
  body_new said args name v h is new fewer first = record {
    vars = variables_more said.vars name h.vars is new fewer;
    fit = h.fit;
    most = h.most;
    numbered = subst (λ n. AreNumbered n (occurrences said.atoms ++ variables_in (args ++ Var v ∷ []))) (sym (length_push said.vars name))
        (subst (AreNumbered (length said.vars + 1)) (sym (args_more said.atoms args (Var v)))
        (numbered_new (length said.vars) (occurrences said.atoms ++ variables_in args) h.numbered v
        (first_of_new said.vars name v new first)));
  }

  pub body_constant : (said : Said) (args : List Arg) (c : ConstId) → BodyFits relations said args
      → BodyFits relations said (args ++ Const c ∷ [])
  body_constant said args c h = record {
    vars = h.vars;
    fit = h.fit;
    most = h.most;
    numbered = subst (AreNumbered (length said.vars))
        (sym (args_more said.atoms args (Const c) ∙ append-nil (occurrences said.atoms ++ variables_in args))) h.numbered;
  }

  pub body_closed : (said : Said) (atom : OpenAtom) → BodyFits relations said atom.args → FitsWidth relations atom
      → length atom.args ≡ atom.width → length said.atoms < 8 → BodyFits relations (with_atom said atom) []
  body_closed said atom h fits whole fewer = record {
    vars = h.vars;
    fit = All-push (FitsRelation relations) said.atoms (closed atom) h.fit (closed_fits relations atom fits whole);
    most = omega (arith, fewer, length_push said.atoms (closed atom));
    numbered = subst (AreNumbered (length said.vars)) (sym (atoms_more said.atoms (closed atom))) h.numbered;
  }

  pub body_atoms : (said : Said) → BodyFits relations said [] → 1 ≤ length said.atoms → AreAtoms relations said.atoms
  body_atoms said h some = record { some = some; most = h.most; fit = h.fit }

  pub body_numbered : (said : Said) → BodyFits relations said [] → AreNumbered (length said.vars) (occurrences said.atoms)
  body_numbered said h = subst (AreNumbered (length said.vars)) (append-nil (occurrences said.atoms)) h.numbered

-- a head as far as it is said: it has no other variables than those before it
pub record HeadFits (relations : List Relation) (body_vars : ℕ) (said : Said) (args : List Arg) : Type 0 where
  pub vars : AreVariables said.vars
  pub within : body_vars ≤ length said.vars
  pub fit : All (FitsRelation relations) said.atoms
  pub most : length said.atoms ≤ 8
  pub safe : All (λ atom. All (IsWithin (length said.vars)) atom.args) said.atoms
  pub pending : All (IsWithin (length said.vars)) args

module _ (relations : List Relation) (body_vars : ℕ) where
  pub head_none : (vars : List (List ℕ)) → AreVariables vars → body_vars ≤ length vars
      → HeadFits relations body_vars (record { vars = vars; atoms = [] }) []
  head_none vars h within = record {
    vars = h;
    within = within;
    fit = All-nil (FitsRelation relations);
    most = omega arith;
    safe = All-nil (λ atom. All (IsWithin (length vars)) atom.args);
    pending = All-nil (IsWithin (length vars));
  }

  pub head_argument : (said : Said) (args : List Arg) (arg : Arg) → HeadFits relations body_vars said args → IsWithin (length said.vars) arg
      → HeadFits relations body_vars said (args ++ arg ∷ [])
  head_argument said args arg h fits = record {
    vars = h.vars;
    within = h.within;
    fit = h.fit;
    most = h.most;
    safe = h.safe;
    pending = All-push (IsWithin (length said.vars)) args arg h.pending fits;
  }

  pub head_closed : (said : Said) (atom : OpenAtom) → HeadFits relations body_vars said atom.args → FitsWidth relations atom
      → length atom.args ≡ atom.width → length said.atoms < 8 → HeadFits relations body_vars (with_atom said atom) []
  head_closed said atom h fits whole fewer = record {
    vars = h.vars;
    within = h.within;
    fit = All-push (FitsRelation relations) said.atoms (closed atom) h.fit (closed_fits relations atom fits whole);
    most = omega (arith, fewer, length_push said.atoms (closed atom));
    safe = All-push (λ a. All (IsWithin (length said.vars)) a.args) said.atoms (closed atom) h.safe h.pending;
    pending = All-nil (IsWithin (length said.vars));
  }

  pub head_atoms : (said : Said) → HeadFits relations body_vars said [] → 1 ≤ length said.atoms → AreAtoms relations said.atoms
  head_atoms said h some = record { some = some; most = h.most; fit = h.fit }

-- the columns of a disjunct are its variables of the head's names
columns_length : (vars head : List (List ℕ)) (columns : List ℕ) → AreColumns vars head columns → length columns ≡ length head
columns_length vars [] [] h = refl
columns_length vars [] (y ∷ ys) h = absurd h
columns_length vars (x ∷ xs) [] h = absurd h
columns_length vars (x ∷ xs) (y ∷ ys) h = let rest = columns_length vars xs ys h.1 in omega arith

columns_named : (vars head : List (List ℕ)) (columns : List ℕ) → AreColumns vars head columns → (k : ℕ) → k < length head
    → slice_get vars (slice_index_or columns k 0) ≡ slice_get head k
columns_named vars [] columns h k lt = absurd (omega (arith, lt))
columns_named vars (x ∷ xs) [] h k lt = absurd h
columns_named vars (x ∷ xs) (y ∷ ys) h zero lt = h.0.there
columns_named vars (x ∷ xs) (y ∷ ys) h (suc k) lt = columns_named vars xs ys h.1 k (omega (arith, lt))

pub branch_fits : (relations : List Relation) (head : List (List ℕ)) (said : Said) (columns : List ℕ) → BodyFits relations said []
    → 1 ≤ length said.atoms → AreColumns said.vars head columns
    → IsBranch relations head (record { vars = said.vars; body = said.atoms; columns = columns })
branch_fits relations head said columns h some named = record {
  vars = h.vars;
  body = body_atoms relations said h some;
  body_vars = body_numbered relations said h;
  arity = columns_length said.vars head columns named;
  columns = columns_named said.vars head columns named;
}
