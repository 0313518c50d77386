-- Variables as they come in turn: each is known, or the next one, where new ones may come.
use Rattle.std.proofs.Common.{◌≡◌, ◌⊎◌, inl, inr, ℕ, ◌+◌, ◌<◌, ◌≤◌, cond, All, List, [], ◌∷◌, ◌++◌, refl, sym, ap, ◌∙◌, subst, arith, append_assoc, append-nil, ⊎_elim}
use Rattle.std.specs.Prelude.{◌==◌}
use Rattle.std.proofs.lemmas.Bool.{cases_lt}
use Rattle.std.proofs.lemmas.Bool.Decides.{nat_tests}
use Rattle.std.proofs.lemmas.List.Elements.{All-nil, All-cons, All-append, All-head, All-tail, Contains-append_left}
use Rattle.rule_core.specs.declared.rules.Arg.{Arg}
use Rattle.rule_core.specs.declared.rules.Arg.TheVariants.{Var, Const}
use Rattle.rule_core.specs.declared.rules.Atom.{Atom}
use Rattle.rule_core.specs.Validity.{AreNumbered, variables_in, occurrences, IsWithin}
use Rattle.rule_core.proofs.NumberingLemmas.{numbered_none, numbered_old, numbered_new, gap_ahead, numbered_once}

-- how many variables are known after one more occurs, and after some more
abbrev pub next_known : ℕ → ℕ → ℕ
next_known k v = cond (v == k) (k + 1) k

abbrev pub known : ℕ → List ℕ → ℕ
known k [] = k
known k (v ∷ vs) = known (next_known k v) vs

pub next_same : (k v : ℕ) → v < k → next_known k v ≡ k
next_same k v lt = grind (arith, nat_tests)

pub next_more : (k v : ℕ) → v ≡ k → next_known k v ≡ k + 1
next_more k v e = grind (arith, nat_tests)

pub known-append : (k : ℕ) (vs ws : List ℕ) → known k (vs ++ ws) ≡ known (known k vs) ws
known-append k [] ws = refl
known-append k (v ∷ vs) ws = known-append (next_known k v) vs ws

pub variables_in-append : (xs ys : List Arg) → variables_in (xs ++ ys) ≡ variables_in xs ++ variables_in ys
variables_in-append [] ys = refl
variables_in-append (Var v ∷ xs) ys = ap (λ l. v ∷ l) (variables_in-append xs ys)
variables_in-append (Const c ∷ xs) ys = variables_in-append xs ys

pub occurrences-append : (xs ys : List Atom) → occurrences (xs ++ ys) ≡ occurrences xs ++ occurrences ys
occurrences-append [] ys = refl
occurrences-append (x ∷ xs) ys =
    ap (λ l. variables_in x.args ++ l) (occurrences-append xs ys) ∙ sym (append_assoc (variables_in x.args) (occurrences xs) (occurrences ys))

-- where a variable may stand that so many names are given and so many are known: it is known, or the next one
abbrev pub InTurn : Type 0 → ℕ → ℕ → ℕ → Type 0
InTurn Grows names k v = ((v < k) × (k ≤ names)) ⊎ (Grows × (v ≡ k) × (k < names))

abbrev pub Turns : Type 0 → ℕ → ℕ → List ℕ → Type 0
Turns Grows names k [] = Unit {0}
Turns Grows names k (v ∷ vs) = InTurn Grows names k v × Turns Grows names (next_known k v) vs

pub Turns-front : (Grows : Type 0) (names k : ℕ) (vs ws : List ℕ) → Turns Grows names k (vs ++ ws) → Turns Grows names k vs
Turns-front Grows names k [] ws turns = tt
Turns-front Grows names k (v ∷ vs) ws turns = (turns.0, Turns-front Grows names (next_known k v) vs ws turns.1)

pub Turns-back : (Grows : Type 0) (names k : ℕ) (vs ws : List ℕ) → Turns Grows names k (vs ++ ws) → Turns Grows names (known k vs) ws
Turns-back Grows names k [] ws turns = turns
Turns-back Grows names k (v ∷ vs) ws turns = Turns-back Grows names (next_known k v) vs ws turns.1

-- the turns of an argument after others, and of an atom after others
pub Turns-argument : (Grows : Type 0) (names k : ℕ) (done : List Arg) (arg : Arg) (more all : List Arg) → done ++ arg ∷ more ≡ all
    → Turns Grows names k (variables_in all) → Turns Grows names (known k (variables_in done)) (variables_in (arg ∷ []))
Turns-argument Grows names k done arg more all e turns =
    let split : variables_in all ≡ variables_in done ++ (variables_in (arg ∷ []) ++ variables_in more) =
    ap variables_in (sym e) ∙ variables_in-append done (arg ∷ more)
    ∙ ap (λ l. variables_in done ++ l) (variables_in-append (arg ∷ []) more) in
    Turns-front Grows names (known k (variables_in done)) (variables_in (arg ∷ [])) (variables_in more)
    (Turns-back Grows names k (variables_in done) (variables_in (arg ∷ []) ++ variables_in more)
    (subst (Turns Grows names k) split turns))

pub Turns-atom : (Grows : Type 0) (names k : ℕ) (done : List Atom) (atom : Atom) (more all : List Atom) → done ++ atom ∷ more ≡ all
    → Turns Grows names k (occurrences all) → Turns Grows names (known k (occurrences done)) (variables_in atom.args)
Turns-atom Grows names k done atom more all e turns =
    let split : occurrences all ≡ occurrences done ++ (variables_in atom.args ++ occurrences more) =
    ap occurrences (sym e) ∙ occurrences-append done (atom ∷ more) in
    Turns-front Grows names (known k (occurrences done)) (variables_in atom.args) (occurrences more)
    (Turns-back Grows names k (occurrences done) (variables_in atom.args ++ occurrences more)
    (subst (Turns Grows names k) split turns))

pub known-argument : (k : ℕ) (done : List Arg) (arg : Arg)
    → known (known k (variables_in done)) (variables_in (arg ∷ [])) ≡ known k (variables_in (done ++ arg ∷ []))
known-argument k done arg =
    sym (known-append k (variables_in done) (variables_in (arg ∷ []))) ∙ ap (known k) (sym (variables_in-append done (arg ∷ [])))

pub known-atom : (k : ℕ) (done : List Atom) (atom : Atom)
    → known (known k (occurrences done)) (variables_in atom.args) ≡ known k (occurrences (done ++ atom ∷ []))
known-atom k done atom =
    sym (known-append k (occurrences done) (variables_in atom.args))
    ∙ ap (λ l. known k (occurrences done ++ l)) (sym (append-nil (variables_in atom.args)))
    ∙ ap (known k) (sym (occurrences-append done (atom ∷ [])))

module _ (names n : ℕ) (fits : n ≤ names) where
  -- variables that are numbered by first occurrence come in turn, and in the end all are known
  abbrev InTurns : ℕ → List ℕ → Type 0
  InTurns k vs = Turns (Unit {0}) names k vs × (known k vs ≡ n)

  counted_front : (seen vs : List ℕ) (k : ℕ) → AreNumbered k seen → AreNumbered n (seen ++ vs) → k ≤ n
  counted_front seen vs k so_far all =
      ⊎_elim (λ (lt : n < k). absurd (omega (arith, (all.same n).0 (Contains-append_left seen vs n ((so_far.same n).1 lt)))))
      (λ (le : k ≤ n). le) (cases_lt n k)

  turns_from : (seen vs : List ℕ) (k : ℕ) → AreNumbered k seen → AreNumbered n (seen ++ vs) → InTurns k vs
  turns_from seen [] k so_far all = (tt, numbered_once k seen so_far n (subst (AreNumbered n) (append-nil seen) all))
  turns_from seen (v ∷ vs) k so_far all =
      let whole : AreNumbered n ((seen ++ v ∷ []) ++ vs) = subst (AreNumbered n) (sym (append_assoc seen (v ∷ []) vs)) all in
      let front = counted_front seen (v ∷ vs) k so_far all in
      ⊎_elim
      (λ (lt : v < k).
      let rest : InTurns (next_known k v) vs =
      subst (λ j. InTurns j vs) (sym (next_same k v lt)) (turns_from (seen ++ v ∷ []) vs k (numbered_old k seen so_far v lt) whole) in
      let turn : InTurn (Unit {0}) names k v = inl (lt, omega (arith, front, fits)) in
      ((turn, rest.0), rest.1))
      (λ (ge : k ≤ v).
      let same : v ≡ k = ⊎_elim (λ (lt : k < v). absurd (gap_ahead k seen so_far v n vs lt all)) (λ (le : v ≤ k). omega (arith, ge, le)) (cases_lt k v) in
      let rest : InTurns (next_known k v) vs =
      subst (λ j. InTurns j vs) (sym (next_more k v same)) (turns_from (seen ++ v ∷ []) vs (k + 1) (numbered_new k seen so_far v same) whole) in
      let within = counted_front (seen ++ v ∷ []) vs (k + 1) (numbered_new k seen so_far v same) whole in
      let turn : InTurn (Unit {0}) names k v = inr (tt, same, omega (arith, within, fits)) in
      ((turn, rest.0), rest.1))
      (cases_lt v k)

  pub numbered_turns : (vs : List ℕ) → AreNumbered n vs → InTurns 0 vs
  numbered_turns vs all = turns_from [] vs 0 numbered_none all

-- where all are known, each is known at its turn
pub within_turns : (Grows : Type 0) (n : ℕ) (vs : List ℕ) → All (λ v. v < n) vs → Turns Grows n n vs × (known n vs ≡ n)
within_turns Grows n [] all = (tt, refl)
within_turns Grows n (v ∷ vs) all =
    let lt = All-head (λ w. w < n) v vs all in
    let more = within_turns Grows n vs (All-tail (λ w. w < n) v vs all) in
    let rest : Turns Grows n (next_known n v) vs × (known (next_known n v) vs ≡ n) =
    subst (λ j. Turns Grows n j vs × (known j vs ≡ n)) (sym (next_same n v lt)) more in
    let turn : InTurn Grows n n v = inl (lt, omega arith) in
    ((turn, rest.0), rest.1)

-- the variables of arguments, and of atoms, that are among the first few
arguments_among : (n : ℕ) (args : List Arg) → All (IsWithin n) args → All (λ v. v < n) (variables_in args)
arguments_among n [] all = All-nil (λ v. v < n)
arguments_among n (Var v ∷ args) all =
    All-cons (λ v. v < n) v (variables_in args) (All-head (IsWithin n) (Var v) args all)
    (arguments_among n args (All-tail (IsWithin n) (Var v) args all))
arguments_among n (Const c ∷ args) all = arguments_among n args (All-tail (IsWithin n) (Const c) args all)

pub occurrences_among : (n : ℕ) (atoms : List Atom) → All (λ atom. All (IsWithin n) atom.args) atoms → All (λ v. v < n) (occurrences atoms)
occurrences_among n [] all = All-nil (λ v. v < n)
occurrences_among n (atom ∷ atoms) all =
    All-append (λ v. v < n) (variables_in atom.args) (occurrences atoms)
    (arguments_among n atom.args (All-head (λ (a : Atom). All (IsWithin n) a.args) atom atoms all))
    (occurrences_among n atoms (All-tail (λ (a : Atom). All (IsWithin n) a.args) atom atoms all))
