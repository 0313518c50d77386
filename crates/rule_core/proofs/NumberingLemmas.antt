-- Variables that are numbered by first occurrence, one occurrence after another.
use Rattle.std.proofs.Common.{◌≡◌, ℕ, ◌+◌, ◌<◌, ◌≤◌, List, [], ◌∷◌, ◌++◌, length, get_or, take, drop, suc, append_assoc, Some, refl, sym, ap, ◌∙◌, subst, arith, ⊎_elim, Contains}
use Rattle.std.specs.Prelude.{slice_get}
use Rattle.std.proofs.Math.ListN.{get_or-append}
use Rattle.std.proofs.Math.Seq.{get_or-append_seam, take-append_seam, drop-cons}
use Rattle.std.proofs.lemmas.Bool.{cases_lt}
use Rattle.std.proofs.lemmas.List.{append-nil, length-append, length_push, take-append-drop, take-append-le, take_more}
use Rattle.std.proofs.lemmas.List.Elements.{Contains-append_left, Contains-push, Contains-push_cases}
use Rattle.std.proofs.lemmas.Grind.{flat_map-append}
use Rattle.std.proofs.lemmas.Option.{slice_get-get_or, slice_get_within, get_or_from_slice_get}
use Rattle.rule_core.specs.declared.rules.Arg.{Arg}
use Rattle.rule_core.specs.declared.rules.Arg.TheVariants.{Var, Const}
use Rattle.rule_core.specs.declared.rules.Atom.{Atom}
use Rattle.rule_core.specs.Validity.{AreNumbered, variables_in, occurrences}

pub numbered_none : AreNumbered 0 []
numbered_none = record {
  same = λ v. (λ c. absurd (omega (arith, c.1)), λ lt. absurd (omega arith));
  order = λ k v w e lt. absurd (omega (arith, slice_get_within [] k v e));
}

module _ (n : ℕ) (xs : List ℕ) (h : AreNumbered n xs) where
  -- the order as one more variable occurs that is known, or the next one
  push_order : (u : ℕ) → u ≤ n → (k v w : ℕ) → slice_get (xs ++ u ∷ []) k ≡ Some v → w < v → Contains (take k (xs ++ u ∷ [])) w
  push_order u le k v w e lt =
      let within = slice_get_within (xs ++ u ∷ []) k v e in
      let value = get_or_from_slice_get (xs ++ u ∷ []) k v 0 e in
      ⊎_elim (λ before.
      let here : slice_get xs k ≡ Some v = slice_get-get_or xs k 0 before ∙ ap Some (sym (get_or-append xs (u ∷ []) 0 k before) ∙ value) in
      subst (λ l. Contains l w) (sym (take-append-le k xs (u ∷ []) (omega (arith, before)))) (h.order k v w here lt))
      (λ after.
      let last : k ≡ length xs = omega (arith, within, after, length_push xs u) in
      let same : u ≡ v = sym (get_or-append_seam xs u [] 0) ∙ ap (λ i. get_or (xs ++ u ∷ []) i 0) (sym last) ∙ value in
      subst (λ l. Contains l w) (sym (ap (λ i. take i (xs ++ u ∷ [])) last ∙ take-append_seam xs (u ∷ [])))
      ((h.same w).1 (omega (arith, lt, same, le))))
      (cases_lt k (length xs))

  pub numbered_old : (u : ℕ) → u < n → AreNumbered n (xs ++ u ∷ [])
  numbered_old u lt = record {
    same = λ v. (
      λ c. ⊎_elim (λ old. (h.same v).0 old) (λ e. omega (arith, e, lt)) (Contains-push_cases xs u v c),
      λ l. Contains-append_left xs (u ∷ []) v ((h.same v).1 l),
    );
    order = push_order u (omega (arith, lt));
  }

  pub numbered_new : (u : ℕ) → u ≡ n → AreNumbered (n + 1) (xs ++ u ∷ [])
  numbered_new u same = record {
    same = λ v. (
      λ c. ⊎_elim (λ old. omega (arith, (h.same v).0 old)) (λ e. omega (arith, e, same)) (Contains-push_cases xs u v c),
      λ l. ⊎_elim (λ lt. Contains-append_left xs (u ∷ []) v ((h.same v).1 lt))
          (λ ge. let e : u ≡ v = omega (arith, l, ge, same) in subst (Contains (xs ++ u ∷ [])) e (Contains-push xs u)) (cases_lt v n),
    );
    order = push_order u (omega (arith, same));
  }

  at_seam : (u : ℕ) (ys : List ℕ) → slice_get (xs ++ u ∷ ys) (length xs) ≡ Some u
  at_seam u ys =
      slice_get-get_or (xs ++ u ∷ ys) (length xs) 0 (simp length-append (omega arith)) ∙ ap Some (get_or-append_seam xs u ys 0)

  -- no list goes on with a variable behind the next one, or with one that is not counted
  pub gap_ahead : (u c : ℕ) (ys : List ℕ) → n < u → AreNumbered c (xs ++ u ∷ ys) → ⊥
  gap_ahead u c ys lt all =
      let before = subst (λ l. Contains l n) (take-append_seam xs (u ∷ ys)) (all.order (length xs) u n (at_seam u ys) lt) in
      absurd (omega (arith, (h.same n).0 before))

  pub numbered_once : (m : ℕ) → AreNumbered m xs → n ≡ m
  numbered_once m g =
      ⊎_elim (λ lt. absurd (omega (arith, (h.same n).0 ((g.same n).1 lt))))
      (λ ge. ⊎_elim (λ lt. absurd (omega (arith, (g.same m).0 ((h.same m).1 lt)))) (λ le. omega (arith, ge, le)) (cases_lt m n)) (cases_lt n m)

pub too_high : (xs ys : List ℕ) (u c : ℕ) → c ≤ u → AreNumbered c (xs ++ u ∷ ys) → ⊥
too_high xs ys u c le all = absurd (omega (arith, le, (all.same u).0 (length xs, simp length-append (omega arith), get_or-append_seam xs u ys u)))

pub variables_in-append : (xs ys : List Arg) → variables_in (xs ++ ys) ≡ variables_in xs ++ variables_in ys
variables_in-append [] ys = refl
variables_in-append (Var v ∷ xs) ys = ap (λ l. v ∷ l) (variables_in-append xs ys)
variables_in-append (Const c ∷ xs) ys = variables_in-append xs ys

pub occurrences-append : (xs ys : List Atom) → occurrences (xs ++ ys) ≡ occurrences xs ++ occurrences ys
occurrences-append xs ys = flat_map-append (λ (atom : Atom). variables_in atom.args) xs ys

-- what is read so far, with one more argument or one more atom
pub variables_more : (read : List ℕ) (args : List Arg) (j : ℕ) (d arg : Arg) → j < length args → get_or args j d ≡ arg
    → read ++ variables_in (take (j + 1) args) ≡ (read ++ variables_in (take j args)) ++ variables_in (arg ∷ [])
variables_more read args j d arg lt is =
    ap (λ l. read ++ variables_in l) (take_more args j d lt ∙ ap (λ (x : Arg). take j args ++ x ∷ []) is)
    ∙ ap (λ l. read ++ l) (variables_in-append (take j args) (arg ∷ []))
    ∙ sym (append_assoc read (variables_in (take j args)) (variables_in (arg ∷ [])))

pub occurrences_more : (atoms : List Atom) (i : ℕ) (d atom : Atom) → i < length atoms → get_or atoms i d ≡ atom
    → occurrences (take (i + 1) atoms) ≡ occurrences (take i atoms) ++ variables_in atom.args
occurrences_more atoms i d atom lt is =
    ap occurrences (take_more atoms i d lt ∙ ap (λ (x : Atom). take i atoms ++ x ∷ []) is)
    ∙ occurrences-append (take i atoms) (atom ∷ [])
    ∙ ap (λ l. occurrences (take i atoms) ++ l) (append-nil (variables_in atom.args))

split_at : {X : Type 0} (xs : List X) (i : ℕ) (d x : X) → i < length xs → get_or xs i d ≡ x → xs ≡ take i xs ++ x ∷ drop (suc i) xs
split_at xs i d x lt is =
    sym (take-append-drop i xs) ∙ ap (λ l. take i xs ++ l) (drop-cons xs i d lt ∙ ap (λ y. y ∷ drop (suc i) xs) is)

-- where a variable is an argument, all occurrences are what was read so far, and go on with it
pub occurrences_split : (atoms : List Atom) (i : ℕ) (b atom : Atom) → i < length atoms → get_or atoms i b ≡ atom
    → (args : List Arg) → args ≡ atom.args → (j v : ℕ) (d : Arg) → j < length args → get_or args j d ≡ Var v
    → (rest : List ℕ) × (occurrences atoms ≡ (occurrences (take i atoms) ++ variables_in (take j args)) ++ v ∷ rest)
occurrences_split atoms i b atom lt is args e j v d within here =
    let rest = drop (suc i) atoms in
    let after = drop (suc j) args in
    let args_are = ap variables_in (sym e ∙ split_at args j d (Var v) within here) ∙ variables_in-append (take j args) (Var v ∷ after) in
    let atoms_are = ap occurrences (split_at atoms i b atom lt is) ∙ occurrences-append (take i atoms) (atom ∷ rest) in (
      variables_in after ++ occurrences rest,
      atoms_are
          ∙ ap (λ l. occurrences (take i atoms) ++ (l ++ occurrences rest)) args_are
          ∙ ap (λ l. occurrences (take i atoms) ++ l) (append_assoc (variables_in (take j args)) (v ∷ variables_in after) (occurrences rest))
          ∙ sym (append_assoc (occurrences (take i atoms)) (variables_in (take j args)) (v ∷ (variables_in after ++ occurrences rest))),
    )
