-- The frontier of a tgd as a list that is computed.
use Rattle.std.proofs.Common.{◌≡◌, ℕ, zero, suc, ◌+◌, ◌<◌, ◌≤◌, ◌==◌, true, List, [], ◌∷◌, length, get_or}
use Rattle.std.proofs.Common.{refl, sym, inl, inr, ⊎_elim, subst, arith, AllPairs, Contains}
use Rattle.std.specs.declared.cmp.Ordering.TheVariants.{Less}
use Rattle.std.specs.Ordering.{nat_cmp}
use Rattle.std.specs.Cmp.{nat_cmp_is}
use Rattle.std.specs.List.{range_with_len}
use Rattle.std.proofs.lemmas.Bool.{eqb-true, eq-eqb, cases_lt}
use Rattle.std.proofs.lemmas.Cmp.{nat_cmp_total}
use Rattle.std.proofs.lemmas.List.Elements.{Contains-append_left, Contains-append_right, Contains-append_cases}
use Rattle.std.proofs.lemmas.List.Kept.{AllPairs-filter}
use Rattle.std.proofs.lemmas.List.Folds.{list_any-from_Any}
use Rattle.std.proofs.lemmas.Map.Views.{Contains-from_any}
use Rattle.rule_core.specs.declared.rules.Arg.{Arg}
use Rattle.rule_core.specs.declared.rules.Arg.TheVariants.{Var, Const}
use Rattle.rule_core.specs.declared.rules.Atom.{Atom}
use Rattle.rule_core.specs.declared.rules.Tgd.{Tgd}
use Rattle.rule_core.specs.Frontier.{Occurs, IsFrontier}
use Rattle.rule_core.specs.Validity.{variables_in, occurrences}
use Rattle.rule_core.specs.Firing.{has_variable, frontier_of}
use Rattle.rule_core.proofs.ListLemmas.{Contains-head, Contains-cons, Contains-nil, Contains-cons_cases, Contains-filter, Contains-from_filter, AllPairs-nil, AllPairs-cons, AllPairs-weaker, IsStrict, same_strict_lists}

-- a range has the numbers from its start on
in_range : (a n v : ℕ) → a ≤ v → v < a + n → Contains (range_with_len a n) v
in_range a zero v h l = absurd (omega arith)
in_range a (suc n) v h l = ⊎_elim
    (λ (e : a ≡ v). subst (Contains (a ∷ range_with_len (a + 1) n)) e (Contains-head a (range_with_len (a + 1) n)))
    (λ (k : a + 1 ≤ v). Contains-cons a v (range_with_len (a + 1) n) (in_range (a + 1) n v k (omega arith)))
    (elim (cases_lt a v) [ inl l ↦ inr (omega arith) | inr g ↦ inl (omega arith) ])

from_range : (a n v : ℕ) → Contains (range_with_len a n) v → (a ≤ v) × (v < a + n)
from_range a zero v c = absurd (Contains-nil v c)
from_range a (suc n) v c = elim (Contains-cons_cases a v (range_with_len (a + 1) n) c) [
  | inl e ↦ (omega arith, omega arith)
  | inr d ↦ let k = from_range (a + 1) n v d in (omega (arith, k.0), omega (arith, k.1))
]

range_ascends : (a n : ℕ) → AllPairs (λ x y. x < y) (range_with_len a n)
range_ascends a zero = AllPairs-nil (λ x y. x < y)
range_ascends a (suc n) = AllPairs-cons (λ x y. x < y) a (range_with_len (a + 1) n)
    (λ y c. let k = from_range (a + 1) n y c in omega (arith, k.0)) (range_ascends (a + 1) n)

-- an argument is among the variables exactly where it is a variable of the list
among_variables : (args : List Arg) (v : ℕ) → Contains (variables_in args) v → Contains args (Var v)
among_variables [] v c = absurd (Contains-nil v c)
among_variables (Var w ∷ args) v c = elim (Contains-cons_cases w v (variables_in args) c) [
  | inl e ↦ subst (λ u. Contains (Var w ∷ args) (Var u)) e (Contains-head (Var w) args)
  | inr d ↦ Contains-cons (Var w) (Var v) args (among_variables args v d)
]
among_variables (Const k ∷ args) v c = Contains-cons (Const k) (Var v) args (among_variables args v c)

to_variables : (args : List Arg) (v : ℕ) → Contains args (Var v) → Contains (variables_in args) v
to_variables [] v c = absurd (Contains-nil (Var v) c)
to_variables (Var w ∷ args) v c = elim (Contains-cons_cases (Var w) (Var v) args c) [
  | inl e ↦ let same : w ≡ v = cc in
      subst (Contains (w ∷ variables_in args)) same (Contains-head w (variables_in args))
  | inr d ↦ Contains-cons w v (variables_in args) (to_variables args v d)
]
to_variables (Const k ∷ args) v c = elim (Contains-cons_cases (Const k) (Var v) args c) [
  | inl e ↦ absurd cc
  | inr d ↦ to_variables args v d
]

-- a variable occurs in atoms exactly where it is among their occurrences
pub occurs_from : (atoms : List Atom) (v : ℕ) → Contains (occurrences atoms) v → Occurs atoms v
occurs_from [] v c = absurd (Contains-nil v c)
occurs_from (atom ∷ atoms) v c = elim (Contains-append_cases (variables_in atom.args) (occurrences atoms) v c) [
  | inl d ↦ (0, atom, omega arith, refl, among_variables atom.args v d)
  | inr d ↦ let k = occurs_from atoms v d in (suc k.0, k.1, omega (arith, k.2), k.3, k.4)
]

pub occurs_to : (atoms : List Atom) (v : ℕ) → Occurs atoms v → Contains (occurrences atoms) v
occurs_to atoms v h = by atoms h.0 h.1 h.2 h.3 h.4
  where
    by : (atoms : List Atom) (k : ℕ) (atom : Atom) → k < length atoms → get_or atoms k atom ≡ atom → Contains atom.args (Var v)
        → Contains (occurrences atoms) v
    by [] k atom l e c = absurd (omega arith)
    by (a ∷ rest) zero atom l e c =
        Contains-append_left (variables_in a.args) (occurrences rest) v
        (to_variables a.args v (subst (λ (b : Atom). Contains b.args (Var v)) (sym e) c))
    by (a ∷ rest) (suc k) atom l e c =
        Contains-append_right (variables_in a.args) (occurrences rest) v (by rest k atom (omega arith) e c)

-- the test finds the variables that occur
pub occurs_is : (atoms : List Atom) (v : ℕ) → has_variable atoms v ≡ true → Occurs atoms v
occurs_is atoms v h = occurs_from atoms v (Contains-from_any eqb-true v (occurrences atoms) h)

pub is_occurs : (atoms : List Atom) (v : ℕ) → Occurs atoms v → has_variable atoms v ≡ true
is_occurs atoms v h =
    let c = occurs_to atoms v h in
    list_any-from_Any (λ w. v == w) (occurrences atoms)
    (c.0, v, c.1, c.2, eq-eqb v v refl)

pub frontier_is : (tgd : Tgd) → IsFrontier tgd (frontier_of tgd)
frontier_is tgd =
    let below = range_with_len 0 tgd.body_vars in
    record {
      same = λ v. (
        λ c. let k = Contains-from_filter (has_variable tgd.head) below v c in
            let r = from_range 0 tgd.body_vars v k.0 in
            (omega (arith, r.1), occurs_is tgd.head v k.1),
        λ h. Contains-filter (has_variable tgd.head) below v (in_range 0 tgd.body_vars v (omega arith) (omega (arith, h.0)))
            (is_occurs tgd.head v h.1),
      );
      ascending = AllPairs-filter (λ x y. x < y) (has_variable tgd.head) below (range_ascends 0 tgd.body_vars);
    }

pub one_frontier : (tgd : Tgd) (xs ys : List ℕ) → IsFrontier tgd xs → IsFrontier tgd ys → xs ≡ ys
one_frontier tgd xs ys f g =
    same_strict_lists nat_cmp nat_cmp_total xs ys (strict xs f.ascending) (strict ys g.ascending)
    (λ z c. (g.same z).1 ((f.same z).0 c)) (λ z c. (f.same z).1 ((g.same z).0 c))
  where
    strict : (zs : List ℕ) → AllPairs (λ x y. x < y) zs → IsStrict nat_cmp zs
    strict zs = AllPairs-weaker (λ x y. x < y) (λ x y. nat_cmp x y ≡ Less) (λ x y l. sym (nat_cmp_is x y Less l)) zs
