-- The orders of constants' numbers, of unknowns and of terms are total, and tell any two apart.
use Rattle.std.proofs.Common.{◌≡◌, ℕ, List, [], ◌∷◌, refl, ap, ◌∙◌, subst}
use Rattle.std.specs.declared.cmp.Ordering.{Ordering}
use Rattle.std.specs.declared.cmp.Ordering.TheVariants.{Less, Equal, Greater}
use Rattle.std.specs.Cmp.{IsTotalOrder}
use Rattle.std.specs.FinMap.{IsAntisymmetric, nat_cmp-IsAntisymmetric, slice_cmp-IsAntisymmetric}
use Rattle.std.specs.Cmp.Lexicographic.{slice_cmp}
use Rattle.std.specs.Ordering.{ordering_then, nat_cmp, on, then_cmp}
use Rattle.std.proofs.lemmas.Cmp.{then_total, on_total, lists_total, nat_cmp_total}
use Rattle.term_core.specs.declared.const_id.ConstId.{ConstId}
use Rattle.term_core.specs.declared.term.Unknown.{Unknown}
use Rattle.term_core.specs.declared.term.Term.{Term}
use Rattle.term_core.specs.declared.term.Term.TheVariants.{Const, Null}
use Rattle.term_core.specs.Order.{id_cmp, unknown_cmp, term_cmp}

pub id_cmp-total : IsTotalOrder id_cmp
id_cmp-total = on_total (λ (c : ConstId). c.0) nat_cmp_total

pub id_cmp-IsAntisymmetric : IsAntisymmetric id_cmp
id_cmp-IsAntisymmetric c d e = λ i. record { 0 = nat_cmp-IsAntisymmetric c.0 d.0 e i }

pub unknown_cmp-total : IsTotalOrder unknown_cmp
unknown_cmp-total =
    then_total (on_total (λ (u : Unknown). u.rule) nat_cmp_total)
    (then_total (on_total (λ (u : Unknown). u.frontier) (lists_total id_cmp-total)) (on_total (λ (u : Unknown). u.var) nat_cmp_total))

-- where both parts of a comparison tie
then_ties : (r s : Ordering) → ordering_then r s ≡ Equal → (r ≡ Equal) × (s ≡ Equal)
then_ties Less s e = absurd cc
then_ties Equal s e = (refl, e)
then_ties Greater s e = absurd cc

pub unknown_cmp-IsAntisymmetric : IsAntisymmetric unknown_cmp
unknown_cmp-IsAntisymmetric u w e =
    let p = then_ties (nat_cmp u.rule w.rule) (ordering_then (slice_cmp id_cmp u.frontier w.frontier) (nat_cmp u.var w.var)) e in
    let q = then_ties (slice_cmp id_cmp u.frontier w.frontier) (nat_cmp u.var w.var) p.1 in
    λ i. record {
      rule = nat_cmp-IsAntisymmetric u.rule w.rule p.0 i;
      frontier = slice_cmp-IsAntisymmetric id_cmp-IsAntisymmetric u.frontier w.frontier q.0 i;
      var = nat_cmp-IsAntisymmetric u.var w.var q.1 i;
    }

-- a term by its parts, which are compared in turn
abbrev kind_of : Term → ℕ
kind_of (Const c) = 0
kind_of (Null u) = 1

abbrev constants_of : Term → List ConstId
constants_of (Const c) = c ∷ []
constants_of (Null u) = []

abbrev unknowns_of : Term → List Unknown
unknowns_of (Const c) = []
unknowns_of (Null u) = u ∷ []

abbrev parts_cmp : Term → Term → Ordering
parts_cmp = then_cmp (on kind_of nat_cmp) (then_cmp (on constants_of (slice_cmp id_cmp)) (on unknowns_of (slice_cmp unknown_cmp)))

then_Equal : (r : Ordering) → ordering_then r Equal ≡ r
then_Equal Less = refl
then_Equal Equal = refl
then_Equal Greater = refl

parts_decide : (a b : Term) → parts_cmp a b ≡ term_cmp a b
parts_decide (Const c) (Const d) = then_Equal (ordering_then (id_cmp c d) Equal) ∙ then_Equal (id_cmp c d)
parts_decide (Const c) (Null w) = refl
parts_decide (Null u) (Const d) = refl
parts_decide (Null u) (Null w) = then_Equal (unknown_cmp u w)

pub term_cmp-total : IsTotalOrder term_cmp
term_cmp-total = subst IsTotalOrder (λ i a b. parts_decide a b i)
    (then_total (on_total kind_of nat_cmp_total)
    (then_total (on_total constants_of (lists_total id_cmp-total)) (on_total unknowns_of (lists_total unknown_cmp-total))))

pub term_cmp-IsAntisymmetric : IsAntisymmetric term_cmp
term_cmp-IsAntisymmetric (Const c) (Const d) e = ap Const (id_cmp-IsAntisymmetric c d e)
term_cmp-IsAntisymmetric (Const c) (Null w) e = absurd cc
term_cmp-IsAntisymmetric (Null u) (Const d) e = absurd cc
term_cmp-IsAntisymmetric (Null u) (Null w) e = ap Null (unknown_cmp-IsAntisymmetric u w e)
