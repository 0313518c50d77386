-- The order of rows is total, if that of constants is.
use Rattle.std.proofs.Common.{◌≡◌, ℕ, List, [], ◌∷◌, refl, ap, ◌∙◌, subst}
use Rattle.std.specs.declared.cmp.Ordering.{Ordering}
use Rattle.std.specs.declared.cmp.Ordering.TheVariants.{Less, Equal, Greater}
use Rattle.std.specs.Cmp.{IsTotalOrder}
use Rattle.std.specs.FinMap.{IsAntisymmetric, nat_cmp-IsAntisymmetric, slice_cmp-IsAntisymmetric}
use Rattle.std.specs.Cmp.Lexicographic.{slice_cmp}
use Rattle.std.specs.Ordering.{ordering_then, nat_cmp, on, then_cmp}
use Rattle.std.proofs.lemmas.Cmp.{then_total, on_total, lists_total, nat_cmp_total}
use Rattle.rule_core.specs.Terms.{numbered, named, TermOf, constant, unknown}
use Rattle.rule_core.specs.Order.{term_cmp, row_cmp}

-- a term by its parts, which are compared in turn
abbrev kind_of : {C : Type 0} → TermOf C → ℕ
kind_of (constant c) = 0
kind_of (unknown (numbered n)) = 1
kind_of (unknown (named r f v)) = 2

abbrev number_of : {C : Type 0} → TermOf C → ℕ
number_of (constant c) = 0
number_of (unknown (numbered n)) = n
number_of (unknown (named r f v)) = r

abbrev values_of : {C : Type 0} → TermOf C → List C
values_of (constant c) = c ∷ []
values_of (unknown (numbered n)) = []
values_of (unknown (named r f v)) = f

abbrev variable_of : {C : Type 0} → TermOf C → ℕ
variable_of (constant c) = 0
variable_of (unknown (numbered n)) = 0
variable_of (unknown (named r f v)) = v

then_Equal : (r : Ordering) → ordering_then r Equal ≡ r
then_Equal Less = refl
then_Equal Equal = refl
then_Equal Greater = refl

module _ {C : Type 0} (cmp : C → C → Ordering) where
  abbrev parts_cmp : TermOf C → TermOf C → Ordering
  parts_cmp = then_cmp (on kind_of nat_cmp)
      (then_cmp (on number_of nat_cmp) (then_cmp (on values_of (slice_cmp cmp)) (on variable_of nat_cmp)))

  parts_decide : (a b : TermOf C) → parts_cmp a b ≡ term_cmp cmp a b
  parts_decide (constant c) (constant d) = then_Equal (ordering_then (cmp c d) Equal) ∙ then_Equal (cmp c d)
  parts_decide (constant c) (unknown (numbered n)) = refl
  parts_decide (constant c) (unknown (named s g w)) = refl
  parts_decide (unknown (numbered m)) (constant d) = refl
  parts_decide (unknown (named r f v)) (constant d) = refl
  parts_decide (unknown (numbered m)) (unknown (numbered n)) = then_Equal (nat_cmp m n)
  parts_decide (unknown (numbered m)) (unknown (named s g w)) = refl
  parts_decide (unknown (named r f v)) (unknown (numbered n)) = refl
  parts_decide (unknown (named r f v)) (unknown (named s g w)) = refl

  module _ (o : IsTotalOrder cmp) where
    pub term_cmp-total : IsTotalOrder (term_cmp cmp)
    term_cmp-total = subst IsTotalOrder (λ i a b. parts_decide a b i)
        (then_total (on_total kind_of nat_cmp_total)
        (then_total (on_total number_of nat_cmp_total)
        (then_total (on_total values_of (lists_total o)) (on_total variable_of nat_cmp_total))))

    pub row_cmp-total : IsTotalOrder (row_cmp cmp)
    row_cmp-total = lists_total term_cmp-total

-- where both parts of a comparison tie
then_ties : (r s : Ordering) → ordering_then r s ≡ Equal → (r ≡ Equal) × (s ≡ Equal)
then_ties Less s e = absurd cc
then_ties Equal s e = (refl, e)
then_ties Greater s e = absurd cc

-- the order tells any two terms apart, and any two rows, if that of constants does
module _ {C : Type 0} (cmp : C → C → Ordering) (apart : IsAntisymmetric cmp) where
  pub term_cmp-IsAntisymmetric : IsAntisymmetric (term_cmp cmp)
  term_cmp-IsAntisymmetric (constant c) (constant d) e = ap constant (apart c d e)
  term_cmp-IsAntisymmetric (constant c) (unknown w) e = absurd cc
  term_cmp-IsAntisymmetric (unknown u) (constant d) e = absurd cc
  term_cmp-IsAntisymmetric (unknown (numbered m)) (unknown (numbered n)) e = ap (λ k. unknown (numbered k)) (nat_cmp-IsAntisymmetric m n e)
  term_cmp-IsAntisymmetric (unknown (numbered m)) (unknown (named s g w)) e = absurd cc
  term_cmp-IsAntisymmetric (unknown (named r f v)) (unknown (numbered n)) e = absurd cc
  term_cmp-IsAntisymmetric (unknown (named r f v)) (unknown (named s g w)) e =
      let p = then_ties (nat_cmp r s) (ordering_then (slice_cmp cmp f g) (nat_cmp v w)) e in
      let q = then_ties (slice_cmp cmp f g) (nat_cmp v w) p.1 in
      λ i. unknown (named (nat_cmp-IsAntisymmetric r s p.0 i) (slice_cmp-IsAntisymmetric apart f g q.0 i)
      (nat_cmp-IsAntisymmetric v w q.1 i))

  pub row_cmp-IsAntisymmetric : IsAntisymmetric (row_cmp cmp)
  row_cmp-IsAntisymmetric = slice_cmp-IsAntisymmetric term_cmp-IsAntisymmetric
