-- Rows of terms: how they compare, and when they are equal.
use Rattle.std.proofs.Common.{◌≡◌, true, List, refl, sym, ap, ◌∙◌, subst}
use Rattle.std.specs.declared.cmp.Ordering.{Ordering}
use Rattle.std.specs.declared.cmp.Ordering.TheVariants.{Less, Equal, Greater}
use Rattle.std.specs.Ordering.{is_eq, ordering_then}
use Rattle.std.specs.Cmp.{IsTotalOrder}
use Rattle.std.specs.Cmp.Lexicographic.{slice_cmp, pointwise, lists_total, lists_ties}
use Rattle.std.specs.FinMap.{slice_cmp-IsAntisymmetric}
use Rattle.std.proofs.lemmas.Cmp.{tied_itself}
use Rattle.time_line.specs.Span.{span_cmp}
use Rattle.term_core.specs.declared.term.Term.{Term}
use Rattle.term_core.specs.declared.term.Term.TheVariants.{Const, Null}
use Rattle.term_core.specs.contracts.term.TermOrd.TheImpl.{cmp-value}
use Rattle.term_core.specs.contracts.term.TermOrd.TheImpl.Laws.{matches_eq-law}
use Rattle.term_core.specs.contracts.term.TermPartialEq.TheImpl.{eq-value}
use Rattle.term_core.specs.Order.{term_cmp}
use Rattle.term_core.proofs.OrderLemmas.{term_cmp-total, term_cmp-IsAntisymmetric}
use Rattle.rule_core.specs.Terms.{StampedOf}
use Rattle.rule_core.specs.Coalesced.{stamped_cmp}

-- the order of rows is total, and tells any two of them apart
pub rows_total : IsTotalOrder (slice_cmp term_cmp)
rows_total = lists_total term_cmp-total

pub rows_same : (xs ys : List Term) → slice_cmp term_cmp xs ys ≡ Equal → xs ≡ ys
rows_same xs ys e = slice_cmp-IsAntisymmetric term_cmp-IsAntisymmetric xs ys e

-- the program compares terms by that order
terms_alike : (a b : Term) → cmp-value.it a b ≡ term_cmp a b
terms_alike (Const c) (Const d) = refl
terms_alike (Const c) (Null w) = refl
terms_alike (Null u) (Const d) = refl
terms_alike (Null u) (Null w) = refl

rows_alike : (xs ys : List Term) → slice_cmp cmp-value.it xs ys ≡ slice_cmp term_cmp xs ys
rows_alike xs ys = λ i. slice_cmp (λ a b. terms_alike a b i) xs ys

pub entries_alike : (a b : StampedOf (List Term))
    → ordering_then (slice_cmp cmp-value.it a.row b.row) (span_cmp a.span b.span) ≡ stamped_cmp (slice_cmp term_cmp) a b
entries_alike a b = ap (λ r. ordering_then r (span_cmp a.span b.span)) (rows_alike a.row b.row)

is_equal : (r : Ordering) → is_eq r ≡ true → r ≡ Equal
is_equal Less e = absurd cc
is_equal Equal e = refl
is_equal Greater e = absurd cc

-- it finds rows equal exactly where they are
pub equal_rows : (xs ys : List Term) → pointwise eq-value.it xs ys ≡ true → xs ≡ ys
equal_rows xs ys h =
    let told = lists_ties cmp-value.it matches_eq-law xs ys in
    rows_same xs ys (sym (rows_alike xs ys) ∙ is_equal (slice_cmp cmp-value.it xs ys) (sym told ∙ h))

pub rows_equal : (xs ys : List Term) → xs ≡ ys → pointwise eq-value.it xs ys ≡ true
rows_equal xs ys e =
    let tied : slice_cmp term_cmp xs ys ≡ Equal = subst (λ zs. slice_cmp term_cmp xs zs ≡ Equal) e (tied_itself rows_total xs) in
    lists_ties cmp-value.it matches_eq-law xs ys ∙ ap is_eq (rows_alike xs ys ∙ tied)
