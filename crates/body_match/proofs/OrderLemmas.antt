-- The order in which matches are put: by their rows first.
use Rattle.std.proofs.Common.{◌≡◌, inl, inr, true, refl, sym, ap, ◌∙◌, rules}
use Rattle.std.specs.declared.cmp.Ordering.{Ordering}
use Rattle.std.specs.declared.cmp.Ordering.TheVariants.{Less, Equal, Greater}
use Rattle.std.specs.Ordering.{is_eq, nat_cmp, ordering_then}
use Rattle.std.specs.Cmp.{IsTotalOrder}
use Rattle.std.specs.Cmp.Lexicographic.{slice_cmp}
use Rattle.std.specs.FinMap.{IsAntisymmetric, nat_cmp-IsAntisymmetric, slice_cmp-IsAntisymmetric}
use Rattle.std.proofs.lemmas.Cmp.{tied_itself}
use Rattle.time_line.specs.Span.{span_cmp}
use Rattle.term_core.specs.declared.term.Seen.TheVariants.{Const, Piece}
use Rattle.term_core.specs.contracts.term.SeenOrd.TheImpl as seen
use Rattle.term_core.proofs.OrderLemmas.{id_cmp-IsAntisymmetric}
use Rattle.body_match.specs.declared.found.Match.{Match}
use Rattle.body_match.specs.contracts.found.MatchOrd.TheImpl as found
use Rattle.body_match.specs.contracts.found.MatchPartialEq.TheImpl.{eq-value}
use Rattle.body_match.specs.contracts.found.MatchOrd.TheImpl.Laws.{total-law, matches_eq-law}
use Rattle.body_match.specs.Using.{AreInOrder}

abbrev pub match_cmp : Match → Match → Ordering
match_cmp = found.cmp-value.it

pub match_cmp-total : IsTotalOrder match_cmp
match_cmp-total = total-law

-- what ties is the same
seen_same : IsAntisymmetric seen.cmp-value.it
seen_same (Const c) (Const d) e = ap Const (id_cmp-IsAntisymmetric c d e)
seen_same (Const c) (Piece q) e = absurd cc
seen_same (Piece p) (Const d) e = absurd cc
seen_same (Piece p) (Piece q) e = ap Piece (nat_cmp-IsAntisymmetric p q e)

span_same : IsAntisymmetric span_cmp
span_same a b e = search rules

-- where both parts of a comparison tie
then_ties : (r s : Ordering) → ordering_then r s ≡ Equal → (r ≡ Equal) × (s ≡ Equal)
then_ties Less s e = absurd cc
then_ties Equal s e = (refl, e)
then_ties Greater s e = absurd cc

tied_same : (a b : Match) → match_cmp a b ≡ Equal → a ≡ b
tied_same a b e =
    let p = then_ties (slice_cmp nat_cmp a.rows b.rows) (ordering_then (slice_cmp seen.cmp-value.it a.binding b.binding) (span_cmp a.span b.span)) e in
    let q = then_ties (slice_cmp seen.cmp-value.it a.binding b.binding) (span_cmp a.span b.span) p.1 in
    λ i. record {
      rows = slice_cmp-IsAntisymmetric nat_cmp-IsAntisymmetric a.rows b.rows p.0 i;
      binding = slice_cmp-IsAntisymmetric seen_same a.binding b.binding q.0 i;
      span = span_same a.span b.span q.1 i;
    }

is_equal : (r : Ordering) → is_eq r ≡ true → r ≡ Equal
is_equal Less e = absurd cc
is_equal Equal e = refl
is_equal Greater e = absurd cc

pub equal_same : (a b : Match) → eq-value.it a b ≡ true → a ≡ b
equal_same a b e = tied_same a b (is_equal (match_cmp a b) (sym (matches_eq-law a b) ∙ e))

-- what is less stands before, or has the same rows and is another match
pub less_in_order : (a b : Match) → match_cmp a b ≡ Less → AreInOrder a b
less_in_order a b e = by_rows (slice_cmp nat_cmp a.rows b.rows) refl e
  where
    rest : Ordering
    rest = ordering_then (slice_cmp seen.cmp-value.it a.binding b.binding) (span_cmp a.span b.span)

    by_rows : (r : Ordering) → slice_cmp nat_cmp a.rows b.rows ≡ r → match_cmp a b ≡ Less → AreInOrder a b
    by_rows Less p h = inl p
    by_rows Equal p h = inr (
      slice_cmp-IsAntisymmetric nat_cmp-IsAntisymmetric a.rows b.rows p,
      λ same. let clash : Equal ≡ Less = sym (tied_itself match_cmp-total a) ∙ ap (match_cmp a) same ∙ h in absurd cc,
    )
    by_rows Greater p h = let clash : Greater ≡ Less = ap (λ r. ordering_then r rest) (sym p) ∙ h in absurd cc
