-- Coalesced lists, and the same with other rows in the same order.
use Rattle.std.proofs.Common.{◌≡◌, List, map, sym, ap, ◌∙◌, Contains}
use Rattle.std.specs.declared.cmp.Ordering.{Ordering}
use Rattle.std.specs.declared.cmp.Ordering.TheVariants.{Less, Equal}
use Rattle.std.specs.Cmp.{IsTotalOrder}
use Rattle.std.specs.FinMap.{IsAntisymmetric}
use Rattle.std.specs.Ordering.{ordering_then}
use Rattle.std.proofs.lemmas.Cmp.{tied_itself}
use Rattle.std.proofs.lemmas.List.Elements.{All-map}
use Rattle.time_line.specs.Span.{HasInstant, span_cmp}
use Rattle.rule_core.specs.Terms.{StampedOf}
use Rattle.rule_core.specs.Coalesced.{stamped_cmp, AreSeparate, IsCoalesced}
use Rattle.rule_core.proofs.ListLemmas.{AllPairs-map, AllPairs-members_weaker}

module _ {X Y : Type 0} (cmp : X → X → Ordering) (order : Y → Y → Ordering) (apart : IsAntisymmetric cmp) (total : IsTotalOrder order)
    (told : X → Y) (list : List (StampedOf X))
    (same : (a b : StampedOf X) → Contains list a → Contains list b → order (told a.row) (told b.row) ≡ cmp a.row b.row) where
  -- an entry with its other row
  as_told : StampedOf X → StampedOf Y
  as_told e = record { row = told e.row; span = e.span }

  -- rows that are told alike are equal
  separate_told : (a b : StampedOf X) → Contains list a → Contains list b → AreSeparate a b → AreSeparate (as_told a) (as_told b)
  unfolding as_told
  separate_told a b in_a in_b separate e =
      let tied : order (told a.row) (told b.row) ≡ Equal = ap (order (told a.row)) (sym e) ∙ tied_itself total (told a.row) in
      separate (apart a.row b.row (sym (same a b in_a in_b) ∙ tied))

  -- the spans decide as before where the rows do
  ordered_told : (a b : StampedOf X) → Contains list a → Contains list b → stamped_cmp cmp a b ≡ Less
      → stamped_cmp order (as_told a) (as_told b) ≡ Less
  unfolding as_told
  ordered_told a b in_a in_b less = ap (λ o. ordering_then o (span_cmp a.span b.span)) (same a b in_a in_b) ∙ less

  -- the list as it is told
  pub told-coalesced : IsCoalesced cmp list → IsCoalesced order (map (λ e. record { row = told e.row; span = e.span }) list)
  unfolding as_told
  told-coalesced good = record {
    spans = All-map (λ e. HasInstant e.span) as_told list good.spans;
    separate = AllPairs-map AreSeparate as_told list
        (AllPairs-members_weaker AreSeparate (λ a b. AreSeparate (as_told a) (as_told b)) list separate_told good.separate);
    ordered = AllPairs-map (λ a b. stamped_cmp order a b ≡ Less) as_told list
        (AllPairs-members_weaker (λ a b. stamped_cmp cmp a b ≡ Less) (λ a b. stamped_cmp order (as_told a) (as_told b) ≡ Less) list
        ordered_told good.ordered);
  }
