use Rattle.std.proofs.Common.{◌≡◌, ◌↔◌, List, sym, ◌∙◌, subst, Contains}
use Rattle.std.specs.Prelude.{AllPairs}
use Rattle.std.specs.declared.cmp.Ordering.TheVariants.{Less}
use Rattle.std.proofs.lemmas.List.Filters.{dedup_is}
use Rattle.term_core.specs.contracts.term.UnknownEq.TheImpl.Laws.{laws-law}
use Rattle.term_core.specs.contracts.term.UnknownOrd.TheImpl.Laws.{matches_eq-law}
use Rattle.term_core.specs.declared.term.Unknown.{Unknown as HeldUnknown}
use Rattle.term_core.specs.Order.{unknown_cmp}
use Rattle.exchange_engine.proofs.UnknownLemmas.{sorted_same, sorted_ascending}
use Rattle.exchange_engine.proofs.unknowns.Found.in_order.Goals as goal

pub returns-clause-same : goal.returns-clause-same
returns-clause-same c = λ u.
    let left = c.from_vec-2.ensures ∙ dedup_is _ _ _ c.dedup.ensures.filtered in
    subst (λ (l : List HeldUnknown). Contains c.from_vec-2.result u ↔ Contains l u) c.self.view_is
    (subst (λ (l : List HeldUnknown). Contains l u ↔ Contains c.self.inside.unknowns.items u) (sym left)
    (sorted_same _ laws-law matches_eq-law c.self.inside.unknowns.items c.sort_unstable.new.self.items c.sort_unstable.ensures.permutation u))

pub returns-clause-ascending : goal.returns-clause-ascending
returns-clause-ascending c =
    let left = c.from_vec-2.ensures ∙ dedup_is _ _ _ c.dedup.ensures.filtered in
    subst (AllPairs (λ u w. unknown_cmp u w ≡ Less)) (sym left)
    (sorted_ascending _ laws-law matches_eq-law c.sort_unstable.new.self.items c.sort_unstable.ensures.sorted)
