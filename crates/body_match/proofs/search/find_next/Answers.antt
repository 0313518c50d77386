use Rattle.std.proofs.Common.{ℕ, List, eqb, ◌∙◌, subst}
use Rattle.std.proofs.lemmas.List.Filters.{dedup_is}
use Rattle.body_match.specs.Search.{HasNext}
use Rattle.body_match.proofs.NextLemmas.{adds_next}
use Rattle.body_match.proofs.search.find_next.Goals as goal

pub returns-clause-next : goal.returns-clause-next
returns-clause-next g c =
    adds_next c.args.search.now c.args.walk.now.chosen.items c.args.walk.now.next.items c.extend_from_slice.new.self.items
    c.find.new.found.items c.sort_unstable.new.self.items c.as_slice-found.result.now
    (subst (λ (chosen : List ℕ). HasNext c.args.search.now chosen c.find.new.found.items) c.as_slice.ensures.value c.in_ok-find.ensures)
    c.sort_unstable.ensures.permutation c.sort_unstable.ensures.sorted
    (c.as_slice-found.ensures.value ∙ dedup_is eqb c.sort_unstable.new.self.items c.dedup.new.self.items c.dedup.ensures.filtered)
    c.in_ok-extend_from_slice.ensures.items
