use Rattle.std.proofs.Common.{length, rules}
use Rattle.normaliser.proofs.CutLemmas.{never_marked}
use Rattle.normaliser.proofs.cuts.shared_groups.Goals as goal

pub mark_shared-requires-clause-unmarked : goal.mark_shared-requires-clause-unmarked
mark_shared-requires-clause-unmarked c group =
    rw (c.deref_mut.ensures.value, c.in_ok-shared.ensures.items_if_clones_equal (λ y e. e)) (never_marked (length c.args.places.now) group)

pub mark_shared-requires-clause-size : goal.mark_shared-requires-clause-size
mark_shared-requires-clause-size c = search rules
