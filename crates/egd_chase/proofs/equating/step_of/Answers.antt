use Rattle.std.proofs.Common.{List, All, sym, subst}
use Rattle.term_core.specs.declared.term.Seen.{Seen}
use Rattle.egd_chase.specs.Sides.{IsHeld}
use Rattle.egd_chase.proofs.MatchBridge.{values_held}
use Rattle.egd_chase.proofs.equating.step_of.Goals as goal

pub terms_of-requires : goal.terms_of-requires
terms_of-requires c =
    let store = c.args.store.now in
    let found = c.args.unequal.now.found in
    subst (λ (values : List Seen). All (IsHeld store) values) (sym c.as_slice.ensures)
    (values_held store c.requires.egd.0 c.args.egd.now c.requires.egd.1 found c.requires.matches c.is_kept.ensures)
