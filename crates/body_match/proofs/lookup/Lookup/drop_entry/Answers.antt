use Rattle.std.proofs.Common.{List, Contains, sym, subst}
use Rattle.body_match.specs.declared.lookup.Entry.{Entry}
use Rattle.body_match.specs.Lookup.{Tree}
use Rattle.body_match.proofs.lookup.Lookup.drop_entry.Goals as goal

pub returns : goal.returns
returns c = λ entry k other live.
    let inside : Contains c.self.inside.entries.items entry =
    subst (λ (t : Tree). Contains t.entries entry) (sym c.self.view_is) (c.mark.ensures entry k other live) in
    let rest =
    c.in_ok-rest.ensures entry (subst (λ (l : List Entry). Contains l entry) (sym c.as_slice.ensures.value) inside) other live in
    subst (λ (t : Tree). Contains t.entries entry) (sym c.drop.view_is) (c.in_ok-self-inside.ensures entry rest)
