use Rattle.std.proofs.Common.{map, refl, ◌∙◌, subst}
use Rattle.null_store.specs.Store.{AreDistinct}
use Rattle.null_store.specs.Layout.{piece_of}
use Rattle.null_store.proofs.StoreLemmas.{sound_names, pieces_stay}
use Rattle.null_store.proofs.store.NullStore.name.Goals as goal

pub invariant_of-self : goal.invariant_of-self
invariant_of-self c =
    let names = c.number_of.ensures.keeps in
    let distinct = c.number_of.ensures.distinct c.self.invariant.store.distinct in
    rw names.1 (sound_names c.self.inside.rows c.self.inside.names names.0
    (subst AreDistinct names.1 distinct) c.self.invariant)

pub returns-clause-keeps : goal.returns-clause-keeps
returns-clause-keeps c =
    let names = c.number_of.ensures.keeps in
    let pieces = c.self.inside.rows.pieces in
    rw (← c.self.view_is) (record {
      rows = refl;
      pieces = (λ i. map (piece_of (names.1 i)) pieces) ∙ pieces_stay c.self.inside.names names.0 pieces c.self.invariant.named;
      spare = refl;
      names = names;
    })
