use Rattle.std.proofs.Common.{rules, sym, subst}
use Rattle.null_store.specs.Store.{Store, IsLive}
use Rattle.null_store.specs.Layout.{name_of}
use Rattle.null_store.proofs.SubstituteLemmas.{piece_is}
use Rattle.null_store.proofs.store.NullStore.lesser.Goals as goal

pub returns : goal.returns
returns c =
    let held = c.self.inside.rows in
    let names = c.self.inside.names in
    let left = piece_is held names c.args.a c.piece-left.result (name_of c.get-name.result.now) c.piece-left.ensures c.get-name.ensures
    (subst (λ (s : Store). IsLive s c.args.a) (sym c.self.view_is) c.requires.a) in
    let right = piece_is held names c.args.b c.piece-right.result (name_of c.get-other.result.now) c.piece-right.ensures
    c.get-other.ensures (subst (λ (s : Store). IsLive s c.args.b) (sym c.self.view_is) c.requires.b) in
    rw (← c.self.view_is) (search (rules, left, right))
