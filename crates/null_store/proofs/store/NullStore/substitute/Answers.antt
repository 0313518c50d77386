use Rattle.std.proofs.Common.{sym, subst, arith}
use Rattle.std.specs.Prelude.{IsSomeAnd, ⊤}
use Rattle.null_store.specs.Store.{PieceOf, Store, piece_at}
use Rattle.null_store.specs.Changes.{CanStandFor}
use Rattle.null_store.specs.Layout.{store_of}
use Rattle.null_store.proofs.ListLemmas.{some_and, and_some}
use Rattle.null_store.proofs.SubstituteLemmas.{sound_less, substitutes, terms_after, occurs}
use Rattle.null_store.proofs.store.NullStore.substitute.Goals as goal

pub invariant_of-self : goal.invariant_of-self
invariant_of-self g c =
    let held = c.self.inside.rows in
    let names = c.self.inside.names in
    let asked = subst (λ (s : Store). IsSomeAnd (piece_at s c.args.piece) (λ p. CanStandFor s c.args.piece p c.args.by)) (sym c.self.view_is)
    c.requires in
    let did = c.substitute.ensures in
    sound_less held c.substitute.new.self names c.args.piece c.args.by c.self.invariant asked did.cells did.pieces did.room

pub returns-clause-substitutes : goal.returns-clause-substitutes
returns-clause-substitutes g c =
    let held = c.self.inside.rows in
    let names = c.self.inside.names in
    let asked = subst (λ (s : Store). IsSomeAnd (piece_at s c.args.piece) (λ p. CanStandFor s c.args.piece p c.args.by)) (sym c.self.view_is)
    c.requires in
    let did = c.substitute.ensures in
    rw (← c.self.view_is) (substitutes held c.substitute.new.self names c.args.piece c.args.by c.self.invariant asked did.cells did.pieces
    did.room)

pub returns-clause-terms : goal.returns-clause-terms
returns-clause-terms g c =
    let held = c.self.inside.rows in
    let names = c.self.inside.names in
    let asked = subst (λ (s : Store). IsSomeAnd (piece_at s c.args.piece) (λ p. CanStandFor s c.args.piece p c.args.by)) (sym c.self.view_is)
    c.requires in
    let did = c.substitute.ensures in
    rw (← c.self.view_is) (terms_after held c.substitute.new.self names c.args.piece c.args.by c.self.invariant asked did.cells did.pieces
    did.room)

pub returns-clause-steps : goal.returns-clause-steps
returns-clause-steps g c =
    let store = store_of c.self.inside.rows c.self.inside.names in
    let asked = subst (λ (s : Store). IsSomeAnd (piece_at s c.args.piece) (λ p. CanStandFor s c.args.piece p c.args.by)) (sym c.self.view_is)
    c.requires in
    let its = some_and (λ (p : PieceOf). CanStandFor store c.args.piece p c.args.by) (piece_at store c.args.piece) asked in
    let live = and_some (λ (_ : PieceOf). ⊤) (piece_at store c.args.piece) its.0 its.1 tt in
    let n = c.substitute.ensures.steps in
    let some = occurs store c.self.invariant.store c.args.piece live n.0 n.1 in
    rw (← c.self.view_is) (n.0, n.1, omega (arith, n.2, some))
