use Rattle.std.proofs.Common.{◌+◌, ◌*◌, ◌≤◌, ◌∙◌, List, sym, subst}
use Rattle.std.specs.Prelude.{slice_get, IsSomeAnd}
use Rattle.term_core.specs.declared.const_id.ConstId.{ConstId}
use Rattle.rule_core.specs.declared.rules.Tgd.{Tgd}
use Rattle.null_store.specs.Store.{NameOf, Store}
use Rattle.null_store.specs.Changes.{AddsFiring, head_cells}
use Rattle.null_store.specs.Layout.{name_of, store_of, IsReady, IsFired}
use Rattle.null_store.proofs.ListLemmas.{and_some}
use Rattle.null_store.proofs.SoundLemmas.{asks, rule_at, ready, sound_after, adds_firing}
use Rattle.null_store.proofs.store.NullStore.add_firing.Goals as goal

pub fire-requires : goal.fire-requires
fire-requires g c =
    let rules = c.args.rules.now in
    let inside = c.self.inside in
    let store = store_of inside.rows inside.names in
    let n = name_of c.get-named.result.now in
    let tgd = c.index-as_slice-named.result in
    let asked = asks rules store c.args.self.now c.args.name c.args.span n c.self.view_is c.get-named.ensures c.requires in
    let at = rule_at rules store n c.as_slice.result.now tgd (c.as_slice.ensures ∙ c.tgds.ensures) c.index-as_slice-named.is asked.0 in
    subst (λ (frontier : List ConstId). IsReady tgd frontier inside.rows) (sym c.as_slice-frontier.ensures.value)
    (ready rules tgd n inside.rows inside.names c.is_kept.ensures at asked.0)

pub invariant_of-self : goal.invariant_of-self
invariant_of-self g c =
    let rules = c.args.rules.now in
    let inside = c.self.inside in
    let store = store_of inside.rows inside.names in
    let n = name_of c.get-named.result.now in
    let tgd = c.index-as_slice-named.result in
    let asked = asks rules store c.args.self.now c.args.name c.args.span n c.self.view_is c.get-named.ensures c.requires in
    let at = rule_at rules store n c.as_slice.result.now tgd (c.as_slice.ensures ∙ c.tgds.ensures) c.index-as_slice-named.is asked.0 in
    let is = ready rules tgd n inside.rows inside.names c.is_kept.ensures at asked.0 in
    let fired = subst (λ (frontier : List ConstId).
    IsFired tgd frontier c.args.name c.args.span inside.rows c.fire.new.rows) c.as_slice-frontier.ensures.value c.fire.ensures.fired in
    sound_after tgd n c.args.name c.args.span inside.names inside.rows c.fire.new.rows is.safe fired (λ some. c.get-named.ensures)
    c.self.invariant (λ some. asked.1)

pub returns-clause-adds : goal.returns-clause-adds
returns-clause-adds g c =
    let rules = c.args.rules.now in
    let inside = c.self.inside in
    let store = store_of inside.rows inside.names in
    let after = store_of c.fire.new.rows inside.names in
    let n = name_of c.get-named.result.now in
    let tgd = c.index-as_slice-named.result in
    let asked = asks rules store c.args.self.now c.args.name c.args.span n c.self.view_is c.get-named.ensures c.requires in
    let at = rule_at rules store n c.as_slice.result.now tgd (c.as_slice.ensures ∙ c.tgds.ensures) c.index-as_slice-named.is asked.0 in
    let is = ready rules tgd n inside.rows inside.names c.is_kept.ensures at asked.0 in
    let fired = subst (λ (frontier : List ConstId).
    IsFired tgd frontier c.args.name c.args.span inside.rows c.fire.new.rows) c.as_slice-frontier.ensures.value c.fire.ensures.fired in
    subst (λ (s : Store). IsSomeAnd (slice_get s.names c.args.name) (λ m. AddsFiring rules m c.args.span s after)) c.self.view_is
    (and_some (λ (m : NameOf). AddsFiring rules m c.args.span store after) (slice_get store.names c.args.name) n c.get-named.ensures
    (adds_firing tgd n c.args.name c.args.span inside.names inside.rows c.fire.new.rows is.safe fired (λ some. c.get-named.ensures)
    c.self.invariant (λ some. asked.1) rules at c.fire.ensures.room c.fire.ensures.cell_room c.fire.ensures.piece_room))

pub returns-clause-steps : goal.returns-clause-steps
returns-clause-steps g c =
    let rules = c.args.rules.now in
    let inside = c.self.inside in
    let store = store_of inside.rows inside.names in
    let n = name_of c.get-named.result.now in
    let tgd = c.index-as_slice-named.result in
    let asked = asks rules store c.args.self.now c.args.name c.args.span n c.self.view_is c.get-named.ensures c.requires in
    let at = rule_at rules store n c.as_slice.result.now tgd (c.as_slice.ensures ∙ c.tgds.ensures) c.index-as_slice-named.is asked.0 in
    let Few : Tgd → Type 0 = λ t. c.fire.new.steps ≤ c.args.steps.now + 2 * head_cells t in
    subst (λ (s : Store). IsSomeAnd (slice_get s.names c.args.name) (λ m. IsSomeAnd (slice_get rules.tgds m.rule) Few)) c.self.view_is
    (and_some (λ (m : NameOf). IsSomeAnd (slice_get rules.tgds m.rule) Few) (slice_get store.names c.args.name) n c.get-named.ensures
    (and_some Few (slice_get rules.tgds n.rule) tgd at c.fire.ensures.steps))
