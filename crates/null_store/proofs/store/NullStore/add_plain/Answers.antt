use Rattle.std.proofs.Common.{◌≡◌, ◌+◌, ◌*◌, ◌≤◌, ◌∙◌, List, sym, subst}
use Rattle.std.specs.Prelude.{slice_get}
use Rattle.term_core.specs.declared.const_id.ConstId.{ConstId}
use Rattle.rule_core.specs.declared.rules.Tgd.{Tgd}
use Rattle.null_store.specs.Store.{NameOf, Store}
use Rattle.null_store.specs.Changes.{CanFire, AddsFiring, exists_count, head_cells}
use Rattle.null_store.specs.Layout.{store_of, IsReady, IsFired}
use Rattle.null_store.proofs.ListLemmas.{and_some, holds_at}
use Rattle.null_store.proofs.SoundLemmas.{rule_at, ready, none_new, sound_after, adds_firing}
use Rattle.null_store.proofs.store.NullStore.add_plain.Goals as goal

pub fire-requires : goal.fire-requires
fire-requires g c =
    let rules = c.args.rules.now in
    let inside = c.self.inside in
    let store = store_of inside.rows inside.names in
    let n : NameOf = record { rule = c.args.rule; frontier = c.args.frontier.now } in
    let tgd = c.index-as_slice-rule.result in
    let fits = subst (λ (s : Store). CanFire rules s n) (sym c.self.view_is) c.requires.fits in
    let at = rule_at rules store n c.as_slice.result.now tgd (c.as_slice.ensures ∙ c.tgds.ensures) c.index-as_slice-rule.is fits in
    subst (λ (frontier : List ConstId). IsReady tgd frontier inside.rows) (sym c.as_slice-2.ensures)
    (ready rules tgd n inside.rows inside.names c.is_kept.ensures at fits)

pub invariant_of-self : goal.invariant_of-self
invariant_of-self g c =
    let rules = c.args.rules.now in
    let inside = c.self.inside in
    let store = store_of inside.rows inside.names in
    let n : NameOf = record { rule = c.args.rule; frontier = c.args.frontier.now } in
    let tgd = c.index-as_slice-rule.result in
    let fits = subst (λ (s : Store). CanFire rules s n) (sym c.self.view_is) c.requires.fits in
    let at = rule_at rules store n c.as_slice.result.now tgd (c.as_slice.ensures ∙ c.tgds.ensures) c.index-as_slice-rule.is fits in
    let is = ready rules tgd n inside.rows inside.names c.is_kept.ensures at fits in
    let fired = subst (λ (frontier : List ConstId).
    IsFired tgd frontier 0 c.args.span inside.rows c.fire.new.rows) c.as_slice-2.ensures c.fire.ensures.fired in
    let none = none_new tgd n 0 c.args.span inside.rows c.fire.new.rows fired
    (holds_at (λ (t : Tgd). exists_count t ≡ 0) (slice_get rules.tgds c.args.rule) tgd at c.requires.plain) in
    sound_after tgd n 0 c.args.span inside.names inside.rows c.fire.new.rows is.safe fired (λ some. absurd (none some)) c.self.invariant
    (λ some. absurd (none some))

pub returns-clause-adds : goal.returns-clause-adds
returns-clause-adds g c =
    let rules = c.args.rules.now in
    let inside = c.self.inside in
    let store = store_of inside.rows inside.names in
    let after = store_of c.fire.new.rows inside.names in
    let n : NameOf = record { rule = c.args.rule; frontier = c.args.frontier.now } in
    let tgd = c.index-as_slice-rule.result in
    let fits = subst (λ (s : Store). CanFire rules s n) (sym c.self.view_is) c.requires.fits in
    let at = rule_at rules store n c.as_slice.result.now tgd (c.as_slice.ensures ∙ c.tgds.ensures) c.index-as_slice-rule.is fits in
    let is = ready rules tgd n inside.rows inside.names c.is_kept.ensures at fits in
    let fired = subst (λ (frontier : List ConstId).
    IsFired tgd frontier 0 c.args.span inside.rows c.fire.new.rows) c.as_slice-2.ensures c.fire.ensures.fired in
    let none = none_new tgd n 0 c.args.span inside.rows c.fire.new.rows fired
    (holds_at (λ (t : Tgd). exists_count t ≡ 0) (slice_get rules.tgds c.args.rule) tgd at c.requires.plain) in
    subst (λ (s : Store). AddsFiring rules n c.args.span s after) c.self.view_is
    (adds_firing tgd n 0 c.args.span inside.names inside.rows c.fire.new.rows is.safe fired (λ some. absurd (none some)) c.self.invariant
    (λ some. absurd (none some)) rules at c.fire.ensures.room c.fire.ensures.cell_room c.fire.ensures.piece_room)

pub returns-clause-steps : goal.returns-clause-steps
returns-clause-steps g c =
    let rules = c.args.rules.now in
    let inside = c.self.inside in
    let store = store_of inside.rows inside.names in
    let n : NameOf = record { rule = c.args.rule; frontier = c.args.frontier.now } in
    let tgd = c.index-as_slice-rule.result in
    let fits = subst (λ (s : Store). CanFire rules s n) (sym c.self.view_is) c.requires.fits in
    let at = rule_at rules store n c.as_slice.result.now tgd (c.as_slice.ensures ∙ c.tgds.ensures) c.index-as_slice-rule.is fits in
    and_some (λ (t : Tgd). c.fire.new.steps ≤ c.args.steps.now + 2 * head_cells t) (slice_get rules.tgds c.args.rule) tgd at
    c.fire.ensures.steps
