use Rattle.std.proofs.Common.{◌≡◌, ◌++◌, ◌∷◌, [], ◌+◌, ◌≤◌, ℕ, Contains, List, length, take, sym, ap, ◌∙◌, subst}
use Rattle.std.specs.List.{range_with_len}
use Rattle.std.proofs.lemmas.List.{take_more}
use Rattle.rule_core.specs.declared.rules.Tgd.{Tgd}
use Rattle.normaliser.proofs.GroupLemmas.{labels_none, labels_more, labels_all, read_tgd}
use Rattle.normaliser.specs.Normalised.{AreLeastPlaces}
use Rattle.normaliser.proofs.grouping.groups.Goals as goal

pub loop-tgd-init : goal.loop-tgd-init
loop-tgd-init g c =
    labels_none c.args.rules.now c.args.table.now c.in_ok-union.union
    (c.in_ok-union.ensures ∙ ap (range_with_len 0) (c.len.ensures ∙ ap length c.facts.ensures.value))

pub unite_matches-requires-clause-vars : goal.unite_matches-requires-clause-vars
unite_matches-requires-clause-vars g c =
    (read_tgd c.args.rules.now c.is_kept.ensures c.as_slice-tgd-items.result.now c.loop-tgd.tgd-index c.tgd-item.result
    (c.as_slice-tgd-items.ensures ∙ c.tgds.ensures) c.loop-tgd-test.true c.tgd-item.is).body_vars.same

pub loop-tgd-preserved : goal.loop-tgd-preserved
loop-tgd-preserved g c =
    let items : List Tgd = c.as_slice-tgd-items.result.now in
    let same : items ≡ c.args.rules.now.tgds = c.as_slice-tgd-items.ensures ∙ c.tgds.ensures in
    let tgd : Tgd = c.tgd-item.result in
    let index : ℕ = c.loop-tgd.tgd-index in
    labels_more c.args.rules.now c.args.table.now index tgd c.loop-tgd.union c.unite_matches.new.union
    (subst (λ l. Contains l tgd) same (index, c.loop-tgd-test.true, sym c.tgd-item.is))
    (subst (λ l. take (index + 1) l ≡ take index l ++ tgd ∷ []) same
    (take_more items index tgd c.loop-tgd-test.true ∙ ap (λ t. take index items ++ t ∷ []) (sym c.tgd-item.is)))
    c.loop-tgd.invariant c.in_ok-unite_matches.ensures

pub returns : goal.returns
returns g c =
    subst (AreLeastPlaces c.args.rules.now c.args.table.now) (sym c.into_labels.ensures)
    (labels_all c.args.rules.now c.args.table.now c.is_kept.ensures c.loop-tgd.tgd-index c.loop-tgd.union
    (subst (λ (l : List Tgd). length l ≤ c.loop-tgd.tgd-index) (c.as_slice-tgd-items.ensures ∙ c.tgds.ensures) c.loop-tgd-test.false)
    c.loop-tgd.invariant)
