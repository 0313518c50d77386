use Rattle.std.proofs.Common.{◌≡◌, ◌∙◌, ◌≤◌, Some, List, length, subst}
use Rattle.std.specs.Prelude.{slice_get}
use Rattle.std.proofs.lemmas.Option.{slice_get_read}
use Rattle.rule_core.specs.declared.rules.Tgd.{Tgd}
use Rattle.tgd_chase.proofs.CandidateLemmas.{read_tgd, found_more, all_found}
use Rattle.tgd_chase.proofs.candidates.find_candidates.Goals as goal

pub add_candidates-requires-clause-vars : goal.add_candidates-requires-clause-vars
add_candidates-requires-clause-vars g c =
    (read_tgd c.args.rules.now c.is_kept.ensures c.as_slice-tgd-items.result.now c.loop-rule.rule c.tgd-item.result
    (c.as_slice-tgd-items.ensures ∙ c.tgds.ensures) c.loop-rule-test.true c.tgd-item.is).body_vars.same

pub loop-rule-preserved : goal.loop-rule-preserved
loop-rule-preserved g c =
    let items : List Tgd = c.as_slice-tgd-items.result.now in
    let same : items ≡ c.args.rules.now.tgds = c.as_slice-tgd-items.ensures ∙ c.tgds.ensures in
    let there : slice_get items c.loop-rule.rule ≡ Some c.tgd-item.result =
    slice_get_read items (length items) c.loop-rule.rule c.tgd-item.result (λ i. length items) c.loop-rule-test.true c.tgd-item.is in
    found_more c.args.rules.now c.args.table.now c.loop-rule.rule c.tgd-item.result c.loop-rule.list.items c.add_candidates.new.list.items
    (subst (λ (l : List Tgd). slice_get l c.loop-rule.rule ≡ Some c.tgd-item.result) same there) c.loop-rule.invariant
    c.in_ok-add_candidates.ensures

pub returns : goal.returns
returns g c =
    all_found c.args.rules.now c.args.table.now c.loop-rule.rule c.loop-rule.list.items
    (subst (λ (l : List Tgd). length l ≤ c.loop-rule.rule) (c.as_slice-tgd-items.ensures ∙ c.tgds.ensures) c.loop-rule-test.false)
    c.loop-rule.invariant
