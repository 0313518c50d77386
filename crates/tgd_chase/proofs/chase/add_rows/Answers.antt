use Rattle.std.proofs.Common.{◌≡◌, ◌∙◌, arith}
use Rattle.std.specs.Prelude.{slice_get}
use Rattle.rule_core.specs.declared.rules.Tgd.{Tgd}
use Rattle.body_match.proofs.ListLemmas.{contains_from_at}
use Rattle.body_match.proofs.SearchLemmas.{and_some}
use Rattle.null_store.specs.Changes.{exists_count}
use Rattle.tgd_chase.proofs.RoomLemmas.{few_cells, within}
use Rattle.tgd_chase.proofs.AddingLemmas.{tgd_there, can_fire, still_fresh}
use Rattle.tgd_chase.proofs.chase.add_rows.Goals as goal

pub reserve_head-requires-clause-cells : goal.reserve_head-requires-clause-cells
reserve_head-requires-clause-cells g c =
    let tgd : Tgd = c.index-as_slice-firing.result in
    let there = tgd_there c.args.rules.now c.args.firing.now c.as_slice.result.now tgd c.requires.fits
    (c.as_slice.ensures ∙ c.tgds.ensures) c.index-as_slice-firing.is in
    few_cells c.args.rules.now c.is_kept.ensures tgd (contains_from_at c.args.rules.now.tgds c.args.firing.now.rule tgd there)

pub reserve_head-requires-clause-within : goal.reserve_head-requires-clause-within
reserve_head-requires-clause-within g c =
    let tgd : Tgd = c.index-as_slice-firing.result in
    let there = tgd_there c.args.rules.now c.args.firing.now c.as_slice.result.now tgd c.requires.fits
    (c.as_slice.ensures ∙ c.tgds.ensures) c.index-as_slice-firing.is in
    within c.args.rules.now c.is_kept.ensures tgd (contains_from_at c.args.rules.now.tgds c.args.firing.now.rule tgd there)

pub add_named-requires-clause-fresh : goal.add_named-requires-clause-fresh
add_named-requires-clause-fresh g c =
    still_fresh c.args.firing.now c.args.store.now c.reserve_head.new.store c.reserve_head.ensures.same.rows
    c.reserve_head.ensures.same.pieces c.requires.fresh

pub add_plain-requires-clause-fits : goal.add_plain-requires-clause-fits
add_plain-requires-clause-fits g c =
    let tgd : Tgd = c.index-as_slice-firing.result in
    let there = tgd_there c.args.rules.now c.args.firing.now c.as_slice.result.now tgd c.requires.fits
    (c.as_slice.ensures ∙ c.tgds.ensures) c.index-as_slice-firing.is in
    can_fire c.args.rules.now c.args.firing.now tgd c.reserve_head.new.store c.requires.fits there c.in_ok-reserve_head.ensures.room

pub add_plain-requires-clause-plain : goal.add_plain-requires-clause-plain
add_plain-requires-clause-plain g c =
    let tgd : Tgd = c.index-as_slice-firing.result in
    let there = tgd_there c.args.rules.now c.args.firing.now c.as_slice.result.now tgd c.requires.fits
    (c.as_slice.ensures ∙ c.tgds.ensures) c.index-as_slice-firing.is in
    and_some (λ (t : Tgd). exists_count t ≡ 0) (slice_get c.args.rules.now.tgds c.args.firing.now.rule) tgd there
    (omega (arith, c.len.ensures, c.if-len-tgd.false))
