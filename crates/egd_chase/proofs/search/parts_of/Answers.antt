use Rattle.std.proofs.Common.{[], length, refl}
use Rattle.std.proofs.lemmas.List.Elements.{All-contains}
use Rattle.std.proofs.lemmas.Option.{slice_get_read}
use Rattle.rule_core.specs.Validity.{IsEgd}
use Rattle.body_match.proofs.ListLemmas.{contains_from_at}
use Rattle.egd_chase.proofs.IndexLemmas.{one_part_more}
use Rattle.egd_chase.proofs.search.parts_of.Goals as goal

pub make-requires : goal.make-requires
make-requires c =
    let egds = c.args.egds.now in
    let egd = c.egd-item.result in
    let at = slice_get_read egds (length egds) c.loop-egd.egd-index egd refl c.loop-egd-test.true c.egd-item.is in
    (c.requires.0, All-contains (IsEgd c.requires.0) egds egd c.requires.1 (contains_from_at egds c.loop-egd.egd-index egd at))

pub loop-egd-preserved : goal.loop-egd-preserved
loop-egd-preserved c =
    let egds = c.args.egds.now in
    let egd = c.egd-item.result in
    let at = slice_get_read egds (length egds) c.loop-egd.egd-index egd refl c.loop-egd-test.true c.egd-item.is in
    one_part_more [] egds c.loop-egd.egd-index egd c.loop-egd.parts.items c.push.new.self.items c.in_ok-make.field-0 at
    c.in_ok-push.ensures.items c.in_ok-make.ensures c.loop-egd.invariant
