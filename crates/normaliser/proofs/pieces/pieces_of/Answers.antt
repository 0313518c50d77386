use Rattle.std.proofs.Common.{Some, List, sym, ap, ◌∙◌}
use Rattle.std.proofs.lemmas.Option.{slice_get-get_or}
use Rattle.fact_table.specs.declared.fact.Fact.{Fact}
use Rattle.normaliser.specs.Cuts.{IsCutAt}
use Rattle.normaliser.proofs.PieceLemmas.{pieces_more, pieces_all}
use Rattle.normaliser.proofs.pieces.pieces_of.Goals as goal

pub loop-place-preserved : goal.loop-place-preserved
loop-place-preserved c =
    let facts : List Fact = c.args.facts.now in
    let fact : Fact = c.index-facts-place.result in
    pieces_more facts c.args.places.now (IsCutAt c.args.cuts.now) c.loop-place.place fact
    (slice_get-get_or facts c.loop-place.place fact c.loop-place-test.true ∙ ap Some (sym c.index-facts-place.is))
    c.loop-place.pieces c.add_pieces.new.pieces c.loop-place.invariant c.in_ok-add_pieces.ensures

pub returns : goal.returns
returns c =
    pieces_all c.args.facts.now c.args.places.now (IsCutAt c.args.cuts.now) c.loop-place.place c.loop-place-test.false c.loop-place.pieces
    c.loop-place.invariant
