use Rattle.normaliser.proofs.CutLemmas.{shared_none, shared_marked, shared_all}
use Rattle.normaliser.proofs.cuts.mark_shared.Goals as goal

pub loop-place-init : goal.loop-place-init
loop-place-init c = record {
  size = c.requires.size;
  each = λ group l. shared_none c.args.places.now c.args.shared.now c.requires.unmarked group;
}

pub loop-place-preserved : goal.loop-place-preserved
loop-place-preserved c =
    let h = shared_marked c.args.places.now c.loop-place.place c.loop-place.shared c.mark.new.shared c.loop-place.invariant.size
    c.loop-place.invariant.each (c.requires.within c.loop-place.place c.loop-place-test.true) c.mark.ensures.same c.mark.ensures.marked in
    record { size = h.0; each = h.1 }

pub returns : goal.returns
returns c =
    shared_all c.args.places.now c.loop-place.place c.loop-place.shared c.loop-place-test.false c.loop-place.auto.place-end c.loop-place.invariant.size
    c.loop-place.invariant.each
