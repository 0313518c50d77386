use Rattle.std.proofs.Common.{ℕ, Some, List, sym, ap, ◌∙◌, subst, arith}
use Rattle.std.proofs.lemmas.Option.{slice_get-get_or}
use Rattle.std.proofs.lemmas.List.Filters.{dedup_is}
use Rattle.fact_table.specs.declared.fact.Fact.{Fact}
use Rattle.normaliser.specs.contracts.cuts.CutEq.TheImpl.Laws.{laws-law}
use Rattle.normaliser.specs.contracts.cuts.CutOrd.TheImpl.Laws.{matches_eq-law}
use Rattle.normaliser.specs.Cuts.{AreShared}
use Rattle.normaliser.proofs.CutLemmas.{cuts_with, all_cuts}
use Rattle.normaliser.proofs.cuts.cuts_of.Goals as goal

pub loop-place-preserved : goal.loop-place-preserved
loop-place-preserved c =
    let facts : List Fact = c.args.facts.now in
    let places : List ℕ = c.args.places.now in
    let place : ℕ = c.loop-place.place in
    let fact : Fact = c.index-facts-place.result in
    let marks = subst (AreShared places) (sym c.as_slice.ensures.value) c.in_ok-shared.ensures in
    let within = c.requires.within place (let l = c.loop-place-test.true in let e = c.requires.size in omega (arith, l, e)) in
    record {
      each = cuts_with facts places place c.as_slice.result.now marks within fact
          (slice_get-get_or facts place fact c.loop-place-test.true ∙ ap Some (sym c.index-facts-place.is))
          c.loop-place.cuts.items c.add_cuts.new.cuts.items c.loop-place.invariant.each
          c.in_ok-add_cuts.ensures.both c.in_ok-add_cuts.ensures.still;
      limit = c.in_ok-add_cuts.ensures.limit;
    }

pub returns : goal.returns
returns c =
    all_cuts c.args.facts.now c.args.places.now c.loop-place.place c.loop-place-test.false laws-law matches_eq-law
    c.loop-place.cuts.items c.sort_unstable.new.self.items c.dedup.new.self.items c.loop-place.invariant.each c.loop-place.invariant.limit
    c.sort_unstable.ensures.permutation c.sort_unstable.ensures.sorted (dedup_is _ _ _ c.dedup.ensures.filtered)
