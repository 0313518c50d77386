use Rattle.std.proofs.Common.{◌≡◌, ◌∷◌, [], List, length, ap, sym, ◌∙◌, subst, arith}
use Rattle.tgd_chase.specs.Merging.{AreMerged}
use Rattle.tgd_chase.proofs.MergeLemmas.{AreMergedSoFar, merged_none, merged_more, merged_all}
use Rattle.tgd_chase.proofs.merging.merge.Goals as goal

pub loop-candidate-init : goal.loop-candidate-init
loop-candidate-init c =
    let gives = c.into_iter-candidate-iterator.ensures.into_iter_gives in
    record {
      size = omega (arith, gives.1, ap length gives.0);
      merged = merged_none c.in_ok-firings.firings.items c.into_iter-candidate-iterator.result.rest.items c.args.candidates.items
          c.in_ok-firings.ensures.items gives.0 c.requires.sorted c.requires.instants;
    }

pub loop-candidate-preserved : goal.loop-candidate-preserved
loop-candidate-preserved c =
    let rest = c.next.new.self.rest.items in
    let steps = c.in-Some.ensures.steps in
    record {
      size = omega (arith, steps.1, ap length steps.0, c.loop-candidate.invariant.size);
      merged = merged_more c.in-Some.candidate c.loop-candidate.firings.items c.take.new.firings.items rest c.args.candidates.items
          c.requires.instants
          (subst (λ l. AreMergedSoFar c.loop-candidate.firings.items l c.args.candidates.items) steps.0 c.loop-candidate.invariant.merged)
          c.in_ok-take.ensures;
    }

-- a list with no element
none_left : {X : Type 0} (xs : List X) → length xs ≡ 0 → xs ≡ []
none_left [] e = λ i. []
none_left (x ∷ xs) e = absurd (omega (arith, e))

pub returns : goal.returns
returns c =
    let firings = c.loop-candidate.firings.items in
    let rest = c.loop-candidate.candidate-iterator.rest.items in
    let all = c.args.candidates.items in
    let none : rest ≡ [] = none_left rest (sym c.loop-candidate.invariant.size ∙ c.in-None.ensures.steps.0) in
    subst (AreMerged all) (sym c.from_vec.ensures)
    (merged_all firings all (subst (λ l. AreMergedSoFar firings l all) none c.loop-candidate.invariant.merged))
