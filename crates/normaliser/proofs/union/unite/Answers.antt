use Rattle.std.proofs.Common.{ℕ, List, sym, ◌∙◌, arith}
use Rattle.normaliser.specs.Labels.{labels_of}
use Rattle.normaliser.proofs.LabelLemmas.{unites_more, length-labels_of}
use Rattle.normaliser.proofs.union.unite.Goals as goal

pub loop-other-preserved : goal.loop-other-preserved
loop-other-preserved c =
    let places : List ℕ = c.args.places.now in
    let k : ℕ = c.loop-other.other in
    let old : List ℕ = c.loop-other.parents in
    let new : List ℕ = c.join_there.new.parents in
    let h = c.loop-other.invariant in
    let size = length-labels_of old in
    let now = length-labels_of new in
    record {
      fit = c.join_there.ensures.parents;
      size = c.join_there.ensures.size ∙ h.size;
      unites = unites_more places k (labels_of c.args.parents.now) (labels_of old) (labels_of new) (omega (arith, c.loop-other.auto.other))
          c.loop-other-test.true h.unites (now ∙ c.join_there.ensures.size ∙ sym size)
          (λ first second. c.join_there.ensures.labels (omega (arith, first, size)) (omega (arith, second, size)));
    }
