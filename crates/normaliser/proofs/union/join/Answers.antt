use Rattle.std.proofs.Common.{◌≡◌, ℕ, ◌<◌, List, length, get_or, set, map, ap, ◌∙◌, arith}
use Rattle.normaliser.specs.Labels.{labels_of, merged}
use Rattle.normaliser.proofs.LabelLemmas.{labels_joined}
use Rattle.normaliser.proofs.union.join.Goals as goal

pub returns-clause-labels : goal.returns-clause-labels
returns-clause-labels c =
    let now : List ℕ = c.root-b.new.parents in
    let x : ℕ = c.root-a.result in
    let y : ℕ = c.root-b.result in
    let a = c.root-a.ensures in
    let b = c.root-b.ensures in
    let same : labels_of now ≡ labels_of c.args.parents.now = b.labels ∙ a.labels in
    let in_x : x < length now = omega (arith, a.within, a.size, b.size) in
    let in_y : y < length now = omega (arith, b.within, b.size) in
    let own_x : get_or (labels_of now) x 0 ≡ x = ap (λ l. get_or l x 0) same ∙ a.own in
    let own_y : get_or (labels_of now) y 0 ≡ y = ap (λ l. get_or l y 0) b.labels ∙ b.own in
    let of_b : y ≡ get_or (labels_of c.args.parents.now) c.args.b 0 = b.root ∙ ap (λ l. get_or l c.args.b 0) a.labels in
    (λ i. labels_of (set now (c.max.ensures i) (c.min.ensures i)))
    ∙ labels_joined now b.parents x y in_x in_y own_x own_y
    ∙ (λ i. map (merged (a.root i) (of_b i)) (same i))
