use Rattle.std.proofs.Common.{◌≡◌, ℕ, ◌<◌, ◌≤◌, List, length, get_or, set, sym, ap, ◌∙◌, subst, ⊎_elim, arith}
use Rattle.std.proofs.lemmas.Bool.{cases_lt}
use Rattle.std.proofs.lemmas.Grind.{same_number_lists}
use Rattle.std.proofs.lemmas.List.{length-set, get_or-set_same, get_or-set_other}
use Rattle.normaliser.specs.Labels.{labels_of}
use Rattle.normaliser.proofs.LabelLemmas.{parents_set, same_labels, label_of_parent, label_of_its_own, length-labels_of}
use Rattle.normaliser.proofs.union.flatten.Goals as goal

pub loop-place-preserved : goal.loop-place-preserved
loop-place-preserved c =
    let ps : List ℕ = c.loop-place.parents in
    let h = c.loop-place.invariant in
    let place : ℕ = c.loop-place.place in
    let parent : ℕ = get_or ps place 0 in
    let root : ℕ = get_or ps parent 0 in
    let within : place < length ps = omega (arith, c.loop-place-test.true, h.size) in
    let up : parent ≤ place = h.fit place within in
    let top : root ≤ parent = h.fit parent (omega (arith, up, within)) in
    let is_label : root ≡ get_or (labels_of ps) place 0 = ⊎_elim
    (λ (before : parent < place).
    h.done parent before ∙ ap (λ l. get_or l parent 0) (sym h.labels) ∙ sym (label_of_parent ps h.fit place within))
    (λ (last : place ≤ parent).
    let same : parent ≡ place = omega (arith, last, up) in
    ap (λ k. get_or ps k 0) same ∙ same ∙ sym (label_of_its_own ps h.fit place within last))
    (cases_lt parent place) in
    let alike : get_or (labels_of ps) place 0 ≡ get_or (labels_of ps) root 0 =
    label_of_parent ps h.fit place within ∙ label_of_parent ps h.fit parent (omega (arith, up, within)) in
    record {
      fit = parents_set ps h.fit place root within (omega (arith, up, top));
      size = length-set ps place root ∙ h.size;
      labels = same_labels ps h.fit place root within (omega (arith, up, top)) alike (λ e. sym is_label ∙ e) ∙ h.labels;
      done = λ k l. ⊎_elim
          (λ (before : k < place). get_or-set_other ps place k root 0 (λ e. omega (arith, before, e)) ∙ h.done k before)
          (λ (last : place ≤ k).
          let same : place ≡ k = omega (arith, l, last) in
          subst (λ j. get_or (set ps place root) j 0 ≡ get_or (labels_of c.args.parents.now) j 0) same
          (get_or-set_same ps place root 0 within ∙ is_label ∙ ap (λ m. get_or m place 0) h.labels))
          (cases_lt k place);
    }

pub returns : goal.returns
returns c =
    let h = c.loop-place.invariant in
    same_number_lists c.loop-place.parents (labels_of c.args.parents.now) (h.size ∙ sym (length-labels_of c.args.parents.now))
    (λ k l. h.done k (omega (arith, l, h.size, c.loop-place-test.false)))
