use Rattle.std.proofs.Common.{◌≡◌, ℕ, ◌<◌, ◌≤◌, List, length, get_or, sym, ap, ◌∙◌, arith}
use Rattle.std.proofs.lemmas.List.{length-set}
use Rattle.normaliser.specs.Labels.{labels_of}
use Rattle.normaliser.proofs.LabelLemmas.{parents_set, same_labels, label_of_parent, label_of_its_own}
use Rattle.normaliser.proofs.union.root.Goals as goal

pub loop-parents-preserved : goal.loop-parents-preserved
loop-parents-preserved c =
    let ps : List ℕ = c.loop-parents.parents in
    let h = c.loop-parents.invariant in
    let at : ℕ = c.loop-parents.at in
    let parent : ℕ = get_or ps at 0 in
    let above : ℕ = get_or ps parent 0 in
    let within : at < length ps = omega (arith, h.within, h.size) in
    let down : parent < at = c.loop-parents-test.true in
    let below : parent < length ps = omega (arith, within, down) in
    let up : above ≤ parent = h.fit parent below in
    let alike : get_or (labels_of ps) at 0 ≡ get_or (labels_of ps) above 0 =
    label_of_parent ps h.fit at within ∙ label_of_parent ps h.fit parent below in
    let old : get_or (labels_of c.args.parents.now) above 0 ≡ get_or (labels_of c.args.parents.now) at 0 =
    ap (λ l. get_or l above 0) (sym h.labels) ∙ sym alike ∙ ap (λ l. get_or l at 0) h.labels in
    record {
      fit = parents_set ps h.fit at above within (omega (arith, up, down));
      size = length-set ps at above ∙ h.size;
      within = omega (arith, up, down, h.within);
      labels = same_labels ps h.fit at above within (omega (arith, up, down)) alike (λ e. absurd (omega (arith, e, up, down))) ∙ h.labels;
      alike = old ∙ h.alike;
    }

pub returns-clause-root : goal.returns-clause-root
returns-clause-root c =
    let h = c.loop-parents.invariant in
    let within : c.loop-parents.at < length c.loop-parents.parents = omega (arith, h.within, h.size) in
    sym (ap (λ l. get_or l c.loop-parents.at 0) (sym h.labels)
    ∙ label_of_its_own c.loop-parents.parents h.fit c.loop-parents.at within c.loop-parents-test.false) ∙ h.alike

pub returns-clause-own : goal.returns-clause-own
returns-clause-own c =
    let h = c.loop-parents.invariant in
    let within : c.loop-parents.at < length c.loop-parents.parents = omega (arith, h.within, h.size) in
    ap (λ l. get_or l c.loop-parents.at 0) (sym h.labels)
    ∙ label_of_its_own c.loop-parents.parents h.fit c.loop-parents.at within c.loop-parents-test.false
