use Rattle.std.proofs.Common.{sym, ap, ◌∙◌, subst}
use Rattle.normaliser.specs.Labels.{AreParents, labels_of}
use Rattle.normaliser.proofs.LabelLemmas.{own_parents, own_labels}
use Rattle.normaliser.proofs.union.Union.new.Goals as goal

pub invariant_of-result : goal.invariant_of-result
invariant_of-result c = subst AreParents (sym c.in_ok-parents.ensures) (own_parents c.args.count)

pub returns : goal.returns
returns c = ap labels_of c.in_ok-parents.ensures ∙ own_labels c.args.count
