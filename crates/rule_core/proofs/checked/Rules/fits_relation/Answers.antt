use Rattle.rule_core.proofs.ValidityLemmas.{with_relation-valid, new_relation}
use Rattle.rule_core.proofs.checked.Rules.fits_relation.Goals as goal

pub returns : goal.returns
returns c = (
  λ t. with_relation-valid c.args.self.now c.args.place c.args.relation.now c.is_kept.ensures (c.is_new_relation.ensures.0 t),
  λ v. c.is_new_relation.ensures.1 (new_relation c.args.self.now c.args.place c.args.relation.now v),
)
