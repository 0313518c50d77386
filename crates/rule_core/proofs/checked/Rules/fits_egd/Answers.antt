use Rattle.rule_core.proofs.ValidityLemmas.{with_egd-valid, new_egd}
use Rattle.rule_core.proofs.checked.Rules.fits_egd.Goals as goal

pub returns : goal.returns
returns c = (
  λ t. with_egd-valid c.args.self.now c.args.egd.now c.is_kept.ensures (c.is_new_egd.ensures.0 t),
  λ v. c.is_new_egd.ensures.1 (new_egd c.args.self.now c.args.egd.now v),
)
