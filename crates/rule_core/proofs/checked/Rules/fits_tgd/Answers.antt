use Rattle.rule_core.proofs.ValidityLemmas.{with_tgd-valid, new_tgd}
use Rattle.rule_core.proofs.checked.Rules.fits_tgd.Goals as goal

pub returns : goal.returns
returns c = (
  λ t. with_tgd-valid c.args.self.now c.args.tgd.now c.is_kept.ensures (c.is_new_tgd.ensures.0 t),
  λ v. c.is_new_tgd.ensures.1 (new_tgd c.args.self.now c.args.tgd.now v),
)
