use Rattle.rule_core.proofs.ValidityLemmas.{with_query-valid, new_query}
use Rattle.rule_core.proofs.checked.Rules.fits_query.Goals as goal

pub returns : goal.returns
returns c = (
  λ t. with_query-valid c.args.self.now c.args.query.now c.is_kept.ensures (c.is_new_query.ensures.0 t),
  λ v. c.is_new_query.ensures.1 (new_query c.args.self.now c.args.query.now v),
)
