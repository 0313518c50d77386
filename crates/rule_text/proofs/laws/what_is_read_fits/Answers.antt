use Rattle.rule_text.proofs.FitLemmas.{rule_fits}
use Rattle.rule_text.proofs.laws.what_is_read_fits.Goals as goal

pub returns : goal.returns
returns c = rule_fits
