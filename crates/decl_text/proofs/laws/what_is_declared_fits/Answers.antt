use Rattle.decl_text.proofs.FitLemmas.{declared_fits}
use Rattle.decl_text.proofs.laws.what_is_declared_fits.Goals as goal

pub returns : goal.returns
returns c = declared_fits
