use Rattle.std.proofs.Common.{refl}
use Rattle.mapping_core.specs.Canonical.{mapping_text}
use Rattle.mapping_core.proofs.BackLemmas.{read_back}
use Rattle.mapping_core.proofs.laws.mappings_are_read_back.Goals as goal

pub returns : goal.returns
returns c m valid ordered constants =
    read_back m valid ordered constants (mapping_text m) _ _ _ _ _ refl refl refl refl refl refl
