-- Canonical texts, held against lines that were written by hand.
use Rattle.std.proofs.Common.{◌≡◌, [], ◌∷◌, ◌++◌, codes, refl}
use Rattle.rule_core.specs.declared.rules.Place.TheVariants.{Source, Target}
use Rattle.decl_text.specs.Canonical.{declaration_text}

source_line : declaration_text Source (record { name = codes "E"; columns = codes "name" ∷ codes "company" ∷ [] })
    ≡ codes "source E(name, company)" ++ 10 ∷ []
source_line = refl

target_line : declaration_text Target (record { name = codes "D"; columns = codes "x" ∷ [] }) ≡ codes "target D(x)" ++ 10 ∷ []
target_line = refl
