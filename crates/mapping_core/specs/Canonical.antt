-- The canonical text of a mapping.
use Rattle.std.specs.Prelude.{ℕ, List, ◌++◌}
use Rattle.std.specs.List.{flat_map}
use Rattle.rule_core.specs.declared.rules.Place.TheVariants.{Source, Target}
use Rattle.decl_text.specs.Canonical.{declaration_text}
use Rattle.rule_text.specs.declared.rule.Rule.TheVariants.{Tgd, Egd, Query}
use Rattle.rule_text.specs.Canonical.{rule_text}
use Rattle.mapping_core.specs.Mapping.{Meaning}

-- a line for each relation of the source, each relation of the target, each tgd, each egd and each query, in their order
abbrev pub mapping_text : Meaning → List ℕ
mapping_text mapping =
    flat_map (declaration_text Source) mapping.rules.sources
    ++ (flat_map (declaration_text Target) mapping.rules.targets
    ++ (flat_map (λ tgd. rule_text mapping.rules mapping.pool (Tgd tgd)) mapping.rules.tgds
    ++ (flat_map (λ egd. rule_text mapping.rules mapping.pool (Egd egd)) mapping.rules.egds
    ++ flat_map (λ query. rule_text mapping.rules mapping.pool (Query query)) mapping.rules.queries)))
