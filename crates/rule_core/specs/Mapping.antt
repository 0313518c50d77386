-- A mapping: the relations of both sides, the rules between them, and the queries on the target.
use Rattle.std.specs.Prelude.{ℕ, List, ◌++◌, map}
use Rattle.rule_core.specs.declared.rules.Relation.{Relation}
use Rattle.rule_core.specs.declared.rules.Tgd.{Tgd}
use Rattle.rule_core.specs.declared.rules.Egd.{Egd}
use Rattle.rule_core.specs.declared.rules.Query.{Query}

-- relations, rules and queries, each told by its place in its list
pub record RuleSet : Type 0 where
  pub sources : List Relation
  pub targets : List Relation
  pub tgds : List Tgd
  pub egds : List Egd
  pub queries : List Query

-- the mapping of these lists
abbrev pub rules_of : List Relation → List Relation → List Tgd → List Egd → List Query → RuleSet
rules_of sources targets tgds egds queries = record { sources = sources; targets = targets; tgds = tgds; egds = egds; queries = queries }

-- the names of the rules, of one kind after the other
abbrev pub rule_names : RuleSet → List (List ℕ)
rule_names rules = map (λ tgd. tgd.name) rules.tgds ++ map (λ egd. egd.name) rules.egds
