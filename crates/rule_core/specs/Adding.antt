-- What is added to a mapping, and where a relation stands in it.
use Rattle.std.specs.Prelude.{◌≡◌, ◌≢◌, ℕ, ◌+◌, ◌<◌, List, [], ◌∷◌, ◌++◌, length, All, IsSomeAnd, slice_get}
use Rattle.rule_core.specs.declared.rules.Place.{Place}
use Rattle.rule_core.specs.declared.rules.Place.TheVariants.{Source, Target}
use Rattle.rule_core.specs.declared.rules.Relation.{Relation}
use Rattle.rule_core.specs.declared.rules.Tgd.{Tgd}
use Rattle.rule_core.specs.declared.rules.Egd.{Egd}
use Rattle.rule_core.specs.declared.rules.Query.{Query}
use Rattle.rule_core.specs.Limits.{most_relations, most_tgds, most_egds, most_queries}
use Rattle.rule_core.specs.Mapping.{RuleSet, rule_names}
use Rattle.rule_core.specs.Validity.{IsRelation, IsTgd, IsEgd, IsQuery}

-- the relations of a side
abbrev pub relations_of : RuleSet → Place → List Relation
relations_of rules Source = rules.sources
relations_of rules Target = rules.targets

-- the mapping with one more relation, last on its side
abbrev pub with_relation : RuleSet → Place → Relation → RuleSet
with_relation rules Source relation = record rules { sources = rules.sources ++ relation ∷ [] }
with_relation rules Target relation = record rules { targets = rules.targets ++ relation ∷ [] }

-- the mapping with one more tgd as the last
abbrev pub with_tgd : RuleSet → Tgd → RuleSet
with_tgd rules tgd = record rules { tgds = rules.tgds ++ tgd ∷ [] }

-- the mapping with one more egd as the last
abbrev pub with_egd : RuleSet → Egd → RuleSet
with_egd rules egd = record rules { egds = rules.egds ++ egd ∷ [] }

-- the mapping with one more query as the last
abbrev pub with_query : RuleSet → Query → RuleSet
with_query rules query = record rules { queries = rules.queries ++ query ∷ [] }

-- the relation with this number on this side has the name
abbrev pub IsNamedAt : RuleSet → List ℕ → Place → ℕ → Type 0
IsNamedAt rules name place number = IsSomeAnd (slice_get (relations_of rules place) number) (λ r. r.name ≡ name)

-- no relation of either side has the name
abbrev pub IsNewRelationName : RuleSet → List ℕ → Type 0
IsNewRelationName rules name = All (λ r. r.name ≢ name) rules.sources × All (λ r. r.name ≢ name) rules.targets

-- no rule of any kind has the name
abbrev pub IsNewRuleName : RuleSet → List ℕ → Type 0
IsNewRuleName rules name = All (λ other. other ≢ name) (rule_names rules)

-- no query has the name
abbrev pub IsNewQueryName : RuleSet → List ℕ → Type 0
IsNewQueryName rules name = All (λ q. q.name ≢ name) rules.queries

-- what a new relation must meet: there is room for it, and its name is new
pub record IsNewRelation (rules : RuleSet) (relation : Relation) : Type 0 where
  pub room : length rules.sources + length rules.targets < most_relations
  pub valid : IsRelation relation
  pub name : IsNewRelationName rules relation.name

-- what a new tgd must meet
pub record IsNewTgd (rules : RuleSet) (tgd : Tgd) : Type 0 where
  pub room : length rules.tgds < most_tgds
  pub valid : IsTgd rules.sources rules.targets tgd
  pub name : IsNewRuleName rules tgd.name

-- what a new egd must meet
pub record IsNewEgd (rules : RuleSet) (egd : Egd) : Type 0 where
  pub room : length rules.egds < most_egds
  pub valid : IsEgd rules.targets egd
  pub name : IsNewRuleName rules egd.name

-- what a new query must meet
pub record IsNewQuery (rules : RuleSet) (query : Query) : Type 0 where
  pub room : length rules.queries < most_queries
  pub valid : IsQuery rules.targets query
  pub name : IsNewQueryName rules query.name
