-- A mapping with the texts of its constants.
use Rattle.std.specs.Prelude.{◌≡◌, ◌⊎◌, ℕ, ◌<◌, ◌≤◌, List, length, All, Any, IsUtf8, Some, slice_get}
use Rattle.term_core.specs.declared.const_id.ConstId.{ConstId}
use Rattle.rule_core.specs.Limits.{longest_constant}
use Rattle.rule_core.specs.Mapping.{RuleSet}
use Rattle.rule_text.specs.declared.rule.Rule.TheVariants.{Tgd, Egd, Query}
use Rattle.rule_text.specs.Constants.{HasConstant}

-- what a mapping is: its relations, rules and queries, and the texts of its constants, each told by its number
pub record Meaning : Type 0 where
  pub rules : RuleSet
  pub pool : List (List ℕ)

-- the mapping of these rules and these texts
abbrev pub meaning_of : RuleSet → List (List ℕ) → Meaning
meaning_of rules pool = record { rules = rules; pool = pool }

-- a tgd, an egd or a query of the mapping has the constant
abbrev pub AnyHasConstant : RuleSet → ConstId → Type 0
AnyHasConstant rules constant =
    Any (λ tgd. HasConstant (Tgd tgd) constant) rules.tgds
    ⊎ Any (λ egd. HasConstant (Egd egd) constant) rules.egds
    ⊎ Any (λ query. HasConstant (Query query) constant) rules.queries

-- the text is that of a constant of the mapping
abbrev pub IsConstantText : RuleSet → List (List ℕ) → List ℕ → Type 0
IsConstantText rules pool text = (constant : ConstId) × AnyHasConstant rules constant × (slice_get pool constant.0 ≡ Some text)

-- the pool has exactly the constants of the mapping: each constant has its text there, and each text is a constant's;
-- a text is in UTF-8 and no longer than the longest
pub record HasItsConstants (rules : RuleSet) (pool : List (List ℕ)) : Type 0 where
  pub there : (constant : ConstId) → AnyHasConstant rules constant → constant.0 < length pool
  pub used : All (IsConstantText rules pool) pool
  pub utf8 : All IsUtf8 pool
  pub short : All (λ text. length text ≤ longest_constant) pool
