-- The text of a whole mapping: the tests of each of its tokens, the texts of its constants, and its first fault.
use Rattle.std.specs.Prelude.{◌≡◌, ◌⊎◌, ◌↔◌, ℕ, List, [], codes, Contains}
use Rattle.term_core.specs.Pool.{IsPool}
use Rattle.rule_core.specs.Mapping.{RuleSet, rules_of}
use Rattle.rule_core.specs.Adding.{with_relation}
use Rattle.decl_text.specs.declared.fault.MappingFault.{MappingFault}
use Rattle.decl_text.specs.Tests.{Lexeme, Outcome, goes, stops, Goes, When, Finishes, Fails}
use Rattle.decl_text.specs.TokenList.{IsQuotedFrom}
use Rattle.decl_text.specs.Declaration.{IsKeyword, EndsLine, DeclarationPosition, declared, declaration_tests}
use Rattle.decl_text.specs.Declaration as declaration
use Rattle.rule_text.specs.RuleLine.{RulePosition, stated, rule_tests}
use Rattle.rule_text.specs.RuleLine as rule
use Rattle.rule_text.specs.Adding.{with_rule}
use Rattle.mapping_core.specs.Mapping.{Meaning}

-- where the text stands after some of its tokens: at the beginning of a line, or in a line, after these rules
pub data MappingPosition : Type 0 where
  at_line : RuleSet → MappingPosition
  in_declaration : RuleSet → DeclarationPosition → MappingPosition
  in_rule : RuleSet → RulePosition → MappingPosition

-- after a whole declaration the next line begins, where the relation is added
abbrev pub of_declaration : RuleSet → DeclarationPosition → MappingPosition
of_declaration rules (declared place relation) = at_line (with_relation rules place relation)
of_declaration rules other = in_declaration rules other

-- after a whole rule the next line begins, where the rule is added
abbrev pub of_rule : RuleSet → RulePosition → MappingPosition
of_rule rules (stated rule) = at_line (with_rule rules rule)
of_rule rules other = in_rule rules other

module _ {P Q : Type 0} where
  -- the outcome, where the position that follows is taken so
  abbrev pub placed : (P → Q) → Outcome P → Outcome Q
  placed position_of (goes position) = goes (position_of position)
  placed position_of (stops code) = stops code

  -- a token of a line is tested by the tests of the line
  abbrev pub Within : (P → Q) → (Outcome P → Type 0) → Outcome Q → Type 0
  Within position_of line_tests outcome = (inner : Outcome P) × line_tests inner × (outcome ≡ placed position_of inner)

-- the token is the first word of a rule
abbrev pub BeginsRule : Lexeme → Type 0
BeginsRule token = IsKeyword token (codes "tgd") ⊎ IsKeyword token (codes "egd") ⊎ IsKeyword token (codes "query")

-- the tests of the next token; the constants are in this pool
abbrev pub mapping_tests : List (List ℕ) → MappingPosition → Lexeme → Outcome MappingPosition → Type 0
mapping_tests pool (at_line rules) token =
    When (EndsLine token) (Goes (at_line rules))
    (When (BeginsRule token) (Within (of_rule rules) (rule_tests rules pool rule.begins token))
    (Within (of_declaration rules) (declaration_tests rules declaration.begins token)))
mapping_tests pool (in_declaration rules position) token = Within (of_declaration rules) (declaration_tests rules position token)
mapping_tests pool (in_rule rules position) token = Within (of_rule rules) (rule_tests rules pool position token)

-- no relation, no rule and no query
abbrev pub no_rules : RuleSet
no_rules = rules_of [] [] [] [] []

-- the texts in the order of their bytes, each once, that stand in quotes before the first fault of a token
pub record IsPoolOf (bytes : List ℕ) (pool : List (List ℕ)) : Type 0 where
  pub ordered : IsPool pool
  pub quoted : (text : List ℕ) → Contains pool text ↔ IsQuotedFrom bytes 0 text

-- the bytes are the text of this mapping
pub record IsMapping (bytes : List ℕ) (mapping : Meaning) : Type 0 where
  pub pool : IsPoolOf bytes mapping.pool
  pub lines : Finishes (mapping_tests mapping.pool) bytes 0 (at_line no_rules) (at_line mapping.rules)

-- the text is no mapping, and this is its first fault
pub record IsFirstFault (bytes : List ℕ) (fault : MappingFault) : Type 0 where
  pub texts : List (List ℕ)
  pub pool : IsPoolOf bytes texts
  pub fails : Fails (mapping_tests texts) bytes 0 (at_line no_rules) fault
