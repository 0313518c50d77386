-- What is known of a mapping's text after some of its lines. No public clause cites this module.
use Rattle.std.specs.Prelude.{◌⊎◌, ◌↔◌, ℕ, ◌<◌, ◌≤◌, List, length, Contains}
use Rattle.term_core.specs.declared.const_id.ConstId.{ConstId}
use Rattle.rule_core.specs.Limits.{longest_constant}
use Rattle.rule_core.specs.Mapping.{RuleSet}
use Rattle.decl_text.specs.declared.token.Kind.TheVariants.{Quoted}
use Rattle.decl_text.specs.declared.token.Token.{Token}
use Rattle.decl_text.specs.Tests.{Lexeme, Says, Leads}
use Rattle.decl_text.specs.TokenList.{IsQuotedFrom}
use Rattle.decl_text.specs.Parts.{StandsNext}
use Rattle.decl_text.specs.Declaration.{EndsLine}
use Rattle.mapping_core.specs.Mapping.{AnyHasConstant, IsConstantText}
use Rattle.mapping_core.specs.Reading.{at_line, no_rules, mapping_tests, BeginsRule}

-- the token says this text in quotes
abbrev pub SaysQuoted : List ℕ → Token → List ℕ → Type 0
SaysQuoted bytes token text = Says bytes token (record { kind = Quoted; text = text })

-- the texts are those that stand in quotes before this offset, and there are no more of them than bytes there
pub record Gathers (bytes : List ℕ) (texts : List (List ℕ)) (offset : ℕ) : Type 0 where
  pub within : offset ≤ length bytes
  pub few : length texts ≤ offset
  pub quoted : (text : List ℕ) → IsQuotedFrom bytes 0 text ↔ (Contains texts text ⊎ IsQuotedFrom bytes offset text)

-- up to this offset the text has these rules, and what stands in quotes before the offset are the texts of their constants
pub record ReadsTo (bytes : List ℕ) (pool : List (List ℕ)) (offset : ℕ) (rules : RuleSet) : Type 0 where
  pub lines : Leads (mapping_tests pool) bytes 0 (at_line no_rules) offset (at_line rules)
  pub quoted : (text : List ℕ) → IsQuotedFrom bytes 0 text ↔ (IsConstantText rules pool text ⊎ IsQuotedFrom bytes offset text)
  pub short : (text : List ℕ) → IsConstantText rules pool text → length text ≤ longest_constant
  pub there : (constant : ConstId) → AnyHasConstant rules constant → constant.0 < length pool

-- a line of a rule begins here
abbrev pub RuleBegins : List ℕ → ℕ → Type 0
RuleBegins bytes from = (token : Token) (lexeme : Lexeme) → StandsNext bytes from token lexeme → BeginsRule lexeme

-- neither a line of a rule nor an empty line begins here
abbrev pub OtherBegins : List ℕ → ℕ → Type 0
OtherBegins bytes from = (token : Token) (lexeme : Lexeme) → StandsNext bytes from token lexeme → ¬ EndsLine lexeme × ¬ BeginsRule lexeme
