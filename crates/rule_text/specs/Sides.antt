-- The sides of an egd: variables of its body. No public clause cites this module.
use Rattle.std.specs.Prelude.{◌≡◌, ◌≢◌, ◌⊎◌, ℕ, ◌≤◌, List, codes, length, Contains}
use Rattle.rule_core.specs.Limits.{longest_name}
use Rattle.decl_text.specs.declared.token.Kind.TheVariants.{Name}
use Rattle.decl_text.specs.declared.token.Token.{Token}
use Rattle.decl_text.specs.declared.fault.Code.{Code}
use Rattle.decl_text.specs.declared.fault.Code.TheVariants.{X7, X9, U4}
use Rattle.decl_text.specs.Parts.{StandsNext, IsNoName}
use Rattle.decl_text.specs.Tests.{Lexeme}
use Rattle.rule_text.specs.RuleLine.{IsFirstAt}

-- from the one offset up to the other stands the name of the variable that is first at this number of the list
pub record IsSide (bytes : List ℕ) (from : ℕ) (vars : List (List ℕ)) (variable to : ℕ) : Type 0 where
  pub token : Token
  pub text : List ℕ
  pub ends : token.end ≡ to
  pub stands : StandsNext bytes from token (record { kind = Name; text = text })
  pub other : text ≢ codes "exists"
  pub short : length text ≤ longest_name
  pub first : IsFirstAt vars text variable

-- the token is no name, or the name of no variable
abbrev pub IsNoSide : List (List ℕ) → Lexeme → Code → Type 0
IsNoSide vars lexeme code = IsNoName X7 X9 lexeme code
    ⊎ ((lexeme.kind ≡ Name) × (lexeme.text ≢ codes "exists") × (length lexeme.text ≤ longest_name) × ¬ (Contains vars lexeme.text) × (code ≡ U4))
