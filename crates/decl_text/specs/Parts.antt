-- The next token with its text, and what a line's reader says of one that isn't what it wants.
use Rattle.std.specs.Prelude.{◌≡◌, ◌≢◌, ◌⊎◌, ℕ, ◌<◌, List, codes, length}
use Rattle.rule_core.specs.Limits.{longest_name}
use Rattle.decl_text.specs.declared.token.Kind.{Kind}
use Rattle.decl_text.specs.declared.token.Kind.TheVariants.{Name}
use Rattle.decl_text.specs.declared.token.Token.{Token}
use Rattle.decl_text.specs.declared.fault.Code.{Code}
use Rattle.decl_text.specs.declared.fault.Code.TheVariants.{U6}
use Rattle.decl_text.specs.declared.fault.MappingFault.{MappingFault}
use Rattle.decl_text.specs.Tokens.{IsNextToken, IsNextFault}
use Rattle.decl_text.specs.Tests.{Lexeme, Says}

-- from this offset on, the token stands next, and says this
pub record StandsNext (bytes : List ℕ) (from : ℕ) (token : Token) (lexeme : Lexeme) : Type 0 where
  pub next : IsNextToken bytes from token
  pub says : Says bytes token lexeme

-- the next token has a fault of its own, or it is bad in this way, and the fault is placed at its first byte
abbrev pub FailsAt : List ℕ → ℕ → (Lexeme → Code → Type 0) → MappingFault → Type 0
FailsAt bytes from IsBad fault = IsNextFault bytes from fault
    ⊎ ((token : Token) × (lexeme : Lexeme) × StandsNext bytes from token lexeme × IsBad lexeme fault.code × (fault.place ≡ token.start))

-- the token is of another kind
abbrev pub IsOther : Kind → Code → Lexeme → Code → Type 0
IsOther kind wrong lexeme code = (lexeme.kind ≢ kind) × (code ≡ wrong)

-- the token is no name, or the word `exists`, or too long, in this order
abbrev pub IsNoName : Code → Code → Lexeme → Code → Type 0
IsNoName wrong word lexeme code =
    ((lexeme.kind ≢ Name) × (code ≡ wrong))
    ⊎ ((lexeme.kind ≡ Name) × (lexeme.text ≡ codes "exists") × (code ≡ word))
    ⊎ ((lexeme.kind ≡ Name) × (lexeme.text ≢ codes "exists") × (longest_name < length lexeme.text) × (code ≡ U6))
