-- The tokens of a text, one after another, and the texts in quotes among them.
use Rattle.std.specs.Prelude.{◌≡◌, ℕ, List, [], ◌∷◌, Contains}
use Rattle.decl_text.specs.declared.token.Kind.TheVariants.{Quoted}
use Rattle.decl_text.specs.declared.token.Token.{Token}
use Rattle.decl_text.specs.Tokens.{IsNextToken}
use Rattle.decl_text.specs.Tests.{Says}

-- from this offset on, these tokens stand in the bytes, each where the one before ends, up to that offset
abbrev pub Stand : List ℕ → ℕ → List Token → ℕ → Type 0
Stand bytes from [] to = to ≡ from
Stand bytes from (token ∷ tokens) to = IsNextToken bytes from token × Stand bytes token.end tokens to

-- the text stands in quotes among the tokens from this offset on
abbrev pub IsQuotedFrom : List ℕ → ℕ → List ℕ → Type 0
IsQuotedFrom bytes from text = (tokens : List Token) × (to : ℕ) × (token : Token)
    × Stand bytes from tokens to × Contains tokens token × Says bytes token (record { kind = Quoted; text = text })

-- the list has each text that stands in quotes from this offset on
abbrev pub KnowsTexts : List ℕ → ℕ → List (List ℕ) → Type 0
KnowsTexts bytes from texts = (text : List ℕ) → IsQuotedFrom bytes from text → Contains texts text
