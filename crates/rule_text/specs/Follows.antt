-- What follows an item of a list, and what ends a line. No public clause cites this module.
use Rattle.std.specs.Prelude.{◌≡◌, ◌≢◌, ℕ, List, []}
use Rattle.decl_text.specs.declared.token.Kind.{Kind}
use Rattle.decl_text.specs.declared.token.Kind.TheVariants.{Comma}
use Rattle.decl_text.specs.declared.token.Token.{Token}
use Rattle.decl_text.specs.declared.fault.Code.{Code}
use Rattle.decl_text.specs.Tests.{Lexeme}
use Rattle.decl_text.specs.Parts.{StandsNext}
use Rattle.decl_text.specs.Declaration.{EndsLine}
use Rattle.rule_text.specs.declared.follows.After.{After}
use Rattle.rule_text.specs.declared.follows.After.TheVariants.{Next, Closed}

-- from this offset on, a sign of this kind stands next, up to that offset
abbrev pub StandsSign : List ℕ → ℕ → Kind → ℕ → Type 0
StandsSign bytes from kind to = (token : Token) × (token.end ≡ to) × StandsNext bytes from token (record { kind = kind; text = [] })

-- the offset after the sign
abbrev pub offset_of : After → ℕ
offset_of (Next to) = to
offset_of (Closed to) = to

-- after an item stands a comma, or the sign that closes the list
abbrev pub IsAfter : List ℕ → ℕ → Kind → After → Type 0
IsAfter bytes from close (Next to) = StandsSign bytes from Comma to
IsAfter bytes from close (Closed to) = StandsSign bytes from close to

-- the token is neither a comma nor the sign that closes the list
abbrev pub IsNoAfter : Kind → Code → Lexeme → Code → Type 0
IsNoAfter close wrong lexeme code = (lexeme.kind ≢ Comma) × (lexeme.kind ≢ close) × (code ≡ wrong)

-- from this offset on, the line ends, and the next one begins at that offset
abbrev pub StandsEnd : List ℕ → ℕ → ℕ → Type 0
StandsEnd bytes from to = (token : Token) × (lexeme : Lexeme) × (token.end ≡ to) × StandsNext bytes from token lexeme × EndsLine lexeme

-- the token doesn't end the line
abbrev pub IsNoEnd : Code → Lexeme → Code → Type 0
IsNoEnd wrong lexeme code = ¬ (EndsLine lexeme) × (code ≡ wrong)
