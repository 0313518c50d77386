-- What stands in quotes from an offset on. No public clause cites this module.
use Rattle.std.specs.Prelude.{◌≡◌, ◌==◌, ◌||◌, Bool, IsTrue, ⊤, ℕ, [], List, ◌∷◌, ◌++◌}
use Rattle.std.specs.Char.{IsScalar}
use Rattle.decl_text.specs.declared.quotes.Piece.{Piece}
use Rattle.decl_text.specs.declared.quotes.Piece.TheVariants.{Character, Close, Stop}
use Rattle.decl_text.specs.Quotes.{in_quotes}
use Rattle.decl_text.specs.Tokens.{is_blank, StopsQuotes}

-- a character, the closing quote, or what stops the text
abbrev pub IsPiece : Piece → List ℕ → Type 0
IsPiece (Character c) bytes = IsScalar c × ((rest : List ℕ) × (bytes ≡ in_quotes c ++ rest))
IsPiece Close bytes = (rest : List ℕ) × (bytes ≡ 34 ∷ rest)
IsPiece (Stop code) bytes = StopsQuotes code bytes

-- one of the four characters that are escaped
abbrev pub is_escaped : ℕ → Bool
is_escaped c = ((c == 34) || (c == 92)) || ((c == 10) || (c == 13))

-- no blank begins here
abbrev pub EndsBlanks : List ℕ → Type 0
EndsBlanks [] = ⊤
EndsBlanks (b ∷ bs) = ¬ (IsTrue (is_blank b))
