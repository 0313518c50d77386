-- Texts in quotes: four characters are escaped, and all others stand as they are, in UTF-8.
use Rattle.std.specs.Prelude.{◌≡◌, ◌==◌, ℕ, cond, true, List, [], ◌∷◌, ◌++◌, encode_utf8_all}
use Rattle.std.specs.Char.{encode_utf8}
use Rattle.std.specs.Str.{all_scalars}
use Rattle.std.specs.List.{flat_map}

-- how a character stands in quotes: a quote, a backslash, a line feed and a carriage return by their escapes
abbrev pub in_quotes : ℕ → List ℕ
in_quotes c =
    cond (c == 34) (92 ∷ 34 ∷ []) (cond (c == 92) (92 ∷ 92 ∷ []) (cond (c == 10) (92 ∷ 110 ∷ []) (cond (c == 13) (92 ∷ 114 ∷ []) (encode_utf8 c))))

-- the bytes are an opening quote, these characters, and then the rest
pub record Opens (characters bytes rest : List ℕ) : Type 0 where
  pub characters_are : all_scalars characters ≡ true
  pub bytes_are : bytes ≡ 34 ∷ (flat_map in_quotes characters ++ rest)

-- the bytes are a whole text in quotes, and this is the text
abbrev pub IsQuoted : List ℕ → List ℕ → Type 0
IsQuoted bytes text = (characters : List ℕ) × Opens characters bytes (34 ∷ []) × (text ≡ encode_utf8_all characters)
