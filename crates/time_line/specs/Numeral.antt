-- Numbers, ends and marks as texts: `0`, or an optional `-`, a digit 1 to 9 and any digits; a word for an absent end;
-- `?` and a number from 1 for a mark.
use Rattle.std.specs.Prelude.{◌≡◌, ◌⊎◌, ℕ, ◌≤◌, ◌+◌, ◌*◌, ◌-◌, ◌==◌, if◌then◌else◌, ℤ, pos, neg_ℤ}
use Rattle.std.specs.Prelude.{List, [], ◌∷◌, codes, fold, Option, Some, None}
use Rattle.std.specs.List.{AllByRecursion}
use Rattle.std.specs.Fmt.{signed_decimal}
use Rattle.time_line.specs.declared.text.Side.{Side}
use Rattle.time_line.specs.declared.text.Side.TheVariants.{Start, End}

-- a digit 0 to 9
abbrev pub IsDigit : ℕ → Type 0
IsDigit c = (48 ≤ c) × (c ≤ 57)

-- a digit 1 to 9, and then any digits
abbrev pub IsPositive : List ℕ → Type 0
IsPositive [] = ⊥
IsPositive (d ∷ ds) = (49 ≤ d) × (d ≤ 57) × AllByRecursion IsDigit ds

-- `0`, or an optional `-` and a number that is not 0
abbrev pub IsNumber : List ℕ → Type 0
IsNumber text = (text ≡ codes "0") ⊎ IsPositive text ⊎ ((digits : List ℕ) × (text ≡ 45 ∷ digits) × IsPositive digits)

-- what digits stand for
abbrev pub value_of : List ℕ → ℕ
value_of digits = fold (λ n d. 10 * n + (d - 48)) 0 digits

-- what a number stands for
abbrev pub number_of : List ℕ → ℤ
number_of [] = pos 0
number_of (c ∷ cs) = if c == 45 then neg_ℤ (pos (value_of cs)) else pos (value_of (c ∷ cs))

-- the byte `?`, with which a mark begins
abbrev pub mark : ℕ
mark = 63

-- the text is `?n`, the mark of the number n from 1
abbrev pub IsMark : List ℕ → ℕ → Type 0
IsMark text n = (digits : List ℕ) × (text ≡ mark ∷ digits) × IsPositive digits × (value_of digits ≡ n)

-- the word for an absent end
abbrev pub word_of : Side → List ℕ
word_of Start = codes "-inf"
word_of End = codes "inf"

-- the text is this end
abbrev pub IsEnd : Side → List ℕ → Option ℤ → Type 0
IsEnd side text None = text ≡ word_of side
IsEnd side text (Some end) = IsNumber text × (number_of text ≡ end)

-- the one text of an end
abbrev pub end_text : Side → Option ℤ → List ℕ
end_text side None = word_of side
end_text side (Some end) = signed_decimal end
