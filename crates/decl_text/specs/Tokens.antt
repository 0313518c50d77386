-- The tokens of a text: how each is spelled, what stands between them, and where bytes are no token.
use Rattle.std.specs.Prelude.{◌≡◌, ◌≢◌, ◌==◌, ◌||◌, ◌+◌, ◌⊎◌, Bool, ℕ, List, [], ◌∷◌, ◌++◌, codes, drop, length, IsTrue, All, ⊤}
use Rattle.std.specs.Char.{is_ascii_alphabetic, is_ascii_alphanumeric}
use Rattle.std.specs.Str.{StartsWithNoChar}
use Rattle.std.specs.List.{flat_map}
use Rattle.decl_text.specs.declared.token.Kind.{Kind}
use Rattle.decl_text.specs.declared.token.Kind.TheVariants.{Name, Quoted, LeftParen, RightParen, Comma, Colon, Arrow, Equals, Bar, LineEnd, Finish}
use Rattle.decl_text.specs.declared.token.Token.{Token}
use Rattle.decl_text.specs.declared.fault.Code.{Code}
use Rattle.decl_text.specs.declared.fault.Code.TheVariants.{X1, X2, X3, X4}
use Rattle.decl_text.specs.declared.fault.MappingFault.{MappingFault}
use Rattle.decl_text.specs.Quotes.{in_quotes, Opens, IsQuoted}

-- a space, a tab or a carriage return
abbrev pub is_blank : ℕ → Bool
is_blank b = (b == 32 || b == 9) || b == 13

-- a letter A to Z or a to z
abbrev pub is_letter : ℕ → Bool
is_letter b = is_ascii_alphabetic b

-- a letter, a digit or an underscore
abbrev pub is_name_byte : ℕ → Bool
is_name_byte b = is_ascii_alphanumeric b || b == 95

-- a letter, and then letters, digits and underscores
abbrev pub IsWord : List ℕ → Type 0
IsWord [] = ⊥
IsWord (b ∷ bs) = IsTrue (is_letter b) × All (λ c. IsTrue (is_name_byte c)) bs

-- a word that ends before these bytes doesn't go on in them
abbrev pub EndsWord : List ℕ → Type 0
EndsWord [] = ⊤
EndsWord (b ∷ bs) = ¬ (IsTrue (is_name_byte b))

-- a line ends before these bytes
abbrev pub EndsLine : List ℕ → Type 0
EndsLine [] = ⊤
EndsLine (b ∷ bs) = b ≡ 10

-- the bytes are a token of the kind, where the rest follows
abbrev pub IsSpelled : Kind → List ℕ → List ℕ → Type 0
IsSpelled Name bytes rest = IsWord bytes × EndsWord rest
IsSpelled Quoted bytes rest = (text : List ℕ) × IsQuoted bytes text
IsSpelled LeftParen bytes rest = bytes ≡ codes "("
IsSpelled RightParen bytes rest = bytes ≡ codes ")"
IsSpelled Comma bytes rest = bytes ≡ codes ","
IsSpelled Colon bytes rest = bytes ≡ codes ":"
IsSpelled Arrow bytes rest = bytes ≡ codes "->"
IsSpelled Equals bytes rest = bytes ≡ codes "="
IsSpelled Bar bytes rest = bytes ≡ codes "|"
IsSpelled LineEnd bytes rest = bytes ≡ 10 ∷ []
IsSpelled Finish bytes rest = (bytes ≡ []) × (rest ≡ [])

-- nothing, or a number sign and all that follows it in its line
abbrev pub IsComment : List ℕ → List ℕ → Type 0
IsComment [] rest = ⊤
IsComment (b ∷ bs) rest = (b ≡ 35) × All (λ c. c ≢ 10) bs × EndsLine rest

-- blanks, and perhaps a comment, where the rest follows
pub record IsGap (bytes rest : List ℕ) : Type 0 where
  pub blanks : List ℕ
  pub comment : List ℕ
  pub bytes_are : bytes ≡ blanks ++ comment
  pub all_blank : All (λ b. IsTrue (is_blank b)) blanks
  pub one_comment : IsComment comment rest

-- neither a blank nor a comment begins here
abbrev pub EndsGap : List ℕ → Type 0
EndsGap [] = ⊤
EndsGap (b ∷ bs) = ¬ (IsTrue (is_blank b)) × (b ≢ 35)

-- from this offset on, the token is the next after blanks and comments
pub record IsNextToken (bytes : List ℕ) (from : ℕ) (token : Token) : Type 0 where
  pub gap : List ℕ
  pub spelled : List ℕ
  pub rest : List ℕ
  pub bytes_are : drop from bytes ≡ gap ++ (spelled ++ rest)
  pub gap_before : IsGap gap (spelled ++ rest)
  pub start_is : token.start ≡ from + length gap
  pub end_is : token.end ≡ token.start + length spelled
  pub whole : IsSpelled token.kind spelled rest

-- some byte stands here, and neither a quote, a blank, a comment nor a token begins with it
abbrev pub BeginsNothing : List ℕ → Type 0
BeginsNothing [] = ⊥
BeginsNothing (b ∷ bs) =
    (b ≢ 34) × EndsGap (b ∷ bs) × ((kind : Kind) (spelled rest : List ℕ) → IsSpelled kind spelled rest → b ∷ bs ≢ spelled ++ rest)

-- some byte stands here, and no character of UTF-8 begins with it
abbrev pub IsBadSequence : List ℕ → Type 0
IsBadSequence [] = ⊥
IsBadSequence (b ∷ bs) = StartsWithNoChar (b ∷ bs)

-- a raw line feed, a raw carriage return or the end of the input
abbrev pub CutsQuotes : List ℕ → Type 0
CutsQuotes [] = ⊤
CutsQuotes (b ∷ bs) = (b ≡ 10) ⊎ (b ≡ 13)

-- a backslash that begins no escape
abbrev pub IsBadEscape : List ℕ → Type 0
IsBadEscape [] = ⊥
IsBadEscape (b ∷ bs) = (b ≡ 92) × ((c : ℕ) (rest : List ℕ) → b ∷ bs ≢ in_quotes c ++ rest)

-- what stops a text in quotes before its closing quote
abbrev pub StopsQuotes : Code → List ℕ → Type 0
StopsQuotes X2 bytes = IsBadSequence bytes
StopsQuotes X3 bytes = CutsQuotes bytes
StopsQuotes X4 bytes = IsBadEscape bytes
StopsQuotes other bytes = ⊥

-- how many bytes after the opening quote the fault is placed, where so many stand before what stops the text
abbrev pub offset_in_quotes : Code → ℕ → ℕ
offset_in_quotes X3 before = 0
offset_in_quotes other before = 1 + before

-- characters in quotes, and then what stops them: the fault is placed so many bytes after the opening quote
pub record IsBadQuoted (bytes : List ℕ) (code : Code) (after : ℕ) : Type 0 where
  pub characters : List ℕ
  pub stop : List ℕ
  pub opens : Opens characters bytes stop
  pub stops : StopsQuotes code stop
  pub after_is : after ≡ offset_in_quotes code (length (flat_map in_quotes characters))

-- the bytes begin with no token, by this fault, which is placed so many bytes after their beginning
abbrev pub IsBadToken : List ℕ → Code → ℕ → Type 0
IsBadToken bytes X1 after = (after ≡ 0) × BeginsNothing bytes
IsBadToken bytes code after = IsBadQuoted bytes code after

-- from this offset on, after blanks and comments, the next bytes are a token with this fault
pub record IsNextFault (bytes : List ℕ) (from : ℕ) (fault : MappingFault) : Type 0 where
  pub gap : List ℕ
  pub rest : List ℕ
  pub after : ℕ
  pub bytes_are : drop from bytes ≡ gap ++ rest
  pub gap_before : IsGap gap rest
  pub place_is : fault.place ≡ (from + length gap) + after
  pub bad : IsBadToken rest fault.code after

-- exactly at this offset the token begins, with neither a blank nor a comment before it
pub record IsTokenAt (bytes : List ℕ) (at : ℕ) (token : Token) : Type 0 where
  pub next : IsNextToken bytes at token
  pub start_is : token.start ≡ at

-- exactly at this offset no token begins: a blank or a comment does, or a token with this fault
abbrev pub IsFaultAt : List ℕ → ℕ → MappingFault → Type 0
IsFaultAt bytes at fault =
    (¬ EndsGap (drop at bytes) × (fault ≡ record { code = X1; place = at })) ⊎ (EndsGap (drop at bytes) × IsNextFault bytes at fault)

-- from the first offset up to the second stand blanks, and perhaps a comment
pub record IsGapBetween (bytes : List ℕ) (from to : ℕ) : Type 0 where
  pub gap : List ℕ
  pub bytes_are : drop from bytes ≡ gap ++ drop to bytes
  pub to_is : to ≡ from + length gap
  pub is : IsGap gap (drop to bytes)
