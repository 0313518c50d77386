-- From each offset on, a token stands next or a fault.
use Rattle.std.proofs.Common.{◌≡◌, ◌≢◌, Bool, ℕ, zero, suc, ◌+◌, ◌<◌, true, false, List, [], ◌∷◌, ◌++◌, length, take, drop, All, IsTrue, IsUtf8, encode_utf8_all, refl, sym, ap, ◌∙◌, subst, append_assoc, arith, ◌⊎◌, inl, inr, ⊎_elim}
use Rattle.std.specs.Char.{encode_utf8, IsScalar}
use Rattle.std.specs.Str.{StartsWithNoChar, all_scalars, is_utf8}
use Rattle.std.specs.List.{flat_map}
use Rattle.std.proofs.lemmas.Bool.{cases_eq, and_parts, and_from}
use Rattle.std.proofs.lemmas.Bool.Decides.{nat_tests}
use Rattle.std.proofs.lemmas.List.{take_at, take-append-drop, length-append}
use Rattle.std.proofs.lemmas.List.Elements.{All-nil, All-cons}
use Rattle.std.proofs.lemmas.Str.{encode_ascii, length-encode, len_utf8_bounds, IsUtf8-encode, IsUtf8-from_is_utf8, is_utf8-from_IsUtf8}
use Rattle.decl_text.specs.declared.token.Kind.{Kind}
use Rattle.decl_text.specs.declared.token.Kind.TheVariants.{Name, Quoted, LeftParen, RightParen, Comma, Colon, Arrow, Equals, Bar, LineEnd, Finish}
use Rattle.decl_text.specs.declared.token.Token.{Token}
use Rattle.decl_text.specs.declared.fault.Code.{Code}
use Rattle.decl_text.specs.declared.fault.Code.TheVariants.{X1, X2, X3, X4}
use Rattle.decl_text.specs.declared.fault.MappingFault.{MappingFault}
use Rattle.decl_text.specs.Quotes.{in_quotes}
use Rattle.decl_text.specs.Tokens.{is_blank, is_letter, is_name_byte, EndsWord, EndsLine, IsSpelled, IsComment, IsGap, EndsGap, IsNextToken, StopsQuotes, offset_in_quotes, IsBadQuoted, IsBadToken, IsNextFault}
use Rattle.decl_text.specs.Pieces.{IsPiece}
use Rattle.decl_text.specs.declared.quotes.Piece.{Piece}
use Rattle.decl_text.specs.declared.quotes.Piece.TheVariants.{Character, Close, Stop}
use Rattle.decl_text.proofs.QuoteLemmas.{escape_letter, in_quotes_some, in_quotes-plain, no_escape_in_nothing, not_escaped}

-- a test holds or not
pub test_cases : (b : Bool) → (b ≡ true) ⊎ (b ≡ true → ⊥)
test_cases true = inl refl
test_cases false = inr (λ e. cc)

-- the bytes are split where the first one stands that doesn't pass
record Split (P : ℕ → Type 0) (bytes : List ℕ) : Type 0 where
  pub front : List ℕ
  pub rest : List ℕ
  pub bytes_are : bytes ≡ front ++ rest
  pub passes : All P front
  pub over : (b : ℕ) (bs : List ℕ) → rest ≡ b ∷ bs → ¬ (P b)

split_where : (P : ℕ → Type 0) → ((b : ℕ) → P b ⊎ ¬ (P b)) → (bytes : List ℕ) → Split P bytes
split_where P decided [] = record { front = []; rest = []; bytes_are = refl; passes = All-nil P; over = λ b bs e. absurd cc }
split_where P decided (b ∷ bs) = elim (decided b) [
  | inl good ↦ let more : Split P bs = split_where P decided bs in record {
    front = b ∷ more.front;
    rest = more.rest;
    bytes_are = ap (λ l. b ∷ l) more.bytes_are;
    passes = All-cons P b more.front good more.passes;
    over = more.over;
  }
  | inr bad ↦ record {
    front = [];
    rest = b ∷ bs;
    bytes_are = refl;
    passes = All-nil P;
    over = λ c cs e. let same : b ≡ c = cc in subst (λ x. ¬ (P x)) same bad;
  }
]

ends_line : (rest : List ℕ) → ((b : ℕ) (bs : List ℕ) → rest ≡ b ∷ bs → ¬ (b ≢ 10)) → EndsLine rest
ends_line [] over = tt
ends_line (b ∷ bs) over = ⊎_elim (λ e. e) (λ other. absurd (over b bs refl other)) (cases_eq b 10)

ends_word : (rest : List ℕ) → ((b : ℕ) (bs : List ℕ) → rest ≡ b ∷ bs → ¬ (IsTrue (is_name_byte b))) → EndsWord rest
ends_word [] over = tt
ends_word (b ∷ bs) over = over b bs refl

-- a comment, or nothing, and what follows it
record Commented (bytes : List ℕ) : Type 0 where
  pub comment : List ℕ
  pub rest : List ℕ
  pub bytes_are : bytes ≡ comment ++ rest
  pub is : IsComment comment rest
  pub over : EndsGap rest

line_ends_gap : (bytes : List ℕ) → EndsLine bytes → EndsGap bytes
line_ends_gap [] ends = tt
line_ends_gap (b ∷ bytes) ends = rw ends ((λ blank. absurd cc), (λ e. omega arith))

not_ten : (b : ℕ) → (b ≢ 10) ⊎ ¬ (b ≢ 10)
not_ten b = ⊎_elim (λ e. inr (λ other. other e)) (λ other. inl other) (cases_eq b 10)

comment_or_none : (bytes : List ℕ) → ((b : ℕ) (bs : List ℕ) → bytes ≡ b ∷ bs → ¬ (IsTrue (is_blank b))) → Commented bytes
comment_or_none [] over = record { comment = []; rest = []; bytes_are = refl; is = tt; over = tt }
comment_or_none (b ∷ bs) over = elim (cases_eq b 35) [
  | inl sign ↦ let line = split_where (λ c. c ≢ 10) not_ten bs in
      let ends = ends_line line.rest line.over in record {
        comment = b ∷ line.front;
        rest = line.rest;
        bytes_are = ap (λ l. b ∷ l) line.bytes_are;
        is = (sign, line.passes, ends);
        over = line_ends_gap line.rest ends;
      }
  | inr other ↦ record { comment = []; rest = b ∷ bs; bytes_are = refl; is = tt; over = (over b bs refl, other) }
]

-- the bytes are a gap and what follows it
record Gapped (bytes : List ℕ) : Type 0 where
  pub gap : List ℕ
  pub rest : List ℕ
  pub bytes_are : bytes ≡ gap ++ rest
  pub is : IsGap gap rest
  pub over : EndsGap rest

gap_first : (bytes : List ℕ) → Gapped bytes
gap_first bytes =
    let blanks = split_where (λ b. IsTrue (is_blank b)) (λ b. test_cases (is_blank b)) bytes in
    let comment = comment_or_none blanks.rest blanks.over in
    record {
      gap = blanks.front ++ comment.comment;
      rest = comment.rest;
      bytes_are = blanks.bytes_are ∙ ap (λ l. blanks.front ++ l) comment.bytes_are
          ∙ sym (append_assoc blanks.front comment.comment comment.rest);
      is = record { blanks = blanks.front; comment = comment.comment; bytes_are = refl; all_blank = blanks.passes; one_comment = comment.is };
      over = comment.over;
    }

-- a character begins the bytes
abbrev BeginsChar : List ℕ → Type 0
BeginsChar bytes = (c : ℕ) × (rest : List ℕ) × IsScalar c × (bytes ≡ encode_utf8 c ++ rest)

text_begins : (cs bytes more : List ℕ) → all_scalars cs ≡ true → encode_utf8_all cs ++ more ≡ bytes → 0 < length (encode_utf8_all cs) → BeginsChar bytes
text_begins [] bytes more all e some = absurd (omega arith)
text_begins (c ∷ cs) bytes more all e some =
    (c, encode_utf8_all cs ++ more, (and_parts _ _ all).0, sym e ∙ append_assoc (encode_utf8 c) (encode_utf8_all cs) more)

-- so many bytes at the front are UTF-8
abbrev Reads : List ℕ → ℕ → Type 0
Reads bytes n = is_utf8 (take n bytes) ≡ true

front_begins : (b : ℕ) (bs : List ℕ) (n : ℕ) → Reads (b ∷ bs) (suc n) → BeginsChar (b ∷ bs)
front_begins b bs n reads =
    let text = IsUtf8-from_is_utf8 (take (suc n) (b ∷ bs)) reads in
    let size = ap length text.1.1 in
    text_begins text.0 (b ∷ bs) (drop n bs) text.1.0 (ap (λ l. l ++ drop n bs) text.1.1 ∙ take-append-drop (suc n) (b ∷ bs)) (omega arith)

char_reads : (bytes : List ℕ) (c : ℕ) (rest : List ℕ) → IsScalar c → bytes ≡ encode_utf8 c ++ rest → Reads bytes (length (encode_utf8 c))
char_reads bytes c rest scalar e =
    is_utf8-from_IsUtf8 (take (length (encode_utf8 c)) bytes)
    (subst IsUtf8 (sym (ap (take (length (encode_utf8 c))) e ∙ take_at (encode_utf8 c) rest (length (encode_utf8 c)) refl)) (IsUtf8-encode c scalar))

none_reads : (bytes : List ℕ) → ¬ (Reads bytes 1) → ¬ (Reads bytes 2) → ¬ (Reads bytes 3) → ¬ (Reads bytes 4) → StartsWithNoChar bytes
none_reads bytes one two three four c rest scalar e =
    let bounds = len_utf8_bounds c in
    let size = length-encode c in
    let reads = char_reads bytes c rest scalar e in
    let not : (n : ℕ) → ¬ (Reads bytes n) → length (encode_utf8 c) ≢ n = λ n bad same. bad (subst (Reads bytes) same reads) in
    omega (arith, not 1 one, not 2 two, not 3 three, not 4 four)

char_or_none : (b : ℕ) (bs : List ℕ) → BeginsChar (b ∷ bs) ⊎ StartsWithNoChar (b ∷ bs)
char_or_none b bs =
    ⊎_elim (λ reads. inl (front_begins b bs 0 reads))
    (λ one. ⊎_elim (λ reads. inl (front_begins b bs 1 reads))
    (λ two. ⊎_elim (λ reads. inl (front_begins b bs 2 reads))
    (λ three. ⊎_elim (λ reads. inl (front_begins b bs 3 reads))
    (λ four. inr (none_reads (b ∷ bs) one two three four))
    (test_cases (is_utf8 (take 4 (b ∷ bs))))) (test_cases (is_utf8 (take 3 (b ∷ bs)))))
    (test_cases (is_utf8 (take 2 (b ∷ bs))))) (test_cases (is_utf8 (take 1 (b ∷ bs))))

-- what stands in quotes here: a character, the closing quote, or what stops the text
abbrev Stands : List ℕ → Type 0
Stands bytes = (piece : Piece) × IsPiece piece bytes

escaped_by : (letter c : ℕ) (bytes : List ℕ) → IsScalar c → in_quotes c ≡ 92 ∷ letter ∷ [] → Stands (92 ∷ letter ∷ bytes)
escaped_by letter c bytes scalar e = (Character c, (scalar, (bytes, ap (λ l. l ++ bytes) (sym e))))

not_a_letter : (letter : ℕ) (bytes : List ℕ) → letter ≢ 34 → letter ≢ 92 → letter ≢ 110 → letter ≢ 114 → Stands (92 ∷ letter ∷ bytes)
not_a_letter letter bytes quote backslash n r =
    (Stop X4, (refl, λ c rest e. let escape = escape_letter (letter ∷ bytes) c rest e in absurd (grind (arith, nat_tests))))

escape_stands : (bytes : List ℕ) → Stands (92 ∷ bytes)
escape_stands [] = (Stop X4, (refl, λ c rest e. no_escape_in_nothing [] c rest (omega arith) e))
escape_stands (letter ∷ bytes) =
    ⊎_elim (λ e. subst (λ x. Stands (92 ∷ x ∷ bytes)) (sym e) (escaped_by 34 34 bytes refl refl))
    (λ quote. ⊎_elim (λ e. subst (λ x. Stands (92 ∷ x ∷ bytes)) (sym e) (escaped_by 92 92 bytes refl refl))
    (λ backslash. ⊎_elim (λ e. subst (λ x. Stands (92 ∷ x ∷ bytes)) (sym e) (escaped_by 110 10 bytes refl refl))
    (λ n. ⊎_elim (λ e. subst (λ x. Stands (92 ∷ x ∷ bytes)) (sym e) (escaped_by 114 13 bytes refl refl))
    (λ r. not_a_letter letter bytes quote backslash n r)
    (cases_eq letter 114)) (cases_eq letter 110)) (cases_eq letter 92)) (cases_eq letter 34)

-- a character that isn't one of the four stands as it is
plain_stands : (b : ℕ) (bs : List ℕ) → b ≢ 34 → b ≢ 92 → b ≢ 10 → b ≢ 13 → BeginsChar (b ∷ bs) ⊎ StartsWithNoChar (b ∷ bs) → Stands (b ∷ bs)
plain_stands b bs quote backslash n r (inr none) = (Stop X2, none)
plain_stands b bs quote backslash n r (inl (c, rest, scalar, e)) =
    let same : (k : ℕ) → k < 128 → c ≡ k → b ≡ k = λ k small is.
    let bytes : b ∷ bs ≡ k ∷ rest = e ∙ ap (λ x. encode_utf8 x ++ rest) is ∙ ap (λ l. l ++ rest) (encode_ascii k small) in cc in
    let plain = not_escaped c (λ is. quote (same 34 (omega arith) is)) (λ is. backslash (same 92 (omega arith) is))
    (λ is. n (same 10 (omega arith) is)) (λ is. r (same 13 (omega arith) is)) in
    (Character c, (scalar, (rest, e ∙ ap (λ l. l ++ rest) (sym (in_quotes-plain c plain)))))

piece_stands : (bytes : List ℕ) → Stands bytes
piece_stands [] = (Stop X3, tt)
piece_stands (b ∷ bs) =
    ⊎_elim (λ e. (Close, (bs, ap (λ x. x ∷ bs) e)))
    (λ quote. ⊎_elim (λ e. subst (λ x. Stands (x ∷ bs)) (sym e) (escape_stands bs))
    (λ backslash. ⊎_elim (λ e. (Stop X3, inl e))
    (λ n. ⊎_elim (λ e. (Stop X3, inr e))
    (λ r. plain_stands b bs quote backslash n r (char_or_none b bs))
    (cases_eq b 13)) (cases_eq b 10)) (cases_eq b 92)) (cases_eq b 34)

-- characters in quotes, and what ends them
record Ended (bytes : List ℕ) : Type 0 where
  pub characters : List ℕ
  pub stop : List ℕ
  pub characters_are : all_scalars characters ≡ true
  pub bytes_are : bytes ≡ flat_map in_quotes characters ++ stop
  pub ends : ((rest : List ℕ) × (stop ≡ 34 ∷ rest)) ⊎ ((code : Code) × StopsQuotes code stop)

ended : (n : ℕ) (bytes : List ℕ) → length bytes < n → Ended bytes
ended zero bytes fuel = absurd (omega arith)
ended (suc n) bytes fuel = by_piece (piece_stands bytes).0 (piece_stands bytes).1 (ended n)
  where
    by_piece : (piece : Piece) → IsPiece piece bytes → ((less : List ℕ) → length less < n → Ended less) → Ended bytes
    by_piece (Character c) is more =
        let rest = is.1.0 in
        let some = in_quotes_some c in
        let size = ap length is.1.1 ∙ length-append (in_quotes c) rest in
        let later = more rest (omega arith) in
        record {
          characters = c ∷ later.characters;
          stop = later.stop;
          characters_are = and_from _ _ is.0 later.characters_are;
          bytes_are = is.1.1 ∙ ap (λ l. in_quotes c ++ l) later.bytes_are
              ∙ sym (append_assoc (in_quotes c) (flat_map in_quotes later.characters) later.stop);
          ends = later.ends;
        }
    by_piece Close is more = record { characters = []; stop = bytes; characters_are = refl; bytes_are = refl; ends = inl is }
    by_piece (Stop code) is more = record { characters = []; stop = bytes; characters_are = refl; bytes_are = refl; ends = inr (code, is) }

-- the bytes begin with a token, or with a faulty one
abbrev Front : List ℕ → Type 0
Front bytes = ((kind : Kind) × (spelled : List ℕ) × (rest : List ℕ) × IsSpelled kind spelled rest × (bytes ≡ spelled ++ rest))
    ⊎ ((code : Code) × (after : ℕ) × IsBadToken bytes code after)

stop_is_bad : (code : Code) (stop bytes : List ℕ) (after : ℕ) → StopsQuotes code stop → IsBadQuoted bytes code after → IsBadToken bytes code after
stop_is_bad X1 stop bytes after stops bad = absurd stops
stop_is_bad code stop bytes after stops bad = bad

quoted_front : (bytes : List ℕ) → Front (34 ∷ bytes)
quoted_front bytes =
    let end = ended (suc (length bytes)) bytes (omega arith) in
    ⊎_elim
    (λ (close : (rest : List ℕ) × (end.stop ≡ 34 ∷ rest)). inl (
      Quoted,
      34 ∷ (flat_map in_quotes end.characters ++ 34 ∷ []),
      close.0,
      (
        encode_utf8_all end.characters,
        (end.characters, record { characters_are = end.characters_are; bytes_are = refl }, refl),
      ),
      ap (λ l. 34 ∷ l) (end.bytes_are ∙ ap (λ l. flat_map in_quotes end.characters ++ l) close.1
          ∙ sym (append_assoc (flat_map in_quotes end.characters) (34 ∷ []) close.0)),
    ))
    (λ (stop : (code : Code) × StopsQuotes code end.stop). inr (
      stop.0,
      offset_in_quotes stop.0 (length (flat_map in_quotes end.characters)),
      stop_is_bad stop.0 end.stop (34 ∷ bytes) (offset_in_quotes stop.0 (length (flat_map in_quotes end.characters))) stop.1
          (record {
            characters = end.characters;
            stop = end.stop;
            opens = record { characters_are = end.characters_are; bytes_are = ap (λ l. 34 ∷ l) end.bytes_are };
            stops = stop.1;
            after_is = refl;
          }),
    )) end.ends

word_front : (b : ℕ) (bs : List ℕ) → is_letter b ≡ true → Front (b ∷ bs)
word_front b bs letter =
    let word = split_where (λ c. IsTrue (is_name_byte c)) (λ c. test_cases (is_name_byte c)) bs in
    inl (Name, b ∷ word.front, word.rest, ((letter, word.passes), ends_word word.rest word.over), ap (λ l. b ∷ l) word.bytes_are)

-- a sign of one byte
sign_front : (kind : Kind) (b sign : ℕ) (bs : List ℕ) → b ≡ sign → IsSpelled kind (sign ∷ []) bs → Front (b ∷ bs)
sign_front kind b sign bs e is = inl (kind, sign ∷ [], bs, is, ap (λ x. x ∷ bs) e)

-- the byte begins none of the signs
record IsNoSign (b : ℕ) (bs : List ℕ) : Type 0 where
  pub letter : is_letter b ≡ true → ⊥
  pub quote : b ≢ 34
  pub left : b ≢ 40
  pub right : b ≢ 41
  pub comma : b ≢ 44
  pub colon : b ≢ 58
  pub arrow : (rest : List ℕ) → b ∷ bs ≢ 45 ∷ 62 ∷ rest
  pub equals : b ≢ 61
  pub bar : b ≢ 124
  pub line : b ≢ 10

same_first : (b c : ℕ) (bs cs bytes : List ℕ) → bytes ≡ c ∷ cs → b ∷ bs ≡ bytes → b ≡ c
same_first b c bs cs bytes e f = let g = f ∙ e in cc

begins_none : (b : ℕ) (bs : List ℕ) → IsNoSign b bs → (kind : Kind) (spelled rest : List ℕ) → IsSpelled kind spelled rest → b ∷ bs ≢ spelled ++ rest
begins_none b bs other Name [] rest is e = is.0
begins_none b bs other Name (c ∷ w) rest is e = other.letter (subst (λ x. is_letter x ≡ true) (sym (same_first b c bs (w ++ rest) _ refl e)) is.0.0)
begins_none b bs other Quoted spelled rest is e =
    other.quote (same_first b 34 bs (flat_map in_quotes is.1.0 ++ 34 ∷ rest) (spelled ++ rest)
    (ap (λ l. l ++ rest) is.1.1.bytes_are ∙ ap (λ l. 34 ∷ l) (append_assoc (flat_map in_quotes is.1.0) (34 ∷ []) rest)) e)
begins_none b bs other LeftParen spelled rest is e = other.left (same_first b 40 bs rest (spelled ++ rest) (ap (λ l. l ++ rest) is) e)
begins_none b bs other RightParen spelled rest is e = other.right (same_first b 41 bs rest (spelled ++ rest) (ap (λ l. l ++ rest) is) e)
begins_none b bs other Comma spelled rest is e = other.comma (same_first b 44 bs rest (spelled ++ rest) (ap (λ l. l ++ rest) is) e)
begins_none b bs other Colon spelled rest is e = other.colon (same_first b 58 bs rest (spelled ++ rest) (ap (λ l. l ++ rest) is) e)
begins_none b bs other Arrow spelled rest is e = other.arrow rest (e ∙ ap (λ l. l ++ rest) is)
begins_none b bs other Equals spelled rest is e = other.equals (same_first b 61 bs rest (spelled ++ rest) (ap (λ l. l ++ rest) is) e)
begins_none b bs other Bar spelled rest is e = other.bar (same_first b 124 bs rest (spelled ++ rest) (ap (λ l. l ++ rest) is) e)
begins_none b bs other LineEnd spelled rest is e = other.line (same_first b 10 bs rest (spelled ++ rest) (ap (λ l. l ++ rest) is) e)
begins_none b bs other Finish spelled rest is e = let none = e ∙ ap (λ l. l ++ rest) is.0 ∙ is.1 in absurd cc

arrow_cases : (b : ℕ) (bs : List ℕ) → ((rest : List ℕ) × (b ∷ bs ≡ 45 ∷ 62 ∷ rest)) ⊎ ((rest : List ℕ) → b ∷ bs ≢ 45 ∷ 62 ∷ rest)
arrow_cases b [] = inr (λ rest e. absurd cc)
arrow_cases b (c ∷ cs) =
    ⊎_elim (λ first. ⊎_elim (λ second. inl (cs, ap (λ x. x ∷ c ∷ cs) first ∙ ap (λ y. 45 ∷ y ∷ cs) second))
    (λ other. inr (λ rest e. let same : c ≡ 62 = cc in other same)) (cases_eq c 62))
    (λ other. inr (λ rest e. let same : b ≡ 45 = cc in other same)) (cases_eq b 45)

front : (bytes : List ℕ) → EndsGap bytes → Front bytes
front [] ends = inl (Finish, [], [], (refl, refl), refl)
front (b ∷ bs) ends =
    ⊎_elim (λ letter. word_front b bs letter)
    (λ letter. ⊎_elim (λ e. subst (λ x. Front (x ∷ bs)) (sym e) (quoted_front bs))
    (λ quote. ⊎_elim (λ e. sign_front LeftParen b 40 bs e refl)
    (λ left. ⊎_elim (λ e. sign_front RightParen b 41 bs e refl)
    (λ right. ⊎_elim (λ e. sign_front Comma b 44 bs e refl)
    (λ comma. ⊎_elim (λ e. sign_front Colon b 58 bs e refl)
    (λ colon. ⊎_elim (λ found. inl (Arrow, 45 ∷ 62 ∷ [], found.0, refl, found.1))
    (λ arrow. ⊎_elim (λ e. sign_front Equals b 61 bs e refl)
    (λ equals. ⊎_elim (λ e. sign_front Bar b 124 bs e refl)
    (λ bar. ⊎_elim (λ e. sign_front LineEnd b 10 bs e refl)
    (λ line. inr (
      X1,
      0,
      (
        refl,
        (
          quote,
          ends,
          begins_none b bs (record {
            letter = letter;
            quote = quote;
            left = left;
            right = right;
            comma = comma;
            colon = colon;
            arrow = arrow;
            equals = equals;
            bar = bar;
            line = line;
          }),
        ),
      ),
    ))
    (cases_eq b 10)) (cases_eq b 124)) (cases_eq b 61)) (arrow_cases b bs)) (cases_eq b 58)) (cases_eq b 44)) (cases_eq b 41)) (cases_eq b 40))
    (cases_eq b 34)) (test_cases (is_letter b))

-- from each offset on, a token stands next, or a fault
pub token_or_fault : (bytes : List ℕ) (from : ℕ)
    → ((token : Token) × IsNextToken bytes from token) ⊎ ((fault : MappingFault) × IsNextFault bytes from fault)
token_or_fault bytes from =
    let before = gap_first (drop from bytes) in
    ⊎_elim
    (λ (t : (kind : Kind) × (spelled : List ℕ) × (rest : List ℕ) × IsSpelled kind spelled rest × (before.rest ≡ spelled ++ rest)). inl (
      record { kind = t.0; start = from + length before.gap; end = from + length before.gap + length t.1 },
      record {
        gap = before.gap;
        spelled = t.1;
        rest = t.2;
        bytes_are = before.bytes_are ∙ ap (λ l. before.gap ++ l) t.4;
        gap_before = subst (IsGap before.gap) t.4 before.is;
        start_is = refl;
        end_is = refl;
        whole = t.3;
      },
    ))
    (λ (f : (code : Code) × (after : ℕ) × IsBadToken before.rest code after). inr (
      record { code = f.0; place = from + length before.gap + f.1 },
      record {
        gap = before.gap;
        rest = before.rest;
        after = f.1;
        bytes_are = before.bytes_are;
        gap_before = before.is;
        place_is = refl;
        bad = f.2;
      },
    )) (front before.rest before.over)
