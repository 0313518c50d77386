-- A token at the front, from its parts.
use Rattle.std.proofs.Common.{◌≡◌, ℕ, zero, suc, ◌+◌, ◌-◌, ◌≤◌, true, List, [], ◌∷◌, ◌++◌, length, take, drop, get_or, All, IsTrue, refl, sym, ap, ◌∙◌, subst, arith}
use Rattle.std.proofs.lemmas.List.{take-append-drop, length-take-le, length-drop, length-append, drop-drop, drop_at, take_at}
use Rattle.std.proofs.lemmas.List.Elements.{All-nil, All-tail}
use Rattle.decl_text.specs.declared.token.Kind.{Kind}
use Rattle.decl_text.specs.declared.token.Kind.TheVariants.{Quoted}
use Rattle.decl_text.specs.declared.token.Token.{Token}
use Rattle.decl_text.specs.Quotes.{IsQuoted}
use Rattle.decl_text.specs.declared.fault.Code.{Code}
use Rattle.decl_text.specs.Tokens.{is_blank, is_letter, is_name_byte, IsWord, EndsWord, IsSpelled, IsGap, IsNextToken, IsNextFault, IsBadToken, IsGapBetween}
use Rattle.decl_text.proofs.LetterLemmas.{letter_is_name_byte}

-- the longest run of name bytes from a letter on is a word
pub IsWord-take : (bytes : List ℕ) (n : ℕ) → is_letter (get_or bytes 0 0) ≡ true → All (λ c. IsTrue (is_name_byte c)) (take n bytes)
    → EndsWord (drop n bytes) → IsWord (take n bytes)
IsWord-take [] n letter names whole = absurd cc
IsWord-take (b ∷ bs) zero letter names whole = absurd (whole (letter_is_name_byte b letter))
IsWord-take (b ∷ bs) (suc n) letter names whole = (letter, All-tail (λ c. IsTrue (is_name_byte c)) b (take n bs) names)

-- so many bytes at the front are a gap
pub gap_between : (bytes : List ℕ) (from n : ℕ) → n ≤ length (drop from bytes)
    → IsGap (take n (drop from bytes)) (drop n (drop from bytes)) → IsGapBetween bytes from (from + n)
gap_between bytes from n fits is = record {
  gap = take n (drop from bytes);
  bytes_are = sym (take-append-drop n (drop from bytes)) ∙ ap (λ l. take n (drop from bytes) ++ l) (drop-drop n from bytes);
  to_is = ap (λ k. from + k) (sym (length-take-le n (drop from bytes) fits));
  is = subst (IsGap (take n (drop from bytes))) (drop-drop n from bytes) is;
}

-- nothing is a gap
pub no_gap : (rest : List ℕ) → IsGap [] rest
no_gap rest = record { blanks = []; comment = []; bytes_are = refl; all_blank = All-nil (λ b. IsTrue (is_blank b)); one_comment = tt }

-- between an offset and itself stands nothing
pub no_gap_between : (bytes : List ℕ) (from : ℕ) → IsGapBetween bytes from from
no_gap_between bytes from = record { gap = []; bytes_are = refl; to_is = omega arith; is = no_gap (drop from bytes) }

-- behind a gap, so many bytes are the next token
pub token_behind : (bytes : List ℕ) (from start len : ℕ) (kind : Kind) → IsGapBetween bytes from start → len ≤ length (drop start bytes)
    → IsSpelled kind (take len (drop start bytes)) (drop len (drop start bytes))
    → IsNextToken bytes from (record { kind = kind; start = start; end = start + len })
token_behind bytes from start len kind before fits whole =
    let after : take len (drop start bytes) ++ drop len (drop start bytes) ≡ drop start bytes = take-append-drop len (drop start bytes) in
    record {
      gap = before.gap;
      spelled = take len (drop start bytes);
      rest = drop len (drop start bytes);
      bytes_are = before.bytes_are ∙ ap (λ l. before.gap ++ l) (sym after);
      gap_before = subst (IsGap before.gap) (sym after) before.is;
      start_is = before.to_is;
      end_is = ap (λ n. start + n) (sym (length-take-le len (drop start bytes) fits));
      whole = whole;
    }

-- behind a gap, a token's fault is the next
pub fault_behind : (bytes : List ℕ) (from start after : ℕ) (code : Code) → IsGapBetween bytes from start
    → IsBadToken (drop start bytes) code after → IsNextFault bytes from (record { code = code; place = start + after })
fault_behind bytes from start after code before bad = record {
  gap = before.gap;
  rest = drop start bytes;
  after = after;
  bytes_are = before.bytes_are;
  gap_before = before.is;
  place_is = ap (λ n. n + after) before.to_is;
  bad = bad;
}

-- the bytes from a token's start to its end are those that it is spelled by
pub token_bytes : (bytes : List ℕ) (from : ℕ) (token : Token) (next : IsNextToken bytes from token)
    → take (token.end - token.start) (drop token.start bytes) ≡ next.spelled
token_bytes bytes from token next =
    let size : token.end - token.start ≡ length next.spelled = let e = next.end_is in omega arith in
    let front : drop token.start bytes ≡ next.spelled ++ next.rest =
    ap (λ n. drop n bytes) next.start_is ∙ sym (drop-drop (length next.gap) from bytes) ∙ ap (drop (length next.gap)) next.bytes_are
    ∙ drop_at next.gap (next.spelled ++ next.rest) (length next.gap) refl in
    ap (λ l. take (token.end - token.start) l) front ∙ take_at next.spelled next.rest (token.end - token.start) (sym size)

pub token_is_quoted : (bytes : List ℕ) (from : ℕ) (token : Token) → IsNextToken bytes from token → token.kind ≡ Quoted
    → (text : List ℕ) × IsQuoted (take (token.end - token.start) (drop token.start bytes)) text
token_is_quoted bytes from token next kind =
    let whole : (text : List ℕ) × IsQuoted next.spelled text = subst (λ k. IsSpelled k next.spelled next.rest) kind next.whole in
    subst (λ l. (text : List ℕ) × IsQuoted l text) (sym (token_bytes bytes from token next)) whole

-- a quoted token ends within the bytes
pub token_within : (bytes : List ℕ) (from : ℕ) (token : Token) → IsNextToken bytes from token → token.kind ≡ Quoted
    → (token.start ≤ token.end) × (token.end ≤ length bytes)
token_within bytes from token next kind =
    let whole : (text : List ℕ) × IsQuoted next.spelled text = subst (λ k. IsSpelled k next.spelled next.rest) kind next.whole in
    let some = ap length whole.1.1.bytes_are in
    let size : length bytes - from ≡ length next.gap + (length next.spelled + length next.rest) =
    sym (length-drop from bytes) ∙ ap length next.bytes_are ∙ length-append next.gap (next.spelled ++ next.rest)
    ∙ ap (λ n. length next.gap + n) (length-append next.spelled next.rest) in
    let start = next.start_is in
    let end = next.end_is in
    (omega arith, omega arith)
