-- Steps of a line's reading, put together.
use Rattle.std.proofs.Common.{◌≡◌, ◌≢◌, inl, inr, ℕ, ◌+◌, ◌-◌, ◌≤◌, ◌<◌, IsTrue, IsUtf8, List, [], ◌∷◌, ◌++◌, length, take, drop, refl, sym, ap, ◌∙◌, subst, arith}
use Rattle.std.proofs.lemmas.List.{length-append, length-drop}
use Rattle.std.proofs.lemmas.List.Elements.{All-cons, All-weaker}
use Rattle.std.proofs.lemmas.Str.{IsUtf8-from_ascii}
use Rattle.std.proofs.lemmas.Str.Ascii.{IsAscii-from_all}
use Rattle.decl_text.specs.declared.token.Kind.{Kind}
use Rattle.decl_text.specs.declared.token.Kind.TheVariants.{Name, Quoted, LeftParen, RightParen, Comma, Colon, Arrow, Equals, Bar, LineEnd, Finish}
use Rattle.decl_text.specs.declared.token.Token.{Token}
use Rattle.decl_text.specs.declared.fault.Code.{Code}
use Rattle.decl_text.specs.declared.fault.MappingFault.{MappingFault}
use Rattle.decl_text.specs.Quotes.{IsQuoted}
use Rattle.decl_text.specs.Tokens.{is_name_byte, IsWord, IsSpelled, IsNextToken, IsNextFault}
use Rattle.decl_text.specs.Tests.{Lexeme, IsTextOf, Outcome, goes, stops, Pass, Leads, Fails, IsFinal}
use Rattle.decl_text.specs.Parts.{StandsNext, FailsAt}
use Rattle.decl_text.proofs.LetterLemmas.{letter_is_name_byte, name_byte_is_ascii}
use Rattle.decl_text.proofs.ScanLemmas.{token_bytes}

module _ {P : Type 0} (tests : P → Lexeme → Outcome P → Type 0) (bytes : List ℕ) where
  pub Leads-none : (from : ℕ) (position : P) → Leads tests bytes from position from position
  Leads-none from position = ([], (refl, refl))

  pub Leads-one : (from : ℕ) (position next : P) (token : Token) (lexeme : Lexeme) → StandsNext bytes from token lexeme
      → tests position lexeme (goes next) → Leads tests bytes from position token.end next
  Leads-one from position next token lexeme stands passes =
      (token ∷ [], (stands.next, (next, record { lexeme = lexeme; says = stands.says; tested = passes }, (refl, refl))))

  Pass-join : (from : ℕ) (position : P) (tokens : List Token) (mid : ℕ) (between : P) (others : List Token) (to : ℕ) (last : P)
      → Pass tests bytes from position tokens mid between → Pass tests bytes mid between others to last
      → Pass tests bytes from position (tokens ++ others) to last
  Pass-join from position [] mid between others to last a b =
      subst (λ p. Pass tests bytes from p others to last) a.1 (subst (λ n. Pass tests bytes n between others to last) a.0 b)
  Pass-join from position (token ∷ tokens) mid between others to last a b =
      (a.0, (a.1.0, a.1.1, Pass-join token.end a.1.0 tokens mid between others to last a.1.2 b))

  pub Leads-join : (from : ℕ) (position : P) (mid : ℕ) (between : P) (to : ℕ) (last : P)
      → Leads tests bytes from position mid between → Leads tests bytes mid between to last → Leads tests bytes from position to last
  Leads-join from position mid between to last a b =
      (a.0 ++ b.0, Pass-join from position a.0 mid between b.0 to last a.1 b.1)

  pub Fails-later : (from : ℕ) (position : P) (mid : ℕ) (between : P) (fault : MappingFault)
      → Leads tests bytes from position mid between → Fails tests bytes mid between fault → Fails tests bytes from position fault
  Fails-later from position mid between fault a f = record {
    at = f.at;
    after = f.after;
    good = Leads-join from position mid between f.at f.after a f.good;
    next = f.next;
  }

  pub Fails-own : (from : ℕ) (position : P) → ¬ (IsFinal tests position) → (fault : MappingFault) → IsNextFault bytes from fault
      → Fails tests bytes from position fault
  Fails-own from position wanted fault own =
      record { at = from; after = position; good = Leads-none from position; next = inl (wanted, own) }

  pub Fails-token : (from : ℕ) (position : P) (token : Token) (lexeme : Lexeme) (code : Code) → StandsNext bytes from token lexeme
      → tests position lexeme (stops code) → Fails tests bytes from position (record { code = code; place = token.start })
  Fails-token from position token lexeme code stands fails = record {
    at = from;
    after = position;
    good = Leads-none from position;
    next = inr (token, stands.next, record { lexeme = lexeme; says = stands.says; tested = fails }, refl);
  }

  pub Fails-at : (from : ℕ) (position : P) → ¬ (IsFinal tests position) → (IsBad : Lexeme → Code → Type 0) (fault : MappingFault)
      → ((lexeme : Lexeme) (code : Code) → IsBad lexeme code → tests position lexeme (stops code))
      → FailsAt bytes from IsBad fault → Fails tests bytes from position fault
  Fails-at from position wanted IsBad fault each (inl own) = Fails-own from position wanted fault own
  Fails-at from position wanted IsBad fault each (inr (token, lexeme, stands, bad, place)) = record {
    at = from;
    after = position;
    good = Leads-none from position;
    next = inr (token, stands.next, record { lexeme = lexeme; says = stands.says; tested = each lexeme fault.code bad }, place);
  }

-- a token stands within the bytes
pub token_in : (bytes : List ℕ) (from : ℕ) (token : Token) → from ≤ length bytes → IsNextToken bytes from token
    → (token.start ≤ token.end) × (token.end ≤ length bytes)
token_in bytes from token fits next =
    let size : length bytes - from ≡ length next.gap + (length next.spelled + length next.rest) =
    sym (length-drop from bytes) ∙ ap length next.bytes_are ∙ length-append next.gap (next.spelled ++ next.rest)
    ∙ ap (λ n. length next.gap + n) (length-append next.spelled next.rest) in
    let start = next.start_is in
    let end = next.end_is in
    (omega arith, omega arith)

text_of : (kind : Kind) (spelled slice rest : List ℕ) → slice ≡ spelled → IsSpelled kind spelled rest
    → (text : List ℕ) × IsTextOf kind slice text
text_of Name spelled slice rest e is = (slice, refl)
text_of Quoted spelled slice rest e is = (is.0, subst (λ l. IsQuoted l is.0) (sym e) is.1)
text_of LeftParen spelled slice rest e is = ([], refl)
text_of RightParen spelled slice rest e is = ([], refl)
text_of Comma spelled slice rest e is = ([], refl)
text_of Colon spelled slice rest e is = ([], refl)
text_of Arrow spelled slice rest e is = ([], refl)
text_of Equals spelled slice rest e is = ([], refl)
text_of Bar spelled slice rest e is = ([], refl)
text_of LineEnd spelled slice rest e is = ([], refl)
text_of Finish spelled slice rest e is = ([], refl)

-- each token says something
pub token_says : (bytes : List ℕ) (from : ℕ) (token : Token) → IsNextToken bytes from token
    → (lexeme : Lexeme) × StandsNext bytes from token lexeme
token_says bytes from token next =
    let found = text_of token.kind next.spelled (take (token.end - token.start) (drop token.start bytes)) next.rest
    (token_bytes bytes from token next) next.whole in
    (record { kind = token.kind; text = found.0 }, record { next = next; says = record { kind = refl; text = found.1 } })

-- the token is no name and no text in quotes
abbrev pub IsSign : Kind → Type 0
IsSign kind = (kind ≢ Name) × (kind ≢ Quoted)

sign_text : (kind : Kind) (slice : List ℕ) → IsSign kind → IsTextOf kind slice []
sign_text Name slice sign = absurd (sign.0 refl)
sign_text Quoted slice sign = absurd (sign.1 refl)
sign_text LeftParen slice sign = refl
sign_text RightParen slice sign = refl
sign_text Comma slice sign = refl
sign_text Colon slice sign = refl
sign_text Arrow slice sign = refl
sign_text Equals slice sign = refl
sign_text Bar slice sign = refl
sign_text LineEnd slice sign = refl
sign_text Finish slice sign = refl

-- a sign says itself
pub sign_says : (bytes : List ℕ) (from : ℕ) (token : Token) (kind : Kind) → IsNextToken bytes from token → token.kind ≡ kind → IsSign kind
    → StandsNext bytes from token (record { kind = kind; text = [] })
sign_says bytes from token kind next same sign = record {
  next = next;
  says = record {
    kind = sym same;
    text = subst (λ k. IsTextOf k (take (token.end - token.start) (drop token.start bytes)) []) (sym same)
        (sign_text kind (take (token.end - token.start) (drop token.start bytes)) sign);
  };
}

-- a name says its bytes
pub name_says : (bytes : List ℕ) (from : ℕ) (token : Token) (text : List ℕ) → IsNextToken bytes from token → token.kind ≡ Name
    → text ≡ take (token.end - token.start) (drop token.start bytes) → StandsNext bytes from token (record { kind = Name; text = text })
name_says bytes from token text next same e = record {
  next = next;
  says = record {
    kind = sym same;
    text = subst (λ k. IsTextOf k (take (token.end - token.start) (drop token.start bytes)) text) (sym same) e;
  };
}

-- a word is text
pub IsWord-IsUtf8 : (word : List ℕ) → IsWord word → IsUtf8 word
IsWord-IsUtf8 [] h = absurd h
IsWord-IsUtf8 (b ∷ bs) h =
    let all = All-cons (λ c. IsTrue (is_name_byte c)) b bs (letter_is_name_byte b h.0) h.1 in
    IsUtf8-from_ascii (b ∷ bs) (IsAscii-from_all (b ∷ bs)
    (All-weaker (λ c. IsTrue (is_name_byte c)) (λ c. c < 128) name_byte_is_ascii (b ∷ bs) all))

-- a name's bytes are a word
pub name_is_word : (bytes : List ℕ) (from : ℕ) (token : Token) → IsNextToken bytes from token → token.kind ≡ Name
    → IsWord (take (token.end - token.start) (drop token.start bytes))
name_is_word bytes from token next kind =
    let whole : IsSpelled Name next.spelled next.rest = subst (λ k. IsSpelled k next.spelled next.rest) kind next.whole in
    subst IsWord (sym (token_bytes bytes from token next)) whole.0
