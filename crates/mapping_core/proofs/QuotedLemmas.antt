-- What stands in quotes from an offset on: in the tokens up to a later offset, or from there on.
use Rattle.std.proofs.Common.{◌≡◌, ◌≢◌, ◌⊎◌, inl, inr, ℕ, ◌<◌, ◌≤◌, List, [], ◌∷◌, ◌++◌, length, take, drop, ◌-◌, IsUtf8, Contains, refl, sym, ap, ◌∙◌, subst, arith, rules}
use Rattle.std.proofs.lemmas.List.{length-append, length-drop}
use Rattle.rule_core.proofs.ListLemmas.{Contains-head, Contains-cons, Contains-nil, Contains-cons_cases}
use Rattle.decl_text.specs.declared.token.Kind.{Kind}
use Rattle.decl_text.specs.declared.token.Kind.TheVariants.{Name, Quoted, LeftParen, RightParen, Comma, Colon, Arrow, Equals, Bar, LineEnd, Finish}
use Rattle.decl_text.specs.declared.token.Token.{Token}
use Rattle.decl_text.specs.declared.fault.MappingFault.{MappingFault}
use Rattle.decl_text.specs.Tokens.{IsSpelled, IsNextToken, IsNextFault}
use Rattle.decl_text.specs.Quotes.{IsQuoted}
use Rattle.decl_text.specs.Tests.{Lexeme, IsTextOf, Outcome, Pass}
use Rattle.decl_text.specs.TokenList.{Stand, IsQuotedFrom}
use Rattle.decl_text.proofs.NextLemmas.{next_token_once, next_apart}
use Rattle.rule_text.specs.Constants.{IsQuotedAmong}
use Rattle.mapping_core.specs.Steps.{SaysQuoted}

-- what stands in quotes stands in the next token, or from its end on
pub quoted_next : (bytes : List ℕ) (from : ℕ) (token : Token) (text : List ℕ) → IsNextToken bytes from token
    → IsQuotedFrom bytes from text → SaysQuoted bytes token text ⊎ IsQuotedFrom bytes token.end text
quoted_next bytes from token text next (tokens, to, found, stand, member, says) = cases tokens stand member
  where
    cases : (tokens : List Token) → Stand bytes from tokens to → Contains tokens found
        → SaysQuoted bytes token text ⊎ IsQuotedFrom bytes token.end text
    cases [] s m = absurd (Contains-nil found m)
    cases (first ∷ others) s m =
        let same = next_token_once bytes from first token s.0 next in
        elim (Contains-cons_cases first found others m) [
          | inl e ↦ inl (subst (λ t. SaysQuoted bytes t text) (sym e ∙ same) says)
          | inr later ↦ inr (others, to, found, subst (λ t. Stand bytes t.end others to) same s.1, later, says)
        ]

pub quoted_now : (bytes : List ℕ) (from : ℕ) (token : Token) (text : List ℕ) → IsNextToken bytes from token
    → SaysQuoted bytes token text → IsQuotedFrom bytes from text
quoted_now bytes from token text next says = (token ∷ [], token.end, token, (next, refl), Contains-head token [], says)

pub quoted_later : (bytes : List ℕ) (from : ℕ) (token : Token) (text : List ℕ) → IsNextToken bytes from token
    → IsQuotedFrom bytes token.end text → IsQuotedFrom bytes from text
quoted_later bytes from token text next (tokens, to, found, stand, member, says) =
    (token ∷ tokens, to, found, (next, stand), Contains-cons token found tokens member, says)

-- nothing stands in quotes from a fault on
pub quoted_no_fault : (bytes : List ℕ) (from : ℕ) (fault : MappingFault) (text : List ℕ) → IsNextFault bytes from fault
    → IsQuotedFrom bytes from text → ⊥
quoted_no_fault bytes from fault text next (tokens, to, found, stand, member, says) = cases tokens stand member
  where
    cases : (tokens : List Token) → Stand bytes from tokens to → Contains tokens found → ⊥
    cases [] s m = absurd (Contains-nil found m)
    cases (first ∷ others) s m = next_apart bytes from first fault s.0 next

-- a token has some byte, or is the end of the text
pub spelled_or_finish : (kind : Kind) (spelled rest : List ℕ) → IsSpelled kind spelled rest → (1 ≤ length spelled) ⊎ (kind ≡ Finish)
spelled_or_finish Name [] rest w = absurd w.0
spelled_or_finish Name (b ∷ bs) rest w = inl (omega arith)
spelled_or_finish Quoted spelled rest w = inl (let e = ap length w.1.1.bytes_are in omega arith)
spelled_or_finish LeftParen spelled rest w = inl (let e = ap length w in omega arith)
spelled_or_finish RightParen spelled rest w = inl (let e = ap length w in omega arith)
spelled_or_finish Comma spelled rest w = inl (let e = ap length w in omega arith)
spelled_or_finish Colon spelled rest w = inl (let e = ap length w in omega arith)
spelled_or_finish Arrow spelled rest w = inl (let e = ap length w in omega arith)
spelled_or_finish Equals spelled rest w = inl (let e = ap length w in omega arith)
spelled_or_finish Bar spelled rest w = inl (let e = ap length w in omega arith)
spelled_or_finish LineEnd spelled rest w = inl (let e = ap length w in omega arith)
spelled_or_finish Finish spelled rest w = inr refl

-- a token ends after the offset where it was looked for, or is the end of the text
pub token_forward : (bytes : List ℕ) (from : ℕ) (token : Token) → IsNextToken bytes from token → token.kind ≢ Finish → from < token.end
token_forward bytes from token next other = elim (spelled_or_finish token.kind next.spelled next.rest next.whole) [
  | inl some ↦ let a = next.start_is in let b = next.end_is in omega (arith, some)
  | inr last ↦ absurd (other last)
]

pub token_not_back : (bytes : List ℕ) (from : ℕ) (token : Token) → IsNextToken bytes from token → from ≤ token.end
token_not_back bytes from token next = let a = next.start_is in let b = next.end_is in omega arith

-- after the end of the text the end stands again, and nothing else
pub finish_again : (bytes : List ℕ) (from : ℕ) (token later : Token) → IsNextToken bytes from token → token.kind ≡ Finish
    → IsNextToken bytes token.end later → later.kind ≡ Finish
finish_again bytes from token later next kind again =
    let ended : IsSpelled Finish next.spelled next.rest = subst (λ k. IsSpelled k next.spelled next.rest) kind next.whole in
    let spelled = ap length ended.0 in
    let rest = ap length ended.1 in
    let whole = ap length next.bytes_are ∙ length-append next.gap (next.spelled ++ next.rest) in
    let tail = length-append next.spelled next.rest in
    let before = length-drop from bytes in
    let after = length-drop token.end bytes in
    let all = ap length again.bytes_are ∙ length-append again.gap (again.spelled ++ again.rest) in
    let split = length-append again.spelled again.rest in
    let start = next.start_is in
    let end = next.end_is in
    elim (spelled_or_finish later.kind again.spelled again.rest again.whole) [
      | inl some ↦ absurd (omega arith)
      | inr last ↦ last
    ]

-- only the end of the text stands from this offset on
abbrev pub AtEnd : List ℕ → ℕ → Type 0
AtEnd bytes from = (token : Token) → IsNextToken bytes from token → token.kind ≡ Finish

pub AtEnd-finish : (bytes : List ℕ) (from : ℕ) (token : Token) → IsNextToken bytes from token → token.kind ≡ Finish → AtEnd bytes from
AtEnd-finish bytes from token next kind other again = ap (λ t. t.kind) (next_token_once bytes from other token again next) ∙ kind

pub AtEnd-next : (bytes : List ℕ) (from : ℕ) (token : Token) → AtEnd bytes from → IsNextToken bytes from token → AtEnd bytes token.end
AtEnd-next bytes from token over next later again = finish_again bytes from token later next (over token next) again

last_tokens : (bytes : List ℕ) (tokens : List Token) (from to : ℕ) (found : Token) → AtEnd bytes from → Stand bytes from tokens to
    → Contains tokens found → found.kind ≡ Finish
last_tokens bytes [] from to found over stand member = absurd (Contains-nil found member)
last_tokens bytes (token ∷ tokens) from to found over stand member = elim (Contains-cons_cases token found tokens member) [
  | inl e ↦ ap (λ t. t.kind) (sym e) ∙ over token stand.0
  | inr later ↦ last_tokens bytes tokens token.end to found (AtEnd-next bytes from token over stand.0) stand.1 later
]

quoted_is_no_finish : Quoted ≡ Finish → ⊥
quoted_is_no_finish e = search rules

-- so nothing stands in quotes from there on
pub quoted_no_finish : (bytes : List ℕ) (from : ℕ) (text : List ℕ) → AtEnd bytes from → IsQuotedFrom bytes from text → ⊥
quoted_no_finish bytes from text over (tokens, to, found, stand, member, says) =
    quoted_is_no_finish (says.kind ∙ last_tokens bytes tokens from to found over stand member)

-- what stands in quotes from an offset on stands in the tokens up to a later offset, or from there on
pub quoted_split : (bytes : List ℕ) (from : ℕ) (tokens : List Token) (to : ℕ) (text : List ℕ) → Stand bytes from tokens to
    → IsQuotedFrom bytes from text → IsQuotedAmong bytes tokens text ⊎ IsQuotedFrom bytes to text
quoted_split bytes from [] to text stand q = inr (subst (λ n. IsQuotedFrom bytes n text) (sym stand) q)
quoted_split bytes from (token ∷ tokens) to text stand q = elim (quoted_next bytes from token text stand.0 q) [
  | inl says ↦ inl (token, Contains-head token tokens, says)
  | inr later ↦ elim (quoted_split bytes token.end tokens to text stand.1 later) [
    | inl found ↦ inl (found.0, Contains-cons token found.0 tokens found.1, found.2)
    | inr after ↦ inr after
  ]
]

pub quoted_first : (bytes : List ℕ) (from : ℕ) (tokens : List Token) (to : ℕ) (text : List ℕ) → Stand bytes from tokens to
    → IsQuotedAmong bytes tokens text → IsQuotedFrom bytes from text
quoted_first bytes from tokens to text stand found = (tokens, to, found.0, stand, found.1, found.2)

pub quoted_rest : (bytes : List ℕ) (from : ℕ) (tokens : List Token) (to : ℕ) (text : List ℕ) → Stand bytes from tokens to
    → IsQuotedFrom bytes to text → IsQuotedFrom bytes from text
quoted_rest bytes from [] to text stand q = subst (λ n. IsQuotedFrom bytes n text) stand q
quoted_rest bytes from (token ∷ tokens) to text stand q =
    quoted_later bytes from token text stand.0 (quoted_rest bytes token.end tokens to text stand.1 q)

-- tokens that pass stand in the bytes
pub Pass-stand : {P : Type 0} (tests : P → Lexeme → Outcome P → Type 0) (bytes : List ℕ) (from : ℕ) (position : P) (tokens : List Token) (to : ℕ)
    (last : P) → Pass tests bytes from position tokens to last → Stand bytes from tokens to
Pass-stand tests bytes from position [] to last pass = pass.0
Pass-stand tests bytes from position (token ∷ tokens) to last pass =
    (pass.0, Pass-stand tests bytes token.end pass.1.0 tokens to last pass.1.2)

pub Stand-forward : (bytes : List ℕ) (from : ℕ) (tokens : List Token) (to : ℕ) → Stand bytes from tokens to → from ≤ to
Stand-forward bytes from [] to stand = omega (arith, stand)
Stand-forward bytes from (token ∷ tokens) to stand =
    omega (arith, token_not_back bytes from token stand.0, Stand-forward bytes token.end tokens to stand.1)

-- a text that stands in quotes is UTF-8
pub quoted_utf8 : (bytes : List ℕ) (from : ℕ) (text : List ℕ) → IsQuotedFrom bytes from text → IsUtf8 text
quoted_utf8 bytes from text (tokens, to, found, stand, member, says) =
    let quoted : IsQuoted (take (found.end - found.start) (drop found.start bytes)) text =
    subst (λ k. IsTextOf k (take (found.end - found.start) (drop found.start bytes)) text) (sym says.kind) says.text in
    (quoted.0, (quoted.1.characters_are, sym quoted.2))
