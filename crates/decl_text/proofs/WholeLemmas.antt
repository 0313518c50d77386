-- Where the tests of each token come to some outcome, each text is read to an end, or has a first fault.
use Rattle.std.proofs.Common.{◌≡◌, ◌≢◌, ◌⊎◌, inl, inr, ℕ, zero, suc, ◌+◌, ◌-◌, ◌<◌, List, [], ◌∷◌, ◌++◌, length, drop, Contains, refl, sym, ap, ◌∙◌, arith}
use Rattle.std.proofs.lemmas.List.{length-append, length-drop}
use Rattle.rule_core.proofs.ListLemmas.{Contains-head, Contains-cons}
use Rattle.decl_text.specs.declared.token.Kind.TheVariants.{Finish}
use Rattle.decl_text.specs.declared.token.Token.{Token}
use Rattle.decl_text.specs.declared.fault.MappingFault.{MappingFault}
use Rattle.decl_text.specs.Tokens.{IsNextToken, IsNextFault}
use Rattle.decl_text.specs.TokenList.{Stand}
use Rattle.decl_text.specs.Tests.{Lexeme, Says, Outcome, goes, stops, IsFinal, Leads, Finishes, Fails}
use Rattle.decl_text.specs.Parts.{StandsNext}
use Rattle.decl_text.proofs.EitherLemmas.{token_or_fault}
use Rattle.decl_text.proofs.OneOutcome.{spelled_by_none}
use Rattle.decl_text.proofs.SomeLemmas.{same_kind}
use Rattle.decl_text.proofs.TestLemmas.{Leads-none, Leads-one, Leads-join, Fails-later, Fails-own, Fails-token, token_says}

no_length : (l : List ℕ) → length l ≡ 0 → l ≡ []
no_length [] e = refl
no_length (b ∷ bs) e = absurd (omega arith)

-- a token that isn't the end of the text leaves fewer bytes
fewer : (bytes : List ℕ) (from : ℕ) (token : Token) → IsNextToken bytes from token → token.kind ≢ Finish
    → length (drop token.end bytes) < length (drop from bytes)
fewer bytes from token next other =
    let some : length next.spelled ≢ 0 = λ none. other (spelled_by_none token.kind next.spelled next.rest (no_length next.spelled none) next.whole) in
    let size : length bytes - from ≡ length next.gap + (length next.spelled + length next.rest) =
    sym (length-drop from bytes) ∙ ap length next.bytes_are ∙ length-append next.gap (next.spelled ++ next.rest)
    ∙ ap (λ n. length next.gap + n) (length-append next.spelled next.rest) in
    let start = next.start_is in
    let end = next.end_is in
    let before = length-drop from bytes in
    let after = length-drop token.end bytes in
    omega (arith, some)

module _ (Good : Lexeme → Type 0) (bytes : List ℕ) where
  -- each token that stands from this offset on says something good
  abbrev pub SayGood : ℕ → Type 0
  SayGood from = (tokens : List Token) (to : ℕ) (token : Token) (lexeme : Lexeme)
      → Stand bytes from tokens to → Contains tokens token → Says bytes token lexeme → Good lexeme

  good_next : (from : ℕ) (token : Token) (lexeme : Lexeme) → SayGood from → StandsNext bytes from token lexeme → Good lexeme
  good_next from token lexeme all stands =
      all (token ∷ []) token.end token lexeme (stands.next, refl) (Contains-head token []) stands.says

  good_later : (from : ℕ) (token : Token) → SayGood from → IsNextToken bytes from token → SayGood token.end
  good_later from token all next tokens to other lexeme stand there says =
      all (token ∷ tokens) to other lexeme (next, stand) (Contains-cons token other tokens there) says

module _ {P : Type 0} (tests : P → Lexeme → Outcome P → Type 0) (Good : Lexeme → Type 0) where
  -- a token is wanted here, and the tests of each good one come to some outcome
  abbrev pub Wants : P → Type 0
  Wants position = ¬ (IsFinal tests position) × ((lexeme : Lexeme) → Good lexeme → (outcome : Outcome P) × tests position lexeme outcome)

  -- so at each position, or the reading is over there
  abbrev pub AreWhole : Type 0
  AreWhole = (position : P) → IsFinal tests position ⊎ Wants position

  module _ (whole : AreWhole) (bytes : List ℕ) where
    -- the text fails, or it is read up to a final position, or to its end
    abbrev pub Ends : ℕ → P → Type 0
    Ends from position = ((fault : MappingFault) × Fails tests bytes from position fault)
        ⊎ ((to : ℕ) × (last : P) × IsFinal tests last × Leads tests bytes from position to last)
        ⊎ ((last : P) × Finishes tests bytes from position last)

    later : (from : ℕ) (position : P) (token : Token) (lexeme : Lexeme) (next : P) → StandsNext bytes from token lexeme
        → tests position lexeme (goes next) → Ends token.end next → Ends from position
    later from position token lexeme next stands passes (inl (fault, fails)) =
        inl (fault, Fails-later tests bytes from position token.end next fault (Leads-one tests bytes from position next token lexeme stands passes) fails)
    later from position token lexeme next stands passes (inr (inl (to, last, final, leads))) =
        inr (inl (
          to,
          last,
          final,
          Leads-join tests bytes from position token.end next to last
              (Leads-one tests bytes from position next token lexeme stands passes) leads,
        ))
    later from position token lexeme next stands passes (inr (inr (last, end))) =
        inr (inr (
          last,
          record {
            at = end.at;
            before = end.before;
            finish = end.finish;
            good = Leads-join tests bytes from position token.end next end.at end.before
                (Leads-one tests bytes from position next token lexeme stands passes) end.good;
            next = end.next;
            kind = end.kind;
            comes = end.comes;
          },
        ))

    module _ (n : ℕ) (more : (from : ℕ) (position : P) → length (drop from bytes) < n → SayGood Good bytes from → Ends from position) where
      goes_on : (from : ℕ) (position : P) (token : Token) (lexeme : Lexeme) (outcome : Outcome P) → length (drop from bytes) < suc n
          → SayGood Good bytes from → StandsNext bytes from token lexeme → tests position lexeme outcome → Ends from position
      goes_on from position token lexeme (stops code) fuel all stands fails =
          inl (record { code = code; place = token.start }, Fails-token tests bytes from position token lexeme code stands fails)
      goes_on from position token lexeme (goes next) fuel all stands passes = elim (same_kind token.kind Finish) [
        | inl finish ↦ inr (inr (
          next,
          record {
            at = from;
            before = position;
            finish = token;
            good = Leads-none tests bytes from position;
            next = stands.next;
            kind = finish;
            comes = record { lexeme = lexeme; says = stands.says; tested = passes };
          },
        ))
        | inr other ↦ let less = fewer bytes from token stands.next other in
            later from position token lexeme next stands passes
            (more token.end next (omega arith) (good_later Good bytes from token all stands.next))
      ]

      from_next : (from : ℕ) (position : P) → length (drop from bytes) < suc n → SayGood Good bytes from → Wants position
          → ((token : Token) × IsNextToken bytes from token) ⊎ ((fault : MappingFault) × IsNextFault bytes from fault) → Ends from position
      from_next from position fuel all wants (inr (fault, own)) = inl (fault, Fails-own tests bytes from position wants.0 fault own)
      from_next from position fuel all wants (inl (token, next)) =
          let said = token_says bytes from token next in
          let tested = wants.1 said.0 (good_next Good bytes from token said.0 all said.1) in
          goes_on from position token said.0 tested.0 fuel all said.1 tested.1

    ends_within : (n : ℕ) (from : ℕ) (position : P) → length (drop from bytes) < n → SayGood Good bytes from → Ends from position
    ends_within zero from position fuel all = absurd (omega arith)
    ends_within (suc n) from position fuel all = elim (whole position) [
      | inl final ↦ inr (inl (from, position, final, Leads-none tests bytes from position))
      | inr wants ↦ from_next n (ends_within n) from position fuel all wants (token_or_fault bytes from)
    ]

    -- each text fails, or is read to an end
    pub read_to_an_end : (from : ℕ) (position : P) → SayGood Good bytes from → Ends from position
    read_to_an_end from position all = ends_within (suc (length (drop from bytes))) from position (omega arith) all

-- what is read to the end of the text leads to behind it
pub finish_leads : {P : Type 0} (tests : P → Lexeme → Outcome P → Type 0) (bytes : List ℕ) (from : ℕ) (position last : P)
    → (end : Finishes tests bytes from position last) → Leads tests bytes from position end.finish.end last
finish_leads tests bytes from position last end =
    Leads-join tests bytes from position end.at end.before end.finish.end last end.good
    (Leads-one tests bytes end.at end.before last end.finish end.comes.lexeme
    (record { next = end.next; says = end.comes.says }) end.comes.tested)
