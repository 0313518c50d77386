-- Where the tests of a token come to one outcome at most, a text is read in one way.
use Rattle.std.proofs.Common.{◌≡◌, ◌⊎◌, inl, inr, ℕ, ◌+◌, ◌-◌, List, [], ◌∷◌, ◌++◌, length, take, drop, refl, sym, ap, ◌∙◌, subst, arith}
use Rattle.std.proofs.lemmas.List.{drop-drop, drop_at}
use Rattle.decl_text.specs.declared.token.Kind.{Kind}
use Rattle.decl_text.specs.declared.token.Kind.TheVariants.{Name, Quoted, LeftParen, RightParen, Comma, Colon, Arrow, Equals, Bar, LineEnd, Finish}
use Rattle.decl_text.specs.declared.token.Token.{Token}
use Rattle.decl_text.specs.declared.fault.Code.{Code}
use Rattle.decl_text.specs.declared.fault.MappingFault.{MappingFault}
use Rattle.decl_text.specs.Tokens.{IsSpelled, IsNextToken}
use Rattle.decl_text.specs.Tests.{Lexeme, IsTextOf, Says, Outcome, goes, stops, IsDecided, IsFinal, Rests, Comes, Pass, Leads, Finishes, FailsNext, Fails}
use Rattle.decl_text.proofs.NextLemmas.{next_token_once, next_fault_once, next_apart, quoted_read, fault_same}

-- a token has one text
text_once : (kind : Kind) (spelled a b : List ℕ) → IsTextOf kind spelled a → IsTextOf kind spelled b → a ≡ b
text_once Quoted spelled a b p q = quoted_read spelled a b p q
text_once Name spelled a b p q = p ∙ sym q
text_once LeftParen spelled a b p q = p ∙ sym q
text_once RightParen spelled a b p q = p ∙ sym q
text_once Comma spelled a b p q = p ∙ sym q
text_once Colon spelled a b p q = p ∙ sym q
text_once Arrow spelled a b p q = p ∙ sym q
text_once Equals spelled a b p q = p ∙ sym q
text_once Bar spelled a b p q = p ∙ sym q
text_once LineEnd spelled a b p q = p ∙ sym q
text_once Finish spelled a b p q = p ∙ sym q

lexeme_same : (a b : Lexeme) → a.kind ≡ b.kind → a.text ≡ b.text → a ≡ b
lexeme_same a b kind text = λ i. record { kind = kind i; text = text i }

-- a token says one thing
pub says_once : (bytes : List ℕ) (token : Token) (a b : Lexeme) → Says bytes token a → Says bytes token b → a ≡ b
says_once bytes token a b p q =
    lexeme_same a b (p.kind ∙ sym q.kind)
    (text_once token.kind (take (token.end - token.start) (drop token.start bytes)) a.text b.text p.text q.text)

-- the end of the text says nothing
pub finish_says : (bytes : List ℕ) (token : Token) (lexeme : Lexeme) → token.kind ≡ Finish → Says bytes token lexeme
    → lexeme ≡ record { kind = Finish; text = [] }
finish_says bytes token lexeme finish says =
    lexeme_same lexeme (record { kind = Finish; text = [] }) (says.kind ∙ finish)
    (subst (λ k. IsTextOf k (take (token.end - token.start) (drop token.start bytes)) lexeme.text) finish says.text)

-- only the end of the text is spelled by no byte
pub spelled_by_none : (kind : Kind) (spelled rest : List ℕ) → spelled ≡ [] → IsSpelled kind spelled rest → kind ≡ Finish
spelled_by_none Name [] rest e is = absurd is.0
spelled_by_none Name (b ∷ bs) rest e is = absurd cc
spelled_by_none Quoted spelled rest e is = let whole = sym e ∙ is.1.1.bytes_are in absurd cc
spelled_by_none LeftParen spelled rest e is = let whole = sym e ∙ is in absurd cc
spelled_by_none RightParen spelled rest e is = let whole = sym e ∙ is in absurd cc
spelled_by_none Comma spelled rest e is = let whole = sym e ∙ is in absurd cc
spelled_by_none Colon spelled rest e is = let whole = sym e ∙ is in absurd cc
spelled_by_none Arrow spelled rest e is = let whole = sym e ∙ is in absurd cc
spelled_by_none Equals spelled rest e is = let whole = sym e ∙ is in absurd cc
spelled_by_none Bar spelled rest e is = let whole = sym e ∙ is in absurd cc
spelled_by_none LineEnd spelled rest e is = let whole = sym e ∙ is in absurd cc
spelled_by_none Finish spelled rest e is = refl

append_nothing : (xs ys : List ℕ) → xs ++ ys ≡ [] → (xs ≡ []) × (ys ≡ [])
append_nothing [] ys e = (refl, e)
append_nothing (x ∷ xs) ys e = absurd cc

-- at the end of the text only its end stands next, and it is the end again
end_again : (bytes : List ℕ) (from : ℕ) (token : Token) → drop from bytes ≡ [] → IsNextToken bytes from token
    → (token.kind ≡ Finish) × (token.end ≡ from)
end_again bytes from token over next =
    let parts = append_nothing next.gap (next.spelled ++ next.rest) (sym next.bytes_are ∙ over) in
    let spelled = append_nothing next.spelled next.rest parts.1 in (
      spelled_by_none token.kind next.spelled next.rest spelled.0 next.whole,
      let none = ap length parts.0 in
          let no_more = ap length spelled.0 in
          let start = next.start_is in
          let end = next.end_is in
          omega arith,
    )

-- after the end of the text nothing is left
after_finish : (bytes : List ℕ) (from : ℕ) (token : Token) → token.kind ≡ Finish → IsNextToken bytes from token → drop token.end bytes ≡ []
after_finish bytes from token finish next =
    let whole : IsSpelled Finish next.spelled next.rest = subst (λ k. IsSpelled k next.spelled next.rest) finish next.whole in
    let none = ap length whole.0 in
    let start = next.start_is in
    let end = next.end_is in
    let place : token.end ≡ from + length next.gap = omega arith in
    ap (λ n. drop n bytes) place ∙ sym (drop-drop (length next.gap) from bytes) ∙ ap (drop (length next.gap)) next.bytes_are
    ∙ drop_at next.gap (next.spelled ++ next.rest) (length next.gap) refl ∙ ap (λ l. l ++ next.rest) whole.0 ∙ whole.1

-- at the end of the text its end stands next
end_stands : (bytes : List ℕ) (from : ℕ) → drop from bytes ≡ [] → IsNextToken bytes from (record { kind = Finish; start = from; end = from })
end_stands bytes from over = record {
  gap = [];
  spelled = [];
  rest = [];
  bytes_are = over;
  gap_before = record { blanks = []; comment = []; bytes_are = refl; all_blank = λ k d lt. absurd (omega (arith, lt)); one_comment = tt };
  start_is = omega arith;
  end_is = omega arith;
  whole = (refl, refl);
}

module _ {P : Type 0} where
  goes_same : (a b : P) → goes a ≡ goes b → a ≡ b
  goes_same a b e = cc

  stops_same : (a b : Code) → ◌≡◌ {A = Outcome P} (stops a) (stops b) → a ≡ b
  stops_same a b e = cc

  goes_apart : (a : P) (b : Code) → goes a ≡ stops b → ⊥
  goes_apart a b e = cc

module _ {P : Type 0} (tests : P → Lexeme → Outcome P → Type 0) (decided : IsDecided tests) (bytes : List ℕ) where
  -- the tests of a token come to one outcome
  pub comes_once : (position : P) (token : Token) (a b : Outcome P)
      → Comes tests bytes position token a → Comes tests bytes position token b → a ≡ b
  comes_once position token a b p q =
      decided position q.lexeme a b
      (subst (λ l. tests position l a) (says_once bytes token p.lexeme q.lexeme p.says q.says) p.tested) q.tested

  -- where the next token fails, no token passes
  pub fails_next_stuck : (from : ℕ) (position next : P) (token : Token) (fault : MappingFault) → FailsNext tests bytes from position fault
      → IsNextToken bytes from token → Comes tests bytes position token (goes next) → ⊥
  fails_next_stuck from position next token fault (inl own) stands comes = next_apart bytes from token fault stands own.1
  fails_next_stuck from position next token fault (inr (other, stands, fails, place)) here comes =
      goes_apart next fault.code (comes_once position token (goes next) (stops fault.code) comes
      (subst (λ t. Comes tests bytes position t (stops fault.code)) (next_token_once bytes from other token stands here) fails))

  -- where the next token fails, it fails in one way
  pub fails_next_once : (from : ℕ) (position : P) (a b : MappingFault)
      → FailsNext tests bytes from position a → FailsNext tests bytes from position b → a ≡ b
  fails_next_once from position a b (inl p) (inl q) = next_fault_once bytes from a b p.1 q.1
  fails_next_once from position a b (inl p) (inr (token, stands, fails, place)) = absurd (next_apart bytes from token a stands p.1)
  fails_next_once from position a b (inr (token, stands, fails, place)) (inl q) = absurd (next_apart bytes from token b stands q.1)
  fails_next_once from position a b (inr (t, s, f, p)) (inr (u, r, g, q)) =
      let same = next_token_once bytes from t u s r in
      fault_same a b
      (stops_same a.code b.code (comes_once position u (stops a.code) (stops b.code)
      (subst (λ v. Comes tests bytes position v (stops a.code)) same f) g))
      (p ∙ ap (λ v. v.start) same ∙ sym q)

  -- of two readings from one offset, one goes on from where the other ends
  pub one_goes_on : (from : ℕ) (position : P) (tokens others : List Token) (to : ℕ) (last : P) (end : ℕ) (final : P)
      → Pass tests bytes from position tokens to last → Pass tests bytes from position others end final
      → Leads tests bytes to last end final ⊎ Leads tests bytes end final to last
  one_goes_on from position [] others to last end final a b =
      inl (
        others,
        subst (λ p. Pass tests bytes to p others end final) (sym a.1)
            (subst (λ n. Pass tests bytes n position others end final) (sym a.0) b),
      )
  one_goes_on from position (t ∷ ts) [] to last end final a b =
      inr (
        t ∷ ts,
        subst (λ p. Pass tests bytes end p (t ∷ ts) to last) (sym b.1)
            (subst (λ n. Pass tests bytes n position (t ∷ ts) to last) (sym b.0) a),
      )
  one_goes_on from position (t ∷ ts) (u ∷ us) to last end final a b =
      let same : t ≡ u = next_token_once bytes from t u a.0 b.0 in
      let next : a.1.0 ≡ b.1.0 =
      goes_same a.1.0 b.1.0 (comes_once position u (goes a.1.0) (goes b.1.0)
      (subst (λ v. Comes tests bytes position v (goes a.1.0)) same a.1.1) b.1.1) in
      one_goes_on u.end b.1.0 ts us to last end final
      (subst (λ p. Pass tests bytes u.end p ts to last) next (subst (λ (v : Token). Pass tests bytes v.end a.1.0 ts to last) same a.1.2)) b.1.2

  -- from a final position nothing is read
  final_leads : (from : ℕ) (position : P) (to : ℕ) (last : P) → IsFinal tests position → Leads tests bytes from position to last
      → (from ≡ to) × (position ≡ last)
  final_leads from position to last final ([], e) = (sym e.0, sym e.1)
  final_leads from position to last final (t ∷ ts, h) = absurd (final h.1.1.lexeme (goes h.1.0) h.1.1.tested)

  -- two readings up to final positions end at one offset, at one position
  pub leads_once : (from : ℕ) (position : P) (to : ℕ) (last : P) (end : ℕ) (final : P) → IsFinal tests last → IsFinal tests final
      → Leads tests bytes from position to last → Leads tests bytes from position end final → (to ≡ end) × (last ≡ final)
  leads_once from position to last end final f g a b = elim (one_goes_on from position a.0 b.0 to last end final a.1 b.1) [
    | inl h ↦ final_leads to last end final f h
    | inr h ↦ let e = final_leads end final to last g h in (sym e.0, sym e.1)
  ]

  -- where the next token fails, nothing is read
  stuck_leads : (from : ℕ) (position : P) (fault : MappingFault) (to : ℕ) (last : P) → FailsNext tests bytes from position fault
      → Leads tests bytes from position to last → (from ≡ to) × (position ≡ last)
  stuck_leads from position fault to last fails ([], e) = (sym e.0, sym e.1)
  stuck_leads from position fault to last fails (t ∷ ts, h) =
      absurd (fails_next_stuck from position h.1.0 t fault fails h.0 h.1.1)

  fails_there : (from : ℕ) (position : P) (to : ℕ) (last : P) (fault : MappingFault) → (from ≡ to) × (position ≡ last)
      → FailsNext tests bytes from position fault → FailsNext tests bytes to last fault
  fails_there from position to last fault same fails =
      subst (λ p. FailsNext tests bytes to p fault) same.1 (subst (λ n. FailsNext tests bytes n position fault) same.0 fails)

  -- a text has one first fault
  pub fails_once : (from : ℕ) (position : P) (a b : MappingFault) → Fails tests bytes from position a → Fails tests bytes from position b → a ≡ b
  fails_once from position a b f g = elim (one_goes_on from position f.good.0 g.good.0 f.at f.after g.at g.after f.good.1 g.good.1) [
    | inl h ↦ fails_next_once g.at g.after a b
        (fails_there f.at f.after g.at g.after a (stuck_leads f.at f.after a g.at g.after f.next h) f.next) g.next
    | inr h ↦ fails_next_once f.at f.after a b f.next
        (fails_there g.at g.after f.at f.after b (stuck_leads g.at g.after b f.at f.after g.next h) g.next)
  ]

  final_fails : (from : ℕ) (position : P) (fault : MappingFault) → IsFinal tests position → FailsNext tests bytes from position fault
      → ⊥
  final_fails from position fault final (inl own) = own.0 final
  final_fails from position fault final (inr (token, stands, comes, place)) = (final comes.lexeme (stops fault.code) comes.tested)

  -- what is read up to a final position does not fail
  pub leads_fails : (from : ℕ) (position : P) (to : ℕ) (last : P) (fault : MappingFault) → IsFinal tests last
      → Leads tests bytes from position to last → Fails tests bytes from position fault → ⊥
  leads_fails from position to last fault final a f = elim (one_goes_on from position a.0 f.good.0 to last f.at f.after a.1 f.good.1) [
    | inl h ↦ final_fails to last fault final
        (let e = final_leads to last f.at f.after final h in fails_there f.at f.after to last fault (sym e.0, sym e.1) f.next)
    | inr h ↦ final_fails to last fault final (fails_there f.at f.after to last fault (stuck_leads f.at f.after fault to last f.next h) f.next)
  ]

  -- what is read after the end of the text
  module _ (rests : Rests tests) where
    finish_comes : (position next : P) (token : Token) → token.kind ≡ Finish → Comes tests bytes position token (goes next)
        → tests position (record { kind = Finish; text = [] }) (goes next)
    finish_comes position next token finish comes =
        subst (λ l. tests position l (goes next)) (finish_says bytes token comes.lexeme finish comes.says) comes.tested

    -- a position at which the end of the text stands again and again
    abbrev AtRest : P → Type 0
    AtRest position = tests position (record { kind = Finish; text = [] }) (goes position)

    rest_comes : (from : ℕ) (position : P) (token : Token) (outcome : Outcome P) → drop from bytes ≡ [] → AtRest position
        → IsNextToken bytes from token → Comes tests bytes position token outcome → outcome ≡ goes position
    rest_comes from position token outcome over still stands comes =
        decided position (record { kind = Finish; text = [] }) outcome (goes position)
        (subst (λ l. tests position l outcome)
        (finish_says bytes token comes.lexeme (end_again bytes from token over stands).0 comes.says) comes.tested) still

    rest_leads : (from : ℕ) (position : P) (tokens : List Token) (to : ℕ) (last : P) → drop from bytes ≡ [] → AtRest position
        → Pass tests bytes from position tokens to last → (from ≡ to) × (position ≡ last)
    rest_leads from position [] to last over still h = (sym h.0, sym h.1)
    rest_leads from position (t ∷ ts) to last over still h =
        let end = (end_again bytes from t over h.0).1 in
        let same = goes_same h.1.0 position (rest_comes from position t (goes h.1.0) over still h.0 h.1.1) in
        rest_leads from position ts to last over still
        (subst (λ p. Pass tests bytes from p ts to last) same (subst (λ n. Pass tests bytes n h.1.0 ts to last) end h.1.2))

    -- after the last token of a text that finishes, the position rests
    finish_rests : (from : ℕ) (position last : P) (f : Finishes tests bytes from position last)
        → (drop f.finish.end bytes ≡ []) × AtRest last
    finish_rests from position last f = (
      after_finish bytes f.at f.finish f.kind f.next,
      rests f.before last (finish_comes f.before last f.finish f.kind f.comes),
    )

    -- what goes on from where the last token stands is nothing, or that token and then the end again and again
    after_before : (from : ℕ) (position last : P) (f : Finishes tests bytes from position last) (to : ℕ) (next : P)
        → Leads tests bytes f.at f.before to next
        → ((f.at ≡ to) × (f.before ≡ next)) ⊎ ((f.finish.end ≡ to) × (last ≡ next))
    after_before from position last f to next ([], e) = inl (sym e.0, sym e.1)
    after_before from position last f to next (t ∷ ts, h) =
        let same = next_token_once bytes f.at t f.finish h.0 f.next in
        let goes_on = goes_same h.1.0 last (comes_once f.before f.finish (goes h.1.0) (goes last)
        (subst (λ v. Comes tests bytes f.before v (goes h.1.0)) same h.1.1) f.comes) in
        let end = finish_rests from position last f in
        inr (rest_leads f.finish.end last ts to next end.0 end.1
        (subst (λ p. Pass tests bytes f.finish.end p ts to next) goes_on
        (subst (λ (v : Token). Pass tests bytes v.end h.1.0 ts to next) same h.1.2)))

    finish_there : (from : ℕ) (position a b : P) (f : Finishes tests bytes from position a) (g : Finishes tests bytes from position b)
        → Leads tests bytes f.at f.before g.at g.before → a ≡ b
    finish_there from position a b f g h = elim (after_before from position a f g.at g.before h) [
      | inl e ↦
          let stands : IsNextToken bytes g.at f.finish = subst (λ n. IsNextToken bytes n f.finish) e.0 f.next in
          let same = next_token_once bytes g.at f.finish g.finish stands g.next in
          goes_same a b (comes_once g.before g.finish (goes a) (goes b)
          (subst (λ v. Comes tests bytes g.before v (goes a)) same (subst (λ p. Comes tests bytes p f.finish (goes a)) e.1 f.comes)) g.comes)
      | inr e ↦
          let end = finish_rests from position a f in
          let over : drop g.at bytes ≡ [] = ap (λ n. drop n bytes) (sym e.0) ∙ end.0 in
          sym (goes_same b a (rest_comes g.at a g.finish (goes b) over end.1 g.next
          (subst (λ p. Comes tests bytes p g.finish (goes b)) (sym e.1) g.comes)))
    ]

    -- a text finishes at one position
    pub finishes_once : (from : ℕ) (position a b : P) → Finishes tests bytes from position a → Finishes tests bytes from position b → a ≡ b
    finishes_once from position a b f g =
        elim (one_goes_on from position f.good.0 g.good.0 f.at f.before g.at g.before f.good.1 g.good.1) [
          | inl h ↦ finish_there from position a b f g h
          | inr h ↦ sym (finish_there from position b a g f h)
        ]

    rest_fails : (from : ℕ) (position : P) (fault : MappingFault) → drop from bytes ≡ [] → AtRest position
        → FailsNext tests bytes from position fault → ⊥
    rest_fails from position fault over still (inl own) =
        next_apart bytes from (record { kind = Finish; start = from; end = from }) fault (end_stands bytes from over) own.1
    rest_fails from position fault over still (inr (token, stands, comes, place)) =
        goes_apart position fault.code (sym (rest_comes from position token (stops fault.code) over still stands comes))

    -- a text that finishes has no fault
    pub finishes_apart : (from : ℕ) (position last : P) (fault : MappingFault) → Finishes tests bytes from position last
        → Fails tests bytes from position fault → ⊥
    finishes_apart from position last fault f g =
        elim (one_goes_on from position f.good.0 g.good.0 f.at f.before g.at g.after f.good.1 g.good.1) [
          | inl h ↦ elim (after_before from position last f g.at g.after h) [
            | inl e ↦ fails_next_stuck f.at f.before last f.finish fault
                (fails_there g.at g.after f.at f.before fault (sym e.0, sym e.1) g.next) f.next f.comes
            | inr e ↦ let end = finish_rests from position last f in
                rest_fails f.finish.end last fault end.0 end.1
                (fails_there g.at g.after f.finish.end last fault (sym e.0, sym e.1) g.next)
          ]
          | inr h ↦ fails_next_stuck f.at f.before last f.finish fault
              (fails_there g.at g.after f.at f.before fault (stuck_leads g.at g.after fault f.at f.before g.next h) g.next) f.next f.comes
        ]
