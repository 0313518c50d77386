-- The reading of a rule's line, put together from its parts.
use Rattle.std.proofs.Common.{◌≡◌, inl, inr, ℕ, ◌-◌, List, [], ◌∷◌, ◌++◌, Contains, take, drop, refl, sym, subst, Result, Ok, Err}
use Rattle.std.specs.Prelude.{◌≢◌}
use Rattle.std.proofs.lemmas.List.Elements.{Contains-append_right, Contains-push}
use Rattle.rule_core.specs.Mapping.{RuleSet}
use Rattle.decl_text.specs.declared.token.Kind.{Kind}
use Rattle.decl_text.specs.declared.token.Kind.TheVariants.{Quoted}
use Rattle.decl_text.specs.declared.token.Token.{Token}
use Rattle.decl_text.specs.declared.fault.Code.{Code}
use Rattle.decl_text.specs.declared.fault.MappingFault.{MappingFault}
use Rattle.decl_text.specs.declared.fault.ReadError.{ReadError}
use Rattle.decl_text.specs.declared.fault.ReadError.TheVariants as errors
use Rattle.decl_text.specs.Tokens.{IsNextToken}
use Rattle.decl_text.specs.Quotes.{IsQuoted}
use Rattle.decl_text.specs.TokenList.{Stand, KnowsTexts}
use Rattle.decl_text.specs.Tests.{Lexeme, IsTextOf, Says, Outcome, goes, stops, Comes, Pass, Leads, FailsNext, Fails, IfFault, IsFinal}
use Rattle.decl_text.specs.Parts.{StandsNext, FailsAt}
use Rattle.decl_text.proofs.TestLemmas.{Leads-none, Leads-one, Leads-join, Fails-later, Fails-own, Fails-token}
use Rattle.rule_text.specs.declared.part.Part.{Part}
use Rattle.rule_text.specs.declared.part.Part.TheVariants.{TgdBody, TgdHead, EgdBody, Disjunct}
use Rattle.rule_text.specs.RuleLine.{Frame, body_of_tgd, head_of_tgd, body_of_egd, disjunct_of, RulePosition, rule_tests}
use Rattle.rule_text.specs.Frames.{part_of, LeadsIn, FailsIn}
use Rattle.rule_text.specs.Follows.{StandsSign}

-- the fault of a call whose answer is handed on
pub fault_weaker : {T : Type 0} (result : Result T ReadError) (P Q : MappingFault → Type 0) → ((fault : MappingFault) → P fault → Q fault)
    → IfFault result P → IfFault result Q
fault_weaker (Ok value) P Q weaker h = tt
fault_weaker (Err (errors.Fault fault)) P Q weaker h = weaker fault h
fault_weaker (Err errors.Memory) P Q weaker h = tt

-- a frame of each part
pub frame_of : (part : Part) → (frame : Frame) × (part_of frame ≡ part)
frame_of TgdBody = (body_of_tgd [], refl)
frame_of TgdHead = (head_of_tgd [] [] 0, refl)
frame_of EgdBody = (body_of_egd [], refl)
frame_of Disjunct = (disjunct_of [] [] [], refl)

module _ {P : Type 0} (tests : P → Lexeme → Outcome P → Type 0) (bytes : List ℕ) where
  Pass-stands : (from : ℕ) (position : P) (tokens : List Token) (to : ℕ) (last : P) → Pass tests bytes from position tokens to last
      → Stand bytes from tokens to
  Pass-stands from position [] to last pass = pass.0
  Pass-stands from position (token ∷ tokens) to last pass =
      (pass.0, Pass-stands token.end pass.1.0 tokens to last pass.1.2)

  Stand-join : (from : ℕ) (tokens : List Token) (mid : ℕ) (others : List Token) (to : ℕ)
      → Stand bytes from tokens mid → Stand bytes mid others to → Stand bytes from (tokens ++ others) to
  Stand-join from [] mid others to a b = subst (λ n. Stand bytes n others to) a b
  Stand-join from (token ∷ tokens) mid others to a b = (a.0, Stand-join token.end tokens mid others to a.1 b)

  -- the texts in quotes from a later offset on are known too
  pub known_later : (texts : List (List ℕ)) (from : ℕ) (position : P) (to : ℕ) (last : P) → Leads tests bytes from position to last
      → KnowsTexts bytes from texts → KnowsTexts bytes to texts
  known_later texts from position to last leads known text quoted =
      known text (
        leads.0 ++ quoted.0,
        quoted.1,
        quoted.2,
        Stand-join from leads.0 to quoted.0 quoted.1 (Pass-stands from position leads.0 to last leads.1) quoted.3,
        Contains-append_right leads.0 quoted.0 quoted.2 quoted.4,
        quoted.5,
      )

-- a text that stands next is known
pub known_next : (bytes : List ℕ) (from : ℕ) (texts : List (List ℕ)) (token : Token) (text : List ℕ) → KnowsTexts bytes from texts
    → IsNextToken bytes from token → Says bytes token (record { kind = Quoted; text = text }) → Contains texts text
known_next bytes from texts token text known next says =
    known text (token ∷ [], token.end, token, (next, refl), Contains-push [] token, says)

-- a text in quotes says what it is the text of
pub quoted_says : (bytes : List ℕ) (token : Token) (text : List ℕ) → token.kind ≡ Quoted
    → IsQuoted (take (token.end - token.start) (drop token.start bytes)) text → Says bytes token (record { kind = Quoted; text = text })
quoted_says bytes token text same is = record {
  kind = sym same;
  text = subst (λ k. IsTextOf k (take (token.end - token.start) (drop token.start bytes)) text) (sym same) is;
}

module _ (rules : RuleSet) (pool : List (List ℕ)) (bytes : List ℕ) (part : Part) where
  pub LeadsIn-join : (from : ℕ) (position : Frame → RulePosition) (mid : ℕ) (between : Frame → RulePosition) (to : ℕ)
      (last : Frame → RulePosition) → LeadsIn rules pool bytes part from position mid between
      → LeadsIn rules pool bytes part mid between to last → LeadsIn rules pool bytes part from position to last
  LeadsIn-join from position mid between to last a b frame same =
      Leads-join (rule_tests rules pool) bytes from (position frame) mid (between frame) to (last frame) (a frame same) (b frame same)

  pub FailsIn-later : (from : ℕ) (position : Frame → RulePosition) (mid : ℕ) (between : Frame → RulePosition) (fault : MappingFault)
      → LeadsIn rules pool bytes part from position mid between → FailsIn rules pool bytes part mid between fault
      → FailsIn rules pool bytes part from position fault
  FailsIn-later from position mid between fault a f frame same =
      Fails-later (rule_tests rules pool) bytes from (position frame) mid (between frame) fault (a frame same) (f frame same)

  pub known_in : (from : ℕ) (position : Frame → RulePosition) (to : ℕ) (last : Frame → RulePosition)
      → LeadsIn rules pool bytes part from position to last → KnowsTexts bytes from pool → KnowsTexts bytes to pool
  known_in from position to last leads known =
      let frame = frame_of part in
      known_later (rule_tests rules pool) bytes pool from (position frame.0) to (last frame.0) (leads frame.0 frame.1) known

module _ {P : Type 0} (tests : P → Lexeme → Outcome P → Type 0) (bytes : List ℕ) (from : ℕ) where
  -- a bad token fails its tests, of which more may be known than that it is bad
  pub Fails-next : (position : P) → ¬ (IsFinal tests position) → (IsBad : Lexeme → Code → Type 0) (fault : MappingFault)
      → ((token : Token) (lexeme : Lexeme) (code : Code) → StandsNext bytes from token lexeme → IsBad lexeme code
      → tests position lexeme (stops code)) → FailsAt bytes from IsBad fault → Fails tests bytes from position fault
  Fails-next position wanted IsBad fault each (inl own) = Fails-own tests bytes from position wanted fault own
  Fails-next position wanted IsBad fault each (inr (token, lexeme, stands, bad, place)) =
      subst (λ (at : ℕ). Fails tests bytes from position (record { code = fault.code; place = at })) (sym place)
      (Fails-token tests bytes from position token lexeme fault.code stands (each token lexeme fault.code stands bad))

  -- a sign that stands next leads on, where it passes its tests
  pub Leads-sign : (position next : P) (kind : Kind) (to : ℕ) → StandsSign bytes from kind to
      → tests position (record { kind = kind; text = [] }) (goes next) → Leads tests bytes from position to next
  Leads-sign position next kind to sign passes =
      subst (λ (n : ℕ). Leads tests bytes from position n next) sign.1
      (Leads-one tests bytes from position next sign.0 (record { kind = kind; text = [] }) sign.2 passes)

  module _ (one other : P)
      (alike : (token : Token) (lexeme : Lexeme) (outcome : Outcome P) → StandsNext bytes from token lexeme
      → tests one lexeme outcome → tests other lexeme outcome) where
    comes_alike : (token : Token) (outcome : Outcome P) → IsNextToken bytes from token → Comes tests bytes one token outcome
        → Comes tests bytes other token outcome
    comes_alike token outcome next comes = record {
      lexeme = comes.lexeme;
      says = comes.says;
      tested = alike token comes.lexeme outcome (record { next = next; says = comes.says }) comes.tested;
    }

    -- where the next token has the tests of another position, the line leads on as from there
    pub Leads-alike : (to : ℕ) (last : P) → last ≢ one → Leads tests bytes from one to last → Leads tests bytes from other to last
    Leads-alike to last differ ([], pass) = absurd (differ pass.1)
    Leads-alike to last differ (token ∷ tokens, pass) =
        (token ∷ tokens, (pass.0, (pass.1.0, comes_alike token (goes pass.1.0) pass.0 pass.1.1, pass.1.2)))

    next_alike : ¬ (IsFinal tests other) → (fault : MappingFault) → FailsNext tests bytes from one fault
        → FailsNext tests bytes from other fault
    next_alike wanted fault (inl own) = inl (wanted, own.1)
    next_alike wanted fault (inr (token, next, comes, place)) = inr (token, next, comes_alike token (stops fault.code) next comes, place)

    -- and it fails as from there
    pub Fails-alike : ¬ (IsFinal tests other) → (fault : MappingFault) → Fails tests bytes from one fault
        → Fails tests bytes from other fault
    Fails-alike wanted fault f = by_tokens f.at f.after f.good f.next
      where
        by_tokens : (at : ℕ) (after : P) → Leads tests bytes from one at after → FailsNext tests bytes at after fault
            → Fails tests bytes from other fault
        by_tokens at after ([], pass) next = record {
          at = from;
          after = other;
          good = Leads-none tests bytes from other;
          next = next_alike wanted fault (subst (λ (p : P). FailsNext tests bytes from p fault) pass.1
              (subst (λ (n : ℕ). FailsNext tests bytes n after fault) pass.0 next));
        }
        by_tokens at after (token ∷ tokens, pass) next = record {
          at = at;
          after = after;
          good = (token ∷ tokens, (pass.0, (pass.1.0, comes_alike token (goes pass.1.0) pass.0 pass.1.1, pass.1.2)));
          next = next;
        }
