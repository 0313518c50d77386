-- Each step of a rule's line outside its atoms, by its tests.
use Rattle.std.proofs.Common.{◌≡◌, inl, inr, ℕ, List, [], length, codes, refl, sym, subst, ◌∙◌}
use Rattle.rule_text.proofs.WantedLemmas.{rule_wants}
use Rattle.std.specs.Prelude.{◌≢◌}
use Rattle.rule_core.specs.declared.rules.Atom.{Atom}
use Rattle.rule_core.specs.Mapping.{RuleSet}
use Rattle.decl_text.specs.declared.token.Kind.TheVariants.{Comma, Colon, Arrow, Equals, Bar, LineEnd, Finish}
use Rattle.decl_text.specs.declared.token.Token.{Token}
use Rattle.decl_text.specs.declared.fault.Code.{Code}
use Rattle.decl_text.specs.declared.fault.Code.TheVariants.{X5, X6, X7}
use Rattle.decl_text.specs.declared.fault.MappingFault.{MappingFault}
use Rattle.decl_text.specs.Tokens.{IsNextToken}
use Rattle.decl_text.specs.Parts.{StandsNext, FailsAt, IsOther}
use Rattle.decl_text.specs.Tests.{Lexeme, goes, stops, Leads, Fails}
use Rattle.decl_text.specs.Declaration.{IsKeyword, EndsLine}
use Rattle.decl_text.proofs.TestLemmas.{Leads-one, Fails-token, Fails-at}
use Rattle.decl_text.proofs.DeclarationLemmas.{Named-fails}
use Rattle.rule_text.specs.declared.part.Part.TheVariants.{TgdBody, TgdHead, EgdBody, Disjunct}
use Rattle.rule_text.specs.declared.rule.Rule.{Rule}
use Rattle.rule_text.specs.declared.rule.Rule.TheVariants.{Tgd, Egd}
use Rattle.rule_text.specs.RuleLine.{Frame, body_of_tgd, head_of_tgd, body_of_egd, disjunct_of, kind_code, Said, nothing_said, begins, wants_tgd_name, wants_egd_name, wants_query_name, wants_colon, wants_atom, after_atom, after_arrow, wants_exists_variable, wants_exists_comma, wants_left, wants_equals, wants_right, wants_line_end, stated, rule_tests}
use Rattle.rule_text.specs.Frames.{part_of, said_of}
use Rattle.rule_text.specs.Follows.{StandsSign, IsNoAfter, StandsEnd, IsNoEnd}
use Rattle.rule_text.specs.Sides.{IsSide, IsNoSide}
use Rattle.rule_text.specs.Behind.{IsBody, behind_arrow}
use Rattle.rule_text.proofs.LineLemmas.{Fails-next, Leads-sign, Leads-alike, Fails-alike}
use Rattle.rule_text.proofs.LookupLemmas.{first_is_there}
use Rattle.rule_text.proofs.AtomSteps.{name_of}

-- the end of a line is no comma and no bar
pub end_is_no_comma : (lexeme : Lexeme) → EndsLine lexeme → lexeme.kind ≢ Comma
end_is_no_comma lexeme (inl kind) comma = let e : LineEnd ≡ Comma = sym kind ∙ comma in cc
end_is_no_comma lexeme (inr kind) comma = let e : Finish ≡ Comma = sym kind ∙ comma in cc

pub end_is_no_bar : (lexeme : Lexeme) → EndsLine lexeme → lexeme.kind ≢ Bar
end_is_no_bar lexeme (inl kind) bar = let e : LineEnd ≡ Bar = sym kind ∙ bar in cc
end_is_no_bar lexeme (inr kind) bar = let e : Finish ≡ Bar = sym kind ∙ bar in cc

-- the next token is no comma
abbrev pub NoComma : List ℕ → ℕ → Type 0
NoComma bytes from = (token : Token) → IsNextToken bytes from token → token.kind ≢ Comma

-- the egd of these
abbrev pub egd_of : List ℕ → Said → ℕ → ℕ → Rule
egd_of name said left right = Egd (record { name = name; vars = said.vars; body = said.atoms; left = left; right = right })

module _ (rules : RuleSet) (pool : List (List ℕ)) (bytes : List ℕ) (from : ℕ) where
  -- the colon before a list of atoms
  pub colon_goes : (frame : Frame) (to : ℕ) → StandsSign bytes from Colon to
      → Leads (rule_tests rules pool) bytes from (wants_colon frame) to (wants_atom frame nothing_said)
  colon_goes frame to sign =
      Leads-sign (rule_tests rules pool) bytes from (wants_colon frame) (wants_atom frame nothing_said) Colon to sign (inl (refl, refl))

  pub colon_fails : (frame : Frame) (wrong : Code) (fault : MappingFault) → wrong ≡ kind_code frame
      → FailsAt bytes from (IsOther Colon wrong) fault → Fails (rule_tests rules pool) bytes from (wants_colon frame) fault
  colon_fails frame wrong fault same =
      Fails-at (rule_tests rules pool) bytes from (wants_colon frame) (rule_wants rules pool (wants_colon frame) tt) (IsOther Colon wrong) fault
      (λ lexeme code bad. inr (bad.0, λ i. stops ((bad.1 ∙ same) i)))

  -- the arrow behind a body
  arrow_passes : (frame : Frame) (said : Said) → IsBody (part_of frame)
      → rule_tests rules pool (after_atom frame said) (record { kind = Arrow; text = [] }) (goes (behind_arrow frame said))
  arrow_passes (body_of_tgd name) said body = inr ((λ e. let no : Arrow ≡ Comma = e in cc), inl (refl, refl))
  arrow_passes (head_of_tgd name atoms vars) said (inl same) = absurd (let no : TgdHead ≡ TgdBody = same in cc)
  arrow_passes (head_of_tgd name atoms vars) said (inr same) = absurd (let no : TgdHead ≡ EgdBody = same in cc)
  arrow_passes (body_of_egd name) said body = inr ((λ e. let no : Arrow ≡ Comma = e in cc), inl (refl, refl))
  arrow_passes (disjunct_of name head branches) said (inl same) = absurd (let no : Disjunct ≡ TgdBody = same in cc)
  arrow_passes (disjunct_of name head branches) said (inr same) = absurd (let no : Disjunct ≡ EgdBody = same in cc)

  pub arrow_goes : (frame : Frame) (said : Said) (to : ℕ) → IsBody (part_of frame) → StandsSign bytes from Arrow to
      → Leads (rule_tests rules pool) bytes from (after_atom frame said) to (behind_arrow frame said)
  arrow_goes frame said to body sign =
      Leads-sign (rule_tests rules pool) bytes from (after_atom frame said) (behind_arrow frame said) Arrow to sign
      (arrow_passes frame said body)

  no_arrow_stops : (frame : Frame) (said : Said) (lexeme : Lexeme) (code : Code) → IsBody (part_of frame) → lexeme.kind ≢ Comma
      → lexeme.kind ≢ Arrow → code ≡ kind_code frame → rule_tests rules pool (after_atom frame said) lexeme (stops code)
  no_arrow_stops (body_of_tgd name) said lexeme code body comma arrow same = inr (comma, inr (arrow, λ i. stops (same i)))
  no_arrow_stops (head_of_tgd name atoms vars) said lexeme code (inl part) comma arrow same = absurd (let no : TgdHead ≡ TgdBody = part in cc)
  no_arrow_stops (head_of_tgd name atoms vars) said lexeme code (inr part) comma arrow same = absurd (let no : TgdHead ≡ EgdBody = part in cc)
  no_arrow_stops (body_of_egd name) said lexeme code body comma arrow same = inr (comma, inr (arrow, λ i. stops (same i)))
  no_arrow_stops (disjunct_of name head branches) said lexeme code (inl part) comma arrow same =
      absurd (let no : Disjunct ≡ TgdBody = part in cc)
  no_arrow_stops (disjunct_of name head branches) said lexeme code (inr part) comma arrow same =
      absurd (let no : Disjunct ≡ EgdBody = part in cc)

  pub arrow_fails : (frame : Frame) (said : Said) (wrong : Code) (fault : MappingFault) → IsBody (part_of frame) → NoComma bytes from
      → wrong ≡ kind_code frame → FailsAt bytes from (IsOther Arrow wrong) fault
      → Fails (rule_tests rules pool) bytes from (after_atom frame said) fault
  arrow_fails frame said wrong fault body last same =
      Fails-next (rule_tests rules pool) bytes from (after_atom frame said) (rule_wants rules pool (after_atom frame said) tt) (IsOther Arrow wrong) fault
      (λ token lexeme code stands bad. no_arrow_stops frame said lexeme code body
      (λ comma. last token stands.next (sym stands.says.kind ∙ comma)) bad.0 (bad.1 ∙ same))

  -- the word `exists` behind a tgd's arrow, or the head at once
  pub exists_goes : (name : List ℕ) (said : Said) (token : Token) (lexeme : Lexeme) → StandsNext bytes from token lexeme
      → IsKeyword lexeme (codes "exists") → Leads (rule_tests rules pool) bytes from (after_arrow name said) token.end
      (wants_exists_variable name said.atoms (length said.vars) said.vars)
  exists_goes name said token lexeme stands word =
      Leads-one (rule_tests rules pool) bytes from (after_arrow name said)
      (wants_exists_variable name said.atoms (length said.vars) said.vars) token lexeme stands (inl (word, refl))

  module _ (name : List ℕ) (vars : List (List ℕ)) (body : List Atom)
      (other : (token : Token) (lexeme : Lexeme) → StandsNext bytes from token lexeme → ¬ (IsKeyword lexeme (codes "exists"))) where
    pub head_at_once_goes : (to : ℕ) (said : Said)
        → Leads (rule_tests rules pool) bytes from (wants_atom (head_of_tgd name body (length vars)) (said_of vars []))
        to (after_atom (head_of_tgd name body (length vars)) said)
        → Leads (rule_tests rules pool) bytes from (after_arrow name (said_of vars body))
        to (after_atom (head_of_tgd name body (length vars)) said)
    head_at_once_goes to said =
        Leads-alike (rule_tests rules pool) bytes from (wants_atom (head_of_tgd name body (length vars)) (said_of vars []))
        (after_arrow name (said_of vars body)) (λ token lexeme outcome stands tested. inr (other token lexeme stands, tested))
        to (after_atom (head_of_tgd name body (length vars)) said) (λ e. cc)

    pub head_at_once_fails : (fault : MappingFault)
        → Fails (rule_tests rules pool) bytes from (wants_atom (head_of_tgd name body (length vars)) (said_of vars [])) fault
        → Fails (rule_tests rules pool) bytes from (after_arrow name (said_of vars body)) fault
    head_at_once_fails =
        Fails-alike (rule_tests rules pool) bytes from (wants_atom (head_of_tgd name body (length vars)) (said_of vars []))
        (after_arrow name (said_of vars body)) (λ token lexeme outcome stands tested. inr (other token lexeme stands, tested))
        (rule_wants rules pool (after_arrow name (said_of vars body)) tt)

  -- what follows an `exists` variable
  pub exists_comma_goes : (name : List ℕ) (body : List Atom) (count : ℕ) (vars : List (List ℕ)) (to : ℕ) → StandsSign bytes from Comma to
      → Leads (rule_tests rules pool) bytes from (wants_exists_comma name body count vars) to (wants_exists_variable name body count vars)
  exists_comma_goes name body count vars to sign =
      Leads-sign (rule_tests rules pool) bytes from (wants_exists_comma name body count vars) (wants_exists_variable name body count vars)
      Comma to sign (inl (refl, refl))

  pub exists_colon_goes : (name : List ℕ) (body : List Atom) (count : ℕ) (vars : List (List ℕ)) (to : ℕ) → StandsSign bytes from Colon to
      → Leads (rule_tests rules pool) bytes from (wants_exists_comma name body count vars)
      to (wants_atom (head_of_tgd name body count) (said_of vars []))
  exists_colon_goes name body count vars to sign =
      Leads-sign (rule_tests rules pool) bytes from (wants_exists_comma name body count vars)
      (wants_atom (head_of_tgd name body count) (said_of vars [])) Colon to sign
      (inr ((λ e. let no : Colon ≡ Comma = e in cc), inl (refl, refl)))

  pub exists_comma_fails : (name : List ℕ) (body : List Atom) (count : ℕ) (vars : List (List ℕ)) (fault : MappingFault)
      → FailsAt bytes from (IsNoAfter Colon X6) fault → Fails (rule_tests rules pool) bytes from (wants_exists_comma name body count vars) fault
  exists_comma_fails name body count vars fault =
      Fails-at (rule_tests rules pool) bytes from (wants_exists_comma name body count vars) (rule_wants rules pool (wants_exists_comma name body count vars) tt) (IsNoAfter Colon X6) fault
      (λ lexeme code bad. inr (bad.0, inr (bad.1, λ i. stops (bad.2 i))))

  -- the end of a tgd's line
  pub tgd_ends : (name : List ℕ) (body : List Atom) (count : ℕ) (said : Said) (to : ℕ) → StandsEnd bytes from to
      → Leads (rule_tests rules pool) bytes from (after_atom (head_of_tgd name body count) said)
      to (stated (Tgd (record { name = name; vars = said.vars; body_vars = count; body = body; head = said.atoms })))
  tgd_ends name body count said to end =
      subst (λ (n : ℕ). Leads (rule_tests rules pool) bytes from (after_atom (head_of_tgd name body count) said)
      n (stated (Tgd (record { name = name; vars = said.vars; body_vars = count; body = body; head = said.atoms })))) end.2
      (Leads-one (rule_tests rules pool) bytes from (after_atom (head_of_tgd name body count) said)
      (stated (Tgd (record { name = name; vars = said.vars; body_vars = count; body = body; head = said.atoms }))) end.0 end.1 end.3
      (inr (end_is_no_comma end.1 end.4, inl (end.4, refl))))

  pub tgd_goes_on : (name : List ℕ) (body : List Atom) (count : ℕ) (said : Said) (fault : MappingFault) → NoComma bytes from
      → FailsAt bytes from (IsNoEnd X6) fault → Fails (rule_tests rules pool) bytes from (after_atom (head_of_tgd name body count) said) fault
  tgd_goes_on name body count said fault last =
      Fails-next (rule_tests rules pool) bytes from (after_atom (head_of_tgd name body count) said) (rule_wants rules pool (after_atom (head_of_tgd name body count) said) tt) (IsNoEnd X6) fault
      (λ token lexeme code stands bad. inr (
        (λ comma. last token stands.next (sym stands.says.kind ∙ comma)),
        inr (bad.0, λ i. stops (bad.1 i)),
      ))

  -- the sides of an egd
  pub left_goes : (name : List ℕ) (said : Said) (variable to : ℕ) → IsSide bytes from said.vars variable to
      → Leads (rule_tests rules pool) bytes from (wants_left name said) to (wants_equals name said variable)
  left_goes name said variable to side =
      subst (λ (n : ℕ). Leads (rule_tests rules pool) bytes from (wants_left name said) n (wants_equals name said variable)) side.ends
      (Leads-one (rule_tests rules pool) bytes from (wants_left name said) (wants_equals name said variable) side.token (name_of side.text)
      side.stands (inl (
        refl,
        inl (
          side.other,
          inl (
            side.short,
            inl (first_is_there said.vars side.text variable side.first, (variable, side.first, refl)),
          ),
        ),
      )))

  no_left_stops : (name : List ℕ) (said : Said) (lexeme : Lexeme) (code : Code) → IsNoSide said.vars lexeme code
      → rule_tests rules pool (wants_left name said) lexeme (stops code)
  no_left_stops name said lexeme code (inl bad) = search Named-fails
  no_left_stops name said lexeme code (inr bad) = inl (bad.0, inl (bad.1, inl (bad.2, inr (bad.3, λ i. stops (bad.4 i)))))

  pub left_fails : (name : List ℕ) (said : Said) (fault : MappingFault) → FailsAt bytes from (IsNoSide said.vars) fault
      → Fails (rule_tests rules pool) bytes from (wants_left name said) fault
  left_fails name said fault =
      Fails-at (rule_tests rules pool) bytes from (wants_left name said) (rule_wants rules pool (wants_left name said) tt) (IsNoSide said.vars) fault (no_left_stops name said)

  pub equals_goes : (name : List ℕ) (said : Said) (left to : ℕ) → StandsSign bytes from Equals to
      → Leads (rule_tests rules pool) bytes from (wants_equals name said left) to (wants_right name said left)
  equals_goes name said left to sign =
      Leads-sign (rule_tests rules pool) bytes from (wants_equals name said left) (wants_right name said left) Equals to sign (inl (refl, refl))

  pub equals_fails : (name : List ℕ) (said : Said) (left : ℕ) (fault : MappingFault) → FailsAt bytes from (IsOther Equals X7) fault
      → Fails (rule_tests rules pool) bytes from (wants_equals name said left) fault
  equals_fails name said left fault =
      Fails-at (rule_tests rules pool) bytes from (wants_equals name said left) (rule_wants rules pool (wants_equals name said left) tt) (IsOther Equals X7) fault
      (λ lexeme code bad. inr (bad.0, λ i. stops (bad.1 i)))

  pub right_goes : (name : List ℕ) (said : Said) (left variable to : ℕ) → IsSide bytes from said.vars variable to
      → Leads (rule_tests rules pool) bytes from (wants_right name said left) to (wants_line_end (egd_of name said left variable))
  right_goes name said left variable to side =
      subst (λ (n : ℕ). Leads (rule_tests rules pool) bytes from (wants_right name said left)
      n (wants_line_end (egd_of name said left variable))) side.ends
      (Leads-one (rule_tests rules pool) bytes from (wants_right name said left) (wants_line_end (egd_of name said left variable))
      side.token (name_of side.text) side.stands (inl (
        refl,
        inl (
          side.other,
          inl (
            side.short,
            inl (first_is_there said.vars side.text variable side.first, (variable, side.first, refl)),
          ),
        ),
      )))

  no_right_stops : (name : List ℕ) (said : Said) (left : ℕ) (lexeme : Lexeme) (code : Code) → IsNoSide said.vars lexeme code
      → rule_tests rules pool (wants_right name said left) lexeme (stops code)
  no_right_stops name said left lexeme code (inl bad) = search Named-fails
  no_right_stops name said left lexeme code (inr bad) = inl (bad.0, inl (bad.1, inl (bad.2, inr (bad.3, λ i. stops (bad.4 i)))))

  pub right_fails : (name : List ℕ) (said : Said) (left : ℕ) (fault : MappingFault) → FailsAt bytes from (IsNoSide said.vars) fault
      → Fails (rule_tests rules pool) bytes from (wants_right name said left) fault
  right_fails name said left fault =
      Fails-at (rule_tests rules pool) bytes from (wants_right name said left) (rule_wants rules pool (wants_right name said left) tt) (IsNoSide said.vars) fault (no_right_stops name said left)

  -- the end of an egd's line
  pub egd_ends : (rule : Rule) (to : ℕ) → StandsEnd bytes from to
      → Leads (rule_tests rules pool) bytes from (wants_line_end rule) to (stated rule)
  egd_ends rule to end =
      subst (λ (n : ℕ). Leads (rule_tests rules pool) bytes from (wants_line_end rule) n (stated rule)) end.2
      (Leads-one (rule_tests rules pool) bytes from (wants_line_end rule) (stated rule) end.0 end.1 end.3 (inl (end.4, refl)))

  pub egd_goes_on : (rule : Rule) (fault : MappingFault) → FailsAt bytes from (IsNoEnd X7) fault
      → Fails (rule_tests rules pool) bytes from (wants_line_end rule) fault
  egd_goes_on rule fault =
      Fails-at (rule_tests rules pool) bytes from (wants_line_end rule) (rule_wants rules pool (wants_line_end rule) tt) (IsNoEnd X7) fault (λ lexeme code bad. inr (bad.0, λ i. stops (bad.1 i)))

  -- the first word
  pub tgd_begins : (token : Token) (lexeme : Lexeme) → StandsNext bytes from token lexeme → IsKeyword lexeme (codes "tgd")
      → Leads (rule_tests rules pool) bytes from begins token.end wants_tgd_name
  tgd_begins token lexeme stands word =
      Leads-one (rule_tests rules pool) bytes from begins wants_tgd_name token lexeme stands (inl (word, refl))

  pub egd_begins : (token : Token) (lexeme : Lexeme) → StandsNext bytes from token lexeme → ¬ (IsKeyword lexeme (codes "tgd"))
      → IsKeyword lexeme (codes "egd") → Leads (rule_tests rules pool) bytes from begins token.end wants_egd_name
  egd_begins token lexeme stands tgd word =
      Leads-one (rule_tests rules pool) bytes from begins wants_egd_name token lexeme stands (inr (tgd, inl (word, refl)))

  pub query_begins : (token : Token) (lexeme : Lexeme) → StandsNext bytes from token lexeme → ¬ (IsKeyword lexeme (codes "tgd"))
      → ¬ (IsKeyword lexeme (codes "egd")) → IsKeyword lexeme (codes "query")
      → Leads (rule_tests rules pool) bytes from begins token.end wants_query_name
  query_begins token lexeme stands tgd egd word =
      Leads-one (rule_tests rules pool) bytes from begins wants_query_name token lexeme stands (inr (tgd, inr (egd, inl (word, refl))))

  pub nothing_begins : (token : Token) (lexeme : Lexeme) → StandsNext bytes from token lexeme → ¬ (IsKeyword lexeme (codes "tgd"))
      → ¬ (IsKeyword lexeme (codes "egd")) → ¬ (IsKeyword lexeme (codes "query"))
      → Fails (rule_tests rules pool) bytes from begins (record { code = X5; place = token.start })
  nothing_begins token lexeme stands tgd egd query =
      Fails-token (rule_tests rules pool) bytes from begins token lexeme X5 stands (inr (tgd, inr (egd, inr (query, refl))))
