-- Each step among the atoms of a line, by its tests.
use Rattle.std.proofs.Common.{◌≡◌, inl, inr, ℕ, ◌<◌, ◌≤◌, List, [], ◌∷◌, ◌++◌, length, codes, Contains, refl, sym, ap, ◌∙◌, subst, arith}
use Rattle.rule_text.proofs.WantedLemmas.{rule_wants}
use Rattle.std.specs.Prelude.{◌≢◌}
use Rattle.rule_core.specs.declared.rules.Arg.{Arg}
use Rattle.rule_core.specs.declared.rules.Arg.TheVariants.{Var, Const}
use Rattle.rule_core.specs.declared.rules.Atom.{Atom}
use Rattle.rule_core.specs.declared.rules.Place.{Place}
use Rattle.rule_core.specs.Mapping.{RuleSet}
use Rattle.decl_text.specs.declared.token.Kind.TheVariants.{Name, Quoted, LeftParen, RightParen, Comma}
use Rattle.decl_text.specs.declared.token.Token.{Token}
use Rattle.decl_text.specs.declared.fault.Code.{Code}
use Rattle.decl_text.specs.declared.fault.Code.TheVariants.{X9, U2, U4, U6}
use Rattle.decl_text.specs.declared.fault.MappingFault.{MappingFault}
use Rattle.decl_text.specs.Tokens.{IsNextToken}
use Rattle.decl_text.specs.Parts.{StandsNext, FailsAt, IsOther, IsNoName}
use Rattle.decl_text.specs.Tests.{Lexeme, goes, stops, Leads, Fails}
use Rattle.decl_text.proofs.TestLemmas.{Leads-one, Fails-own, Fails-token, Fails-at}
use Rattle.decl_text.proofs.DeclarationLemmas.{Named-fails}
use Rattle.rule_text.specs.declared.part.Part.{Part}
use Rattle.rule_text.specs.declared.part.Part.TheVariants.{TgdBody, TgdHead, EgdBody, Disjunct}
use Rattle.rule_text.specs.RuleLine.{Frame, body_of_tgd, head_of_tgd, body_of_egd, disjunct_of, side_of, kind_code, Said, OpenAtom, with_argument, with_atom, with_variable, IsFirstAt, wants_atom, wants_parenthesis, wants_argument, wants_comma, after_atom, variable_tests, rule_tests}
use Rattle.rule_text.specs.Follows.{StandsSign}
use Rattle.rule_text.specs.Frames.{part_of, said_of, LeadsIn, IsFound, IsMissing}
use Rattle.rule_text.proofs.LineLemmas.{LeadsIn-join}
use Rattle.rule_text.proofs.LookupLemmas.{found_is_declared}

-- what the token of a name says
abbrev pub name_of : List ℕ → Lexeme
name_of text = record { kind = Name; text = text }

-- a name that is no word, and isn't too long, stands next
pub record StandsName (bytes : List ℕ) (from : ℕ) (token : Token) (text : List ℕ) : Type 0 where
  pub stands : StandsNext bytes from token (name_of text)
  pub other : text ≢ codes "exists"
  pub short : length text ≤ 64

module _ (rules : RuleSet) (pool : List (List ℕ)) (bytes : List ℕ) (frame : Frame) (from : ℕ) where
  -- the relation's name
  pub relation_goes : (said : Said) (token : Token) (text : List ℕ) (side : Place) (number width : ℕ) → StandsName bytes from token text
      → side ≡ side_of frame → IsFound rules side text number width → length said.atoms < 8
      → Leads (rule_tests rules pool) bytes from (wants_atom frame said) token.end
      (wants_parenthesis frame said (record { relation = number; width = width; args = [] }))
  relation_goes said token text side number width name same found few =
      let here : IsFound rules (side_of frame) text number width = subst (λ (s : Place). IsFound rules s text number width) same found in
      let has = found_is_declared rules text (side_of frame) number width here in
      Leads-one (rule_tests rules pool) bytes from (wants_atom frame said)
      (wants_parenthesis frame said (record { relation = number; width = width; args = [] })) token (name_of text) name.stands
      (inl (
        refl,
        inl (
          name.other,
          inl (
            name.short,
            inl (
              has.0,
              inl (
                has.1,
                inl (
                  few,
                  (
                    number,
                    here.0,
                    here.1,
                    ap (λ (w : ℕ). goes (wants_parenthesis frame said (record { relation = number; width = w; args = [] }))) here.2,
                  ),
                ),
              ),
            ),
          ),
        ),
      ))

  pub relation_fails : (said : Said) (wrong : Code) (fault : MappingFault) → wrong ≡ kind_code frame
      → FailsAt bytes from (IsNoName wrong X9) fault → Fails (rule_tests rules pool) bytes from (wants_atom frame said) fault
  relation_fails said wrong fault same fails =
      Fails-at (rule_tests rules pool) bytes from (wants_atom frame said) (rule_wants rules pool (wants_atom frame said) tt) (IsNoName (kind_code frame) X9) fault
      (λ lexeme code bad. search Named-fails) (subst (λ (w : Code). FailsAt bytes from (IsNoName w X9) fault) same fails)

  missing_stops : (said : Said) (text : List ℕ) (code : Code) → IsMissing rules (side_of frame) text code → text ≢ codes "exists"
      → length text ≤ 64 → rule_tests rules pool (wants_atom frame said) (name_of text) (stops code)
  missing_stops said text code (inl h) other short = inl (refl, inl (other, inl (short, inr (h.0, λ i. stops (h.1 i)))))
  missing_stops said text code (inr h) other short =
      inl (refl, inl (other, inl (short, inl (h.0, inr (h.1, λ i. stops (h.2 i))))))

  pub relation_missing : (said : Said) (token : Token) (text : List ℕ) (side : Place) (code : Code) → StandsName bytes from token text
      → side ≡ side_of frame → IsMissing rules side text code
      → Fails (rule_tests rules pool) bytes from (wants_atom frame said) (record { code = code; place = token.start })
  relation_missing said token text side code name same missing =
      Fails-token (rule_tests rules pool) bytes from (wants_atom frame said) token (name_of text) code name.stands
      (missing_stops said text code (subst (λ (s : Place). IsMissing rules s text code) same missing) name.other name.short)

  pub atoms_too_many : (said : Said) (token : Token) (text : List ℕ) (side : Place) (number width : ℕ) → StandsName bytes from token text
      → side ≡ side_of frame → IsFound rules side text number width → 8 ≤ length said.atoms
      → Fails (rule_tests rules pool) bytes from (wants_atom frame said) (record { code = U6; place = token.start })
  atoms_too_many said token text side number width name same found full =
      let has = found_is_declared rules text (side_of frame) number width
      (subst (λ (s : Place). IsFound rules s text number width) same found) in
      Fails-token (rule_tests rules pool) bytes from (wants_atom frame said) token (name_of text) U6 name.stands
      (inl (refl, inl (name.other, inl (name.short, inl (has.0, inl (has.1, inr ((λ few. omega arith), refl)))))))

  -- the opening parenthesis
  pub parenthesis_goes : (said : Said) (atom : OpenAtom) (token : Token) → StandsNext bytes from token (record { kind = LeftParen; text = [] })
      → Leads (rule_tests rules pool) bytes from (wants_parenthesis frame said atom) token.end (wants_argument frame said atom)
  parenthesis_goes said atom token stands =
      Leads-one (rule_tests rules pool) bytes from (wants_parenthesis frame said atom) (wants_argument frame said atom) token
      (record { kind = LeftParen; text = [] }) stands (inl (refl, refl))

  pub parenthesis_fails : (said : Said) (atom : OpenAtom) (wrong : Code) (fault : MappingFault) → wrong ≡ kind_code frame
      → FailsAt bytes from (IsOther LeftParen wrong) fault
      → Fails (rule_tests rules pool) bytes from (wants_parenthesis frame said atom) fault
  parenthesis_fails said atom wrong fault same fails =
      Fails-at (rule_tests rules pool) bytes from (wants_parenthesis frame said atom) (rule_wants rules pool (wants_parenthesis frame said atom) tt) (IsOther LeftParen (kind_code frame)) fault
      (λ lexeme code bad. inr (bad.0, λ i. stops (bad.1 i))) (subst (λ (w : Code). FailsAt bytes from (IsOther LeftParen w) fault) same fails)

  -- a constant
  pub constant_goes : (said : Said) (atom : OpenAtom) (token : Token) (text : List ℕ) (number : ℕ)
      → StandsNext bytes from token (record { kind = Quoted; text = text }) → length text ≤ 4096 → IsFirstAt pool text number
      → Leads (rule_tests rules pool) bytes from (wants_argument frame said atom) token.end
      (wants_comma frame said (with_argument atom (Const (record { 0 = number }))))
  constant_goes said atom token text number stands short first =
      Leads-one (rule_tests rules pool) bytes from (wants_argument frame said atom)
      (wants_comma frame said (with_argument atom (Const (record { 0 = number })))) token (record { kind = Quoted; text = text }) stands
      (inl (refl, inl (short, (number, first, refl))))

  pub constant_too_long : (said : Said) (atom : OpenAtom) (token : Token) (text : List ℕ)
      → StandsNext bytes from token (record { kind = Quoted; text = text }) → 4096 < length text
      → Fails (rule_tests rules pool) bytes from (wants_argument frame said atom) (record { code = U6; place = token.start })
  constant_too_long said atom token text stands long =
      Fails-token (rule_tests rules pool) bytes from (wants_argument frame said atom) token (record { kind = Quoted; text = text }) U6 stands
      (inl (refl, inr ((λ short. omega arith), refl)))

  -- a variable
  name_is_not_quoted : (text : List ℕ) → (name_of text).kind ≢ Quoted
  name_is_not_quoted text e = cc

  seen_passes : (f : Frame) (said : Said) (atom : OpenAtom) (name : List ℕ) (place : ℕ) → Contains said.vars name
      → IsFirstAt said.vars name place
      → variable_tests f said atom name (goes (wants_comma f said (with_argument atom (Var place))))
  seen_passes (body_of_tgd n) said atom name place has first = inl (has, (place, first, refl))
  seen_passes (head_of_tgd n body vars) said atom name place has first = inl (has, (place, first, refl))
  seen_passes (body_of_egd n) said atom name place has first = inl (has, (place, first, refl))
  seen_passes (disjunct_of n head branches) said atom name place has first = inl (has, (place, first, refl))

  pub variable_goes : (said : Said) (atom : OpenAtom) (token : Token) (text : List ℕ) (place : ℕ) → StandsName bytes from token text
      → Contains said.vars text → IsFirstAt said.vars text place
      → Leads (rule_tests rules pool) bytes from (wants_argument frame said atom) token.end
      (wants_comma frame said (with_argument atom (Var place)))
  variable_goes said atom token text place name has first =
      Leads-one (rule_tests rules pool) bytes from (wants_argument frame said atom) (wants_comma frame said (with_argument atom (Var place)))
      token (name_of text) name.stands
      (inr (name_is_not_quoted text, inl (refl, inl (name.other, inl (name.short, seen_passes frame said atom text place has first)))))

  new_passes : (f : Frame) (said : Said) (atom : OpenAtom) (name : List ℕ) (place : ℕ) → part_of f ≢ TgdHead → ¬ (Contains said.vars name)
      → length said.vars < 32 → IsFirstAt (said.vars ++ name ∷ []) name place
      → variable_tests f said atom name (goes (wants_comma f (with_variable said name) (with_argument atom (Var place))))
  new_passes (body_of_tgd n) said atom name place other none few first = inr (none, inl (few, (place, first, refl)))
  new_passes (head_of_tgd n body vars) said atom name place other none few first = absurd (other refl)
  new_passes (body_of_egd n) said atom name place other none few first = inr (none, inl (few, (place, first, refl)))
  new_passes (disjunct_of n head branches) said atom name place other none few first = inr (none, inl (few, (place, first, refl)))

  pub new_variable_goes : (said : Said) (atom : OpenAtom) (token : Token) (text : List ℕ) (place : ℕ) → StandsName bytes from token text
      → part_of frame ≢ TgdHead → ¬ (Contains said.vars text) → length said.vars < 32 → IsFirstAt (said.vars ++ text ∷ []) text place
      → Leads (rule_tests rules pool) bytes from (wants_argument frame said atom) token.end
      (wants_comma frame (with_variable said text) (with_argument atom (Var place)))
  new_variable_goes said atom token text place name other none few first =
      Leads-one (rule_tests rules pool) bytes from (wants_argument frame said atom)
      (wants_comma frame (with_variable said text) (with_argument atom (Var place))) token (name_of text) name.stands
      (inr (name_is_not_quoted text, inl (refl, inl (name.other, inl (name.short, new_passes frame said atom text place other none few first)))))

  unbound_stops : (f : Frame) (said : Said) (atom : OpenAtom) (name : List ℕ) → part_of f ≡ TgdHead → ¬ (Contains said.vars name)
      → variable_tests f said atom name (stops U4)
  unbound_stops (body_of_tgd n) said atom name same none = absurd (let e : TgdBody ≡ TgdHead = same in cc)
  unbound_stops (head_of_tgd n body vars) said atom name same none = inr (none, refl)
  unbound_stops (body_of_egd n) said atom name same none = absurd (let e : EgdBody ≡ TgdHead = same in cc)
  unbound_stops (disjunct_of n head branches) said atom name same none = absurd (let e : Disjunct ≡ TgdHead = same in cc)

  pub variable_unbound : (said : Said) (atom : OpenAtom) (token : Token) (text : List ℕ) → StandsName bytes from token text
      → part_of frame ≡ TgdHead → ¬ (Contains said.vars text)
      → Fails (rule_tests rules pool) bytes from (wants_argument frame said atom) (record { code = U4; place = token.start })
  variable_unbound said atom token text name same none =
      Fails-token (rule_tests rules pool) bytes from (wants_argument frame said atom) token (name_of text) U4 name.stands
      (inr (name_is_not_quoted text, inl (refl, inl (name.other, inl (name.short, unbound_stops frame said atom text same none)))))

  many_stop : (f : Frame) (said : Said) (atom : OpenAtom) (name : List ℕ) → part_of f ≢ TgdHead → ¬ (Contains said.vars name)
      → 32 ≤ length said.vars → variable_tests f said atom name (stops U6)
  many_stop (body_of_tgd n) said atom name other none full = inr (none, inr ((λ few. omega arith), refl))
  many_stop (head_of_tgd n body vars) said atom name other none full = absurd (other refl)
  many_stop (body_of_egd n) said atom name other none full = inr (none, inr ((λ few. omega arith), refl))
  many_stop (disjunct_of n head branches) said atom name other none full = inr (none, inr ((λ few. omega arith), refl))

  pub variables_too_many : (said : Said) (atom : OpenAtom) (token : Token) (text : List ℕ) → StandsName bytes from token text
      → part_of frame ≢ TgdHead → ¬ (Contains said.vars text) → 32 ≤ length said.vars
      → Fails (rule_tests rules pool) bytes from (wants_argument frame said atom) (record { code = U6; place = token.start })
  variables_too_many said atom token text name other none full =
      Fails-token (rule_tests rules pool) bytes from (wants_argument frame said atom) token (name_of text) U6 name.stands
      (inr (name_is_not_quoted text, inl (refl, inl (name.other, inl (name.short, many_stop frame said atom text other none full)))))

  -- neither a constant nor a name stands in an argument's place
  no_name_stops : (said : Said) (atom : OpenAtom) (lexeme : Lexeme) (code : Code) → lexeme.kind ≢ Quoted
      → IsNoName (kind_code frame) X9 lexeme code → rule_tests rules pool (wants_argument frame said atom) lexeme (stops code)
  no_name_stops said atom lexeme code other bad = inr (other, Named-fails (kind_code frame) X9 (variable_tests frame said atom lexeme.text) lexeme code bad)

  pub argument_fails : (said : Said) (atom : OpenAtom) (wrong : Code) (fault : MappingFault) → wrong ≡ kind_code frame
      → ((token : Token) → IsNextToken bytes from token → token.kind ≢ Quoted)
      → FailsAt bytes from (IsNoName wrong X9) fault → Fails (rule_tests rules pool) bytes from (wants_argument frame said atom) fault
  argument_fails said atom wrong fault same other (inl own) =
      Fails-own (rule_tests rules pool) bytes from (wants_argument frame said atom) (rule_wants rules pool (wants_argument frame said atom) tt) fault own
  argument_fails said atom wrong fault same other (inr (token, lexeme, stands, bad, place)) =
      subst (λ (at : ℕ). Fails (rule_tests rules pool) bytes from (wants_argument frame said atom) (record { code = fault.code; place = at }))
      (sym place) (Fails-token (rule_tests rules pool) bytes from (wants_argument frame said atom) token lexeme fault.code stands
      (no_name_stops said atom lexeme fault.code (λ kind. other token stands.next (sym stands.says.kind ∙ kind))
      (subst (λ (w : Code). IsNoName w X9 lexeme fault.code) same bad)))

  -- what follows an argument
  pub comma_goes : (said : Said) (atom : OpenAtom) (token : Token) (lexeme : Lexeme) → StandsNext bytes from token lexeme
      → token.kind ≡ Comma → length atom.args < atom.width
      → Leads (rule_tests rules pool) bytes from (wants_comma frame said atom) token.end (wants_argument frame said atom)
  comma_goes said atom token lexeme stands kind more =
      Leads-one (rule_tests rules pool) bytes from (wants_comma frame said atom) (wants_argument frame said atom) token lexeme stands
      (inl (stands.says.kind ∙ kind, inl (more, refl)))

  is_not_comma : (lexeme : Lexeme) → lexeme.kind ≡ RightParen → lexeme.kind ≢ Comma
  is_not_comma lexeme kind comma = let e : RightParen ≡ Comma = sym kind ∙ comma in cc

  pub atom_ends : (said : Said) (atom : OpenAtom) (token : Token) (lexeme : Lexeme) → StandsNext bytes from token lexeme
      → token.kind ≡ RightParen → length atom.args ≡ atom.width
      → Leads (rule_tests rules pool) bytes from (wants_comma frame said atom) token.end (after_atom frame (with_atom said atom))
  atom_ends said atom token lexeme stands kind full =
      let paren = stands.says.kind ∙ kind in
      Leads-one (rule_tests rules pool) bytes from (wants_comma frame said atom) (after_atom frame (with_atom said atom)) token lexeme stands
      (inr (is_not_comma lexeme paren, inl (paren, inl (full, refl))))

  pub arguments_too_many : (said : Said) (atom : OpenAtom) (token : Token) (lexeme : Lexeme) → StandsNext bytes from token lexeme
      → token.kind ≡ Comma → ¬ (length atom.args < atom.width)
      → Fails (rule_tests rules pool) bytes from (wants_comma frame said atom) (record { code = U2; place = token.start })
  arguments_too_many said atom token lexeme stands kind full =
      Fails-token (rule_tests rules pool) bytes from (wants_comma frame said atom) token lexeme U2 stands
      (inl (stands.says.kind ∙ kind, inr (full, refl)))

  pub arguments_too_few : (said : Said) (atom : OpenAtom) (token : Token) (lexeme : Lexeme) → StandsNext bytes from token lexeme
      → token.kind ≡ RightParen → ¬ (length atom.args ≡ atom.width)
      → Fails (rule_tests rules pool) bytes from (wants_comma frame said atom) (record { code = U2; place = token.start })
  arguments_too_few said atom token lexeme stands kind few =
      let paren = stands.says.kind ∙ kind in
      Fails-token (rule_tests rules pool) bytes from (wants_comma frame said atom) token lexeme U2 stands
      (inr (is_not_comma lexeme paren, inl (paren, inr (few, refl))))

  pub comma_fails : (said : Said) (atom : OpenAtom) (token : Token) (lexeme : Lexeme) → StandsNext bytes from token lexeme
      → token.kind ≢ Comma → token.kind ≢ RightParen
      → Fails (rule_tests rules pool) bytes from (wants_comma frame said atom) (record { code = kind_code frame; place = token.start })
  comma_fails said atom token lexeme stands comma paren =
      Fails-token (rule_tests rules pool) bytes from (wants_comma frame said atom) token lexeme (kind_code frame) stands
      (inr ((λ e. comma (sym stands.says.kind ∙ e)), inr ((λ e. paren (sym stands.says.kind ∙ e)), refl)))

  -- a comma after an atom
  pub next_atom : (said : Said) (token : Token) (lexeme : Lexeme) → StandsNext bytes from token lexeme → token.kind ≡ Comma
      → Leads (rule_tests rules pool) bytes from (after_atom frame said) token.end (wants_atom frame said)
  next_atom said token lexeme stands kind =
      Leads-one (rule_tests rules pool) bytes from (after_atom frame said) (wants_atom frame said) token lexeme stands
      (inl (stands.says.kind ∙ kind, refl))

-- an atom of this relation, with these arguments so far
abbrev pub opened : ℕ → ℕ → List Arg → OpenAtom
opened number width args = record { relation = number; width = width; args = args }

-- the arguments so far, and one more
pub one_more : (rules : RuleSet) (pool : List (List ℕ)) (bytes : List ℕ) (part : Part) (from mid to : ℕ) (first vars more : List (List ℕ))
    (atoms : List Atom) (number width : ℕ) (args all : List Arg) (arg : Arg) → all ≡ args ++ arg ∷ []
    → LeadsIn rules pool bytes part from (λ f. wants_argument f (said_of first atoms) (opened number width []))
    mid (λ f. wants_argument f (said_of vars atoms) (opened number width args))
    → LeadsIn rules pool bytes part mid (λ f. wants_argument f (said_of vars atoms) (opened number width args))
    to (λ f. wants_comma f (said_of more atoms) (with_argument (opened number width args) arg))
    → LeadsIn rules pool bytes part from (λ f. wants_argument f (said_of first atoms) (opened number width []))
    to (λ f. wants_comma f (said_of more atoms) (opened number width all))
one_more rules pool bytes part from mid to first vars more atoms number width args all arg same so_far one =
    subst (λ (list : List Arg). LeadsIn rules pool bytes part from (λ f. wants_argument f (said_of first atoms) (opened number width []))
    to (λ f. wants_comma f (said_of more atoms) (opened number width list))) (sym same)
    (LeadsIn-join rules pool bytes part from (λ f. wants_argument f (said_of first atoms) (opened number width []))
    mid (λ f. wants_argument f (said_of vars atoms) (opened number width args))
    to (λ f. wants_comma f (said_of more atoms) (with_argument (opened number width args) arg)) so_far one)

-- an atom's relation and the parenthesis behind it
pub atom_opens : (rules : RuleSet) (pool : List (List ℕ)) (bytes : List ℕ) (part : Part) (from mid to : ℕ) (said : Said) (number width : ℕ)
    → LeadsIn rules pool bytes part from (λ f. wants_atom f said) mid (λ f. wants_parenthesis f said (opened number width []))
    → StandsSign bytes mid LeftParen to
    → LeadsIn rules pool bytes part from (λ f. wants_atom f said) to (λ f. wants_argument f said (opened number width []))
atom_opens rules pool bytes part from mid to said number width name sign =
    LeadsIn-join rules pool bytes part from (λ f. wants_atom f said) mid (λ f. wants_parenthesis f said (opened number width []))
    to (λ f. wants_argument f said (opened number width [])) name
    (λ frame same. subst (λ (n : ℕ). Leads (rule_tests rules pool) bytes mid (wants_parenthesis frame said (opened number width []))
    n (wants_argument frame said (opened number width []))) sign.1
    (parenthesis_goes rules pool bytes frame mid said (opened number width []) sign.0 sign.2))
