-- What the tokens of a rule's line say: up to the line's end, what the canonical line says. The variables of a rule grow
-- while its line is read, so what is said is told for each list of variables that begins with those so far.
use Rattle.std.proofs.Common.{◌≡◌, inl, inr, ℕ, ◌+◌, List, [], ◌∷◌, ◌++◌, length, map, drop, codes, Some, All, IsUtf8, append_assoc, append-nil, refl, sym, ap, ◌∙◌, subst}
use Rattle.std.specs.Prelude.{slice_get}
use Rattle.std.specs.List.{AllZip}
use Rattle.std.proofs.Math.ListN.{get_or-append}
use Rattle.std.proofs.Math.Seq.{drop-append_seam}
use Rattle.std.proofs.lemmas.Option.{slice_get_within, get_or_from_slice_get}
use Rattle.term_core.specs.Pool.{IsPool}
use Rattle.rule_core.specs.declared.rules.Arg.{Arg}
use Rattle.rule_core.specs.declared.rules.Arg.TheVariants.{Var, Const}
use Rattle.rule_core.specs.declared.rules.Atom.{Atom}
use Rattle.rule_core.specs.declared.rules.Branch.{Branch}
use Rattle.rule_core.specs.Adding.{relations_of}
use Rattle.rule_core.specs.Mapping.{RuleSet}
use Rattle.rule_core.specs.Validity.{IsValid}
use Rattle.decl_text.specs.declared.token.Kind.TheVariants.{Name, LeftParen, RightParen, Comma, Colon, Arrow, Equals, Bar}
use Rattle.decl_text.specs.declared.token.Token.{Token}
use Rattle.decl_text.specs.Tests.{Lexeme, IsTextOf, Says, goes, Goes, Pass}
use Rattle.decl_text.specs.Declaration.{EndsLine}
use Rattle.decl_text.specs.Lexemes.{named, sign, joined_by, with_commas, SayLine}
use Rattle.decl_text.proofs.PassLemmas.{Goes-next, Test-next, Word-next}
use Rattle.decl_text.proofs.LexemeLemmas.{each_then, joined_more, then_more, before_next, name_next, comma_next, named_is, sign_is, one_more, Pass-says}
use Rattle.rule_text.specs.declared.rule.Rule.{Rule}
use Rattle.rule_text.specs.declared.rule.Rule.TheVariants.{Tgd, Egd, Query}
use Rattle.rule_text.specs.Adding.{with_rule}
use Rattle.rule_text.specs.Canonical.{text_at, relation_name, rule_text}
use Rattle.rule_text.specs.Constants.{HasTexts}
use Rattle.rule_text.specs.Lexemes.{exists_lexemes, argument_lexeme, atom_lexemes, atoms_lexemes, branch_lexemes, rule_lexemes}
use Rattle.rule_text.specs.RuleLine.{Frame, body_of_tgd, head_of_tgd, body_of_egd, disjunct_of, side_of, Said, nothing_said, OpenAtom, with_argument, with_atom, with_variable, Located, variable_tests, relation_tests, after_atom_tests, head_variable_tests, RulePosition, begins, wants_tgd_name, wants_egd_name, wants_query_name, wants_head_parenthesis, wants_head, wants_head_variable, wants_head_comma, wants_colon, wants_atom, wants_parenthesis, wants_argument, wants_comma, after_atom, after_arrow, wants_exists_variable, wants_exists_comma, wants_left, wants_equals, wants_right, wants_line_end, stated, rule_tests, IsRule}
use Rattle.rule_text.proofs.AtomLemmas.{IsShortText}
use Rattle.rule_text.proofs.PlaceLemmas.{relation_name_is}
use Rattle.rule_text.proofs.WrittenLemmas.{rule_written}

-- the text with this number, also where more texts follow
text_is : (texts more : List (List ℕ)) (k : ℕ) (text : List ℕ) → slice_get texts k ≡ Some text → text_at (texts ++ more) k ≡ text
text_is texts more k text e =
    get_or-append texts more [] k (slice_get_within texts k text e) ∙ get_or_from_slice_get texts k text [] e

drop_all : (names : List (List ℕ)) → drop (length names) names ≡ []
drop_all [] = refl
drop_all (name ∷ names) = drop_all names

exists_closed : (names : List (List ℕ)) (last : List ℕ)
    → exists_lexemes (names ++ last ∷ []) ≡ named (codes "exists") ∷ (with_commas (names ++ last ∷ []) ++ sign Colon ∷ [])
exists_closed [] last = refl
exists_closed (name ∷ names) last = refl

abbrev tgd_begun : List ℕ → List Lexeme
tgd_begun name = named (codes "tgd") ∷ named name ∷ sign Colon ∷ []

abbrev egd_begun : List ℕ → List Lexeme
egd_begun name = named (codes "egd") ∷ named name ∷ sign Colon ∷ []

abbrev query_opened : List ℕ → List Lexeme → List Lexeme
query_opened name more = named (codes "query") ∷ named name ∷ sign LeftParen ∷ more

abbrev query_begun : List ℕ → List (List ℕ) → List Lexeme
query_begun name head = query_opened name (with_commas head ++ sign RightParen ∷ sign Colon ∷ [])

module _ (rules : RuleSet) (pool : List (List ℕ)) where
  abbrev atom_of : Frame → List (List ℕ) → Atom → List Lexeme
  atom_of frame vars atom = atom_lexemes pool (relations_of rules (side_of frame)) vars atom

  abbrev argument_of : List (List ℕ) → Arg → List Lexeme
  argument_of vars arg = argument_lexeme pool vars arg ∷ []

  -- up to behind the arrow
  abbrev tgd_body : List ℕ → List Atom → List (List ℕ) → List Lexeme
  tgd_body name body vars = (tgd_begun name ++ atoms_lexemes pool rules.sources vars body) ++ sign Arrow ∷ []

  abbrev egd_body : List ℕ → List Atom → List (List ℕ) → List Lexeme
  egd_body name body vars = (egd_begun name ++ atoms_lexemes pool rules.targets vars body) ++ sign Arrow ∷ []

  -- up to the atoms of this frame
  abbrev before_atoms : Frame → List (List ℕ) → List Lexeme
  before_atoms (body_of_tgd name) vars = tgd_begun name
  before_atoms (head_of_tgd name body body_vars) vars = tgd_body name body vars ++ exists_lexemes (drop body_vars vars)
  before_atoms (body_of_egd name) vars = egd_begun name
  before_atoms (disjunct_of name head branches) vars =
      query_begun name head ++ each_then (sign Bar) (map (branch_lexemes pool rules.targets) branches)

  -- up to the next atom
  abbrev before_atom : Frame → Said → List (List ℕ) → List Lexeme
  before_atom frame said all = before_atoms frame said.vars ++ each_then (sign Comma) (map (atom_of frame all) said.atoms)

  -- the relation of an atom that isn't closed, and then its parenthesis
  abbrev relation_of : Frame → OpenAtom → Lexeme
  relation_of frame atom = named (relation_name (relations_of rules (side_of frame)) atom.relation)

  abbrev opened : Frame → Said → OpenAtom → List (List ℕ) → List Lexeme
  opened frame said atom all = before_atom frame said all ++ relation_of frame atom ∷ sign LeftParen ∷ []

  -- what the line has said where it stands so
  abbrev HasSaid : RulePosition → List Lexeme → Type 0
  HasSaid begins s = s ≡ []
  HasSaid wants_tgd_name s = s ≡ named (codes "tgd") ∷ []
  HasSaid wants_egd_name s = s ≡ named (codes "egd") ∷ []
  HasSaid wants_query_name s = s ≡ named (codes "query") ∷ []
  HasSaid (wants_head_parenthesis name) s = s ≡ named (codes "query") ∷ named name ∷ []
  HasSaid (wants_head name) s = s ≡ query_opened name []
  HasSaid (wants_head_variable name head) s = s ≡ query_opened name (before_next head)
  HasSaid (wants_head_comma name head) s =
      (s ≡ query_opened name (with_commas head)) × (before_next head ≡ with_commas head ++ sign Comma ∷ [])
  HasSaid (wants_colon frame) s = s ++ sign Colon ∷ [] ≡ before_atoms frame []
  HasSaid (wants_atom frame said) s = (more : List (List ℕ)) → s ≡ before_atom frame said (said.vars ++ more)
  HasSaid (wants_parenthesis frame said atom) s =
      (atom.args ≡ []) × ((more : List (List ℕ)) → s ≡ before_atom frame said (said.vars ++ more) ++ relation_of frame atom ∷ [])
  HasSaid (wants_argument frame said atom) s =
      (more : List (List ℕ))
      → s ≡ opened frame said atom (said.vars ++ more) ++ each_then (sign Comma) (map (argument_of (said.vars ++ more)) atom.args)
  HasSaid (wants_comma frame said atom) s =
      (more : List (List ℕ))
      → (s ≡ opened frame said atom (said.vars ++ more) ++ joined_by (sign Comma) (map (argument_of (said.vars ++ more)) atom.args))
      × (each_then (sign Comma) (map (argument_of (said.vars ++ more)) atom.args)
      ≡ joined_by (sign Comma) (map (argument_of (said.vars ++ more)) atom.args) ++ sign Comma ∷ [])
  HasSaid (after_atom frame said) s =
      (more : List (List ℕ))
      → (s ≡ before_atoms frame said.vars ++ joined_by (sign Comma) (map (atom_of frame (said.vars ++ more)) said.atoms))
      × (each_then (sign Comma) (map (atom_of frame (said.vars ++ more)) said.atoms)
      ≡ joined_by (sign Comma) (map (atom_of frame (said.vars ++ more)) said.atoms) ++ sign Comma ∷ [])
  HasSaid (after_arrow name said) s = (more : List (List ℕ)) → s ≡ tgd_body name said.atoms (said.vars ++ more)
  HasSaid (wants_exists_variable name body body_vars vars) s =
      (front names : List (List ℕ)) × (vars ≡ front ++ names) × (body_vars ≡ length front)
      × ((more : List (List ℕ)) → s ≡ tgd_body name body (vars ++ more) ++ named (codes "exists") ∷ before_next names)
  HasSaid (wants_exists_comma name body body_vars vars) s =
      (front names : List (List ℕ)) × (last : List ℕ) × (vars ≡ front ++ (names ++ last ∷ [])) × (body_vars ≡ length front)
      × ((more : List (List ℕ)) → s ≡ tgd_body name body (vars ++ more) ++ named (codes "exists") ∷ with_commas (names ++ last ∷ []))
  HasSaid (wants_left name said) s = (more : List (List ℕ)) → s ≡ egd_body name said.atoms (said.vars ++ more)
  HasSaid (wants_equals name said left) s = s ≡ egd_body name said.atoms said.vars ++ named (text_at said.vars left) ∷ []
  HasSaid (wants_right name said left) s = s ≡ egd_body name said.atoms said.vars ++ named (text_at said.vars left) ∷ sign Equals ∷ []
  HasSaid (wants_line_end rule) s = s ≡ rule_lexemes rules pool rule
  HasSaid (stated rule) s = (end : Lexeme) × EndsLine end × (s ≡ rule_lexemes rules pool rule ++ end ∷ [])

  moved : (target next : RulePosition) (s : List Lexeme) → Goes target (goes next) → HasSaid target s → HasSaid next s
  moved target next s leads has = subst (λ p. HasSaid p s) (Goes-next target next leads) has

  -- a token as the tests see it: its text is of its kind
  module _ (next : RulePosition) (lexeme : Lexeme) (spelled : List ℕ) (s : List Lexeme) (text : IsTextOf lexeme.kind spelled lexeme.text) where
    begun : rule_tests rules pool begins lexeme (goes next) → HasSaid begins s → HasSaid next (s ++ lexeme ∷ [])
    begun (inl h) before =
        moved wants_tgd_name next (s ++ lexeme ∷ []) h.1
        (one_more s [] lexeme (named (codes "tgd")) before (named_is lexeme (codes "tgd") h.0.0 h.0.1))
    begun (inr (other, inl h)) before =
        moved wants_egd_name next (s ++ lexeme ∷ []) h.1
        (one_more s [] lexeme (named (codes "egd")) before (named_is lexeme (codes "egd") h.0.0 h.0.1))
    begun (inr (other, inr (another, inl h))) before =
        moved wants_query_name next (s ++ lexeme ∷ []) h.1
        (one_more s [] lexeme (named (codes "query")) before (named_is lexeme (codes "query") h.0.0 h.0.1))
    begun (inr (other, inr (another, inr h))) before = absurd cc

    tgd_named : rule_tests rules pool wants_tgd_name lexeme (goes next) → HasSaid wants_tgd_name s → HasSaid next (s ++ lexeme ∷ [])
    tgd_named h before =
        let name = Word-next h in
        moved (wants_colon (body_of_tgd lexeme.text)) next (s ++ lexeme ∷ []) (Test-next (Test-next name.1).1).1
        (ap (λ l. l ++ sign Colon ∷ [])
        (one_more s (named (codes "tgd") ∷ []) lexeme (named lexeme.text) before (named_is lexeme lexeme.text name.0 refl)))

    egd_named : rule_tests rules pool wants_egd_name lexeme (goes next) → HasSaid wants_egd_name s → HasSaid next (s ++ lexeme ∷ [])
    egd_named h before =
        let name = Word-next h in
        moved (wants_colon (body_of_egd lexeme.text)) next (s ++ lexeme ∷ []) (Test-next (Test-next name.1).1).1
        (ap (λ l. l ++ sign Colon ∷ [])
        (one_more s (named (codes "egd") ∷ []) lexeme (named lexeme.text) before (named_is lexeme lexeme.text name.0 refl)))

    query_named : rule_tests rules pool wants_query_name lexeme (goes next) → HasSaid wants_query_name s → HasSaid next (s ++ lexeme ∷ [])
    query_named h before =
        let name = Word-next h in
        moved (wants_head_parenthesis lexeme.text) next (s ++ lexeme ∷ []) (Test-next (Test-next name.1).1).1
        (one_more s (named (codes "query") ∷ []) lexeme (named lexeme.text) before (named_is lexeme lexeme.text name.0 refl))

    head_opened : (name : List ℕ) → rule_tests rules pool (wants_head_parenthesis name) lexeme (goes next)
        → HasSaid (wants_head_parenthesis name) s → HasSaid next (s ++ lexeme ∷ [])
    head_opened name h before =
        moved (wants_head name) next (s ++ lexeme ∷ []) (Test-next h).1
        (one_more s (named (codes "query") ∷ named name ∷ []) lexeme (sign LeftParen) before
        (sign_is LeftParen lexeme spelled (λ t e. e) (Test-next h).0 text))

    head_variable : (name : List ℕ) (head : List (List ℕ)) → head_variable_tests name head lexeme (goes next)
        → HasSaid (wants_head_variable name head) s → HasSaid next (s ++ lexeme ∷ [])
    head_variable name head h before =
        let variable = Word-next h in
        moved (wants_head_comma name (head ++ lexeme.text ∷ [])) next (s ++ lexeme ∷ []) (Test-next (Test-next variable.1).1).1 (
          one_more s (query_opened name (before_next head)) lexeme (named lexeme.text) before (named_is lexeme lexeme.text variable.0 refl)
              ∙ ap (query_opened name) (name_next head lexeme.text),
          comma_next head lexeme.text,
        )

    head_begun : (name : List ℕ) → rule_tests rules pool (wants_head name) lexeme (goes next) → HasSaid (wants_head name) s
        → HasSaid next (s ++ lexeme ∷ [])
    head_begun name (inl h) before =
        moved (wants_colon (disjunct_of name [] [])) next (s ++ lexeme ∷ []) h.1
        (ap (λ l. l ++ sign Colon ∷ [])
        (one_more s (query_opened name []) lexeme (sign RightParen) before (sign_is RightParen lexeme spelled (λ t e. e) h.0 text)))
    head_begun name (inr h) before = head_variable name [] h.1 before

    head_comma : (name : List ℕ) (head : List (List ℕ)) → rule_tests rules pool (wants_head_comma name head) lexeme (goes next)
        → HasSaid (wants_head_comma name head) s → HasSaid next (s ++ lexeme ∷ [])
    head_comma name head (inl h) before =
        moved (wants_head_variable name head) next (s ++ lexeme ∷ []) h.1
        (one_more s (query_opened name (with_commas head)) lexeme (sign Comma) before.0 (sign_is Comma lexeme spelled (λ t e. e) h.0 text)
        ∙ ap (query_opened name) (sym before.1))
    head_comma name head (inr h) before =
        let close = Test-next h.1 in
        moved (wants_colon (disjunct_of name head [])) next (s ++ lexeme ∷ []) close.1
        (ap (λ l. l ++ sign Colon ∷ [])
        (one_more s (query_opened name (with_commas head)) lexeme (sign RightParen) before.0
        (sign_is RightParen lexeme spelled (λ t e. e) close.0 text))
        ∙ append_assoc (query_opened name (with_commas head)) (sign RightParen ∷ []) (sign Colon ∷ [])
        ∙ sym (append-nil (query_begun name head)))

    colon : (frame : Frame) → rule_tests rules pool (wants_colon frame) lexeme (goes next) → HasSaid (wants_colon frame) s
        → HasSaid next (s ++ lexeme ∷ [])
    colon frame h before =
        moved (wants_atom frame nothing_said) next (s ++ lexeme ∷ []) (Test-next h).1
        (λ more. one_more s s lexeme (sign Colon) refl (sign_is Colon lexeme spelled (λ t e. e) (Test-next h).0 text) ∙ before
        ∙ sym (append-nil (before_atoms frame [])))

    related : (frame : Frame) (said : Said) → relation_tests rules frame said lexeme (goes next) → HasSaid (wants_atom frame said) s
        → HasSaid next (s ++ lexeme ∷ [])
    related frame said h before =
        let name = Word-next h in
        let found = (Test-next (Test-next (Test-next name.1).1).1).1 in
        let relations = relations_of rules (side_of frame) in
        let is : lexeme.text ≡ relation_name relations found.0 =
        sym (relation_name_is relations found.0 found.1 found.2.there ∙ found.2.named) in
        moved (wants_parenthesis frame said (record { relation = found.0; width = length found.1.columns; args = [] })) next
        (s ++ lexeme ∷ []) found.3 (
          refl,
          λ more. one_more s (before_atom frame said (said.vars ++ more)) lexeme (named (relation_name relations found.0)) (before more)
              (named_is lexeme (relation_name relations found.0) name.0 is),
        )

    parenthesis : (frame : Frame) (said : Said) (atom : OpenAtom) → rule_tests rules pool (wants_parenthesis frame said atom) lexeme (goes next)
        → HasSaid (wants_parenthesis frame said atom) s → HasSaid next (s ++ lexeme ∷ [])
    parenthesis frame said atom h before =
        moved (wants_argument frame said atom) next (s ++ lexeme ∷ []) (Test-next h).1
        (λ more. one_more s (before_atom frame said (said.vars ++ more) ++ relation_of frame atom ∷ []) lexeme (sign LeftParen) (before.1 more)
        (sign_is LeftParen lexeme spelled (λ t e. e) (Test-next h).0 text)
        ∙ append_assoc (before_atom frame said (said.vars ++ more)) (relation_of frame atom ∷ []) (sign LeftParen ∷ [])
        ∙ sym (append-nil (opened frame said atom (said.vars ++ more)))
        ∙ ap (λ args. opened frame said atom (said.vars ++ more)
        ++ each_then (sign Comma) (map (argument_of (said.vars ++ more)) args)) (sym before.0))

    -- one more argument
    argument : (frame : Frame) (said : Said) (atom : OpenAtom) (arg : Arg)
        → ((more : List (List ℕ)) → lexeme ≡ argument_lexeme pool (said.vars ++ more) arg)
        → HasSaid (wants_argument frame said atom) s → HasSaid (wants_comma frame said (with_argument atom arg)) (s ++ lexeme ∷ [])
    argument frame said atom arg is before more =
        let all = said.vars ++ more in (
          one_more s (opened frame said atom all ++ each_then (sign Comma) (map (argument_of all) atom.args)) lexeme
              (argument_lexeme pool all arg) (before more) (is more)
              ∙ append_assoc (opened frame said atom all) (each_then (sign Comma) (map (argument_of all) atom.args)) (argument_of all arg)
              ∙ ap (λ l. opened frame said atom all ++ l) (sym (joined_more (sign Comma) (argument_of all) atom.args arg)),
          then_more (sign Comma) (argument_of all) atom.args arg,
        )

    located : (frame : Frame) (said : Said) (atom : OpenAtom) → lexeme.kind ≡ Name
        → Located said.vars lexeme.text (λ v. wants_comma frame said (with_argument atom (Var v))) (goes next)
        → HasSaid (wants_argument frame said atom) s → HasSaid next (s ++ lexeme ∷ [])
    located frame said atom kind h before =
        moved (wants_comma frame said (with_argument atom (Var h.0))) next (s ++ lexeme ∷ []) h.2
        (argument frame said atom (Var h.0)
        (λ more. named_is lexeme (text_at (said.vars ++ more) h.0) kind (sym (text_is said.vars more h.0 lexeme.text h.1.there))) before)

    -- where one more variable is known, the line has said the same
    grown : (frame : Frame) (said : Said) (atom : OpenAtom) (name : List ℕ)
        → before_atoms frame said.vars ≡ before_atoms frame (said.vars ++ name ∷ [])
        → HasSaid (wants_argument frame said atom) s → HasSaid (wants_argument frame (with_variable said name) atom) s
    grown frame said atom name same before more =
        before (name ∷ more)
        ∙ ap (λ all. opened frame said atom all ++ each_then (sign Comma) (map (argument_of all) atom.args))
        (sym (append_assoc said.vars (name ∷ []) more))
        ∙ ap (λ front. ((front
        ++ each_then (sign Comma) (map (atom_of frame ((said.vars ++ name ∷ []) ++ more)) said.atoms))
        ++ relation_of frame atom ∷ sign LeftParen ∷ [])
        ++ each_then (sign Comma) (map (argument_of ((said.vars ++ name ∷ []) ++ more)) atom.args)) same

    variable : (frame : Frame) (said : Said) (atom : OpenAtom) → lexeme.kind ≡ Name → variable_tests frame said atom lexeme.text (goes next)
        → HasSaid (wants_argument frame said atom) s → HasSaid next (s ++ lexeme ∷ [])
    variable (head_of_tgd name body body_vars) said atom kind h before =
        located (head_of_tgd name body body_vars) said atom kind (Test-next h).1 before
    variable (body_of_tgd name) said atom kind (inl h) before = located (body_of_tgd name) said atom kind h.1 before
    variable (body_of_tgd name) said atom kind (inr h) before =
        located (body_of_tgd name) (with_variable said lexeme.text) atom kind (Test-next h.1).1
        (grown (body_of_tgd name) said atom lexeme.text refl before)
    variable (body_of_egd name) said atom kind (inl h) before = located (body_of_egd name) said atom kind h.1 before
    variable (body_of_egd name) said atom kind (inr h) before =
        located (body_of_egd name) (with_variable said lexeme.text) atom kind (Test-next h.1).1
        (grown (body_of_egd name) said atom lexeme.text refl before)
    variable (disjunct_of name head branches) said atom kind (inl h) before = located (disjunct_of name head branches) said atom kind h.1 before
    variable (disjunct_of name head branches) said atom kind (inr h) before =
        located (disjunct_of name head branches) (with_variable said lexeme.text) atom kind (Test-next h.1).1
        (grown (disjunct_of name head branches) said atom lexeme.text refl before)

    argued : (frame : Frame) (said : Said) (atom : OpenAtom) → rule_tests rules pool (wants_argument frame said atom) lexeme (goes next)
        → HasSaid (wants_argument frame said atom) s → HasSaid next (s ++ lexeme ∷ [])
    argued frame said atom (inl h) before =
        let found = (Test-next h.1).1 in
        let is : lexeme.text ≡ text_at pool found.0 = sym (get_or_from_slice_get pool found.0 lexeme.text [] found.1.there) in
        moved (wants_comma frame said (with_argument atom (Const (record { 0 = found.0 })))) next (s ++ lexeme ∷ []) found.2
        (argument frame said atom (Const (record { 0 = found.0 })) (λ more. λ i. record { kind = h.0 i; text = is i }) before)
    argued frame said atom (inr h) before =
        let name = Word-next h.1 in variable frame said atom name.0 name.1 before

    -- one more atom is closed, or one more argument follows
    comma : (frame : Frame) (said : Said) (atom : OpenAtom) → rule_tests rules pool (wants_comma frame said atom) lexeme (goes next)
        → HasSaid (wants_comma frame said atom) s → HasSaid next (s ++ lexeme ∷ [])
    comma frame said atom (inl h) before =
        moved (wants_argument frame said atom) next (s ++ lexeme ∷ []) (Test-next h.1).1
        (λ more. let all = said.vars ++ more in
        one_more s (opened frame said atom all ++ joined_by (sign Comma) (map (argument_of all) atom.args)) lexeme (sign Comma)
        (before more).0 (sign_is Comma lexeme spelled (λ t e. e) h.0 text)
        ∙ append_assoc (opened frame said atom all) (joined_by (sign Comma) (map (argument_of all) atom.args)) (sign Comma ∷ [])
        ∙ ap (λ l. opened frame said atom all ++ l) (sym (before more).1))
    comma frame said atom (inr h) before =
        let close = Test-next h.1 in
        let closed : Atom = record { relation = atom.relation; args = atom.args } in
        moved (after_atom frame (with_atom said atom)) next (s ++ lexeme ∷ []) (Test-next close.1).1
        (λ more. let all = said.vars ++ more in
        let front = before_atoms frame said.vars in
        let earlier = each_then (sign Comma) (map (atom_of frame all) said.atoms) in
        let arguments = joined_by (sign Comma) (map (argument_of all) atom.args) in
        let open_part = relation_of frame atom ∷ sign LeftParen ∷ [] in (
          one_more s (opened frame said atom all ++ arguments) lexeme (sign RightParen) (before more).0
              (sign_is RightParen lexeme spelled (λ t e. e) close.0 text)
              ∙ append_assoc (opened frame said atom all) arguments (sign RightParen ∷ [])
              ∙ append_assoc (front ++ earlier) open_part (arguments ++ sign RightParen ∷ [])
              ∙ append_assoc front earlier (open_part ++ (arguments ++ sign RightParen ∷ []))
              ∙ ap (λ l. front ++ l) (sym (joined_more (sign Comma) (atom_of frame all) said.atoms closed)),
          then_more (sign Comma) (atom_of frame all) said.atoms closed,
        ))

    -- behind the atoms, with the variables as they are in the end
    ended : (frame : Frame) (said : Said) → HasSaid (after_atom frame said) s
        → s ≡ before_atoms frame said.vars ++ joined_by (sign Comma) (map (atom_of frame said.vars) said.atoms)
    ended frame said before =
        (before []).0
        ∙ ap (λ all. before_atoms frame said.vars ++ joined_by (sign Comma) (map (atom_of frame all) said.atoms)) (append-nil said.vars)

    -- the disjuncts with one more
    disjuncts : (name : List ℕ) (head : List (List ℕ)) (branches : List Branch) (said : Said) (columns : List ℕ)
        → HasSaid (after_atom (disjunct_of name head branches) said) s
        → s ≡ query_begun name head ++ joined_by (sign Bar)
        (map (branch_lexemes pool rules.targets) (branches ++ (record { vars = said.vars; body = said.atoms; columns = columns }) ∷ []))
    disjuncts name head branches said columns before =
        let branch : Branch = record { vars = said.vars; body = said.atoms; columns = columns } in
        ended (disjunct_of name head branches) said before
        ∙ append_assoc (query_begun name head) (each_then (sign Bar) (map (branch_lexemes pool rules.targets) branches))
        (branch_lexemes pool rules.targets branch)
        ∙ ap (λ l. query_begun name head ++ l) (sym (joined_more (sign Bar) (branch_lexemes pool rules.targets) branches branch))

    after : (frame : Frame) (said : Said) → after_atom_tests frame said lexeme (goes next) → HasSaid (after_atom frame said) s
        → HasSaid next (s ++ lexeme ∷ [])
    after (body_of_tgd name) said h before =
        moved (after_arrow name said) next (s ++ lexeme ∷ []) (Test-next h).1
        (λ more. one_more s (tgd_begun name ++ atoms_lexemes pool rules.sources (said.vars ++ more) said.atoms) lexeme (sign Arrow)
        (before more).0 (sign_is Arrow lexeme spelled (λ t e. e) (Test-next h).0 text))
    after (head_of_tgd name body body_vars) said h before =
        let rule : Rule = Tgd (record { name = name; vars = said.vars; body_vars = body_vars; body = body; head = said.atoms }) in
        let exists = exists_lexemes (drop body_vars said.vars) in
        let head = atoms_lexemes pool rules.targets said.vars said.atoms in
        let front = tgd_begun name ++ atoms_lexemes pool rules.sources said.vars body in
        moved (stated rule) next (s ++ lexeme ∷ []) (Test-next h).1 (
          lexeme,
          (Test-next h).0,
          one_more s (rule_lexemes rules pool rule) lexeme lexeme (
              ended (head_of_tgd name body body_vars) said before
              ∙ append_assoc (tgd_body name body said.vars) exists head
              ∙ append_assoc front (sign Arrow ∷ []) (exists ++ head)) refl,
        )
    after (body_of_egd name) said h before =
        moved (wants_left name said) next (s ++ lexeme ∷ []) (Test-next h).1
        (λ more. one_more s (egd_begun name ++ atoms_lexemes pool rules.targets (said.vars ++ more) said.atoms) lexeme (sign Arrow)
        (before more).0 (sign_is Arrow lexeme spelled (λ t e. e) (Test-next h).0 text))
    after (disjunct_of name head branches) said (inl h) before =
        let found = (Test-next (Test-next h.1).1).1 in
        let branch : Branch = record { vars = said.vars; body = said.atoms; columns = found.0 } in
        let branches_said = joined_by (sign Bar) (map (branch_lexemes pool rules.targets) (branches ++ branch ∷ [])) in
        moved (wants_atom (disjunct_of name head (branches ++ branch ∷ [])) nothing_said) next (s ++ lexeme ∷ []) found.2
        (λ more. one_more s (query_begun name head ++ branches_said) lexeme (sign Bar) (disjuncts name head branches said found.0 before)
        (sign_is Bar lexeme spelled (λ t e. e) h.0 text)
        ∙ append_assoc (query_begun name head) branches_said (sign Bar ∷ [])
        ∙ ap (λ l. query_begun name head ++ l) (sym (then_more (sign Bar) (branch_lexemes pool rules.targets) branches branch))
        ∙ sym (append-nil (before_atoms (disjunct_of name head (branches ++ branch ∷ [])) [])))
    after (disjunct_of name head branches) said (inr h) before =
        let end = Test-next h.1 in
        let found = (Test-next end.1).1 in
        let branch : Branch = record { vars = said.vars; body = said.atoms; columns = found.0 } in
        let rule : Rule = Query (record { name = name; head = head; branches = branches ++ branch ∷ [] }) in
        moved (stated rule) next (s ++ lexeme ∷ []) found.2 (
          lexeme,
          end.0,
          one_more s (rule_lexemes rules pool rule) lexeme lexeme (
              disjuncts name head branches said found.0 before
              ∙ ap (query_opened name) (append_assoc (with_commas head) (sign RightParen ∷ sign Colon ∷ [])
              (joined_by (sign Bar) (map (branch_lexemes pool rules.targets) (branches ++ branch ∷ []))))) refl,
        )

    next_atom : (frame : Frame) (said : Said) → rule_tests rules pool (after_atom frame said) lexeme (goes next)
        → HasSaid (after_atom frame said) s → HasSaid next (s ++ lexeme ∷ [])
    next_atom frame said (inl h) before =
        moved (wants_atom frame said) next (s ++ lexeme ∷ []) h.1
        (λ more. let joined = joined_by (sign Comma) (map (atom_of frame (said.vars ++ more)) said.atoms) in
        one_more s (before_atoms frame said.vars ++ joined) lexeme (sign Comma) (before more).0
        (sign_is Comma lexeme spelled (λ t e. e) h.0 text)
        ∙ append_assoc (before_atoms frame said.vars) joined (sign Comma ∷ [])
        ∙ ap (λ l. before_atoms frame said.vars ++ l) (sym (before more).1))
    next_atom frame said (inr h) before = after frame said h.1 before

    arrow : (name : List ℕ) (said : Said) → rule_tests rules pool (after_arrow name said) lexeme (goes next)
        → HasSaid (after_arrow name said) s → HasSaid next (s ++ lexeme ∷ [])
    arrow name said (inl h) before =
        moved (wants_exists_variable name said.atoms (length said.vars) said.vars) next (s ++ lexeme ∷ []) h.1 (
          said.vars,
          [],
          sym (append-nil said.vars),
          refl,
          λ more. one_more s (tgd_body name said.atoms (said.vars ++ more)) lexeme (named (codes "exists")) (before more)
              (named_is lexeme (codes "exists") h.0.0 h.0.1),
        )
    arrow name said (inr h) before =
        related (head_of_tgd name said.atoms (length said.vars)) (record said { atoms = [] }) h.1
        (λ more. before [] ∙ ap (tgd_body name said.atoms) (append-nil said.vars)
        ∙ sym (append-nil (tgd_body name said.atoms said.vars))
        ∙ ap (λ names. tgd_body name said.atoms said.vars ++ exists_lexemes names) (sym (drop_all said.vars))
        ∙ sym (append-nil (before_atoms (head_of_tgd name said.atoms (length said.vars)) said.vars)))

    exists_variable : (name : List ℕ) (body : List Atom) (body_vars : ℕ) (vars : List (List ℕ))
        → rule_tests rules pool (wants_exists_variable name body body_vars vars) lexeme (goes next)
        → HasSaid (wants_exists_variable name body body_vars vars) s → HasSaid next (s ++ lexeme ∷ [])
    exists_variable name body body_vars vars h (front, names, vars_are, count, before) =
        let variable = Word-next h in
        let word = named (codes "exists") in
        moved (wants_exists_comma name body body_vars (vars ++ lexeme.text ∷ [])) next (s ++ lexeme ∷ [])
        (Test-next (Test-next variable.1).1).1 (
          front,
          names,
          lexeme.text,
          ap (λ l. l ++ lexeme.text ∷ []) vars_are ∙ append_assoc front names (lexeme.text ∷ []),
          count,
          λ more. one_more s (tgd_body name body (vars ++ lexeme.text ∷ more) ++ word ∷ before_next names) lexeme (named lexeme.text)
              (before (lexeme.text ∷ more)) (named_is lexeme lexeme.text variable.0 refl)
              ∙ append_assoc (tgd_body name body (vars ++ lexeme.text ∷ more)) (word ∷ before_next names) (named lexeme.text ∷ [])
              ∙ ap (λ l. tgd_body name body (vars ++ lexeme.text ∷ more) ++ word ∷ l) (name_next names lexeme.text)
              ∙ ap (λ all. tgd_body name body all ++ word ∷ with_commas (names ++ lexeme.text ∷ []))
              (sym (append_assoc vars (lexeme.text ∷ []) more)),
        )

    exists_comma : (name : List ℕ) (body : List Atom) (body_vars : ℕ) (vars : List (List ℕ))
        → rule_tests rules pool (wants_exists_comma name body body_vars vars) lexeme (goes next)
        → HasSaid (wants_exists_comma name body body_vars vars) s → HasSaid next (s ++ lexeme ∷ [])
    exists_comma name body body_vars vars (inl h) (front, names, last, vars_are, count, before) =
        let word = named (codes "exists") in
        moved (wants_exists_variable name body body_vars vars) next (s ++ lexeme ∷ []) h.1 (
          front,
          names ++ last ∷ [],
          vars_are,
          count,
          λ more. one_more s (tgd_body name body (vars ++ more) ++ word ∷ with_commas (names ++ last ∷ [])) lexeme (sign Comma)
              (before more) (sign_is Comma lexeme spelled (λ t e. e) h.0 text)
              ∙ append_assoc (tgd_body name body (vars ++ more)) (word ∷ with_commas (names ++ last ∷ [])) (sign Comma ∷ [])
              ∙ ap (λ l. tgd_body name body (vars ++ more) ++ word ∷ l) (sym (comma_next names last)),
        )
    exists_comma name body body_vars vars (inr h) (front, names, last, vars_are, count, before) =
        let colon_is = Test-next h.1 in
        let word = named (codes "exists") in
        let dropped : drop body_vars vars ≡ names ++ last ∷ [] =
        (λ i. drop (count i) (vars_are i)) ∙ drop-append_seam front (names ++ last ∷ []) in
        moved (wants_atom (head_of_tgd name body body_vars) (record { vars = vars; atoms = [] })) next (s ++ lexeme ∷ []) colon_is.1
        (λ more. one_more s (tgd_body name body vars ++ word ∷ with_commas (names ++ last ∷ [])) lexeme (sign Colon)
        (before [] ∙ ap (λ all. tgd_body name body all ++ word ∷ with_commas (names ++ last ∷ [])) (append-nil vars))
        (sign_is Colon lexeme spelled (λ t e. e) colon_is.0 text)
        ∙ append_assoc (tgd_body name body vars) (word ∷ with_commas (names ++ last ∷ [])) (sign Colon ∷ [])
        ∙ ap (λ l. tgd_body name body vars ++ l) (sym (ap exists_lexemes dropped ∙ exists_closed names last))
        ∙ sym (append-nil (before_atoms (head_of_tgd name body body_vars) vars)))

    left_side : (name : List ℕ) (said : Said) → rule_tests rules pool (wants_left name said) lexeme (goes next)
        → HasSaid (wants_left name said) s → HasSaid next (s ++ lexeme ∷ [])
    left_side name said h before =
        let side = Word-next h in
        let found = (Test-next side.1).1 in
        moved (wants_equals name said found.0) next (s ++ lexeme ∷ []) found.2
        (one_more s (egd_body name said.atoms said.vars) lexeme (named (text_at said.vars found.0))
        (before [] ∙ ap (egd_body name said.atoms) (append-nil said.vars))
        (named_is lexeme (text_at said.vars found.0) side.0
        (sym (get_or_from_slice_get said.vars found.0 lexeme.text [] found.1.there))))

    equals : (name : List ℕ) (said : Said) (left : ℕ) → rule_tests rules pool (wants_equals name said left) lexeme (goes next)
        → HasSaid (wants_equals name said left) s → HasSaid next (s ++ lexeme ∷ [])
    equals name said left h before =
        let left_is = named (text_at said.vars left) in
        moved (wants_right name said left) next (s ++ lexeme ∷ []) (Test-next h).1
        (one_more s (egd_body name said.atoms said.vars ++ left_is ∷ []) lexeme (sign Equals) before
        (sign_is Equals lexeme spelled (λ t e. e) (Test-next h).0 text)
        ∙ append_assoc (egd_body name said.atoms said.vars) (left_is ∷ []) (sign Equals ∷ []))

    right_side : (name : List ℕ) (said : Said) (left : ℕ) → rule_tests rules pool (wants_right name said left) lexeme (goes next)
        → HasSaid (wants_right name said left) s → HasSaid next (s ++ lexeme ∷ [])
    right_side name said left h before =
        let side = Word-next h in
        let found = (Test-next side.1).1 in
        let sides = named (text_at said.vars left) ∷ sign Equals ∷ [] in
        let right_is = named (text_at said.vars found.0) in
        let front = egd_begun name ++ atoms_lexemes pool rules.targets said.vars said.atoms in
        moved (wants_line_end (Egd (record { name = name; vars = said.vars; body = said.atoms; left = left; right = found.0 }))) next
        (s ++ lexeme ∷ []) found.2
        (one_more s (egd_body name said.atoms said.vars ++ sides) lexeme right_is before
        (named_is lexeme (text_at said.vars found.0) side.0
        (sym (get_or_from_slice_get said.vars found.0 lexeme.text [] found.1.there)))
        ∙ append_assoc (egd_body name said.atoms said.vars) sides (right_is ∷ [])
        ∙ append_assoc front (sign Arrow ∷ []) (sides ++ right_is ∷ []))

  -- a token that passes says what the line says next
  says_next : (position next : RulePosition) (lexeme : Lexeme) (spelled : List ℕ) (s : List Lexeme)
      → IsTextOf lexeme.kind spelled lexeme.text → rule_tests rules pool position lexeme (goes next) → HasSaid position s
      → HasSaid next (s ++ lexeme ∷ [])
  says_next begins next lexeme spelled s text h before = begun next lexeme spelled s text h before
  says_next wants_tgd_name next lexeme spelled s text h before = tgd_named next lexeme spelled s text h before
  says_next wants_egd_name next lexeme spelled s text h before = egd_named next lexeme spelled s text h before
  says_next wants_query_name next lexeme spelled s text h before = query_named next lexeme spelled s text h before
  says_next (wants_head_parenthesis name) next lexeme spelled s text h before = head_opened next lexeme spelled s text name h before
  says_next (wants_head name) next lexeme spelled s text h before = head_begun next lexeme spelled s text name h before
  says_next (wants_head_variable name head) next lexeme spelled s text h before =
      head_variable next lexeme spelled s text name head h before
  says_next (wants_head_comma name head) next lexeme spelled s text h before = head_comma next lexeme spelled s text name head h before
  says_next (wants_colon frame) next lexeme spelled s text h before = colon next lexeme spelled s text frame h before
  says_next (wants_atom frame said) next lexeme spelled s text h before = related next lexeme spelled s text frame said h before
  says_next (wants_parenthesis frame said atom) next lexeme spelled s text h before =
      parenthesis next lexeme spelled s text frame said atom h before
  says_next (wants_argument frame said atom) next lexeme spelled s text h before = argued next lexeme spelled s text frame said atom h before
  says_next (wants_comma frame said atom) next lexeme spelled s text h before = comma next lexeme spelled s text frame said atom h before
  says_next (after_atom frame said) next lexeme spelled s text h before = next_atom next lexeme spelled s text frame said h before
  says_next (after_arrow name said) next lexeme spelled s text h before = arrow next lexeme spelled s text name said h before
  says_next (wants_exists_variable name body body_vars vars) next lexeme spelled s text h before =
      exists_variable next lexeme spelled s text name body body_vars vars h before
  says_next (wants_exists_comma name body body_vars vars) next lexeme spelled s text h before =
      exists_comma next lexeme spelled s text name body body_vars vars h before
  says_next (wants_left name said) next lexeme spelled s text h before = left_side next lexeme spelled s text name said h before
  says_next (wants_equals name said left) next lexeme spelled s text h before = equals next lexeme spelled s text name said left h before
  says_next (wants_right name said left) next lexeme spelled s text h before = right_side next lexeme spelled s text name said left h before
  says_next (wants_line_end rule) next lexeme spelled s text h before =
      moved (stated rule) next (s ++ lexeme ∷ []) (Test-next h).1
      (lexeme, (Test-next h).0, one_more s (rule_lexemes rules pool rule) lexeme lexeme before refl)
  says_next (stated rule) next lexeme spelled s text h before = absurd h

-- the tokens of a line that states a rule say the rule's words, signs and texts
pub rule_says : (bytes : List ℕ) (rules : RuleSet) (pool : List (List ℕ)) (from : ℕ) (rule : Rule) (tokens : List Token) (to : ℕ)
    → Pass (rule_tests rules pool) bytes from begins tokens to (stated rule) → SayLine bytes tokens (rule_lexemes rules pool rule)
rule_says bytes rules pool from rule tokens to pass =
    let said = Pass-says (rule_tests rules pool) (HasSaid rules pool) (says_next rules pool) bytes from begins tokens to (stated rule) [] pass refl in
    (said.2.0, said.2.1, subst (λ l. AllZip (Says bytes) tokens l) said.2.2 said.1)

-- and so do those of its canonical line
pub canonical_says : (before rest : List ℕ) (rules : RuleSet) (pool : List (List ℕ)) (rule : Rule)
    → IsValid (with_rule rules rule) → IsPool pool → All IsUtf8 pool → HasTexts pool IsShortText rule → (tokens : List Token)
    × Pass (rule_tests rules pool) (before ++ (rule_text rules pool rule ++ rest)) (length before) begins tokens
    (length before + length (rule_text rules pool rule)) (stated rule)
    × SayLine (before ++ (rule_text rules pool rule ++ rest)) tokens (rule_lexemes rules pool rule)
canonical_says before rest rules pool rule valid is utf8 texts =
    let leads : IsRule (before ++ (rule_text rules pool rule ++ rest)) rules pool (length before) rule
    (length before + length (rule_text rules pool rule)) = (rule_written rules pool rule valid is utf8 texts).leads before rest tt in (
      leads.0,
      leads.1,
      rule_says (before ++ (rule_text rules pool rule ++ rest)) rules pool (length before) rule leads.0
          (length before + length (rule_text rules pool rule)) leads.1,
    )
