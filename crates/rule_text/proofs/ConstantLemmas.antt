-- The texts in quotes of a rule's line are the texts of its constants.
use Rattle.std.proofs.Common.{◌≡◌, ◌≢◌, ◌⊎◌, ◌↔◌, inl, inr, ℕ, ◌≤◌, List, [], ◌∷◌, ◌++◌, length, append_assoc, Some, Contains, refl, sym, ap, ◌∙◌, subst}
use Rattle.std.specs.Prelude.{slice_get, flat_map}
use Rattle.std.proofs.lemmas.List.{append-nil}
use Rattle.std.proofs.lemmas.Grind.{flat_map-append}
use Rattle.std.proofs.lemmas.Option.{same_Some}
use Rattle.term_core.specs.declared.const_id.ConstId.{ConstId}
use Rattle.rule_core.specs.declared.rules.Arg.{Arg}
use Rattle.rule_core.specs.declared.rules.Arg.TheVariants.{Var, Const}
use Rattle.rule_core.specs.declared.rules.Atom.{Atom}
use Rattle.rule_core.specs.declared.rules.Branch.{Branch}
use Rattle.rule_core.specs.Mapping.{RuleSet}
use Rattle.rule_core.proofs.ListLemmas.{Contains-nil, Contains-head, Contains-cons, Contains-cons_cases}
use Rattle.decl_text.specs.declared.token.Kind.{Kind}
use Rattle.decl_text.specs.declared.token.Kind.TheVariants.{Name, Quoted, LeftParen, Colon, Equals}
use Rattle.decl_text.specs.declared.token.Token.{Token}
use Rattle.decl_text.specs.declared.fault.Code.{Code}
use Rattle.decl_text.specs.declared.fault.Code.TheVariants.{X7, X8}
use Rattle.decl_text.specs.Tests.{Lexeme, Says, goes, Goes, Pass}
use Rattle.decl_text.proofs.OneOutcome.{says_once}
use Rattle.decl_text.proofs.FitLemmas.{name_unquoted, end_unquoted}
use Rattle.decl_text.proofs.PassLemmas.{Passed, Goes-next, Test-next, Word-next}
use Rattle.rule_text.specs.declared.rule.Rule.{Rule}
use Rattle.rule_text.specs.declared.rule.Rule.TheVariants.{Tgd, Egd, Query}
use Rattle.rule_text.specs.Constants.{constants_in, constants_among, constants_of, HasConstant, NeedsText, IsQuotedAmong}
use Rattle.rule_text.specs.RuleLine.{Frame, body_of_tgd, head_of_tgd, body_of_egd, disjunct_of, kind_code, Said, nothing_said, OpenAtom, with_argument, with_atom, with_variable, Located, variable_tests, relation_tests, after_atom_tests, head_variable_tests, RulePosition, begins, wants_tgd_name, wants_egd_name, wants_query_name, wants_head_parenthesis, wants_head, wants_head_variable, wants_head_comma, wants_colon, wants_atom, wants_parenthesis, wants_argument, wants_comma, after_atom, after_arrow, wants_exists_variable, wants_exists_comma, wants_left, wants_equals, wants_right, wants_line_end, stated, rule_tests}

constants_in-append : (xs ys : List Arg) → constants_in (xs ++ ys) ≡ constants_in xs ++ constants_in ys
constants_in-append [] ys = refl
constants_in-append (Var v ∷ xs) ys = constants_in-append xs ys
constants_in-append (Const c ∷ xs) ys = ap (λ l. c ∷ l) (constants_in-append xs ys)

atoms_more : (atoms : List Atom) (atom : Atom) → constants_among (atoms ++ atom ∷ []) ≡ constants_among atoms ++ constants_in atom.args
atoms_more atoms atom =
    flat_map-append (λ (a : Atom). constants_in a.args) atoms (atom ∷ [])
    ∙ ap (λ l. constants_among atoms ++ l) (append-nil (constants_in atom.args))

-- the constants of disjuncts
abbrev disjunct_constants : List Branch → List ConstId
disjunct_constants branches = flat_map (λ branch. constants_among branch.body) branches

branches_more : (branches : List Branch) (branch : Branch)
    → disjunct_constants (branches ++ branch ∷ []) ≡ disjunct_constants branches ++ constants_among branch.body
branches_more branches branch =
    flat_map-append (λ (b : Branch). constants_among b.body) branches (branch ∷ [])
    ∙ ap (λ l. disjunct_constants branches ++ l) (append-nil (constants_among branch.body))

-- the constants that a line has said before its atoms
abbrev frame_constants : Frame → List ConstId
frame_constants (body_of_tgd name) = []
frame_constants (head_of_tgd name body body_vars) = constants_among body
frame_constants (body_of_egd name) = []
frame_constants (disjunct_of name head branches) = disjunct_constants branches

-- and with its atoms so far
abbrev said_constants : Frame → Said → List ConstId
said_constants frame said = frame_constants frame ++ constants_among said.atoms

abbrev open_constants : Frame → Said → OpenAtom → List ConstId
open_constants frame said atom = said_constants frame said ++ constants_in atom.args

-- the constants that a line has said where it stands
abbrev pub said_before : RulePosition → List ConstId
said_before begins = []
said_before wants_tgd_name = []
said_before wants_egd_name = []
said_before wants_query_name = []
said_before (wants_head_parenthesis name) = []
said_before (wants_head name) = []
said_before (wants_head_variable name head) = []
said_before (wants_head_comma name head) = []
said_before (wants_colon frame) = frame_constants frame
said_before (wants_atom frame said) = said_constants frame said
said_before (wants_parenthesis frame said atom) = open_constants frame said atom
said_before (wants_argument frame said atom) = open_constants frame said atom
said_before (wants_comma frame said atom) = open_constants frame said atom
said_before (after_atom frame said) = said_constants frame said
said_before (after_arrow name said) = constants_among said.atoms
said_before (wants_exists_variable name body body_vars vars) = constants_among body
said_before (wants_exists_comma name body body_vars vars) = constants_among body
said_before (wants_left name said) = constants_among said.atoms
said_before (wants_equals name said left) = constants_among said.atoms
said_before (wants_right name said left) = constants_among said.atoms
said_before (wants_line_end rule) = constants_of rule
said_before (stated rule) = constants_of rule

-- the kind is another than that of a text in quotes
unquoted : (kind other : Kind) → kind ≡ other → other ≢ Quoted → kind ≢ Quoted
unquoted kind other e n f = n (sym e ∙ f)

module _ (rules : RuleSet) (pool : List (List ℕ)) where
  -- the constant has this text in the pool, and the text is not too long
  pub record HasText (c : ConstId) (text : List ℕ) : Type 0 where
    pub there : slice_get pool c.0 ≡ Some text
    pub short : length text ≤ 4096

  -- a token says one more constant where it is a text in quotes, and else none
  abbrev Adds : RulePosition → RulePosition → Lexeme → Type 0
  Adds position next lexeme =
      ((lexeme.kind ≢ Quoted) × (said_before next ≡ said_before position))
      ⊎ ((lexeme.kind ≡ Quoted) × ((c : ConstId) × (said_before next ≡ said_before position ++ c ∷ []) × HasText c lexeme.text))

  keeps : (position target next : RulePosition) (lexeme : Lexeme) → Goes target (goes next) → lexeme.kind ≢ Quoted
      → said_before target ≡ said_before position → Adds position next lexeme
  keeps position target next lexeme goes_on other same =
      subst (λ n. Adds position n lexeme) (Goes-next target next goes_on) (inl (other, same))

  begun : (next : RulePosition) (lexeme : Lexeme) → rule_tests rules pool begins lexeme (goes next) → Adds begins next lexeme
  begun next lexeme (inl h) = keeps begins wants_tgd_name next lexeme h.1 (name_unquoted lexeme.kind h.0.0) refl
  begun next lexeme (inr (other, inl h)) = keeps begins wants_egd_name next lexeme h.1 (name_unquoted lexeme.kind h.0.0) refl
  begun next lexeme (inr (other, inr (another, inl h))) = keeps begins wants_query_name next lexeme h.1 (name_unquoted lexeme.kind h.0.0) refl
  begun next lexeme (inr (other, inr (another, inr h))) = absurd cc

  head_variable : (position : RulePosition) (name : List ℕ) (head : List (List ℕ)) (next : RulePosition) (lexeme : Lexeme)
      → said_before position ≡ [] → head_variable_tests name head lexeme (goes next) → Adds position next lexeme
  head_variable position name head next lexeme none h =
      let variable = Word-next h in
      keeps position (wants_head_comma name (head ++ lexeme.text ∷ [])) next lexeme (Test-next (Test-next variable.1).1).1
      (name_unquoted lexeme.kind variable.0) (sym none)

  related : (position : RulePosition) (frame : Frame) (said : Said) (next : RulePosition) (lexeme : Lexeme)
      → said_constants frame said ≡ said_before position → relation_tests rules frame said lexeme (goes next) → Adds position next lexeme
  related position frame said next lexeme same h =
      let name = Word-next h in
      let found = (Test-next (Test-next (Test-next name.1).1).1).1 in
      keeps position (wants_parenthesis frame said (record { relation = found.0; width = length found.1.columns; args = [] })) next lexeme
      found.3 (name_unquoted lexeme.kind name.0) (append-nil (said_constants frame said) ∙ same)

  variable_same : (frame : Frame) (said : Said) (atom : OpenAtom) (v : ℕ)
      → open_constants frame said (with_argument atom (Var v)) ≡ open_constants frame said atom
  variable_same frame said atom v =
      ap (λ l. said_constants frame said ++ l)
      (constants_in-append atom.args (Var v ∷ []) ∙ append-nil (constants_in atom.args))

  located : (frame : Frame) (old said : Said) (atom : OpenAtom) (name : List ℕ) (next : RulePosition) (lexeme : Lexeme)
      → lexeme.kind ≡ Name → said.atoms ≡ old.atoms
      → Located said.vars name (λ v. wants_comma frame said (with_argument atom (Var v))) (goes next)
      → Adds (wants_argument frame old atom) next lexeme
  located frame old said atom name next lexeme kind same h =
      keeps (wants_argument frame old atom) (wants_comma frame said (with_argument atom (Var h.0))) next lexeme h.2
      (name_unquoted lexeme.kind kind)
      (variable_same frame said atom h.0
      ∙ ap (λ l. (frame_constants frame ++ constants_among l) ++ constants_in atom.args) same)

  variable : (frame : Frame) (said : Said) (atom : OpenAtom) (name : List ℕ) (next : RulePosition) (lexeme : Lexeme) → lexeme.kind ≡ Name
      → variable_tests frame said atom name (goes next) → Adds (wants_argument frame said atom) next lexeme
  variable (head_of_tgd tgd body body_vars) said atom name next lexeme kind h =
      located (head_of_tgd tgd body body_vars) said said atom name next lexeme kind refl (Test-next h).1
  variable (body_of_tgd tgd) said atom name next lexeme kind (inl h) =
      located (body_of_tgd tgd) said said atom name next lexeme kind refl h.1
  variable (body_of_tgd tgd) said atom name next lexeme kind (inr h) =
      located (body_of_tgd tgd) said (with_variable said name) atom name next lexeme kind refl (Test-next h.1).1
  variable (body_of_egd egd) said atom name next lexeme kind (inl h) =
      located (body_of_egd egd) said said atom name next lexeme kind refl h.1
  variable (body_of_egd egd) said atom name next lexeme kind (inr h) =
      located (body_of_egd egd) said (with_variable said name) atom name next lexeme kind refl (Test-next h.1).1
  variable (disjunct_of query head branches) said atom name next lexeme kind (inl h) =
      located (disjunct_of query head branches) said said atom name next lexeme kind refl h.1
  variable (disjunct_of query head branches) said atom name next lexeme kind (inr h) =
      located (disjunct_of query head branches) said (with_variable said name) atom name next lexeme kind refl (Test-next h.1).1

  constant_more : (frame : Frame) (said : Said) (atom : OpenAtom) (c : ConstId)
      → open_constants frame said (with_argument atom (Const c)) ≡ open_constants frame said atom ++ c ∷ []
  constant_more frame said atom c =
      ap (λ l. said_constants frame said ++ l) (constants_in-append atom.args (Const c ∷ []))
      ∙ sym (append_assoc (said_constants frame said) (constants_in atom.args) (c ∷ []))

  argued : (frame : Frame) (said : Said) (atom : OpenAtom) (next : RulePosition) (lexeme : Lexeme)
      → rule_tests rules pool (wants_argument frame said atom) lexeme (goes next) → Adds (wants_argument frame said atom) next lexeme
  argued frame said atom next lexeme (inl h) =
      let short = Test-next h.1 in
      let found = short.1 in
      let c : ConstId = record { 0 = found.0 } in
      subst (λ n. Adds (wants_argument frame said atom) n lexeme)
      (Goes-next (wants_comma frame said (with_argument atom (Const c))) next found.2)
      (inr (h.0, (c, constant_more frame said atom c, record { there = found.1.there; short = short.0 })))
  argued frame said atom next lexeme (inr h) =
      let name = Word-next h.1 in
      variable frame said atom lexeme.text next lexeme name.0 name.1

  closed_same : (frame : Frame) (said : Said) (atom : OpenAtom) → said_constants frame (with_atom said atom) ≡ open_constants frame said atom
  closed_same frame said atom =
      ap (λ l. frame_constants frame ++ l) (atoms_more said.atoms (record { relation = atom.relation; args = atom.args }))
      ∙ sym (append_assoc (frame_constants frame) (constants_among said.atoms) (constants_in atom.args))

  comma : (frame : Frame) (said : Said) (atom : OpenAtom) (next : RulePosition) (lexeme : Lexeme)
      → rule_tests rules pool (wants_comma frame said atom) lexeme (goes next) → Adds (wants_comma frame said atom) next lexeme
  comma frame said atom next lexeme (inl h) =
      keeps (wants_comma frame said atom) (wants_argument frame said atom) next lexeme (Test-next h.1).1 (let sign = h.0 in λ f. cc) refl
  comma frame said atom next lexeme (inr h) =
      let sign = (Test-next h.1).0 in
      keeps (wants_comma frame said atom) (after_atom frame (with_atom said atom)) next lexeme (Test-next (Test-next h.1).1).1 (λ f. cc)
      (closed_same frame said atom)

  ended : (frame : Frame) (said : Said) (next : RulePosition) (lexeme : Lexeme) → after_atom_tests frame said lexeme (goes next)
      → Adds (after_atom frame said) next lexeme
  ended (body_of_tgd name) said next lexeme h =
      let sign = (Test-next h).0 in
      keeps (after_atom (body_of_tgd name) said) (after_arrow name said) next lexeme (Test-next h).1 (λ f. cc) refl
  ended (head_of_tgd name body body_vars) said next lexeme h =
      keeps (after_atom (head_of_tgd name body body_vars) said)
      (stated (Tgd (record { name = name; vars = said.vars; body_vars = body_vars; body = body; head = said.atoms })))
      next lexeme (Test-next h).1 (end_unquoted lexeme (Test-next h).0) refl
  ended (body_of_egd name) said next lexeme h =
      let sign = (Test-next h).0 in
      keeps (after_atom (body_of_egd name) said) (wants_left name said) next lexeme (Test-next h).1 (λ f. cc) refl
  ended (disjunct_of name head branches) said next lexeme (inl h) =
      let sign = h.0 in
      let found = (Test-next (Test-next h.1).1).1 in
      let branch : Branch = record { vars = said.vars; body = said.atoms; columns = found.0 } in
      keeps (after_atom (disjunct_of name head branches) said) (wants_atom (disjunct_of name head (branches ++ branch ∷ [])) nothing_said)
      next lexeme found.2 (λ f. cc) (append-nil (disjunct_constants (branches ++ branch ∷ [])) ∙ branches_more branches branch)
  ended (disjunct_of name head branches) said next lexeme (inr h) =
      let found = (Test-next (Test-next h.1).1).1 in
      let branch : Branch = record { vars = said.vars; body = said.atoms; columns = found.0 } in
      keeps (after_atom (disjunct_of name head branches) said)
      (stated (Query (record { name = name; head = head; branches = branches ++ branch ∷ [] })))
      next lexeme found.2 (end_unquoted lexeme (Test-next h.1).0) (branches_more branches branch)

  next_atom : (frame : Frame) (said : Said) (next : RulePosition) (lexeme : Lexeme)
      → rule_tests rules pool (after_atom frame said) lexeme (goes next) → Adds (after_atom frame said) next lexeme
  next_atom frame said next lexeme (inl h) =
      let sign = h.0 in keeps (after_atom frame said) (wants_atom frame said) next lexeme h.1 (λ f. cc) refl
  next_atom frame said next lexeme (inr h) = ended frame said next lexeme h.1

  arrow : (name : List ℕ) (said : Said) (next : RulePosition) (lexeme : Lexeme)
      → rule_tests rules pool (after_arrow name said) lexeme (goes next) → Adds (after_arrow name said) next lexeme
  arrow name said next lexeme (inl h) =
      keeps (after_arrow name said) (wants_exists_variable name said.atoms (length said.vars) said.vars) next lexeme h.1
      (name_unquoted lexeme.kind h.0.0) refl
  arrow name said next lexeme (inr h) =
      related (after_arrow name said) (head_of_tgd name said.atoms (length said.vars)) (record said { atoms = [] }) next lexeme
      (append-nil (constants_among said.atoms)) h.1

  tgd_named : (next : RulePosition) (lexeme : Lexeme) → rule_tests rules pool wants_tgd_name lexeme (goes next) → Adds wants_tgd_name next lexeme
  tgd_named next lexeme h =
      let name = Word-next h in
      keeps wants_tgd_name (wants_colon (body_of_tgd lexeme.text)) next lexeme (Test-next (Test-next name.1).1).1
      (name_unquoted lexeme.kind name.0) refl

  egd_named : (next : RulePosition) (lexeme : Lexeme) → rule_tests rules pool wants_egd_name lexeme (goes next) → Adds wants_egd_name next lexeme
  egd_named next lexeme h =
      let name = Word-next h in
      keeps wants_egd_name (wants_colon (body_of_egd lexeme.text)) next lexeme (Test-next (Test-next name.1).1).1
      (name_unquoted lexeme.kind name.0) refl

  query_named : (next : RulePosition) (lexeme : Lexeme) → rule_tests rules pool wants_query_name lexeme (goes next)
      → Adds wants_query_name next lexeme
  query_named next lexeme h =
      let name = Word-next h in
      keeps wants_query_name (wants_head_parenthesis lexeme.text) next lexeme (Test-next (Test-next name.1).1).1
      (name_unquoted lexeme.kind name.0) refl

  head_begun : (name : List ℕ) (next : RulePosition) (lexeme : Lexeme) → rule_tests rules pool (wants_head name) lexeme (goes next)
      → Adds (wants_head name) next lexeme
  head_begun name next lexeme (inl h) =
      let sign = h.0 in keeps (wants_head name) (wants_colon (disjunct_of name [] [])) next lexeme h.1 (λ f. cc) refl
  head_begun name next lexeme (inr h) = head_variable (wants_head name) name [] next lexeme refl h.1

  head_comma : (name : List ℕ) (head : List (List ℕ)) (next : RulePosition) (lexeme : Lexeme)
      → rule_tests rules pool (wants_head_comma name head) lexeme (goes next) → Adds (wants_head_comma name head) next lexeme
  head_comma name head next lexeme (inl h) =
      let sign = h.0 in keeps (wants_head_comma name head) (wants_head_variable name head) next lexeme h.1 (λ f. cc) refl
  head_comma name head next lexeme (inr h) =
      let sign = (Test-next h.1).0 in
      keeps (wants_head_comma name head) (wants_colon (disjunct_of name head [])) next lexeme (Test-next h.1).1 (λ f. cc) refl

  exists_variable : (name : List ℕ) (body : List Atom) (body_vars : ℕ) (vars : List (List ℕ)) (next : RulePosition) (lexeme : Lexeme)
      → rule_tests rules pool (wants_exists_variable name body body_vars vars) lexeme (goes next)
      → Adds (wants_exists_variable name body body_vars vars) next lexeme
  exists_variable name body body_vars vars next lexeme h =
      let variable = Word-next h in
      keeps (wants_exists_variable name body body_vars vars) (wants_exists_comma name body body_vars (vars ++ lexeme.text ∷ [])) next lexeme
      (Test-next (Test-next variable.1).1).1 (name_unquoted lexeme.kind variable.0) refl

  exists_comma : (name : List ℕ) (body : List Atom) (body_vars : ℕ) (vars : List (List ℕ)) (next : RulePosition) (lexeme : Lexeme)
      → rule_tests rules pool (wants_exists_comma name body body_vars vars) lexeme (goes next)
      → Adds (wants_exists_comma name body body_vars vars) next lexeme
  exists_comma name body body_vars vars next lexeme (inl h) =
      let sign = h.0 in
      keeps (wants_exists_comma name body body_vars vars) (wants_exists_variable name body body_vars vars) next lexeme h.1 (λ f. cc) refl
  exists_comma name body body_vars vars next lexeme (inr h) =
      let sign = (Test-next h.1).0 in
      keeps (wants_exists_comma name body body_vars vars) (wants_atom (head_of_tgd name body body_vars) (record { vars = vars; atoms = [] }))
      next lexeme (Test-next h.1).1 (λ f. cc) (append-nil (constants_among body))

  left_side : (name : List ℕ) (said : Said) (next : RulePosition) (lexeme : Lexeme)
      → rule_tests rules pool (wants_left name said) lexeme (goes next) → Adds (wants_left name said) next lexeme
  left_side name said next lexeme h =
      let side = Word-next h in
      let found = (Test-next side.1).1 in
      keeps (wants_left name said) (wants_equals name said found.0) next lexeme found.2 (name_unquoted lexeme.kind side.0) refl

  right_side : (name : List ℕ) (said : Said) (left : ℕ) (next : RulePosition) (lexeme : Lexeme)
      → rule_tests rules pool (wants_right name said left) lexeme (goes next) → Adds (wants_right name said left) next lexeme
  right_side name said left next lexeme h =
      let side = Word-next h in
      let found = (Test-next side.1).1 in
      keeps (wants_right name said left)
      (wants_line_end (Egd (record { name = name; vars = said.vars; body = said.atoms; left = left; right = found.0 })))
      next lexeme found.2 (name_unquoted lexeme.kind side.0) refl

  sign_kept : (position target next : RulePosition) (lexeme : Lexeme) (kind : Kind) (code : Code) → kind ≢ Quoted
      → said_before target ≡ said_before position → Passed (lexeme.kind ≡ kind) code next (Goes target (goes next))
      → Adds position next lexeme
  sign_kept position target next lexeme kind code other same h =
      keeps position target next lexeme (Test-next h).1 (unquoted lexeme.kind kind (Test-next h).0 other) same

  pub adds : (position next : RulePosition) (lexeme : Lexeme) → rule_tests rules pool position lexeme (goes next) → Adds position next lexeme
  adds begins next lexeme h = begun next lexeme h
  adds wants_tgd_name next lexeme h = tgd_named next lexeme h
  adds wants_egd_name next lexeme h = egd_named next lexeme h
  adds wants_query_name next lexeme h = query_named next lexeme h
  adds (wants_head_parenthesis name) next lexeme h =
      sign_kept (wants_head_parenthesis name) (wants_head name) next lexeme LeftParen X8 (λ f. cc) refl h
  adds (wants_head name) next lexeme h = head_begun name next lexeme h
  adds (wants_head_variable name head) next lexeme h = head_variable (wants_head_variable name head) name head next lexeme refl h
  adds (wants_head_comma name head) next lexeme h = head_comma name head next lexeme h
  adds (wants_colon frame) next lexeme h =
      sign_kept (wants_colon frame) (wants_atom frame nothing_said) next lexeme Colon (kind_code frame) (λ f. cc)
      (append-nil (frame_constants frame)) h
  adds (wants_atom frame said) next lexeme h = related (wants_atom frame said) frame said next lexeme refl h
  adds (wants_parenthesis frame said atom) next lexeme h =
      sign_kept (wants_parenthesis frame said atom) (wants_argument frame said atom) next lexeme LeftParen (kind_code frame) (λ f. cc) refl h
  adds (wants_argument frame said atom) next lexeme h = argued frame said atom next lexeme h
  adds (wants_comma frame said atom) next lexeme h = comma frame said atom next lexeme h
  adds (after_atom frame said) next lexeme h = next_atom frame said next lexeme h
  adds (after_arrow name said) next lexeme h = arrow name said next lexeme h
  adds (wants_exists_variable name body body_vars vars) next lexeme h = exists_variable name body body_vars vars next lexeme h
  adds (wants_exists_comma name body body_vars vars) next lexeme h = exists_comma name body body_vars vars next lexeme h
  adds (wants_left name said) next lexeme h = left_side name said next lexeme h
  adds (wants_equals name said left) next lexeme h =
      sign_kept (wants_equals name said left) (wants_right name said left) next lexeme Equals X7 (λ f. cc) refl h
  adds (wants_right name said left) next lexeme h = right_side name said left next lexeme h
  adds (wants_line_end rule) next lexeme h =
      keeps (wants_line_end rule) (stated rule) next lexeme (Test-next h).1 (end_unquoted lexeme (Test-next h).0) refl
  adds (stated rule) next lexeme h = absurd h

  -- the constants are those that the tokens say in quotes, in their order
  abbrev pub Quotes : List ℕ → List Token → List ConstId → Type 0
  Quotes bytes [] constants = constants ≡ []
  Quotes bytes (token ∷ tokens) constants =
      (lexeme : Lexeme) × Says bytes token lexeme
      × (((lexeme.kind ≢ Quoted) × Quotes bytes tokens constants)
      ⊎ ((lexeme.kind ≡ Quoted) × ((c : ConstId) × (rest : List ConstId) × (constants ≡ c ∷ rest) × HasText c lexeme.text
      × Quotes bytes tokens rest)))

  first_quoted : (bytes : List ℕ) (tokens : List Token) (constants : List ConstId) (lexeme : Lexeme) (text : List ℕ)
      → ((lexeme.kind ≢ Quoted) × Quotes bytes tokens constants)
      ⊎ ((lexeme.kind ≡ Quoted) × ((c : ConstId) × (rest : List ConstId) × (constants ≡ c ∷ rest) × HasText c lexeme.text
      × Quotes bytes tokens rest))
      → lexeme ≡ record { kind = Quoted; text = text } → (c : ConstId) × Contains constants c × HasText c text
  first_quoted bytes tokens constants lexeme text (inl other) e = absurd (other.0 (ap (λ l. l.kind) e))
  first_quoted bytes tokens constants lexeme text (inr more) e = (
    more.1.0,
    subst (λ l. Contains l more.1.0) (sym more.1.2) (Contains-head more.1.0 more.1.1),
    subst (HasText more.1.0) (ap (λ l. l.text) e) more.1.3,
  )

  line_quotes : (bytes : List ℕ) (from : ℕ) (position : RulePosition) (tokens : List Token) (to : ℕ) (last : RulePosition)
      → Pass (rule_tests rules pool) bytes from position tokens to last
      → (constants : List ConstId) × (said_before last ≡ said_before position ++ constants) × Quotes bytes tokens constants
  line_quotes bytes from position [] to last pass = ([], ap said_before pass.1 ∙ sym (append-nil (said_before position)), refl)
  line_quotes bytes from position (t ∷ ts) to last pass =
      let rest = line_quotes bytes t.end pass.1.0 ts to last pass.1.2 in
      elim (adds position pass.1.0 pass.1.1.lexeme pass.1.1.tested) [
        | inl same ↦ (
          rest.0,
          rest.1 ∙ ap (λ l. l ++ rest.0) same.1,
          (pass.1.1.lexeme, pass.1.1.says, inl (same.0, rest.2)),
        )
        | inr more ↦ (
          more.1.0 ∷ rest.0,
          rest.1 ∙ ap (λ l. l ++ rest.0) more.1.1 ∙ append_assoc (said_before position) (more.1.0 ∷ []) rest.0,
          (pass.1.1.lexeme, pass.1.1.says, inr (more.0, (more.1.0, rest.0, refl, more.1.2, rest.2))),
        )
      ]

  -- each text in quotes is a constant's
  quoted_constant : (bytes : List ℕ) (tokens : List Token) (constants : List ConstId) → Quotes bytes tokens constants
      → (token : Token) (text : List ℕ) → Contains tokens token → Says bytes token (record { kind = Quoted; text = text })
      → (c : ConstId) × Contains constants c × HasText c text
  quoted_constant bytes [] constants q token text there says = absurd (Contains-nil token there)
  quoted_constant bytes (t ∷ ts) constants q token text there says = elim (Contains-cons_cases t token ts there) [
    | inl same ↦ first_quoted bytes ts constants q.0 text q.2 (says_once bytes token q.0 (record { kind = Quoted; text = text }) (subst (λ v. Says bytes v q.0) same q.1) says)
    | inr later ↦ elim q.2 [
      | inl other ↦ quoted_constant bytes ts constants other.1 token text later says
      | inr more ↦
          let found = quoted_constant bytes ts more.1.1 more.1.4 token text later says in
          (found.0, subst (λ l. Contains l found.0) (sym more.1.2) (Contains-cons more.1.0 found.0 more.1.1 found.1), found.2)
    ]
  ]

  -- each constant is said in quotes
  constant_quoted : (bytes : List ℕ) (tokens : List Token) (constants : List ConstId) → Quotes bytes tokens constants
      → (c : ConstId) → Contains constants c
      → (token : Token) × (text : List ℕ) × Contains tokens token × Says bytes token (record { kind = Quoted; text = text }) × HasText c text
  constant_quoted bytes [] constants q c there = absurd (Contains-nil c (subst (λ l. Contains l c) q there))
  constant_quoted bytes (t ∷ ts) constants q c there = elim q.2 [
    | inl other ↦
        let found = constant_quoted bytes ts constants other.1 c there in
        (found.0, found.1, Contains-cons t found.0 ts found.2, found.3, found.4)
    | inr more ↦ elim (Contains-cons_cases more.1.0 c more.1.1 (subst (λ l. Contains l c) more.1.2 there)) [
      | inl same ↦ (
        t,
        q.0.text,
        Contains-head t ts,
        subst (Says bytes t) (λ i. record { kind = more.0 i; text = q.0.text }) q.1,
        subst (λ d. HasText d q.0.text) same more.1.3,
      )
      | inr later ↦
          let found = constant_quoted bytes ts more.1.1 more.1.4 c later in
          (found.0, found.1, Contains-cons t found.0 ts found.2, found.3, found.4)
    ]
  ]

  -- a line's constants are the texts in its quotes
  module _ (bytes : List ℕ) (from : ℕ) (rule : Rule) (tokens : List Token) (to : ℕ)
      (pass : Pass (rule_tests rules pool) bytes from begins tokens to (stated rule)) where
    rule_quotes : Quotes bytes tokens (constants_of rule)
    rule_quotes =
        let line = line_quotes bytes from begins tokens to (stated rule) pass in
        subst (Quotes bytes tokens) (sym line.1) line.2

    pub rule_texts : (text : List ℕ) → IsQuotedAmong bytes tokens text ↔ NeedsText pool rule text
    rule_texts text = (
      λ q. let found = quoted_constant bytes tokens (constants_of rule) rule_quotes q.0 text q.1 q.2 in (found.0, found.1, found.2.there),
      λ n. let found = constant_quoted bytes tokens (constants_of rule) rule_quotes n.0 n.1 in
          let same : found.1 ≡ text = same_Some found.1 text (sym found.4.there ∙ n.2) in
          (found.0, found.2, subst (λ t. Says bytes found.0 (record { kind = Quoted; text = t })) same found.3),
    )

    pub rule_texts_short : (text : List ℕ) → IsQuotedAmong bytes tokens text → length text ≤ 4096
    rule_texts_short text q = (quoted_constant bytes tokens (constants_of rule) rule_quotes q.0 text q.1 q.2).2.short

    pub rule_constants_known : (c : ConstId) → HasConstant rule c → (text : List ℕ) × (slice_get pool c.0 ≡ Some text)
    rule_constants_known c has =
        let found = constant_quoted bytes tokens (constants_of rule) rule_quotes c has in (found.1, found.4.there)
