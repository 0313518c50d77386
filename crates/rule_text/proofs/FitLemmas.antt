-- A rule that is read from a line is valid in the mapping before it: what holds after each of its tokens.
use Rattle.std.proofs.Common.{◌≡◌, inl, inr, ℕ, ◌<◌, ◌≤◌, List, [], ◌∷◌, ◌++◌, length, All, refl, sym, subst, arith}
use Rattle.std.specs.Prelude.{IsSomeAnd}
use Rattle.std.proofs.lemmas.List.{length_push}
use Rattle.std.proofs.lemmas.List.Elements.{All-nil, All-push}
use Rattle.rule_core.specs.declared.rules.Arg.{Arg}
use Rattle.rule_core.specs.declared.rules.Arg.TheVariants.{Var, Const}
use Rattle.rule_core.specs.declared.rules.Atom.{Atom}
use Rattle.rule_core.specs.declared.rules.Branch.{Branch}
use Rattle.rule_core.specs.Limits.{most_tgds, most_egds, most_queries}
use Rattle.rule_core.specs.Mapping.{RuleSet}
use Rattle.rule_core.specs.Names.{IsName}
use Rattle.rule_core.specs.Validity.{AreNumbered, occurrences, AreAtoms, AreVariables, IsBranch, IsValid}
use Rattle.rule_core.specs.Adding.{relations_of, IsNewRuleName, IsNewQueryName, IsNewTgd, IsNewEgd, IsNewQuery}
use Rattle.rule_core.proofs.ValidityLemmas.{with_tgd-valid, with_egd-valid, with_query-valid}
use Rattle.decl_text.specs.Tests.{Lexeme, goes}
use Rattle.decl_text.proofs.PassLemmas.{IsLexeme, Pass-keeps, Goes-next, Test-next, Named-next}
use Rattle.decl_text.proofs.FitLemmas.{AreNames, no_names, names_more}
use Rattle.rule_text.specs.declared.rule.Rule.{Rule}
use Rattle.rule_text.specs.declared.rule.Rule.TheVariants.{Tgd, Egd, Query}
use Rattle.rule_text.specs.Adding.{with_rule}
use Rattle.rule_text.specs.RuleLine.{Frame, body_of_tgd, head_of_tgd, body_of_egd, disjunct_of, side_of, Said, nothing_said, OpenAtom, with_argument, with_atom, with_variable, IsFirstAt, Located, variable_tests, relation_tests, after_atom_tests, head_variable_tests, RulePosition, begins, wants_tgd_name, wants_egd_name, wants_query_name, wants_head_parenthesis, wants_head, wants_head_variable, wants_head_comma, wants_colon, wants_atom, wants_parenthesis, wants_argument, wants_comma, after_atom, after_arrow, wants_exists_variable, wants_exists_comma, wants_left, wants_equals, wants_right, wants_line_end, stated, rule_tests, IsRule}
use Rattle.rule_text.proofs.BodyLemmas.{first_within, variables_more, FitsWidth, BodyFits, body_none, body_known, body_new, body_constant, body_closed, body_atoms, body_numbered, HeadFits, head_none, head_argument, head_closed, head_atoms, branch_fits}

module _ (rules : RuleSet) where
  -- the name of a tgd, an egd or a query, which is new, and there is room for one more
  pub record TgdNameFits (name : List ℕ) : Type 0 where
    pub is : IsName name
    pub new : IsNewRuleName rules name
    pub room : length rules.tgds < most_tgds

  pub record EgdNameFits (name : List ℕ) : Type 0 where
    pub is : IsName name
    pub new : IsNewRuleName rules name
    pub room : length rules.egds < most_egds

  pub record QueryNameFits (name : List ℕ) : Type 0 where
    pub is : IsName name
    pub new : IsNewQueryName rules name
    pub room : length rules.queries < most_queries

  -- a query's name with its head variables so far
  pub record QueryHeadFits (name : List ℕ) (head : List (List ℕ)) : Type 0 where
    pub name_fits : QueryNameFits name
    pub names : AreNames head
    pub most : length head ≤ 16

  -- what a line has said before the atoms
  abbrev FrameFits : Frame → Type 0
  FrameFits (body_of_tgd name) = TgdNameFits name
  FrameFits (head_of_tgd name body body_vars) = TgdNameFits name × AreAtoms rules.sources body × AreNumbered body_vars (occurrences body)
  FrameFits (body_of_egd name) = EgdNameFits name
  FrameFits (disjunct_of name head branches) =
      QueryHeadFits name head × (length branches ≤ 7) × All (IsBranch rules.targets head) branches

  -- the atoms so far, with the arguments of one that isn't closed
  abbrev SaidFits : Frame → Said → List Arg → Type 0
  SaidFits (body_of_tgd name) said args = BodyFits rules.sources said args
  SaidFits (head_of_tgd name body body_vars) said args = HeadFits rules.targets body_vars said args
  SaidFits (body_of_egd name) said args = BodyFits rules.targets said args
  SaidFits (disjunct_of name head branches) said args = BodyFits rules.targets said args

  -- inside an atom
  pub record AtomFits (frame : Frame) (said : Said) (atom : OpenAtom) : Type 0 where
    pub before : FrameFits frame
    pub so_far : SaidFits frame said atom.args
    pub fewer : length said.atoms < 8
    pub width : FitsWidth (relations_of rules (side_of frame)) atom

  abbrev IsNewRule : Rule → Type 0
  IsNewRule (Tgd tgd) = IsNewTgd rules tgd
  IsNewRule (Egd egd) = IsNewEgd rules egd
  IsNewRule (Query query) = IsNewQuery rules query

  -- what holds where a line stands
  abbrev Fits : RulePosition → Type 0
  Fits begins = Unit {0}
  Fits wants_tgd_name = Unit {0}
  Fits wants_egd_name = Unit {0}
  Fits wants_query_name = Unit {0}
  Fits (wants_head_parenthesis name) = QueryNameFits name
  Fits (wants_head name) = QueryNameFits name
  Fits (wants_head_variable name head) = QueryHeadFits name head
  Fits (wants_head_comma name head) = QueryHeadFits name head
  Fits (wants_colon frame) = FrameFits frame × SaidFits frame nothing_said []
  Fits (wants_atom frame said) = FrameFits frame × SaidFits frame said []
  Fits (wants_parenthesis frame said atom) = AtomFits frame said atom
  Fits (wants_argument frame said atom) = AtomFits frame said atom
  Fits (wants_comma frame said atom) = AtomFits frame said atom
  Fits (after_atom frame said) = FrameFits frame × SaidFits frame said [] × (1 ≤ length said.atoms)
  Fits (after_arrow name said) = TgdNameFits name × BodyFits rules.sources said [] × (1 ≤ length said.atoms)
  Fits (wants_exists_variable name body body_vars vars) =
      FrameFits (head_of_tgd name body body_vars) × AreVariables vars × (body_vars ≤ length vars)
  Fits (wants_exists_comma name body body_vars vars) =
      FrameFits (head_of_tgd name body body_vars) × AreVariables vars × (body_vars ≤ length vars)
  Fits (wants_left name said) = EgdNameFits name × BodyFits rules.targets said [] × (1 ≤ length said.atoms)
  Fits (wants_equals name said left) =
      EgdNameFits name × BodyFits rules.targets said [] × (1 ≤ length said.atoms) × (left < length said.vars)
  Fits (wants_right name said left) =
      EgdNameFits name × BodyFits rules.targets said [] × (1 ≤ length said.atoms) × (left < length said.vars)
  Fits (wants_line_end rule) = IsNewRule rule
  Fits (stated rule) = IsNewRule rule

  module _ (pool : List (List ℕ)) where
    -- the names
    begun : (next : RulePosition) (lexeme : Lexeme) → rule_tests rules pool begins lexeme (goes next) → Fits next
    begun next lexeme (inl h) = subst Fits (Goes-next wants_tgd_name next h.1) tt
    begun next lexeme (inr (other, inl h)) = subst Fits (Goes-next wants_egd_name next h.1) tt
    begun next lexeme (inr (other, inr (another, inl h))) = subst Fits (Goes-next wants_query_name next h.1) tt
    begun next lexeme (inr (other, inr (another, inr h))) = absurd cc

    tgd_named : (next : RulePosition) (lexeme : Lexeme) → IsLexeme lexeme → rule_tests rules pool wants_tgd_name lexeme (goes next) → Fits next
    tgd_named next lexeme is h =
        let name = Named-next lexeme is h in
        let new = Test-next name.1 in
        let room = Test-next new.1 in
        subst Fits (Goes-next (wants_colon (body_of_tgd lexeme.text)) next room.1)
        (record { is = name.0; new = new.0; room = room.0 }, body_none rules.sources)

    egd_named : (next : RulePosition) (lexeme : Lexeme) → IsLexeme lexeme → rule_tests rules pool wants_egd_name lexeme (goes next) → Fits next
    egd_named next lexeme is h =
        let name = Named-next lexeme is h in
        let new = Test-next name.1 in
        let room = Test-next new.1 in
        subst Fits (Goes-next (wants_colon (body_of_egd lexeme.text)) next room.1)
        (record { is = name.0; new = new.0; room = room.0 }, body_none rules.targets)

    query_named : (next : RulePosition) (lexeme : Lexeme) → IsLexeme lexeme → rule_tests rules pool wants_query_name lexeme (goes next)
        → Fits next
    query_named next lexeme is h =
        let name = Named-next lexeme is h in
        let new = Test-next name.1 in
        let room = Test-next new.1 in
        subst Fits (Goes-next (wants_head_parenthesis lexeme.text) next room.1) (record { is = name.0; new = new.0; room = room.0 })

    -- the head of a query
    no_head : (name : List ℕ) → QueryNameFits name → QueryHeadFits name []
    no_head name fits = record { name_fits = fits; names = no_names; most = omega arith }

    no_disjunct : (name : List ℕ) (head : List (List ℕ)) → QueryHeadFits name head → Fits (wants_colon (disjunct_of name head []))
    no_disjunct name head fits = ((fits, omega arith, All-nil (IsBranch rules.targets head)), body_none rules.targets)

    head_variable : (name : List ℕ) (head : List (List ℕ)) (next : RulePosition) (lexeme : Lexeme) → IsLexeme lexeme
        → head_variable_tests name head lexeme (goes next) → QueryHeadFits name head → Fits next
    head_variable name head next lexeme is h fits =
        let variable = Named-next lexeme is h in
        let new = Test-next variable.1 in
        let room = Test-next new.1 in
        let fewer = room.0 in
        subst Fits (Goes-next (wants_head_comma name (head ++ lexeme.text ∷ [])) next room.1)
        (record {
          name_fits = fits.name_fits;
          names = names_more head lexeme.text fits.names variable.0 new.0;
          most = omega (arith, fewer, length_push head lexeme.text);
        })

    head_begun : (name : List ℕ) (next : RulePosition) (lexeme : Lexeme) → IsLexeme lexeme
        → rule_tests rules pool (wants_head name) lexeme (goes next) → QueryNameFits name → Fits next
    head_begun name next lexeme is (inl h) fits =
        subst Fits (Goes-next (wants_colon (disjunct_of name [] [])) next h.1) (no_disjunct name [] (no_head name fits))
    head_begun name next lexeme is (inr h) fits = head_variable name [] next lexeme is h.1 (no_head name fits)

    head_comma : (name : List ℕ) (head : List (List ℕ)) (next : RulePosition) (lexeme : Lexeme)
        → rule_tests rules pool (wants_head_comma name head) lexeme (goes next) → QueryHeadFits name head → Fits next
    head_comma name head next lexeme (inl h) fits = subst Fits (Goes-next (wants_head_variable name head) next h.1) fits
    head_comma name head next lexeme (inr h) fits =
        subst Fits (Goes-next (wants_colon (disjunct_of name head [])) next (Test-next h.1).1) (no_disjunct name head fits)

    -- an atom's relation
    related : (frame : Frame) (said : Said) (next : RulePosition) (lexeme : Lexeme) → IsLexeme lexeme
        → relation_tests rules frame said lexeme (goes next) → FrameFits frame → SaidFits frame said [] → Fits next
    related frame said next lexeme is h before so_far =
        let name = Named-next lexeme is h in
        let some_side = Test-next name.1 in
        let side = Test-next some_side.1 in
        let room = Test-next side.1 in
        let found = room.1 in
        subst Fits
        (Goes-next (wants_parenthesis frame said (record { relation = found.0; width = length found.1.columns; args = [] })) next found.3)
        (record {
          before = before;
          so_far = so_far;
          fewer = room.0;
          width = subst (λ o. IsSomeAnd o (λ r. length found.1.columns ≡ length r.columns)) (sym found.2.there) refl;
        })

    -- an argument that is a variable
    located : (frame : Frame) (old said : Said) (atom : OpenAtom) (name : List ℕ) (next : RulePosition)
        → Located said.vars name (λ v. wants_comma frame said (with_argument atom (Var v))) (goes next) → AtomFits frame old atom
        → length said.atoms < 8 → ((v : ℕ) → IsFirstAt said.vars name v → SaidFits frame said (atom.args ++ Var v ∷ [])) → Fits next
    located frame old said atom name next h fits fewer more =
        subst Fits (Goes-next (wants_comma frame said (with_argument atom (Var h.0))) next h.2)
        (record { before = fits.before; so_far = more h.0 h.1; fewer = fewer; width = fits.width })

    variable : (frame : Frame) (said : Said) (atom : OpenAtom) (name : List ℕ) (next : RulePosition) → IsName name
        → variable_tests frame said atom name (goes next) → AtomFits frame said atom → Fits next
    variable (head_of_tgd tgd body body_vars) said atom name next is h fits =
        located (head_of_tgd tgd body body_vars) said said atom name next (Test-next h).1 fits fits.fewer
        (λ v first. head_argument rules.targets body_vars said atom.args (Var v) fits.so_far (first_within said.vars name v first))
    variable (body_of_tgd tgd) said atom name next is (inl h) fits =
        located (body_of_tgd tgd) said said atom name next h.1 fits fits.fewer
        (λ v first. body_known rules.sources said atom.args name v fits.so_far first)
    variable (body_of_tgd tgd) said atom name next is (inr h) fits =
        let room = Test-next h.1 in
        located (body_of_tgd tgd) said (with_variable said name) atom name next room.1 fits fits.fewer
        (λ v first. body_new rules.sources said atom.args name v fits.so_far is h.0 room.0 first)
    variable (body_of_egd egd) said atom name next is (inl h) fits =
        located (body_of_egd egd) said said atom name next h.1 fits fits.fewer
        (λ v first. body_known rules.targets said atom.args name v fits.so_far first)
    variable (body_of_egd egd) said atom name next is (inr h) fits =
        let room = Test-next h.1 in
        located (body_of_egd egd) said (with_variable said name) atom name next room.1 fits fits.fewer
        (λ v first. body_new rules.targets said atom.args name v fits.so_far is h.0 room.0 first)
    variable (disjunct_of query head branches) said atom name next is (inl h) fits =
        located (disjunct_of query head branches) said said atom name next h.1 fits fits.fewer
        (λ v first. body_known rules.targets said atom.args name v fits.so_far first)
    variable (disjunct_of query head branches) said atom name next is (inr h) fits =
        let room = Test-next h.1 in
        located (disjunct_of query head branches) said (with_variable said name) atom name next room.1 fits fits.fewer
        (λ v first. body_new rules.targets said atom.args name v fits.so_far is h.0 room.0 first)

    -- an argument that is a constant
    constant : (frame : Frame) (said : Said) (args : List Arg) (c : ℕ) → SaidFits frame said args
        → SaidFits frame said (args ++ Const (record { 0 = c }) ∷ [])
    constant (body_of_tgd name) said args c fits = body_constant rules.sources said args (record { 0 = c }) fits
    constant (head_of_tgd name body body_vars) said args c fits =
        head_argument rules.targets body_vars said args (Const (record { 0 = c })) fits tt
    constant (body_of_egd name) said args c fits = body_constant rules.targets said args (record { 0 = c }) fits
    constant (disjunct_of name head branches) said args c fits = body_constant rules.targets said args (record { 0 = c }) fits

    argued : (frame : Frame) (said : Said) (atom : OpenAtom) (next : RulePosition) (lexeme : Lexeme) → IsLexeme lexeme
        → rule_tests rules pool (wants_argument frame said atom) lexeme (goes next) → AtomFits frame said atom → Fits next
    argued frame said atom next lexeme is (inl h) fits =
        let found = (Test-next h.1).1 in
        subst Fits (Goes-next (wants_comma frame said (with_argument atom (Const (record { 0 = found.0 })))) next found.2)
        (record { before = fits.before; so_far = constant frame said atom.args found.0 fits.so_far; fewer = fits.fewer; width = fits.width })
    argued frame said atom next lexeme is (inr h) fits =
        let name = Named-next lexeme is h.1 in
        variable frame said atom lexeme.text next name.0 name.1 fits

    -- the end of an atom
    closed_said : (frame : Frame) (said : Said) (atom : OpenAtom) → AtomFits frame said atom → length atom.args ≡ atom.width
        → SaidFits frame (with_atom said atom) []
    closed_said (body_of_tgd name) said atom fits whole = body_closed rules.sources said atom fits.so_far fits.width whole fits.fewer
    closed_said (head_of_tgd name body body_vars) said atom fits whole =
        head_closed rules.targets body_vars said atom fits.so_far fits.width whole fits.fewer
    closed_said (body_of_egd name) said atom fits whole = body_closed rules.targets said atom fits.so_far fits.width whole fits.fewer
    closed_said (disjunct_of name head branches) said atom fits whole =
        body_closed rules.targets said atom fits.so_far fits.width whole fits.fewer

    comma : (frame : Frame) (said : Said) (atom : OpenAtom) (next : RulePosition) (lexeme : Lexeme)
        → rule_tests rules pool (wants_comma frame said atom) lexeme (goes next) → AtomFits frame said atom → Fits next
    comma frame said atom next lexeme (inl h) fits =
        subst Fits (Goes-next (wants_argument frame said atom) next (Test-next h.1).1) fits
    comma frame said atom next lexeme (inr h) fits =
        let whole = Test-next (Test-next h.1).1 in
        subst Fits (Goes-next (after_atom frame (with_atom said atom)) next whole.1) (
          fits.before,
          closed_said frame said atom fits whole.0,
          omega (arith, length_push said.atoms (record { relation = atom.relation; args = atom.args })),
        )

    -- the end of a body, a head or a disjunct
    tgd_stated : (name : List ℕ) (body : List Atom) (body_vars : ℕ) (said : Said) → Fits (after_atom (head_of_tgd name body body_vars) said)
        → IsNewRule (Tgd (record { name = name; vars = said.vars; body_vars = body_vars; body = body; head = said.atoms }))
    tgd_stated name body body_vars said fits = record {
      room = fits.0.0.room;
      valid = record {
        name = fits.0.0.is;
        vars = fits.1.vars;
        body = fits.0.1;
        head = head_atoms rules.targets body_vars said fits.1 fits.2;
        body_vars = fits.0.2;
        within = fits.1.within;
        safe = fits.1.safe;
      };
      name = fits.0.0.new;
    }

    query_stated : (name : List ℕ) (head : List (List ℕ)) (branches : List Branch) (branch : Branch) → FrameFits (disjunct_of name head branches)
        → IsBranch rules.targets head branch → IsNewRule (Query (record { name = name; head = head; branches = branches ++ branch ∷ [] }))
    query_stated name head branches branch fits one = record {
      room = fits.0.name_fits.room;
      valid = record {
        name = fits.0.name_fits.is;
        head = fits.0.names.each;
        head_most = fits.0.most;
        distinct = fits.0.names.distinct;
        some = omega (arith, length_push branches branch);
        most = let few = fits.1 in omega (arith, few, length_push branches branch);
        branches = All-push (IsBranch rules.targets head) branches branch fits.2 one;
      };
      name = fits.0.name_fits.new;
    }

    disjunct : (name : List ℕ) (head : List (List ℕ)) (branches : List Branch) (branch : Branch) → FrameFits (disjunct_of name head branches)
        → length branches < 7 → IsBranch rules.targets head branch
        → Fits (wants_atom (disjunct_of name head (branches ++ branch ∷ [])) nothing_said)
    disjunct name head branches branch fits fewer one = (
      (fits.0, omega (arith, fewer, length_push branches branch), All-push (IsBranch rules.targets head) branches branch fits.2 one),
      body_none rules.targets,
    )

    ended : (frame : Frame) (said : Said) (next : RulePosition) (lexeme : Lexeme) → after_atom_tests frame said lexeme (goes next)
        → Fits (after_atom frame said) → Fits next
    ended (body_of_tgd name) said next lexeme h fits = subst Fits (Goes-next (after_arrow name said) next (Test-next h).1) fits
    ended (head_of_tgd name body body_vars) said next lexeme h fits =
        subst Fits (Goes-next (stated (Tgd (record { name = name; vars = said.vars; body_vars = body_vars; body = body; head = said.atoms })))
        next (Test-next h).1) (tgd_stated name body body_vars said fits)
    ended (body_of_egd name) said next lexeme h fits = subst Fits (Goes-next (wants_left name said) next (Test-next h).1) fits
    ended (disjunct_of name head branches) said next lexeme (inl h) fits =
        let room = Test-next (Test-next h.1).1 in
        let found = room.1 in
        let branch : Branch = record { vars = said.vars; body = said.atoms; columns = found.0 } in
        subst Fits (Goes-next (wants_atom (disjunct_of name head (branches ++ branch ∷ [])) nothing_said) next found.2)
        (disjunct name head branches branch fits.0 room.0 (branch_fits rules.targets head said found.0 fits.1 fits.2 found.1))
    ended (disjunct_of name head branches) said next lexeme (inr h) fits =
        let found = (Test-next (Test-next h.1).1).1 in
        let branch : Branch = record { vars = said.vars; body = said.atoms; columns = found.0 } in
        subst Fits (Goes-next (stated (Query (record { name = name; head = head; branches = branches ++ branch ∷ [] }))) next found.2)
        (query_stated name head branches branch fits.0 (branch_fits rules.targets head said found.0 fits.1 fits.2 found.1))

    next_atom : (frame : Frame) (said : Said) (next : RulePosition) (lexeme : Lexeme)
        → rule_tests rules pool (after_atom frame said) lexeme (goes next) → Fits (after_atom frame said) → Fits next
    next_atom frame said next lexeme (inl h) fits = subst Fits (Goes-next (wants_atom frame said) next h.1) (fits.0, fits.1)
    next_atom frame said next lexeme (inr h) fits = ended frame said next lexeme h.1 fits

    -- what follows the arrow of a tgd
    tgd_body : (name : List ℕ) (said : Said) → Fits (after_arrow name said) → FrameFits (head_of_tgd name said.atoms (length said.vars))
    tgd_body name said fits = (fits.0, body_atoms rules.sources said fits.1 fits.2, body_numbered rules.sources said fits.1)

    arrow : (name : List ℕ) (said : Said) (next : RulePosition) (lexeme : Lexeme) → IsLexeme lexeme
        → rule_tests rules pool (after_arrow name said) lexeme (goes next) → Fits (after_arrow name said) → Fits next
    arrow name said next lexeme is (inl h) fits =
        subst Fits (Goes-next (wants_exists_variable name said.atoms (length said.vars) said.vars) next h.1)
        (tgd_body name said fits, fits.1.vars, omega arith)
    arrow name said next lexeme is (inr h) fits =
        related (head_of_tgd name said.atoms (length said.vars)) (record said { atoms = [] }) next lexeme is h.1 (tgd_body name said fits)
        (head_none rules.targets (length said.vars) said.vars fits.1.vars (omega arith))

    exists_variable : (name : List ℕ) (body : List Atom) (body_vars : ℕ) (vars : List (List ℕ)) (next : RulePosition) (lexeme : Lexeme)
        → IsLexeme lexeme → rule_tests rules pool (wants_exists_variable name body body_vars vars) lexeme (goes next)
        → Fits (wants_exists_variable name body body_vars vars) → Fits next
    exists_variable name body body_vars vars next lexeme is h fits =
        let variable = Named-next lexeme is h in
        let new = Test-next variable.1 in
        let room = Test-next new.1 in
        let within = fits.2 in
        subst Fits (Goes-next (wants_exists_comma name body body_vars (vars ++ lexeme.text ∷ [])) next room.1) (
          fits.0,
          variables_more vars lexeme.text fits.1 variable.0 new.0 room.0,
          omega (arith, within, length_push vars lexeme.text),
        )

    exists_comma : (name : List ℕ) (body : List Atom) (body_vars : ℕ) (vars : List (List ℕ)) (next : RulePosition) (lexeme : Lexeme)
        → rule_tests rules pool (wants_exists_comma name body body_vars vars) lexeme (goes next)
        → Fits (wants_exists_comma name body body_vars vars) → Fits next
    exists_comma name body body_vars vars next lexeme (inl h) fits =
        subst Fits (Goes-next (wants_exists_variable name body body_vars vars) next h.1) fits
    exists_comma name body body_vars vars next lexeme (inr h) fits =
        subst Fits (Goes-next (wants_atom (head_of_tgd name body body_vars) (record { vars = vars; atoms = [] })) next (Test-next h.1).1)
        (fits.0, head_none rules.targets body_vars vars fits.1 fits.2)

    -- the sides of an egd
    left_side : (name : List ℕ) (said : Said) (next : RulePosition) (lexeme : Lexeme) → IsLexeme lexeme
        → rule_tests rules pool (wants_left name said) lexeme (goes next) → Fits (wants_left name said) → Fits next
    left_side name said next lexeme is h fits =
        let found = (Test-next (Named-next lexeme is h).1).1 in
        subst Fits (Goes-next (wants_equals name said found.0) next found.2)
        (fits.0, fits.1, fits.2, first_within said.vars lexeme.text found.0 found.1)

    right_side : (name : List ℕ) (said : Said) (left : ℕ) (next : RulePosition) (lexeme : Lexeme) → IsLexeme lexeme
        → rule_tests rules pool (wants_right name said left) lexeme (goes next) → Fits (wants_right name said left) → Fits next
    right_side name said left next lexeme is h fits =
        let found = (Test-next (Named-next lexeme is h).1).1 in
        subst Fits
        (Goes-next (wants_line_end (Egd (record { name = name; vars = said.vars; body = said.atoms; left = left; right = found.0 }))) next found.2)
        (record {
          room = fits.0.room;
          valid = record {
            name = fits.0.is;
            vars = fits.1.vars;
            body = body_atoms rules.targets said fits.1 fits.2;
            body_vars = body_numbered rules.targets said fits.1;
            left = fits.3;
            right = first_within said.vars lexeme.text found.0 found.1;
          };
          name = fits.0.new;
        })

    step : (position next : RulePosition) (lexeme : Lexeme) → IsLexeme lexeme → rule_tests rules pool position lexeme (goes next)
        → Fits position → Fits next
    step begins next lexeme is h fits = begun next lexeme h
    step wants_tgd_name next lexeme is h fits = tgd_named next lexeme is h
    step wants_egd_name next lexeme is h fits = egd_named next lexeme is h
    step wants_query_name next lexeme is h fits = query_named next lexeme is h
    step (wants_head_parenthesis name) next lexeme is h fits = subst Fits (Goes-next (wants_head name) next (Test-next h).1) fits
    step (wants_head name) next lexeme is h fits = head_begun name next lexeme is h fits
    step (wants_head_variable name head) next lexeme is h fits = head_variable name head next lexeme is h fits
    step (wants_head_comma name head) next lexeme is h fits = head_comma name head next lexeme h fits
    step (wants_colon frame) next lexeme is h fits = subst Fits (Goes-next (wants_atom frame nothing_said) next (Test-next h).1) fits
    step (wants_atom frame said) next lexeme is h fits = related frame said next lexeme is h fits.0 fits.1
    step (wants_parenthesis frame said atom) next lexeme is h fits =
        subst Fits (Goes-next (wants_argument frame said atom) next (Test-next h).1) fits
    step (wants_argument frame said atom) next lexeme is h fits = argued frame said atom next lexeme is h fits
    step (wants_comma frame said atom) next lexeme is h fits = comma frame said atom next lexeme h fits
    step (after_atom frame said) next lexeme is h fits = next_atom frame said next lexeme h fits
    step (after_arrow name said) next lexeme is h fits = arrow name said next lexeme is h fits
    step (wants_exists_variable name body body_vars vars) next lexeme is h fits = exists_variable name body body_vars vars next lexeme is h fits
    step (wants_exists_comma name body body_vars vars) next lexeme is h fits = exists_comma name body body_vars vars next lexeme h fits
    step (wants_left name said) next lexeme is h fits = left_side name said next lexeme is h fits
    step (wants_equals name said left) next lexeme is h fits = subst Fits (Goes-next (wants_right name said left) next (Test-next h).1) fits
    step (wants_right name said left) next lexeme is h fits = right_side name said left next lexeme is h fits
    step (wants_line_end rule) next lexeme is h fits = subst Fits (Goes-next (stated rule) next (Test-next h).1) fits
    step (stated rule) next lexeme is h fits = absurd h

  new_rule_fits : (rule : Rule) → IsValid rules → IsNewRule rule → IsValid (with_rule rules rule)
  new_rule_fits (Tgd tgd) valid new = with_tgd-valid rules tgd valid new
  new_rule_fits (Egd egd) valid new = with_egd-valid rules egd valid new
  new_rule_fits (Query query) valid new = with_query-valid rules query valid new

pub rule_fits : (bytes : List ℕ) (rules : RuleSet) (pool : List (List ℕ)) (from : ℕ) (rule : Rule) (to : ℕ) → IsValid rules
    → IsRule bytes rules pool from rule to → IsValid (with_rule rules rule)
rule_fits bytes rules pool from rule to valid line =
    new_rule_fits rules rule valid
    (Pass-keeps (rule_tests rules pool) bytes (Fits rules) (step rules pool) from begins line.0 to (stated rule) line.1 tt)
