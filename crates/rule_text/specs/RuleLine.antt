-- The line of a tgd, an egd or a query: the tests of each of its tokens.
use Rattle.std.specs.Prelude.{◌≡◌, ◌≢◌, ◌⊎◌, ℕ, ◌-◌, ◌<◌, ◌≤◌, List, [], ◌∷◌, ◌++◌, codes, length, take, All, Any, Contains, slice_get, Some}
use Rattle.std.specs.List.{AllZip}
use Rattle.rule_core.specs.declared.rules.Place.{Place}
use Rattle.rule_core.specs.declared.rules.Place.TheVariants.{Source, Target}
use Rattle.rule_core.specs.declared.rules.Relation.{Relation}
use Rattle.rule_core.specs.declared.rules.Arg.{Arg}
use Rattle.rule_core.specs.declared.rules.Arg.TheVariants.{Var, Const}
use Rattle.rule_core.specs.declared.rules.Atom.{Atom}
use Rattle.rule_core.specs.declared.rules.Branch.{Branch}
use Rattle.rule_core.specs.Mapping.{RuleSet}
use Rattle.rule_core.specs.Adding.{relations_of, IsNewRuleName, IsNewQueryName}
use Rattle.rule_core.specs.Limits.{most_tgds, most_egds, most_queries, most_atoms, most_variables, most_head_variables, most_disjuncts, longest_constant}
use Rattle.decl_text.specs.declared.token.Kind.TheVariants.{Quoted, LeftParen, RightParen, Comma, Colon, Arrow, Equals, Bar}
use Rattle.decl_text.specs.declared.fault.Code.{Code}
use Rattle.decl_text.specs.declared.fault.Code.TheVariants.{X5, X6, X7, X8, X9, U1, U2, U3, U4, U5, U6}
use Rattle.decl_text.specs.declared.fault.MappingFault.{MappingFault}
use Rattle.decl_text.specs.Tests.{Lexeme, Outcome, Goes, Stops, When, Test, Leads, Fails}
use Rattle.decl_text.specs.Declaration.{IsKeyword, Named, EndsLine}
use Rattle.rule_text.specs.declared.rule.Rule.{Rule}
use Rattle.rule_text.specs.declared.rule.Rule.TheVariants.{Tgd, Egd, Query}

-- what a list of atoms belongs to, with what its line has said before them
pub data Frame : Type 0 where
  -- the body of the tgd with this name
  body_of_tgd : List ℕ → Frame
  -- the head of the tgd with this name, this body, and so many variables in it
  head_of_tgd : List ℕ → List Atom → ℕ → Frame
  -- the body of the egd with this name
  body_of_egd : List ℕ → Frame
  -- a disjunct of the query with this name and these head variables, after these disjuncts
  disjunct_of : List ℕ → List (List ℕ) → List Branch → Frame

-- the side over which the atoms are
abbrev pub side_of : Frame → Place
side_of (body_of_tgd name) = Source
side_of other = Target

-- the number of the fault where a token of the wrong kind stands among the atoms
abbrev pub kind_code : Frame → Code
kind_code (body_of_tgd name) = X6
kind_code (head_of_tgd name body body_vars) = X6
kind_code (body_of_egd name) = X7
kind_code (disjunct_of name head branches) = X8

-- the variables in order of first occurrence, and the atoms so far
pub record Said : Type 0 where
  pub vars : List (List ℕ)
  pub atoms : List Atom

abbrev pub nothing_said : Said
nothing_said = record { vars = []; atoms = [] }

-- an atom that isn't closed: its relation's number and width, and the arguments so far
pub record OpenAtom : Type 0 where
  pub relation : ℕ
  pub width : ℕ
  pub args : List Arg

abbrev pub with_argument : OpenAtom → Arg → OpenAtom
with_argument atom arg = record atom { args = atom.args ++ arg ∷ [] }

-- the atom is closed
abbrev pub with_atom : Said → OpenAtom → Said
with_atom said atom = record said { atoms = said.atoms ++ (record { relation = atom.relation; args = atom.args }) ∷ [] }

-- the name stands first at this number of the list
pub record IsFirstAt (names : List (List ℕ)) (name : List ℕ) (number : ℕ) : Type 0 where
  pub there : slice_get names number ≡ Some name
  pub before : All (λ other. other ≢ name) (take number names)

-- the first relation with the name has this number
pub record IsFirstNamed (relations : List Relation) (name : List ℕ) (number : ℕ) (relation : Relation) : Type 0 where
  pub there : slice_get relations number ≡ Some relation
  pub named : relation.name ≡ name
  pub before : All (λ other. other.name ≢ name) (take number relations)

-- some relation of the list has the name
abbrev pub HasName : List Relation → List ℕ → Type 0
HasName relations name = Any (λ r. r.name ≡ name) relations

-- where a line stands after some of its tokens: what it wants next, with what it has said
pub data RulePosition : Type 0 where
  begins : RulePosition
  wants_tgd_name : RulePosition
  wants_egd_name : RulePosition
  wants_query_name : RulePosition
  -- the head variables of a query, in parentheses
  wants_head_parenthesis : List ℕ → RulePosition
  wants_head : List ℕ → RulePosition
  wants_head_variable : List ℕ → List (List ℕ) → RulePosition
  wants_head_comma : List ℕ → List (List ℕ) → RulePosition
  -- atoms
  wants_colon : Frame → RulePosition
  wants_atom : Frame → Said → RulePosition
  wants_parenthesis : Frame → Said → OpenAtom → RulePosition
  wants_argument : Frame → Said → OpenAtom → RulePosition
  wants_comma : Frame → Said → OpenAtom → RulePosition
  after_atom : Frame → Said → RulePosition
  -- what follows the arrow of a tgd: the `exists` variables, if there are any, and the head
  after_arrow : List ℕ → Said → RulePosition
  wants_exists_variable : List ℕ → List Atom → ℕ → List (List ℕ) → RulePosition
  wants_exists_comma : List ℕ → List Atom → ℕ → List (List ℕ) → RulePosition
  -- the sides of an egd
  wants_left : List ℕ → Said → RulePosition
  wants_equals : List ℕ → Said → ℕ → RulePosition
  wants_right : List ℕ → Said → ℕ → RulePosition
  wants_line_end : Rule → RulePosition
  stated : Rule → RulePosition

-- the position that belongs to the number of the name in the list
abbrev pub Located : List (List ℕ) → List ℕ → (ℕ → RulePosition) → Outcome RulePosition → Type 0
Located names name position outcome = (number : ℕ) × IsFirstAt names name number × Goes (position number) outcome

-- a variable, as an argument of an atom
abbrev pub Variable : Frame → Said → OpenAtom → List ℕ → Outcome RulePosition → Type 0
Variable frame said atom name = Located said.vars name (λ v. wants_comma frame said (with_argument atom (Var v)))

-- the variable is added as the last
abbrev pub with_variable : Said → List ℕ → Said
with_variable said name = record said { vars = said.vars ++ name ∷ [] }

-- the tests of a variable: in a head it was said before, and elsewhere there may be one more
abbrev pub variable_tests : Frame → Said → OpenAtom → List ℕ → Outcome RulePosition → Type 0
variable_tests (head_of_tgd name body body_vars) said atom variable =
    Test (Contains said.vars variable) U4
    (Variable (head_of_tgd name body body_vars) said atom variable)
variable_tests frame said atom variable =
    When (Contains said.vars variable)
    (Variable frame said atom variable)
    (Test (length said.vars < most_variables) U6
    (Variable frame (with_variable said variable) atom variable))

-- the tests of an atom's relation
abbrev pub relation_tests : RuleSet → Frame → Said → Lexeme → Outcome RulePosition → Type 0
relation_tests rules frame said token =
    Named (kind_code frame) X9 token
    (Test (HasName rules.sources token.text ⊎ HasName rules.targets token.text) U1
    (Test (HasName (relations_of rules (side_of frame)) token.text) U3
    (Test (length said.atoms < most_atoms) U6
    (λ outcome. (number : ℕ) × (relation : Relation) × IsFirstNamed (relations_of rules (side_of frame)) token.text number relation
    × Goes (wants_parenthesis frame said (record { relation = number; width = length relation.columns; args = [] })) outcome))))

-- the columns of a disjunct: the number of each head variable among its variables
abbrev pub AreColumns : List (List ℕ) → List (List ℕ) → List ℕ → Type 0
AreColumns vars head columns = AllZip (IsFirstAt vars) head columns

-- the query's disjuncts with one more, which has said this
abbrev pub Disjuncts : List (List ℕ) → List Branch → Said → (List Branch → RulePosition) → Outcome RulePosition → Type 0
Disjuncts head branches said position outcome =
    (columns : List ℕ) × AreColumns said.vars head columns
    × Goes (position (branches ++ (record { vars = said.vars; body = said.atoms; columns = columns }) ∷ [])) outcome

-- each head variable is in the disjunct
abbrev pub HasHead : List (List ℕ) → Said → Type 0
HasHead head said = All (Contains said.vars) head

-- the tests of the token after an atom
abbrev pub after_atom_tests : Frame → Said → Lexeme → Outcome RulePosition → Type 0
after_atom_tests (body_of_tgd name) said token =
    Test (token.kind ≡ Arrow) X6
    (Goes (after_arrow name said))
after_atom_tests (head_of_tgd name body body_vars) said token =
    Test (EndsLine token) X6
    (Goes (stated (Tgd (record { name = name; vars = said.vars; body_vars = body_vars; body = body; head = said.atoms }))))
after_atom_tests (body_of_egd name) said token =
    Test (token.kind ≡ Arrow) X7
    (Goes (wants_left name said))
after_atom_tests (disjunct_of name head branches) said token =
    When (token.kind ≡ Bar)
    (Test (HasHead head said) U4
    (Test (length branches < most_disjuncts - 1) U6
    (Disjuncts head branches said (λ all. wants_atom (disjunct_of name head all) nothing_said))))
    (Test (EndsLine token) X8
    (Test (HasHead head said) U4
    (Disjuncts head branches said (λ all. stated (Query (record { name = name; head = head; branches = all }))))))

-- the tests of a query's head variable
abbrev pub head_variable_tests : List ℕ → List (List ℕ) → Lexeme → Outcome RulePosition → Type 0
head_variable_tests name head token =
    Named X8 X9 token
    (Test (¬ Contains head token.text) U5
    (Test (length head < most_head_variables) U6
    (Goes (wants_head_comma name (head ++ token.text ∷ [])))))

-- the tests of the next token, in their order; the constants are in this pool
abbrev pub rule_tests : RuleSet → List (List ℕ) → RulePosition → Lexeme → Outcome RulePosition → Type 0
rule_tests rules pool begins token =
    When (IsKeyword token (codes "tgd")) (Goes wants_tgd_name)
    (When (IsKeyword token (codes "egd")) (Goes wants_egd_name)
    (When (IsKeyword token (codes "query")) (Goes wants_query_name)
    (Stops X5)))
rule_tests rules pool wants_tgd_name token =
    Named X6 X9 token
    (Test (IsNewRuleName rules token.text) U5
    (Test (length rules.tgds < most_tgds) U6
    (Goes (wants_colon (body_of_tgd token.text)))))
rule_tests rules pool wants_egd_name token =
    Named X7 X9 token
    (Test (IsNewRuleName rules token.text) U5
    (Test (length rules.egds < most_egds) U6
    (Goes (wants_colon (body_of_egd token.text)))))
rule_tests rules pool wants_query_name token =
    Named X8 X9 token
    (Test (IsNewQueryName rules token.text) U5
    (Test (length rules.queries < most_queries) U6
    (Goes (wants_head_parenthesis token.text))))
rule_tests rules pool (wants_head_parenthesis name) token =
    Test (token.kind ≡ LeftParen) X8
    (Goes (wants_head name))
rule_tests rules pool (wants_head name) token =
    When (token.kind ≡ RightParen) (Goes (wants_colon (disjunct_of name [] [])))
    (head_variable_tests name [] token)
rule_tests rules pool (wants_head_variable name head) token = head_variable_tests name head token
rule_tests rules pool (wants_head_comma name head) token =
    When (token.kind ≡ Comma) (Goes (wants_head_variable name head))
    (Test (token.kind ≡ RightParen) X8
    (Goes (wants_colon (disjunct_of name head []))))
rule_tests rules pool (wants_colon frame) token =
    Test (token.kind ≡ Colon) (kind_code frame)
    (Goes (wants_atom frame nothing_said))
rule_tests rules pool (wants_atom frame said) token = relation_tests rules frame said token
rule_tests rules pool (wants_parenthesis frame said atom) token =
    Test (token.kind ≡ LeftParen) (kind_code frame)
    (Goes (wants_argument frame said atom))
rule_tests rules pool (wants_argument frame said atom) token =
    When (token.kind ≡ Quoted)
    (Test (length token.text ≤ longest_constant) U6
    (Located pool token.text (λ c. wants_comma frame said (with_argument atom (Const (record { 0 = c }))))))
    (Named (kind_code frame) X9 token
    (variable_tests frame said atom token.text))
rule_tests rules pool (wants_comma frame said atom) token =
    When (token.kind ≡ Comma)
    (Test (length atom.args < atom.width) U2
    (Goes (wants_argument frame said atom)))
    (Test (token.kind ≡ RightParen) (kind_code frame)
    (Test (length atom.args ≡ atom.width) U2
    (Goes (after_atom frame (with_atom said atom)))))
rule_tests rules pool (after_atom frame said) token =
    When (token.kind ≡ Comma) (Goes (wants_atom frame said))
    (after_atom_tests frame said token)
rule_tests rules pool (after_arrow name said) token =
    When (IsKeyword token (codes "exists"))
    (Goes (wants_exists_variable name said.atoms (length said.vars) said.vars))
    (relation_tests rules (head_of_tgd name said.atoms (length said.vars)) (record said { atoms = [] }) token)
rule_tests rules pool (wants_exists_variable name body body_vars vars) token =
    Named X6 X9 token
    (Test (¬ Contains vars token.text) U5
    (Test (length vars < most_variables) U6
    (Goes (wants_exists_comma name body body_vars (vars ++ token.text ∷ [])))))
rule_tests rules pool (wants_exists_comma name body body_vars vars) token =
    When (token.kind ≡ Comma) (Goes (wants_exists_variable name body body_vars vars))
    (Test (token.kind ≡ Colon) X6
    (Goes (wants_atom (head_of_tgd name body body_vars) (record { vars = vars; atoms = [] }))))
rule_tests rules pool (wants_left name said) token =
    Named X7 X9 token
    (Test (Contains said.vars token.text) U4
    (Located said.vars token.text (λ left. wants_equals name said left)))
rule_tests rules pool (wants_equals name said left) token =
    Test (token.kind ≡ Equals) X7
    (Goes (wants_right name said left))
rule_tests rules pool (wants_right name said left) token =
    Named X7 X9 token
    (Test (Contains said.vars token.text) U4
    (Located said.vars token.text
    (λ right. wants_line_end (Egd (record { name = name; vars = said.vars; body = said.atoms; left = left; right = right })))))
rule_tests rules pool (wants_line_end rule) token =
    Test (EndsLine token) X7
    (Goes (stated rule))
rule_tests rules pool (stated rule) token = λ outcome. ⊥

-- from the first offset up to the second, the bytes are a line that states this rule
abbrev pub IsRule : List ℕ → RuleSet → List (List ℕ) → ℕ → Rule → ℕ → Type 0
IsRule bytes rules pool from rule to = Leads (rule_tests rules pool) bytes from begins to (stated rule)

-- from this offset on, this is the first fault of the line
abbrev pub FailsRule : List ℕ → RuleSet → List (List ℕ) → ℕ → MappingFault → Type 0
FailsRule bytes rules pool from fault = Fails (rule_tests rules pool) bytes from begins fault
