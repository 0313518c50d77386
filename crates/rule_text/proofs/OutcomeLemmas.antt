-- The tests of each token of a rule's line come to some outcome: each line states a rule, or has a first fault.
use Rattle.std.proofs.Common.{◌≡◌, ◌≢◌, ◌⊎◌, inl, inr, ⊎_elim, ℕ, suc, ◌<◌, List, [], ◌∷◌, ◌++◌, codes, length, take, Some as some, All, Contains, refl, sym, ap, ◌∙◌, subst}
use Rattle.std.proofs.lemmas.Bool.{cases_eq}
use Rattle.std.proofs.lemmas.List.Elements.{All-nil, All-cons, All-head, All-tail, Contains-push}
use Rattle.rule_core.proofs.ListLemmas.{Contains-nil, Contains-cons_cases}
use Rattle.rule_core.specs.declared.rules.Relation.{Relation}
use Rattle.rule_core.specs.declared.rules.Arg.TheVariants.{Var, Const}
use Rattle.rule_core.specs.declared.rules.Branch.{Branch}
use Rattle.rule_core.specs.declared.rules.Query.{Query as QueryValue}
use Rattle.rule_core.specs.Mapping.{RuleSet, rule_names}
use Rattle.rule_core.specs.Adding.{relations_of, IsNewRuleName}
use Rattle.decl_text.specs.declared.token.Kind.TheVariants.{Quoted, LeftParen, RightParen, Comma, Colon, Arrow, Equals, Bar, Finish}
use Rattle.decl_text.specs.declared.fault.Code.TheVariants.{X5, X6, X7, X8, X9, U6}
use Rattle.decl_text.specs.declared.fault.MappingFault.{MappingFault}
use Rattle.decl_text.specs.TokenList.{KnowsTexts}
use Rattle.decl_text.specs.Tests.{Lexeme, Says, goes, When, Test, IsFinal, Leads}
use Rattle.decl_text.proofs.SomeLemmas.{Decided, Some, same_kind, same_text, one_of, denied, less, at_most, each, there, is_keyword, ends_line, Goes-some, Stops-some, When-some, Test-some, Named-some}
use Rattle.decl_text.proofs.PassLemmas.{Test-next, Goes-next}
use Rattle.decl_text.proofs.WholeLemmas.{SayGood, AreWhole, Ends, read_to_an_end, finish_leads}
use Rattle.rule_text.specs.declared.rule.Rule.{Rule}
use Rattle.rule_text.specs.declared.rule.Rule.TheVariants.{Tgd, Egd, Query}
use Rattle.rule_text.specs.RuleLine.{Frame, body_of_tgd, head_of_tgd, body_of_egd, disjunct_of, side_of, kind_code, Said, nothing_said, OpenAtom, with_argument, with_atom, with_variable, IsFirstAt, IsFirstNamed, HasName, Located, Variable, variable_tests, relation_tests, AreColumns, Disjuncts, HasHead, after_atom_tests, head_variable_tests, RulePosition, begins, wants_tgd_name, wants_egd_name, wants_query_name, wants_head_parenthesis, wants_head, wants_head_variable, wants_head_comma, wants_colon, wants_atom, wants_parenthesis, wants_argument, wants_comma, after_atom, after_arrow, wants_exists_variable, wants_exists_comma, wants_left, wants_equals, wants_right, wants_line_end, stated, rule_tests, IsRule, FailsRule}
use Rattle.rule_text.proofs.LookupLemmas.{has_name}
use Rattle.rule_text.proofs.OneOutcome.{stated_final}
use Rattle.rule_text.proofs.WantedLemmas.{IsOpen, rule_wants}

-- a name of the list stands first somewhere
first_of : (names : List (List ℕ)) (name : List ℕ) → Contains names name → (place : ℕ) × IsFirstAt names name place
first_of [] name has = absurd (Contains-nil name has)
first_of (n ∷ ns) name has = elim (same_text n name) [
  | inl same ↦ (0, record { there = ap some same; before = All-nil (λ other. other ≢ name) })
  | inr other ↦ elim (Contains-cons_cases n name ns has) [
    | inl same ↦ absurd (other same)
    | inr later ↦ let more : (place : ℕ) × IsFirstAt ns name place = first_of ns name later in
        (suc more.0, record { there = more.1.there; before = All-cons (λ other. other ≢ name) n (take more.0 ns) other more.1.before })
  ]
]

-- some relation has the name, and one is the first; or none has
abbrev FirstOrNone : List Relation → List ℕ → Type 0
FirstOrNone relations name = ((number : ℕ) × (relation : Relation) × IsFirstNamed relations name number relation)
    ⊎ All (λ r. r.name ≢ name) relations

first_or_none : (relations : List Relation) (name : List ℕ) → FirstOrNone relations name
first_or_none [] name = inr (All-nil (λ (r : Relation). r.name ≢ name))
first_or_none (r ∷ rs) name = elim (same_text r.name name) [
  | inl same ↦ inl (0, r, record { there = refl; named = same; before = All-nil (λ (r : Relation). r.name ≢ name) })
  | inr other ↦ later other (first_or_none rs name)
]
  where
    later : r.name ≢ name → FirstOrNone rs name → FirstOrNone (r ∷ rs) name
    later other (inl (number, relation, first)) =
        inl (
          suc number,
          relation,
          record {
            there = first.there;
            named = first.named;
            before = All-cons (λ (r : Relation). r.name ≢ name) r (take number rs) other first.before;
          },
        )
    later other (inr none) = inr (All-cons (λ (r : Relation). r.name ≢ name) r rs other none)

none_named : (relations : List Relation) (name : List ℕ) → All (λ r. r.name ≢ name) relations → ¬ (HasName relations name)
none_named relations name none has = none has.0 has.1 has.2 (ap (λ (r : Relation). r.name) has.3 ∙ has.4)

named_or_not : (relations : List Relation) (name : List ℕ) → Decided (HasName relations name)
named_or_not relations name = elim (first_or_none relations name) [
  | inl (number, relation, first) ↦ inl (has_name relations name number relation first.there first.named)
  | inr none ↦ inr (none_named relations name none)
]

first_named_of : (relations : List Relation) (name : List ℕ) → HasName relations name
    → (number : ℕ) × (relation : Relation) × IsFirstNamed relations name number relation
first_named_of relations name has = elim (first_or_none relations name) [
  | inl first ↦ first
  | inr none ↦ absurd (none_named relations name none has)
]

columns_of : (vars head : List (List ℕ)) → All (Contains vars) head → (columns : List ℕ) × AreColumns vars head columns
columns_of vars [] all = ([], tt)
columns_of vars (h ∷ hs) all =
    let one = first_of vars h (All-head (Contains vars) h hs all) in
    let more = columns_of vars hs (All-tail (Contains vars) h hs all) in
    (one.0 ∷ more.0, (one.1, more.1))

Located-some : (names : List (List ℕ)) (name : List ℕ) (position : ℕ → RulePosition) → Contains names name → Some (Located names name position)
Located-some names name position has = let first = first_of names name has in (goes (position first.0), (first.0, first.1, refl))

Disjuncts-some : (head : List (List ℕ)) (branches : List Branch) (said : Said) (position : List Branch → RulePosition) → HasHead head said
    → Some (Disjuncts head branches said position)
Disjuncts-some head branches said position has =
    let columns = columns_of said.vars head has in
    (goes (position (branches ++ (record { vars = said.vars; body = said.atoms; columns = columns.0 }) ∷ [])), (columns.0, columns.1, refl))

head_or_not : (head : List (List ℕ)) (said : Said) → Decided (HasHead head said)
head_or_not head said = each (Contains said.vars) (there said.vars) head

-- a variable that may be said for the first time
new_or_said : (frame : Frame) (said : Said) (atom : OpenAtom) (variable : List ℕ)
    → Some (When (Contains said.vars variable) (Variable frame said atom variable)
    (Test (length said.vars < 32) U6 (Variable frame (with_variable said variable) atom variable)))
new_or_said frame said atom variable =
    When-some (there said.vars variable) (Located-some said.vars variable (λ v. wants_comma frame said (with_argument atom (Var v))))
    (Test-some (less (length said.vars) 32)
    (λ room. Located-some (said.vars ++ variable ∷ []) variable
    (λ v. wants_comma frame (with_variable said variable) (with_argument atom (Var v))) (Contains-push said.vars variable)))

variable_some : (frame : Frame) (said : Said) (atom : OpenAtom) (variable : List ℕ) → Some (variable_tests frame said atom variable)
variable_some (head_of_tgd name body n) said atom variable =
    Test-some (there said.vars variable)
    (Located-some said.vars variable (λ v. wants_comma (head_of_tgd name body n) said (with_argument atom (Var v))))
variable_some (body_of_tgd name) said atom variable = new_or_said (body_of_tgd name) said atom variable
variable_some (body_of_egd name) said atom variable = new_or_said (body_of_egd name) said atom variable
variable_some (disjunct_of name head branches) said atom variable = new_or_said (disjunct_of name head branches) said atom variable

relation_some : (rules : RuleSet) (frame : Frame) (said : Said) (token : Lexeme) → Some (relation_tests rules frame said token)
relation_some rules frame said token =
    Named-some (kind_code frame) X9 token
    (λ name. Test-some (one_of (named_or_not rules.sources token.text) (named_or_not rules.targets token.text))
    (λ declared. Test-some (named_or_not (relations_of rules (side_of frame)) token.text)
    (λ has. Test-some (less (length said.atoms) 8)
    (λ room. let first = first_named_of (relations_of rules (side_of frame)) token.text has in (
      goes (wants_parenthesis frame said (record { relation = first.0; width = length first.1.columns; args = [] })),
      (first.0, first.1, first.2, refl),
    )))))

after_atom_some : (frame : Frame) (said : Said) (token : Lexeme) → Some (after_atom_tests frame said token)
after_atom_some (body_of_tgd name) said token = Test-some (same_kind token.kind Arrow) (λ sign. Goes-some (after_arrow name said))
after_atom_some (head_of_tgd name body n) said token =
    Test-some (ends_line token)
    (λ end. Goes-some (stated (Tgd (record { name = name; vars = said.vars; body_vars = n; body = body; head = said.atoms }))))
after_atom_some (body_of_egd name) said token = Test-some (same_kind token.kind Arrow) (λ sign. Goes-some (wants_left name said))
after_atom_some (disjunct_of name head branches) said token =
    When-some (same_kind token.kind Bar)
    (λ bar. Test-some (head_or_not head said)
    (λ has. Test-some (less (length branches) 7)
    (λ room. Disjuncts-some head branches said (λ all. wants_atom (disjunct_of name head all) nothing_said) has)))
    (Test-some (ends_line token)
    (λ end. Test-some (head_or_not head said)
    (λ has. Disjuncts-some head branches said (λ all. stated (Query (record { name = name; head = head; branches = all }))) has)))

head_variable_some : (name : List ℕ) (head : List (List ℕ)) (token : Lexeme) → Some (head_variable_tests name head token)
head_variable_some name head token =
    Named-some X8 X9 token
    (λ is. Test-some (denied (there head token.text))
    (λ new. Test-some (less (length head) 16) (λ room. Goes-some (wants_head_comma name (head ++ token.text ∷ [])))))

new_rule_name : (rules : RuleSet) (name : List ℕ) → Decided (IsNewRuleName rules name)
new_rule_name rules name = each (λ other. other ≢ name) (λ other. denied (same_text other name)) (rule_names rules)

-- a text in quotes is in the pool
abbrev pub IsKnown : List (List ℕ) → Lexeme → Type 0
IsKnown pool lexeme = lexeme.kind ≡ Quoted → Contains pool lexeme.text

pub some_outcome : (rules : RuleSet) (pool : List (List ℕ)) (position : RulePosition) → IsOpen position → (token : Lexeme) → IsKnown pool token
    → Some (rule_tests rules pool position token)
some_outcome rules pool begins here token known =
    When-some (is_keyword token (codes "tgd")) (λ word. Goes-some wants_tgd_name)
    (When-some (is_keyword token (codes "egd")) (λ word. Goes-some wants_egd_name)
    (When-some (is_keyword token (codes "query")) (λ word. Goes-some wants_query_name) (Stops-some X5)))
some_outcome rules pool wants_tgd_name here token known =
    Named-some X6 X9 token (λ is. Test-some (new_rule_name rules token.text)
    (λ new. Test-some (less (length rules.tgds) 256) (λ room. Goes-some (wants_colon (body_of_tgd token.text)))))
some_outcome rules pool wants_egd_name here token known =
    Named-some X7 X9 token (λ is. Test-some (new_rule_name rules token.text)
    (λ new. Test-some (less (length rules.egds) 256) (λ room. Goes-some (wants_colon (body_of_egd token.text)))))
some_outcome rules pool wants_query_name here token known =
    Named-some X8 X9 token
    (λ is. Test-some (each (λ (q : QueryValue). q.name ≢ token.text) (λ q. denied (same_text q.name token.text)) rules.queries)
    (λ new. Test-some (less (length rules.queries) 64) (λ room. Goes-some (wants_head_parenthesis token.text))))
some_outcome rules pool (wants_head_parenthesis name) here token known =
    Test-some (same_kind token.kind LeftParen) (λ sign. Goes-some (wants_head name))
some_outcome rules pool (wants_head name) here token known =
    When-some (same_kind token.kind RightParen) (λ sign. Goes-some (wants_colon (disjunct_of name [] []))) (head_variable_some name [] token)
some_outcome rules pool (wants_head_variable name head) here token known = head_variable_some name head token
some_outcome rules pool (wants_head_comma name head) here token known =
    When-some (same_kind token.kind Comma) (λ sign. Goes-some (wants_head_variable name head))
    (Test-some (same_kind token.kind RightParen) (λ sign. Goes-some (wants_colon (disjunct_of name head []))))
some_outcome rules pool (wants_colon frame) here token known =
    Test-some (same_kind token.kind Colon) (λ sign. Goes-some (wants_atom frame nothing_said))
some_outcome rules pool (wants_atom frame said) here token known = relation_some rules frame said token
some_outcome rules pool (wants_parenthesis frame said atom) here token known =
    Test-some (same_kind token.kind LeftParen) (λ sign. Goes-some (wants_argument frame said atom))
some_outcome rules pool (wants_argument frame said atom) here token known =
    When-some (same_kind token.kind Quoted)
    (λ quoted. Test-some (at_most (length token.text) 4096)
    (λ short. Located-some pool token.text (λ c. wants_comma frame said (with_argument atom (Const (record { 0 = c })))) (known quoted)))
    (Named-some (kind_code frame) X9 token (λ is. variable_some frame said atom token.text))
some_outcome rules pool (wants_comma frame said atom) here token known =
    When-some (same_kind token.kind Comma)
    (λ comma. Test-some (less (length atom.args) atom.width) (λ more. Goes-some (wants_argument frame said atom)))
    (Test-some (same_kind token.kind RightParen)
    (λ sign. Test-some (cases_eq (length atom.args) atom.width) (λ all. Goes-some (after_atom frame (with_atom said atom)))))
some_outcome rules pool (after_atom frame said) here token known =
    When-some (same_kind token.kind Comma) (λ comma. Goes-some (wants_atom frame said)) (after_atom_some frame said token)
some_outcome rules pool (after_arrow name said) here token known =
    When-some (is_keyword token (codes "exists"))
    (λ word. Goes-some (wants_exists_variable name said.atoms (length said.vars) said.vars))
    (relation_some rules (head_of_tgd name said.atoms (length said.vars)) (record said { atoms = [] }) token)
some_outcome rules pool (wants_exists_variable name body n vars) here token known =
    Named-some X6 X9 token
    (λ is. Test-some (denied (there vars token.text))
    (λ new. Test-some (less (length vars) 32) (λ room. Goes-some (wants_exists_comma name body n (vars ++ token.text ∷ [])))))
some_outcome rules pool (wants_exists_comma name body n vars) here token known =
    When-some (same_kind token.kind Comma) (λ comma. Goes-some (wants_exists_variable name body n vars))
    (Test-some (same_kind token.kind Colon) (λ sign. Goes-some (wants_atom (head_of_tgd name body n) (record { vars = vars; atoms = [] }))))
some_outcome rules pool (wants_left name said) here token known =
    Named-some X7 X9 token
    (λ is. Test-some (there said.vars token.text) (Located-some said.vars token.text (λ left. wants_equals name said left)))
some_outcome rules pool (wants_equals name said left) here token known =
    Test-some (same_kind token.kind Equals) (λ sign. Goes-some (wants_right name said left))
some_outcome rules pool (wants_right name said left) here token known =
    Named-some X7 X9 token
    (λ is. Test-some (there said.vars token.text)
    (Located-some said.vars token.text
    (λ right. wants_line_end (Egd (record { name = name; vars = said.vars; body = said.atoms; left = left; right = right })))))
some_outcome rules pool (wants_line_end rule) here token known = Test-some (ends_line token) (λ end. Goes-some (stated rule))
some_outcome rules pool (stated rule) here token known = absurd here

pub open_or_stated : (position : RulePosition) → IsOpen position ⊎ ((rule : Rule) × (position ≡ stated rule))
open_or_stated (stated rule) = inr (rule, refl)
open_or_stated begins = inl tt
open_or_stated wants_tgd_name = inl tt
open_or_stated wants_egd_name = inl tt
open_or_stated wants_query_name = inl tt
open_or_stated (wants_head_parenthesis name) = inl tt
open_or_stated (wants_head name) = inl tt
open_or_stated (wants_head_variable name head) = inl tt
open_or_stated (wants_head_comma name head) = inl tt
open_or_stated (wants_colon frame) = inl tt
open_or_stated (wants_atom frame said) = inl tt
open_or_stated (wants_parenthesis frame said atom) = inl tt
open_or_stated (wants_argument frame said atom) = inl tt
open_or_stated (wants_comma frame said atom) = inl tt
open_or_stated (after_atom frame said) = inl tt
open_or_stated (after_arrow name said) = inl tt
open_or_stated (wants_exists_variable name body n vars) = inl tt
open_or_stated (wants_exists_comma name body n vars) = inl tt
open_or_stated (wants_left name said) = inl tt
open_or_stated (wants_equals name said left) = inl tt
open_or_stated (wants_right name said left) = inl tt
open_or_stated (wants_line_end rule) = inl tt

pub rule_whole : (rules : RuleSet) (pool : List (List ℕ)) → AreWhole (rule_tests rules pool) (IsKnown pool)
rule_whole rules pool position = elim (open_or_stated position) [
  | inl here ↦ inr (rule_wants rules pool position here, λ token known. some_outcome rules pool position here token known)
  | inr (rule, same) ↦ inl (subst (IsFinal (rule_tests rules pool)) (sym same) (stated_final rules pool rule))
]

-- the line is over here
abbrev IsOver : RulePosition → Type 0
IsOver position = (rule : Rule) × (position ≡ stated rule)

relation_at_end : (rules : RuleSet) (frame : Frame) (said : Said) (next : RulePosition) (token : Lexeme) → token.kind ≡ Finish
    → relation_tests rules frame said token (goes next) → IsOver next
relation_at_end rules frame said next token end h = let name = (Test-next h).0 in absurd cc

after_atom_at_end : (frame : Frame) (said : Said) (next : RulePosition) (token : Lexeme) → token.kind ≡ Finish
    → after_atom_tests frame said token (goes next) → IsOver next
after_atom_at_end (body_of_tgd name) said next token end h = let sign = (Test-next h).0 in absurd cc
after_atom_at_end (head_of_tgd name body n) said next token end h =
    (Tgd (record { name = name; vars = said.vars; body_vars = n; body = body; head = said.atoms }), sym (Goes-next _ next (Test-next h).1))
after_atom_at_end (body_of_egd name) said next token end h = let sign = (Test-next h).0 in absurd cc
after_atom_at_end (disjunct_of name head branches) said next token end (inl h) = let bar = h.0 in absurd cc
after_atom_at_end (disjunct_of name head branches) said next token end (inr h) =
    let columns = (Test-next (Test-next h.1).1).1 in (
      Query (record { name = name; head = head; branches = branches ++ (record { vars = said.vars; body = said.atoms; columns = columns.0 }) ∷ [] }),
      sym (Goes-next _ next columns.2),
    )

-- the end of the text passes only where the line is over then
over_at_end : (rules : RuleSet) (pool : List (List ℕ)) (position next : RulePosition) (token : Lexeme) → token.kind ≡ Finish
    → rule_tests rules pool position token (goes next) → IsOver next
over_at_end rules pool begins next token end (inl h) = let word = h.0.0 in absurd cc
over_at_end rules pool begins next token end (inr (other, inl h)) = let word = h.0.0 in absurd cc
over_at_end rules pool begins next token end (inr (other, inr (further, inl h))) = let word = h.0.0 in absurd cc
over_at_end rules pool begins next token end (inr (other, inr (further, inr h))) = absurd cc
over_at_end rules pool wants_tgd_name next token end h = let name = (Test-next h).0 in absurd cc
over_at_end rules pool wants_egd_name next token end h = let name = (Test-next h).0 in absurd cc
over_at_end rules pool wants_query_name next token end h = let name = (Test-next h).0 in absurd cc
over_at_end rules pool (wants_head_parenthesis name) next token end h = let sign = (Test-next h).0 in absurd cc
over_at_end rules pool (wants_head name) next token end (inl h) = let sign = h.0 in absurd cc
over_at_end rules pool (wants_head name) next token end (inr h) = let is = (Test-next h.1).0 in absurd cc
over_at_end rules pool (wants_head_variable name head) next token end h = let is = (Test-next h).0 in absurd cc
over_at_end rules pool (wants_head_comma name head) next token end (inl h) = let sign = h.0 in absurd cc
over_at_end rules pool (wants_head_comma name head) next token end (inr h) = let sign = (Test-next h.1).0 in absurd cc
over_at_end rules pool (wants_colon frame) next token end h = let sign = (Test-next h).0 in absurd cc
over_at_end rules pool (wants_atom frame said) next token end h = relation_at_end rules frame said next token end h
over_at_end rules pool (wants_parenthesis frame said atom) next token end h = let sign = (Test-next h).0 in absurd cc
over_at_end rules pool (wants_argument frame said atom) next token end (inl h) = let quoted = h.0 in absurd cc
over_at_end rules pool (wants_argument frame said atom) next token end (inr h) = let name = (Test-next h.1).0 in absurd cc
over_at_end rules pool (wants_comma frame said atom) next token end (inl h) = let comma = h.0 in absurd cc
over_at_end rules pool (wants_comma frame said atom) next token end (inr h) = let sign = (Test-next h.1).0 in absurd cc
over_at_end rules pool (after_atom frame said) next token end (inl h) = let comma = h.0 in absurd cc
over_at_end rules pool (after_atom frame said) next token end (inr h) = after_atom_at_end frame said next token end h.1
over_at_end rules pool (after_arrow name said) next token end (inl h) = let word = h.0.0 in absurd cc
over_at_end rules pool (after_arrow name said) next token end (inr h) =
    relation_at_end rules (head_of_tgd name said.atoms (length said.vars)) (record said { atoms = [] }) next token end h.1
over_at_end rules pool (wants_exists_variable name body n vars) next token end h = let is = (Test-next h).0 in absurd cc
over_at_end rules pool (wants_exists_comma name body n vars) next token end (inl h) = let comma = h.0 in absurd cc
over_at_end rules pool (wants_exists_comma name body n vars) next token end (inr h) = let sign = (Test-next h.1).0 in absurd cc
over_at_end rules pool (wants_left name said) next token end h = let is = (Test-next h).0 in absurd cc
over_at_end rules pool (wants_equals name said left) next token end h = let sign = (Test-next h).0 in absurd cc
over_at_end rules pool (wants_right name said left) next token end h = let is = (Test-next h).0 in absurd cc
over_at_end rules pool (wants_line_end rule) next token end h = (rule, sym (Goes-next (stated rule) next (Test-next h).1))
over_at_end rules pool (stated rule) next token end h = absurd h

module _ (bytes : List ℕ) (rules : RuleSet) (pool : List (List ℕ)) (from : ℕ) where
  -- the line states a rule
  abbrev pub States : Type 0
  States = (rule : Rule) × (to : ℕ) × IsRule bytes rules pool from rule to

  leads_over : (to : ℕ) (last : RulePosition) → IsOver last → Leads (rule_tests rules pool) bytes from begins to last → States
  leads_over to last over leads = (over.0, to, subst (Leads (rule_tests rules pool) bytes from begins to) over.1 leads)

  final_over : (last : RulePosition) → IsFinal (rule_tests rules pool) last → IsOver last
  final_over last final = ⊎_elim (λ here. absurd (rule_wants rules pool last here final)) (λ over. over) (open_or_stated last)

  by_end : Ends (rule_tests rules pool) (IsKnown pool) (rule_whole rules pool) bytes from begins
      → States ⊎ ((fault : MappingFault) × FailsRule bytes rules pool from fault)
  by_end (inl fails) = inr fails
  by_end (inr (inl (to, last, final, leads))) = inl (leads_over to last (final_over last final) leads)
  by_end (inr (inr (last, end))) =
      inl (leads_over end.finish.end last
      (over_at_end rules pool end.before last end.comes.lexeme (end.comes.says.kind ∙ end.kind) end.comes.tested)
      (finish_leads (rule_tests rules pool) bytes from begins last end))

  -- a text in quotes that stands later is in the pool
  pub all_known : KnowsTexts bytes from pool → SayGood (IsKnown pool) bytes from
  all_known known tokens to token lexeme stand has says quoted =
      known lexeme.text (
        tokens,
        to,
        token,
        stand,
        has,
        subst (λ (l : Lexeme). Says bytes token l) (λ i. record { kind = quoted i; text = lexeme.text }) says,
      )

  pub rule_or_first_fault : KnowsTexts bytes from pool → States ⊎ ((fault : MappingFault) × FailsRule bytes rules pool from fault)
  rule_or_first_fault known =
      by_end (read_to_an_end (rule_tests rules pool) (IsKnown pool) (rule_whole rules pool) bytes from begins (all_known known))
