-- The tests of a rule's line come to one outcome at most: a line is read in one way.
use Rattle.std.proofs.Common.{◌≡◌, ⊎_elim, ℕ, ◌<◌, List, [], ◌∷◌, ◌++◌, length, take, get_or, Some, All, refl, sym, ap, ◌∙◌, subst, arith}
use Rattle.std.specs.Prelude.{slice_get}
use Rattle.std.proofs.lemmas.Bool.{cases_lt}
use Rattle.std.proofs.lemmas.Option.{slice_get_within, get_or_from_slice_get, same_Some}
use Rattle.std.proofs.lemmas.List.{length-take-le, get_or-take}
use Rattle.rule_core.specs.declared.rules.Branch.{Branch}
use Rattle.rule_core.specs.declared.rules.Relation.{Relation}
use Rattle.rule_core.specs.Mapping.{RuleSet}
use Rattle.rule_core.specs.Adding.{relations_of}
use Rattle.decl_text.specs.declared.fault.MappingFault.{MappingFault}
use Rattle.decl_text.specs.Tests.{Lexeme, goes, IsDecided, IsFinal}
use Rattle.decl_text.proofs.DecidedLemmas.{AtMostOne, Goes-one, Stops-one, When-one, Test-one, Named-one}
use Rattle.decl_text.proofs.OneOutcome.{leads_once, leads_fails, fails_once}
use Rattle.rule_text.specs.declared.rule.Rule.{Rule}
use Rattle.rule_text.specs.declared.rule.Rule.TheVariants.{Query}
use Rattle.rule_text.specs.RuleLine.{Frame, body_of_tgd, head_of_tgd, body_of_egd, disjunct_of, Said, OpenAtom, side_of, nothing_said, IsFirstAt, IsFirstNamed, Located, variable_tests, relation_tests, AreColumns, Disjuncts, after_atom_tests, head_variable_tests, RulePosition, begins, wants_tgd_name, wants_egd_name, wants_query_name, wants_head_parenthesis, wants_head, wants_head_variable, wants_head_comma, wants_colon, wants_atom, wants_parenthesis, wants_argument, wants_comma, after_atom, after_arrow, wants_exists_variable, wants_exists_comma, wants_left, wants_equals, wants_right, wants_line_end, stated, rule_tests, IsRule, FailsRule}

-- no number before one that all earlier ones miss is hit
not_before : {X : Type 0} (P : X → Type 0) (xs : List X) (a b : ℕ) (x y : X) → slice_get xs a ≡ Some x → P x → slice_get xs b ≡ Some y
    → All (λ z. ¬ P z) (take b xs) → a < b → ⊥
not_before P xs a b x y there holds other before lt =
    let within = slice_get_within xs b y other in
    let here : get_or (take b xs) a x ≡ x = get_or-take b xs a x lt ∙ get_or_from_slice_get xs a x x there in
    let size : length (take b xs) ≡ b = length-take-le b xs (omega (arith, within)) in
    before a x (omega (arith, size, lt)) (subst P (sym here) holds)

-- a first number is one
first_once : {X : Type 0} (P : X → Type 0) (xs : List X) (a b : ℕ) (x y : X) → slice_get xs a ≡ Some x → P x → slice_get xs b ≡ Some y → P y
    → All (λ z. ¬ P z) (take a xs) → All (λ z. ¬ P z) (take b xs) → a ≡ b
first_once P xs a b x y there holds other meets before_a before_b =
    ⊎_elim (λ lt. absurd (not_before P xs a b x y there holds other before_b lt))
    (λ ge. ⊎_elim (λ lt. absurd (not_before P xs b a y x other meets there before_a lt)) (λ le. omega (arith, ge, le)) (cases_lt b a))
    (cases_lt a b)

pub first_at_once : (names : List (List ℕ)) (name : List ℕ) (a b : ℕ) → IsFirstAt names name a → IsFirstAt names name b → a ≡ b
first_at_once names name a b p q =
    first_once (λ n. n ≡ name) names a b name name p.there refl q.there refl p.before q.before

pub first_named_once : (relations : List Relation) (name : List ℕ) (a b : ℕ) (r s : Relation)
    → IsFirstNamed relations name a r → IsFirstNamed relations name b s → (a ≡ b) × (r ≡ s)
first_named_once relations name a b r s p q =
    let same = first_once (λ (n : Relation). n.name ≡ name) relations a b r s p.there p.named q.there q.named p.before q.before in
    (same, same_Some r s (sym p.there ∙ ap (slice_get relations) same ∙ q.there))

pub columns_once : (vars head : List (List ℕ)) (a b : List ℕ) → AreColumns vars head a → AreColumns vars head b → a ≡ b
columns_once vars [] [] [] p q = refl
columns_once vars [] [] (y ∷ ys) p q = absurd q
columns_once vars [] (x ∷ xs) b p q = absurd p
columns_once vars (h ∷ hs) [] b p q = absurd p
columns_once vars (h ∷ hs) (x ∷ xs) [] p q = absurd q
columns_once vars (h ∷ hs) (x ∷ xs) (y ∷ ys) p q =
    let one = first_at_once vars h x y p.0 q.0 in
    let more = columns_once vars hs xs ys p.1 q.1 in
    λ i. one i ∷ more i

Located-one : {names : List (List ℕ)} {name : List ℕ} {position : ℕ → RulePosition} → AtMostOne (Located names name position)
Located-one {names} {name} {position} a b p q = p.2 ∙ ap (λ n. goes (position n)) (first_at_once names name p.0 q.0 p.1 q.1) ∙ sym q.2

relation_decided : (rules : RuleSet) (frame : Frame) (said : Said) (token : Lexeme) → AtMostOne (relation_tests rules frame said token)
relation_decided rules frame said token =
    Named-one (Test-one (Test-one (Test-one (λ a b p q.
    let same = first_named_once (relations_of rules (side_of frame)) token.text p.0 q.0 p.1 q.1 p.2 q.2 in
    p.3 ∙ (λ i. goes (wants_parenthesis frame said (record { relation = same.0 i; width = length (same.1 i).columns; args = [] }))) ∙ sym q.3))))

variable_decided : (frame : Frame) (said : Said) (atom : OpenAtom) (name : List ℕ) → AtMostOne (variable_tests frame said atom name)
variable_decided (head_of_tgd tgd body body_vars) said atom name a b p q = Test-one Located-one a b p q
variable_decided (body_of_tgd tgd) said atom name a b p q = When-one Located-one (Test-one Located-one) a b p q
variable_decided (body_of_egd egd) said atom name a b p q = When-one Located-one (Test-one Located-one) a b p q
variable_decided (disjunct_of query head branches) said atom name a b p q = When-one Located-one (Test-one Located-one) a b p q

disjuncts_decided : (head : List (List ℕ)) (branches : List Branch) (said : Said) (position : List Branch → RulePosition)
    → AtMostOne (Disjuncts head branches said position)
disjuncts_decided head branches said position a b p q =
    let same = columns_once said.vars head p.0 q.0 p.1 q.1 in
    p.2 ∙ (λ i. goes (position (branches ++ (record { vars = said.vars; body = said.atoms; columns = same i }) ∷ []))) ∙ sym q.2

after_atom_decided : (frame : Frame) (said : Said) (token : Lexeme) → AtMostOne (after_atom_tests frame said token)
after_atom_decided (body_of_tgd name) said token a b p q = Test-one Goes-one a b p q
after_atom_decided (head_of_tgd name body body_vars) said token a b p q = Test-one Goes-one a b p q
after_atom_decided (body_of_egd name) said token a b p q = Test-one Goes-one a b p q
after_atom_decided (disjunct_of name head branches) said token a b p q =
    When-one (Test-one (Test-one (disjuncts_decided head branches said (λ all. wants_atom (disjunct_of name head all) nothing_said))))
    (Test-one (Test-one (disjuncts_decided head branches said
    (λ all. stated (Query (record { name = name; head = head; branches = all })))))) a b p q

head_variable_decided : (name : List ℕ) (head : List (List ℕ)) (token : Lexeme) → AtMostOne (head_variable_tests name head token)
head_variable_decided name head token a b p q = Named-one (Test-one (Test-one Goes-one)) a b p q

pub rule_decided : (rules : RuleSet) (pool : List (List ℕ)) → IsDecided (rule_tests rules pool)
rule_decided rules pool begins token a b p q = When-one Goes-one (When-one Goes-one (When-one Goes-one Stops-one)) a b p q
rule_decided rules pool wants_tgd_name token a b p q = Named-one (Test-one (Test-one Goes-one)) a b p q
rule_decided rules pool wants_egd_name token a b p q = Named-one (Test-one (Test-one Goes-one)) a b p q
rule_decided rules pool wants_query_name token a b p q = Named-one (Test-one (Test-one Goes-one)) a b p q
rule_decided rules pool (wants_head_parenthesis name) token a b p q = Test-one Goes-one a b p q
rule_decided rules pool (wants_head name) token a b p q = When-one Goes-one (head_variable_decided name [] token) a b p q
rule_decided rules pool (wants_head_variable name head) token a b p q = head_variable_decided name head token a b p q
rule_decided rules pool (wants_head_comma name head) token a b p q = When-one Goes-one (Test-one Goes-one) a b p q
rule_decided rules pool (wants_colon frame) token a b p q = Test-one Goes-one a b p q
rule_decided rules pool (wants_atom frame said) token a b p q = relation_decided rules frame said token a b p q
rule_decided rules pool (wants_parenthesis frame said atom) token a b p q = Test-one Goes-one a b p q
rule_decided rules pool (wants_argument frame said atom) token a b p q =
    When-one (Test-one Located-one) (Named-one (variable_decided frame said atom token.text)) a b p q
rule_decided rules pool (wants_comma frame said atom) token a b p q =
    When-one (Test-one Goes-one) (Test-one (Test-one Goes-one)) a b p q
rule_decided rules pool (after_atom frame said) token a b p q = When-one Goes-one (after_atom_decided frame said token) a b p q
rule_decided rules pool (after_arrow name said) token a b p q =
    When-one Goes-one (relation_decided rules (head_of_tgd name said.atoms (length said.vars)) (record said { atoms = [] }) token) a b p q
rule_decided rules pool (wants_exists_variable name body body_vars vars) token a b p q = Named-one (Test-one (Test-one Goes-one)) a b p q
rule_decided rules pool (wants_exists_comma name body body_vars vars) token a b p q = When-one Goes-one (Test-one Goes-one) a b p q
rule_decided rules pool (wants_left name said) token a b p q = Named-one (Test-one Located-one) a b p q
rule_decided rules pool (wants_equals name said left) token a b p q = Test-one Goes-one a b p q
rule_decided rules pool (wants_right name said left) token a b p q = Named-one (Test-one Located-one) a b p q
rule_decided rules pool (wants_line_end rule) token a b p q = Test-one Goes-one a b p q
rule_decided rules pool (stated rule) token a b p q = absurd p

pub stated_final : (rules : RuleSet) (pool : List (List ℕ)) (rule : Rule) → IsFinal (rule_tests rules pool) (stated rule)
stated_final rules pool rule lexeme outcome h = h

stated_same : (a b : Rule) → stated a ≡ stated b → a ≡ b
stated_same a b e = cc

module _ (bytes : List ℕ) (rules : RuleSet) (pool : List (List ℕ)) (from : ℕ) where
  pub rule_once : (a b : Rule) (to end : ℕ) → IsRule bytes rules pool from a to → IsRule bytes rules pool from b end → (a ≡ b) × (to ≡ end)
  rule_once a b to end h k =
      let same = leads_once (rule_tests rules pool) (rule_decided rules pool) bytes from begins to (stated a) end (stated b)
      (stated_final rules pool a) (stated_final rules pool b) h k in
      (stated_same a b same.1, same.0)

  pub rule_fault_once : (a b : MappingFault) → FailsRule bytes rules pool from a → FailsRule bytes rules pool from b → a ≡ b
  rule_fault_once a b f g = fails_once (rule_tests rules pool) (rule_decided rules pool) bytes from begins a b f g

  pub rule_or_fault : (rule : Rule) (to : ℕ) (fault : MappingFault)
      → IsRule bytes rules pool from rule to → ¬ (FailsRule bytes rules pool from fault)
  rule_or_fault rule to fault h f =
      leads_fails (rule_tests rules pool) (rule_decided rules pool) bytes from begins to (stated rule) fault (stated_final rules pool rule) h f
