-- A text has one mapping, or one first fault.
use Rattle.std.proofs.Common.{◌≡◌, ◌⊎◌, inl, inr, ℕ, List, [], refl, sym, ap, ◌∙◌, subst, rules}
use Rattle.std.specs.Ordering.{nat_cmp}
use Rattle.std.specs.Cmp.Lexicographic.{slice_cmp}
use Rattle.std.proofs.lemmas.Cmp.{nat_list_cmp_total}
use Rattle.rule_core.specs.Mapping.{RuleSet}
use Rattle.rule_core.specs.declared.rules.Place.{Place}
use Rattle.rule_core.specs.declared.rules.Relation.{Relation}
use Rattle.rule_core.proofs.ListLemmas.{same_strict_lists}
use Rattle.decl_text.specs.declared.token.Kind.TheVariants.{Name, Finish}
use Rattle.decl_text.specs.declared.fault.Code.{Code}
use Rattle.decl_text.specs.declared.fault.MappingFault.{MappingFault}
use Rattle.decl_text.specs.Tests.{Lexeme, Outcome, goes, stops, IsDecided, Rests, Finishes, Fails}
use Rattle.decl_text.specs.Declaration.{Named, DeclarationPosition, wants_name, wants_column, declared, declaration_tests}
use Rattle.decl_text.specs.Declaration as declaration
use Rattle.decl_text.proofs.DecidedLemmas.{AtMostOne, Goes-one, When-one, declaration_decided}
use Rattle.decl_text.proofs.OneOutcome.{fails_once, finishes_once, finishes_apart}
use Rattle.rule_text.specs.declared.rule.Rule.{Rule}
use Rattle.rule_text.specs.RuleLine.{Frame, body_of_tgd, head_of_tgd, body_of_egd, disjunct_of, Said, RulePosition, begins, wants_tgd_name, wants_egd_name, wants_query_name, wants_head_parenthesis, wants_head, wants_head_variable, wants_head_comma, wants_colon, wants_atom, wants_parenthesis, wants_argument, wants_comma, after_atom, after_arrow, wants_exists_variable, wants_exists_comma, wants_left, wants_equals, wants_right, wants_line_end, stated, after_atom_tests, rule_tests}
use Rattle.rule_text.specs.RuleLine as line
use Rattle.rule_text.proofs.OneOutcome.{rule_decided}
use Rattle.mapping_core.specs.Mapping.{Meaning}
use Rattle.mapping_core.specs.Reading.{MappingPosition, at_line, in_declaration, in_rule, of_declaration, of_rule, placed, Within, mapping_tests, no_rules, IsPoolOf, IsMapping, IsFirstFault}

-- the end of the text
abbrev pub the_end : Lexeme
the_end = record { kind = Finish; text = [] }

no_going_stop : {P : Type 0} (p : P) (code : Code) → goes p ≡ stops code → ⊥
no_going_stop p code e = search rules

going_same : {P : Type 0} (p q : P) → goes p ≡ goes q → p ≡ q
going_same p q e = cc

Within-one : {P Q : Type 0} {position_of : P → Q} {inner : Outcome P → Type 0} → AtMostOne inner → AtMostOne (Within position_of inner)
Within-one {P} {Q} {position_of} one a b p q = p.2 ∙ ap (placed position_of) (one p.0 q.0 p.1 q.1) ∙ sym q.2

-- the tests of a token come to one outcome
pub mapping_decided : (pool : List (List ℕ)) → IsDecided (mapping_tests pool)
mapping_decided pool (at_line set) token a b p q =
    When-one Goes-one (When-one (Within-one (rule_decided set pool line.begins token)) (Within-one (declaration_decided set declaration.begins token))) a b p q
mapping_decided pool (in_declaration set position) token a b p q = Within-one (declaration_decided set position token) a b p q
mapping_decided pool (in_rule set position) token a b p q = Within-one (rule_decided set pool position token) a b p q

-- of two ways the one whose fact holds is taken
passed_over : {F A B : Type 0} → (F × A) ⊎ (¬ F × B) → ¬ F → B
passed_over (inl h) no_fact = absurd (no_fact h.0)
passed_over (inr h) no_fact = h.1

module _ {P : Type 0} where
  not_passed : {F A : Type 0} {next : P} {code : Code} → (F × A) ⊎ (¬ F × (goes next ≡ stops code)) → ¬ F → ⊥
  not_passed {next} {code} h no_fact = no_going_stop next code (passed_over h no_fact)

  no_name_passed : {A : Type 0} {next : P} {code : Code} → ((Finish ≡ Name) × A) ⊎ (¬ (Finish ≡ Name) × (goes next ≡ stops code)) → ⊥
  no_name_passed h = not_passed h (λ e. search rules)

  passed : {F A : Type 0} {next : P} {code : Code} → (F × A) ⊎ (¬ F × (goes next ≡ stops code)) → A
  passed (inl h) = h.1
  passed {next} {code} (inr h) = absurd (no_going_stop next code h.1)

-- a declaration's line ends with the text
declaration_end : (set : RuleSet) (position next : DeclarationPosition) → declaration_tests set position the_end (goes next)
    → (place : Place) × (relation : Relation) × (next ≡ declared place relation)
declaration_end set declaration.begins next h =
    absurd (no_going_stop next _ (passed_over (passed_over h (λ e. search rules)) (λ e. search rules)))
declaration_end set (wants_name place) next h = absurd (no_name_passed h)
declaration_end set (declaration.wants_parenthesis place name) next h = absurd (not_passed h (λ e. search rules))
declaration_end set (wants_column place relation) next h = absurd (no_name_passed h)
declaration_end set (declaration.wants_comma place relation) next h =
    absurd (not_passed (passed_over h (λ e. search rules)) (λ e. search rules))
declaration_end set (declaration.wants_line_end place relation) next h =
    (place, relation, going_same next (declared place relation) (passed h))
declaration_end set (declared place relation) next h = absurd h

after_atom_end : (frame : Frame) (said : Said) (next : RulePosition) → after_atom_tests frame said the_end (goes next)
    → (rule : Rule) × (next ≡ stated rule)
after_atom_end (body_of_tgd name) said next h = absurd (not_passed h (λ e. search rules))
after_atom_end (head_of_tgd name body body_vars) said next h = (_, going_same next _ (passed h))
after_atom_end (body_of_egd name) said next h = absurd (not_passed h (λ e. search rules))
after_atom_end (disjunct_of name head branches) said next h =
    let d = passed (passed (passed_over h (λ e. search rules))) in (_, going_same next _ d.2)

-- a rule's line ends with the text
rule_end : (set : RuleSet) (pool : List (List ℕ)) (position next : RulePosition) → rule_tests set pool position the_end (goes next)
    → (rule : Rule) × (next ≡ stated rule)
rule_end set pool begins next h =
    absurd (no_going_stop next _ (passed_over (passed_over (passed_over h (λ e. search rules)) (λ e. search rules)) (λ e. search rules)))
rule_end set pool wants_tgd_name next h = absurd (no_name_passed h)
rule_end set pool wants_egd_name next h = absurd (no_name_passed h)
rule_end set pool wants_query_name next h = absurd (no_name_passed h)
rule_end set pool (wants_head_parenthesis name) next h = absurd (not_passed h (λ e. search rules))
rule_end set pool (wants_head name) next h = absurd (no_name_passed (passed_over h (λ e. search rules)))
rule_end set pool (wants_head_variable name head) next h = absurd (no_name_passed h)
rule_end set pool (wants_head_comma name head) next h = absurd (not_passed (passed_over h (λ e. search rules)) (λ e. search rules))
rule_end set pool (wants_colon frame) next h = absurd (not_passed h (λ e. search rules))
rule_end set pool (wants_atom frame said) next h = absurd (no_name_passed h)
rule_end set pool (wants_parenthesis frame said atom) next h = absurd (not_passed h (λ e. search rules))
rule_end set pool (wants_argument frame said atom) next h = absurd (no_name_passed (passed_over h (λ e. search rules)))
rule_end set pool (wants_comma frame said atom) next h = absurd (not_passed (passed_over h (λ e. search rules)) (λ e. search rules))
rule_end set pool (after_atom frame said) next h = after_atom_end frame said next (passed_over h (λ e. search rules))
rule_end set pool (after_arrow name said) next h = absurd (no_name_passed (passed_over h (λ e. search rules)))
rule_end set pool (wants_exists_variable name body body_vars vars) next h = absurd (no_name_passed h)
rule_end set pool (wants_exists_comma name body body_vars vars) next h =
    absurd (not_passed (passed_over h (λ e. search rules)) (λ e. search rules))
rule_end set pool (wants_left name said) next h = absurd (no_name_passed h)
rule_end set pool (wants_equals name said left) next h = absurd (not_passed h (λ e. search rules))
rule_end set pool (wants_right name said left) next h = absurd (no_name_passed h)
rule_end set pool (wants_line_end rule) next h = (rule, going_same next (stated rule) (passed h))
rule_end set pool (stated rule) next h = absurd h

-- where the end of the text passes, a line begins
pub line_after_end : (pool : List (List ℕ)) (position next : MappingPosition) → mapping_tests pool position the_end (goes next)
    → (set : RuleSet) × (next ≡ at_line set)
line_after_end pool (at_line set) next (inl h) = (set, going_same next (at_line set) h.1)
line_after_end pool (at_line set) next (inr h) = absurd (h.0 (inr refl))
line_after_end pool (in_declaration set position) next (goes q, h, e) =
    let end = declaration_end set position q h in
    (_, going_same next (of_declaration set q) e ∙ ap (of_declaration set) end.2)
line_after_end pool (in_declaration set position) next (stops code, h, e) = absurd (no_going_stop next code e)
line_after_end pool (in_rule set position) next (goes q, h, e) =
    let end = rule_end set pool position q h in
    (_, going_same next (of_rule set q) e ∙ ap (of_rule set) end.1)
line_after_end pool (in_rule set position) next (stops code, h, e) = absurd (no_going_stop next code e)

pub mapping_rests : (pool : List (List ℕ)) → Rests (mapping_tests pool)
mapping_rests pool position next h =
    let line = line_after_end pool position next h in
    subst (λ p. mapping_tests pool p the_end (goes p)) (sym line.1) (inl (inr refl, refl))

-- the texts in quotes are one list
pub pool_once : (bytes : List ℕ) (a b : List (List ℕ)) → IsPoolOf bytes a → IsPoolOf bytes b → a ≡ b
pool_once bytes a b p q =
    same_strict_lists (slice_cmp nat_cmp) nat_list_cmp_total a b p.ordered.order q.ordered.order
    (λ text c. (q.quoted text).1 ((p.quoted text).0 c)) (λ text c. (p.quoted text).1 ((q.quoted text).0 c))

rules_same : (a b : RuleSet) → at_line a ≡ at_line b → a ≡ b
rules_same a b e = cc

pub mapping_once : (bytes : List ℕ) (a b : Meaning) → IsMapping bytes a → IsMapping bytes b → a ≡ b
mapping_once bytes a b p q =
    let pool : b.pool ≡ a.pool = pool_once bytes b.pool a.pool q.pool p.pool in
    let lines : Finishes (mapping_tests a.pool) bytes 0 (at_line no_rules) (at_line b.rules) =
    subst (λ texts. Finishes (mapping_tests texts) bytes 0 (at_line no_rules) (at_line b.rules)) pool q.lines in
    let rules_ = rules_same a.rules b.rules (finishes_once (mapping_tests a.pool) (mapping_decided a.pool) bytes (mapping_rests a.pool) 0
    (at_line no_rules) (at_line a.rules) (at_line b.rules) p.lines lines) in
    λ i. record { rules = rules_ i; pool = sym pool i }

pub fault_once : (bytes : List ℕ) (a b : MappingFault) → IsFirstFault bytes a → IsFirstFault bytes b → a ≡ b
fault_once bytes a b p q =
    let pool : q.texts ≡ p.texts = pool_once bytes q.texts p.texts q.pool p.pool in
    fails_once (mapping_tests p.texts) (mapping_decided p.texts) bytes 0 (at_line no_rules) a b p.fails
    (subst (λ texts. Fails (mapping_tests texts) bytes 0 (at_line no_rules) b) pool q.fails)

pub mapping_or_fault : (bytes : List ℕ) (mapping : Meaning) (fault : MappingFault) → IsMapping bytes mapping → ¬ IsFirstFault bytes fault
mapping_or_fault bytes mapping fault p q =
    let pool : q.texts ≡ mapping.pool = pool_once bytes q.texts mapping.pool q.pool p.pool in
    finishes_apart (mapping_tests mapping.pool) (mapping_decided mapping.pool) bytes (mapping_rests mapping.pool) 0 (at_line no_rules)
    (at_line mapping.rules) fault p.lines (subst (λ texts. Fails (mapping_tests texts) bytes 0 (at_line no_rules) fault) pool q.fails)
