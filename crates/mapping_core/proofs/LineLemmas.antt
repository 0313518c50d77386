-- Each line of a mapping, by the tests of the whole text.
use Rattle.std.proofs.Common.{◌≡◌, ◌≢◌, ◌⊎◌, ◌↔◌, inl, inr, ℕ, List, [], ◌∷◌, ◌++◌, codes, refl, sym, ◌∙◌, subst, rules, Any, Err}
use Rattle.std.proofs.lemmas.List.Quantifiers.{Any-push}
use Rattle.std.proofs.lemmas.List.Elements.{Contains-push_cases, Contains-append_left}
use Rattle.decl_text.specs.declared.fault.Code.{Code}
use Rattle.term_core.specs.declared.const_id.ConstId.{ConstId}
use Rattle.rule_core.specs.Mapping.{RuleSet}
use Rattle.rule_core.specs.declared.rules.Place.{Place}
use Rattle.rule_core.specs.declared.rules.Place.TheVariants.{Source, Target}
use Rattle.rule_core.specs.declared.rules.Relation.{Relation}
use Rattle.rule_core.specs.Adding.{with_relation}
use Rattle.decl_text.specs.declared.token.Kind.TheVariants.{Name, LineEnd, Finish}
use Rattle.decl_text.specs.declared.token.Token.{Token}
use Rattle.decl_text.specs.declared.fault.MappingFault.{MappingFault}
use Rattle.decl_text.specs.declared.fault.ReadError.{ReadError}
use Rattle.decl_text.specs.declared.fault.ReadError.TheVariants.{Fault, Memory}
use Rattle.decl_text.specs.Tests.{Lexeme, Outcome, goes, stops, IfFault}
use Rattle.decl_text.specs.Declaration.{IsKeyword, EndsLine, DeclarationPosition, declared, declaration_tests}
use Rattle.decl_text.specs.Declaration as declaration
use Rattle.rule_text.specs.declared.rule.Rule.{Rule}
use Rattle.rule_text.specs.declared.rule.Rule.TheVariants.{Tgd, Egd, Query}
use Rattle.rule_text.specs.RuleLine.{RulePosition, stated, rule_tests}
use Rattle.rule_text.specs.RuleLine as line
use Rattle.rule_text.specs.Adding.{with_rule}
use Rattle.rule_text.specs.Constants.{HasConstant}
use Rattle.mapping_core.specs.Mapping.{AnyHasConstant}
use Rattle.mapping_core.specs.Reading.{at_line, of_declaration, of_rule, placed, mapping_tests, BeginsRule}

-- a token of a rule's line is tested as in the line
pub rule_step : (set : RuleSet) (pool : List (List ℕ)) (position : RulePosition) (lexeme : Lexeme) (outcome : Outcome RulePosition)
    → rule_tests set pool position lexeme outcome
    → mapping_tests pool (of_rule set position) lexeme (placed (of_rule set) outcome)
rule_step set pool (stated rule) lexeme outcome h = absurd h
rule_step set pool other lexeme outcome h = (outcome, h, refl)

pub declaration_step : (set : RuleSet) (pool : List (List ℕ)) (position : DeclarationPosition) (lexeme : Lexeme) (outcome : Outcome DeclarationPosition)
    → declaration_tests set position lexeme outcome
    → mapping_tests pool (of_declaration set position) lexeme (placed (of_declaration set) outcome)
declaration_step set pool (declared place relation) lexeme outcome h = absurd h
declaration_step set pool other lexeme outcome h = (outcome, h, refl)

name_ends_nothing : (lexeme : Lexeme) → lexeme.kind ≡ Name → ¬ EndsLine lexeme
name_ends_nothing lexeme name (inl e) = name_is_no_end (sym name ∙ e)
  where
    name_is_no_end : Name ≡ LineEnd → ⊥
    name_is_no_end e = search rules
name_ends_nothing lexeme name (inr e) = name_is_no_finish (sym name ∙ e)
  where
    name_is_no_finish : Name ≡ Finish → ⊥
    name_is_no_finish e = search rules

pub rule_word_is_name : (lexeme : Lexeme) → BeginsRule lexeme → lexeme.kind ≡ Name
rule_word_is_name lexeme (inl h) = h.0
rule_word_is_name lexeme (inr (inl h)) = h.0
rule_word_is_name lexeme (inr (inr h)) = h.0

-- the first token of a rule's line
pub rule_first : (set : RuleSet) (pool : List (List ℕ)) (lexeme : Lexeme) (outcome : Outcome RulePosition) → BeginsRule lexeme
    → rule_tests set pool line.begins lexeme outcome
    → mapping_tests pool (at_line set) lexeme (placed (of_rule set) outcome)
rule_first set pool lexeme outcome word h =
    inr (name_ends_nothing lexeme (rule_word_is_name lexeme word), inl (word, (outcome, h, refl)))

no_going_stop : {P : Type 0} (p : P) (code : Code) → goes p ≡ stops code → ⊥
no_going_stop p code e = search rules

pub rule_word : (set : RuleSet) (pool : List (List ℕ)) (lexeme : Lexeme) (next : RulePosition)
    → rule_tests set pool line.begins lexeme (goes next) → BeginsRule lexeme
rule_word set pool lexeme next (inl h) = inl h.0
rule_word set pool lexeme next (inr (nay, inl h)) = inr (inl h.0)
rule_word set pool lexeme next (inr (nay, inr (nor, inl h))) = inr (inr h.0)
rule_word set pool lexeme next (inr (nay, inr (nor, inr h))) = absurd (no_going_stop next _ h.1)

-- the first token of a declaration's line
pub declaration_first : (set : RuleSet) (pool : List (List ℕ)) (lexeme : Lexeme) (outcome : Outcome DeclarationPosition)
    → ¬ EndsLine lexeme → ¬ BeginsRule lexeme
    → declaration_tests set declaration.begins lexeme outcome
    → mapping_tests pool (at_line set) lexeme (placed (of_declaration set) outcome)
declaration_first set pool lexeme outcome ends word h = inr (ends, inr (word, (outcome, h, refl)))

-- `source` and `target` are no words of a rule
source_is_other : (codes "source" ≢ codes "tgd") × (codes "source" ≢ codes "egd") × (codes "source" ≢ codes "query")
source_is_other = (λ e. search rules, λ e. search rules, λ e. search rules)

target_is_other : (codes "target" ≢ codes "tgd") × (codes "target" ≢ codes "egd") × (codes "target" ≢ codes "query")
target_is_other = (λ e. search rules, λ e. search rules, λ e. search rules)

other_words : (word : List ℕ) → word ≢ codes "tgd" → word ≢ codes "egd" → word ≢ codes "query" → (lexeme : Lexeme) → IsKeyword lexeme word
    → ¬ BeginsRule lexeme
other_words word a b c lexeme is (inl h) = a (sym is.1 ∙ h.1)
other_words word a b c lexeme is (inr (inl h)) = b (sym is.1 ∙ h.1)
other_words word a b c lexeme is (inr (inr h)) = c (sym is.1 ∙ h.1)

pub declaration_word : (set : RuleSet) (lexeme : Lexeme) (next : DeclarationPosition)
    → declaration_tests set declaration.begins lexeme (goes next) → ¬ EndsLine lexeme × ¬ BeginsRule lexeme
declaration_word set lexeme next (inl h) =
    (name_ends_nothing lexeme h.0.0, other_words (codes "source") (λ e. absurd (source_is_other.0 e)) (λ e. absurd (source_is_other.1 e)) (λ e. absurd (source_is_other.2 e)) lexeme h.0)
declaration_word set lexeme next (inr (nay, inl h)) =
    (name_ends_nothing lexeme h.0.0, other_words (codes "target") (λ e. absurd (target_is_other.0 e)) (λ e. absurd (target_is_other.1 e)) (λ e. absurd (target_is_other.2 e)) lexeme h.0)
declaration_word set lexeme next (inr (nay, inr h)) = absurd (no_going_stop next _ h.1)

Any-push_cases : {X : Type 0} (P : X → Type 0) (xs : List X) (y : X) → Any P (xs ++ y ∷ []) → Any P xs ⊎ P y
Any-push_cases P xs y (k, x, within, at, holds) = elim (Contains-push_cases xs y x (k, within, at)) [
  | inl c ↦ inl (c.0, x, c.1, c.2, holds)
  | inr e ↦ inr (subst P (sym e) holds)
]

Any-push_left : {X : Type 0} (P : X → Type 0) (xs : List X) (y : X) → Any P xs → Any P (xs ++ y ∷ [])
Any-push_left P xs y (k, x, within, at, holds) =
    let c = Contains-append_left xs (y ∷ []) x (k, within, at) in (c.0, x, c.1, c.2, holds)

-- a constant of a mapping with one more rule is one of the mapping, or of the rule
pub more_constants : (set : RuleSet) (rule : Rule) (constant : ConstId)
    → AnyHasConstant (with_rule set rule) constant ↔ (AnyHasConstant set constant ⊎ HasConstant rule constant)
more_constants set (Tgd tgd) constant = (
  λ h. elim h [
    | inl a ↦ elim (Any-push_cases (λ t. HasConstant (Tgd t) constant) set.tgds tgd a) [ inl old ↦ inl (inl old) | inr new ↦ inr new ]
    | inr b ↦ inl (inr b)
  ],
  λ h. elim h [
    | inl a ↦ elim a [ inl old ↦ inl (Any-push_left (λ t. HasConstant (Tgd t) constant) set.tgds tgd old) | inr b ↦ inr b ]
    | inr new ↦ inl (Any-push (λ t. HasConstant (Tgd t) constant) set.tgds tgd new)
  ],
)
more_constants set (Egd egd) constant = (
  λ h. elim h [
    | inl a ↦ inl (inl a)
    | inr b ↦ elim b [
      | inl c ↦ elim (Any-push_cases (λ e. HasConstant (Egd e) constant) set.egds egd c) [ inl old ↦ inl (inr (inl old)) | inr new ↦ inr new ]
      | inr d ↦ inl (inr (inr d))
    ]
  ],
  λ h. elim h [
    | inl a ↦ elim a [
      | inl b ↦ inl b
      | inr c ↦ elim c [ inl old ↦ inr (inl (Any-push_left (λ e. HasConstant (Egd e) constant) set.egds egd old)) | inr d ↦ inr (inr d) ]
    ]
    | inr new ↦ inr (inl (Any-push (λ e. HasConstant (Egd e) constant) set.egds egd new))
  ],
)
more_constants set (Query query) constant = (
  λ h. elim h [
    | inl a ↦ inl (inl a)
    | inr b ↦ elim b [
      | inl c ↦ inl (inr (inl c))
      | inr d ↦ elim (Any-push_cases (λ q. HasConstant (Query q) constant) set.queries query d) [ inl old ↦ inl (inr (inr old)) | inr new ↦ inr new ]
    ]
  ],
  λ h. elim h [
    | inl a ↦ elim a [
      | inl b ↦ inl b
      | inr c ↦ elim c [ inl d ↦ inr (inl d) | inr old ↦ inr (inr (Any-push_left (λ q. HasConstant (Query q) constant) set.queries query old)) ]
    ]
    | inr new ↦ inr (inr (Any-push (λ q. HasConstant (Query q) constant) set.queries query new))
  ],
)

pub same_constants : (set : RuleSet) (place : Place) (relation : Relation) (constant : ConstId)
    → AnyHasConstant (with_relation set place relation) constant ↔ AnyHasConstant set constant
same_constants set Source relation constant = (λ h. h, λ h. h)
same_constants set Target relation constant = (λ h. h, λ h. h)

-- a token of another kind doesn't end a line
pub other_kind_goes_on : (token : Token) (lexeme : Lexeme) → lexeme.kind ≡ token.kind → token.kind ≢ LineEnd → token.kind ≢ Finish → ¬ EndsLine lexeme
other_kind_goes_on token lexeme same line_end finish (inl e) = line_end (sym same ∙ e)
other_kind_goes_on token lexeme same line_end finish (inr e) = finish (sym same ∙ e)

-- a fault that was answered below, as it is answered here
pub fault_onward : (error : ReadError) (P Q : MappingFault → Type 0) → ((fault : MappingFault) → P fault → Q fault)
    → IfFault {T = Unit {0}} (Err error) P → IfFault {T = Unit {0}} (Err error) Q
fault_onward (Fault fault) P Q on h = on fault h
fault_onward Memory P Q on h = tt
