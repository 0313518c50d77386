-- Each text that isn't too long is a mapping, or has a first fault.
use Rattle.std.proofs.Common.{◌≡◌, ◌⊎◌, inl, inr, ℕ, ◌<◌, List, [], ◌∷◌, length, refl, sym, subst}
use Rattle.rule_core.specs.Mapping.{RuleSet}
use Rattle.decl_text.specs.declared.token.Token.{Token}
use Rattle.decl_text.specs.declared.fault.MappingFault.{MappingFault}
use Rattle.decl_text.specs.Tests.{Lexeme, Outcome, goes, stops, IsFinal, Pass, Finishes}
use Rattle.decl_text.specs.Declaration.{DeclarationPosition, declared, declaration_tests}
use Rattle.decl_text.specs.Declaration as declaration
use Rattle.decl_text.proofs.DeclarationLemmas as declaration_lemmas
use Rattle.decl_text.proofs.DeclarationLemmas.{declaration_wants}
use Rattle.decl_text.proofs.DeclaredLemmas as declared_lemmas
use Rattle.decl_text.proofs.SomeLemmas.{Decided, Some, is_keyword, ends_line, Goes-some, When-some}
use Rattle.decl_text.proofs.OneOutcome.{finish_says}
use Rattle.decl_text.proofs.WholeLemmas.{Wants, AreWhole, Ends, read_to_an_end}
use Rattle.rule_text.specs.declared.rule.Rule.{Rule}
use Rattle.rule_text.specs.RuleLine.{RulePosition, stated, rule_tests}
use Rattle.rule_text.specs.RuleLine as line
use Rattle.rule_text.proofs.WantedLemmas as rule_lemmas
use Rattle.rule_text.proofs.WantedLemmas.{rule_wants}
use Rattle.rule_text.proofs.OutcomeLemmas.{IsKnown, open_or_stated, all_known}
use Rattle.rule_text.proofs.OutcomeLemmas as rule_outcome
use Rattle.mapping_core.specs.Mapping.{Meaning}
use Rattle.mapping_core.specs.Reading.{MappingPosition, at_line, in_declaration, in_rule, of_declaration, of_rule, placed, Within, BeginsRule, mapping_tests, no_rules, IsPoolOf, IsMapping, IsFirstFault}
use Rattle.mapping_core.proofs.OneMapping.{the_end, line_after_end}
use Rattle.mapping_core.proofs.SortedLemmas.{some_pool}

begins_rule : (token : Lexeme) → Decided (BeginsRule token)
begins_rule token =
    elim (is_keyword token _) [
      | inl tgd ↦ inl (inl tgd)
      | inr no_tgd ↦ elim (is_keyword token _) [
        | inl egd ↦ inl (inr (inl egd))
        | inr no_egd ↦ elim (is_keyword token _) [
          | inl query ↦ inl (inr (inr query))
          | inr no_query ↦ inr (λ begins. elim begins [
            | inl tgd ↦ no_tgd tgd
            | inr other ↦ elim other [ inl egd ↦ no_egd egd | inr query ↦ no_query query ]
          ])
        ]
      ]
    ]

Within-some : {P Q : Type 0} (position_of : P → Q) {inner : Outcome P → Type 0} → Some inner → Some (Within position_of inner)
Within-some position_of some = (placed position_of some.0, (some.0, some.1, refl))

-- a token is wanted here: no line is over
abbrev IsOpen : MappingPosition → Type 0
IsOpen (at_line set) = Unit {0}
IsOpen (in_declaration set position) = declaration_lemmas.IsOpen position
IsOpen (in_rule set position) = rule_lemmas.IsOpen position

-- where the tests of a line's next token lie within those of a whole text, a token is wanted there too
wants_within : {P Q : Type 0} (line_tests : P → Lexeme → Outcome P → Type 0) (tests : Q → Lexeme → Outcome Q → Type 0) (position_of : P → Q)
    (position : P) (place : Q)
    → ((lexeme : Lexeme) (outcome : Outcome P) → line_tests position lexeme outcome → tests place lexeme (placed position_of outcome))
    → ¬ (IsFinal line_tests position) → ¬ (IsFinal tests place)
wants_within line_tests tests position_of position place step wants final =
    wants (λ lexeme outcome tested. final lexeme (placed position_of outcome) (step lexeme outcome tested))

module _ (pool : List (List ℕ)) where
  open_wants : (position : MappingPosition) → IsOpen position → ¬ (IsFinal (mapping_tests pool) position)
  open_wants (at_line set) here = λ final. final the_end (goes (at_line set)) (inl (inr refl, refl))
  open_wants (in_declaration set position) here =
      wants_within (declaration_tests set) (mapping_tests pool) (of_declaration set) position (in_declaration set position)
      (λ lexeme outcome tested. (outcome, tested, refl)) (declaration_wants set position here)
  open_wants (in_rule set position) here =
      wants_within (rule_tests set pool) (mapping_tests pool) (of_rule set) position (in_rule set position)
      (λ lexeme outcome tested. (outcome, tested, refl)) (rule_wants set pool position here)

  some_outcome : (position : MappingPosition) → IsOpen position → (token : Lexeme) → IsKnown pool token
      → Some (mapping_tests pool position token)
  some_outcome (at_line set) here token known =
      When-some (ends_line token) (λ end. Goes-some (at_line set))
      (When-some (begins_rule token)
      (λ word. Within-some (of_rule set) (rule_outcome.some_outcome set pool line.begins tt token known))
      (Within-some (of_declaration set) (declared_lemmas.some_outcome set declaration.begins tt token)))
  some_outcome (in_declaration set position) here token known =
      Within-some (of_declaration set) (declared_lemmas.some_outcome set position here token)
  some_outcome (in_rule set position) here token known =
      Within-some (of_rule set) (rule_outcome.some_outcome set pool position here token known)

  wanted : (position : MappingPosition) → IsOpen position
      → IsFinal (mapping_tests pool) position ⊎ Wants (mapping_tests pool) (IsKnown pool) position
  wanted position here = inr (open_wants position here, λ token known. some_outcome position here token known)

  declared_final : (set : RuleSet) (position : DeclarationPosition)
      → declaration_lemmas.IsOpen position ⊎ IsFinal (mapping_tests pool) (in_declaration set position)
  declared_final set (declared place relation) = inr (λ token outcome within. within.1)
  declared_final set other = inl tt

  stated_final : (set : RuleSet) (rule : Rule) → IsFinal (mapping_tests pool) (in_rule set (stated rule))
  stated_final set rule token outcome within = within.1

  whole : AreWhole (mapping_tests pool) (IsKnown pool)
  whole (at_line set) = wanted (at_line set) tt
  whole (in_declaration set position) = elim (declared_final set position) [
    | inl here ↦ wanted (in_declaration set position) here
    | inr final ↦ inl final
  ]
  whole (in_rule set position) = elim (open_or_stated position) [
    | inl here ↦ wanted (in_rule set position) here
    | inr (rule, same) ↦ inl (subst (λ p. IsFinal (mapping_tests pool) (in_rule set p)) (sym same) (stated_final set rule))
  ]

  -- after a token that passes no line is over, but the next one begins
  declaration_open : (set : RuleSet) (position : DeclarationPosition) → IsOpen (of_declaration set position)
  declaration_open set (declared place relation) = tt
  declaration_open set other = tt

  rule_open : (set : RuleSet) (position : RulePosition) → IsOpen (of_rule set position)
  rule_open set (stated rule) = tt
  rule_open set other = tt

  within_open : {P : Type 0} (position_of : P → MappingPosition) (inner : Outcome P → Type 0) (next : MappingPosition)
      → ((position : P) → IsOpen (position_of position)) → Within position_of inner (goes next) → IsOpen next
  within_open position_of inner next each (goes q, tested, same) =
      let place : position_of q ≡ next = cc in subst IsOpen place (each q)
  within_open position_of inner next each (stops code, tested, same) = absurd cc

  next_open : (position next : MappingPosition) (token : Lexeme) → mapping_tests pool position token (goes next) → IsOpen next
  next_open (at_line set) next token (inl h) = let place : at_line set ≡ next = let e = h.1 in cc in subst IsOpen place tt
  next_open (at_line set) next token (inr (more, inl h)) = within_open (of_rule set) _ next (rule_open set) h.1
  next_open (at_line set) next token (inr (more, inr h)) = within_open (of_declaration set) _ next (declaration_open set) h.1
  next_open (in_declaration set position) next token h = within_open (of_declaration set) _ next (declaration_open set) h
  next_open (in_rule set position) next token h = within_open (of_rule set) _ next (rule_open set) h

  last_open : (bytes : List ℕ) (from : ℕ) (position : MappingPosition) (tokens : List Token) (to : ℕ) (last : MappingPosition)
      → IsOpen position → Pass (mapping_tests pool) bytes from position tokens to last → IsOpen last
  last_open bytes from position [] to last here pass = subst IsOpen (sym pass.1) here
  last_open bytes from position (token ∷ tokens) to last here (stands, (next, comes, more)) =
      last_open bytes token.end next tokens to last (next_open position next comes.lexeme comes.tested) more

  module _ (bytes : List ℕ) where
    -- the text is a mapping, or has a first fault
    abbrev pub IsEither : Type 0
    IsEither = ((mapping : Meaning) × IsMapping bytes mapping) ⊎ ((fault : MappingFault) × IsFirstFault bytes fault)

    finished : IsPoolOf bytes pool → (last : MappingPosition) → (set : RuleSet) × (last ≡ at_line set)
        → Finishes (mapping_tests pool) bytes 0 (at_line no_rules) last → IsEither
    finished texts last (set, same) end = inl (
      record { rules = set; pool = pool },
      record { pool = texts; lines = subst (Finishes (mapping_tests pool) bytes 0 (at_line no_rules)) same end },
    )

    by_end : IsPoolOf bytes pool → Ends (mapping_tests pool) (IsKnown pool) whole bytes 0 (at_line no_rules) → IsEither
    by_end texts (inl (fault, fails)) = inr (fault, record { texts = pool; pool = texts; fails = fails })
    by_end texts (inr (inl (to, last, final, (tokens, pass)))) =
        absurd (open_wants last (last_open bytes 0 (at_line no_rules) tokens to last tt pass) final)
    by_end texts (inr (inr (last, end))) =
        finished texts last
        (line_after_end pool end.before last
        (subst (λ l. mapping_tests pool end.before l (goes last)) (finish_says bytes end.finish end.comes.lexeme end.kind end.comes.says)
        end.comes.tested)) end

    pub mapping_or_first_fault : IsPoolOf bytes pool → IsEither
    mapping_or_first_fault texts =
        by_end texts (read_to_an_end (mapping_tests pool) (IsKnown pool) whole bytes 0 (at_line no_rules)
        (all_known bytes no_rules pool 0 (λ text quoted. (texts.quoted text).1 quoted)))

pub either : (bytes : List ℕ) → length bytes < 4294967295
    → ((mapping : Meaning) × IsMapping bytes mapping) ⊎ ((fault : MappingFault) × IsFirstFault bytes fault)
either bytes short = let pool = some_pool bytes short in mapping_or_first_fault pool.0 bytes pool.1
