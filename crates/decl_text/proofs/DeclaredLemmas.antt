-- Each line is a declaration, or has a first fault.
use Rattle.std.proofs.Common.{◌≡◌, ◌⊎◌, inl, inr, ℕ, ◌+◌, ◌∙◌, subst, List, [], codes, ◌≢◌, length}
use Rattle.rule_core.specs.declared.rules.Place.{Place}
use Rattle.rule_core.specs.declared.rules.Place.TheVariants.{Source, Target}
use Rattle.rule_core.specs.declared.rules.Relation.{Relation}
use Rattle.rule_core.specs.Adding.{IsNewRelationName}
use Rattle.rule_core.specs.Mapping.{RuleSet}
use Rattle.decl_text.specs.declared.token.Kind.TheVariants.{LeftParen, RightParen, Comma, Finish}
use Rattle.decl_text.specs.declared.fault.Code.TheVariants.{X5}
use Rattle.decl_text.specs.declared.fault.MappingFault.{MappingFault}
use Rattle.decl_text.specs.Tests.{Lexeme, Outcome, goes, IsFinal, Leads}
use Rattle.decl_text.specs.Declaration.{with_column, DeclarationPosition, begins, wants_name, wants_parenthesis, wants_column, wants_comma, wants_line_end, declared, declaration_tests, IsDeclaration, FailsDeclaration}
use Rattle.decl_text.proofs.SomeLemmas.{Decided, Some, same_kind, same_text, both, denied, less, each, there, is_keyword, ends_line, Goes-some, Stops-some, When-some, Test-some, Named-some}
use Rattle.decl_text.proofs.DeclarationLemmas.{IsOpen, declaration_wants}
use Rattle.decl_text.proofs.DecidedLemmas.{declared_final}
use Rattle.decl_text.proofs.PassLemmas.{Test-next, Goes-next}
use Rattle.decl_text.proofs.WholeLemmas.{AreWhole, Ends, read_to_an_end, finish_leads}

new_name : (rules : RuleSet) (name : List ℕ) → Decided (IsNewRelationName rules name)
new_name rules name =
    both (each (λ (r : Relation). r.name ≢ name) (λ r. denied (same_text r.name name)) rules.sources)
    (each (λ (r : Relation). r.name ≢ name) (λ r. denied (same_text r.name name)) rules.targets)

-- the tests of each token come to some outcome
pub some_outcome : (rules : RuleSet) (position : DeclarationPosition) → IsOpen position → (lexeme : Lexeme) → Some (declaration_tests rules position lexeme)
some_outcome rules begins open_ token =
    When-some (is_keyword token (codes "source")) (λ word. Goes-some (wants_name Source))
    (When-some (is_keyword token (codes "target")) (λ word. Goes-some (wants_name Target)) (Stops-some X5))
some_outcome rules (wants_name place) open_ token =
    Named-some X5 X5 token (λ name. Test-some (new_name rules token.text)
    (λ new. Test-some (less (length rules.sources + length rules.targets) 64) (λ room. Goes-some (wants_parenthesis place token.text))))
some_outcome rules (wants_parenthesis place name) open_ token =
    Test-some (same_kind token.kind LeftParen) (λ sign. Goes-some (wants_column place (record { name = name; columns = [] })))
some_outcome rules (wants_column place relation) open_ token =
    Named-some X5 X5 token (λ name. Test-some (denied (there relation.columns token.text))
    (λ new. Test-some (less (length relation.columns) 16) (λ room. Goes-some (wants_comma place (with_column relation token.text)))))
some_outcome rules (wants_comma place relation) open_ token =
    When-some (same_kind token.kind Comma) (λ sign. Goes-some (wants_column place relation))
    (Test-some (same_kind token.kind RightParen) (λ sign. Goes-some (wants_line_end place relation)))
some_outcome rules (wants_line_end place relation) open_ token = Test-some (ends_line token) (λ end. Goes-some (declared place relation))
some_outcome rules (declared place relation) open_ token = absurd open_

-- every token is good
abbrev Any : Lexeme → Type 0
Any lexeme = Unit {0}

wanted : (rules : RuleSet) (position : DeclarationPosition) → IsOpen position → IsFinal (declaration_tests rules) position ⊎ (¬ (IsFinal (declaration_tests rules) position) × ((lexeme : Lexeme) → Any lexeme → (outcome : Outcome DeclarationPosition) × declaration_tests rules position lexeme outcome))
wanted rules position open_ = inr (declaration_wants rules position open_, λ lexeme good. some_outcome rules position open_ lexeme)

declaration_whole : (rules : RuleSet) → AreWhole (declaration_tests rules) Any
declaration_whole rules (declared place relation) = inl (declared_final rules place relation)
declaration_whole rules begins = wanted rules begins tt
declaration_whole rules (wants_name place) = wanted rules (wants_name place) tt
declaration_whole rules (wants_parenthesis place name) = wanted rules (wants_parenthesis place name) tt
declaration_whole rules (wants_column place relation) = wanted rules (wants_column place relation) tt
declaration_whole rules (wants_comma place relation) = wanted rules (wants_comma place relation) tt
declaration_whole rules (wants_line_end place relation) = wanted rules (wants_line_end place relation) tt

-- the line is over here
abbrev IsOver : DeclarationPosition → Type 0
IsOver (declared place relation) = Unit {0}
IsOver other = ⊥

-- the end of the text passes only where the line is over then
over_at_end : (rules : RuleSet) (position next : DeclarationPosition) (lexeme : Lexeme) → lexeme.kind ≡ Finish
    → declaration_tests rules position lexeme (goes next) → IsOver next
over_at_end rules begins next lexeme end (inl h) = let word = h.0.0 in absurd cc
over_at_end rules begins next lexeme end (inr (other, inl h)) = let word = h.0.0 in absurd cc
over_at_end rules begins next lexeme end (inr (other, inr h)) = absurd cc
over_at_end rules (wants_name place) next lexeme end h = let name = (Test-next h).0 in absurd cc
over_at_end rules (wants_parenthesis place name) next lexeme end h = let sign = (Test-next h).0 in absurd cc
over_at_end rules (wants_column place relation) next lexeme end h = let name = (Test-next h).0 in absurd cc
over_at_end rules (wants_comma place relation) next lexeme end (inl h) = let sign = h.0 in absurd cc
over_at_end rules (wants_comma place relation) next lexeme end (inr h) = let sign = (Test-next h.1).0 in absurd cc
over_at_end rules (wants_line_end place relation) next lexeme end h =
    subst IsOver (Goes-next (declared place relation) next (Test-next h).1) tt
over_at_end rules (declared place relation) next lexeme end h = absurd h

module _ (bytes : List ℕ) (rules : RuleSet) (from : ℕ) where
  -- the line is a declaration
  abbrev pub Declares : Type 0
  Declares = (place : Place) × (relation : Relation) × (to : ℕ) × IsDeclaration bytes rules from place relation to

  leads_over : (to : ℕ) (last : DeclarationPosition) → IsOver last → Leads (declaration_tests rules) bytes from begins to last → Declares
  leads_over to (declared place relation) over leads = (place, relation, to, leads)
  leads_over to begins over leads = absurd over
  leads_over to (wants_name place) over leads = absurd over
  leads_over to (wants_parenthesis place name) over leads = absurd over
  leads_over to (wants_column place relation) over leads = absurd over
  leads_over to (wants_comma place relation) over leads = absurd over
  leads_over to (wants_line_end place relation) over leads = absurd over

  final_over : (last : DeclarationPosition) → IsFinal (declaration_tests rules) last → IsOver last
  final_over (declared place relation) final = tt
  final_over begins final = declaration_wants rules begins tt final
  final_over (wants_name place) final = declaration_wants rules (wants_name place) tt final
  final_over (wants_parenthesis place name) final = declaration_wants rules (wants_parenthesis place name) tt final
  final_over (wants_column place relation) final = declaration_wants rules (wants_column place relation) tt final
  final_over (wants_comma place relation) final = declaration_wants rules (wants_comma place relation) tt final
  final_over (wants_line_end place relation) final = declaration_wants rules (wants_line_end place relation) tt final

  by_end : Ends (declaration_tests rules) Any (declaration_whole rules) bytes from begins
      → Declares ⊎ ((fault : MappingFault) × FailsDeclaration bytes rules from fault)
  by_end (inl fails) = inr fails
  by_end (inr (inl (to, last, final, leads))) = inl (leads_over to last (final_over last final) leads)
  by_end (inr (inr (last, end))) =
      inl (leads_over end.finish.end last (over_at_end rules end.before last end.comes.lexeme (end.comes.says.kind ∙ end.kind) end.comes.tested)
      (finish_leads (declaration_tests rules) bytes from begins last end))

  pub declaration_or_first_fault : Declares ⊎ ((fault : MappingFault) × FailsDeclaration bytes rules from fault)
  declaration_or_first_fault =
      by_end (read_to_an_end (declaration_tests rules) Any (declaration_whole rules) bytes from begins (λ tokens to token lexeme stand there says. tt))
