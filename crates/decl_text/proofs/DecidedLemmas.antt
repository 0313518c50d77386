-- A list of tests comes to one outcome at most, and so do the tests of a declaration's line.
use Rattle.std.proofs.Common.{◌≡◌, inl, inr, ℕ, List, sym, ◌∙◌}
use Rattle.rule_core.specs.declared.rules.Place.{Place}
use Rattle.rule_core.specs.declared.rules.Relation.{Relation}
use Rattle.rule_core.specs.Mapping.{RuleSet}
use Rattle.decl_text.specs.declared.fault.Code.{Code}
use Rattle.decl_text.specs.declared.fault.MappingFault.{MappingFault}
use Rattle.decl_text.specs.Tests.{Lexeme, Outcome, Goes, Stops, When, Test, IsDecided, IsFinal}
use Rattle.decl_text.specs.Declaration.{Named, begins, wants_name, wants_parenthesis, wants_column, wants_comma, wants_line_end, declared, declaration_tests, IsDeclaration, FailsDeclaration}
use Rattle.decl_text.proofs.OneOutcome.{leads_once, leads_fails, fails_once}

module _ {P : Type 0} where
  -- at most one outcome fits
  abbrev pub AtMostOne : (Outcome P → Type 0) → Type 0
  AtMostOne fits = (a b : Outcome P) → fits a → fits b → a ≡ b

  pub Goes-one : {position : P} → AtMostOne (Goes position)
  Goes-one a b p q = p ∙ sym q

  pub Stops-one : {code : Code} → AtMostOne (Stops code)
  Stops-one a b p q = p ∙ sym q

  pub When-one : {fact : Type 0} {one other : Outcome P → Type 0} → AtMostOne one → AtMostOne other → AtMostOne (When fact one other)
  When-one f g a b (inl p) (inl q) = f a b p.1 q.1
  When-one f g a b (inl p) (inr q) = absurd (q.0 p.0)
  When-one f g a b (inr p) (inl q) = absurd (p.0 q.0)
  When-one f g a b (inr p) (inr q) = g a b p.1 q.1

  pub Test-one : {fact : Type 0} {code : Code} {further : Outcome P → Type 0} → AtMostOne further → AtMostOne (Test fact code further)
  Test-one f a b p q = When-one f Stops-one a b p q

  pub Named-one : {wrong word : Code} {token : Lexeme} {further : Outcome P → Type 0} → AtMostOne further
      → AtMostOne (Named wrong word token further)
  Named-one f a b p q = Test-one (Test-one (Test-one f)) a b p q

pub declaration_decided : (rules : RuleSet) → IsDecided (declaration_tests rules)
declaration_decided rules begins token a b p q = When-one Goes-one (When-one Goes-one Stops-one) a b p q
declaration_decided rules (wants_name place) token a b p q = Named-one (Test-one (Test-one Goes-one)) a b p q
declaration_decided rules (wants_parenthesis place name) token a b p q = Test-one Goes-one a b p q
declaration_decided rules (wants_column place relation) token a b p q = Named-one (Test-one (Test-one Goes-one)) a b p q
declaration_decided rules (wants_comma place relation) token a b p q = When-one Goes-one (Test-one Goes-one) a b p q
declaration_decided rules (wants_line_end place relation) token a b p q = Test-one Goes-one a b p q
declaration_decided rules (declared place relation) token a b p q = absurd p

pub declared_final : (rules : RuleSet) (place : Place) (relation : Relation) → IsFinal (declaration_tests rules) (declared place relation)
declared_final rules place relation lexeme outcome h = h

declared_same : (place other : Place) (a b : Relation) → declared place a ≡ declared other b → (place ≡ other) × (a ≡ b)
declared_same place other a b e = (cc, cc)

module _ (bytes : List ℕ) (rules : RuleSet) (from : ℕ) where
  pub declaration_once : (place other : Place) (a b : Relation) (to end : ℕ)
      → IsDeclaration bytes rules from place a to → IsDeclaration bytes rules from other b end → (place ≡ other) × (a ≡ b) × (to ≡ end)
  declaration_once place other a b to end h k =
      let same = leads_once (declaration_tests rules) (declaration_decided rules) bytes from begins to (declared place a) end (declared other b)
      (declared_final rules place a) (declared_final rules other b) h k in
      let parts = declared_same place other a b same.1 in
      (parts.0, parts.1, same.0)

  pub declaration_fault_once : (a b : MappingFault) → FailsDeclaration bytes rules from a → FailsDeclaration bytes rules from b → a ≡ b
  declaration_fault_once a b f g = fails_once (declaration_tests rules) (declaration_decided rules) bytes from begins a b f g

  pub declaration_or_fault : (place : Place) (relation : Relation) (to : ℕ) (fault : MappingFault)
      → IsDeclaration bytes rules from place relation to → ¬ (FailsDeclaration bytes rules from fault)
  declaration_or_fault place relation to fault h f =
      leads_fails (declaration_tests rules) (declaration_decided rules) bytes from begins to (declared place relation) fault
      (declared_final rules place relation) h f
