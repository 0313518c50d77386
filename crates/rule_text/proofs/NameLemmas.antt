-- The tests of a name that is to be new, and of which there may be one more: of a rule, a query, an `exists` or a head variable.
use Rattle.std.proofs.Common.{inl, inr, ℕ, List, [], refl}
use Rattle.decl_text.specs.declared.token.Kind.TheVariants.{Equals}
use Rattle.decl_text.specs.declared.token.Token.{Token}
use Rattle.decl_text.specs.declared.fault.Code.{Code}
use Rattle.decl_text.specs.declared.fault.Code.TheVariants.{X9, U5, U6}
use Rattle.decl_text.specs.declared.fault.MappingFault.{MappingFault}
use Rattle.decl_text.specs.Parts.{FailsAt, IsNoName}
use Rattle.decl_text.specs.Tests.{Lexeme, Outcome, Goes, stops, Test, Leads, Fails}
use Rattle.decl_text.specs.Declaration.{Named}
use Rattle.decl_text.proofs.TestLemmas.{Leads-one, Fails-token, Fails-at}
use Rattle.decl_text.proofs.DeclarationLemmas.{Named-fails}
use Rattle.rule_text.proofs.AtomSteps.{name_of, StandsName}

module _ {P : Type 0} (tests : P → Lexeme → Outcome P → Type 0) (bytes : List ℕ) (from : ℕ) (position : P) (wrong : Code)
    (IsNew : List ℕ → Type 0) (HasRoom : Type 0) (next : List ℕ → P)
    (are : (lexeme : Lexeme) (outcome : Outcome P)
    → Named wrong X9 lexeme (Test (IsNew lexeme.text) U5 (Test HasRoom U6 (Goes (next lexeme.text)))) outcome
    → tests position lexeme outcome) where
  pub new_name_goes : (token : Token) (text : List ℕ) → StandsName bytes from token text → IsNew text → HasRoom
      → Leads tests bytes from position token.end (next text)
  new_name_goes token text name new room =
      Leads-one tests bytes from position (next text) token (name_of text) name.stands
      (are (name_of text) _ (inl (refl, inl (name.other, inl (name.short, inl (new, inl (room, refl)))))))

  pub new_name_fails : (fault : MappingFault) → FailsAt bytes from (IsNoName wrong X9) fault → Fails tests bytes from position fault
  new_name_fails fault =
      Fails-at tests bytes from position
      (λ final. final (record { kind = Equals; text = [] }) (stops wrong)
      (are (record { kind = Equals; text = [] }) (stops wrong) (inr ((λ e. cc), refl))))
      (IsNoName wrong X9) fault (λ lexeme code bad. are lexeme (stops code) (search Named-fails))

  pub new_name_old : (token : Token) (text : List ℕ) → StandsName bytes from token text → ¬ (IsNew text)
      → Fails tests bytes from position (record { code = U5; place = token.start })
  new_name_old token text name old =
      Fails-token tests bytes from position token (name_of text) U5 name.stands
      (are (name_of text) (stops U5) (inl (refl, inl (name.other, inl (name.short, inr (old, refl))))))

  pub new_name_full : (token : Token) (text : List ℕ) → StandsName bytes from token text → IsNew text → ¬ HasRoom
      → Fails tests bytes from position (record { code = U6; place = token.start })
  new_name_full token text name new full =
      Fails-token tests bytes from position token (name_of text) U6 name.stands
      (are (name_of text) (stops U6) (inl (refl, inl (name.other, inl (name.short, inl (new, inr (full, refl)))))))
