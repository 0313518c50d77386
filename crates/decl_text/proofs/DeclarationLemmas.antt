-- Each step of a declaration's line, by its tests.
use Rattle.std.proofs.Common.{◌≡◌, ◌≢◌, inl, inr, ℕ, ◌<◌, ◌≤◌, List, [], ◌∷◌, ◌++◌, length, codes, Contains, Err, refl, sym, ◌∙◌, subst, arith}
use Rattle.rule_core.specs.declared.rules.Place.{Place}
use Rattle.rule_core.specs.declared.rules.Place.TheVariants.{Source, Target}
use Rattle.rule_core.specs.declared.rules.Relation.{Relation}
use Rattle.rule_core.specs.Mapping.{RuleSet}
use Rattle.rule_core.specs.Adding.{IsNewRelationName}
use Rattle.decl_text.specs.declared.token.Kind.TheVariants.{Name, LeftParen, RightParen, Comma, Finish}
use Rattle.decl_text.specs.declared.token.Token.{Token}
use Rattle.decl_text.specs.declared.fault.Code.{Code}
use Rattle.decl_text.specs.declared.fault.Code.TheVariants.{X5, U5, U6}
use Rattle.decl_text.specs.declared.fault.MappingFault.{MappingFault}
use Rattle.decl_text.specs.declared.fault.ReadError.{ReadError}
use Rattle.decl_text.specs.declared.fault.ReadError.TheVariants as errors
use Rattle.decl_text.specs.Tests.{Lexeme, Outcome, stops, Goes, Test, IsFinal, Leads, Fails, IfFault, goes}
use Rattle.decl_text.specs.Parts.{StandsNext, IsNoName, IsOther}
use Rattle.decl_text.specs.Declaration.{Named, IsKeyword, EndsLine, HasRoom, with_column, DeclarationPosition, begins, wants_name, wants_parenthesis, wants_column, wants_comma, wants_line_end, declared, declaration_tests}
use Rattle.decl_text.proofs.TestLemmas.{Leads-one, Leads-join, Fails-token}

-- a fault that is handed on
pub IfFault-later : (e : ReadError) (P Q : MappingFault → Type 0) → ((fault : MappingFault) → P fault → Q fault)
    → IfFault {T = Unit {0}} (Err e) P → IfFault {T = Unit {0}} (Err e) Q
IfFault-later (errors.Fault fault) P Q later h = later fault h
IfFault-later errors.Memory P Q later h = tt

-- a token that is no name fails the tests of a name, whatever else is tested
pub Named-fails : {P : Type 0} (wrong word : Code) (further : Outcome P → Type 0) (lexeme : Lexeme) (code : Code)
    → IsNoName wrong word lexeme code → Named wrong word lexeme further (stops code)
Named-fails wrong word further lexeme code (inl h) = inr (h.0, λ i. stops (h.1 i))
Named-fails wrong word further lexeme code (inr (inl h)) = inl (h.0, inr (λ other. other h.1, λ i. stops (h.2 i)))
Named-fails wrong word further lexeme code (inr (inr h)) = inl (h.0, inl (h.1, inr (λ short. let long = h.2 in omega arith, λ i. stops (h.3 i))))

-- a name passes the tests of a name
pub Named-passes : {P : Type 0} (wrong word : Code) (further : Outcome P → Type 0) (text : List ℕ) (outcome : Outcome P)
    → text ≢ codes "exists" → length text ≤ 64 → further outcome
    → Named wrong word (record { kind = Name; text = text }) further outcome
Named-passes wrong word further text outcome other short more = inl (refl, inl (other, inl (short, more)))

-- the line isn't over
abbrev pub IsOpen : DeclarationPosition → Type 0
IsOpen (declared place relation) = ⊥
IsOpen other = Unit {0}

-- the end of a text
abbrev at_end : Lexeme
at_end = record { kind = Finish; text = [] }

-- where the line isn't over a token is wanted
pub declaration_wants : (set : RuleSet) (position : DeclarationPosition) → IsOpen position
    → ¬ (IsFinal (declaration_tests set) position)
declaration_wants set begins open_ final = final at_end (stops X5) (inr ((λ e. absurd cc), inr ((λ e. absurd cc), refl)))
declaration_wants set (wants_name place) open_ final = final at_end (stops X5) (inr ((λ e. cc), refl))
declaration_wants set (wants_parenthesis place name) open_ final = final at_end (stops X5) (inr ((λ e. cc), refl))
declaration_wants set (wants_column place relation) open_ final = final at_end (stops X5) (inr ((λ e. cc), refl))
declaration_wants set (wants_comma place relation) open_ final = final at_end (stops X5) (inr ((λ e. cc), inr ((λ e. cc), refl)))
declaration_wants set (wants_line_end place relation) open_ final = final at_end (goes (declared place relation)) (inl (inr refl, refl))
declaration_wants set (declared place relation) open_ final = open_

module _ (set : RuleSet) (bytes : List ℕ) where
  -- the word of a side
  pub source_goes : (from : ℕ) (token : Token) (lexeme : Lexeme) → StandsNext bytes from token lexeme
      → IsKeyword lexeme (codes "source") → Leads (declaration_tests set) bytes from begins token.end (wants_name Source)
  source_goes from token lexeme stands word =
      Leads-one (declaration_tests set) bytes from begins (wants_name Source) token lexeme stands (inl (word, refl))

  pub target_goes : (from : ℕ) (token : Token) (lexeme : Lexeme) → StandsNext bytes from token lexeme
      → ¬ (IsKeyword lexeme (codes "source")) → IsKeyword lexeme (codes "target")
      → Leads (declaration_tests set) bytes from begins token.end (wants_name Target)
  target_goes from token lexeme stands other word =
      Leads-one (declaration_tests set) bytes from begins (wants_name Target) token lexeme stands (inr (other, inl (word, refl)))

  pub side_fails : (from : ℕ) (token : Token) (lexeme : Lexeme) → StandsNext bytes from token lexeme
      → ¬ (IsKeyword lexeme (codes "source")) → ¬ (IsKeyword lexeme (codes "target"))
      → Fails (declaration_tests set) bytes from begins (record { code = X5; place = token.start })
  side_fails from token lexeme stands source target =
      Fails-token (declaration_tests set) bytes from begins token lexeme X5 stands (inr (source, inr (target, refl)))

  -- the relation's name
  pub name_goes : (from : ℕ) (place : Place) (token : Token) (text : List ℕ) → StandsNext bytes from token (record { kind = Name; text = text })
      → text ≢ codes "exists" → length text ≤ 64 → IsNewRelationName set text → HasRoom set
      → Leads (declaration_tests set) bytes from (wants_name place) token.end (wants_parenthesis place text)
  name_goes from place token text stands other short new room =
      Leads-one (declaration_tests set) bytes from (wants_name place) (wants_parenthesis place text) token
      (record { kind = Name; text = text }) stands
      (inl (refl, inl (other, inl (short, inl (new, inl (room, refl))))))

  pub name_fails : (place : Place) (lexeme : Lexeme) (code : Code) → IsNoName X5 X5 lexeme code
      → declaration_tests set (wants_name place) lexeme (stops code)
  name_fails place lexeme code bad =
      Named-fails X5 X5 (Test (IsNewRelationName set lexeme.text) U5 (Test (HasRoom set) U6 (Goes (wants_parenthesis place lexeme.text)))) lexeme code bad

  pub name_is_old : (from : ℕ) (place : Place) (token : Token) (text : List ℕ) → StandsNext bytes from token (record { kind = Name; text = text })
      → text ≢ codes "exists" → length text ≤ 64 → ¬ (IsNewRelationName set text)
      → Fails (declaration_tests set) bytes from (wants_name place) (record { code = U5; place = token.start })
  name_is_old from place token text stands other short old =
      Fails-token (declaration_tests set) bytes from (wants_name place) token (record { kind = Name; text = text }) U5 stands
      (inl (refl, inl (other, inl (short, inr (old, refl)))))

  pub no_place : (from : ℕ) (place : Place) (token : Token) (text : List ℕ) → StandsNext bytes from token (record { kind = Name; text = text })
      → text ≢ codes "exists" → length text ≤ 64 → IsNewRelationName set text → ¬ (HasRoom set)
      → Fails (declaration_tests set) bytes from (wants_name place) (record { code = U6; place = token.start })
  no_place from place token text stands other short new full =
      Fails-token (declaration_tests set) bytes from (wants_name place) token (record { kind = Name; text = text }) U6 stands
      (inl (refl, inl (other, inl (short, inl (new, inr (full, refl))))))

  -- the parenthesis
  pub parenthesis_goes : (from : ℕ) (place : Place) (name : List ℕ) (token : Token)
      → StandsNext bytes from token (record { kind = LeftParen; text = [] })
      → Leads (declaration_tests set) bytes from (wants_parenthesis place name) token.end
      (wants_column place (record { name = name; columns = [] }))
  parenthesis_goes from place name token stands =
      Leads-one (declaration_tests set) bytes from (wants_parenthesis place name) (wants_column place (record { name = name; columns = [] }))
      token (record { kind = LeftParen; text = [] }) stands (inl (refl, refl))

  -- a column
  pub column_goes : (from : ℕ) (place : Place) (relation : Relation) (token : Token) (text : List ℕ)
      → StandsNext bytes from token (record { kind = Name; text = text })
      → text ≢ codes "exists" → length text ≤ 64 → ¬ (Contains relation.columns text) → length relation.columns < 16
      → Leads (declaration_tests set) bytes from (wants_column place relation) token.end (wants_comma place (with_column relation text))
  column_goes from place relation token text stands other short new room =
      Leads-one (declaration_tests set) bytes from (wants_column place relation) (wants_comma place (with_column relation text)) token
      (record { kind = Name; text = text }) stands
      (inl (refl, inl (other, inl (short, inl (new, inl (room, refl))))))

  pub column_fails : (place : Place) (relation : Relation) (lexeme : Lexeme) (code : Code) → IsNoName X5 X5 lexeme code
      → declaration_tests set (wants_column place relation) lexeme (stops code)
  column_fails place relation lexeme code bad =
      Named-fails X5 X5 (Test (¬ (Contains relation.columns lexeme.text)) U5
      (Test (length relation.columns < 16) U6 (Goes (wants_comma place (with_column relation lexeme.text))))) lexeme code bad

  pub column_is_old : (from : ℕ) (place : Place) (relation : Relation) (token : Token) (text : List ℕ)
      → StandsNext bytes from token (record { kind = Name; text = text })
      → text ≢ codes "exists" → length text ≤ 64 → Contains relation.columns text
      → Fails (declaration_tests set) bytes from (wants_column place relation) (record { code = U5; place = token.start })
  column_is_old from place relation token text stands other short old =
      Fails-token (declaration_tests set) bytes from (wants_column place relation) token (record { kind = Name; text = text }) U5 stands
      (inl (refl, inl (other, inl (short, inr ((λ new. new old), refl)))))

  pub column_too_many : (from : ℕ) (place : Place) (relation : Relation) (token : Token) (text : List ℕ)
      → StandsNext bytes from token (record { kind = Name; text = text })
      → text ≢ codes "exists" → length text ≤ 64 → ¬ (Contains relation.columns text) → 16 ≤ length relation.columns
      → Fails (declaration_tests set) bytes from (wants_column place relation) (record { code = U6; place = token.start })
  column_too_many from place relation token text stands other short new full =
      Fails-token (declaration_tests set) bytes from (wants_column place relation) token (record { kind = Name; text = text }) U6 stands
      (inl (refl, inl (other, inl (short, inl (new, inr ((λ room. omega arith), refl))))))

  -- what follows a column
  pub comma_goes : (from : ℕ) (place : Place) (relation : Relation) (token : Token) (lexeme : Lexeme) → StandsNext bytes from token lexeme
      → token.kind ≡ Comma
      → Leads (declaration_tests set) bytes from (wants_comma place relation) token.end (wants_column place relation)
  comma_goes from place relation token lexeme stands kind =
      Leads-one (declaration_tests set) bytes from (wants_comma place relation) (wants_column place relation) token lexeme stands
      (inl (stands.says.kind ∙ kind, refl))

  pub columns_end : (from : ℕ) (place : Place) (relation : Relation) (token : Token) (lexeme : Lexeme) → StandsNext bytes from token lexeme
      → token.kind ≡ RightParen
      → Leads (declaration_tests set) bytes from (wants_comma place relation) token.end (wants_line_end place relation)
  columns_end from place relation token lexeme stands kind =
      Leads-one (declaration_tests set) bytes from (wants_comma place relation) (wants_line_end place relation) token lexeme stands
      (inr ((λ comma. absurd (comma_apart (sym kind ∙ sym stands.says.kind ∙ comma))), inl (stands.says.kind ∙ kind, refl)))
    where
      comma_apart : RightParen ≡ Comma → ⊥
      comma_apart e = cc

  pub comma_fails : (from : ℕ) (place : Place) (relation : Relation) (token : Token) (lexeme : Lexeme) → StandsNext bytes from token lexeme
      → token.kind ≢ Comma → token.kind ≢ RightParen
      → Fails (declaration_tests set) bytes from (wants_comma place relation) (record { code = X5; place = token.start })
  comma_fails from place relation token lexeme stands comma paren =
      Fails-token (declaration_tests set) bytes from (wants_comma place relation) token lexeme X5 stands
      (inr ((λ e. comma (sym stands.says.kind ∙ e)), inr ((λ e. paren (sym stands.says.kind ∙ e)), refl)))

  -- the end of the line
  pub line_ends : (from : ℕ) (place : Place) (relation : Relation) (token : Token) (lexeme : Lexeme) → StandsNext bytes from token lexeme
      → EndsLine (record { kind = token.kind; text = [] })
      → Leads (declaration_tests set) bytes from (wants_line_end place relation) token.end (declared place relation)
  line_ends from place relation token lexeme stands ends =
      Leads-one (declaration_tests set) bytes from (wants_line_end place relation) (declared place relation) token lexeme stands
      (inl (ends_as ends, refl))
    where
      ends_as : EndsLine (record { kind = token.kind; text = [] }) → EndsLine lexeme
      ends_as (inl e) = inl (stands.says.kind ∙ e)
      ends_as (inr e) = inr (stands.says.kind ∙ e)

  pub line_goes_on : (from : ℕ) (place : Place) (relation : Relation) (token : Token) (lexeme : Lexeme) → StandsNext bytes from token lexeme
      → ¬ (EndsLine (record { kind = token.kind; text = [] }))
      → Fails (declaration_tests set) bytes from (wants_line_end place relation) (record { code = X5; place = token.start })
  line_goes_on from place relation token lexeme stands more =
      Fails-token (declaration_tests set) bytes from (wants_line_end place relation) token lexeme X5 stands (inr ((λ ends. more (ends_as ends)), refl))
    where
      ends_as : EndsLine lexeme → EndsLine (record { kind = token.kind; text = [] })
      ends_as (inl e) = inl (sym stands.says.kind ∙ e)
      ends_as (inr e) = inr (sym stands.says.kind ∙ e)

  -- the columns so far and one more
  pub one_more_column : (start from at : ℕ) (place : Place) (name : List ℕ) (columns : List (List ℕ)) (column : List ℕ)
      → Leads (declaration_tests set) bytes start (wants_column place (record { name = name; columns = [] }))
      from (wants_column place (record { name = name; columns = columns }))
      → Leads (declaration_tests set) bytes from (wants_column place (record { name = name; columns = columns }))
      at (wants_comma place (record { name = name; columns = columns ++ column ∷ [] }))
      → Leads (declaration_tests set) bytes start (wants_column place (record { name = name; columns = [] }))
      at (wants_comma place (record { name = name; columns = columns ++ column ∷ [] }))
  one_more_column start from at place name columns column before more =
      Leads-join (declaration_tests set) bytes start (wants_column place (record { name = name; columns = [] }))
      from (wants_column place (record { name = name; columns = columns }))
      at (wants_comma place (record { name = name; columns = columns ++ column ∷ [] })) before more

  -- a line up to the columns
  pub up_to_parenthesis : (from after : ℕ) (place : Place) (token : Token) (name : List ℕ)
      → Leads (declaration_tests set) bytes from begins after (wants_name place)
      → Leads (declaration_tests set) bytes after (wants_name place) token.end (wants_parenthesis place name)
      → Leads (declaration_tests set) bytes from begins token.end (wants_parenthesis place name)
  up_to_parenthesis from after place token name side named =
      Leads-join (declaration_tests set) bytes from begins after (wants_name place) token.end (wants_parenthesis place name) side named

  pub up_to_columns : (from at after : ℕ) (place : Place) (name : List ℕ)
      → Leads (declaration_tests set) bytes from begins at (wants_parenthesis place name)
      → (token : Token) × (token.end ≡ after) × StandsNext bytes at token (record { kind = LeftParen; text = [] })
      → Leads (declaration_tests set) bytes from begins after (wants_column place (record { name = name; columns = [] }))
  up_to_columns from at after place name before sign =
      Leads-join (declaration_tests set) bytes from begins at (wants_parenthesis place name) after
      (wants_column place (record { name = name; columns = [] })) before
      (subst (λ n. Leads (declaration_tests set) bytes at (wants_parenthesis place name) n (wants_column place (record { name = name; columns = [] })))
      sign.1 (parenthesis_goes at place name sign.0 sign.2))

  pub parenthesis_fails : (place : Place) (name : List ℕ) (lexeme : Lexeme) (code : Code) → IsOther LeftParen X5 lexeme code
      → declaration_tests set (wants_parenthesis place name) lexeme (stops code)
  parenthesis_fails place name lexeme code other = inr (other.0, λ i. stops (other.1 i))

  pub up_to_line_end : (from at after : ℕ) (place : Place) (name : List ℕ) (columns : List (List ℕ))
      → Leads (declaration_tests set) bytes from begins at (wants_column place (record { name = name; columns = [] }))
      → Leads (declaration_tests set) bytes at (wants_column place (record { name = name; columns = [] }))
      after (wants_line_end place (record { name = name; columns = columns }))
      → Leads (declaration_tests set) bytes from begins after (wants_line_end place (record { name = name; columns = columns }))
  up_to_line_end from at after place name columns before more =
      Leads-join (declaration_tests set) bytes from begins at (wants_column place (record { name = name; columns = [] }))
      after (wants_line_end place (record { name = name; columns = columns })) before more
