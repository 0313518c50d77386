-- The line that declares a relation, `source A(x, y)` or `target A(x, y)`: the tests of each of its tokens.
use Rattle.std.specs.Prelude.{◌≡◌, ◌≢◌, ◌⊎◌, ℕ, ◌+◌, ◌<◌, ◌≤◌, List, [], ◌∷◌, ◌++◌, codes, length, Contains}
use Rattle.rule_core.specs.declared.rules.Place.{Place}
use Rattle.rule_core.specs.declared.rules.Place.TheVariants.{Source, Target}
use Rattle.rule_core.specs.declared.rules.Relation.{Relation}
use Rattle.rule_core.specs.Adding.{IsNewRelationName}
use Rattle.rule_core.specs.Limits.{most_relations, most_columns, longest_name}
use Rattle.rule_core.specs.Mapping.{RuleSet}
use Rattle.decl_text.specs.declared.token.Kind.TheVariants.{Name, LeftParen, RightParen, Comma, LineEnd, Finish}
use Rattle.decl_text.specs.declared.fault.Code.{Code}
use Rattle.decl_text.specs.declared.fault.Code.TheVariants.{X5, U5, U6}
use Rattle.decl_text.specs.declared.fault.MappingFault.{MappingFault}
use Rattle.decl_text.specs.Tests.{Lexeme, Outcome, Goes, Stops, When, Test, Leads, Fails}

-- the token is this word
abbrev pub IsKeyword : Lexeme → List ℕ → Type 0
IsKeyword token word = (token.kind ≡ Name) × (token.text ≡ word)

-- a name is no longer than the longest
abbrev pub IsShort : Lexeme → Type 0
IsShort token = length token.text ≤ longest_name

-- a name is wanted: a token of another kind has the first number, and the word `exists`, which is no name, the second
abbrev pub Named : {P : Type 0} → Code → Code → Lexeme → (Outcome P → Type 0) → Outcome P → Type 0
Named wrong word token further =
    Test (token.kind ≡ Name) wrong
    (Test (token.text ≢ codes "exists") word
    (Test (IsShort token) U6
    further))

-- a line ends by a line feed, or with the text
abbrev pub EndsLine : Lexeme → Type 0
EndsLine token = (token.kind ≡ LineEnd) ⊎ (token.kind ≡ Finish)

-- there may be one more relation
abbrev pub HasRoom : RuleSet → Type 0
HasRoom rules = length rules.sources + length rules.targets < most_relations

-- the relation with one more column, as the last
abbrev pub with_column : Relation → List ℕ → Relation
with_column relation column = record relation { columns = relation.columns ++ column ∷ [] }

-- where the line stands after some of its tokens: what it wants next, with what it has said
pub data DeclarationPosition : Type 0 where
  begins : DeclarationPosition
  wants_name : Place → DeclarationPosition
  wants_parenthesis : Place → List ℕ → DeclarationPosition
  wants_column : Place → Relation → DeclarationPosition
  wants_comma : Place → Relation → DeclarationPosition
  wants_line_end : Place → Relation → DeclarationPosition
  declared : Place → Relation → DeclarationPosition

-- the tests of the next token, in their order
abbrev pub declaration_tests : RuleSet → DeclarationPosition → Lexeme → Outcome DeclarationPosition → Type 0
declaration_tests rules begins token =
    When (IsKeyword token (codes "source")) (Goes (wants_name Source))
    (When (IsKeyword token (codes "target")) (Goes (wants_name Target))
    (Stops X5))
declaration_tests rules (wants_name place) token =
    Named X5 X5 token
    (Test (IsNewRelationName rules token.text) U5
    (Test (HasRoom rules) U6
    (Goes (wants_parenthesis place token.text))))
declaration_tests rules (wants_parenthesis place name) token =
    Test (token.kind ≡ LeftParen) X5
    (Goes (wants_column place (record { name = name; columns = [] })))
declaration_tests rules (wants_column place relation) token =
    Named X5 X5 token
    (Test (¬ Contains relation.columns token.text) U5
    (Test (length relation.columns < most_columns) U6
    (Goes (wants_comma place (with_column relation token.text)))))
declaration_tests rules (wants_comma place relation) token =
    When (token.kind ≡ Comma) (Goes (wants_column place relation))
    (Test (token.kind ≡ RightParen) X5
    (Goes (wants_line_end place relation)))
declaration_tests rules (wants_line_end place relation) token =
    Test (EndsLine token) X5
    (Goes (declared place relation))
declaration_tests rules (declared place relation) token = λ outcome. ⊥

-- from the first offset up to the second, the bytes are a line that declares this relation
abbrev pub IsDeclaration : List ℕ → RuleSet → ℕ → Place → Relation → ℕ → Type 0
IsDeclaration bytes rules from place relation to = Leads (declaration_tests rules) bytes from begins to (declared place relation)

-- from this offset on, this is the first fault of the line
abbrev pub FailsDeclaration : List ℕ → RuleSet → ℕ → MappingFault → Type 0
FailsDeclaration bytes rules from fault = Fails (declaration_tests rules) bytes from begins fault
