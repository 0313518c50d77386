-- A declaration that is read is valid in the mapping before it.
use Rattle.std.proofs.Common.{◌≡◌, ◌≢◌, inl, inr, ℕ, ◌≤◌, List, [], ◌∷◌, ◌++◌, length, All, Contains, refl, subst, arith}
use Rattle.std.proofs.lemmas.List.{length_push}
use Rattle.std.proofs.lemmas.List.Elements.{All-nil, All-push, Contains-get_or}
use Rattle.std.proofs.lemmas.List.Quantifiers.{all_pairs_push}
use Rattle.rule_core.specs.declared.rules.Place.{Place}
use Rattle.rule_core.specs.declared.rules.Place.TheVariants.{Source, Target}
use Rattle.rule_core.specs.declared.rules.Relation.{Relation}
use Rattle.rule_core.specs.Mapping.{RuleSet}
use Rattle.rule_core.specs.Names.{IsName}
use Rattle.rule_core.specs.Validity.{AreDistinct, IsValid}
use Rattle.rule_core.specs.Adding.{with_relation, IsNewRelationName}
use Rattle.rule_core.proofs.ValidityLemmas.{with_relation-valid}
use Rattle.decl_text.specs.declared.token.Kind.{Kind}
use Rattle.decl_text.specs.declared.token.Kind.TheVariants.{Name, Quoted}
use Rattle.decl_text.specs.declared.token.Token.{Token}
use Rattle.decl_text.specs.Tests.{Lexeme, goes, Says, Pass}
use Rattle.decl_text.specs.Declaration.{EndsLine, HasRoom, with_column, DeclarationPosition, begins, wants_name, wants_parenthesis, wants_column, wants_comma, wants_line_end, declared, declaration_tests, IsDeclaration}
use Rattle.decl_text.proofs.PassLemmas.{IsLexeme, Pass-keeps, Pass-each, Goes-next, Test-next, Named-next}

-- a text that the list doesn't have is none of its texts
pub none_is : (texts : List (List ℕ)) (text : List ℕ) → ¬ Contains texts text → All (λ other. other ≢ text) texts
none_is texts text new k d lt e = new (subst (Contains texts) e (Contains-get_or texts k d lt))

-- names with one more, which is new
pub record AreNames (names : List (List ℕ)) : Type 0 where
  pub each : All IsName names
  pub distinct : AreDistinct names

pub no_names : AreNames []
no_names = record { each = All-nil IsName; distinct = λ i j d lt within. absurd (omega (arith, within)) }

pub names_more : (names : List (List ℕ)) (name : List ℕ) → AreNames names → IsName name → ¬ Contains names name → AreNames (names ++ name ∷ [])
names_more names name h is new = record {
  each = All-push IsName names name h.each is;
  distinct = all_pairs_push (λ a b. a ≢ b) names name h.distinct (none_is names name new);
}

module _ (rules : RuleSet) where
  -- the name is one, and new, and there is room for a relation
  pub record HasNewName (name : List ℕ) : Type 0 where
    pub is : IsName name
    pub new : IsNewRelationName rules name
    pub place : HasRoom rules

  -- the columns so far
  pub record HasColumns (relation : Relation) : Type 0 where
    pub name : HasNewName relation.name
    pub columns : AreNames relation.columns
    pub most : length relation.columns ≤ 16

  abbrev Fits : DeclarationPosition → Type 0
  Fits begins = Unit {0}
  Fits (wants_name place) = Unit {0}
  Fits (wants_parenthesis place name) = HasNewName name
  Fits (wants_column place relation) = HasColumns relation
  Fits (wants_comma place relation) = HasColumns relation × (1 ≤ length relation.columns)
  Fits (wants_line_end place relation) = HasColumns relation × (1 ≤ length relation.columns)
  Fits (declared place relation) = HasColumns relation × (1 ≤ length relation.columns)

  named : (place : Place) (next : DeclarationPosition) (lexeme : Lexeme) → IsLexeme lexeme
      → declaration_tests rules (wants_name place) lexeme (goes next) → Fits next
  named place next lexeme is h =
      let name = Named-next lexeme is h in
      let new = Test-next name.1 in
      let room = Test-next new.1 in
      subst Fits (Goes-next (wants_parenthesis place lexeme.text) next room.1) (record { is = name.0; new = new.0; place = room.0 })

  opened : (place : Place) (name : List ℕ) (next : DeclarationPosition) (lexeme : Lexeme)
      → declaration_tests rules (wants_parenthesis place name) lexeme (goes next) → HasNewName name → Fits next
  opened place name next lexeme h fits =
      let sign = Test-next h in
      subst Fits (Goes-next (wants_column place (record { name = name; columns = [] })) next sign.1)
      (record { name = fits; columns = no_names; most = omega arith })

  columned : (place : Place) (relation : Relation) (next : DeclarationPosition) (lexeme : Lexeme) → IsLexeme lexeme
      → declaration_tests rules (wants_column place relation) lexeme (goes next) → HasColumns relation → Fits next
  columned place relation next lexeme is h fits =
      let name = Named-next lexeme is h in
      let new = Test-next name.1 in
      let room = Test-next new.1 in
      let size = length_push relation.columns lexeme.text in
      let fewer = room.0 in
      subst Fits (Goes-next (wants_comma place (with_column relation lexeme.text)) next room.1) (
        record {
          name = fits.name;
          columns = names_more relation.columns lexeme.text fits.columns name.0 new.0;
          most = omega (arith, size, fewer);
        },
        omega (arith, size),
      )

  comma : (place : Place) (relation : Relation) (next : DeclarationPosition) (lexeme : Lexeme)
      → declaration_tests rules (wants_comma place relation) lexeme (goes next) → Fits (wants_comma place relation) → Fits next
  comma place relation next lexeme (inl h) fits = subst Fits (Goes-next (wants_column place relation) next h.1) fits.0
  comma place relation next lexeme (inr h) fits =
      let sign = Test-next h.1 in
      subst Fits (Goes-next (wants_line_end place relation) next sign.1) fits

  begun : (next : DeclarationPosition) (lexeme : Lexeme) → declaration_tests rules begins lexeme (goes next) → Fits next
  begun next lexeme (inl h) = subst Fits (Goes-next (wants_name Source) next h.1) tt
  begun next lexeme (inr (other, inl h)) = subst Fits (Goes-next (wants_name Target) next h.1) tt
  begun next lexeme (inr (other, inr h)) = absurd cc

  ended : (place : Place) (relation : Relation) (next : DeclarationPosition) (lexeme : Lexeme)
      → declaration_tests rules (wants_line_end place relation) lexeme (goes next) → Fits (wants_line_end place relation) → Fits next
  ended place relation next lexeme h fits =
      let end = Test-next h in
      subst Fits (Goes-next (declared place relation) next end.1) fits

  step : (position next : DeclarationPosition) (lexeme : Lexeme) → IsLexeme lexeme → declaration_tests rules position lexeme (goes next)
      → Fits position → Fits next
  step begins next lexeme is h fits = begun next lexeme h
  step (wants_name place) next lexeme is h fits = named place next lexeme is h
  step (wants_parenthesis place name) next lexeme is h fits = opened place name next lexeme h fits
  step (wants_column place relation) next lexeme is h fits = columned place relation next lexeme is h fits
  step (wants_comma place relation) next lexeme is h fits = comma place relation next lexeme h fits
  step (wants_line_end place relation) next lexeme is h fits = ended place relation next lexeme h fits
  step (declared place relation) next lexeme is h fits = absurd h

pub declared_fits : (bytes : List ℕ) (rules : RuleSet) (from : ℕ) (place : Place) (relation : Relation) (to : ℕ)
    → IsValid rules → IsDeclaration bytes rules from place relation to → IsValid (with_relation rules place relation)
declared_fits bytes rules from place relation to valid line =
    let fits : HasColumns rules relation × (1 ≤ length relation.columns) =
    Pass-keeps (declaration_tests rules) bytes (Fits rules) (step rules) from begins line.0 to (declared place relation) line.1 tt in
    with_relation-valid rules place relation valid
    (record {
      valid = record {
        name = fits.0.name.is;
        some = fits.1;
        most = fits.0.most;
        columns = fits.0.columns.each;
        distinct = fits.0.columns.distinct;
      };
      room = fits.0.name.place;
      name = fits.0.name.new;
    })

-- a name is in no quotes, and no sign is
pub name_unquoted : (kind : Kind) → kind ≡ Name → kind ≢ Quoted
name_unquoted kind e f = cc

pub end_unquoted : (lexeme : Lexeme) → EndsLine lexeme → lexeme.kind ≢ Quoted
end_unquoted lexeme (inl e) f = cc
end_unquoted lexeme (inr e) f = cc

passes_unquoted : (rules : RuleSet) (position next : DeclarationPosition) (lexeme : Lexeme) → declaration_tests rules position lexeme (goes next)
    → lexeme.kind ≢ Quoted
passes_unquoted rules begins next lexeme (inl h) = name_unquoted lexeme.kind h.0.0
passes_unquoted rules begins next lexeme (inr (other, inl h)) = name_unquoted lexeme.kind h.0.0
passes_unquoted rules begins next lexeme (inr (other, inr h)) = absurd cc
passes_unquoted rules (wants_name place) next lexeme h = name_unquoted lexeme.kind (Test-next h).0
passes_unquoted rules (wants_parenthesis place name) next lexeme h = let sign = (Test-next h).0 in λ f. cc
passes_unquoted rules (wants_column place relation) next lexeme h = name_unquoted lexeme.kind (Test-next h).0
passes_unquoted rules (wants_comma place relation) next lexeme (inl h) = let sign = h.0 in λ f. cc
passes_unquoted rules (wants_comma place relation) next lexeme (inr h) = let sign = (Test-next h.1).0 in λ f. cc
passes_unquoted rules (wants_line_end place relation) next lexeme h = end_unquoted lexeme (Test-next h).0
passes_unquoted rules (declared place relation) next lexeme h = absurd h

-- a declaration has no text in quotes
pub declared_unquoted : (bytes : List ℕ) (rules : RuleSet) (from : ℕ) (place : Place) (relation : Relation) (tokens : List Token) (to : ℕ)
    → Pass (declaration_tests rules) bytes from begins tokens to (declared place relation)
    → (token : Token) (text : List ℕ) → Contains tokens token → ¬ Says bytes token (record { kind = Quoted; text = text })
declared_unquoted bytes rules from place relation tokens to pass token text there says =
    Pass-each (declaration_tests rules) bytes (λ l. l.kind ≢ Quoted) (passes_unquoted rules) from begins tokens to (declared place relation) pass
    token (record { kind = Quoted; text = text }) there says refl
