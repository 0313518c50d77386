-- What the tokens of a line say; those of a declaration's line, up to its end, what the canonical line says.
use Rattle.std.proofs.Common.{◌≡◌, inl, inr, ℕ, ◌+◌, ◌-◌, List, [], ◌∷◌, ◌++◌, length, take, drop, codes, append_assoc, append-nil, map, refl, sym, ap, ◌∙◌, subst}
use Rattle.std.proofs.lemmas.Grind.{flat_map-append}
use Rattle.std.proofs.lemmas.List.{map-append}
use Rattle.std.specs.List.{flat_map, AllZip}
use Rattle.rule_core.specs.declared.rules.Place.{Place}
use Rattle.rule_core.specs.declared.rules.Place.TheVariants.{Source, Target}
use Rattle.rule_core.specs.declared.rules.Relation.{Relation}
use Rattle.rule_core.specs.Adding.{with_relation}
use Rattle.rule_core.specs.Mapping.{RuleSet}
use Rattle.rule_core.specs.Validity.{IsValid}
use Rattle.decl_text.specs.declared.token.Kind.{Kind}
use Rattle.decl_text.specs.declared.token.Kind.TheVariants.{Name, LeftParen, RightParen, Comma}
use Rattle.decl_text.specs.declared.token.Token.{Token}
use Rattle.decl_text.specs.Tests.{Lexeme, IsTextOf, Says, Outcome, goes, Pass}
use Rattle.decl_text.specs.Declaration.{EndsLine, with_column, DeclarationPosition, begins, wants_name, wants_parenthesis, wants_column, wants_comma, wants_line_end, declared, declaration_tests, IsDeclaration}
use Rattle.decl_text.specs.Canonical.{place_word, declaration_text}
use Rattle.decl_text.specs.Lexemes.{named, sign, joined_by, with_commas, declaration_lexemes, SayLine}
use Rattle.decl_text.proofs.PassLemmas.{Test-next, Goes-next}
use Rattle.decl_text.proofs.PrintedLemmas.{declaration_written}

-- each of these, with the lexeme behind it
abbrev pub each_then : Lexeme → List (List Lexeme) → List Lexeme
each_then between items = flat_map (λ item. item ++ between ∷ []) items

later_joined : (between : Lexeme) (items : List (List Lexeme)) (item : List Lexeme)
    → flat_map (λ later. between ∷ later) (items ++ item ∷ []) ≡ between ∷ (each_then between items ++ item)
later_joined between [] item = ap (λ l. between ∷ l) (append-nil item)
later_joined between (i ∷ items) item =
    ap (λ l. between ∷ (i ++ l)) (later_joined between items item)
    ∙ ap (λ l. between ∷ l)
    (sym (append_assoc i (between ∷ []) (each_then between items ++ item))
    ∙ sym (append_assoc (i ++ between ∷ []) (each_then between items) item))

joined_last : (between : Lexeme) (items : List (List Lexeme)) (item : List Lexeme)
    → joined_by between (items ++ item ∷ []) ≡ each_then between items ++ item
joined_last between [] item = append-nil item
joined_last between (i ∷ items) item =
    ap (λ l. i ++ l) (later_joined between items item)
    ∙ sym (append_assoc i (between ∷ []) (each_then between items ++ item))
    ∙ sym (append_assoc (i ++ between ∷ []) (each_then between items) item)

-- one more item of a list is said behind the others with what is between behind each
pub joined_more : {X : Type 0} (between : Lexeme) (say : X → List Lexeme) (xs : List X) (x : X)
    → joined_by between (map say (xs ++ x ∷ [])) ≡ each_then between (map say xs) ++ say x
joined_more between say xs x = ap (joined_by between) (map-append say xs (x ∷ [])) ∙ joined_last between (map say xs) (say x)

-- and then what is between is said behind it too
pub then_more : {X : Type 0} (between : Lexeme) (say : X → List Lexeme) (xs : List X) (x : X)
    → each_then between (map say (xs ++ x ∷ [])) ≡ joined_by between (map say (xs ++ x ∷ [])) ++ between ∷ []
then_more between say xs x =
    ap (each_then between) (map-append say xs (x ∷ []))
    ∙ flat_map-append (λ item. item ++ between ∷ []) (map say xs) (say x ∷ [])
    ∙ ap (λ l. each_then between (map say xs) ++ l) (append-nil (say x ++ between ∷ []))
    ∙ sym (append_assoc (each_then between (map say xs)) (say x) (between ∷ []))
    ∙ ap (λ l. l ++ between ∷ []) (sym (joined_more between say xs x))

-- names, with a comma behind each
abbrev pub before_next : List (List ℕ) → List Lexeme
before_next names = each_then (sign Comma) (map (λ name. named name ∷ []) names)

pub name_next : (names : List (List ℕ)) (name : List ℕ) → before_next names ++ named name ∷ [] ≡ with_commas (names ++ name ∷ [])
name_next names name = sym (joined_more (sign Comma) (λ name. named name ∷ []) names name)

pub comma_next : (names : List (List ℕ)) (name : List ℕ)
    → before_next (names ++ name ∷ []) ≡ with_commas (names ++ name ∷ []) ++ sign Comma ∷ []
comma_next names name = then_more (sign Comma) (λ name. named name ∷ []) names name

-- the line up to behind its parenthesis, and more
abbrev opened : Place → List ℕ → List Lexeme → List Lexeme
opened place name more = named (place_word place) ∷ named name ∷ sign LeftParen ∷ more

-- what the line has said where it stands so
abbrev HasSaid : DeclarationPosition → List Lexeme → Type 0
HasSaid begins said = said ≡ []
HasSaid (wants_name place) said = said ≡ named (place_word place) ∷ []
HasSaid (wants_parenthesis place name) said = said ≡ named (place_word place) ∷ named name ∷ []
HasSaid (wants_column place relation) said = said ≡ opened place relation.name (before_next relation.columns)
HasSaid (wants_comma place relation) said =
    (said ≡ opened place relation.name (with_commas relation.columns))
    × (before_next relation.columns ≡ with_commas relation.columns ++ sign Comma ∷ [])
HasSaid (wants_line_end place relation) said = said ≡ declaration_lexemes place relation
HasSaid (declared place relation) said = (end : Lexeme) × EndsLine end × (said ≡ declaration_lexemes place relation ++ end ∷ [])

pub named_is : (lexeme : Lexeme) (text : List ℕ) → lexeme.kind ≡ Name → lexeme.text ≡ text → lexeme ≡ named text
named_is lexeme text kind same = λ i. record { kind = kind i; text = same i }

pub sign_is : (kind : Kind) (lexeme : Lexeme) (spelled : List ℕ) → ((text : List ℕ) → IsTextOf kind spelled text → text ≡ [])
    → lexeme.kind ≡ kind → IsTextOf lexeme.kind spelled lexeme.text → lexeme ≡ sign kind
sign_is kind lexeme spelled none same text =
    let empty : lexeme.text ≡ [] = none lexeme.text (subst (λ k. IsTextOf k spelled lexeme.text) same text) in
    λ i. record { kind = same i; text = empty i }

pub one_more : (said before : List Lexeme) (lexeme last : Lexeme) → said ≡ before → lexeme ≡ last → said ++ lexeme ∷ [] ≡ before ++ last ∷ []
one_more said before lexeme last e f = ap (λ l. l ++ lexeme ∷ []) e ∙ ap (λ w. before ++ w ∷ []) f

-- a token that passes says what the line says next
says_next : (rules : RuleSet) (position next : DeclarationPosition) (lexeme : Lexeme) (spelled : List ℕ) (said : List Lexeme)
    → IsTextOf lexeme.kind spelled lexeme.text → declaration_tests rules position lexeme (goes next) → HasSaid position said
    → HasSaid next (said ++ lexeme ∷ [])
says_next rules begins next lexeme spelled said text (inl h) before =
    subst (λ p. HasSaid p (said ++ lexeme ∷ [])) (Goes-next (wants_name Source) next h.1)
    (one_more said [] lexeme (named (codes "source")) before (named_is lexeme (codes "source") h.0.0 h.0.1))
says_next rules begins next lexeme spelled said text (inr (other, inl h)) before =
    subst (λ p. HasSaid p (said ++ lexeme ∷ [])) (Goes-next (wants_name Target) next h.1)
    (one_more said [] lexeme (named (codes "target")) before (named_is lexeme (codes "target") h.0.0 h.0.1))
says_next rules begins next lexeme spelled said text (inr (other, inr h)) before = absurd cc
says_next rules (wants_name place) next lexeme spelled said text h before =
    let name = Test-next h in
    let further = (Test-next (Test-next name.1).1).1 in
    subst (λ p. HasSaid p (said ++ lexeme ∷ []))
    (Goes-next (wants_parenthesis place lexeme.text) next (Test-next (Test-next further).1).1)
    (one_more said (named (place_word place) ∷ []) lexeme (named lexeme.text) before (named_is lexeme lexeme.text name.0 refl))
says_next rules (wants_parenthesis place name) next lexeme spelled said text h before =
    let is = Test-next h in
    subst (λ p. HasSaid p (said ++ lexeme ∷ [])) (Goes-next (wants_column place (record { name = name; columns = [] })) next is.1)
    (one_more said (named (place_word place) ∷ named name ∷ []) lexeme (sign LeftParen) before (sign_is LeftParen lexeme spelled (λ t e. e) is.0 text))
says_next rules (wants_column place relation) next lexeme spelled said text h before =
    let name = Test-next h in
    let further = (Test-next (Test-next name.1).1).1 in
    subst (λ p. HasSaid p (said ++ lexeme ∷ []))
    (Goes-next (wants_comma place (with_column relation lexeme.text)) next (Test-next (Test-next further).1).1) (
      one_more said (opened place relation.name (before_next relation.columns)) lexeme (named lexeme.text) before
          (named_is lexeme lexeme.text name.0 refl)
          ∙ ap (opened place relation.name) (name_next relation.columns lexeme.text),
      comma_next relation.columns lexeme.text,
    )
says_next rules (wants_comma place relation) next lexeme spelled said text (inl h) before =
    subst (λ p. HasSaid p (said ++ lexeme ∷ [])) (Goes-next (wants_column place relation) next h.1)
    (one_more said (opened place relation.name (with_commas relation.columns)) lexeme (sign Comma) before.0
    (sign_is Comma lexeme spelled (λ t e. e) h.0 text) ∙ ap (opened place relation.name) (sym before.1))
says_next rules (wants_comma place relation) next lexeme spelled said text (inr h) before =
    let is = Test-next h.1 in
    subst (λ p. HasSaid p (said ++ lexeme ∷ [])) (Goes-next (wants_line_end place relation) next is.1)
    (one_more said (opened place relation.name (with_commas relation.columns)) lexeme (sign RightParen) before.0
    (sign_is RightParen lexeme spelled (λ t e. e) is.0 text))
says_next rules (wants_line_end place relation) next lexeme spelled said text h before =
    let is = Test-next h in
    subst (λ p. HasSaid p (said ++ lexeme ∷ [])) (Goes-next (declared place relation) next is.1)
    (lexeme, is.0, one_more said (declaration_lexemes place relation) lexeme lexeme before refl)
says_next rules (declared place relation) next lexeme spelled said text h before = absurd h

-- the tokens that pass say something, and with it the line has said what is due where it stands then
module _ {P : Type 0} (tests : P → Lexeme → Outcome P → Type 0) (HasSaid : P → List Lexeme → Type 0)
    (says_next : (position next : P) (lexeme : Lexeme) (spelled : List ℕ) (said : List Lexeme) → IsTextOf lexeme.kind spelled lexeme.text
    → tests position lexeme (goes next) → HasSaid position said → HasSaid next (said ++ lexeme ∷ [])) (bytes : List ℕ) where
  pub Pass-says : (from : ℕ) (position : P) (tokens : List Token) (to : ℕ) (last : P) (said : List Lexeme)
      → Pass tests bytes from position tokens to last → HasSaid position said
      → (lexemes : List Lexeme) × AllZip (Says bytes) tokens lexemes × HasSaid last (said ++ lexemes)
  Pass-says from position [] to last said pass before =
      ([], tt, subst (λ l. HasSaid last l) (sym (append-nil said)) (subst (λ p. HasSaid p said) (sym pass.1) before))
  Pass-says from position (token ∷ tokens) to last said (stands, (next, comes, more)) before =
      let spelled = take (token.end - token.start) (drop token.start bytes) in
      let text : IsTextOf comes.lexeme.kind spelled comes.lexeme.text =
      subst (λ k. IsTextOf k spelled comes.lexeme.text) (sym comes.says.kind) comes.says.text in
      let after = says_next position next comes.lexeme spelled said text comes.tested before in
      let later = Pass-says token.end next tokens to last (said ++ comes.lexeme ∷ []) more after in (
        comes.lexeme ∷ later.0,
        (comes.says, later.1),
        subst (λ l. HasSaid last l) (append_assoc said (comes.lexeme ∷ []) later.0) later.2,
      )

-- the tokens of a line that declares a relation say the declaration's words and signs
pub declaration_says : (bytes : List ℕ) (rules : RuleSet) (from : ℕ) (place : Place) (relation : Relation) (tokens : List Token) (to : ℕ)
    → Pass (declaration_tests rules) bytes from begins tokens to (declared place relation)
    → SayLine bytes tokens (declaration_lexemes place relation)
declaration_says bytes rules from place relation tokens to pass =
    let said = Pass-says (declaration_tests rules) HasSaid (says_next rules) bytes from begins tokens to (declared place relation) [] pass refl in
    (said.2.0, said.2.1, subst (λ l. AllZip (Says bytes) tokens l) said.2.2 said.1)

-- and so do those of its canonical line
pub canonical_says : (before rest : List ℕ) (rules : RuleSet) (place : Place) (relation : Relation)
    → IsValid (with_relation rules place relation) → (tokens : List Token)
    × Pass (declaration_tests rules) (before ++ (declaration_text place relation ++ rest)) (length before) begins tokens
    (length before + length (declaration_text place relation)) (declared place relation)
    × SayLine (before ++ (declaration_text place relation ++ rest)) tokens (declaration_lexemes place relation)
canonical_says before rest rules place relation valid =
    let leads : IsDeclaration (before ++ (declaration_text place relation ++ rest)) rules (length before) place relation
    (length before + length (declaration_text place relation)) = (declaration_written rules place relation valid).leads before rest tt in (
      leads.0,
      leads.1,
      declaration_says (before ++ (declaration_text place relation ++ rest)) rules (length before) place relation leads.0
          (length before + length (declaration_text place relation)) leads.1,
    )
