-- What holds after each token that passes holds at the end; and what a token that passes its tests meets.
use Rattle.std.proofs.Common.{◌≡◌, ◌≢◌, ◌⊎◌, inl, inr, ℕ, ◌-◌, ◌≤◌, List, [], ◌∷◌, length, take, drop, codes, Contains, IsTrue, sym, ◌∙◌, subst}
use Rattle.std.proofs.lemmas.List.Elements.{All-cons, All-weaker}
use Rattle.rule_core.specs.Names.{IsLetter, IsNameByte, IsName}
use Rattle.decl_text.specs.declared.token.Kind.TheVariants.{Name}
use Rattle.decl_text.specs.declared.token.Token.{Token}
use Rattle.decl_text.specs.declared.fault.Code.{Code}
use Rattle.decl_text.specs.declared.fault.Code.TheVariants.{U6}
use Rattle.decl_text.specs.Tokens.{is_name_byte, IsWord, IsNextToken}
use Rattle.decl_text.specs.Tests.{Lexeme, IsTextOf, Says, Outcome, goes, Goes, Stops, Comes, Pass}
use Rattle.rule_core.proofs.ListLemmas.{Contains-nil, Contains-cons_cases}
use Rattle.decl_text.proofs.LetterLemmas.{letter, name_byte}
use Rattle.decl_text.proofs.OneOutcome.{says_once}
use Rattle.decl_text.proofs.TestLemmas.{name_is_word}

-- a name is a word
abbrev pub IsLexeme : Lexeme → Type 0
IsLexeme lexeme = lexeme.kind ≡ Name → IsWord lexeme.text

says_lexeme : (bytes : List ℕ) (from : ℕ) (token : Token) (lexeme : Lexeme) → IsNextToken bytes from token → Says bytes token lexeme
    → IsLexeme lexeme
says_lexeme bytes from token lexeme next says name =
    let kind : token.kind ≡ Name = sym says.kind ∙ name in
    let text : lexeme.text ≡ take (token.end - token.start) (drop token.start bytes) =
    subst (λ k. IsTextOf k (take (token.end - token.start) (drop token.start bytes)) lexeme.text) kind says.text in
    subst IsWord (sym text) (name_is_word bytes from token next kind)

module _ {P : Type 0} (tests : P → Lexeme → Outcome P → Type 0) (bytes : List ℕ) where
  -- what each token that passes keeps holds at the end
  pub Pass-keeps : (Holds : P → Type 0)
      → ((position next : P) (lexeme : Lexeme) → IsLexeme lexeme → tests position lexeme (goes next) → Holds position → Holds next)
      → (from : ℕ) (position : P) (tokens : List Token) (to : ℕ) (last : P)
      → Pass tests bytes from position tokens to last → Holds position → Holds last
  Pass-keeps Holds keeps from position [] to last pass holds = subst Holds (sym pass.1) holds
  Pass-keeps Holds keeps from position (t ∷ ts) to last pass holds =
      Pass-keeps Holds keeps t.end pass.1.0 ts to last pass.1.2
      (keeps position pass.1.0 pass.1.1.lexeme (says_lexeme bytes from t pass.1.1.lexeme pass.0 pass.1.1.says) pass.1.1.tested holds)

module _ {P : Type 0} where
  pub Goes-next : (position next : P) → Goes position (goes next) → position ≡ next
  Goes-next position next e = cc

  -- one test as a token passes it: the fact, and the rest of the list
  abbrev pub Passed : Type 0 → Code → P → Type 0 → Type 0
  Passed fact code next Rest = (fact × Rest) ⊎ (¬ fact × Stops code (goes next))

  pub Test-next : {fact Rest : Type 0} {code : Code} {next : P} → Passed fact code next Rest → fact × Rest
  Test-next (inl h) = h
  Test-next (inr h) = absurd cc

-- a token that passes the tests of a name is of that kind
pub Word-next : {P Rest : Type 0} {wrong word : Code} {next : P} {lexeme : Lexeme}
    → Passed (lexeme.kind ≡ Name) wrong next
    (Passed (lexeme.text ≢ codes "exists") word next (Passed (length lexeme.text ≤ 64) U6 next Rest))
    → (lexeme.kind ≡ Name) × Rest
Word-next h = ((Test-next h).0, (Test-next (Test-next (Test-next h).1).1).1)

letter_byte : (b : ℕ) → IsLetter b → IsNameByte b
letter_byte b h = inl h

-- a word that is short and no word of the format may be a name
pub word_is_name : (text : List ℕ) → IsWord text → text ≢ codes "exists" → length text ≤ 64 → IsName text
word_is_name [] word other short = absurd word
word_is_name (b ∷ bs) word other short = record {
  first = letter b word.0;
  bytes = All-cons IsNameByte b bs (letter_byte b (letter b word.0)) (All-weaker (λ c. IsTrue (is_name_byte c)) IsNameByte name_byte bs word.1);
  most = short;
  word = other;
}

-- a token that passes the tests of a name is a name
pub Named-next : {P Rest : Type 0} {wrong word : Code} {next : P} (lexeme : Lexeme) → IsLexeme lexeme
    → Passed (lexeme.kind ≡ Name) wrong next
    (Passed (lexeme.text ≢ codes "exists") word next (Passed (length lexeme.text ≤ 64) U6 next Rest))
    → IsName lexeme.text × Rest
Named-next lexeme is h =
    let one = Test-next h in
    let two = Test-next one.1 in
    let three = Test-next two.1 in
    (word_is_name lexeme.text (is one.0) two.0 three.0, three.1)

-- what each token that passes says is so
pub Pass-each : {P : Type 0} (tests : P → Lexeme → Outcome P → Type 0) (bytes : List ℕ) (Good : Lexeme → Type 0)
    → ((position next : P) (lexeme : Lexeme) → tests position lexeme (goes next) → Good lexeme)
    → (from : ℕ) (position : P) (tokens : List Token) (to : ℕ) (last : P) → Pass tests bytes from position tokens to last
    → (token : Token) (lexeme : Lexeme) → Contains tokens token → Says bytes token lexeme → Good lexeme
Pass-each tests bytes Good each from position [] to last pass token lexeme there says = absurd (Contains-nil token there)
Pass-each {P} tests bytes Good each from position (t ∷ ts) to last pass token lexeme there says =
    elim (Contains-cons_cases t token ts there) [
      | inl same ↦
          let comes : Comes tests bytes position token (goes pass.1.0) =
          subst (λ v. Comes tests bytes position v (goes pass.1.0)) same pass.1.1 in
          subst Good (says_once bytes token comes.lexeme lexeme comes.says says) (each position pass.1.0 comes.lexeme comes.tested)
      | inr later ↦ Pass-each tests bytes Good each t.end pass.1.0 ts to last pass.1.2 token lexeme later says
    ]
