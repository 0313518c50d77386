-- Reading by tests: the tokens of a text are tested from left to right. Each token has a list of tests, which depends on
-- the tokens before it; the fault of a text is the first test that fails, at the first token that fails one.
use Rattle.std.specs.Prelude.{◌≡◌, ◌⊎◌, ℕ, ◌-◌, List, [], ◌∷◌, take, drop, Result, Ok, Err, ⊤}
use Rattle.decl_text.specs.declared.token.Kind.{Kind}
use Rattle.decl_text.specs.declared.token.Kind.TheVariants.{Name, Quoted, Finish}
use Rattle.decl_text.specs.declared.token.Token.{Token}
use Rattle.decl_text.specs.declared.fault.Code.{Code}
use Rattle.decl_text.specs.declared.fault.MappingFault.{MappingFault}
use Rattle.decl_text.specs.declared.fault.ReadError.{ReadError}
use Rattle.decl_text.specs.declared.fault.ReadError.TheVariants.{Fault, Memory}
use Rattle.decl_text.specs.Quotes.{IsQuoted}
use Rattle.decl_text.specs.Tokens.{IsNextToken, IsNextFault}

-- a token with its text: a name, or what is said in quotes; the other kinds have none
pub record Lexeme : Type 0 where
  pub kind : Kind
  pub text : List ℕ

-- the text of a token of the kind that is spelled so
abbrev pub IsTextOf : Kind → List ℕ → List ℕ → Type 0
IsTextOf Name spelled text = text ≡ spelled
IsTextOf Quoted spelled text = IsQuoted spelled text
IsTextOf other spelled text = text ≡ []

-- the token of these bytes is of this kind and has this text
pub record Says (bytes : List ℕ) (token : Token) (lexeme : Lexeme) : Type 0 where
  pub kind : lexeme.kind ≡ token.kind
  pub text : IsTextOf token.kind (take (token.end - token.start) (drop token.start bytes)) lexeme.text

-- what the tests of a token come to: the position after the token, or the number of the first test that fails
pub data Outcome (P : Type 0) : Type 0 where
  goes : P → Outcome P
  stops : Code → Outcome P

module _ {P : Type 0} where
  -- the token passes, and this is the position after it
  abbrev pub Goes : P → Outcome P → Type 0
  Goes position outcome = outcome ≡ goes position

  -- the token fails a test with this number
  abbrev pub Stops : Code → Outcome P → Type 0
  Stops code outcome = outcome ≡ stops code

  -- where the fact holds it goes on as the first says, and else as the second says
  abbrev pub When : Type 0 → (Outcome P → Type 0) → (Outcome P → Type 0) → Outcome P → Type 0
  When fact one other outcome = (fact × one outcome) ⊎ (¬ fact × other outcome)

  -- one test: where the fact doesn't hold, the token fails with this number; else the further tests follow
  abbrev pub Test : Type 0 → Code → (Outcome P → Type 0) → Outcome P → Type 0
  Test fact code further outcome = When fact further (Stops code) outcome

-- the tests of a token at each position
abbrev pub Tests : Type 0 → Type 1
Tests P = P → Lexeme → Outcome P → Type 0

module _ {P : Type 0} (tests : Tests P) where
  -- at each position, the tests of a token come to one outcome at most
  abbrev pub IsDecided : Type 0
  IsDecided = (position : P) (lexeme : Lexeme) (a b : Outcome P) → tests position lexeme a → tests position lexeme b → a ≡ b

  -- no token is tested here: the reading is over
  abbrev pub IsFinal : P → Type 0
  IsFinal position = (lexeme : Lexeme) (outcome : Outcome P) → ¬ tests position lexeme outcome

  -- where the end of the text passes, it passes again and leaves the position as it is
  abbrev pub Rests : Type 0
  Rests = (position next : P) → tests position (record { kind = Finish; text = [] }) (goes next)
      → tests next (record { kind = Finish; text = [] }) (goes next)

module _ {P : Type 0} (tests : Tests P) (bytes : List ℕ) where
  -- the token's tests come to this outcome
  pub record Comes (position : P) (token : Token) (outcome : Outcome P) : Type 0 where
    pub lexeme : Lexeme
    pub says : Says bytes token lexeme
    pub tested : tests position lexeme outcome

  -- from this offset on, these tokens stand in the bytes, each where the one before ends, up to that offset;
  -- each passes its tests, and together they lead from the one position to the other
  abbrev pub Pass : ℕ → P → List Token → ℕ → P → Type 0
  Pass from position [] to last = (to ≡ from) × (last ≡ position)
  Pass from position (token ∷ tokens) to last =
      IsNextToken bytes from token × ((next : P) × Comes position token (goes next) × Pass token.end next tokens to last)

  -- some tokens do so
  abbrev pub Leads : ℕ → P → ℕ → P → Type 0
  Leads from position to last = (tokens : List Token) × Pass from position tokens to last

  -- all tokens up to the end of the text pass, and lead from the one position to the other
  pub record Finishes (from : ℕ) (position last : P) : Type 0 where
    pub at : ℕ
    pub before : P
    pub finish : Token
    pub good : Leads from position at before
    pub next : IsNextToken bytes at finish
    pub kind : finish.kind ≡ Finish
    pub comes : Comes before finish (goes last)

  -- a token is wanted, and the next one has a fault of its own; or it fails a test
  abbrev pub FailsNext : ℕ → P → MappingFault → Type 0
  FailsNext from position fault = (¬ (IsFinal tests position) × IsNextFault bytes from fault)
      ⊎ ((token : Token) × IsNextToken bytes from token × Comes position token (stops fault.code) × (fault.place ≡ token.start))

  -- the first fault: the tokens before it pass, and the next one fails
  pub record Fails (from : ℕ) (position : P) (fault : MappingFault) : Type 0 where
    pub at : ℕ
    pub after : P
    pub good : Leads from position at after
    pub next : FailsNext at after fault

-- what holds of the fault that was answered, if one was
abbrev pub IfFault : {T : Type 0} → Result T ReadError → (MappingFault → Type 0) → Type 0
IfFault (Ok value) P = ⊤
IfFault (Err (Fault fault)) P = P fault
IfFault (Err Memory) P = ⊤
