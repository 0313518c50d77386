-- What the tokens of a line say, in their order.
use Rattle.std.specs.Prelude.{List, ℕ, [], ◌∷◌, ◌++◌, map}
use Rattle.std.specs.List.{flat_map, AllZip}
use Rattle.rule_core.specs.declared.rules.Place.{Place}
use Rattle.rule_core.specs.declared.rules.Relation.{Relation}
use Rattle.decl_text.specs.declared.token.Kind.{Kind}
use Rattle.decl_text.specs.declared.token.Kind.TheVariants.{Name, Quoted, LeftParen, RightParen, Comma}
use Rattle.decl_text.specs.declared.token.Token.{Token}
use Rattle.decl_text.specs.Tests.{Lexeme, Says}
use Rattle.decl_text.specs.Declaration.{EndsLine}
use Rattle.decl_text.specs.Canonical.{place_word}

-- a name, or a word
abbrev pub named : List ℕ → Lexeme
named text = record { kind = Name; text = text }

-- a token of a kind that has no text
abbrev pub sign : Kind → Lexeme
sign kind = record { kind = kind; text = [] }

-- a text in quotes
abbrev pub quoted : List ℕ → Lexeme
quoted text = record { kind = Quoted; text = text }

-- what is said one after another, with the lexeme between each two
abbrev pub joined_by : Lexeme → List (List Lexeme) → List Lexeme
joined_by between [] = []
joined_by between (said ∷ more) = said ++ flat_map (λ later. between ∷ later) more

-- names, with a comma between each two
abbrev pub with_commas : List (List ℕ) → List Lexeme
with_commas names = joined_by (sign Comma) (map (λ name. named name ∷ []) names)

-- the word of the side, the relation's name, and its columns in parentheses
abbrev pub declaration_lexemes : Place → Relation → List Lexeme
declaration_lexemes place relation =
    named (place_word place) ∷ named relation.name ∷ sign LeftParen ∷ (with_commas relation.columns ++ sign RightParen ∷ [])

-- the tokens say these lexemes, one each, and then the last of them ends the line
abbrev pub SayLine : List ℕ → List Token → List Lexeme → Type 0
SayLine bytes tokens lexemes = (end : Lexeme) × EndsLine end × AllZip (Says bytes) tokens (lexemes ++ end ∷ [])
