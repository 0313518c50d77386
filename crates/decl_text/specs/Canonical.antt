-- The canonical text of a list, of a text in quotes, and of a declaration.
use Rattle.std.specs.Prelude.{ℕ, List, [], ◌∷◌, ◌++◌, codes}
use Rattle.std.specs.List.{concat, flat_map}
use Rattle.std.specs.Str.{chars}
use Rattle.rule_core.specs.declared.rules.Place.{Place}
use Rattle.rule_core.specs.declared.rules.Place.TheVariants.{Source, Target}
use Rattle.rule_core.specs.declared.rules.Relation.{Relation}
use Rattle.decl_text.specs.Quotes.{in_quotes}

-- the texts one after another, with the separator between each two
abbrev pub joined : List ℕ → List (List ℕ) → List ℕ
joined separator [] = []
joined separator (text ∷ texts) = text ++ flat_map (λ later. separator ++ later) texts

-- the text in quotes: each of its characters as it stands there
abbrev pub quoted_text : List ℕ → List ℕ
quoted_text text = 34 ∷ (flat_map in_quotes (chars text) ++ 34 ∷ [])

-- the word that begins the declaration of a relation of this side
abbrev pub place_word : Place → List ℕ
place_word Source = codes "source"
place_word Target = codes "target"

-- the line that declares a relation, as `source A(x, y)`, with its line feed
abbrev pub declaration_text : Place → Relation → List ℕ
declaration_text place relation =
    concat (place_word place ∷ codes " " ∷ relation.name ∷ codes "(" ∷ joined (codes ", ") relation.columns ∷ codes ")" ∷ (10 ∷ []) ∷ [])
