-- What the tokens of a rule's line say, in their order. Relations, variables and constants are told by their numbers, as
-- in the canonical line.
use Rattle.std.specs.Prelude.{ℕ, List, [], ◌∷◌, ◌++◌, codes, map, drop}
use Rattle.rule_core.specs.declared.rules.Relation.{Relation}
use Rattle.rule_core.specs.declared.rules.Arg.{Arg}
use Rattle.rule_core.specs.declared.rules.Arg.TheVariants.{Var, Const}
use Rattle.rule_core.specs.declared.rules.Atom.{Atom}
use Rattle.rule_core.specs.declared.rules.Branch.{Branch}
use Rattle.rule_core.specs.declared.rules.Tgd.{Tgd as TgdValue}
use Rattle.rule_core.specs.declared.rules.Egd.{Egd as EgdValue}
use Rattle.rule_core.specs.declared.rules.Query.{Query as QueryValue}
use Rattle.rule_core.specs.Mapping.{RuleSet}
use Rattle.decl_text.specs.declared.token.Kind.TheVariants.{LeftParen, RightParen, Comma, Colon, Arrow, Equals, Bar}
use Rattle.decl_text.specs.Tests.{Lexeme}
use Rattle.decl_text.specs.Lexemes.{named, sign, quoted, joined_by, with_commas}
use Rattle.rule_text.specs.declared.rule.Rule.{Rule}
use Rattle.rule_text.specs.declared.rule.Rule.TheVariants.{Tgd, Egd, Query}
use Rattle.rule_text.specs.Canonical.{text_at, relation_name}

-- the word `exists`, the variables and a colon, if there are any
abbrev pub exists_lexemes : List (List ℕ) → List Lexeme
exists_lexemes [] = []
exists_lexemes (name ∷ names) = named (codes "exists") ∷ (with_commas (name ∷ names) ++ sign Colon ∷ [])

module _ (pool : List (List ℕ)) where
  -- a variable by its name, and a constant as a text in quotes
  abbrev pub argument_lexeme : List (List ℕ) → Arg → Lexeme
  argument_lexeme vars (Var v) = named (text_at vars v)
  argument_lexeme vars (Const c) = quoted (text_at pool c.0)

  -- the relation's name, and the arguments in parentheses
  abbrev pub atom_lexemes : List Relation → List (List ℕ) → Atom → List Lexeme
  atom_lexemes relations vars atom =
      named (relation_name relations atom.relation) ∷ sign LeftParen
      ∷ (joined_by (sign Comma) (map (λ arg. argument_lexeme vars arg ∷ []) atom.args) ++ sign RightParen ∷ [])

  -- atoms, with a comma between each two
  abbrev pub atoms_lexemes : List Relation → List (List ℕ) → List Atom → List Lexeme
  atoms_lexemes relations vars atoms = joined_by (sign Comma) (map (atom_lexemes relations vars) atoms)

  -- `tgd`, the name and a colon; the body and an arrow; the `exists` variables, if there are any, and the head
  abbrev pub tgd_lexemes : RuleSet → TgdValue → List Lexeme
  tgd_lexemes rules tgd =
      named (codes "tgd") ∷ named tgd.name ∷ sign Colon ∷ (atoms_lexemes rules.sources tgd.vars tgd.body
      ++ sign Arrow ∷ (exists_lexemes (drop tgd.body_vars tgd.vars) ++ atoms_lexemes rules.targets tgd.vars tgd.head))

  -- `egd`, the name and a colon; the body and an arrow; the two sides with a sign between them
  abbrev pub egd_lexemes : RuleSet → EgdValue → List Lexeme
  egd_lexemes rules egd =
      named (codes "egd") ∷ named egd.name ∷ sign Colon ∷ (atoms_lexemes rules.targets egd.vars egd.body
      ++ sign Arrow ∷ named (text_at egd.vars egd.left) ∷ sign Equals ∷ named (text_at egd.vars egd.right) ∷ [])

  -- a disjunct: its atoms
  abbrev pub branch_lexemes : List Relation → Branch → List Lexeme
  branch_lexemes relations branch = atoms_lexemes relations branch.vars branch.body

  -- `query`, the name and the head variables in parentheses; a colon; the disjuncts, with a bar between each two
  abbrev pub query_lexemes : RuleSet → QueryValue → List Lexeme
  query_lexemes rules query =
      named (codes "query") ∷ named query.name ∷ sign LeftParen ∷ (with_commas query.head
      ++ sign RightParen ∷ sign Colon ∷ joined_by (sign Bar) (map (branch_lexemes rules.targets) query.branches))

-- what the line of a rule says, up to its end
abbrev pub rule_lexemes : RuleSet → List (List ℕ) → Rule → List Lexeme
rule_lexemes rules pool (Tgd tgd) = tgd_lexemes pool rules tgd
rule_lexemes rules pool (Egd egd) = egd_lexemes pool rules egd
rule_lexemes rules pool (Query query) = query_lexemes pool rules query
