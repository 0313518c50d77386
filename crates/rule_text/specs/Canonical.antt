-- The canonical line of a rule. Relations, variables and constants are told by their numbers; one that isn't there is
-- written as an empty text.
use Rattle.std.specs.Prelude.{ℕ, List, [], ◌∷◌, codes, map, drop, slice_index_or}
use Rattle.std.specs.List.{concat}
use Rattle.rule_core.specs.declared.rules.Relation.{Relation}
use Rattle.rule_core.specs.declared.rules.Arg.{Arg}
use Rattle.rule_core.specs.declared.rules.Arg.TheVariants.{Var, Const}
use Rattle.rule_core.specs.declared.rules.Atom.{Atom}
use Rattle.rule_core.specs.declared.rules.Branch.{Branch}
use Rattle.rule_core.specs.declared.rules.Tgd.{Tgd as TgdValue}
use Rattle.rule_core.specs.declared.rules.Egd.{Egd as EgdValue}
use Rattle.rule_core.specs.declared.rules.Query.{Query as QueryValue}
use Rattle.rule_core.specs.Mapping.{RuleSet}
use Rattle.decl_text.specs.Canonical.{joined, quoted_text}
use Rattle.rule_text.specs.declared.rule.Rule.{Rule}
use Rattle.rule_text.specs.declared.rule.Rule.TheVariants.{Tgd, Egd, Query}

-- the text with this number
abbrev pub text_at : List (List ℕ) → ℕ → List ℕ
text_at texts number = slice_index_or texts number []

-- the name of the relation with this number
abbrev pub relation_name : List Relation → ℕ → List ℕ
relation_name relations number = text_at (map (λ r. r.name) relations) number

-- a list with a comma and a space between each two
abbrev pub listed : List (List ℕ) → List ℕ
listed texts = joined (codes ", ") texts

-- the `exists` variables with what stands around them, if there are any
abbrev pub exists_text : List (List ℕ) → List ℕ
exists_text [] = []
exists_text (name ∷ names) = concat (codes "exists " ∷ listed (name ∷ names) ∷ codes ": " ∷ [])

module _ (pool : List (List ℕ)) where
  -- a variable by its name, and a constant as its text in quotes
  abbrev pub argument_text : List (List ℕ) → Arg → List ℕ
  argument_text vars (Var v) = text_at vars v
  argument_text vars (Const c) = quoted_text (text_at pool c.0)

  -- an atom, as `E(n, c)`
  abbrev pub atom_text : List Relation → List (List ℕ) → Atom → List ℕ
  atom_text relations vars atom =
      concat (relation_name relations atom.relation ∷ codes "(" ∷ listed (map (argument_text vars) atom.args) ∷ codes ")" ∷ [])

  -- atoms, as `E(n, c), S(n, s)`
  abbrev pub atoms_text : List Relation → List (List ℕ) → List Atom → List ℕ
  atoms_text relations vars atoms = listed (map (atom_text relations vars) atoms)

  -- as `tgd d1: E(n, c) -> exists s: Emp(n, c, s)`
  abbrev pub tgd_text : RuleSet → TgdValue → List ℕ
  tgd_text rules tgd =
      concat (codes "tgd " ∷ tgd.name ∷ codes ": " ∷ atoms_text rules.sources tgd.vars tgd.body
      ∷ codes " -> " ∷ exists_text (drop tgd.body_vars tgd.vars) ∷ atoms_text rules.targets tgd.vars tgd.head ∷ (10 ∷ []) ∷ [])

  -- as `egd e1: Emp(n, c, s), Emp(n, c, r) -> s = r`
  abbrev pub egd_text : RuleSet → EgdValue → List ℕ
  egd_text rules egd =
      concat (codes "egd " ∷ egd.name ∷ codes ": " ∷ atoms_text rules.targets egd.vars egd.body
      ∷ codes " -> " ∷ text_at egd.vars egd.left ∷ codes " = " ∷ text_at egd.vars egd.right ∷ (10 ∷ []) ∷ [])

  -- disjuncts, as `B(x) | D(x)`
  abbrev pub branches_text : List Relation → List Branch → List ℕ
  branches_text relations branches = joined (codes " | ") (map (λ (b : Branch). atoms_text relations b.vars b.body) branches)

  -- as `query q(x): B(x) | D(x)`
  abbrev pub query_text : RuleSet → QueryValue → List ℕ
  query_text rules query =
      concat (codes "query " ∷ query.name ∷ codes "(" ∷ listed query.head ∷ codes "): "
      ∷ branches_text rules.targets query.branches ∷ (10 ∷ []) ∷ [])

-- the canonical line of a rule, with its line feed
abbrev pub rule_text : RuleSet → List (List ℕ) → Rule → List ℕ
rule_text rules pool (Tgd tgd) = tgd_text pool rules tgd
rule_text rules pool (Egd egd) = egd_text pool rules egd
rule_text rules pool (Query query) = query_text pool rules query
