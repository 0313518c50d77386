-- The constants of a rule, in the order in which its line says them, and their texts.
use Rattle.std.specs.Prelude.{◌≡◌, ℕ, List, [], ◌∷◌, ◌++◌, flat_map, Contains, Some, slice_get, All, IsSomeAnd, ⊤}
use Rattle.term_core.specs.declared.const_id.ConstId.{ConstId}
use Rattle.rule_core.specs.declared.rules.Arg.{Arg}
use Rattle.rule_core.specs.declared.rules.Arg.TheVariants.{Var, Const}
use Rattle.rule_core.specs.declared.rules.Atom.{Atom}
use Rattle.decl_text.specs.declared.token.Kind.TheVariants.{Quoted}
use Rattle.decl_text.specs.declared.token.Token.{Token}
use Rattle.decl_text.specs.Tests.{Says}
use Rattle.rule_text.specs.declared.rule.Rule.{Rule}
use Rattle.rule_text.specs.declared.rule.Rule.TheVariants.{Tgd, Egd, Query}

-- the constants among arguments, from left to right
abbrev pub constants_in : List Arg → List ConstId
constants_in [] = []
constants_in (Var v ∷ args) = constants_in args
constants_in (Const c ∷ args) = c ∷ constants_in args

-- the constants of atoms, from left to right, each as often as it occurs
abbrev pub constants_among : List Atom → List ConstId
constants_among atoms = flat_map (λ atom. constants_in atom.args) atoms

-- the constants of a rule: of its body and head, or of its disjuncts
abbrev pub constants_of : Rule → List ConstId
constants_of (Tgd tgd) = constants_among tgd.body ++ constants_among tgd.head
constants_of (Egd egd) = constants_among egd.body
constants_of (Query query) = flat_map (λ branch. constants_among branch.body) query.branches

-- the constant is an argument of one of the rule's atoms
abbrev pub HasConstant : Rule → ConstId → Type 0
HasConstant rule c = Contains (constants_of rule) c

-- some constant of the rule has this text in the pool
abbrev pub NeedsText : List (List ℕ) → Rule → List ℕ → Type 0
NeedsText pool rule text = (c : ConstId) × HasConstant rule c × (slice_get pool c.0 ≡ Some text)

-- the text stands in quotes among the tokens
abbrev pub IsQuotedAmong : List ℕ → List Token → List ℕ → Type 0
IsQuotedAmong bytes tokens text = (token : Token) × Contains tokens token × Says bytes token (record { kind = Quoted; text = text })

module _ (pool : List (List ℕ)) (IsSuch : List ℕ → Type 0) where
  -- a constant has a text in the pool, and it is such a text
  abbrev pub IsTextual : Arg → Type 0
  IsTextual (Var v) = ⊤
  IsTextual (Const c) = IsSomeAnd (slice_get pool c.0) IsSuch

  -- and so each constant of atoms
  abbrev pub AreTextual : List Atom → Type 0
  AreTextual atoms = All (λ atom. All IsTextual atom.args) atoms

  -- and so each constant of a rule
  abbrev pub HasTexts : Rule → Type 0
  HasTexts (Tgd tgd) = AreTextual tgd.body × AreTextual tgd.head
  HasTexts (Egd egd) = AreTextual egd.body
  HasTexts (Query query) = All (λ branch. AreTextual branch.body) query.branches
