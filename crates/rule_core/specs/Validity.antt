-- What makes the relations, rules and queries of a mapping valid: among other things, they are within the limits.
use Rattle.std.specs.Prelude.{◌≡◌, ◌≢◌, ◌↔◌, ℕ, ◌+◌, ◌<◌, ◌≤◌, List, [], ◌∷◌, length, take, flat_map, All, AllPairs, Contains, IsSomeAnd, Some, slice_get, slice_index_or, ⊤}
use Rattle.rule_core.specs.declared.rules.Arg.{Arg}
use Rattle.rule_core.specs.declared.rules.Arg.TheVariants.{Var, Const}
use Rattle.rule_core.specs.declared.rules.Atom.{Atom}
use Rattle.rule_core.specs.declared.rules.Branch.{Branch}
use Rattle.rule_core.specs.declared.rules.Egd.{Egd}
use Rattle.rule_core.specs.declared.rules.Query.{Query}
use Rattle.rule_core.specs.declared.rules.Relation.{Relation}
use Rattle.rule_core.specs.declared.rules.Tgd.{Tgd}
use Rattle.rule_core.specs.Limits.{most_relations, most_columns, most_tgds, most_egds, most_queries, most_atoms, most_variables, most_head_variables, most_disjuncts}
use Rattle.rule_core.specs.Mapping.{RuleSet, rule_names}
use Rattle.rule_core.specs.Names.{IsName}

-- no two texts of the list are equal
abbrev pub AreDistinct : List (List ℕ) → Type 0
AreDistinct texts = AllPairs (λ a b. a ≢ b) texts

-- a name, and some columns with names of their own
pub record IsRelation (relation : Relation) : Type 0 where
  pub name : IsName relation.name
  pub some : 1 ≤ length relation.columns
  pub most : length relation.columns ≤ most_columns
  pub columns : All IsName relation.columns
  pub distinct : AreDistinct relation.columns

-- the variables among arguments, from left to right
abbrev pub variables_in : List Arg → List ℕ
variables_in [] = []
variables_in (Var v ∷ args) = v ∷ variables_in args
variables_in (Const c ∷ args) = variables_in args

-- the variables of atoms, from left to right, each as often as it occurs
abbrev pub occurrences : List Atom → List ℕ
occurrences atoms = flat_map (λ atom. variables_in atom.args) atoms

-- variables are numbered by first occurrence: they are those below n, and where one stands, all smaller ones stood before
pub record AreNumbered (n : ℕ) (occurring : List ℕ) : Type 0 where
  pub same : (v : ℕ) → Contains occurring v ↔ (v < n)
  pub order : (k v w : ℕ) → slice_get occurring k ≡ Some v → w < v → Contains (take k occurring) w

-- the argument is a constant, or one of the first n variables
abbrev pub IsWithin : ℕ → Arg → Type 0
IsWithin n (Var v) = v < n
IsWithin n (Const c) = ⊤

-- the atom's relation is declared, and has as many columns as the atom has arguments
abbrev pub FitsRelation : List Relation → Atom → Type 0
FitsRelation relations atom = IsSomeAnd (slice_get relations atom.relation) (λ r. length atom.args ≡ length r.columns)

-- some atoms over these relations
pub record AreAtoms (relations : List Relation) (atoms : List Atom) : Type 0 where
  pub some : 1 ≤ length atoms
  pub most : length atoms ≤ most_atoms
  pub fit : All (FitsRelation relations) atoms

-- variables with names of their own
pub record AreVariables (vars : List (List ℕ)) : Type 0 where
  pub most : length vars ≤ most_variables
  pub names : All IsName vars
  pub distinct : AreDistinct vars

-- the body is over the source and the head over the target; `exists` variables stand behind those of the body,
-- and the head has no other variables than these
pub record IsTgd (sources targets : List Relation) (tgd : Tgd) : Type 0 where
  pub name : IsName tgd.name
  pub vars : AreVariables tgd.vars
  pub body : AreAtoms sources tgd.body
  pub head : AreAtoms targets tgd.head
  pub body_vars : AreNumbered tgd.body_vars (occurrences tgd.body)
  pub within : tgd.body_vars ≤ length tgd.vars
  pub safe : All (λ atom. All (IsWithin (length tgd.vars)) atom.args) tgd.head

-- the body is over the target, and both sides are variables of it
pub record IsEgd (targets : List Relation) (egd : Egd) : Type 0 where
  pub name : IsName egd.name
  pub vars : AreVariables egd.vars
  pub body : AreAtoms targets egd.body
  pub body_vars : AreNumbered (length egd.vars) (occurrences egd.body)
  pub left : egd.left < length egd.vars
  pub right : egd.right < length egd.vars

-- the body is over the target, and each head variable is the variable of the same name
pub record IsBranch (targets : List Relation) (head : List (List ℕ)) (branch : Branch) : Type 0 where
  pub vars : AreVariables branch.vars
  pub body : AreAtoms targets branch.body
  pub body_vars : AreNumbered (length branch.vars) (occurrences branch.body)
  pub arity : length branch.columns ≡ length head
  pub columns : (k : ℕ) → k < length head → slice_get branch.vars (slice_index_or branch.columns k 0) ≡ slice_get head k

-- head variables with names of their own, and some disjuncts
pub record IsQuery (targets : List Relation) (query : Query) : Type 0 where
  pub name : IsName query.name
  pub head : All IsName query.head
  pub head_most : length query.head ≤ most_head_variables
  pub distinct : AreDistinct query.head
  pub some : 1 ≤ length query.branches
  pub most : length query.branches ≤ most_disjuncts
  pub branches : All (IsBranch targets query.head) query.branches

-- relations of both sides, no two of one name
pub record AreRelations (sources targets : List Relation) : Type 0 where
  pub source_relations : All IsRelation sources
  pub target_relations : All IsRelation targets
  pub most : length sources + length targets ≤ most_relations
  pub source_names : AllPairs (λ a b. a.name ≢ b.name) sources
  pub target_names : AllPairs (λ a b. a.name ≢ b.name) targets
  pub sides : All (λ s. All (λ t. s.name ≢ t.name) targets) sources

-- tgds and egds, no two rules of one name
pub record AreRules (rules : RuleSet) : Type 0 where
  pub tgds : All (IsTgd rules.sources rules.targets) rules.tgds
  pub egds : All (IsEgd rules.targets) rules.egds
  pub most_tgds : length rules.tgds ≤ most_tgds
  pub most_egds : length rules.egds ≤ most_egds
  pub names : AreDistinct (rule_names rules)

-- queries, no two of one name
pub record AreQueries (targets : List Relation) (queries : List Query) : Type 0 where
  pub each : All (IsQuery targets) queries
  pub most : length queries ≤ most_queries
  pub names : AllPairs (λ a b. a.name ≢ b.name) queries

-- all that a mapping must meet
pub record IsValid (mapping : RuleSet) : Type 0 where
  pub relations : AreRelations mapping.sources mapping.targets
  pub rules : AreRules mapping
  pub queries : AreQueries mapping.targets mapping.queries
