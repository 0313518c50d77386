-- Each constant of a mapping has a short text in the pool, and so have the constants of each rule.
use Rattle.std.proofs.Common.{inl, inr, ℕ, ◌<◌, List, [], ◌∷◌, length, flat_map, All, Contains, IsSomeAnd, sym, subst}
use Rattle.std.specs.Prelude.{slice_get, ⊤}
use Rattle.std.proofs.lemmas.Option.{slice_get-get_or}
use Rattle.std.proofs.lemmas.List.Elements.{All-get_or, All-nil, All-cons, All-weaker, All-contains_itself, Contains-append_left, Contains-append_right}
use Rattle.term_core.specs.declared.const_id.ConstId.{ConstId}
use Rattle.rule_core.specs.declared.rules.Arg.{Arg}
use Rattle.rule_core.specs.declared.rules.Arg.TheVariants.{Var, Const}
use Rattle.rule_core.specs.declared.rules.Atom.{Atom}
use Rattle.rule_core.specs.declared.rules.Branch.{Branch}
use Rattle.rule_core.specs.Mapping.{RuleSet}
use Rattle.rule_core.proofs.ListLemmas.{Contains-head, Contains-cons}
use Rattle.rule_text.specs.declared.rule.Rule.{Rule}
use Rattle.rule_text.specs.declared.rule.Rule.TheVariants.{Tgd, Egd, Query}
use Rattle.rule_text.specs.Constants.{constants_in, constants_among, HasConstant, IsTextual, AreTextual, HasTexts}
use Rattle.mapping_core.specs.Mapping.{AnyHasConstant, HasItsConstants}

module _ (pool : List (List ℕ)) (IsSuch : List ℕ → Type 0) where
  -- the constant has such a text
  abbrev Has : ConstId → Type 0
  Has constant = IsSomeAnd (slice_get pool constant.0) IsSuch

  args_textual : (args : List Arg) → ((c : ConstId) → Contains (constants_in args) c → Has c) → All (IsTextual pool IsSuch) args
  args_textual [] each = All-nil (IsTextual pool IsSuch)
  args_textual (Var v ∷ args) each = All-cons (IsTextual pool IsSuch) (Var v) args tt (args_textual args each)
  args_textual (Const c ∷ args) each =
      All-cons (IsTextual pool IsSuch) (Const c) args (each c (Contains-head c (constants_in args)))
      (args_textual args (λ d m. each d (Contains-cons c d (constants_in args) m)))

  atoms_textual : (atoms : List Atom) → ((c : ConstId) → Contains (constants_among atoms) c → Has c) → AreTextual pool IsSuch atoms
  atoms_textual [] each = All-nil (λ (atom : Atom). All (IsTextual pool IsSuch) atom.args)
  atoms_textual (atom ∷ atoms) each =
      All-cons (λ (atom : Atom). All (IsTextual pool IsSuch) atom.args) atom atoms
      (args_textual atom.args (λ c m. each c (Contains-append_left (constants_in atom.args) (constants_among atoms) c m)))
      (atoms_textual atoms (λ c m. each c (Contains-append_right (constants_in atom.args) (constants_among atoms) c m)))

  branches_textual : (branches : List Branch)
      → ((c : ConstId) → Contains (flat_map (λ (b : Branch). constants_among b.body) branches) c → Has c)
      → All (λ (branch : Branch). AreTextual pool IsSuch branch.body) branches
  branches_textual [] each = All-nil (λ (branch : Branch). AreTextual pool IsSuch branch.body)
  branches_textual (branch ∷ branches) each =
      All-cons (λ (branch : Branch). AreTextual pool IsSuch branch.body) branch branches
      (atoms_textual branch.body (λ c m. each c (Contains-append_left (constants_among branch.body) _ c m)))
      (branches_textual branches (λ c m. each c (Contains-append_right (constants_among branch.body) _ c m)))

  -- where each constant of a rule has such a text
  pub rule_textual : (rule : Rule) → ((c : ConstId) → HasConstant rule c → Has c) → HasTexts pool IsSuch rule
  rule_textual (Tgd tgd) each = (
    atoms_textual tgd.body (λ c m. each c (Contains-append_left (constants_among tgd.body) (constants_among tgd.head) c m)),
    atoms_textual tgd.head (λ c m. each c (Contains-append_right (constants_among tgd.body) (constants_among tgd.head) c m)),
  )
  rule_textual (Egd egd) each = atoms_textual egd.body each
  rule_textual (Query query) each = branches_textual query.branches each

  -- a number of the pool has a text of the pool
  pub text_there : (constant : ConstId) → All IsSuch pool → constant.0 < length pool → Has constant
  text_there constant all within =
      subst (λ o. IsSomeAnd o IsSuch) (sym (slice_get-get_or pool constant.0 [] within)) (All-get_or IsSuch pool constant.0 [] within all)

module _ (set : RuleSet) (pool : List (List ℕ)) (constants : HasItsConstants set pool) where
  -- each constant of a rule of the mapping has a text
  with_texts : (rule : Rule) → ((c : ConstId) → HasConstant rule c → AnyHasConstant set c) → HasTexts pool (λ text. ⊤) rule
  with_texts rule among =
      rule_textual pool (λ text. ⊤) rule (λ c has. text_there pool (λ text. ⊤) c (λ k d lt. tt) (constants.there c (among c has)))

  pub tgds_textual : All (λ tgd. HasTexts pool (λ text. ⊤) (Tgd tgd)) set.tgds
  tgds_textual = All-weaker (Contains set.tgds) (λ tgd. HasTexts pool (λ text. ⊤) (Tgd tgd))
      (λ tgd m. with_texts (Tgd tgd) (λ c has. inl (m.0, tgd, m.1, m.2, has))) set.tgds (All-contains_itself set.tgds)

  pub egds_textual : All (λ egd. HasTexts pool (λ text. ⊤) (Egd egd)) set.egds
  egds_textual = All-weaker (Contains set.egds) (λ egd. HasTexts pool (λ text. ⊤) (Egd egd))
      (λ egd m. with_texts (Egd egd) (λ c has. inr (inl (m.0, egd, m.1, m.2, has)))) set.egds (All-contains_itself set.egds)

  pub queries_textual : All (λ query. HasTexts pool (λ text. ⊤) (Query query)) set.queries
  queries_textual = All-weaker (Contains set.queries) (λ query. HasTexts pool (λ text. ⊤) (Query query))
      (λ query m. with_texts (Query query) (λ c has. inr (inr (m.0, query, m.1, m.2, has)))) set.queries (All-contains_itself set.queries)
