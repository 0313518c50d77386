-- Other numbers for constants leave a mapping valid.
use Rattle.std.proofs.Common.{◌≡◌, ℕ, ◌<◌, List, [], ◌∷◌, ◌++◌, length, map, refl, sym, ap, subst, arith, All}
use Rattle.std.specs.Prelude.{◌≢◌, IsSomeAnd, slice_get}
use Rattle.std.proofs.lemmas.List.{length-map}
use Rattle.std.proofs.lemmas.List.Elements.{All-map, All-weaker}
use Rattle.term_core.specs.declared.const_id.ConstId.{ConstId}
use Rattle.rule_core.specs.declared.rules.Arg.{Arg}
use Rattle.rule_core.specs.declared.rules.Arg.TheVariants.{Var, Const}
use Rattle.rule_core.specs.declared.rules.Atom.{Atom}
use Rattle.rule_core.specs.declared.rules.Branch.{Branch}
use Rattle.rule_core.specs.declared.rules.Egd.{Egd}
use Rattle.rule_core.specs.declared.rules.Query.{Query}
use Rattle.rule_core.specs.declared.rules.Relation.{Relation}
use Rattle.rule_core.specs.declared.rules.Tgd.{Tgd}
use Rattle.rule_core.specs.Mapping.{RuleSet, rule_names}
use Rattle.rule_core.specs.Validity.{AreDistinct, variables_in, occurrences, AreNumbered, IsWithin, FitsRelation, AreAtoms, IsTgd, IsEgd, IsBranch, IsQuery, IsValid}
use Rattle.rule_core.specs.Rebase.{number_in, renumbered_arg, renumbered_atom, renumbered_tgd, renumbered_egd, renumbered_branch, renumbered_query, renumbered}
use Rattle.rule_core.proofs.ListLemmas.{AllPairs-map}

-- the list has the number of each of the first n texts
pub record AreNumbers (from to : List (List ℕ)) (ids : List ConstId) (n : ℕ) : Type 0 where
  pub size : length ids ≡ n
  pub texts : (c : ConstId) → c.0 < n → slice_get to (number_in ids c).0 ≡ slice_get from c.0

module _ (number : ConstId → ConstId) where
  variables_same : (args : List Arg) → variables_in (map (renumbered_arg number) args) ≡ variables_in args
  variables_same [] = refl
  variables_same (Var v ∷ args) = ap (λ l. v ∷ l) (variables_same args)
  variables_same (Const c ∷ args) = variables_same args

  occurrences_same : (atoms : List Atom) → occurrences (map (renumbered_atom number) atoms) ≡ occurrences atoms
  occurrences_same [] = refl
  occurrences_same (atom ∷ atoms) = λ i. variables_same atom.args i ++ occurrences_same atoms i

  within_same : (n : ℕ) (arg : Arg) → IsWithin n arg → IsWithin n (renumbered_arg number arg)
  within_same n (Var v) h = h
  within_same n (Const c) h = h

  fits_same : (relations : List Relation) (atom : Atom) → FitsRelation relations atom → FitsRelation relations (renumbered_atom number atom)
  fits_same relations atom h =
      subst (λ n. IsSomeAnd (slice_get relations atom.relation) (λ r. n ≡ length r.columns)) (sym (length-map atom.args (renumbered_arg number))) h

  -- what each element as it is mapped meets, the mapped list meets
  all_mapped : {X : Type 0} (P : X → Type 0) (g : X → X) → ((x : X) → P x → P (g x)) → (xs : List X) → All P xs → All P (map g xs)
  all_mapped P g keeps xs h = All-map P g xs (All-weaker P (λ x. P (g x)) keeps xs h)

  atoms_same : (relations : List Relation) (atoms : List Atom) → AreAtoms relations atoms
      → AreAtoms relations (map (renumbered_atom number) atoms)
  atoms_same relations atoms h = record {
    some = omega (arith, h.some, length-map atoms (renumbered_atom number));
    most = omega (arith, h.most, length-map atoms (renumbered_atom number));
    fit = all_mapped (FitsRelation relations) (renumbered_atom number) (fits_same relations) atoms h.fit;
  }

  numbered_same : (n : ℕ) (atoms : List Atom) → AreNumbered n (occurrences atoms)
      → AreNumbered n (occurrences (map (renumbered_atom number) atoms))
  numbered_same n atoms h = subst (AreNumbered n) (sym (occurrences_same atoms)) h

  tgd_same : (sources targets : List Relation) (tgd : Tgd) → IsTgd sources targets tgd → IsTgd sources targets (renumbered_tgd number tgd)
  tgd_same sources targets tgd h = record {
    name = h.name;
    vars = h.vars;
    body = atoms_same sources tgd.body h.body;
    head = atoms_same targets tgd.head h.head;
    body_vars = numbered_same tgd.body_vars tgd.body h.body_vars;
    within = h.within;
    safe = all_mapped (λ atom. All (IsWithin (length tgd.vars)) atom.args) (renumbered_atom number)
        (λ atom. all_mapped (IsWithin (length tgd.vars)) (renumbered_arg number) (within_same (length tgd.vars)) atom.args) tgd.head h.safe;
  }

  egd_same : (targets : List Relation) (egd : Egd) → IsEgd targets egd → IsEgd targets (renumbered_egd number egd)
  egd_same targets egd h = record {
    name = h.name;
    vars = h.vars;
    body = atoms_same targets egd.body h.body;
    body_vars = numbered_same (length egd.vars) egd.body h.body_vars;
    left = h.left;
    right = h.right;
  }

  branch_same : (targets : List Relation) (head : List (List ℕ)) (branch : Branch) → IsBranch targets head branch
      → IsBranch targets head (renumbered_branch number branch)
  branch_same targets head branch h = record {
    vars = h.vars;
    body = atoms_same targets branch.body h.body;
    body_vars = numbered_same (length branch.vars) branch.body h.body_vars;
    arity = h.arity;
    columns = h.columns;
  }

  query_same : (targets : List Relation) (query : Query) → IsQuery targets query → IsQuery targets (renumbered_query number query)
  query_same targets query h = record {
    name = h.name;
    head = h.head;
    head_most = h.head_most;
    distinct = h.distinct;
    some = omega (arith, h.some, length-map query.branches (renumbered_branch number));
    most = omega (arith, h.most, length-map query.branches (renumbered_branch number));
    branches = all_mapped (IsBranch targets query.head) (renumbered_branch number) (branch_same targets query.head) query.branches h.branches;
  }

  names_same : {X N : Type 0} (name : X → N) (g : X → X) → ((x : X) → name (g x) ≡ name x) → (xs : List X)
      → map name (map g xs) ≡ map name xs
  names_same name g same [] = refl
  names_same name g same (x ∷ xs) = λ i. same x i ∷ names_same name g same xs i

  rule_names_same : (rules : RuleSet) → rule_names (renumbered number rules) ≡ rule_names rules
  rule_names_same rules = λ i.
      names_same (λ (t : Tgd). t.name) (renumbered_tgd number) (λ t. refl) rules.tgds i
      ++ names_same (λ (e : Egd). e.name) (renumbered_egd number) (λ e. refl) rules.egds i

  -- validity does not look at constants
  pub renumbered_valid : (rules : RuleSet) → IsValid rules → IsValid (renumbered number rules)
  renumbered_valid rules h = record {
    relations = h.relations;
    rules = record {
      tgds = all_mapped (IsTgd rules.sources rules.targets) (renumbered_tgd number) (tgd_same rules.sources rules.targets) rules.tgds h.rules.tgds;
      egds = all_mapped (IsEgd rules.targets) (renumbered_egd number) (egd_same rules.targets) rules.egds h.rules.egds;
      most_tgds = omega (arith, h.rules.most_tgds, length-map rules.tgds (renumbered_tgd number));
      most_egds = omega (arith, h.rules.most_egds, length-map rules.egds (renumbered_egd number));
      names = subst AreDistinct (sym (rule_names_same rules)) h.rules.names;
    };
    queries = record {
      each = all_mapped (IsQuery rules.targets) (renumbered_query number) (query_same rules.targets) rules.queries h.queries.each;
      most = omega (arith, h.queries.most, length-map rules.queries (renumbered_query number));
      names = AllPairs-map (λ a b. a.name ≢ b.name) (renumbered_query number) rules.queries h.queries.names;
    };
  }
