-- What the atoms of valid rules have as arguments.
use Rattle.std.proofs.Common.{◌≡◌, ℕ, ◌<◌, List, [], ◌∷◌, length, sym, subst, inl, inr, arith, All, Contains}
use Rattle.std.proofs.lemmas.List.Elements.{All-weaker, All-contains, All-contains_itself, Contains-append_left, Contains-append_right}
use Rattle.term_core.specs.declared.const_id.ConstId.{ConstId}
use Rattle.rule_core.specs.declared.rules.Arg.{Arg}
use Rattle.rule_core.specs.declared.rules.Arg.TheVariants.{Var, Const}
use Rattle.rule_core.specs.declared.rules.Atom.{Atom}
use Rattle.rule_core.specs.declared.rules.Tgd.{Tgd}
use Rattle.rule_core.specs.declared.rules.Egd.{Egd}
use Rattle.rule_core.specs.Mapping.{RuleSet}
use Rattle.rule_core.specs.Renaming.{HaveConstant}
use Rattle.rule_core.specs.Validity.{variables_in, occurrences, IsWithin, IsTgd, IsEgd, IsValid}
use Rattle.rule_core.proofs.ListLemmas.{Contains-nil, Contains-head, Contains-cons, Contains-cons_cases}
use Rattle.fact_table.specs.declared.fact.Fact.{Fact}
use Rattle.trace_checker.specs.Checked.{HasConstants}
use Rattle.trace_checker.specs.Names.{HasConstant, IsKnown, AreKnown}
use Rattle.trace_checker.specs.States.{CanFire, CanSettle}

-- a variable that is an argument is among the variables of the arguments
variable_in : (args : List Arg) (v : ℕ) → Contains args (Var v) → Contains (variables_in args) v
variable_in [] v c = absurd (Contains-nil (Var v) c)
variable_in (Var w ∷ args) v c = elim (Contains-cons_cases (Var w) (Var v) args c) [
  | inl e ↦ let same : w ≡ v = cc in subst (Contains (w ∷ variables_in args)) same (Contains-head w (variables_in args))
  | inr d ↦ Contains-cons w v (variables_in args) (variable_in args v d)
]
variable_in (Const k ∷ args) v c = elim (Contains-cons_cases (Const k) (Var v) args c) [
  | inl e ↦ absurd cc
  | inr d ↦ variable_in args v d
]

-- and it occurs in the atoms
occurs : (atoms : List Atom) (atom : Atom) (v : ℕ) → Contains atoms atom → Contains (variables_in atom.args) v → Contains (occurrences atoms) v
occurs [] atom v c d = absurd (Contains-nil atom c)
occurs (first ∷ atoms) atom v c d = elim (Contains-cons_cases first atom atoms c) [
  | inl e ↦ Contains-append_left (variables_in first.args) (occurrences atoms) v (subst (λ (a : Atom). Contains (variables_in a.args) v) (sym e) d)
  | inr r ↦ Contains-append_right (variables_in first.args) (occurrences atoms) v (occurs atoms atom v r d)
]

args_within : (n : ℕ) (args : List Arg) → ((v : ℕ) → Contains args (Var v) → v < n) → All (IsWithin n) args
args_within n args h = All-weaker (Contains args) (IsWithin n) each args (All-contains_itself args)
  where
    each : (arg : Arg) → Contains args arg → IsWithin n arg
    each (Var v) c = h v c
    each (Const k) c = tt

args_there : (pool : List (List ℕ)) (args : List Arg) → ((c : ConstId) → Contains args (Const c) → c.0 < length pool) → All (HasConstant pool) args
args_there pool args h = All-weaker (Contains args) (HasConstant pool) each args (All-contains_itself args)
  where
    each : (arg : Arg) → Contains args arg → HasConstant pool arg
    each (Var v) c = tt
    each (Const k) c = h k c

module _ (pool : List (List ℕ)) (n : ℕ) (atoms : List Atom) (constants : (c : ConstId) → HaveConstant atoms c → c.0 < length pool) where
  there : (atom : Atom) → Contains atoms atom → All (HasConstant pool) atom.args
  there atom c = args_there pool atom.args (λ id d. constants id (c.0, atom, c.1, c.2, d))

  body_known : ((v : ℕ) → Contains (occurrences atoms) v → v < n) → AreKnown pool n atoms
  body_known vars = All-weaker (Contains atoms) (IsKnown pool n) (λ atom c. record {
    within = args_within n atom.args (λ v d. vars v (occurs atoms atom v c (variable_in atom.args v d)));
    there = there atom c;
  }) atoms (All-contains_itself atoms)

  head_known : All (λ atom. All (IsWithin n) atom.args) atoms → AreKnown pool n atoms
  head_known safe = All-weaker (Contains atoms) (IsKnown pool n) (λ atom c. record {
    within = All-contains (λ (a : Atom). All (IsWithin n) a.args) atoms atom safe c;
    there = there atom c;
  }) atoms (All-contains_itself atoms)

module _ (pool : List (List ℕ)) (rules : RuleSet) (table : List Fact) (valid : IsValid rules) (have : HasConstants pool rules table) where
  pub tgd_known : (tgd : Tgd) → Contains rules.tgds tgd → CanFire pool tgd
  tgd_known tgd c =
      let is = All-contains (IsTgd rules.sources rules.targets) rules.tgds tgd valid.rules.tgds c in
      record {
        body = body_known pool (length tgd.vars) tgd.body (λ id h. have.of_rules id (inl (c.0, tgd, c.1, c.2, inl h)))
            (λ v o. let low = (is.body_vars.same v).0 o in let few = is.within in omega (arith, low, few));
        head = head_known pool (length tgd.vars) tgd.head (λ id h. have.of_rules id (inl (c.0, tgd, c.1, c.2, inr h))) is.safe;
        within = is.within;
      }

  pub egd_known : (egd : Egd) → Contains rules.egds egd → CanSettle pool egd
  egd_known egd c =
      let is = All-contains (IsEgd rules.targets) rules.egds egd valid.rules.egds c in
      record {
        body = body_known pool (length egd.vars) egd.body (λ id h. have.of_rules id (inr (c.0, egd, c.1, c.2, h)))
            (λ v o. (is.body_vars.same v).0 o);
        left = is.left;
        right = is.right;
      }
