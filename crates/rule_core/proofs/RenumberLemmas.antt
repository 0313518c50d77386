-- Rules whose constants have other numbers, which stand for the same.
use Rattle.std.proofs.Common.{◌≡◌, ◌↔◌, ℕ, List, [], ◌∷◌, map, refl, sym, ap, subst, inl, inr, Contains}
use Rattle.std.proofs.lemmas.List.Elements.{All-map}
use Rattle.term_core.specs.declared.const_id.ConstId.{ConstId}
use Rattle.rule_core.specs.declared.rules.Arg.{Arg}
use Rattle.rule_core.specs.declared.rules.Arg.TheVariants.{Var, Const}
use Rattle.rule_core.specs.declared.rules.Atom.{Atom}
use Rattle.rule_core.specs.declared.rules.Egd.{Egd}
use Rattle.rule_core.specs.declared.rules.Tgd.{Tgd}
use Rattle.rule_core.specs.declared.rules.Branch.{Branch}
use Rattle.rule_core.specs.declared.rules.Query.{Query}
use Rattle.rule_core.specs.Terms.{TermOf, constant, FactOf}
use Rattle.rule_core.specs.Mapping.{RuleSet}
use Rattle.rule_core.specs.Match.{value, image, Matches}
use Rattle.rule_core.specs.Solution.{TgdHolds, EgdHolds, IsSolution, IsSolvable, IsUniversal}
use Rattle.rule_core.specs.Answers.{IsBranchAnswer, IsAnswer, IsCertain}
use Rattle.rule_core.specs.Rebase.{renumbered_arg, renumbered_atom, renumbered_tgd, renumbered_egd, renumbered_branch, renumbered_query, renumbered}
use Rattle.rule_core.specs.Renaming.{HaveConstant, IsRuleConstant, IsQueryConstant}
use Rattle.rule_core.proofs.ListLemmas.{Contains-head, Contains-cons, Contains-map, Contains-from_map, All-from_map, All-members}

module _ {C : Type 0} (name other : ConstId → C) (number : ConstId → ConstId) where
  -- the other number stands for the same
  abbrev IsKept : ConstId → Type 0
  IsKept c = other (number c) ≡ name c

  -- arguments stand for the same, and so an atom has one image
  values_kept : (b : ℕ → TermOf C) (args : List Arg) → ((c : ConstId) → Contains args (Const c) → IsKept c)
      → map (value other b) (map (renumbered_arg number) args) ≡ map (value name b) args
  values_kept b [] kept = refl
  values_kept b (Var v ∷ args) kept =
      ap (λ rest. b v ∷ rest) (values_kept b args (λ c there. kept c (Contains-cons (Var v) (Const c) args there)))
  values_kept b (Const d ∷ args) kept =
      let first = kept d (Contains-head (Const d) args) in
      let rest = values_kept b args (λ c there. kept c (Contains-cons (Const d) (Const c) args there)) in
      λ i. constant (first i) ∷ rest i

  image_kept : (b : ℕ → TermOf C) (atom : Atom) → ((c : ConstId) → Contains atom.args (Const c) → IsKept c)
      → image other b (renumbered_atom number atom) ≡ image name b atom
  image_kept b atom kept = λ i. record { relation = atom.relation; terms = values_kept b atom.args kept i }

  -- bodies and heads have the same matches
  module _ (atoms : List Atom) (kept : (c : ConstId) → HaveConstant atoms c → IsKept c) (b : ℕ → TermOf C)
      (instance : List (FactOf C)) where
    same_image : (atom : Atom) → Contains atoms atom → image other b (renumbered_atom number atom) ≡ image name b atom
    same_image atom there = image_kept b atom (λ c inside. kept c (there.0, atom, there.1, there.2, inside))

    matches_renumbered : Matches name b atoms instance → Matches other b (map (renumbered_atom number) atoms) instance
    matches_renumbered m =
        All-map (λ atom. Contains instance (image other b atom)) (renumbered_atom number) atoms
        (All-members (λ atom. Contains instance (image name b atom))
        (λ atom. Contains instance (image other b (renumbered_atom number atom))) atoms
        (λ atom there. subst (λ fact. Contains instance fact) (sym (same_image atom there))) m)

    matches_before : Matches other b (map (renumbered_atom number) atoms) instance → Matches name b atoms instance
    matches_before m =
        All-members (λ atom. Contains instance (image other b (renumbered_atom number atom)))
        (λ atom. Contains instance (image name b atom)) atoms
        (λ atom there. subst (λ fact. Contains instance fact) (same_image atom there))
        (All-from_map (λ atom. Contains instance (image other b atom)) (renumbered_atom number) atoms m)

  -- each rule holds with either numbers, and so the mapping has the same solutions
  module _ (rules : RuleSet) (kept : (c : ConstId) → IsRuleConstant rules c → IsKept c) (source target : List (FactOf C)) where
    body_kept : (tgd : Tgd) → Contains rules.tgds tgd → (c : ConstId) → HaveConstant tgd.body c → IsKept c
    body_kept tgd there c h = kept c (inl (there.0, tgd, there.1, there.2, inl h))

    head_kept : (tgd : Tgd) → Contains rules.tgds tgd → (c : ConstId) → HaveConstant tgd.head c → IsKept c
    head_kept tgd there c h = kept c (inl (there.0, tgd, there.1, there.2, inr h))

    egd_kept : (egd : Egd) → Contains rules.egds egd → (c : ConstId) → HaveConstant egd.body c → IsKept c
    egd_kept egd there c h = kept c (inr (there.0, egd, there.1, there.2, h))

    tgd_renumbered : (tgd : Tgd) → Contains rules.tgds tgd → TgdHolds name tgd source target
        → TgdHolds other (renumbered_tgd number tgd) source target
    tgd_renumbered tgd there holds b m =
        let found = holds b (matches_before tgd.body (body_kept tgd there) b source m) in
        (found.0, found.1, matches_renumbered tgd.head (head_kept tgd there) found.0 target found.2)

    tgd_before : (tgd : Tgd) → Contains rules.tgds tgd → TgdHolds other (renumbered_tgd number tgd) source target
        → TgdHolds name tgd source target
    tgd_before tgd there holds b m =
        let found = holds b (matches_renumbered tgd.body (body_kept tgd there) b source m) in
        (found.0, found.1, matches_before tgd.head (head_kept tgd there) found.0 target found.2)

    egd_renumbered : (egd : Egd) → Contains rules.egds egd → EgdHolds name egd target → EgdHolds other (renumbered_egd number egd) target
    egd_renumbered egd there holds b m = holds b (matches_before egd.body (egd_kept egd there) b target m)

    egd_before : (egd : Egd) → Contains rules.egds egd → EgdHolds other (renumbered_egd number egd) target → EgdHolds name egd target
    egd_before egd there holds b m = holds b (matches_renumbered egd.body (egd_kept egd there) b target m)

    solution_renumbered : IsSolution name rules source target → IsSolution other (renumbered number rules) source target
    solution_renumbered solution = record {
      tgds = All-map (λ tgd. TgdHolds other tgd source target) (renumbered_tgd number) rules.tgds
          (All-members (λ tgd. TgdHolds name tgd source target) (λ tgd. TgdHolds other (renumbered_tgd number tgd) source target)
          rules.tgds tgd_renumbered solution.tgds);
      egds = All-map (λ egd. EgdHolds other egd target) (renumbered_egd number) rules.egds
          (All-members (λ egd. EgdHolds name egd target) (λ egd. EgdHolds other (renumbered_egd number egd) target)
          rules.egds egd_renumbered solution.egds);
    }

    solution_before : IsSolution other (renumbered number rules) source target → IsSolution name rules source target
    solution_before solution = record {
      tgds = All-members (λ tgd. TgdHolds other (renumbered_tgd number tgd) source target) (λ tgd. TgdHolds name tgd source target)
          rules.tgds tgd_before
          (All-from_map (λ tgd. TgdHolds other tgd source target) (renumbered_tgd number) rules.tgds solution.tgds);
      egds = All-members (λ egd. EgdHolds other (renumbered_egd number egd) target) (λ egd. EgdHolds name egd target)
          rules.egds egd_before
          (All-from_map (λ egd. EgdHolds other egd target) (renumbered_egd number) rules.egds solution.egds);
    }

  -- and the same universal instances
  pub universal_renumbered : (rules : RuleSet) → ((c : ConstId) → IsRuleConstant rules c → other (number c) ≡ name c)
      → (source target : List (FactOf C)) → IsUniversal other (renumbered number rules) source target ↔ IsUniversal name rules source target
  universal_renumbered rules kept source target = (
    λ universal. record {
      solution = solution_before rules kept source target universal.solution;
      maps = λ any solution. universal.maps any (solution_renumbered rules kept source any solution);
    },
    λ universal. record {
      solution = solution_renumbered rules kept source target universal.solution;
      maps = λ any solution. universal.maps any (solution_before rules kept source any solution);
    },
  )

  -- the same solutions, and there is one of either or of none
  pub solutions_renumbered : (rules : RuleSet) → ((c : ConstId) → IsRuleConstant rules c → other (number c) ≡ name c)
      → (source target : List (FactOf C)) → IsSolution other (renumbered number rules) source target ↔ IsSolution name rules source target
  solutions_renumbered rules kept source target = (solution_before rules kept source target, solution_renumbered rules kept source target)

  pub solvable_renumbered : (rules : RuleSet) → ((c : ConstId) → IsRuleConstant rules c → other (number c) ≡ name c)
      → (source : List (FactOf C)) → IsSolvable other (renumbered number rules) source ↔ IsSolvable name rules source
  solvable_renumbered rules kept source = (
    λ s. (s.0, solution_before rules kept source s.0 s.1),
    λ s. (s.0, solution_renumbered rules kept source s.0 s.1),
  )

  -- the same answers
  module _ (query : Query) (kept : (c : ConstId) → IsQueryConstant query c → other (number c) ≡ name c) (instance : List (FactOf C))
      (terms : List (TermOf C)) where
    branch_kept : (branch : Branch) → Contains query.branches branch → (c : ConstId) → HaveConstant branch.body c → IsKept c
    branch_kept branch there c h = kept c (there.0, branch, there.1, there.2, h)

    answer_renumbered : IsAnswer name query instance terms → IsAnswer other (renumbered_query number query) instance terms
    answer_renumbered a =
        let is = branch_kept a.1 (a.0, a.2, a.3) in
        let there = Contains-map (renumbered_branch number) query.branches a.1 (a.0, a.2, a.3) in (
          there.0,
          renumbered_branch number a.1,
          there.1,
          there.2,
          (a.4.0, matches_renumbered a.1.body is a.4.0 instance a.4.1, a.4.2),
        )

    answer_before : IsAnswer other (renumbered_query number query) instance terms → IsAnswer name query instance terms
    answer_before a =
        let from = Contains-from_map (renumbered_branch number) query.branches a.1 (a.0, a.2, a.3) in
        let found : IsBranchAnswer other (renumbered_branch number from.0) instance terms =
        subst (λ (b : Branch). IsBranchAnswer other b instance terms) (sym from.2) a.4 in (
          from.1.0,
          from.0,
          from.1.1,
          from.1.2,
          (found.0, matches_before from.0.body (branch_kept from.0 from.1) found.0 instance found.1, found.2),
        )

    pub answers_renumbered : IsAnswer other (renumbered_query number query) instance terms ↔ IsAnswer name query instance terms
    answers_renumbered = (answer_before, answer_renumbered)

  -- the same is certain
  pub certain_renumbered : (rules : RuleSet) (query : Query) → ((c : ConstId) → IsRuleConstant rules c → other (number c) ≡ name c)
      → ((c : ConstId) → IsQueryConstant query c → other (number c) ≡ name c) → (source : List (FactOf C)) (constants : List C)
      → IsCertain other (renumbered number rules) (renumbered_query number query) source constants
      ↔ IsCertain name rules query source constants
  certain_renumbered rules query kept asked source constants = (
    λ certain target solution.
        answer_before query asked target (map constant constants) (certain target (solution_renumbered rules kept source target solution)),
    λ certain target solution.
        answer_renumbered query asked target (map constant constants) (certain target (solution_before rules kept source target solution)),
  )
