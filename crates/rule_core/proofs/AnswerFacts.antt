-- Worked examples of answers, held against the definitions: where at an instant a source holds A(a, 1) and A(a, 2), and A(x, y) makes
-- B(x, z) for some z,
--     q(x) over B(x, z) has the answer a, which is certain; r(x, z) over B(x, z) has the answer a, ?1, and no list is certain
-- A query without head variables has the empty list as its answer, and one of two disjuncts what either gives.
use Rattle.std.proofs.Common.{◌≡◌, ℕ, ◌==◌, cond, List, [], ◌∷◌, refl, ap, sym, subst, inl, inr, arith, codes, get_or, Contains}
use Rattle.std.proofs.lemmas.List.Elements.{All-nil, All-cons, All-head}
use Rattle.term_core.specs.declared.const_id.ConstId.{ConstId}
use Rattle.rule_core.specs.declared.rules.Branch.{Branch}
use Rattle.rule_core.specs.declared.rules.Query.{Query}
use Rattle.rule_core.specs.Terms.{numbered, TermOf, constant, unknown, FactOf}
use Rattle.rule_core.specs.Match.{image, Matches}
use Rattle.rule_core.specs.Answers.{IsBranchAnswer, IsAnswer, IsCertain}
use Rattle.rule_core.proofs.ListLemmas.{Contains-nil, Contains-head, Contains-cons_cases}
use Rattle.rule_core.proofs.AnswerLemmas.{certain_is_answered}
use Rattle.rule_core.proofs.WorkedFacts.{atom_of, exists_some, two_facts, fact, a, any_is_a_solution, one_firing}

-- a disjunct over B(x, z) with these columns, and the query of one disjunct
abbrev over_b : List ℕ → Branch
over_b columns = record { vars = codes "x" ∷ codes "z" ∷ []; body = atom_of (0 ∷ 1 ∷ []) ∷ []; columns = columns }

abbrev query_of : List (List ℕ) → List ℕ → Query
query_of head columns = record { name = codes "q"; head = head; branches = over_b columns ∷ [] }

abbrev first_column : Query
first_column = query_of (codes "x" ∷ []) (0 ∷ [])

abbrev both_columns : Query
both_columns = query_of (codes "x" ∷ codes "z" ∷ []) (0 ∷ 1 ∷ [])

abbrev no_column : Query
no_column = query_of [] []

-- the second disjunct gives the second column alone
abbrev either_column : Query
either_column = record { name = codes "q"; head = codes "x" ∷ []; branches = over_b (0 ∷ []) ∷ over_b (1 ∷ []) ∷ [] }

abbrev null : TermOf (List ℕ)
null = unknown (numbered 1)

module _ (name : ConstId → List ℕ) where
  -- B(a, z) alone
  abbrev with_z : TermOf (List ℕ) → List (FactOf (List ℕ))
  with_z z = fact a z ∷ []

  pair_of : TermOf (List ℕ) → ℕ → TermOf (List ℕ)
  pair_of z v = cond (v == 0) a z

  matched : (z : TermOf (List ℕ)) → Matches name (pair_of z) (atom_of (0 ∷ 1 ∷ []) ∷ []) (with_z z)
  unfolding pair_of
  matched z =
      All-cons (λ atom. Contains (with_z z) (image name (pair_of z) atom)) (atom_of (0 ∷ 1 ∷ [])) [] (Contains-head (fact a z) [])
      (All-nil (λ atom. Contains (with_z z) (image name (pair_of z) atom)))

  -- each match binds both variables so
  bound : (z : TermOf (List ℕ)) (binding : ℕ → TermOf (List ℕ)) → Matches name binding (atom_of (0 ∷ 1 ∷ []) ∷ []) (with_z z)
      → (binding 0 ≡ a) × (binding 1 ≡ z)
  bound z b m =
      let there : Contains (with_z z) (fact (b 0) (b 1)) =
      All-head (λ atom. Contains (with_z z) (image name b atom)) (atom_of (0 ∷ 1 ∷ [])) [] m in
      elim (Contains-cons_cases (fact a z) (fact (b 0) (b 1)) [] there) [
        | inl e ↦ (ap (λ (f : FactOf (List ℕ)). get_or f.terms 0 a) (sym e), ap (λ (f : FactOf (List ℕ)). get_or f.terms 1 z) (sym e))
        | inr n ↦ absurd (Contains-nil (fact (b 0) (b 1)) n)
      ]

  first_is_answered : (z : TermOf (List ℕ)) → IsAnswer name first_column (with_z z) (a ∷ [])
  unfolding pair_of
  first_is_answered z = (0, over_b (0 ∷ []), omega arith, refl, (pair_of z, matched z, refl))

  both_are_answered : (z : TermOf (List ℕ)) → IsAnswer name both_columns (with_z z) (a ∷ z ∷ [])
  unfolding pair_of
  both_are_answered z = (0, over_b (0 ∷ 1 ∷ []), omega arith, refl, (pair_of z, matched z, refl))

  nothing_is_asked : (z : TermOf (List ℕ)) → IsAnswer name no_column (with_z z) []
  nothing_is_asked z = (0, over_b [], omega arith, refl, (pair_of z, matched z, refl))

  -- nothing matches in the empty instance, so that the empty list is no answer there
  nothing_is_answered : ¬ (IsAnswer name no_column [] [])
  nothing_is_answered h =
      elim (Contains-cons_cases (over_b []) h.1 [] (h.0, h.2, h.3)) [
        | inl e ↦
            let found : IsBranchAnswer name (over_b []) [] [] = subst (λ (b : Branch). IsBranchAnswer name b [] []) (sym e) h.4 in
            absurd (Contains-nil (image name found.0 (atom_of (0 ∷ 1 ∷ [])))
            (All-head (λ atom. Contains [] (image name found.0 atom)) (atom_of (0 ∷ 1 ∷ [])) [] found.1))
        | inr n ↦ absurd (Contains-nil h.1 n)
      ]

  either_is_answered : (z : TermOf (List ℕ)) → IsAnswer name either_column (with_z z) (z ∷ [])
  unfolding pair_of
  either_is_answered z = (1, over_b (1 ∷ []), omega arith, refl, (pair_of z, matched z, refl))

  -- the constant is certain, since it is an answer on a universal instance
  a_is_certain : IsCertain name exists_some first_column two_facts (codes "a" ∷ [])
  a_is_certain =
      (certain_is_answered name exists_some first_column two_facts (with_z null) (codes "a" ∷ []) (one_firing name)).1
      (first_is_answered null)

  -- what stands beside it is an unknown, and so no constant is certain there
  only_b : (y : List ℕ) → ¬ (IsAnswer name both_columns (with_z null) (a ∷ constant y ∷ []))
  only_b y h =
      elim (Contains-cons_cases (over_b (0 ∷ 1 ∷ [])) h.1 [] (h.0, h.2, h.3)) [
        | inl e ↦
            let found : IsBranchAnswer name (over_b (0 ∷ 1 ∷ [])) (with_z null) (a ∷ constant y ∷ []) =
            subst (λ (b : Branch). IsBranchAnswer name b (with_z null) (a ∷ constant y ∷ [])) (sym e) h.4 in
            let second : found.0 1 ≡ constant y = ap (λ (l : List (TermOf (List ℕ))). get_or l 1 a) found.2 in
            let is : found.0 1 ≡ null = (bound null found.0 found.1).1 in
            absurd cc
        | inr n ↦ absurd (Contains-nil h.1 n)
      ]

  beside_it_nothing_is_certain : (y : List ℕ) → ¬ (IsCertain name exists_some both_columns two_facts (codes "a" ∷ y ∷ []))
  beside_it_nothing_is_certain y certain = only_b y (certain (with_z null) (any_is_a_solution name null))
