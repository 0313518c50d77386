-- The answers of a query on an instance, and the lists of constants that are certain.
use Rattle.std.specs.Prelude.{◌≡◌, ℕ, ℤ, List, map, Any}
use Rattle.term_core.specs.declared.const_id.ConstId.{ConstId}
use Rattle.rule_core.specs.declared.rules.Branch.{Branch}
use Rattle.rule_core.specs.declared.rules.Query.{Query}
use Rattle.rule_core.specs.Terms.{TermOf, constant, FactOf, StampedOf}
use Rattle.rule_core.specs.Mapping.{RuleSet}
use Rattle.rule_core.specs.Snapshot.{snapshot_at}
use Rattle.rule_core.specs.Match.{Matches}
use Rattle.rule_core.specs.Solution.{IsSolution}

module _ {C : Type 0} (name : ConstId → C) where
  -- some binding matches the branch in the instance, and gives these terms for the head variables
  abbrev pub IsBranchAnswer : Branch → List (FactOf C) → List (TermOf C) → Type 0
  IsBranchAnswer branch instance terms =
      (binding : ℕ → TermOf C) × Matches name binding branch.body instance × (map binding branch.columns ≡ terms)

  -- a list of terms that some branch gives
  abbrev pub IsAnswer : Query → List (FactOf C) → List (TermOf C) → Type 0
  IsAnswer query instance terms = Any (λ branch. IsBranchAnswer branch instance terms) query.branches

  -- a list of constants that is an answer on every solution, over all constants and unknowns that there are
  abbrev pub IsCertain : RuleSet → Query → List (FactOf C) → List C → Type 0
  IsCertain rules query source constants =
      (target : List (FactOf C)) → IsSolution name rules source target → IsAnswer query target (map constant constants)

  -- a list of constants that is certain for what a stamped source holds at the instant
  abbrev pub IsCertainAt : RuleSet → Query → List (StampedOf (FactOf C)) → ℤ → List C → Type 0
  IsCertainAt rules query source t constants = IsCertain rules query (snapshot_at source t) constants
