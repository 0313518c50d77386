-- When a target instance is a solution of a mapping for a source instance, and when it is universal.
use Rattle.std.specs.Prelude.{◌≡◌, ℕ, ◌<◌, ℤ, List, All, Contains}
use Rattle.term_core.specs.declared.const_id.ConstId.{ConstId}
use Rattle.rule_core.specs.declared.rules.Tgd.{Tgd}
use Rattle.rule_core.specs.declared.rules.Egd.{Egd}
use Rattle.rule_core.specs.Terms.{TermOf, FactOf, StampedOf}
use Rattle.rule_core.specs.Mapping.{RuleSet}
use Rattle.rule_core.specs.Snapshot.{snapshot_at}
use Rattle.rule_core.specs.Match.{Matches}
use Rattle.rule_core.specs.Homomorphism.{Homomorphism}

-- the second binding gives the first n variables what the first gives them
abbrev pub Extends : {C : Type 0} → ℕ → (ℕ → TermOf C) → (ℕ → TermOf C) → Type 0
Extends n first second = (v : ℕ) → v < n → second v ≡ first v

module _ {C : Type 0} (name : ConstId → C) where
  -- each match of the body in the source extends to the `exists` variables so that the head is in the target
  abbrev pub TgdHolds : Tgd → List (FactOf C) → List (FactOf C) → Type 0
  TgdHolds tgd source target = (binding : ℕ → TermOf C) → Matches name binding tgd.body source →
      (extended : ℕ → TermOf C) × Extends tgd.body_vars binding extended × Matches name extended tgd.head target

  -- each match of the body gives both sides one term
  abbrev pub EgdHolds : Egd → List (FactOf C) → Type 0
  EgdHolds egd target = (binding : ℕ → TermOf C) → Matches name binding egd.body target → binding egd.left ≡ binding egd.right

  -- every rule holds
  pub record IsSolution (rules : RuleSet) (source target : List (FactOf C)) : Type 0 where
    pub tgds : All (λ tgd. TgdHolds tgd source target) rules.tgds
    pub egds : All (λ egd. EgdHolds egd target) rules.egds

  -- some instance is a solution
  abbrev pub IsSolvable : RuleSet → List (FactOf C) → Type 0
  IsSolvable rules source = (target : List (FactOf C)) × IsSolution rules source target

  -- a solution that maps into every solution, over all constants and unknowns that there are
  pub record IsUniversal (rules : RuleSet) (source target : List (FactOf C)) : Type 0 where
    pub solution : IsSolution rules source target
    pub maps : (other : List (FactOf C)) → IsSolution rules source other → Homomorphism (Contains target) other

  -- every instant of a stamped source has a solution
  abbrev pub HasSolution : RuleSet → List (StampedOf (FactOf C)) → Type 0
  HasSolution rules source = (t : ℤ) → IsSolvable rules (snapshot_at source t)
