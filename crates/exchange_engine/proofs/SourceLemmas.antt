-- What a source holds at an instant: constants of the pool; and what fires on it.
use Rattle.std.proofs.Common.{◌≡◌, ℕ, ℤ, ◌<◌, Option, Some, None, List, get_or, refl, ap, ◌∙◌, subst, map, All, Contains}
use Rattle.std.specs.Prelude.{IsSomeAnd, slice_get}
use Rattle.std.proofs.lemmas.List.Elements.{All-map, All-contains, Contains-get_or}
use Rattle.term_core.specs.declared.const_id.ConstId.{ConstId}
use Rattle.rule_core.specs.declared.rules.Tgd.{Tgd}
use Rattle.rule_core.specs.declared.rules.Atom.{Atom}
use Rattle.rule_core.specs.Terms.{TermOf, constant, FactOf, StampedOf}
use Rattle.rule_core.specs.Mapping.{RuleSet}
use Rattle.rule_core.specs.Match.{image, Matches}
use Rattle.rule_core.specs.Firing.{Fires, fired_facts, IsFiringFact}
use Rattle.rule_core.proofs.ListLemmas.{Contains-from_map}
use Rattle.rule_core.proofs.SnapshotLemmas.{snapshot_covers}
use Rattle.fact_table.specs.declared.fact.Fact.{Fact}
use Rattle.fact_table.specs.Snapshots.{stamped_facts, snapshot_of, with_terms}
use Rattle.tgd_chase.specs.Fired.{IsGround}
use Rattle.exchange_engine.proofs.MadeLemmas.{IsConstantBelow, HasConstantsBelow}

-- firing facts of instances that hold the same

pub fact_moves : (rules : RuleSet) (a b : List (FactOf ConstId)) → ((fact : FactOf ConstId) → Contains a fact → Contains b fact)
    → (fact : FactOf ConstId) → IsFiringFact (λ c. c) rules a fact → IsFiringFact (λ c. c) rules b fact
fact_moves rules a b moves fact k = (k.0, by (slice_get rules.tgds k.0) k.1)
  where
    matches : (binding : ℕ → TermOf ConstId) (body : List Atom) → Matches (λ c. c) binding body a → Matches (λ c. c) binding body b
    matches binding body m j d l = moves (image (λ c. c) binding (get_or body j d)) (m j d l)

    by : (o : Option Tgd)
        → IsSomeAnd o (λ tgd. (values : List ConstId) × Fires (λ c. c) tgd a values × Contains (fired_facts (λ c. c) k.0 tgd values) fact)
        → IsSomeAnd o (λ tgd. (values : List ConstId) × Fires (λ c. c) tgd b values × Contains (fired_facts (λ c. c) k.0 tgd values) fact)
    by None h = h
    by (Some tgd) h = (h.0, (h.1.0, matches (λ v. constant (h.1.0 v)) tgd.body h.1.1, h.1.2), h.2)

-- the snapshots of a table

module _ (table : List Fact) (rows_are : stamped_facts table ≡ map with_terms table) (size : ℕ)
    (low : All (λ fact. All (λ c. c.0 < size) fact.row) table) (t : ℤ) where
  -- what a snapshot holds is a fact of the table
  from_snapshot : (fact : FactOf ConstId) → Contains (snapshot_of table t) fact
      → (held : Fact) × Contains table held × ((with_terms held).row ≡ fact)
  from_snapshot fact c =
      let at = snapshot_covers (stamped_facts table) fact t c in
      let held = Contains-from_map with_terms table at.1
      (subst (λ (l : List (StampedOf (FactOf ConstId))). Contains l at.1) rows_are (at.0, at.2, at.3)) in
      (held.0, held.1, ap (λ (x : StampedOf (FactOf ConstId)). x.row) held.2 ∙ at.4.0)

  pub constants_low : All (HasConstantsBelow size) (snapshot_of table t)
  constants_low k d l =
      let fact = get_or (snapshot_of table t) k d in
      let h = from_snapshot fact (Contains-get_or (snapshot_of table t) k d l) in
      let row = All-contains (λ (f : Fact). All (λ (c : ConstId). c.0 < size) f.row) table h.0 low h.1 in
      subst (HasConstantsBelow size) h.2
      (All-map (IsConstantBelow size) constant h.0.row (λ j e m. (get_or h.0.row j e, refl, row j e m)))

  pub ground : IsGround (snapshot_of table t)
  ground k d l j e m = let term = constants_low k d l j e m in (term.0, term.1)
