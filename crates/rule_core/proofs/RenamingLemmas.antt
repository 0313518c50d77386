-- A one-to-one renaming is a line of types from the one kind of constants to the other. Over it lies all that is made of constants and
-- said of them, so that what holds at the one end holds at the other.
use Rattle.std.proofs.Common.{◌≡◌, ℕ, ℤ, Bool, true, false, cond, List, [], ◌∷◌, map, filter, refl, ap, Contains}
use Rattle.std.specs.Prelude.{◌↔◌}
use mathlib.Core.Path.{PathP}
use mathlib.Core.Equiv.{iso_to_equiv}
use Rattle.term_core.specs.declared.const_id.ConstId.{ConstId}
use Rattle.rule_core.specs.declared.rules.Atom.{Atom}
use Rattle.rule_core.specs.declared.rules.Tgd.{Tgd}
use Rattle.rule_core.specs.declared.rules.Egd.{Egd}
use Rattle.rule_core.specs.Terms.{Unknown, numbered, named, TermOf, constant, unknown, FactOf, StampedOf}
use Rattle.rule_core.specs.declared.rules.Query.{Query}
use Rattle.rule_core.specs.Mapping.{RuleSet}
use Rattle.rule_core.specs.Snapshot.{has, snapshot_at}
use Rattle.rule_core.specs.Answers.{IsAnswer, IsCertain}
use Rattle.rule_core.specs.Match.{Matches}
use Rattle.rule_core.specs.Homomorphism.{Homomorphism}
use Rattle.rule_core.specs.Solution.{TgdHolds, EgdHolds, IsSolution, IsSolvable, IsUniversal, HasSolution}
use Rattle.rule_core.specs.Renaming.{Renaming, renamed_unknown, renamed_term, renamed_fact, renamed_facts, renamed_stamped}

-- what holds at one end of a line of statements holds at the other
both_ends : {A B : Type 0} → A ≡ B → A ↔ B
both_ends p = (λ a. coe 0 1 (i. p i) a, λ b. coe 1 0 (i. p i) b)

module _ {C D : Type 0} (r : Renaming C D) where
  -- the kinds of constants on the way
  abbrev Between : 𝕀 → Type 0
  Between i = V i C D (iso_to_equiv (record { fun = r.to; inv = r.from; rinv = r.forth; linv = r.back }))

  -- each value lies over the line, from what it is to what it is renamed to
  over_constant : (c : C) → PathP (λ i. Between i) c (r.to c)
  over_constant c = λ i. vin i c (r.to c)

  over_constants : (cs : List C) → PathP (λ i. List (Between i)) cs (map r.to cs)
  over_constants [] = λ i. []
  over_constants (c ∷ cs) = λ i. over_constant c i ∷ over_constants cs i

  over_unknown : (u : Unknown C) → PathP (λ i. Unknown (Between i)) u (renamed_unknown r.to u)
  over_unknown (numbered n) = λ i. numbered n
  over_unknown (named rule frontier var) = λ i. named rule (over_constants frontier i) var

  over_term : (t : TermOf C) → PathP (λ i. TermOf (Between i)) t (renamed_term r.to t)
  over_term (constant c) = λ i. constant (over_constant c i)
  over_term (unknown u) = λ i. unknown (over_unknown u i)

  over_terms : (ts : List (TermOf C)) → PathP (λ i. List (TermOf (Between i))) ts (map (renamed_term r.to) ts)
  over_terms [] = λ i. []
  over_terms (t ∷ ts) = λ i. over_term t i ∷ over_terms ts i

  over_fact : (fact : FactOf C) → PathP (λ i. FactOf (Between i)) fact (renamed_fact r.to fact)
  over_fact fact = λ i. record { relation = fact.relation; terms = over_terms fact.terms i }

  over_facts : (facts : List (FactOf C)) → PathP (λ i. List (FactOf (Between i))) facts (renamed_facts r.to facts)
  over_facts [] = λ i. []
  over_facts (fact ∷ facts) = λ i. over_fact fact i ∷ over_facts facts i

  over_stamped : (stamped : List (StampedOf (FactOf C)))
      → PathP (λ i. List (StampedOf (FactOf (Between i)))) stamped (renamed_stamped r.to stamped)
  over_stamped [] = λ i. []
  over_stamped (e ∷ stamped) = λ i. record { row = over_fact e.row i; span = e.span } ∷ over_stamped stamped i

  -- the snapshot of a renamed source is the renamed snapshot
  pub same_snapshots : (stamped : List (StampedOf (FactOf C))) (t : ℤ)
      → snapshot_at (renamed_stamped r.to stamped) t ≡ renamed_facts r.to (snapshot_at stamped t)
  same_snapshots [] t = refl
  same_snapshots (e ∷ stamped) t = by (has e.span t) (same_snapshots stamped t)
    where
      by : (here : Bool) → snapshot_at (renamed_stamped r.to stamped) t ≡ renamed_facts r.to (snapshot_at stamped t)
          → map (λ (e : StampedOf (FactOf D)). e.row) (cond here (record { row = renamed_fact r.to e.row; span = e.span }
          ∷ filter (λ e. has e.span t) (renamed_stamped r.to stamped)) (filter (λ e. has e.span t) (renamed_stamped r.to stamped)))
          ≡ renamed_facts r.to (map (λ (e : StampedOf (FactOf C)). e.row)
          (cond here (e ∷ filter (λ e. has e.span t) stamped) (filter (λ e. has e.span t) stamped)))
      by true same = ap (λ rest. renamed_fact r.to e.row ∷ rest) same
      by false same = same

  -- homomorphisms are kept
  pub same_maps : (a b : List (FactOf C)) → Homomorphism (Contains a) b
      ↔ Homomorphism (Contains (renamed_facts r.to a)) (renamed_facts r.to b)
  same_maps a b = both_ends (λ i. Homomorphism (Contains (over_facts a i)) (over_facts b i))

  module _ (name : ConstId → C) where
    -- the names of constants lie over the line too
    over_name : PathP (λ i. ConstId → Between i) name (λ c. r.to (name c))
    over_name = λ i c. over_constant (name c) i

    -- matches are kept
    pub same_matches : (binding : ℕ → TermOf C) (atoms : List Atom) (instance : List (FactOf C)) → Matches name binding atoms instance
        ↔ Matches (λ c. r.to (name c)) (λ v. renamed_term r.to (binding v)) atoms (renamed_facts r.to instance)
    same_matches binding atoms instance =
        both_ends (λ i. Matches (over_name i) (λ v. over_term (binding v) i) atoms (over_facts instance i))

    -- tgds that hold are kept
    pub same_tgd : (tgd : Tgd) (source target : List (FactOf C)) → TgdHolds name tgd source target
        ↔ TgdHolds (λ c. r.to (name c)) tgd (renamed_facts r.to source) (renamed_facts r.to target)
    same_tgd tgd source target = both_ends (λ i. TgdHolds (over_name i) tgd (over_facts source i) (over_facts target i))

    -- egds that hold are kept
    pub same_egd : (egd : Egd) (target : List (FactOf C)) → EgdHolds name egd target
        ↔ EgdHolds (λ c. r.to (name c)) egd (renamed_facts r.to target)
    same_egd egd target = both_ends (λ i. EgdHolds (over_name i) egd (over_facts target i))

    -- solutions are kept
    pub same_solutions : (rules : RuleSet) (source target : List (FactOf C)) → IsSolution name rules source target
        ↔ IsSolution (λ c. r.to (name c)) rules (renamed_facts r.to source) (renamed_facts r.to target)
    same_solutions rules source target = both_ends (λ i. IsSolution (over_name i) rules (over_facts source i) (over_facts target i))

    -- universal instances are kept
    pub same_universal : (rules : RuleSet) (source target : List (FactOf C)) → IsUniversal name rules source target
        ↔ IsUniversal (λ c. r.to (name c)) rules (renamed_facts r.to source) (renamed_facts r.to target)
    same_universal rules source target = both_ends (λ i. IsUniversal (over_name i) rules (over_facts source i) (over_facts target i))

    -- there is a solution of the one where there is one of the other
    pub same_solvable : (rules : RuleSet) (source : List (FactOf C)) → IsSolvable name rules source
        ↔ IsSolvable (λ c. r.to (name c)) rules (renamed_facts r.to source)
    same_solvable rules source = both_ends (λ i. IsSolvable (over_name i) rules (over_facts source i))

    pub same_has_solution : (rules : RuleSet) (source : List (StampedOf (FactOf C))) → HasSolution name rules source
        ↔ HasSolution (λ c. r.to (name c)) rules (renamed_stamped r.to source)
    same_has_solution rules source = both_ends (λ i. HasSolution (over_name i) rules (over_stamped source i))

    -- answers are kept, and what is certain
    pub same_answers : (query : Query) (instance : List (FactOf C)) (terms : List (TermOf C)) → IsAnswer name query instance terms
        ↔ IsAnswer (λ c. r.to (name c)) query (renamed_facts r.to instance) (map (renamed_term r.to) terms)
    same_answers query instance terms = both_ends (λ i. IsAnswer (over_name i) query (over_facts instance i) (over_terms terms i))

    pub same_certain : (rules : RuleSet) (query : Query) (source : List (FactOf C)) (constants : List C)
        → IsCertain name rules query source constants
        ↔ IsCertain (λ c. r.to (name c)) rules query (renamed_facts r.to source) (map r.to constants)
    same_certain rules query source constants =
        both_ends (λ i. IsCertain (over_name i) rules query (over_facts source i) (over_constants constants i))
