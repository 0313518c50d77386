-- What one step of a journal does to the maps of a snapshot.
use Rattle.std.proofs.Common.{◌≡◌, ◌⊎◌, ℤ, Bool, true, false, Some, List, map, refl, sym, ap, ◌∙◌, subst, inl, inr, Contains}
use Rattle.std.specs.declared.cmp.Ordering.{Ordering}
use Rattle.std.specs.declared.cmp.Ordering.TheVariants.{Less, Equal, Greater}
use Rattle.std.specs.FinMap.{IsAntisymmetric}
use Rattle.time_line.specs.Span.{Ends, Has, has}
use Rattle.term_core.specs.declared.const_id.ConstId.{ConstId}
use Rattle.rule_core.specs.declared.rules.Egd.{Egd}
use Rattle.rule_core.specs.Terms.{Unknown, TermOf, constant, unknown, FactOf}
use Rattle.rule_core.specs.Order.{unknown_cmp}
use Rattle.rule_core.specs.Snapshot.{snapshot_at}
use Rattle.rule_core.specs.Homomorphism.{fact_image, Homomorphism}
use Rattle.rule_core.specs.Solution.{EgdHolds}
use Rattle.rule_core.specs.Laws.{IsReplacement, AreSides}
use Rattle.rule_core.proofs.ListLemmas.{Contains-map}
use Rattle.rule_core.proofs.OrderLemmas.{term_cmp-IsAntisymmetric}
use Rattle.rule_core.proofs.SnapshotLemmas.{Decides-has}
use Rattle.rule_core.proofs.EqualSideLemmas.{fact_image-unknown, replaced_goes, clash_has_no_map}
use Rattle.failure_trace.specs.declared.journal.CutNote.{CutNote}
use Rattle.failure_trace.specs.Equating.{Replacement, bound_to, AreClashing, if_equal, of_unknowns, replacement_of, becomes, replaced_fact}
use Rattle.failure_trace.specs.JournalRun.{RowOf, left_of, right_of, Equates, Clashes}
use Rattle.failure_trace.proofs.SnapshotSteps.{shown, in_snapshot, step_shows, step_shown, still_shows, shown_before, snapshot_matches}

module _ {C : Type 0} (cmp : C → C → Ordering) (r : Replacement C) where
  -- the two sides are the unknown that goes and what it becomes
  abbrev pub AreItsSides : TermOf C → TermOf C → Type 0
  AreItsSides a b = ((a ≡ unknown r.gone) × (b ≡ r.by)) ⊎ ((a ≡ r.by) × (b ≡ unknown r.gone))

  two_unknowns : (u w : Unknown C) (o : Ordering) → of_unknowns cmp u w o ≡ Some r → AreItsSides (unknown u) (unknown w)
  two_unknowns u w Less e = let gone : w ≡ r.gone = cc in let by : unknown u ≡ r.by = cc in inr (by, ap unknown gone)
  two_unknowns u w Equal e = absurd cc
  two_unknowns u w Greater e = let gone : u ≡ r.gone = cc in let by : unknown w ≡ r.by = cc in inl (ap unknown gone, by)

  pub its_sides : (a b : TermOf C) → replacement_of cmp a b ≡ Some r → AreItsSides a b
  its_sides (constant c) (constant d) e = absurd cc
  its_sides (constant c) (unknown w) e =
      let gone : w ≡ r.gone = cc in let by : constant c ≡ r.by = cc in inr (by, ap unknown gone)
  its_sides (unknown u) (constant d) e =
      let gone : u ≡ r.gone = cc in let by : constant d ≡ r.by = cc in inl (ap unknown gone, by)
  its_sides (unknown u) (unknown w) e = two_unknowns u w (unknown_cmp cmp u w) e

  -- the unknown that goes becomes the other side, and each other stays
  module _ (apart : IsAntisymmetric cmp) where
    replaces : IsReplacement r.gone r.by (becomes cmp r)
    replaces w = by (unknown_cmp cmp w r.gone) refl
      where
        by : (o : Ordering) → unknown_cmp cmp w r.gone ≡ o
            → ((w ≡ r.gone) × (if_equal o r.by (unknown w) ≡ r.by)) ⊎ (if_equal o r.by (unknown w) ≡ unknown w)
        by Less e = inr refl
        by Equal e =
            let same : unknown w ≡ unknown r.gone = term_cmp-IsAntisymmetric cmp apart (unknown w) (unknown r.gone) e in
            let one : w ≡ r.gone = cc in inl (one, refl)
        by Greater e = inr refl

-- two different constants
clashing_constants : {C : Type 0} (a b : TermOf C) → AreClashing a b → (c : C) × (d : C) × (c ≡ d → ⊥) × (a ≡ constant c) × (b ≡ constant d)
clashing_constants (constant c) (constant d) k = (c, d, k, refl, refl)
clashing_constants (constant c) (unknown w) k = absurd k
clashing_constants (unknown u) b k = absurd k

module _ {C : Type 0} (name : ConstId → C) (cmp : C → C → Ordering) (egd : Egd) (apart : IsAntisymmetric cmp)
    (state after : List (RowOf C)) (terms : List (TermOf C)) (c : Ends) (notes : List CutNote)
    (step : Equates name cmp state egd terms c notes after) (t : ℤ) where
  abbrev r : Replacement C
  r = step.replacement

  -- the sides of the step are those of a match in the snapshot
  sides : Has c t → AreSides name egd (snapshot_at state t) (unknown r.gone) r.by
  sides h = (
    bound_to terms,
    snapshot_matches name egd state terms c t step.matches h,
    its_sides cmp r (left_of egd terms) (right_of egd terms) step.sides,
  )

  -- what carries the snapshot into an instance in which the egd holds carries it there after the step
  module _ (instance : List (FactOf C)) (holds : EgdHolds name egd instance) (h : Unknown C → TermOf C)
      (goes : (fact : FactOf C) → Contains (snapshot_at state t) fact → Contains instance (fact_image h fact)) where
    still_goes : (b : Bool) → has c t ≡ b → (fact : FactOf C) → Contains (snapshot_at after t) fact → Contains instance (fact_image h fact)
    still_goes true e fact there =
        let inside : Has c t = (Decides-has c t).0 e in
        let old = step_shown name cmp egd apart state after terms c notes t step inside fact (shown t after fact there) in
        replaced_goes name egd (snapshot_at state t) instance holds h goes r.gone r.by (becomes cmp r) (sides inside)
        (replaces cmp r apart) fact
        (subst (Contains (map (replaced_fact cmp r) (snapshot_at state t))) old.2
        (Contains-map (replaced_fact cmp r) (snapshot_at state t) old.0 (in_snapshot t state old.0 old.1)))
    still_goes false e fact there = goes fact
        (in_snapshot t state fact (shown_before name cmp egd apart state after terms c notes t step
        (λ inside. let no = sym e ∙ (Decides-has c t).1 inside in absurd cc) fact (shown t after fact there)))

    pub step_keeps : (fact : FactOf C) → Contains (snapshot_at after t) fact → Contains instance (fact_image h fact)
    step_keeps = still_goes (has c t) refl

  leads : (b : Bool) → has c t ≡ b → Homomorphism (Contains (snapshot_at state t)) (snapshot_at after t)
  leads true e = record {
    of_unknown = becomes cmp r;
    into = λ fact there. in_snapshot t after (replaced_fact cmp r fact)
        (step_shows name cmp egd apart state after terms c notes t step ((Decides-has c t).0 e) fact (shown t state fact there));
  }
  leads false e = record {
    of_unknown = unknown;
    into = λ fact there. subst (Contains (snapshot_at after t)) (sym (fact_image-unknown fact))
        (in_snapshot t after fact (still_shows name cmp egd apart state after terms c notes t step
        (λ inside. let no = sym e ∙ (Decides-has c t).1 inside in absurd cc) fact (shown t state fact there)));
  }

  -- the snapshot maps into the one after the step
  pub step_leads : Homomorphism (Contains (snapshot_at state t)) (snapshot_at after t)
  step_leads = leads (has c t) refl

-- where a clash is, the snapshot maps into no instance in which the egd holds
pub clash_ends : {C : Type 0} (name : ConstId → C) (cmp : C → C → Ordering) (egd : Egd) (state : List (RowOf C)) (terms : List (TermOf C))
    (c : Ends) → Clashes name cmp state egd terms c → (t : ℤ) → Has c t → (instance : List (FactOf C)) → EgdHolds name egd instance
    → ¬ (Homomorphism (Contains (snapshot_at state t)) instance)
clash_ends name cmp egd state terms c clash t h instance holds =
    let k = clashing_constants (left_of egd terms) (right_of egd terms) clash.sides in
    clash_has_no_map name egd (snapshot_at state t) instance k.0 k.1 k.2
    (bound_to terms, snapshot_matches name egd state terms c t clash.matches h, inl (k.3, k.4)) holds
