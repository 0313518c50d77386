-- Which unknowns there are before and after a step, at one instant.
use Rattle.std.proofs.Common.{◌≡◌, ℕ, ◌<◌, ℤ, Bool, true, false, List, length, Some, inl, inr, refl, sym, ◌∙◌, subst, ap, Contains}
use Rattle.std.proofs.lemmas.Cmp.{tied_itself}
use Rattle.std.specs.declared.cmp.Ordering.{Ordering}
use Rattle.std.specs.declared.cmp.Ordering.TheVariants.{Less, Equal, Greater}
use Rattle.time_line.specs.Span.{Ends, Has, has}
use Rattle.term_core.specs.declared.const_id.ConstId.{ConstId}
use Rattle.term_core.specs.Order.{id_cmp}
use Rattle.term_core.proofs.OrderLemmas.{id_cmp-IsAntisymmetric, id_cmp-total}
use Rattle.rule_core.specs.declared.rules.Egd.{Egd}
use Rattle.rule_core.specs.declared.rules.Relation.{Relation}
use Rattle.rule_core.specs.Terms.{Unknown, TermOf, constant, unknown, FactOf}
use Rattle.rule_core.specs.Order.{unknown_cmp}
use Rattle.rule_core.specs.Snapshot.{snapshot_at}
use Rattle.rule_core.specs.Homomorphism.{term_image}
use Rattle.rule_core.specs.Renaming.{HasUnknown}
use Rattle.rule_core.specs.Validity.{IsEgd}
use Rattle.rule_core.proofs.ListLemmas.{Contains-from_map}
use Rattle.rule_core.proofs.FiringLemmas.{occurs_from}
use Rattle.rule_core.proofs.SnapshotLemmas.{Decides-has}
use Rattle.rule_core.proofs.ToldLemmas.{bound_term}
use Rattle.rule_core.proofs.OrderLemmas.{term_cmp-total}
use Rattle.failure_trace.specs.declared.journal.CutNote.{CutNote}
use Rattle.failure_trace.specs.Equating.{Replacement, bound_to, if_equal, of_unknowns, replacement_of, becomes}
use Rattle.failure_trace.specs.JournalRun.{RowOf, left_of, right_of, MatchesOver, Equates}
use Rattle.failure_trace.proofs.SnapshotSteps.{shown, in_snapshot, step_shown, shown_before, snapshot_matches}
use Rattle.egd_chase.proofs.StepMaps.{its_sides}

-- an unknown ties with itself
pub tied_unknown : (u : Unknown ConstId) → unknown_cmp id_cmp u u ≡ Equal
tied_unknown u = tied_itself (term_cmp-total id_cmp id_cmp-total) (unknown u)

-- what is replaced does not become itself
module _ (r : Replacement ConstId) where
  of_two_apart : (u w : Unknown ConstId) (o : Ordering) → unknown_cmp id_cmp u w ≡ o → of_unknowns id_cmp u w o ≡ Some r
      → ¬ (r.by ≡ unknown r.gone)
  of_two_apart u w Less e k same =
      let by : unknown u ≡ r.by = cc in
      let gone : w ≡ r.gone = cc in
      let one : unknown u ≡ unknown w = by ∙ same ∙ ap unknown (sym gone) in
      let two : u ≡ w = cc in
      let no = sym e ∙ subst (λ x. unknown_cmp id_cmp u x ≡ Equal) two (tied_unknown u) in absurd cc
  of_two_apart u w Equal e k same = absurd cc
  of_two_apart u w Greater e k same =
      let by : unknown w ≡ r.by = cc in
      let gone : u ≡ r.gone = cc in
      let one : unknown w ≡ unknown u = by ∙ same ∙ ap unknown (sym gone) in
      let two : u ≡ w = cc in
      let no = sym e ∙ subst (λ x. unknown_cmp id_cmp u x ≡ Equal) two (tied_unknown u) in absurd cc

  by_is_other : (a b : TermOf ConstId) → replacement_of id_cmp a b ≡ Some r → ¬ (r.by ≡ unknown r.gone)
  by_is_other (constant c) (constant d) e same = absurd cc
  by_is_other (constant c) (unknown w) e same = let by : constant c ≡ r.by = cc in let no = by ∙ same in absurd cc
  by_is_other (unknown u) (constant d) e same = let by : constant d ≡ r.by = cc in let no = by ∙ same in absurd cc
  by_is_other (unknown u) (unknown w) e same = of_two_apart u w (unknown_cmp id_cmp u w) refl e same

module _ (relations : List Relation) (egd : Egd) (is : IsEgd relations egd) where
  -- a side that is an unknown is there at the instants of a match
  pub side_there : (state : List (RowOf ConstId)) (terms : List (TermOf ConstId)) (c : Ends) (t : ℤ) → MatchesOver (λ k. k) state egd terms c → Has c t
      → (v : ℕ) → v < length egd.vars → (u : Unknown ConstId) → bound_to terms v ≡ unknown u → HasUnknown (snapshot_at state t) u
  side_there state terms c t matches at v below u e =
      let matched = snapshot_matches (λ k. k) egd state terms c t matches at in
      let k = bound_term (λ k. k) (bound_to terms) egd.body (snapshot_at state t) v
      (occurs_from egd.body v ((is.body_vars.same v).1 below)) matched in
      (k.1.0, k.0, k.1.1, k.1.2, subst (Contains k.0.terms) e k.2)

  module _ (state after : List (RowOf ConstId)) (terms : List (TermOf ConstId)) (c : Ends) (notes : List CutNote)
      (step : Equates (λ k. k) id_cmp state egd terms c notes after) (t : ℤ) where
    abbrev r : Replacement ConstId
    r = step.replacement

    by_there : Has c t → (u : Unknown ConstId) → r.by ≡ unknown u → HasUnknown (snapshot_at state t) u
    by_there at u e = elim (its_sides id_cmp r (left_of egd terms) (right_of egd terms) step.sides) [
      | inl s ↦ side_there state terms c t step.matches at egd.right is.right u (s.1 ∙ e)
      | inr s ↦ side_there state terms c t step.matches at egd.left is.left u (s.0 ∙ e)
    ]

    -- what is replaced is there before the step
    pub gone_there : Has c t → HasUnknown (snapshot_at state t) r.gone
    gone_there at = elim (its_sides id_cmp r (left_of egd terms) (right_of egd terms) step.sides) [
      | inl s ↦ side_there state terms c t step.matches at egd.left is.left r.gone s.0
      | inr s ↦ side_there state terms c t step.matches at egd.right is.right r.gone s.1
    ]

    -- at an instant of the step, an unknown after it was there before, and is not what was replaced
    known_before : Has c t → (u : Unknown ConstId) → HasUnknown (snapshot_at after t) u
        → HasUnknown (snapshot_at state t) u × ¬ (u ≡ r.gone)
    known_before at u h =
        let old = step_shown (λ k. k) id_cmp egd id_cmp-IsAntisymmetric state after terms c notes t step at h.1
        (shown t after h.1 (h.0, h.2, h.3)) in
        let there = in_snapshot t state old.0 old.1 in
        let inside = subst (λ (f : FactOf ConstId). Contains f.terms (unknown u)) (sym old.2) h.4 in
        let from = Contains-from_map (term_image (becomes id_cmp r)) old.0.terms (unknown u) inside in
        by_term from.0 from.1 from.2 there
      where
        by_test : (fact : FactOf ConstId) (w : Unknown ConstId) (o : Ordering) → unknown_cmp id_cmp w r.gone ≡ o
            → Contains (snapshot_at state t) fact → Contains fact.terms (unknown w) → if_equal o r.by (unknown w) ≡ unknown u
            → HasUnknown (snapshot_at state t) u × ¬ (u ≡ r.gone)
        by_test fact w Less tie there inside e =
            let same : w ≡ u = cc in (
              subst (HasUnknown (snapshot_at state t)) same (there.0, fact, there.1, there.2, inside),
              λ k. let no = sym tie ∙ subst (λ x. unknown_cmp id_cmp w x ≡ Equal) (same ∙ k) (tied_unknown w) in absurd cc,
            )
        by_test fact w Equal tie there inside e =
            (by_there at u e, λ k. by_is_other r (left_of egd terms) (right_of egd terms) step.sides (e ∙ ap unknown k))
        by_test fact w Greater tie there inside e =
            let same : w ≡ u = cc in (
              subst (HasUnknown (snapshot_at state t)) same (there.0, fact, there.1, there.2, inside),
              λ k. let no = sym tie ∙ subst (λ x. unknown_cmp id_cmp w x ≡ Equal) (same ∙ k) (tied_unknown w) in absurd cc,
            )

        by_term : {fact : FactOf ConstId} (x : TermOf ConstId) → Contains fact.terms x → term_image (becomes id_cmp r) x ≡ unknown u
            → Contains (snapshot_at state t) fact → HasUnknown (snapshot_at state t) u × ¬ (u ≡ r.gone)
        by_term {fact} (constant k) inside e there = absurd cc
        by_term {fact} (unknown w) inside e there = by_test fact w (unknown_cmp id_cmp w r.gone) refl there inside e

    known_elsewhere : ¬ (Has c t) → (u : Unknown ConstId) → HasUnknown (snapshot_at after t) u → HasUnknown (snapshot_at state t) u
    known_elsewhere out u h =
        let c = in_snapshot t state h.1 (shown_before (λ k. k) id_cmp egd id_cmp-IsAntisymmetric state after terms c notes t step out h.1
        (shown t after h.1 (h.0, h.2, h.3))) in
        (c.0, h.1, c.1, c.2, h.4)

    -- what was replaced is there no more at an instant of the step
    pub gone_no_more : Has c t → ¬ (HasUnknown (snapshot_at after t) r.gone)
    gone_no_more at h = (known_before at r.gone h).1 refl

    -- an unknown after the step was there before
    pub unknown_before : (u : Unknown ConstId) → HasUnknown (snapshot_at after t) u → HasUnknown (snapshot_at state t) u
    unknown_before u h = by (has c t) refl
      where
        by : (b : Bool) → has c t ≡ b → HasUnknown (snapshot_at state t) u
        by true e = (known_before ((Decides-has c t).0 e) u h).0
        by false e = known_elsewhere (λ at. let no = sym e ∙ (Decides-has c t).1 at in absurd cc) u h
