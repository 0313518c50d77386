-- What a step of a journal does to the snapshot at one instant.
use Rattle.std.proofs.Common.{◌≡◌, ◌⊎◌, ◌↔◌, ℤ, ◌<ℤ◌, ◌≤ℤ◌, Bool, true, false, int_lt, Option, Some, None, List, [], ◌∷◌, ◌++◌, map}
use Rattle.std.specs.Bool.{⊤}
use Rattle.std.proofs.Common.{refl, sym, ap, ◌∙◌, subst, inl, inr, arith, rules, Contains, IsPermutation}
use Rattle.std.specs.declared.cmp.Ordering.{Ordering}
use Rattle.std.specs.declared.cmp.Ordering.TheVariants.{Less, Equal, Greater}
use Rattle.std.specs.FinMap.{IsAntisymmetric}
use Rattle.std.proofs.lemmas.Int.{ints}
use Rattle.std.proofs.lemmas.Cmp.{tied_itself}
use Rattle.std.proofs.lemmas.List.Elements.{All-contains, Contains-append_left, Contains-append_right, Contains-append_cases}
use Rattle.std.proofs.lemmas.List.Sorted.{IsPermutation-sym, Contains-permutation}
use Rattle.time_line.specs.Span.{Ends, ends, IsFrom, IsBefore, Has, Meet, span_cmp}
use Rattle.time_line.specs.SpanOrder.{span_cmp-total}
use Rattle.term_core.specs.declared.const_id.ConstId.{ConstId}
use Rattle.rule_core.specs.declared.rules.Egd.{Egd}
use Rattle.rule_core.specs.Terms.{Unknown, TermOf, constant, unknown, FactOf}
use Rattle.rule_core.specs.Order.{unknown_cmp}
use Rattle.rule_core.specs.Match.{image, Matches}
use Rattle.rule_core.specs.Snapshot.{snapshot_at}
use Rattle.rule_core.specs.Homomorphism.{term_image}
use Rattle.rule_core.proofs.ListLemmas.{Contains-head, Contains-cons, Contains-map, Contains-from_map, All-members}
use Rattle.rule_core.proofs.OrderLemmas.{term_cmp-IsAntisymmetric}
use Rattle.rule_core.proofs.SnapshotLemmas.{snapshot_covers, covered_in_snapshot}
use Rattle.failure_trace.specs.declared.journal.CutNote.{CutNote}
use Rattle.failure_trace.specs.Equating.{Replacement, bound_to, if_equal, of_unknowns, replacement_of, becomes, replaced_fact}
use Rattle.failure_trace.specs.JournalRun.{RowOf, HoldsTerm, MatchesOver, over, Cuts, CutInTurn, replaced_over, left_of, right_of, Equates}

-- spans that tie are one span
span_cmp-IsAntisymmetric : IsAntisymmetric span_cmp
span_cmp-IsAntisymmetric a b e = search rules

-- an end before which there is an instant bounds each earlier instant no more
before_inside : (hi : Option ℤ) (at t : ℤ) → IsBefore hi at → t <ℤ at → IsBefore hi t
before_inside None at t h l = tt
before_inside (Some hi) at t h l = omega (arith, ints)

from_inside : (lo : Option ℤ) (at t : ℤ) → IsFrom lo at → at ≤ℤ t → IsFrom lo t
from_inside None at t h l = tt
from_inside (Some lo) at t h l = omega (arith, ints)

module _ {C : Type 0} (t : ℤ) where
  -- a row of the state has the instant and is this fact
  abbrev pub Shows : List (RowOf C) → FactOf C → Type 0
  Shows state fact = (row : RowOf C) × Contains state row × (row.row ≡ fact) × Has row.span t

  pub shown : (state : List (RowOf C)) (fact : FactOf C) → Contains (snapshot_at state t) fact → Shows state fact
  shown state fact c = let k = snapshot_covers state fact t c in (k.1, (k.0, k.2, k.3), k.4.0, k.4.1)

  pub in_snapshot : (state : List (RowOf C)) (fact : FactOf C) → Shows state fact → Contains (snapshot_at state t) fact
  in_snapshot state fact s = covered_in_snapshot state fact t (s.1.0, s.0, s.1.1, s.1.2, (s.2, s.3))

  shows_up_to_order : (state after : List (RowOf C)) (fact : FactOf C) → IsPermutation state after → Shows state fact → Shows after fact
  shows_up_to_order state after fact p s = (s.0, Contains-permutation state after s.0 p s.1, s.2, s.3)

  -- a cut keeps what is shown
  module _ (state : List (RowOf C)) (term : TermOf C) (c : Ends) (note : CutNote) (after : List (RowOf C)) (cut : Cuts state term c note after) where
    abbrev first : RowOf C → RowOf C
    first = over (ends cut.span.lo (Some note.at))

    abbrev second : RowOf C → RowOf C
    second = over (ends (Some note.at) cut.span.hi)

    abbrev parts : List (RowOf C)
    parts = map first cut.rows ++ (map second cut.rows ++ cut.others)

    part_shows : (row : RowOf C) → Contains cut.rows row → Has row.span t → (b : Bool) → int_lt t note.at ≡ b → Shows parts row.row
    part_shows row there h true e =
        let same : row.span ≡ cut.span = All-contains (λ (r : RowOf C). r.span ≡ cut.span) cut.rows row cut.spans there in
        let has : Has cut.span t = subst (λ s. Has s t) same h in (
          first row,
          Contains-append_left (map first cut.rows) (map second cut.rows ++ cut.others) (first row) (Contains-map first cut.rows row there),
          refl,
          (has.0, omega (arith, ints)),
        )
    part_shows row there h false e =
        let same : row.span ≡ cut.span = All-contains (λ (r : RowOf C). r.span ≡ cut.span) cut.rows row cut.spans there in
        let has : Has cut.span t = subst (λ s. Has s t) same h in (
          second row,
          Contains-append_right (map first cut.rows) (map second cut.rows ++ cut.others) (second row)
              (Contains-append_left (map second cut.rows) cut.others (second row) (Contains-map second cut.rows row there)),
          refl,
          (omega (arith, ints), has.1),
        )

    pub cut_shows : (fact : FactOf C) → Shows state fact → Shows after fact
    cut_shows fact s =
        let there = Contains-permutation state (cut.rows ++ cut.others) s.0
        (IsPermutation-sym (cut.rows ++ cut.others) state cut.component.split) s.1 in
        shows_up_to_order parts after fact cut.cut (elim (Contains-append_cases cut.rows cut.others s.0 there) [
          | inl c ↦ subst (Shows parts) s.2 (part_shows s.0 c s.3 (int_lt t note.at) refl)
          | inr c ↦ (
            s.0,
            Contains-append_right (map first cut.rows) (map second cut.rows ++ cut.others) s.0
                (Contains-append_right (map second cut.rows) cut.others s.0 c),
            s.2,
            s.3,
          )
        ])

    from_row : (row : RowOf C) → Contains cut.rows row → Has cut.span t → Shows state row.row
    from_row row there h =
        let same : row.span ≡ cut.span = All-contains (λ (r : RowOf C). r.span ≡ cut.span) cut.rows row cut.spans there in (
          row,
          Contains-permutation (cut.rows ++ cut.others) state row cut.component.split (Contains-append_left cut.rows cut.others row there),
          refl,
          subst (λ s. Has s t) (sym same) h,
        )

    from_first : (row : RowOf C) → Contains (map first cut.rows) row → Has row.span t → Shows state row.row
    from_first row there h =
        let from = Contains-from_map first cut.rows row there in
        let has : Has (ends cut.span.lo (Some note.at)) t = subst (λ (r : RowOf C). Has r.span t) (sym from.2) h in
        subst (λ (r : RowOf C). Shows state r.row) from.2
        (from_row from.0 from.1 (has.0, before_inside cut.span.hi note.at t cut.inside.0.1 has.1))

    from_second : (row : RowOf C) → Contains (map second cut.rows) row → Has row.span t → Shows state row.row
    from_second row there h =
        let from = Contains-from_map second cut.rows row there in
        let has : Has (ends (Some note.at) cut.span.hi) t = subst (λ (r : RowOf C). Has r.span t) (sym from.2) h in
        subst (λ (r : RowOf C). Shows state r.row) from.2
        (from_row from.0 from.1 (from_inside cut.span.lo note.at t cut.inside.0.0 has.0, has.1))

    pub shown_before_cut : (fact : FactOf C) → Shows after fact → Shows state fact
    shown_before_cut fact s =
        let there = Contains-permutation after parts s.0 (IsPermutation-sym parts after cut.cut) s.1 in
        elim (Contains-append_cases (map first cut.rows) (map second cut.rows ++ cut.others) s.0 there) [
          | inl c ↦ subst (Shows state) s.2 (from_first s.0 c s.3)
          | inr d ↦ elim (Contains-append_cases (map second cut.rows) cut.others s.0 d) [
            | inl c ↦ subst (Shows state) s.2 (from_second s.0 c s.3)
            | inr c ↦ (
              s.0,
              Contains-permutation (cut.rows ++ cut.others) state s.0 cut.component.split
                  (Contains-append_right cut.rows cut.others s.0 c),
              s.2,
              s.3,
            )
          ]
        ]

  -- and so do all cuts of a step
  pub cuts_show : (state : List (RowOf C)) (left right : TermOf C) (c : Ends) (notes : List CutNote) (after : List (RowOf C))
      → CutInTurn state left right c notes after → (fact : FactOf C) → Shows state fact ↔ Shows after fact
  cuts_show state left right c [] after p fact =
      (shows_up_to_order state after fact p, shows_up_to_order after state fact (IsPermutation-sym state after p))
  cuts_show state left right c (note ∷ notes) after k fact =
      let rest = cuts_show k.0 left right c notes after k.2 fact in
      elim k.1 [
        | inl cut ↦ (λ s. rest.0 (cut_shows state left c note k.0 cut fact s), λ s. shown_before_cut state left c note k.0 cut fact (rest.1 s))
        | inr cut ↦ (λ s. rest.0 (cut_shows state right c note k.0 cut fact s), λ s. shown_before_cut state right c note k.0 cut fact (rest.1 s))
      ]

-- what becomes of a fact that doesn't hold the unknown
module _ {C : Type 0} (cmp : C → C → Ordering) (apart : IsAntisymmetric cmp) (r : Replacement C) where
  other_stays : (u : Unknown C) (o : Ordering) → unknown_cmp cmp u r.gone ≡ o → ¬ (u ≡ r.gone) → if_equal o r.by (unknown u) ≡ unknown u
  other_stays u Less e n = refl
  other_stays u Equal e n =
      let same : unknown u ≡ unknown r.gone = term_cmp-IsAntisymmetric cmp apart (unknown u) (unknown r.gone) e in
      let one : u ≡ r.gone = cc in
      absurd (n one)
  other_stays u Greater e n = refl

  terms_stay : (terms : List (TermOf C)) → ¬ (Contains terms (unknown r.gone)) → map (term_image (becomes cmp r)) terms ≡ terms
  terms_stay [] n = refl
  terms_stay (constant c ∷ terms) n = ap (λ rest. constant c ∷ rest) (terms_stay terms (λ h. n (Contains-cons (constant c) (unknown r.gone) terms h)))
  terms_stay (unknown u ∷ terms) n =
      let first : becomes cmp r u ≡ unknown u = other_stays u (unknown_cmp cmp u r.gone) refl
      (λ e. n (subst (λ w. Contains (unknown w ∷ terms) (unknown r.gone)) (sym e) (Contains-head (unknown r.gone) terms))) in
      let rest = terms_stay terms (λ h. n (Contains-cons (unknown u) (unknown r.gone) terms h)) in
      λ i. first i ∷ rest i

  pub fact_stays : (fact : FactOf C) → ¬ (Contains fact.terms (unknown r.gone)) → replaced_fact cmp r fact ≡ fact
  fact_stays fact n = λ i. record { relation = fact.relation; terms = terms_stay fact.terms n i }

-- the unknown that is replaced is a side
module _ {C : Type 0} (cmp : C → C → Ordering) (r : Replacement C) where
  of_two : (u w : Unknown C) (o : Ordering) → of_unknowns cmp u w o ≡ Some r → (u ≡ r.gone) ⊎ (w ≡ r.gone)
  of_two u w Less e = inr cc
  of_two u w Equal e = absurd cc
  of_two u w Greater e = inl cc

  pub gone_is_a_side : (a b : TermOf C) → replacement_of cmp a b ≡ Some r → (a ≡ unknown r.gone) ⊎ (b ≡ unknown r.gone)
  gone_is_a_side (constant c) (constant d) e = absurd cc
  gone_is_a_side (constant c) (unknown w) e = let same : w ≡ r.gone = cc in inr (ap unknown same)
  gone_is_a_side (unknown u) (constant d) e = let same : u ≡ r.gone = cc in inl (ap unknown same)
  gone_is_a_side (unknown u) (unknown w) e = elim (of_two u w (unknown_cmp cmp u w) e) [
    | inl same ↦ inl (ap unknown same)
    | inr same ↦ inr (ap unknown same)
  ]

-- the step itself
module _ {C : Type 0} (name : ConstId → C) (cmp : C → C → Ordering) (egd : Egd) (apart : IsAntisymmetric cmp) where
  module _ (state after : List (RowOf C)) (terms : List (TermOf C)) (c : Ends) (notes : List CutNote) (t : ℤ)
      (step : Equates name cmp state egd terms c notes after) where
    abbrev changed : RowOf C → RowOf C
    changed = replaced_over cmp step.replacement c

    changed_span : (row : RowOf C) (o : Ordering) → (if_equal o (record row { row = replaced_fact cmp step.replacement row.row }) row).span ≡ row.span
    changed_span row Less = refl
    changed_span row Equal = refl
    changed_span row Greater = refl

    -- a row over another span that meets the step's doesn't hold what is replaced
    not_held : Has c t → (row : RowOf C) → Contains step.cut row → Has row.span t → ¬ (span_cmp row.span c ≡ Equal)
        → ¬ (Contains row.row.terms (unknown step.replacement.gone))
    not_held in_step row there h other inside =
        let meets : Meet row.span c = (t, h, in_step) in
        elim (gone_is_a_side cmp step.replacement (left_of egd terms) (right_of egd terms) step.sides) [
          | inl e ↦ tied (All-contains (λ (r : RowOf C). HoldsTerm r (left_of egd terms) → Meet r.span c → r.span ≡ c) step.cut row step.left there
              (step.replacement.gone, e, inside) meets)
          | inr e ↦ tied (All-contains (λ (r : RowOf C). HoldsTerm r (right_of egd terms) → Meet r.span c → r.span ≡ c) step.cut row step.right there
              (step.replacement.gone, e, inside) meets)
        ]
      where
        tied : ¬ (row.span ≡ c)
        tied e = other (subst (λ s. span_cmp row.span s ≡ Equal) e (tied_itself span_cmp-total row.span))

    -- a row that has an instant of the step changes as each fact does
    changed_row : Has c t → (row : RowOf C) → Contains step.cut row → Has row.span t → (o : Ordering) → span_cmp row.span c ≡ o
        → (if_equal o (record row { row = replaced_fact cmp step.replacement row.row }) row).row ≡ replaced_fact cmp step.replacement row.row
    changed_row in_step row there h Equal e = refl
    changed_row in_step row there h Less e =
        sym (fact_stays cmp apart step.replacement row.row (not_held in_step row there h (λ x. let no = sym e ∙ x in absurd cc)))
    changed_row in_step row there h Greater e =
        sym (fact_stays cmp apart step.replacement row.row (not_held in_step row there h (λ x. let no = sym e ∙ x in absurd cc)))

    -- any other row stays
    stays_row : ¬ (Has c t) → (row : RowOf C) → Has row.span t → (o : Ordering) → span_cmp row.span c ≡ o
        → if_equal o (record row { row = replaced_fact cmp step.replacement row.row }) row ≡ row
    stays_row out row h Less e = refl
    stays_row out row h Equal e = absurd (out (subst (λ s. Has s t) (span_cmp-IsAntisymmetric row.span c e) h))
    stays_row out row h Greater e = refl

    through_cuts : (fact : FactOf C) → Shows t state fact ↔ Shows t step.cut fact
    through_cuts fact = cuts_show t state (left_of egd terms) (right_of egd terms) c notes step.cut step.cuts fact

    -- what is shown is there after the step with its unknown replaced, and nothing else is
    pub step_shows : Has c t → (fact : FactOf C) → Shows t state fact → Shows t after (replaced_fact cmp step.replacement fact)
    step_shows in_step fact s =
        let k = (through_cuts fact).0 s in (
          changed k.0,
          Contains-permutation (map changed step.cut) after (changed k.0) step.replaced (Contains-map changed step.cut k.0 k.1),
          changed_row in_step k.0 k.1 k.3 (span_cmp k.0.span c) refl ∙ ap (replaced_fact cmp step.replacement) k.2,
          subst (λ s. Has s t) (sym (changed_span k.0 (span_cmp k.0.span c))) k.3,
        )

    pub step_shown : Has c t → (fact : FactOf C) → Shows t after fact
        → (old : FactOf C) × Shows t state old × (replaced_fact cmp step.replacement old ≡ fact)
    step_shown in_step fact s =
        let from = Contains-from_map changed step.cut s.0
        (Contains-permutation after (map changed step.cut) s.0 (IsPermutation-sym (map changed step.cut) after step.replaced) s.1) in
        let has : Has (changed from.0).span t = subst (λ (r : RowOf C). Has r.span t) (sym from.2) s.3 in
        let had : Has from.0.span t = subst (λ s. Has s t) (changed_span from.0 (span_cmp from.0.span c)) has in (
          from.0.row,
          (through_cuts from.0.row).1 (from.0, from.1, refl, had),
          sym (changed_row in_step from.0 from.1 had (span_cmp from.0.span c) refl) ∙ ap (λ (r : RowOf C). r.row) from.2 ∙ s.2,
        )

    -- at an instant that the step's span doesn't have, what is shown stays
    pub still_shows : ¬ (Has c t) → (fact : FactOf C) → Shows t state fact → Shows t after fact
    still_shows out fact s =
        let k = (through_cuts fact).0 s in
        let stays = stays_row out k.0 k.3 (span_cmp k.0.span c) refl in (
          k.0,
          subst (Contains after) stays
              (Contains-permutation (map changed step.cut) after (changed k.0) step.replaced (Contains-map changed step.cut k.0 k.1)),
          k.2,
          k.3,
        )

    pub shown_before : ¬ (Has c t) → (fact : FactOf C) → Shows t after fact → Shows t state fact
    shown_before out fact s =
        let from = Contains-from_map changed step.cut s.0
        (Contains-permutation after (map changed step.cut) s.0 (IsPermutation-sym (map changed step.cut) after step.replaced) s.1) in
        let has : Has (changed from.0).span t = subst (λ (r : RowOf C). Has r.span t) (sym from.2) s.3 in
        let had : Has from.0.span t = subst (λ s. Has s t) (changed_span from.0 (span_cmp from.0.span c)) has in
        let same : from.0 ≡ s.0 = sym (stays_row out from.0 had (span_cmp from.0.span c) refl) ∙ from.2 in
        (through_cuts fact).1 (from.0, from.1, ap (λ (r : RowOf C). r.row) same ∙ s.2, had)

module _ {C : Type 0} (name : ConstId → C) (egd : Egd) where
  -- a match over a span matches the snapshot at each instant of it
  pub snapshot_matches : (state : List (RowOf C)) (terms : List (TermOf C)) (c : Ends) (t : ℤ) → MatchesOver name state egd terms c → Has c t
      → Matches name (bound_to terms) egd.body (snapshot_at state t)
  snapshot_matches state terms c t m h = All-members (λ _. ⊤) (λ atom. Contains (snapshot_at state t) (image name (bound_to terms) atom)) egd.body
      (λ atom there _.
      let from = Contains-from_map (λ (r : RowOf C). r.row) m.rows (image name (bound_to terms) atom)
      (subst (λ facts. Contains facts (image name (bound_to terms) atom)) (sym m.images)
      (Contains-map (image name (bound_to terms)) egd.body atom there)) in
      in_snapshot t state (image name (bound_to terms) atom) (
        from.0,
        All-contains (Contains state) m.rows from.0 m.present from.1,
        from.2,
        All-contains (λ (r : RowOf C). Has r.span t) m.rows from.0 ((m.common t).0 h) from.1,
      ))
      (λ k d l. tt)
