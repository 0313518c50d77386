-- Allowed runs of a journal: they start as well from the rows in another order, and what rows are made of stays so.
use Rattle.std.proofs.Common.{◌≡◌, ◌⊎◌, ℕ, ◌<◌, ℤ, Some, List, [], ◌∷◌, ◌++◌, length, get_or, map, sym, ◌∙◌, subst, inl, inr, All, Contains}
use Rattle.std.specs.Prelude.{slice_get, IsPermutation}
use Rattle.std.specs.declared.cmp.Ordering.{Ordering}
use Rattle.std.specs.declared.cmp.Ordering.TheVariants.{Less, Equal, Greater}
use Rattle.std.proofs.lemmas.List.{length-map, get_or-map}
use Rattle.std.proofs.lemmas.List.Elements.{All-nil, All-cons, All-append, All-map, All-weaker, All-contains, Contains-get_or, Contains-append_left, Contains-append_right}
use Rattle.std.proofs.lemmas.List.Sorted.{IsPermutation-sym, IsPermutation-trans, All-permutation, Contains-permutation}
use Rattle.time_line.specs.Span.{Ends, ends, span_cmp}
use Rattle.term_core.specs.declared.const_id.ConstId.{ConstId}
use Rattle.term_core.specs.declared.term.Term.{Term}
use Rattle.term_core.specs.declared.term.Term.TheVariants.{Const as ConstTerm, Null as NullTerm}
use Rattle.term_core.specs.Order.{id_cmp}
use Rattle.rule_core.specs.declared.rules.Egd.{Egd}
use Rattle.rule_core.specs.declared.rules.Relation.{Relation}
use Rattle.rule_core.specs.Terms.{Unknown, numbered, TermOf, constant, unknown, FactOf}
use Rattle.rule_core.specs.Values.{term_value}
use Rattle.rule_core.specs.Mapping.{RuleSet}
use Rattle.rule_core.specs.Order.{unknown_cmp}
use Rattle.rule_core.specs.Homomorphism.{term_image}
use Rattle.rule_core.specs.Snapshot.{snapshot_at}
use Rattle.rule_core.specs.Validity.{IsEgd, IsValid}
use Rattle.rule_core.proofs.FiringLemmas.{occurs_from}
use Rattle.rule_core.proofs.ToldLemmas.{bound_term}
use Rattle.body_match.proofs.ListLemmas.{contains_from_at}
use Rattle.body_match.proofs.SearchLemmas.{some_and, and_some}
use Rattle.failure_trace.specs.declared.journal.CutNote.{CutNote}
use Rattle.failure_trace.specs.declared.journal.JournalStep.{JournalStep}
use Rattle.failure_trace.specs.Equating.{Replacement, bound_to, if_equal, of_unknowns, replacement_of, becomes, replaced_fact}
use Rattle.failure_trace.specs.JournalRun.{RowOf, MatchesOver, left_of, right_of, over, Cuts, CutInTurn, replaced_over, Equates, Clashes, step_terms, IsRun}
use Rattle.failure_trace.specs.Projected.{IsInPool, CanTellStep}
use Rattle.failure_trace.proofs.SnapshotSteps.{shown, snapshot_matches}
use Rattle.egd_chase.specs.Settled.{LeadsToClash}
use Rattle.exchange_engine.proofs.MadeLemmas.{IsTermMade, IsMade}

abbrev Row : Type 0
Row = RowOf ConstId

-- the rows in another order

cut_moves : (a b : List Row) (term : TermOf ConstId) (c : Ends) (note : CutNote) (after : List Row) → IsPermutation b a
    → Cuts a term c note after → Cuts b term c note after
cut_moves a b term c note after p cut = record {
  rows = cut.rows;
  others = cut.others;
  span = cut.span;
  component = record {
    from = cut.component.from;
    holds = cut.component.holds;
    within = cut.component.within;
    split = IsPermutation-trans (cut.rows ++ cut.others) a b cut.component.split (IsPermutation-sym b a p);
    reached = cut.component.reached;
    apart = cut.component.apart;
  };
  spans = cut.spans;
  covers = cut.covers;
  end = cut.end;
  inside = cut.inside;
  count = cut.count;
  cut = cut.cut;
}

cuts_move : (a b : List Row) (left right : TermOf ConstId) (c : Ends) (notes : List CutNote) (after : List Row) → IsPermutation b a
    → CutInTurn a left right c notes after → CutInTurn b left right c notes after
cuts_move a b left right c [] after p q = IsPermutation-trans b a after p q
cuts_move a b left right c (note ∷ notes) after p k = (
  k.0,
  elim k.1 [
    | inl cut ↦ inl (cut_moves a b left c note k.0 p cut)
    | inr cut ↦ inr (cut_moves a b right c note k.0 p cut)
  ],
  k.2,
)

match_moves : (a b : List Row) (egd : Egd) (terms : List (TermOf ConstId)) (c : Ends) → IsPermutation b a
    → MatchesOver (λ k. k) a egd terms c → MatchesOver (λ k. k) b egd terms c
match_moves a b egd terms c p m = record {
  size = m.size;
  rows = m.rows;
  present = All-weaker (Contains a) (Contains b) (λ row there. Contains-permutation a b row (IsPermutation-sym b a p) there)
      m.rows m.present;
  images = m.images;
  instant = m.instant;
  common = m.common;
}

equates_moves : (a b : List Row) (egd : Egd) (terms : List (TermOf ConstId)) (c : Ends) (notes : List CutNote) (after : List Row)
    → IsPermutation b a → Equates (λ k. k) id_cmp a egd terms c notes after → Equates (λ k. k) id_cmp b egd terms c notes after
equates_moves a b egd terms c notes after p e = record {
  matches = match_moves a b egd terms c p e.matches;
  replacement = e.replacement;
  sides = e.sides;
  cut = e.cut;
  cuts = cuts_move a b (left_of egd terms) (right_of egd terms) c notes e.cut p e.cuts;
  left = e.left;
  right = e.right;
  replaced = e.replaced;
}

-- the egd is applied by the step in the one state and leads to the other
abbrev AppliedBy : JournalStep → List Row → List Row → Egd → Type 0
AppliedBy step state after egd = Equates (λ k. k) id_cmp state egd (step_terms step) step.span step.cuts after

-- an allowed run from rows is one from the rows in another order
pub run_moves : (rules : RuleSet) (a b : List Row) (journal : List JournalStep) (last : List Row) → IsPermutation b a
    → IsRun rules a journal last → IsRun rules b journal last
run_moves rules a b [] last p run = IsPermutation-trans b a last p run
run_moves rules a b (step ∷ steps) last p run =
    let s = some_and (AppliedBy step a run.0) (slice_get rules.egds step.egd) run.1 in (
      run.0,
      and_some (AppliedBy step b run.0) (slice_get rules.egds step.egd) s.0 s.1
          (equates_moves a b s.0 (step_terms step) step.span step.cuts run.0 p s.2),
      run.2,
    )

-- what is replaced becomes a side
module _ (r : Replacement ConstId) where
  of_two : (u w : Unknown ConstId) (o : Ordering) → of_unknowns id_cmp u w o ≡ Some r → (unknown u ≡ r.by) ⊎ (unknown w ≡ r.by)
  of_two u w Less e = inl cc
  of_two u w Equal e = absurd cc
  of_two u w Greater e = inr cc

  by_is_a_side : (a b : TermOf ConstId) → replacement_of id_cmp a b ≡ Some r → (a ≡ r.by) ⊎ (b ≡ r.by)
  by_is_a_side (constant c) (constant d) e = absurd cc
  by_is_a_side (constant c) (unknown w) e = inl cc
  by_is_a_side (unknown u) (constant d) e = inr cc
  by_is_a_side (unknown u) (unknown w) e = of_two u w (unknown_cmp id_cmp u w) e

-- what rows are made of

module _ (rules : RuleSet) (valid : IsValid rules) (size : ℕ) where
  -- each row is made of such terms
  abbrev pub AreMade : List Row → Type 0
  AreMade rows = All (λ row. IsMade rules size row.row) rows

  in_snapshots : (rows : List Row) → AreMade rows → (t : ℤ) (fact : FactOf ConstId) → Contains (snapshot_at rows t) fact
      → IsMade rules size fact
  in_snapshots rows made t fact c =
      let row = shown t rows fact c in
      subst (IsMade rules size) row.2 (All-contains (λ (r : Row). IsMade rules size r.row) rows row.0 made row.1)

  -- a cut
  cut_made : (state : List Row) (term : TermOf ConstId) (c : Ends) (note : CutNote) (after : List Row) → Cuts state term c note after
      → AreMade state → AreMade after
  cut_made state term c note after cut made =
      let P : Row → Type 0 = λ r. IsMade rules size r.row in
      let first : Row → Row = over (ends cut.span.lo (Some note.at)) in
      let second : Row → Row = over (ends (Some note.at) cut.span.hi) in
      let split = All-permutation P state (cut.rows ++ cut.others)
      (IsPermutation-sym (cut.rows ++ cut.others) state cut.component.split) made in
      let rows : All P cut.rows = λ k d l. All-contains P (cut.rows ++ cut.others) (get_or cut.rows k d) split
      (Contains-append_left cut.rows cut.others (get_or cut.rows k d) (Contains-get_or cut.rows k d l)) in
      let others : All P cut.others = λ k d l. All-contains P (cut.rows ++ cut.others) (get_or cut.others k d) split
      (Contains-append_right cut.rows cut.others (get_or cut.others k d) (Contains-get_or cut.others k d l)) in
      All-permutation P (map first cut.rows ++ (map second cut.rows ++ cut.others)) after cut.cut
      (All-append P (map first cut.rows) (map second cut.rows ++ cut.others) (All-map P first cut.rows rows)
      (All-append P (map second cut.rows) cut.others (All-map P second cut.rows rows) others))

  cuts_made : (state : List Row) (left right : TermOf ConstId) (c : Ends) (notes : List CutNote) (after : List Row)
      → CutInTurn state left right c notes after → AreMade state → AreMade after
  cuts_made state left right c [] after p made = All-permutation (λ (r : Row). IsMade rules size r.row) state after p made
  cuts_made state left right c (note ∷ notes) after k made = cuts_made k.0 left right c notes after k.2
      (elim k.1 [
        | inl cut ↦ cut_made state left c note k.0 cut made
        | inr cut ↦ cut_made state right c note k.0 cut made
      ])

  -- what a match binds a variable to
  module _ (state : List Row) (made : AreMade state) (egd : Egd) (is : IsEgd rules.targets egd) (terms : List (TermOf ConstId)) (c : Ends)
      (m : MatchesOver (λ k. k) state egd terms c) where
    bound_made : (v : ℕ) → v < length egd.vars → IsTermMade rules size (bound_to terms v)
    bound_made v l =
        let t = m.instant in
        let matched = snapshot_matches (λ k. k) egd state terms c t.0 m t.1 in
        let k = bound_term (λ k. k) (bound_to terms) egd.body (snapshot_at state t.0) v
        (occurs_from egd.body v ((is.body_vars.same v).1 l)) matched in
        All-contains (IsTermMade rules size) k.0.terms (bound_to terms v) (in_snapshots state made t.0 k.0 k.1).terms k.2

  -- the replacement
  module _ (r : Replacement ConstId) (by : IsTermMade rules size r.by) where
    term_made : (term : TermOf ConstId) → IsTermMade rules size term → IsTermMade rules size (term_image (becomes id_cmp r) term)
    term_made (constant c) h = h
    term_made (unknown u) h = tested (unknown_cmp id_cmp u r.gone)
      where
        tested : (o : Ordering) → IsTermMade rules size (if_equal o r.by (unknown u))
        tested Less = h
        tested Equal = by
        tested Greater = h

    fact_made : (fact : FactOf ConstId) → IsMade rules size fact → IsMade rules size (replaced_fact id_cmp r fact)
    fact_made fact h = record {
      wide =
          let s = some_and (λ (x : Relation). length fact.terms ≡ length x.columns) (slice_get rules.targets fact.relation) h.wide in
          and_some (λ (x : Relation). length (map (term_image (becomes id_cmp r)) fact.terms) ≡ length x.columns)
          (slice_get rules.targets fact.relation) s.0 s.1 (length-map fact.terms (term_image (becomes id_cmp r)) ∙ s.2);
      terms = All-map (IsTermMade rules size) (term_image (becomes id_cmp r)) fact.terms
          (λ k d l. term_made (get_or fact.terms k d) (h.terms k d l));
    }

    row_made : (c : Ends) (row : Row) → IsMade rules size row.row → IsMade rules size (replaced_over id_cmp r c row).row
    row_made c row h = tested (span_cmp row.span c)
      where
        tested : (o : Ordering) → IsMade rules size (if_equal o (record row { row = replaced_fact id_cmp r row.row }) row).row
        tested Less = h
        tested Equal = fact_made row.row h
        tested Greater = h

  -- a step
  equates_made : (state : List Row) (egd : Egd) → IsEgd rules.targets egd → (terms : List (TermOf ConstId)) (c : Ends)
      → (notes : List CutNote) (after : List Row) → Equates (λ k. k) id_cmp state egd terms c notes after → AreMade state → AreMade after
  equates_made state egd is terms c notes after e made =
      let P : Row → Type 0 = λ r. IsMade rules size r.row in
      let left : IsTermMade rules size (left_of egd terms) = bound_made state made egd is terms c e.matches egd.left is.left in
      let right : IsTermMade rules size (right_of egd terms) = bound_made state made egd is terms c e.matches egd.right is.right in
      let by : IsTermMade rules size e.replacement.by = elim (by_is_a_side e.replacement (left_of egd terms) (right_of egd terms) e.sides) [
        | inl same ↦ subst (IsTermMade rules size) same left
        | inr same ↦ subst (IsTermMade rules size) same right
      ] in
      let cut = cuts_made state (left_of egd terms) (right_of egd terms) c notes e.cut e.cuts made in
      All-permutation P (map (replaced_over id_cmp e.replacement c) e.cut) after e.replaced
      (All-map P (replaced_over id_cmp e.replacement c) e.cut
      (λ k d l. row_made e.replacement by c (get_or e.cut k d) (cut k d l)))

  -- the egd of a step is one of the mapping's
  egd_is : (place : ℕ) (egd : Egd) → slice_get rules.egds place ≡ Some egd → IsEgd rules.targets egd
  egd_is place egd at = All-contains (IsEgd rules.targets) rules.egds egd valid.rules.egds (contains_from_at rules.egds place egd at)

  -- the rows after an allowed run are made of such terms too
  pub run_made : (state : List Row) (journal : List JournalStep) (last : List Row) → IsRun rules state journal last
      → AreMade state → AreMade last
  run_made state [] last p made = All-permutation (λ (r : Row). IsMade rules size r.row) state last p made
  run_made state (step ∷ steps) last run made =
      let s = some_and (AppliedBy step state run.0) (slice_get rules.egds step.egd) run.1 in
      run_made run.0 steps last run.2
      (equates_made state s.0 (egd_is step.egd s.0 s.1) (step_terms step) step.span step.cuts run.0 s.2 made)

  -- what is told of its steps

  module _ (pool : List (List ℕ)) (low : length pool ≡ size) where
    in_pool : (term : Term) → IsTermMade rules size (term_value term) → IsInPool pool term
    in_pool (ConstTerm c) h = subst (λ n. c.0 < n) (sym low) h
    in_pool (NullTerm u) h = tt

    match_told : (state : List Row) → AreMade state → (step : JournalStep) (egd : Egd) → slice_get rules.egds step.egd ≡ Some egd
        → MatchesOver (λ k. k) state egd (step_terms step) step.span → CanTellStep rules pool step
    match_told state made step egd at m =
        let size_is : length step.binding ≡ length egd.vars = sym (length-map step.binding term_value) ∙ m.size in (
          and_some (λ (x : Egd). length step.binding ≡ length x.vars) (slice_get rules.egds step.egd) egd at size_is,
          λ k d l.
              let bound = bound_made state made egd (egd_is step.egd egd at) (step_terms step) step.span m k
              (subst (λ n. k < n) size_is l) in
              in_pool (get_or step.binding k d)
              (subst (IsTermMade rules size) (get_or-map term_value step.binding k d (unknown (numbered 0)) l) bound),
        )

    -- the steps of an allowed run can be told
    pub steps_told : (state : List Row) (journal : List JournalStep) (last : List Row) → IsRun rules state journal last
        → AreMade state → All (CanTellStep rules pool) journal
    steps_told state [] last p made = All-nil (CanTellStep rules pool)
    steps_told state (step ∷ steps) last run made =
        let s = some_and (AppliedBy step state run.0) (slice_get rules.egds step.egd) run.1 in
        All-cons (CanTellStep rules pool) step steps (match_told state made step s.0 s.1 s.2.matches)
        (steps_told run.0 steps last run.2
        (equates_made state s.0 (egd_is step.egd s.0 s.1) (step_terms step) step.span step.cuts run.0 s.2 made))

    -- and so can a clash after one
    pub clash_told : (state : List Row) (journal : List JournalStep) (clash : JournalStep) → LeadsToClash rules state journal clash
        → AreMade state → CanTellStep rules pool clash
    clash_told state journal clash leads made =
        let s = some_and (λ (egd : Egd). Clashes (λ k. k) id_cmp leads.last egd (step_terms clash) clash.span)
        (slice_get rules.egds clash.egd) leads.allowed.0 in
        match_told leads.last (run_made state journal leads.last leads.run made) clash s.0 s.1 s.2.matches
