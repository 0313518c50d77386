-- Each step of a journal lowers the measure: it takes an unknown away at an instant that counts, and adds none.
use Rattle.std.proofs.Common.{◌≡◌, ◌⊎◌, ◌<◌, ◌≤◌, ℤ, pos, ◌-ℤ◌, ◌<ℤ◌, ◌≤ℤ◌, int_le, int_lt, Bool, true, false, cond, ◌||◌, Option, Some, None, List, [], ◌∷◌, ◌++◌, map, flat_map}
use Rattle.std.proofs.Common.{refl, sym, ap, ◌∙◌, subst, inl, inr, arith, All, Contains, slice_get}
use Rattle.std.specs.List.{list_any}
use Rattle.std.specs.Ordering.{is_eq}
use Rattle.std.specs.declared.cmp.Ordering.{Ordering}
use Rattle.std.specs.declared.cmp.Ordering.TheVariants.{Less, Equal, Greater}
use Rattle.std.proofs.lemmas.Int.{ints}
use Rattle.std.proofs.lemmas.List.Elements.{All-contains, All-cons, Contains-append_left, Contains-append_right, Contains-append_cases}
use Rattle.std.proofs.lemmas.List.Sorted.{IsPermutation-sym, Contains-permutation}
use Rattle.time_line.specs.Span.{Ends, ends, Has, has, IsFrom, IsBefore, span_cmp}
use Rattle.rule_core.proofs.SnapshotLemmas.{Decides-has}
use Rattle.term_core.specs.declared.const_id.ConstId.{ConstId}
use Rattle.term_core.specs.Order.{id_cmp}
use Rattle.term_core.proofs.OrderLemmas.{id_cmp-IsAntisymmetric}
use Rattle.rule_core.specs.declared.rules.Egd.{Egd}
use Rattle.rule_core.specs.declared.rules.Relation.{Relation}
use Rattle.rule_core.specs.Terms.{Unknown, TermOf, constant, unknown, FactOf}
use Rattle.rule_core.specs.Order.{unknown_cmp}
use Rattle.rule_core.specs.Snapshot.{snapshot_at}
use Rattle.rule_core.specs.Renaming.{HasUnknown}
use Rattle.rule_core.specs.Validity.{IsEgd}
use Rattle.rule_core.proofs.ListLemmas.{Contains-nil, Contains-head, Contains-cons, Contains-cons_cases, Contains-from_map}
use Rattle.rule_core.proofs.OrderLemmas.{term_cmp-IsAntisymmetric}
use Rattle.failure_trace.specs.declared.journal.CutNote.{CutNote}
use Rattle.failure_trace.specs.Equating.{if_equal, replaced_fact}
use Rattle.failure_trace.specs.JournalRun.{RowOf, step_terms, MatchesOver, Cuts, CutInTurn, Equates, left_of, right_of, over, replaced_over}
use Rattle.failure_trace.proofs.SnapshotSteps.{shown}
use Rattle.egd_chase.specs.Measure.{StepsLowerTheMeasure, is_unknown, has_unknown, instants_held, holdings, unknowns_in, unknowns_of, around, instants_of, measure, IsEndIn, ComesFrom}
use Rattle.egd_chase.proofs.ListLemmas.{chosen, in_list, in_flat_map}
use Rattle.egd_chase.proofs.StepUnknowns.{tied_unknown, gone_there, gone_no_more, unknown_before}

-- the tests decide what they are to test
is_unknown_from : (u : Unknown ConstId) (term : TermOf ConstId) → is_unknown u term ≡ true → term ≡ unknown u
is_unknown_from u (constant c) e = absurd cc
is_unknown_from u (unknown w) e = by (unknown_cmp id_cmp w u) refl e
  where
    by : (o : Ordering) → unknown_cmp id_cmp w u ≡ o → is_eq o ≡ true → unknown w ≡ unknown u
    by Less tie e = absurd cc
    by Equal tie e = term_cmp-IsAntisymmetric id_cmp id_cmp-IsAntisymmetric (unknown w) (unknown u) tie
    by Greater tie e = absurd cc

is_unknown_to : (u : Unknown ConstId) → is_unknown u (unknown u) ≡ true
is_unknown_to u = ap is_eq (tied_unknown u)

any_from : {X : Type 0} (p : X → Bool) (xs : List X) → list_any p xs ≡ true → (x : X) × Contains xs x × (p x ≡ true)
any_from p [] e = absurd cc
any_from {X} p (x ∷ xs) e = by (p x) refl e (λ h. any_from p xs h)
  where
    by : (b : Bool) → p x ≡ b → (b || list_any p xs) ≡ true → (list_any p xs ≡ true → (y : X) × Contains xs y × (p y ≡ true))
        → (y : X) × Contains (x ∷ xs) y × (p y ≡ true)
    by true h e rest = (x, Contains-head x xs, h)
    by false h e rest = let k = rest e in (k.0, Contains-cons x k.0 xs k.1, k.2)

any_to : {X : Type 0} (p : X → Bool) (xs : List X) (x : X) → Contains xs x → p x ≡ true → list_any p xs ≡ true
any_to p [] x c e = absurd (Contains-nil x c)
any_to {X} p (y ∷ xs) x c e = by (p y) refl (λ d. any_to p xs x d e)
  where
    by : (b : Bool) → p y ≡ b → (Contains xs x → list_any p xs ≡ true) → (b || list_any p xs) ≡ true
    by true h rest = refl
    by false h rest = elim (Contains-cons_cases y x xs c) [
      | inl same ↦ absurd (let never = sym h ∙ ap p same ∙ e in absurd cc)
      | inr d ↦ rest d
    ]

has_from : (u : Unknown ConstId) (facts : List (FactOf ConstId)) → has_unknown u facts ≡ true → HasUnknown facts u
has_from u facts e =
    let f = any_from (λ (fact : FactOf ConstId). list_any (is_unknown u) fact.terms) facts e in
    let x = any_from (is_unknown u) f.0.terms f.2 in
    (f.1.0, f.0, f.1.1, f.1.2, subst (Contains f.0.terms) (is_unknown_from u x.0 x.2) x.1)

has_to : (u : Unknown ConstId) (facts : List (FactOf ConstId)) → HasUnknown facts u → has_unknown u facts ≡ true
has_to u facts h = any_to (λ (fact : FactOf ConstId). list_any (is_unknown u) fact.terms) facts h.1 (h.0, h.2, h.3)
    (any_to (is_unknown u) h.1.terms (unknown u) h.4 (is_unknown_to u))

-- where there is no unknown that there was not, no more is held
module _ (old new : List (RowOf ConstId))
    (fewer : (t : ℤ) (u : Unknown ConstId) → HasUnknown (snapshot_at new t) u → HasUnknown (snapshot_at old t) u) where
  one : (u : Unknown ConstId) (t : ℤ) → cond (has_unknown u (snapshot_at new t)) 1 0 ≤ cond (has_unknown u (snapshot_at old t)) 1 0
  one u t = by (has_unknown u (snapshot_at new t)) refl
    where
      by : (b : Bool) → has_unknown u (snapshot_at new t) ≡ b → cond b 1 0 ≤ cond (has_unknown u (snapshot_at old t)) 1 0
      by true e = rw (has_to u (snapshot_at old t) (fewer t u (has_from u (snapshot_at new t) e))) (omega arith)
      by false e = omega arith

  instants_fall : (u : Unknown ConstId) (ts : List ℤ) → instants_held new u ts ≤ instants_held old u ts
  instants_fall u [] = omega arith
  instants_fall u (t ∷ ts) = omega (arith, one u t, instants_fall u ts)

  holdings_fall : (us : List (Unknown ConstId)) (ts : List ℤ) → holdings new us ts ≤ holdings old us ts
  holdings_fall [] ts = omega arith
  holdings_fall (u ∷ us) ts = omega (arith, instants_fall u ts, holdings_fall us ts)

  module _ (u : Unknown ConstId) (t : ℤ) (was : HasUnknown (snapshot_at old t) u) (gone : ¬ (HasUnknown (snapshot_at new t) u)) where
    one_less : cond (has_unknown u (snapshot_at new t)) 1 0 < cond (has_unknown u (snapshot_at old t)) 1 0
    one_less = by (has_unknown u (snapshot_at new t)) refl
      where
        by : (b : Bool) → has_unknown u (snapshot_at new t) ≡ b → cond b 1 0 < cond (has_unknown u (snapshot_at old t)) 1 0
        by true e = absurd (gone (has_from u (snapshot_at new t) e))
        by false e = rw (has_to u (snapshot_at old t) was) (omega arith)

    instants_less : (ts : List ℤ) → Contains ts t → instants_held new u ts < instants_held old u ts
    instants_less [] c = absurd (Contains-nil t c)
    instants_less (s ∷ ts) c = elim (Contains-cons_cases s t ts c) [
      | inl e ↦ let first = subst (λ x. cond (has_unknown u (snapshot_at new x)) 1 0 < cond (has_unknown u (snapshot_at old x)) 1 0) (sym e) one_less in
          omega (arith, first, instants_fall u ts)
      | inr d ↦ omega (arith, one u s, instants_less ts d)
    ]

    holdings_less : (us : List (Unknown ConstId)) (ts : List ℤ) → Contains us u → Contains ts t → holdings new us ts < holdings old us ts
    holdings_less [] ts c d = absurd (Contains-nil u c)
    holdings_less (w ∷ us) ts c d = elim (Contains-cons_cases w u us c) [
      | inl e ↦ let first = subst (λ x. instants_held new x ts < instants_held old x ts) (sym e) (instants_less ts d) in
          omega (arith, first, holdings_fall us ts)
      | inr k ↦ omega (arith, instants_fall w ts, holdings_less us ts k d)
    ]

-- a row's ends and the instants before them count
module _ (first : List (RowOf ConstId)) where
  around_row : (row : RowOf ConstId) → List ℤ
  around_row row = around row.span.lo ++ around row.span.hi

  end_counts : (m : ℤ) → IsEndIn first m → Contains (instants_of first) m × Contains (instants_of first) (m -ℤ pos 1)
  end_counts m e =
      let both : (x : ℤ) → Contains (around e.0.span.lo ++ around e.0.span.hi) x → Contains (instants_of first) x =
      λ x c. Contains-cons (pos 0) x (flat_map (λ (row : RowOf ConstId). around row.span.lo ++ around row.span.hi) first)
      (in_flat_map (λ (row : RowOf ConstId). around row.span.lo ++ around row.span.hi) first e.0 x e.1 c) in
      elim e.2 [
        | inl s ↦ (both m (left s m (Contains-head m ((m -ℤ pos 1) ∷ []))), both (m -ℤ pos 1) (left s (m -ℤ pos 1) (Contains-cons m (m -ℤ pos 1) ((m -ℤ pos 1) ∷ []) (Contains-head (m -ℤ pos 1) []))))
        | inr s ↦ (both m (right s m (Contains-head m ((m -ℤ pos 1) ∷ []))), both (m -ℤ pos 1) (right s (m -ℤ pos 1) (Contains-cons m (m -ℤ pos 1) ((m -ℤ pos 1) ∷ []) (Contains-head (m -ℤ pos 1) []))))
      ]
    where
      left : (e.0.span.lo ≡ Some m) → (x : ℤ) → Contains (around (Some m)) x → Contains (around e.0.span.lo ++ around e.0.span.hi) x
      left s x c = Contains-append_left (around e.0.span.lo) (around e.0.span.hi) x (subst (λ (o : Option ℤ). Contains (around o) x) (sym s) c)

      right : (e.0.span.hi ≡ Some m) → (x : ℤ) → Contains (around (Some m)) x → Contains (around e.0.span.lo ++ around e.0.span.hi) x
      right s x c = Contains-append_right (around e.0.span.lo) (around e.0.span.hi) x (subst (λ (o : Option ℤ). Contains (around o) x) (sym s) c)

  zero_counts : Contains (instants_of first) (pos 0)
  zero_counts = Contains-head (pos 0) (flat_map (λ (row : RowOf ConstId). around row.span.lo ++ around row.span.hi) first)

  -- a span with an instant whose finite ends are ends of the rows has an instant that counts
  instant_counts : (c : Ends) (t : ℤ) → Has c t → ((m : ℤ) → (c.lo ≡ Some m) ⊎ (c.hi ≡ Some m) → IsEndIn first m)
      → (s : ℤ) × Has c s × Contains (instants_of first) s
  instant_counts c t h among = by c.lo c.hi refl refl
    where
      by : (lo hi : Option ℤ) → c.lo ≡ lo → c.hi ≡ hi → (s : ℤ) × Has c s × Contains (instants_of first) s
      by (Some m) (Some n) a b =
          let from : m ≤ℤ t = subst (λ o. IsFrom o t) a h.0 in
          let before : t <ℤ n = subst (λ o. IsBefore o t) b h.1 in
          (m, (subst (λ o. IsFrom o m) (sym a) (omega (arith, ints)), subst (λ o. IsBefore o m) (sym b) (omega (arith, ints))), (end_counts m (among m (inl a))).0)
      by (Some m) None a b =
          (m, (subst (λ o. IsFrom o m) (sym a) (omega (arith, ints)), subst (λ o. IsBefore o m) (sym b) tt), (end_counts m (among m (inl a))).0)
      by None (Some n) a b =
          (n -ℤ pos 1, (subst (λ o. IsFrom o (n -ℤ pos 1)) (sym a) tt, subst (λ o. IsBefore o (n -ℤ pos 1)) (sym b) (omega (arith, ints))), (end_counts n (among n (inr b))).1)
      by None None a b = (pos 0, (subst (λ o. IsFrom o (pos 0)) (sym a) tt, subst (λ o. IsBefore o (pos 0)) (sym b) tt), zero_counts)

-- the ends of rows are among those of the first
abbrev EndsAmong : List (RowOf ConstId) → List (RowOf ConstId) → Type 0
EndsAmong first rows = (m : ℤ) → IsEndIn rows m → IsEndIn first m

abbrev EndsOf : List (RowOf ConstId) → Ends → Type 0
EndsOf first c = (m : ℤ) → (c.lo ≡ Some m) ⊎ (c.hi ≡ Some m) → IsEndIn first m

-- an end of a row is one of the rows' ends
row_end : (rows : List (RowOf ConstId)) (row : RowOf ConstId) → Contains rows row → EndsOf rows row.span
row_end rows row there m e = (row, there, e)

module _ (first state : List (RowOf ConstId)) (term : TermOf ConstId) (c : Ends) (note : CutNote) (after : List (RowOf ConstId))
    (cut : Cuts state term c note after) (among : EndsAmong first state) (of : EndsOf first c) where
  abbrev before_it : RowOf ConstId → RowOf ConstId
  before_it = over (ends cut.span.lo (Some note.at))

  abbrev from_it : RowOf ConstId → RowOf ConstId
  from_it = over (ends (Some note.at) cut.span.hi)

  at_end : IsEndIn first note.at
  at_end = elim cut.end [
    | inl e ↦ of note.at (inl e)
    | inr e ↦ of note.at (inr e)
  ]

  row_ends : (row : RowOf ConstId) → Contains cut.rows row → EndsOf first cut.span
  row_ends row there m e =
      let same : row.span ≡ cut.span = All-contains (λ (r : RowOf ConstId). r.span ≡ cut.span) cut.rows row cut.spans there in
      let present = Contains-permutation (cut.rows ++ cut.others) state row cut.component.split (Contains-append_left cut.rows cut.others row there) in
      among m (row, present, subst (λ (s : Ends). (s.lo ≡ Some m) ⊎ (s.hi ≡ Some m)) (sym same) e)

  same_end : (m : ℤ) → Some note.at ≡ Some m → IsEndIn first m
  same_end m e = let same : note.at ≡ m = cc in subst (IsEndIn first) same at_end

  before_ends : (row : RowOf ConstId) → Contains (map before_it cut.rows) row → EndsOf first row.span
  before_ends row there m e =
      let from = Contains-from_map before_it cut.rows row there in
      elim (subst (λ (r : RowOf ConstId). (r.span.lo ≡ Some m) ⊎ (r.span.hi ≡ Some m)) (sym from.2) e) [
        | inl lo ↦ row_ends from.0 from.1 m (inl lo)
        | inr hi ↦ same_end m hi
      ]

  from_ends : (row : RowOf ConstId) → Contains (map from_it cut.rows) row → EndsOf first row.span
  from_ends row there m e =
      let from = Contains-from_map from_it cut.rows row there in
      elim (subst (λ (r : RowOf ConstId). (r.span.lo ≡ Some m) ⊎ (r.span.hi ≡ Some m)) (sym from.2) e) [
        | inl lo ↦ same_end m lo
        | inr hi ↦ row_ends from.0 from.1 m (inr hi)
      ]

  cut_ends : EndsAmong first after
  cut_ends m e =
      let there = Contains-permutation after (map before_it cut.rows ++ (map from_it cut.rows ++ cut.others)) e.0
      (IsPermutation-sym (map before_it cut.rows ++ (map from_it cut.rows ++ cut.others)) after cut.cut) e.1 in
      elim (Contains-append_cases (map before_it cut.rows) (map from_it cut.rows ++ cut.others) e.0 there) [
        | inl c ↦ before_ends e.0 c m e.2
        | inr d ↦ elim (Contains-append_cases (map from_it cut.rows) cut.others e.0 d) [
          | inl c ↦ from_ends e.0 c m e.2
          | inr c ↦ among m (
            e.0,
            Contains-permutation (cut.rows ++ cut.others) state e.0 cut.component.split
                (Contains-append_right cut.rows cut.others e.0 c),
            e.2,
          )
        ]
      ]

cuts_ends : (first state : List (RowOf ConstId)) (left right : TermOf ConstId) (c : Ends) (notes : List CutNote) (after : List (RowOf ConstId))
    → CutInTurn state left right c notes after → EndsAmong first state → EndsOf first c → EndsAmong first after
cuts_ends first state left right c [] after p among of = λ m e.
    among m (e.0, Contains-permutation after state e.0 (IsPermutation-sym state after p) e.1, e.2)
cuts_ends first state left right c (note ∷ notes) after k among of = cuts_ends first k.0 left right c notes after k.2
    (elim k.1 [
      | inl cut ↦ cut_ends first state left c note k.0 cut among of
      | inr cut ↦ cut_ends first state right c note k.0 cut among of
    ])
    of

-- one of the rows lacks an instant that not all have
lacking : (list : List (RowOf ConstId)) (t : ℤ) → ¬ (All (λ (r : RowOf ConstId). Has r.span t) list)
    → (row : RowOf ConstId) × Contains list row × ¬ (Has row.span t)
lacking [] t lack = absurd (lack (λ k d l. absurd (omega (arith, l))))
lacking (row ∷ list) t lack = by (has row.span t) refl
    (λ h. lacking list t (λ all. lack (All-cons (λ (r : RowOf ConstId). Has r.span t) row list h all)))
  where
    by : (b : Bool) → has row.span t ≡ b
        → (Has row.span t → (r : RowOf ConstId) × Contains list r × ¬ (Has r.span t))
        → (r : RowOf ConstId) × Contains (row ∷ list) r × ¬ (Has r.span t)
    by true e rest = let k = rest ((Decides-has row.span t).0 e) in (k.0, Contains-cons row k.0 list k.1, k.2)
    by false e rest = (row, Contains-head row list, λ h. let never = sym e ∙ (Decides-has row.span t).1 h in absurd cc)

-- a span that has an instant and not the one before it starts at it, and one that has the one before and not the instant stops at it
pub starts_at : (s : Ends) (m : ℤ) → Has s m → ¬ (Has s (m -ℤ pos 1)) → s.lo ≡ Some m
starts_at s m h lack = by s.lo s.hi refl refl
  where
    before : (hi : Option ℤ) → IsBefore hi m → IsBefore hi (m -ℤ pos 1)
    before None b = tt
    before (Some n) b = omega (arith, ints)

    by : (lo hi : Option ℤ) → s.lo ≡ lo → s.hi ≡ hi → s.lo ≡ Some m
    by None hi a b = absurd (lack (subst (λ o. IsFrom o (m -ℤ pos 1)) (sym a) tt, before s.hi h.1))
    by (Some l) hi a b = a ∙ ap Some (exactly l (subst (λ o. IsFrom o m) a h.0) (λ k. lack (subst (λ o. IsFrom o (m -ℤ pos 1)) (sym a) k, before s.hi h.1)))
      where
        exactly : (l : ℤ) → l ≤ℤ m → ¬ (l ≤ℤ (m -ℤ pos 1)) → l ≡ m
        exactly l a b = by_test (int_le l (m -ℤ pos 1)) refl
          where
            by_test : (t : Bool) → int_le l (m -ℤ pos 1) ≡ t → l ≡ m
            by_test true e = absurd (b (omega (arith, ints)))
            by_test false e = omega (arith, ints)

pub stops_at : (s : Ends) (m : ℤ) → Has s (m -ℤ pos 1) → ¬ (Has s m) → s.hi ≡ Some m
stops_at s m h lack = by s.lo s.hi refl refl
  where
    from : (lo : Option ℤ) → IsFrom lo (m -ℤ pos 1) → IsFrom lo m
    from None b = tt
    from (Some n) b = omega (arith, ints)

    by : (lo hi : Option ℤ) → s.lo ≡ lo → s.hi ≡ hi → s.hi ≡ Some m
    by lo None a b = absurd (lack (from s.lo h.0, subst (λ o. IsBefore o m) (sym b) tt))
    by lo (Some n) a b = b ∙ ap Some (exactly n (subst (λ o. IsBefore o (m -ℤ pos 1)) b h.1) (λ k. lack (from s.lo h.0, subst (λ o. IsBefore o m) (sym b) k)))
      where
        exactly : (n : ℤ) → (m -ℤ pos 1) <ℤ n → ¬ (m <ℤ n) → n ≡ m
        exactly n a b = by_test (int_lt m n) refl
          where
            by_test : (t : Bool) → int_lt m n ≡ t → n ≡ m
            by_test true e = absurd (b (omega (arith, ints)))
            by_test false e = omega (arith, ints)

-- the ends of a match's span are ends of the state's rows
module _ (state : List (RowOf ConstId)) (egd : Egd) (terms : List (TermOf ConstId)) (c : Ends) (m : MatchesOver (λ k. k) state egd terms c) where
  match_end : (at : ℤ) (out : ℤ) → Has c at → ¬ (Has c out) → (row : RowOf ConstId) × Contains state row × Has row.span at × ¬ (Has row.span out)
  match_end at out h lack =
      let k = lacking m.rows out (λ all. lack ((m.common out).1 all)) in (
        k.0,
        All-contains (Contains state) m.rows k.0 m.present k.1,
        All-contains (λ (r : RowOf ConstId). Has r.span at) m.rows k.0 ((m.common at).0 h) k.1,
        k.2,
      )

  pub match_ends : EndsOf state c
  match_ends at (inl e) =
      let t = m.instant in
      let inside : Has c at = (subst (λ o. IsFrom o at) (sym e) (omega (arith, ints)), earlier c.hi t.0 at t.1.1 (subst (λ o. IsFrom o t.0) e t.1.0)) in
      let k = match_end at (at -ℤ pos 1) inside (λ h. let never : at ≤ℤ (at -ℤ pos 1) = subst (λ o. IsFrom o (at -ℤ pos 1)) e h.0 in omega (arith, ints)) in
      (k.0, k.1, inl (starts_at k.0.span at k.2 k.3))
    where
      earlier : (hi : Option ℤ) (t s : ℤ) → IsBefore hi t → s ≤ℤ t → IsBefore hi s
      earlier None t s b l = tt
      earlier (Some n) t s b l = omega (arith, ints)
  match_ends at (inr e) =
      let t = m.instant in
      let inside : Has c (at -ℤ pos 1) = (later c.lo t.0 (at -ℤ pos 1) t.1.0 (last (subst (λ o. IsBefore o t.0) e t.1.1)), subst (λ o. IsBefore o (at -ℤ pos 1)) (sym e) (omega (arith, ints))) in
      let k = match_end (at -ℤ pos 1) at inside (λ h. let never : at <ℤ at = subst (λ o. IsBefore o at) e h.1 in omega (arith, ints)) in
      (k.0, k.1, inr (stops_at k.0.span at k.2 k.3))
    where
      last : {t : ℤ} → t <ℤ at → t ≤ℤ (at -ℤ pos 1)
      last {t} l = omega (arith, ints)

      later : (lo : Option ℤ) (t s : ℤ) → IsFrom lo t → t ≤ℤ s → IsFrom lo s
      later None t s b l = tt
      later (Some n) t s b l = omega (arith, ints)

-- the rows themselves
pub comes_from_itself : (first : List (RowOf ConstId)) → ComesFrom first first
comes_from_itself first = record {
  ends = λ m e. e;
  unknowns = λ t u h.
      let row = shown t first h.1 (h.0, h.2, h.3) in
      in_flat_map (λ (r : RowOf ConstId). unknowns_in r.row.terms) first row.0 u row.1
      (in_terms row.0.row.terms u (subst (λ (f : FactOf ConstId). Contains f.terms (unknown u)) (sym row.2) h.4));
}
  where
    in_terms : (terms : List (TermOf ConstId)) (u : Unknown ConstId) → Contains terms (unknown u) → Contains (unknowns_in terms) u
    in_terms [] u c = absurd (Contains-nil (unknown u) c)
    in_terms (constant k ∷ terms) u c = elim (Contains-cons_cases (constant k) (unknown u) terms c) [
      | inl e ↦ absurd cc
      | inr d ↦ in_terms terms u d
    ]
    in_terms (unknown w ∷ terms) u c = elim (Contains-cons_cases (unknown w) (unknown u) terms c) [
      | inl e ↦ let same : w ≡ u = cc in subst (Contains (w ∷ unknowns_in terms)) same (Contains-head w (unknowns_in terms))
      | inr d ↦ Contains-cons w u (unknowns_in terms) (in_terms terms u d)
    ]

-- and after each step
module _ (relations : List Relation) (egd : Egd) (is : IsEgd relations egd) (first state after : List (RowOf ConstId))
    (terms : List (TermOf ConstId)) (c : Ends) (notes : List CutNote) (step : Equates (λ k. k) id_cmp state egd terms c notes after)
    (from : ComesFrom first state) where
  of_first : EndsOf first c
  of_first m e = from.ends m (match_ends state egd terms c step.matches m e)

  cut_among : EndsAmong first step.cut
  cut_among = cuts_ends first state (left_of egd terms) (right_of egd terms) c notes step.cut step.cuts from.ends of_first

  changed : RowOf ConstId → RowOf ConstId
  changed = replaced_over id_cmp step.replacement c

  changed_span : (row : RowOf ConstId) (o : Ordering) → (if_equal o (record row { row = replaced_fact id_cmp step.replacement row.row }) row).span ≡ row.span
  changed_span row Less = refl
  changed_span row Equal = refl
  changed_span row Greater = refl

  after_among : EndsAmong first after
  after_among m e =
      let old = Contains-from_map (replaced_over id_cmp step.replacement c) step.cut e.0
      (Contains-permutation after (map (replaced_over id_cmp step.replacement c) step.cut) e.0
      (IsPermutation-sym (map (replaced_over id_cmp step.replacement c) step.cut) after step.replaced) e.1) in
      let same : e.0.span ≡ old.0.span = ap (λ (r : RowOf ConstId). r.span) (sym old.2) ∙ changed_span old.0 (span_cmp old.0.span c) in
      cut_among m (old.0, old.1, subst (λ (s : Ends). (s.lo ≡ Some m) ⊎ (s.hi ≡ Some m)) same e.2)

  pub step_comes_from : ComesFrom first after
  step_comes_from = record {
    ends = after_among;
    unknowns = λ t u h. from.unknowns t u (unknown_before relations egd is state after terms c notes step t u h);
  }

  pub step_lowers : measure first after < measure first state
  step_lowers =
      let t = step.matches.instant in
      let s = instant_counts first c t.0 t.1 of_first in
      let was = gone_there relations egd is state after terms c notes step s.0 s.1 in
      holdings_less state after (λ t u h. unknown_before relations egd is state after terms c notes step t u h)
      step.replacement.gone s.0 was (gone_no_more relations egd is state after terms c notes step s.0 s.1)
      (unknowns_of first) (instants_of first) (from.unknowns s.0 step.replacement.gone was) s.2

pub steps_lower : StepsLowerTheMeasure
steps_lower rules first state after step valid from is =
    let k = chosen (λ egd. Equates (λ c. c) id_cmp state egd (step_terms step) step.span step.cuts after) (slice_get rules.egds step.egd) is in
    let egd = All-contains (IsEgd rules.targets) rules.egds k.0 valid.rules.egds (in_list rules.egds step.egd k.0 k.1) in (
      step_comes_from rules.targets k.0 egd first state after (step_terms step) step.span step.cuts k.2 from,
      step_lowers rules.targets k.0 egd first state after (step_terms step) step.span step.cuts k.2 from,
    )
