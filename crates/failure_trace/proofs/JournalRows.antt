-- Steps of journals that are worked out by hand. In the first run, P(a, ?y) and K(a, b) over [1, 6) make ?y the constant b, and only then
-- does P(a, b) match Q(b, ?w), whose row over [4, 9) is cut at 6. In the second, P(a, ?z) and Q(?z, ?v) are a component of two rows,
-- which are cut at 5, where K(a, b) begins.
use Rattle.std.proofs.Common.{◌≡◌, ℕ, ℤ, pos, ◌≤ℤ◌, ◌<ℤ◌, Some, List, [], ◌∷◌, map}
use Rattle.std.proofs.Common.{refl, inl, inr, arith, codes, All, Contains}
use Rattle.std.proofs.lemmas.Int.{ints}
use Rattle.std.proofs.lemmas.List.Elements.{All-nil, All-cons, All-head, All-tail}
use Rattle.std.proofs.lemmas.List.Sorted.{IsPermutation-refl, IsPermutation-sym, IsPermutation-to_front}
use Rattle.term_core.specs.declared.const_id.ConstId.{ConstId}
use Rattle.time_line.specs.Span.{Ends, ends, Has, Meet}
use Rattle.rule_core.specs.declared.rules.Arg.TheVariants.{Var}
use Rattle.rule_core.specs.declared.rules.Atom.{Atom}
use Rattle.rule_core.specs.declared.rules.Egd.{Egd}
use Rattle.rule_core.specs.Terms.{Unknown, named, TermOf, constant, unknown}
use Rattle.rule_core.proofs.ListLemmas.{Contains-nil, Contains-head, Contains-cons, Contains-cons_cases, Contains-from_map}
use Rattle.failure_trace.specs.JournalRun.{Reaches, here, further, RowOf, Share, HoldsTerm, MatchesOver, Cuts, Equates}
use Rattle.failure_trace.specs.TraceRun.{text_cmp}

abbrev Row : Type 0
Row = RowOf (List ℕ)

abbrev Term : Type 0
Term = TermOf (List ℕ)

abbrev row_over : ℕ → List Term → ℕ → ℕ → Row
row_over relation terms lo hi = record { row = record { relation = relation; terms = terms }; span = ends (Some (pos lo)) (Some (pos hi)) }

abbrev atom : ℕ → List ℕ → Atom
atom relation variables = record { relation = relation; args = map Var variables }

abbrev egd : List (List ℕ) → List Atom → ℕ → ℕ → Egd
egd vars body left right = record { name = codes "e"; vars = vars; body = body; left = left; right = right }

abbrev a : Term
a = constant (codes "a")

abbrev b : Term
b = constant (codes "b")

abbrev of_rule : ℕ → ℕ → Unknown (List ℕ)
of_rule rule var = named rule (codes "a" ∷ []) var

abbrev null : ℕ → ℕ → Term
null rule var = unknown (of_rule rule var)

abbrev between : ℕ → ℕ → Ends
between lo hi = ends (Some (pos lo)) (Some (pos hi))

-- rows of constants hold no unknown
no_unknown : (texts : List (List ℕ)) (u : Unknown (List ℕ)) → ¬ (Contains (map constant texts) (unknown u))
no_unknown texts u c = let from = Contains-from_map constant texts (unknown u) c in let e = from.2 in absurd cc

-- facts about the only row, and about two
one_row : (P : Row → Type 0) (x : Row) → P x → All P (x ∷ [])
one_row P x p = All-cons P x [] p (All-nil P)

two_rows : (P : Row → Type 0) (x y : Row) → P x → P y → All P (x ∷ y ∷ [])
two_rows P x y p q = All-cons P x (y ∷ []) p (one_row P y q)

abbrev names : List (List ℕ)
names = codes "x" ∷ codes "y" ∷ codes "z" ∷ []

module _ (name : ConstId → List ℕ) where
  -- P(x, y), K(x, k) -> y = k
  abbrev first : Egd
  first = egd names (atom 0 (0 ∷ 1 ∷ []) ∷ atom 1 (0 ∷ 2 ∷ []) ∷ []) 1 2

  -- P(x, y), Q(y, w) -> w = x
  abbrev second : Egd
  second = egd names (atom 0 (0 ∷ 1 ∷ []) ∷ atom 2 (1 ∷ 2 ∷ []) ∷ []) 2 0

  abbrev p : Term → Row
  p y = row_over 0 (a ∷ y ∷ []) 1 6

  abbrev k : Row
  k = row_over 1 (a ∷ b ∷ []) 1 6

  abbrev q : Term → ℕ → ℕ → Row
  q w lo hi = row_over 2 (b ∷ w ∷ []) lo hi

  abbrev w : Term
  w = null 2 0

  abbrev y : Term
  y = null 0 0

  abbrev fired : List Row
  fired = p y ∷ k ∷ q w 4 9 ∷ []

  abbrev after_first : List Row
  after_first = p b ∷ k ∷ q w 4 9 ∷ []

  -- a term that is one unknown is no other
  only_w : (u : Unknown (List ℕ)) → w ≡ unknown u → u ≡ of_rule 2 0
  only_w u e = cc

  first_matches : MatchesOver name fired first (a ∷ y ∷ b ∷ []) (between 1 6)
  first_matches = record {
    size = refl;
    rows = p y ∷ k ∷ [];
    present = two_rows (Contains fired) (p y) k (0, omega arith, refl) (1, omega arith, refl);
    images = refl;
    instant = (pos 1, (omega (arith, ints), omega (arith, ints)));
    common = λ t. (
      λ h. two_rows (λ r. Has r.span t) (p y) k h h,
      λ h. All-head (λ r. Has r.span t) (p y) (k ∷ []) h,
    );
  }

  first_step : Equates name text_cmp fired first (a ∷ y ∷ b ∷ []) (between 1 6) [] after_first
  first_step = record {
    matches = first_matches;
    replacement = record { gone = of_rule 0 0; by = b };
    sides = refl;
    cut = fired;
    cuts = IsPermutation-refl fired;
    left = All-cons (λ r. HoldsTerm r y → Meet r.span (between 1 6) → r.span ≡ between 1 6) (p y) (k ∷ q w 4 9 ∷ [])
        (λ _ _. refl)
        (two_rows (λ r. HoldsTerm r y → Meet r.span (between 1 6) → r.span ≡ between 1 6) k (q w 4 9)
        (λ _ _. refl)
        (λ h m. absurd (not_in_q h)));
    right = λ i d l h m. let e = h.1 in absurd cc;
    replaced = IsPermutation-refl after_first;
  }
    where
      not_in_q : ¬ (HoldsTerm (q w 4 9) y)
      not_in_q h = elim (Contains-cons_cases b (unknown h.0) (w ∷ []) h.2) [
        | inl e ↦ absurd cc
        | inr c ↦ elim (Contains-cons_cases w (unknown h.0) [] c) [
          | inl e ↦ let x = h.1 in absurd cc
          | inr n ↦ absurd (Contains-nil (unknown h.0) n)
        ]
      ]

  abbrev cut_q : List Row
  cut_q = q w 4 6 ∷ q w 6 9 ∷ p b ∷ k ∷ []

  abbrev after_second : List Row
  after_second = q a 4 6 ∷ q w 6 9 ∷ p b ∷ k ∷ []

  second_matches : MatchesOver name after_first second (a ∷ b ∷ w ∷ []) (between 4 6)
  second_matches = record {
    size = refl;
    rows = p b ∷ q w 4 9 ∷ [];
    present = two_rows (Contains after_first) (p b) (q w 4 9) (0, omega arith, refl) (2, omega arith, refl);
    images = refl;
    instant = (pos 4, (omega (arith, ints), omega (arith, ints)));
    common = λ t. (
      λ h.
          let from : pos 4 ≤ℤ t = h.0 in
          let before : t <ℤ pos 6 = h.1 in
          two_rows (λ r. Has r.span t) (p b) (q w 4 9) (omega (arith, ints), before) (from, omega (arith, ints)),
      λ h. (
        (All-head (λ r. Has r.span t) (q w 4 9) [] (All-tail (λ r. Has r.span t) (p b) (q w 4 9 ∷ []) h)).0,
        (All-head (λ r. Has r.span t) (p b) (q w 4 9 ∷ []) h).1,
      ),
    );
  }

  -- the component of Q's row is this row
  second_cut : Cuts after_first w (between 4 6) (record { at = pos 6; rows = 1 }) cut_q
  second_cut = record {
    rows = q w 4 9 ∷ [];
    others = p b ∷ k ∷ [];
    span = between 4 9;
    component = record {
      from = q w 4 9;
      holds = (of_rule 2 0, refl, (1, omega arith, refl));
      within = Contains-head (q w 4 9) [];
      split = IsPermutation-sym after_first (q w 4 9 ∷ p b ∷ k ∷ []) (IsPermutation-to_front (p b ∷ k ∷ []) (q w 4 9));
      reached = one_row (Reaches (λ r s. Contains (q w 4 9 ∷ []) s × Share r s) (q w 4 9)) (q w 4 9) here;
      apart = one_row (λ r. All (λ s. ¬ (Share r s)) (p b ∷ k ∷ [])) (q w 4 9) (two_rows (λ s. ¬ (Share (q w 4 9) s)) (p b) k
          (λ s. absurd (no_unknown (codes "a" ∷ codes "b" ∷ []) s.0 s.2))
          (λ s. absurd (no_unknown (codes "a" ∷ codes "b" ∷ []) s.0 s.2)));
    };
    spans = one_row (λ r. r.span ≡ between 4 9) (q w 4 9) refl;
    covers = λ t h. let before : t <ℤ pos 6 = h.1 in (h.0, omega (arith, ints));
    end = inr refl;
    inside = ((omega (arith, ints), omega (arith, ints)), (omega (arith, ints), omega (arith, ints)));
    count = refl;
    cut = IsPermutation-refl cut_q;
  }

  abbrev Stands : Row → Type 0
  Stands r = HoldsTerm r w → Meet r.span (between 4 6) → r.span ≡ between 4 6

  second_step : Equates name text_cmp after_first second (a ∷ b ∷ w ∷ []) (between 4 6) (record { at = pos 6; rows = 1 } ∷ []) after_second
  second_step = record {
    matches = second_matches;
    replacement = record { gone = of_rule 2 0; by = a };
    sides = refl;
    cut = cut_q;
    cuts = (cut_q, inl second_cut, IsPermutation-refl cut_q);
    left = All-cons Stands (q w 4 6) (q w 6 9 ∷ p b ∷ k ∷ []) (λ _ _. refl)
        (All-cons Stands (q w 6 9) (p b ∷ k ∷ []) (λ _ m. absurd (apart m.0 m.1.0 m.2.1))
        (two_rows Stands (p b) k
        (λ h _. absurd (no_unknown (codes "a" ∷ codes "b" ∷ []) h.0 h.2))
        (λ h _. absurd (no_unknown (codes "a" ∷ codes "b" ∷ []) h.0 h.2))));
    right = λ i d l h m. let e = h.1 in absurd cc;
    replaced = IsPermutation-refl after_second;
  }
    where
      apart : (t : ℤ) → pos 6 ≤ℤ t → ¬ (t <ℤ pos 6)
      apart t from before = omega (arith, ints)

  -- P(x, z), Q(z, v), K(x, k) -> v = k, where x, z, v and k are numbered in this order
  abbrev third : Egd
  third = egd (codes "x" ∷ codes "z" ∷ codes "v" ∷ codes "k" ∷ []) (atom 0 (0 ∷ 1 ∷ []) ∷ atom 1 (1 ∷ 2 ∷ []) ∷ atom 2 (0 ∷ 3 ∷ []) ∷ []) 2 3

  abbrev z : Term
  z = null 0 0

  abbrev v : Term
  v = null 0 1

  abbrev pz : ℕ → ℕ → Row
  pz lo hi = row_over 0 (a ∷ z ∷ []) lo hi

  abbrev qz : Term → ℕ → ℕ → Row
  qz x lo hi = row_over 1 (z ∷ x ∷ []) lo hi

  abbrev kb : Row
  kb = row_over 2 (a ∷ b ∷ []) 5 9

  abbrev linked : List Row
  linked = pz 1 9 ∷ qz v 1 9 ∷ []

  abbrev cut_both : List Row
  cut_both = pz 1 5 ∷ qz v 1 5 ∷ pz 5 9 ∷ qz v 5 9 ∷ kb ∷ []

  abbrev Shared : Row → Row → Type 0
  Shared r s = Contains linked s × Share r s

  -- the rows share z, and so both are cut
  both_cut : Cuts (pz 1 9 ∷ qz v 1 9 ∷ kb ∷ []) v (between 5 9) (record { at = pos 5; rows = 2 }) cut_both
  both_cut = record {
    rows = linked;
    others = kb ∷ [];
    span = between 1 9;
    component = record {
      from = qz v 1 9;
      holds = (of_rule 0 1, refl, (1, omega arith, refl));
      within = Contains-cons (pz 1 9) (qz v 1 9) (qz v 1 9 ∷ []) (Contains-head (qz v 1 9) []);
      split = IsPermutation-refl (pz 1 9 ∷ qz v 1 9 ∷ kb ∷ []);
      reached = two_rows (Reaches Shared (qz v 1 9)) (pz 1 9) (qz v 1 9)
          (further (qz v 1 9) (pz 1 9) here (Contains-head (pz 1 9) (qz v 1 9 ∷ []), share)) here;
      apart = two_rows (λ r. All (λ s. ¬ (Share r s)) (kb ∷ [])) (pz 1 9) (qz v 1 9)
          (one_row (λ s. ¬ (Share (pz 1 9) s)) kb (λ s. absurd (no_unknown (codes "a" ∷ codes "b" ∷ []) s.0 s.2)))
          (one_row (λ s. ¬ (Share (qz v 1 9) s)) kb (λ s. absurd (no_unknown (codes "a" ∷ codes "b" ∷ []) s.0 s.2)));
    };
    spans = two_rows (λ r. r.span ≡ between 1 9) (pz 1 9) (qz v 1 9) refl refl;
    covers = λ t h. let from : pos 5 ≤ℤ t = h.0 in (omega (arith, ints), h.1);
    end = inl refl;
    inside = ((omega (arith, ints), omega (arith, ints)), (omega (arith, ints), omega (arith, ints)));
    count = refl;
    cut = IsPermutation-refl cut_both;
  }
    where
      share : Share (qz v 1 9) (pz 1 9)
      share = (
        of_rule 0 0,
        (0, omega arith, refl),
        (1, omega arith, refl),
        (pos 1, (omega (arith, ints), omega (arith, ints)), (omega (arith, ints), omega (arith, ints))),
      )
