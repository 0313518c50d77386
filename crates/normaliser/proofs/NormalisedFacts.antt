-- Worked values of the definitions. Of A(a) over 1 to 5, B(a) over 4 to 9 and C(a) over 7 to 12, under A(x), B(x), C(x), no two facts
-- are of one group, since the three have no common instant; under A(x), B(x) the first two are, and are cut at 4 and 5.
use Rattle.std.proofs.Common.{◌≡◌, ◌⊎◌, ℕ, zero, suc, ◌<◌, ℤ, pos, ◌≤ℤ◌, ◌<ℤ◌, Some, List, [], ◌∷◌, refl, sym, ap, subst, inl, ⊎_elim, arith, codes, All, Contains}
use Rattle.std.proofs.lemmas.Int.{ints}
use Rattle.std.specs.Prelude.{IsSomeAnd, slice_get}
use Rattle.std.specs.List.{AllZip}
use Rattle.std.proofs.lemmas.List.Elements.{All-nil, All-cons, All-head, All-tail}
use Rattle.time_line.specs.Span.{Has, IsInside}
use Rattle.term_core.specs.declared.const_id.ConstId.{ConstId}
use Rattle.term_core.specs.declared.term.Seen.{Seen}
use Rattle.term_core.specs.declared.term.Seen.TheVariants.{Const}
use Rattle.rule_core.specs.declared.rules.Atom.{Atom}
use Rattle.rule_core.specs.declared.rules.Arg.TheVariants.{Var}
use Rattle.rule_core.specs.declared.rules.Tgd.{Tgd}
use Rattle.rule_core.specs.Mapping.{RuleSet}
use Rattle.rule_core.specs.Terms.{FactOf, constant}
use Rattle.rule_core.proofs.ListLemmas.{Contains-head, Contains-cons, Contains-cons_cases, Contains-nil}
use Rattle.fact_table.specs.declared.fact.Fact.{Fact}
use Rattle.fact_table.specs.Rows.{SeenRow, row_at, row_of, rows_of}
use Rattle.body_match.specs.Matches.{seen_value, IsImage, IsImageAt, HoldsAt}
use Rattle.body_match.proofs.SearchLemmas.{some_and, same_some}
use Rattle.fact_table.specs.Snapshots.{snapshot_of}
use Rattle.normaliser.specs.Normalised.{AreJoined, AreOfOneGroup, IsEndOf, IsEndInGroup, IsPieceOf}
use Rattle.normaliser.specs.Normalised.Reaches.{here, step}
use Rattle.normaliser.proofs.InsideLemmas.{end_is_outside}

abbrev a : ConstId
a = record { 0 = 7 }

abbrev fact : ℕ → ℤ → ℤ → Fact
fact relation lo hi = record { relation = relation; row = a ∷ []; span = record { lo = Some lo; hi = Some hi } }

abbrev table : List Fact
table = fact 0 (pos 1) (pos 5) ∷ fact 1 (pos 4) (pos 9) ∷ fact 2 (pos 7) (pos 12) ∷ []

abbrev atom : ℕ → Atom
atom relation = record { relation = relation; args = Var 0 ∷ [] }

abbrev tgd_of : List Atom → Tgd
tgd_of body = record { name = codes "t"; vars = codes "x" ∷ []; body_vars = 1; body = body; head = atom 0 ∷ [] }

abbrev of_body : List Atom → RuleSet
of_body body = record {
  sources = [];
  targets = [];
  tgds = tgd_of body ∷ [];
  egds = [];
  queries = [];
}

abbrev of_two : RuleSet
of_two = of_body (atom 0 ∷ atom 1 ∷ [])

abbrev of_three : RuleSet
of_three = of_body (atom 0 ∷ atom 1 ∷ atom 2 ∷ [])

abbrev shown : ℕ → FactOf ConstId
shown relation = record { relation = relation; terms = constant a ∷ [] }

-- at 4 the first two hold, and at 5 the second alone
both_hold : snapshot_of table (pos 4) ≡ shown 0 ∷ shown 1 ∷ []
both_hold = refl

one_holds : snapshot_of table (pos 5) ≡ shown 1 ∷ []
one_holds = refl

-- the rows of the table by their relations
of_relation : (n : ℕ) (row : SeenRow) → row_at (rows_of table) n ≡ Some row → (row.relation ≡ 0 → row ≡ row_of (fact 0 (pos 1) (pos 5)))
    × (row.relation ≡ 2 → row ≡ row_of (fact 2 (pos 7) (pos 12))) × ((row.relation ≡ 0) ⊎ (row.relation ≡ 1) → n < 2)
of_relation zero row e =
    let is : row_of (fact 0 (pos 1) (pos 5)) ≡ row = cc in
    let relation : 0 ≡ row.relation = ap (λ (r : SeenRow). r.relation) is in
    (λ _. sym is, λ h. absurd (omega (arith, relation, h)), λ _. omega arith)
of_relation (suc zero) row e =
    let is : row_of (fact 1 (pos 4) (pos 9)) ≡ row = cc in
    let relation : 1 ≡ row.relation = ap (λ (r : SeenRow). r.relation) is in
    (λ h. absurd (omega (arith, relation, h)), λ h. absurd (omega (arith, relation, h)), λ _. omega arith)
of_relation (suc (suc zero)) row e =
    let is : row_of (fact 2 (pos 7) (pos 12)) ≡ row = cc in
    let relation : 2 ≡ row.relation = ap (λ (r : SeenRow). r.relation) is in (
      λ h. absurd (omega (arith, relation, h)),
      λ _. sym is,
      λ h. ⊎_elim
          (λ (p : row.relation ≡ 0). absurd (omega (arith, relation, p)))
          (λ (p : row.relation ≡ 1). absurd (omega (arith, relation, p))) h,
    )
of_relation (suc (suc (suc n))) row e = absurd cc

holds_row : (n : ℕ) (t : ℤ) (row : SeenRow) → row_at (rows_of table) n ≡ Some row → HoldsAt (rows_of table) t n → Has row.span t
holds_row n t row e h =
    let s = some_and (λ (r : SeenRow). Has r.span t) (row_at (rows_of table) n) h in
    subst (λ (r : SeenRow). Has r.span t) (same_some (row_at (rows_of table) n) s.0 row s.1 e) s.2

-- where each row of a list holds at an instant and rows match atoms of relations 0 and 2, these can't be
apart : (binding : List Seen) (t : ℤ) (numbers : List ℕ)
    → AllZip (IsImageAt (rows_of table) (seen_value binding)) (atom 0 ∷ atom 1 ∷ atom 2 ∷ []) numbers → ¬ (All (HoldsAt (rows_of table) t) numbers)
apart binding t [] z all = z
apart binding t (x ∷ []) z all = z.1
apart binding t (x ∷ y ∷ []) z all = z.1.1
apart binding t (x ∷ y ∷ w ∷ more) z all =
    let first = some_and (IsImage (seen_value binding) (atom 0)) (row_at (rows_of table) x) z.0 in
    let last = some_and (IsImage (seen_value binding) (atom 2)) (row_at (rows_of table) w) z.1.1.0 in
    let later = All-tail (HoldsAt (rows_of table) t) y (w ∷ more) (All-tail (HoldsAt (rows_of table) t) x (y ∷ w ∷ more) all) in
    let early = holds_row x t first.0 first.1 (All-head (HoldsAt (rows_of table) t) x (y ∷ w ∷ more) all) in
    let late = holds_row w t last.0 last.1 (All-head (HoldsAt (rows_of table) t) w more later) in
    let before : t <ℤ pos 5 = (subst (λ (r : SeenRow). Has r.span t) ((of_relation x first.0 first.1).0 first.2.relation) early).1 in
    let from : pos 7 ≤ℤ t = (subst (λ (r : SeenRow). Has r.span t) ((of_relation w last.0 last.1).1 last.2.relation) late).0 in
    omega (arith, ints, before, from)

-- the three have no instant in common, so that none is joined with another
none_joined : (x y : ℕ) → ¬ (AreJoined of_three table x y)
none_joined x y h = ⊎_elim
    (λ (e : tgd_of (atom 0 ∷ atom 1 ∷ atom 2 ∷ []) ≡ h.tgd). apart h.fits.0 h.meet.0 h.numbers
    (subst (λ (g : Tgd). AllZip (IsImageAt (rows_of table) (seen_value h.fits.0)) g.body h.numbers) (sym e) h.fits.1) h.meet.1)
    (λ (c : Contains [] h.tgd). Contains-nil h.tgd c)
    (Contains-cons_cases (tgd_of (atom 0 ∷ atom 1 ∷ atom 2 ∷ [])) h.tgd [] h.rule)

-- under the body of two atoms the first two are joined, by the instant 4
two_joined : AreJoined of_two table 0 1
two_joined = record {
  tgd = tgd_of (atom 0 ∷ atom 1 ∷ []);
  numbers = 0 ∷ 1 ∷ [];
  rule = Contains-head (tgd_of (atom 0 ∷ atom 1 ∷ [])) [];
  fits = (Const a ∷ [], (record { relation = refl; cells = refl }, (record { relation = refl; cells = refl }, tt)));
  meet = (
    pos 4,
    All-cons (HoldsAt (rows_of table) (pos 4)) 0 (1 ∷ []) (omega (arith, ints), omega (arith, ints))
        (All-cons (HoldsAt (rows_of table) (pos 4)) 1 [] (omega (arith, ints), omega (arith, ints)) (All-nil (HoldsAt (rows_of table) (pos 4)))),
  );
  uses = (Contains-head 0 (1 ∷ []), Contains-cons 0 1 (1 ∷ []) (Contains-head 1 []));
}

-- so the start of the second cuts the first, which is no piece whole
four_cuts : IsEndInGroup of_two table 0 (pos 4)
four_cuts = (1, step two_joined here, inl refl)

whole_is_refused : ¬ (IsPieceOf (IsEndInGroup of_two table 0) (fact 0 (pos 1) (pos 5)) (fact 0 (pos 1) (pos 5)))
whole_is_refused h = h.part.uncut (pos 4) four_cuts ((omega (arith, ints), omega (arith, ints)), (omega (arith, ints), omega (arith, ints)))

-- under the body of three atoms it is
whole_is_piece : IsPieceOf (IsEndInGroup of_three table 0) (fact 0 (pos 1) (pos 5)) (fact 0 (pos 1) (pos 5))
whole_is_piece = record {
  relation = refl;
  row = refl;
  part = record {
    instant = (pos 1, (omega (arith, ints), omega (arith, ints)));
    within = λ t h. h;
    bounds = λ m e. inl e;
    uncut = λ m c i. alone m c.0 c.1 c.2 i;
  };
}
  where
    alone : (m : ℤ) (other : ℕ) → AreOfOneGroup of_three table 0 other → IsSomeAnd (slice_get table other) (λ f. IsEndOf f.span m)
        → ¬ (IsInside (fact 0 (pos 1) (pos 5)).span m)
    alone m zero r e i = end_is_outside (fact 0 (pos 1) (pos 5)).span m e i
    alone m (suc n) r e i = moved r
      where
        moved : AreOfOneGroup of_three table 0 (suc n) → ⊥
        moved (step j rest) = none_joined _ _ j
