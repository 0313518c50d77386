-- That there is a list of all matches.
use Rattle.std.proofs.Common.{◌≡◌, ◌⊎◌, inl, inr, ℕ, ℤ, zero, suc, ◌+◌, ◌<◌, ◌≤◌, Bool, true, false, pos, Option, Some, None, List, [], ◌∷◌, ◌++◌, length, map, refl, sym, ap, ◌∙◌, subst, ⊎_elim, arith, All, AllPairs, Contains}
use Rattle.std.specs.Prelude.{slice_get, IsSome}
use Rattle.std.specs.Ordering.{nat_cmp, ord_max, ord_min}
use Rattle.std.specs.Cmp.{IsTotalOrder}
use Rattle.std.specs.Cmp.Lexicographic.{slice_cmp}
use Rattle.std.proofs.lemmas.Bool.{cases_lt, false≢true}
use Rattle.std.proofs.lemmas.Cmp.{on_total, lists_total, nat_cmp_total, tied_itself}
use Rattle.std.proofs.lemmas.List.{length_push, length-map, append-nil}
use Rattle.std.proofs.lemmas.List.Elements.{All-nil, All-head, All-tail}
use Rattle.std.proofs.lemmas.Int.{ints, by_lt_z}
use Rattle.time_line.specs.Span.{Ends, Has, IsFrom, IsBefore, AreOrdered, start_cmp, stop_cmp}
use Rattle.time_line.proofs.SpanLemmas.{IsMeet-from_ends, HasInstant-from_ordered}
use Rattle.term_core.specs.declared.term.Seen.{Seen}
use Rattle.term_core.specs.declared.term.Seen.TheVariants as cells
use Rattle.rule_core.specs.declared.rules.Arg.{Arg}
use Rattle.rule_core.specs.declared.rules.Atom.{Atom}
use Rattle.rule_core.proofs.ListLemmas.{AllPairs-head, AllPairs-tail, Contains-head, Contains-cons, Contains-cons_cases, Contains-nil}
use Rattle.fact_table.specs.Rows.{SeenRow, row_at, cell_at}
use Rattle.body_match.specs.declared.found.Match.{Match}
use Rattle.body_match.specs.declared.places.Place.{Place}
use Rattle.body_match.specs.Matches.{seen_value, IsImage, HoldsAt, StandsBefore, IsMatch, AreMatches}
use Rattle.body_match.specs.Visits.{TakesInTurn}
use Rattle.body_match.specs.Search.{Task, IsFindable, IsTask, cell_in, placed_value, Agrees, IsPartial, IsListedFrom, Gives}
use Rattle.body_match.proofs.ListLemmas.{at_within, within_from_at}
use Rattle.body_match.proofs.SearchLemmas.{some_and, same_some, next_image, next_agrees, next_meets, next_partial}
use Rattle.body_match.proofs.KeyLemmas.{number_within}
use Rattle.body_match.proofs.LeafLemmas.{placed_all, made, made_is_listed, only_made}
use Rattle.body_match.proofs.GiveLemmas.{gives_none, gives_one, gives_same, gives_both, shorter, longer, next_before}

-- matches are in one order
rows_total : IsTotalOrder (λ (a b : Match). slice_cmp nat_cmp a.rows b.rows)
rows_total = on_total (λ (m : Match). m.rows) (lists_total nat_cmp_total)

not_before_itself : (m : Match) → StandsBefore m m → ⊥
not_before_itself m h = cc (tied_itself rows_total m)

one_way : (a b : Match) → StandsBefore a b → StandsBefore b a → ⊥
one_way a b p q = not_before_itself a (rows_total.trans a b a p q)

-- first ones that all others stand after are a first part
pub splits : (list full : List Match) → AllPairs StandsBefore list → AllPairs StandsBefore full
    → ((m : Match) → Contains list m → Contains full m)
    → ((m : Match) → Contains full m → Contains list m ⊎ ((other : Match) → Contains list other → StandsBefore other m))
    → (rest : List Match) × (full ≡ list ++ rest)
splits [] full ordered strict inside later = (full, refl)
splits (x ∷ xs) [] ordered strict inside later = absurd (Contains-nil x (inside x (Contains-head x xs)))
splits (x ∷ xs) (y ∷ ys) ordered strict inside later =
    let same : y ≡ x = by_first (later y (Contains-head y ys)) (Contains-cons_cases y x ys (inside x (Contains-head x xs))) in
    let h = splits xs ys (AllPairs-tail StandsBefore x xs ordered) (AllPairs-tail StandsBefore y ys strict)
    (λ m c. by_inside m c same (Contains-cons_cases y m ys (inside m (Contains-cons x m xs c))))
    (λ m c. by_later m c same (later m (Contains-cons y m ys c))) in
    (h.0, λ i. same i ∷ h.1 i)
  where
    by_first : Contains (x ∷ xs) y ⊎ ((other : Match) → Contains (x ∷ xs) other → StandsBefore other y) → (y ≡ x) ⊎ Contains ys x → y ≡ x
    by_first l (inl e) = e
    by_first (inl c) (inr d) = elim (Contains-cons_cases x y xs c) [
      | inl e ↦ sym e
      | inr k ↦ absurd (one_way x y (AllPairs-head StandsBefore x xs ordered y k) (AllPairs-head StandsBefore y ys strict x d))
    ]
    by_first (inr after) (inr d) = absurd (one_way x y (after x (Contains-head x xs)) (AllPairs-head StandsBefore y ys strict x d))

    by_inside : (m : Match) → Contains xs m → y ≡ x → (y ≡ m) ⊎ Contains ys m → Contains ys m
    by_inside m c same (inr d) = d
    by_inside m c same (inl e) = absurd (not_before_itself m
        (subst (λ (z : Match). StandsBefore z m) (sym same ∙ e) (AllPairs-head StandsBefore x xs ordered m c)))

    by_later : (m : Match) → Contains ys m → y ≡ x → Contains (x ∷ xs) m ⊎ ((other : Match) → Contains (x ∷ xs) other → StandsBefore other m)
        → Contains xs m ⊎ ((other : Match) → Contains xs other → StandsBefore other m)
    by_later m c same (inl d) = elim (Contains-cons_cases x m xs d) [
      | inl e ↦ absurd (not_before_itself m
          (subst (λ (z : Match). StandsBefore z m) (same ∙ e) (AllPairs-head StandsBefore y ys strict m c)))
      | inr k ↦ inl k
    ]
    by_later m c same (inr after) = inr (λ other k. after other (Contains-cons x other xs k))

dec_nat : (a b : ℕ) → (a ≡ b) ⊎ (a ≡ b → ⊥)
dec_nat a b = ⊎_elim (λ (l : a < b). inr (λ e. omega (arith, l, e))) (λ (g : b ≤ a).
    ⊎_elim (λ (l : b < a). inr (λ e. omega (arith, l, e))) (λ (h : a ≤ b). inl (omega (arith, g, h))) (cases_lt b a)) (cases_lt a b)

cell_place : Seen → ℕ
cell_place (cells.Const c) = c.0
cell_place (cells.Piece p) = p

dec_seen : (a b : Seen) → (a ≡ b) ⊎ (a ≡ b → ⊥)
unfolding cell_place
dec_seen (cells.Const c) (cells.Const d) = elim (dec_nat c.0 d.0) [
  | inl e ↦ inl (λ i. cells.Const (record { 0 = e i }))
  | inr n ↦ inr (λ e. n (ap cell_place e))
]
dec_seen (cells.Const c) (cells.Piece q) = inr (λ e. cc)
dec_seen (cells.Piece p) (cells.Const d) = inr (λ e. cc)
dec_seen (cells.Piece p) (cells.Piece q) = elim (dec_nat p q) [
  | inl e ↦ inl (ap cells.Piece e)
  | inr n ↦ inr (λ e. n (ap cell_place e))
]

dec_some : (a b : Option Seen) → (a ≡ b) ⊎ (a ≡ b → ⊥)
dec_some None None = inl refl
dec_some None (Some b) = inr (λ e. cc)
dec_some (Some a) None = inr (λ e. cc)
dec_some (Some a) (Some b) = elim (dec_seen a b) [
  | inl e ↦ inl (ap Some e)
  | inr n ↦ inr (λ e. n (let h : a ≡ b = cc in h))
]

dec_ordered : (lo hi : Option ℤ) → AreOrdered lo hi ⊎ (AreOrdered lo hi → ⊥)
dec_ordered None hi = inl tt
dec_ordered (Some lo) None = inl tt
dec_ordered (Some lo) (Some hi) = by_lt_z lo hi (λ l. inl l) (λ g. inr (λ h. omega (arith, ints)))

ordered_from_instant : (lo hi : Option ℤ) (t : ℤ) → IsFrom lo t → IsBefore hi t → AreOrdered lo hi
ordered_from_instant None hi t f b = tt
ordered_from_instant (Some lo) None t f b = tt
ordered_from_instant (Some lo) (Some hi) t f b = omega (arith, ints)

-- values where there is one at each place
pub values_exist : (f : Place → Option Seen) (places : List Place) → All (λ place. IsSome (f place)) places
    → (binding : List Seen) × (map Some binding ≡ map f places)
values_exist f [] all = ([], refl)
values_exist f (place ∷ places) all =
    let first = by_some (f place) (All-head (λ p. IsSome (f p)) place places all) in
    let rest = values_exist f places (All-tail (λ p. IsSome (f p)) place places all) in
    (first.0 ∷ rest.0, λ i. sym first.1 i ∷ rest.1 i)
  where
    by_some : (o : Option Seen) → IsSome o → (x : Seen) × (o ≡ Some x)
    by_some None h = absurd (false≢true h)
    by_some (Some x) h = (x, refl)

module _ (task : Task) (ok : IsTask task) where
  module _ (chosen : List ℕ) (span : Ends) (partial : IsPartial task chosen span) (number : ℕ) (atom : Atom)
      (next : slice_get task.body (length chosen) ≡ Some atom) where
    abbrev front : List ℕ
    front = chosen ++ number ∷ []

    abbrev AgreesBelow : ℕ → Type 0
    AgreesBelow j = (k : ℕ) (arg : Arg) → k < j → slice_get atom.args k ≡ Some arg → cell_at task.rows number k ≡ placed_value task front arg

    agrees_below : (j : ℕ) → AgreesBelow j ⊎ (Agrees task front atom number → ⊥)
    agrees_below zero = inl (λ k arg l e. absurd (omega (arith, l)))
    agrees_below (suc j) = by_rest (agrees_below j) (slice_get atom.args j) refl
      where
        by_rest : AgreesBelow j ⊎ (Agrees task front atom number → ⊥) → (o : Option Arg) → slice_get atom.args j ≡ o
            → AgreesBelow (suc j) ⊎ (Agrees task front atom number → ⊥)
        by_rest (inr n) o f = inr n
        by_rest (inl h) None f = inl (λ k arg l e. ⊎_elim (λ (b : k < j). h k arg b e) (λ (g : j ≤ k).
            let same : j ≡ k = omega (arith, g, l) in
            let both : None ≡ Some arg = sym f ∙ ap (slice_get atom.args) same ∙ e in absurd cc) (cases_lt k j))
        by_rest (inl h) (Some a) f = elim (dec_some (cell_at task.rows number j) (placed_value task front a)) [
          | inl d ↦ inl (λ k arg l e. ⊎_elim (λ (b : k < j). h k arg b e) (λ (g : j ≤ k).
              let same : j ≡ k = omega (arith, g, l) in
              let this : a ≡ arg = same_some (slice_get atom.args j) a arg f (ap (slice_get atom.args) same ∙ e) in
              ap (cell_at task.rows number) (sym same) ∙ d ∙ ap (placed_value task front) this) (cases_lt k j))
          | inr n ↦ inr (λ agrees. n (agrees j a f))
        ]

    -- either the rows with one more are a part of matches, or of none
    abbrev Answer : Type 0
    Answer = ((common : Ends) × IsPartial task front common) ⊎ ((m : Match) → IsListedFrom task front m → ⊥)

    decide : Answer
    decide = by_row (row_at task.rows number) refl
      where
        image_of : (row : SeenRow) → row_at task.rows number ≡ Some row → (m : Match) → IsListedFrom task front m
            → (row.relation ≡ atom.relation) × (length row.cells ≡ length atom.args)
        image_of row f m h =
            let image = some_and (IsImage (seen_value m.binding) atom) (row_at task.rows number)
            (next_image task ok chosen span partial number atom next m h) in
            let same : image.0 ≡ row = same_some (row_at task.rows number) image.0 row image.1 f in (
              ap (λ (r : SeenRow). r.relation) (sym same) ∙ image.2.relation,
              ap (λ (r : SeenRow). length r.cells) (sym same) ∙ sym (length-map image.0.cells Some) ∙ ap length image.2.cells
                  ∙ length-map atom.args (seen_value m.binding),
            )

        by_ends : (row : SeenRow) → row_at task.rows number ≡ Some row → row.relation ≡ atom.relation → length row.cells ≡ length atom.args
            → Agrees task front atom number → (lo hi : Option ℤ) → lo ≡ ord_max start_cmp span.lo row.span.lo
            → hi ≡ ord_min stop_cmp span.hi row.span.hi → AreOrdered lo hi ⊎ (AreOrdered lo hi → ⊥) → Answer
        by_ends row f relation arity agrees lo hi p q (inl ordered) =
            let meets = IsMeet-from_ends span row.span lo hi p q in
            let t = HasInstant-from_ordered lo hi ordered in
            let both = (meets t.0).0 t.1 in
            let common : Ends = record { lo = lo; hi = hi } in
            inl (common, next_partial task ok chosen span partial number atom next row f relation arity common meets (t.0, both.0, both.1) agrees)
        by_ends row f relation arity agrees lo hi p q (inr n) = inr (λ m h.
            let meets = next_meets task ok chosen span partial number atom next m h in
            let holds = some_and (λ (r : SeenRow). Has r.span meets.0) (row_at task.rows number) meets.2 in
            let in_row : Has row.span meets.0 = subst (λ (r : SeenRow). Has r.span meets.0)
            (same_some (row_at task.rows number) holds.0 row holds.1 f) holds.2 in
            let has = (IsMeet-from_ends span row.span lo hi p q meets.0).1 (meets.1, in_row) in
            n (ordered_from_instant lo hi meets.0 has.0 has.1))

        by_agrees : (row : SeenRow) → row_at task.rows number ≡ Some row → row.relation ≡ atom.relation → length row.cells ≡ length atom.args
            → AgreesBelow (length atom.args) ⊎ (Agrees task front atom number → ⊥) → Answer
        by_agrees row f relation arity (inl h) =
            let lo = ord_max start_cmp span.lo row.span.lo in
            let hi = ord_min stop_cmp span.hi row.span.hi in
            by_ends row f relation arity (λ k arg e. h k arg (within_from_at atom.args k arg e) e) lo hi refl refl (dec_ordered lo hi)
        by_agrees row f relation arity (inr n) = inr (λ m h. n (next_agrees task ok chosen span partial number atom next m h))

        by_row : (o : Option SeenRow) → row_at task.rows number ≡ o → Answer
        by_row None f = inr (λ m h.
            let image = some_and (IsImage (seen_value m.binding) atom) (row_at task.rows number)
            (next_image task ok chosen span partial number atom next m h) in
            let both : None ≡ Some image.0 = sym f ∙ image.1 in cc)
        by_row (Some row) f = elim (dec_nat row.relation atom.relation) [
          | inr n ↦ inr (λ m h. n (image_of row f m h).0)
          | inl relation ↦ elim (dec_nat (length row.cells) (length atom.args)) [
            | inr n ↦ inr (λ m h. n (image_of row f m h).1)
            | inl arity ↦ by_agrees row f relation arity (agrees_below (length atom.args))
          ]
        ]

  -- a list is given to what takes all and stays
  abbrev TakesAll : Unit {0} → Match → Unit {0} → Type 0
  TakesAll _ m _ = Unit {0}

  abbrev IsListedBelow : List ℕ → ℕ → Match → Type 0
  IsListedBelow chosen row m = (n : ℕ) × (n < row) × IsListedFrom task (chosen ++ n ∷ []) m

  -- so it is where so many rows are to be chosen yet
  abbrev Exist : ℕ → Type 0
  Exist left = (chosen : List ℕ) (span : Ends) → IsPartial task chosen span → length chosen + left ≡ length task.body
      → Gives TakesAll (IsListedFrom task chosen) (IsFindable task) tt tt true

  -- all matches whose rows begin with these are on a list
  exist_from : (left : ℕ) (chosen : List ℕ) (span : Ends) → IsPartial task chosen span → length chosen + left ≡ length task.body
      → Gives TakesAll (IsListedFrom task chosen) (IsFindable task) tt tt true
  exist_from zero chosen span partial size =
      let whole : length chosen ≡ length task.body = omega (arith, size) in
      let values = values_exist (cell_in task chosen) task.places (placed_all task ok chosen span partial whole) in
      gives_one TakesAll (IsFindable task) (IsListedFrom task chosen) tt tt true (made task ok chosen span partial whole values.0 values.1)
      (made_is_listed task ok chosen span partial whole values.0 values.1) (only_made task ok chosen span partial whole values.0 values.1) tt
  exist_from (suc left) chosen span partial size =
      gives_same TakesAll (IsFindable task) (IsListedBelow chosen (length task.rows)) (IsListedFrom task chosen) tt tt true
      (λ m x. shorter task chosen m x.0 x.2) (λ m y d. in_rows m (longer task chosen m more y))
      (below (exist_from left) (length task.rows))
    where
      more : length chosen < length task.body
      more = omega (arith, size)

      next : (atom : Atom) × (slice_get task.body (length chosen) ≡ Some atom)
      next = at_within task.body (length chosen) more

      in_rows : (m : Match) → (n : ℕ) × IsListedFrom task (chosen ++ n ∷ []) m → IsListedBelow chosen (length task.rows) m
      in_rows m h =
          let image = some_and (IsImage (seen_value m.binding) next.0) (row_at task.rows h.0)
          (next_image task ok chosen span partial h.0 next.0 next.1 m h.1) in
          (h.0, number_within task.rows h.0 image.0 image.1, h.1)

      one : Exist left → (n : ℕ) → Gives TakesAll (IsListedFrom task (chosen ++ n ∷ [])) (IsFindable task) tt tt true
      one smaller n = elim (decide chosen span partial n next.0 next.1) [
        | inl d ↦ smaller (chosen ++ n ∷ []) d.0 d.1 (omega (arith, size, length_push chosen n))
        | inr none ↦ gives_none TakesAll (IsFindable task) (IsListedFrom task (chosen ++ n ∷ [])) tt true none
      ]

      below : Exist left → (row : ℕ) → Gives TakesAll (IsListedBelow chosen row) (IsFindable task) tt tt true
      below smaller zero = gives_none TakesAll (IsFindable task) (IsListedBelow chosen zero) tt true (λ m h. omega (arith, h.1))
      below smaller (suc row) =
          gives_both TakesAll (IsFindable task) (IsListedBelow chosen row) (IsListedFrom task (chosen ++ row ∷ [])) (IsListedBelow chosen (suc row)) tt tt tt true
          (below smaller row) (one smaller row) (λ m n x y. next_before task chosen x.0 row m n x.1 x.2 y)
          (λ m x. (x.0, omega (arith, x.1), x.2)) (λ m y. (row, omega arith, y))
          (λ m r d. inl (⊎_elim (λ (b : r.0 < row). inl (r.0, b, r.2)) (λ (g : row ≤ r.0).
          let same : r.0 ≡ row = omega (arith, g, r.1) in
          inr (subst (λ n. IsListedFrom task (chosen ++ n ∷ []) m) same r.2)) (cases_lt r.0 row)))

  -- with no row chosen, all instants are common
  no_rows : IsPartial task [] (record { lo = None; hi = None })
  no_rows = record {
    within = omega arith;
    images = λ k number atom e c. absurd cc;
    common = λ t. (λ h. All-nil (HoldsAt task.rows t), λ all. (tt, tt));
    instant = (pos 0, (tt, tt));
  }

  all_exist : Gives TakesAll (IsListedFrom task []) (IsFindable task) tt tt true
  all_exist = exist_from (length task.body) [] (record { lo = None; hi = None }) no_rows (omega arith)

  -- what a visitor was given is a first part of the list of all matches, and all of it if it wanted more to the end
  pub given_of_all : {S : Type 0} (takes : S → Match → S → Type 0) (old new : S) (more : Bool) → ((m : Match) → IsFindable task m)
      → Gives takes (IsMatch task.body (length task.places) task.rows) (IsFindable task) old new more
      → (list : List Match) × (rest : List Match) × AreMatches task.body (length task.places) task.rows (list ++ rest)
      × (more ≡ true → rest ≡ []) × TakesInTurn takes old list new
  given_of_all takes old new true every given = (
    given.list,
    [],
    subst (AreMatches task.body (length task.places) task.rows) (sym (append-nil given.list))
        (record { each = λ m. (given.first.each m, λ w. given.whole refl m w (every m)); ordered = given.first.ordered }),
    λ e. refl,
    given.taken,
  )
  given_of_all takes old new false every given =
      let all = all_exist in
      let h = splits given.list all.list given.first.ordered all.first.ordered
      (λ m c. all.whole refl m (given.first.each m c, (m.rows, refl)) (every m))
      (λ m c. given.first.later m (all.first.each m c).0 (every m)) in (
        given.list,
        h.0,
        subst (AreMatches task.body (length task.places) task.rows) h.1
            (record { each = λ m. (λ c. (all.first.each m c).0, λ w. all.whole refl m (w, (m.rows, refl)) (every m)); ordered = all.first.ordered }),
        λ e. absurd (false≢true e),
        given.taken,
      )
