-- Rows that wait and rows that are listed, as rows change.
use Rattle.std.proofs.Common.{◌≡◌, ◌⊎◌, inl, inr, ◌↔◌, ℕ, ℤ, ◌≤◌, Option, Some, None, List, [], ◌∷◌, ◌++◌, length, map, drop, refl, sym, ap, ◌∙◌, subst, arith, ⊎_elim, All, Contains}
use Rattle.std.specs.Prelude.{IsSomeAnd, slice_get}
use Rattle.std.specs.List.{AllZip}
use Rattle.std.specs.Ordering.{ord_max, ord_min}
use Rattle.std.proofs.lemmas.List.{drop-append-le, length-append}
use Rattle.std.proofs.lemmas.List.Elements.{All-nil, All-cons, All-head, All-tail, All-contains, Contains-append_left, Contains-append_right}
use Rattle.time_line.specs.Span.{Ends, Has, IsSpan, start_cmp, stop_cmp}
use Rattle.time_line.proofs.SpanLemmas.{IsMeet-from_ends}
use Rattle.term_core.specs.declared.term.Seen.{Seen}
use Rattle.rule_core.specs.declared.rules.Arg.{Arg}
use Rattle.rule_core.specs.declared.rules.Arg.TheVariants.{Var, Const}
use Rattle.rule_core.specs.declared.rules.Atom.{Atom}
use Rattle.rule_core.specs.declared.rules.Egd.{Egd}
use Rattle.rule_core.proofs.ListLemmas.{All-members, Contains-nil, Contains-head, Contains-cons, Contains-cons_cases}
use Rattle.fact_table.specs.Rows.{SeenRow, row_at}
use Rattle.body_match.specs.declared.found.Match.{Match}
use Rattle.body_match.specs.Matches.{seen_value, IsImage, IsImageAt, HoldsAt}
use Rattle.body_match.specs.Index.{Index, ListsRow, IsNoMore}
use Rattle.body_match.specs.Equality.{Equality, Recurs, IsLookedAt, FitsBody, IsLike, IsShown, IsShownAt, IsShownFor, Shows, IsSameEquality}
use Rattle.body_match.proofs.ListLemmas.{is_among}
use Rattle.body_match.proofs.SearchLemmas.{some_and, and_some, same_some}
use Rattle.egd_chase.specs.declared.search.Part.{Part}
use Rattle.egd_chase.specs.Search.{IsUnequalMatch, IsPartFor, AreParts, AllWait, ChangeOnly, CanTake, HasTaken}
use Rattle.egd_chase.specs.Shared.{HasHeir, KeepsShared}

-- one of the numbers is among others, or none is
meet_cases : (numbers others : List ℕ) → ((n : ℕ) × Contains others n × Contains numbers n)
    ⊎ ((n : ℕ) → Contains numbers n → ¬ (Contains others n))
meet_cases [] others = inr (λ n c d. Contains-nil n c)
meet_cases (m ∷ numbers) others = elim (is_among others m) [
  | inl c ↦ inl (m, c, Contains-head m numbers)
  | inr not_first ↦ elim (meet_cases numbers others) [
    | inl h ↦ inl (h.0, h.1, Contains-cons m h.0 numbers h.2)
    | inr none ↦ inr (λ n c. elim (Contains-cons_cases m n numbers c) [
      | inl same ↦ subst (λ k. ¬ (Contains others k)) same not_first
      | inr d ↦ none n d
    ])
  ]
]

-- a row that is as it was, and one that lost times twice
no_more_of_itself : (o : Option SeenRow) → ((row : SeenRow) → o ≡ Some row → IsSpan row.span) → IsNoMore o o
no_more_of_itself None spans = tt
no_more_of_itself (Some row) spans = (refl, refl, spans row refl, λ t h. h)

no_more_twice : (a b c : Option SeenRow) → IsNoMore a b → IsNoMore b c → IsNoMore a c
no_more_twice a b None p q = tt
no_more_twice a None (Some row) p q = absurd q
no_more_twice None (Some mid) (Some row) p q = absurd p
no_more_twice (Some before) (Some mid) (Some row) p q = (q.0 ∙ p.0, q.1 ∙ p.1, q.2, λ t h. p.3 t (q.3 t h))

-- rows that stay do not change
pub change_none : (rows : List (Option SeenRow)) → ((number : ℕ) (row : SeenRow) → row_at rows number ≡ Some row → IsSpan row.span)
    → (numbers : List ℕ) → ChangeOnly numbers rows rows
change_none rows spans numbers number other = no_more_of_itself (row_at rows number) (spans number)

-- where the other rows are as they were
pub change_these : (numbers : List ℕ) (old new : List (Option SeenRow))
    → ((number : ℕ) (row : SeenRow) → row_at old number ≡ Some row → IsSpan row.span)
    → ((number : ℕ) → ¬ (Contains numbers number) → row_at new number ≡ row_at old number) → ChangeOnly numbers old new
change_these numbers old new spans same number other =
    subst (IsNoMore (row_at old number)) (sym (same number other)) (no_more_of_itself (row_at old number) (spans number))

-- where there was no row, and all that are there now are among these
pub change_from_none : (numbers : List ℕ) (rows : List (Option SeenRow))
    → ((number : ℕ) (row : SeenRow) → row_at rows number ≡ Some row → Contains numbers number) → ChangeOnly numbers [] rows
change_from_none numbers rows has number other = by (row_at rows number) refl
  where
    by : (o : Option SeenRow) → row_at rows number ≡ o → IsNoMore None o
    by None e = tt
    by (Some row) e = absurd (other (has number row e))

pub shared_with_none : (numbers : List ℕ) (rows : List (Option SeenRow)) → KeepsShared numbers [] rows
shared_with_none numbers rows number other row before t apart at has there instant = absurd cc

-- two changes, one after the other
pub change_twice : (a b : List ℕ) (old mid new : List (Option SeenRow)) → ChangeOnly a old mid → ChangeOnly b mid new
    → ChangeOnly (b ++ a) old new
change_twice a b old mid new first second number other = no_more_twice (row_at old number) (row_at mid number) (row_at new number)
    (first number (λ c. other (Contains-append_right b a number c)))
    (second number (λ c. other (Contains-append_left b a number c)))

-- all instants that rows have in common
pub common_of : (rows : List (Option SeenRow)) (numbers : List ℕ)
    → ((n : ℕ) → Contains numbers n → (row : SeenRow) × (row_at rows n ≡ Some row))
    → (s : Ends) × ((t : ℤ) → Has s t ↔ All (HoldsAt rows t) numbers)
common_of rows [] there = (record { lo = None; hi = None }, λ t. (λ _. All-nil (HoldsAt rows t), λ _. (tt, tt)))
common_of rows (n ∷ numbers) there =
    let row = there n (Contains-head n numbers) in
    let rest = common_of rows numbers (λ m c. there m (Contains-cons n m numbers c)) in
    let lo = ord_max start_cmp row.0.span.lo rest.0.lo in
    let hi = ord_min stop_cmp row.0.span.hi rest.0.hi in
    let both = IsMeet-from_ends row.0.span rest.0 lo hi refl refl in (
      record { lo = lo; hi = hi },
      λ t. (
        λ h. All-cons (HoldsAt rows t) n numbers (and_some (λ (r : SeenRow). Has r.span t) (row_at rows n) row.0 row.1 ((both t).0 h).0)
            ((rest.1 t).0 ((both t).0 h).1),
        λ all. (both t).1 (
          has_row t n row.0 row.1 (All-head (HoldsAt rows t) n numbers all),
          (rest.1 t).1 (All-tail (HoldsAt rows t) n numbers all),
        ),
      ),
    )
  where
    has_row : (t : ℤ) (n : ℕ) (row : SeenRow) → row_at rows n ≡ Some row → HoldsAt rows t n → Has row.span t
    has_row t n row e h =
        let s = some_and (λ (r : SeenRow). Has r.span t) (row_at rows n) h in
        subst (λ (r : SeenRow). Has r.span t) (same_some (row_at rows n) s.0 row s.1 e) s.2

-- an image, an instant and a row that are there now were there
image_was : (old new : Option SeenRow) (value : Arg → Option Seen) (atom : Atom) → IsNoMore old new
    → (row : SeenRow) → new ≡ Some row → IsImage value atom row
    → (before : SeenRow) × (old ≡ Some before) × IsImage value atom before
image_was old None value atom less row e image = absurd cc
image_was None (Some now) value atom less row e image = absurd less
image_was (Some before) (Some now) value atom less row e image =
    let same : now ≡ row = cc in
    let it = subst (IsImage value atom) (sym same) image in (
      before,
      refl,
      record { relation = sym less.0 ∙ it.relation; cells = ap (λ cells. map Some cells) (sym less.1) ∙ it.cells },
    )

instant_was : (old new : Option SeenRow) (t : ℤ) → IsNoMore old new → IsSomeAnd new (λ (r : SeenRow). Has r.span t)
    → IsSomeAnd old (λ (r : SeenRow). Has r.span t)
instant_was old None t less h = absurd h
instant_was None (Some now) t less h = absurd less
instant_was (Some before) (Some now) t less h = less.3 t h

module _ (old new : List (Option SeenRow)) (value : Arg → Option Seen) where
  abbrev Lose : List ℕ → Type 0
  Lose numbers = (n : ℕ) → Contains numbers n → IsNoMore (row_at old n) (row_at new n)

  first_was : (atom : Atom) (n : ℕ) → IsNoMore (row_at old n) (row_at new n) → IsImageAt new value atom n
      → (before : SeenRow) × (row_at old n ≡ Some before) × IsImage value atom before
  first_was atom n less image =
      let now = some_and (IsImage value atom) (row_at new n) image in
      image_was (row_at old n) (row_at new n) value atom less now.0 now.1 now.2

  images_were : (body : List Atom) (numbers : List ℕ) → Lose numbers → AllZip (IsImageAt new value) body numbers
      → AllZip (IsImageAt old value) body numbers
  images_were [] [] less images = tt
  images_were [] (n ∷ numbers) less images = absurd images
  images_were (atom ∷ body) [] less images = absurd images
  images_were (atom ∷ body) (n ∷ numbers) less images =
      let was = first_was atom n (less n (Contains-head n numbers)) images.0 in (
        and_some (IsImage value atom) (row_at old n) was.0 was.1 was.2,
        images_were body numbers (λ m c. less m (Contains-cons n m numbers c)) images.1,
      )

  rows_were : (body : List Atom) (numbers : List ℕ) → Lose numbers → AllZip (IsImageAt new value) body numbers
      → (n : ℕ) → Contains numbers n → (row : SeenRow) × (row_at old n ≡ Some row)
  rows_were [] [] less images n c = absurd (Contains-nil n c)
  rows_were [] (m ∷ numbers) less images n c = absurd images
  rows_were (atom ∷ body) [] less images n c = absurd images
  rows_were (atom ∷ body) (m ∷ numbers) less images n c = elim (Contains-cons_cases m n numbers c) [
    | inl same ↦
        let was = first_was atom m (less m (Contains-head m numbers)) images.0 in
        (was.0, ap (row_at old) (sym same) ∙ was.1)
    | inr d ↦ rows_were body numbers (λ k e. less k (Contains-cons m k numbers e)) images.1 n d
  ]

  instants_were : (t : ℤ) (numbers : List ℕ) → Lose numbers → All (HoldsAt new t) numbers → All (HoldsAt old t) numbers
  instants_were t [] less all = All-nil (HoldsAt old t)
  instants_were t (n ∷ numbers) less all = All-cons (HoldsAt old t) n numbers
      (instant_was (row_at old n) (row_at new n) t (less n (Contains-head n numbers)) (All-head (HoldsAt new t) n numbers all))
      (instants_were t numbers (λ m c. less m (Contains-cons n m numbers c)) (All-tail (HoldsAt new t) n numbers all))

-- a match with unequal sides, of rows that lost at most times, was there over no less time
match_was : (old new : List (Option SeenRow)) (egd : Egd) (found : Match) → IsUnequalMatch new egd found
    → ((n : ℕ) → Contains found.rows n → IsNoMore (row_at old n) (row_at new n))
    → (was : Match) × IsUnequalMatch old egd was × (was.rows ≡ found.rows)
match_was old new egd found is less =
    let value = seen_value found.binding in
    let common = common_of old found.rows (rows_were old new value egd.body found.rows less is.match.images) in
    let instant = is.match.instant in (
      record { rows = found.rows; binding = found.binding; span = common.0 },
      record {
        match = record {
          images = images_were old new value egd.body found.rows less is.match.images;
          values = is.match.values;
          common = common.1;
          instant = (
            instant.0,
            (common.1 instant.0).1 (instants_were old new value instant.0 found.rows less ((is.match.common instant.0).0 instant.1)),
          );
        };
        unequal = is.unequal;
      },
      refl,
    )

-- what `rows_that_lose_times_stay_listed` of body_match says
abbrev pub StayListed : Type 0
StayListed = (index : Index) (old new : List (Option SeenRow)) (number : ℕ) → ListsRow index old number
    → IsNoMore (row_at old number) (row_at new number) → ListsRow index new number

-- what a row has is what it had, and it was there at the instant
record Was (old : List (Option SeenRow)) (number : ℕ) (row : SeenRow) (t : ℤ) : Type 0 where
  pub before : SeenRow
  pub there : row_at old number ≡ Some before
  pub relation : row.relation ≡ before.relation
  pub cells : row.cells ≡ before.cells
  pub instant : Has before.span t

row_was : (old new : List (Option SeenRow)) (number : ℕ) (row : SeenRow) (t : ℤ) → IsNoMore (row_at old number) (row_at new number)
    → row_at new number ≡ Some row → Has row.span t → Was old number row t
row_was old new number row t less at has = by (row_at old number) refl (subst (IsNoMore (row_at old number)) at less)
  where
    by : (o : Option SeenRow) → row_at old number ≡ o → IsNoMore o (Some row) → Was old number row t
    by None e h = absurd h
    by (Some before) e h = record { before = before; there = e; relation = h.0; cells = h.1; instant = h.3 t has }

-- two indexes for one body and the same variables look at the same, and the same rows fit them
module _ (old new : Equality) (same : IsSameEquality old new) where
  looked_same : (arg : Arg) → IsLookedAt new arg → IsLookedAt old arg
  looked_same (Const c) h = tt
  looked_same (Var v) h = elim h [
    | inl left ↦ inl (left ∙ same.left)
    | inr rest ↦ elim rest [
      | inl right ↦ inr (inl (right ∙ same.right))
      | inr recurs ↦ inr (inr (subst (λ (body : List Atom). Recurs body v) same.body recurs))
    ]
  ]

  in_same : (atom : Atom) → Contains new.index.body atom → Contains old.index.body atom
  in_same atom = subst (λ (body : List Atom). Contains body atom) same.body

-- rows came or changed, and the part has taken them in
module _ (old new : List (Option SeenRow)) (numbers : List ℕ) (change : ChangeOnly numbers old new) (shared : KeepsShared numbers old new)
    (egd : Egd) (a b : Part) (is : IsPartFor old egd a) (taken : HasTaken new numbers a b) where
  -- what the row was like, its heir is like still
  heir_is_like : (number : ℕ) (row : SeenRow) (t : ℤ) (was : Was old number row t) (s : IsShownAt a.index old was.before t)
      → (heir : HasHeir numbers new row t s.number s.other) → IsLike b.index row heir.later
  heir_is_like number row t was s heir = record {
    relation = heir.relation ∙ s.like.relation ∙ sym was.relation;
    arity = heir.arity ∙ s.like.arity ∙ sym (ap length was.cells);
    cells = λ atom column arg c fits q looked. heir.cells column (
        s.like.cells atom column arg (in_same a.index b.index taken.same atom c)
        (record { relation = sym was.relation ∙ fits.relation; arity = sym (ap length was.cells) ∙ fits.arity }) q
        (looked_same a.index b.index taken.same arg looked)
        ∙ ap (λ cells. slice_get cells column) (sym was.cells)
        );
  }

  -- a row that is like another fits the body as it does
  fits_too : (e : Equality) (row other : SeenRow) → IsLike e row other → FitsBody e row → FitsBody e other
  fits_too e row other like fits =
      (fits.0, fits.1, record { relation = like.relation ∙ fits.2.relation; arity = like.arity ∙ fits.2.arity })

  -- like a row that is like another
  like_twice : (e : Equality) (row mid other : SeenRow) → IsLike e row mid → IsLike e mid other → IsLike e row other
  like_twice e row mid other p q = record {
    relation = q.relation ∙ p.relation;
    arity = q.arity ∙ p.arity;
    cells = λ atom column arg c fits at looked.
        q.cells atom column arg c (record { relation = p.relation ∙ fits.relation; arity = p.arity ∙ fits.arity }) at looked
        ∙ p.cells atom column arg c fits at looked;
  }

  -- at each instant of a row that did not change one that is like it is shown
  other_stands : (number : ℕ) → ¬ (Contains numbers number) → IsShownFor b.index new number
  other_stands number other row t at fits has =
      let was = row_was old new number row t (change number other) at has in
      let fit : FitsBody a.index was.before = (
        fits.0,
        in_same a.index b.index taken.same fits.0 fits.1,
        record { relation = sym was.relation ∙ fits.2.relation; arity = sym (ap length was.cells) ∙ fits.2.arity },
      ) in
      let s = is.index.shows.stand number was.before t was.there fit was.instant in
      let heir = shared number s.number row s.other t other at has s.there s.instant in
      let like = heir_is_like number row t was s heir in
      let now : Contains numbers heir.heir ⊎ IsShown a.index heir.heir =
      ⊎_elim (λ same. inr (subst (IsShown a.index) (sym same) s.shown)) (λ c. inl c) heir.which in
      let again = taken.stand heir.heir now heir.later t heir.there (fits_too b.index row heir.later like fits) heir.instant in
      record {
        number = again.number;
        other = again.other;
        shown = again.shown;
        there = again.there;
        like = like_twice b.index row heir.later again.other like again.like;
        instant = again.instant;
      }

  shows_after : Shows b.index new
  shows_after = record {
    listed = taken.listed;
    stand = λ number. elim (is_among numbers number) [
      | inl c ↦ taken.stand number (inl c)
      | inr other ↦ other_stands number other
    ];
  }

  -- each match of shown rows uses one that waits
  wait_after : AllWait new egd b.index (drop b.next b.waiting.items)
  wait_after found m =
      let queue : drop b.next b.waiting.items ≡ drop a.next a.waiting.items ++ taken.came =
      (λ i. drop (taken.next i) (taken.waiting i)) ∙ drop-append-le a.next a.waiting.items taken.came is.within in
      elim (meet_cases found.rows numbers) [
        | inl h ↦ (
          h.0,
          subst (λ l. Contains l h.0) (sym queue) (Contains-append_right (drop a.next a.waiting.items) taken.came h.0
              ((taken.shown h.0).1 (h.1, All-contains (IsShown b.index) found.rows h.0 m.shown h.2))),
          h.2,
        )
        | inr none ↦
            let was = match_was old new egd found m.unequal (λ n c. change n (none n c)) in
            let shown : All (IsShown a.index) found.rows =
            All-members (IsShown b.index) (IsShown a.index) found.rows (λ n c here. ⊎_elim (λ was. was) (λ d. absurd (none n c d)) (taken.others n here)) m.shown in
            let h = is.wait was.0 (record { unequal = was.1; shown = subst (All (IsShown a.index)) (sym was.2) shown }) in (
              h.0,
              subst (λ l. Contains l h.0) (sym queue) (Contains-append_left (drop a.next a.waiting.items) taken.came h.0 h.1),
              subst (λ rows. Contains rows h.0) was.2 h.2,
            )
      ]

  pub part_after : IsPartFor new egd b
  part_after = record {
    index = record {
      occur = is.index.occur;
      body = taken.same.body ∙ is.index.body;
      vars = taken.same.vars ∙ is.index.vars;
      left = taken.same.left ∙ is.index.left;
      right = taken.same.right ∙ is.index.right;
      shows = shows_after;
    };
    wait = wait_after;
    within =
        let first = is.within in
        let size = length-append a.waiting.items taken.came in
        subst (λ n. n ≤ length b.waiting.items) (sym taken.next) (subst (λ l. a.next ≤ length l) (sym taken.waiting) (omega (arith, first, size)));
  }

module _ (old new : List (Option SeenRow)) (numbers : List ℕ) (change : ChangeOnly numbers old new) (shared : KeepsShared numbers old new) where
  -- when rows changed and the parts have taken them in, the parts are for the rows as they are now
  pub parts_after : (egds : List Egd) (before after : List Part) → AreParts old egds before → AllZip (HasTaken new numbers) before after
      → AreParts new egds after
  parts_after [] [] [] are taken = tt
  parts_after [] [] (b ∷ after) are taken = absurd taken
  parts_after [] (a ∷ before) after are taken = absurd are
  parts_after (egd ∷ egds) [] after are taken = absurd are
  parts_after (egd ∷ egds) (a ∷ before) [] are taken = absurd taken
  parts_after (egd ∷ egds) (a ∷ before) (b ∷ after) are taken =
      (part_after old new numbers change shared egd a b are.0 taken.0, parts_after egds before after are.1 taken.1)

-- the rows that did not change are listed still
module _ (old new : List (Option SeenRow)) (numbers : List ℕ) (change : ChangeOnly numbers old new) where
  pub can_take : (stay : StayListed) (egds : List Egd) (parts : List Part) → AreParts old egds parts → All (CanTake new numbers) parts
  can_take stay [] [] are = All-nil (CanTake new numbers)
  can_take stay [] (a ∷ parts) are = absurd are
  can_take stay (egd ∷ egds) [] are = absurd are
  can_take stay (egd ∷ egds) (a ∷ parts) are = All-cons (CanTake new numbers) a parts
      (λ number other shown. stay a.index.index old new number (are.0.index.shows.listed number shown) (change number other))
      (can_take stay egds parts are.1)
