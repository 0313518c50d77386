-- One side of an equality instead of the other in the rows of a store.
use Rattle.std.proofs.Common.{◌≡◌, ◌≢◌, ◌↔◌, ℕ, suc, Bool, true, false, Option, Some, None, List, [], ◌∷◌, map, refl, sym, ap, ◌∙◌, subst, rules, Contains, IsPermutation}
use Rattle.std.specs.Prelude.{slice_get, IsSomeAnd, IsTrue}
use Rattle.std.specs.List.{filter_map}
use Rattle.std.specs.Option.{option_and_then, option_map, option_map_or}
use Rattle.std.specs.declared.cmp.Ordering.{Ordering}
use Rattle.std.specs.declared.cmp.Ordering.TheVariants.{Less, Equal, Greater}
use Rattle.std.specs.FinMap.{IsAntisymmetric}
use Rattle.std.proofs.lemmas.Bool.{false≢true}
use Rattle.std.proofs.lemmas.Cmp.{tied_itself}
use Rattle.std.proofs.lemmas.List.{length-map}
use Rattle.std.proofs.lemmas.List.Elements.{All-contains, All-weaker, All-contains_itself}
use Rattle.std.proofs.lemmas.List.Sorted.{IsPermutation-refl}
use Rattle.std.proofs.lemmas.Option.{slice_get-map}
use Rattle.time_line.specs.Span.{Ends, Has, HasInstant, IsSpan, Meet, span_cmp}
use Rattle.time_line.specs.SpanOrder.{span_cmp-total}
use Rattle.term_core.specs.declared.const_id.ConstId.{ConstId}
use Rattle.term_core.specs.declared.term.Unknown.{Unknown as HeldUnknown}
use Rattle.term_core.specs.declared.term.Seen.{Seen}
use Rattle.term_core.specs.declared.term.Seen.TheVariants.{Const, Piece}
use Rattle.term_core.specs.Order.{id_cmp, unknown_cmp}
use Rattle.term_core.proofs.OrderLemmas.{unknown_cmp-total, unknown_cmp-IsAntisymmetric, id_cmp-IsAntisymmetric}
use Rattle.rule_core.specs.Terms.{Unknown, numbered, TermOf, constant, unknown}
use Rattle.rule_core.specs.Values.{unknown_value}
use Rattle.rule_core.specs.Order.{unknown_cmp as order_of}
use Rattle.rule_core.specs.Homomorphism.{term_image}
use Rattle.rule_core.proofs.ListLemmas.{Contains-head, Contains-cons, Contains-from_map}
use Rattle.rule_core.proofs.OrderLemmas.{term_cmp-IsAntisymmetric}
use Rattle.fact_table.specs.Rows.{SeenRow, row_at, cell_at}
use Rattle.failure_trace.specs.Equating.{Replacement, if_equal, of_unknowns, replacement_of, becomes, replaced_fact}
use Rattle.failure_trace.specs.JournalRun.{RowOf, HoldsTerm, StandsOver, replaced_over}
use Rattle.null_store.specs.Store.{PieceOf, Store, piece_at, term_in, fact_in, facts_in, IsLiveOver, IsStore}
use Rattle.null_store.specs.Changes.{instead, row_instead, ReplacesCells, SubstitutesTerm, BecomesTerm, BecomesFact}
use Rattle.null_store.specs.Lists.{Place, HasRowsOf}
use Rattle.null_store.proofs.ListLemmas.{some_and, and_some, same_some, contains_from_at, held_at, held_place, held_map_all}
use Rattle.null_store.proofs.JoinLemmas.{instead_else}
use Rattle.null_store.proofs.LawLemmas.{one_cell}
use Rattle.null_store.proofs.OccurrenceLemmas.{from_map}
use Rattle.body_match.proofs.ListLemmas.{same_at_each, at_from_contains, at_map}
use Rattle.egd_chase.specs.declared.sides.Side.{Side}
use Rattle.egd_chase.specs.Replacing.{IsValueOf, AreValuesOf, IsChoice}
use Rattle.egd_chase.specs.Sides.{IsUnknownTerm, HoldsSide, IsFitted, AreFitted, CanBeEqual, Replaces}

-- the term of a live piece
piece_term : (store : Store) (p : ℕ) (piece : PieceOf) → piece_at store p ≡ Some piece
    → term_in store (Piece p) ≡ unknown (unknown_value piece.unknown)
piece_term store p piece e =
    ap (λ (o : Option PieceOf). option_map_or (λ q. unknown (unknown_value q.unknown)) o (unknown (numbered p))) e

is_unknown : (store : Store) (p : ℕ) → IsUnknownTerm (term_in store (Piece p))
is_unknown store p = by (piece_at store p)
  where
    by : (o : Option PieceOf) → IsUnknownTerm (option_map_or (λ q. unknown (unknown_value q.unknown)) o (unknown (numbered p)))
    by None = tt
    by (Some q) = tt

-- a value over one span is over each span that is the same
live_over : (store : Store) (s t : Ends) (v : Seen) → s ≡ t → IsLiveOver store s v → IsLiveOver store t v
live_over store s t v e h = subst (λ span. IsLiveOver store span v) e h

-- the value of a side
side_value : (store : Store) → IsStore store → (term : TermOf ConstId) (c : Ends) (row column : ℕ)
    → HoldsSide store term c (record { row = row; column = column }) → IsFitted store term c (record { row = row; column = column })
    → (value : Seen) × (cell_at store.rows row column ≡ Some value) × IsValueOf store term c value
side_value store ok term c row column held fitted =
    let cells = held.row.cells in
    let at = from_map (term_in store) (slice_get cells column) term (sym (slice_get-map (term_in store) cells column) ∙ held.term_is) in
    let live = All-contains (IsLiveOver store held.row.span) cells at.0 (ok.live row held.row held.there)
    (contains_from_at cells column at.0 at.1) in (
      at.0,
      ap (option_and_then (λ (r : SeenRow). slice_get r.cells column)) held.there ∙ at.1,
      record { term_is = at.2; live = over at.0 at.2 live },
    )
  where
    over : (v : Seen) → term_in store v ≡ term → IsLiveOver store held.row.span v → IsLiveOver store c v
    over (Const k) e live = tt
    over (Piece p) e live =
        let span = some_and (λ (r : SeenRow). r.span ≡ c) (row_at store.rows row) (fitted (subst IsUnknownTerm e (is_unknown store p))) in
        let same : span.0 ≡ held.row = same_some (row_at store.rows row) span.0 held.row span.1 held.there in
        live_over store held.row.span c (Piece p) (ap (λ (r : SeenRow). r.span) (sym same) ∙ span.2) live

-- the values of two sides
pub fitted_values : (store : Store) → IsStore store → (l r : TermOf ConstId) (c : Ends) (left right : Side) → AreFitted store l r c left right
    → (x y : Seen) → cell_at store.rows left.row left.column ≡ Some x → cell_at store.rows right.row right.column ≡ Some y
    → AreValuesOf store l r c x y
fitted_values store ok l r c left right fitted x y p q =
    let a = side_value store ok l c left.row left.column fitted.left_held fitted.left_over in
    let b = side_value store ok r c right.row right.column fitted.right_held fitted.right_over in
    record {
      left_is = subst (IsValueOf store l c) (same_some (cell_at store.rows left.row left.column) a.0 x a.1 p) a.2;
      right_is = subst (IsValueOf store r c) (same_some (cell_at store.rows right.row right.column) b.0 y b.1 q) b.2;
    }

-- the choice of what is replaced
module _ (store : Store) (l r : TermOf ConstId) (c : Ends) (can : CanBeEqual l r) where
  live_piece : (p : ℕ) → IsLiveOver store c (Piece p) → (its : PieceOf) × (piece_at store p ≡ Some its) × (its.span ≡ c)
  live_piece p h = some_and (λ (q : PieceOf). q.span ≡ c) (piece_at store p) h

  -- a piece beside a constant
  choice_first : (p : ℕ) (k : ConstId) → HasInstant c → AreValuesOf store l r c (Piece p) (Const k) → IsChoice store l r c p (Const k)
  choice_first p k instant values =
      let its = live_piece p values.left_is.live in
      let left : unknown (unknown_value its.0.unknown) ≡ l = sym (piece_term store p its.0 its.1) ∙ values.left_is.term_is in
      record {
        its = its.0;
        live = its.1;
        span = its.2;
        instant = instant;
        stands = tt;
        sides = λ i. replacement_of id_cmp (sym left i) (sym values.right_is.term_is i);
      }

  choice_second : (p : ℕ) (k : ConstId) → HasInstant c → AreValuesOf store l r c (Const k) (Piece p) → IsChoice store l r c p (Const k)
  choice_second p k instant values =
      let its = live_piece p values.right_is.live in
      let right : unknown (unknown_value its.0.unknown) ≡ r = sym (piece_term store p its.0 its.1) ∙ values.right_is.term_is in
      record {
        its = its.0;
        live = its.1;
        span = its.2;
        instant = instant;
        stands = tt;
        sides = λ i. replacement_of id_cmp (sym values.left_is.term_is i) (sym right i);
      }

  -- the greater of two pieces
  module _ (a b : ℕ) (values : AreValuesOf store l r c (Piece a) (Piece b)) where
    first : (its : PieceOf) × (piece_at store a ≡ Some its) × (its.span ≡ c)
    first = live_piece a values.left_is.live

    second : (its : PieceOf) × (piece_at store b ≡ Some its) × (its.span ≡ c)
    second = live_piece b values.right_is.live

    abbrev u : HeldUnknown
    u = first.0.unknown

    abbrev w : HeldUnknown
    w = second.0.unknown

    left : unknown (unknown_value u) ≡ l
    left = sym (piece_term store a first.0 first.1) ∙ values.left_is.term_is

    right : unknown (unknown_value w) ≡ r
    right = sym (piece_term store b second.0 second.1) ∙ values.right_is.term_is

    differ : a ≢ b
    differ same = can.different (sym values.left_is.term_is ∙ ap (λ n. term_in store (Piece n)) same ∙ values.right_is.term_is)

    sides_are : replacement_of id_cmp l r ≡ of_unknowns id_cmp (unknown_value u) (unknown_value w) (unknown_cmp u w)
    sides_are = λ i. replacement_of id_cmp (sym left i) (sym right i)

    choice_lesser : HasInstant c → unknown_cmp u w ≡ Less → IsChoice store l r c b (Piece a)
    choice_lesser instant less = record {
      its = second.0;
      live = second.1;
      span = second.2;
      instant = instant;
      stands = (differ, and_some (λ (q : PieceOf). q.span ≡ second.0.span) (piece_at store a) first.0 first.1 (first.2 ∙ sym second.2));
      sides = sides_are ∙ ap (of_unknowns id_cmp (unknown_value u) (unknown_value w)) less
          ∙ ap (λ t. Some (record { gone = unknown_value w; by = t })) (sym (piece_term store a first.0 first.1));
    }

    not_equal : ¬ (unknown_cmp u w ≡ Equal)
    not_equal e = can.different (sym left ∙ ap (λ x. unknown (unknown_value x)) (unknown_cmp-IsAntisymmetric u w e) ∙ right)

    choice_greater : HasInstant c → ¬ (unknown_cmp u w ≡ Less) → IsChoice store l r c a (Piece b)
    choice_greater instant more = record {
      its = first.0;
      live = first.1;
      span = first.2;
      instant = instant;
      stands = (
        λ same. differ (sym same),
        and_some (λ (q : PieceOf). q.span ≡ first.0.span) (piece_at store b) second.0 second.1 (second.2 ∙ sym first.2),
      );
      sides = sides_are ∙ ap (of_unknowns id_cmp (unknown_value u) (unknown_value w)) (greater (unknown_cmp u w) refl)
          ∙ ap (λ t. Some (record { gone = unknown_value u; by = t })) (sym (piece_term store b second.0 second.1));
    }
      where
        greater : (o : Ordering) → unknown_cmp u w ≡ o → unknown_cmp u w ≡ Greater
        greater Less e = absurd (more e)
        greater Equal e = absurd (not_equal e)
        greater Greater e = e

    -- by the test of their order
    lesser_is : (less : Bool) → IsSomeAnd (piece_at store a) (λ p. IsSomeAnd (piece_at store b)
        (λ q. IsTrue less ↔ (unknown_cmp p.unknown q.unknown ≡ Less))) → IsTrue less ↔ (unknown_cmp u w ≡ Less)
    lesser_is less h =
        let p = some_and (λ (p : PieceOf). IsSomeAnd (piece_at store b) (λ q. IsTrue less ↔ (unknown_cmp p.unknown q.unknown ≡ Less)))
        (piece_at store a) h in
        let q = some_and (λ (q : PieceOf). IsTrue less ↔ (unknown_cmp p.0.unknown q.unknown ≡ Less)) (piece_at store b) p.2 in
        let one : p.0 ≡ first.0 = same_some (piece_at store a) p.0 first.0 p.1 first.1 in
        let two : q.0 ≡ second.0 = same_some (piece_at store b) q.0 second.0 q.1 second.1 in
        subst (λ (x : PieceOf). IsTrue less ↔ (unknown_cmp u x.unknown ≡ Less)) two
        (subst (λ (x : PieceOf). IsTrue less ↔ (unknown_cmp x.unknown q.0.unknown ≡ Less)) one q.2)

-- a fact of a store is one of its rows
fact_row : (store : Store) (fact : RowOf ConstId) → Contains (facts_in store) fact
    → (row : SeenRow) × (n : ℕ) × (row_at store.rows n ≡ Some row) × (fact_in store row ≡ fact)
fact_row store fact there =
    let rows = filter_map (λ (o : Option SeenRow). o) store.rows in
    let from = Contains-from_map (fact_in store) rows fact (subst (λ l. Contains l fact) (held_map_all (fact_in store) store.rows) there) in
    let n = held_place store.rows from.0 from.1 in
    (from.0, n.0, n.1, from.2)

-- the choice that is made, told by what the values are
module _ (store : Store) (l r : TermOf ConstId) (c : Ends) (can : CanBeEqual l r) (x y : Seen) (values : AreValuesOf store l r c x y)
    (n : ℕ) (chosen : Seen) (span : Ends) (its : IsSomeAnd (piece_at store n) (λ p. p.span ≡ span)) (ok : IsSpan span) where
  -- the span of the piece has an instant
  instant_of : IsLiveOver store c (Piece n) → HasInstant c
  instant_of live =
      let p = some_and (λ (p : PieceOf). p.span ≡ span) (piece_at store n) its in
      let q = some_and (λ (q : PieceOf). q.span ≡ c) (piece_at store n) live in
      let same : p.0 ≡ q.0 = same_some (piece_at store n) p.0 q.0 p.1 q.1 in
      subst HasInstant (sym p.2 ∙ ap (λ (w : PieceOf). w.span) same ∙ q.2) ok.instant

  live_left : (p : ℕ) → x ≡ Piece p → n ≡ p → HasInstant c
  live_left p e same =
      instant_of (subst (λ k. IsLiveOver store c (Piece k)) (sym same) (subst (IsLiveOver store c) e values.left_is.live))

  live_right : (p : ℕ) → y ≡ Piece p → n ≡ p → HasInstant c
  live_right p e same =
      instant_of (subst (λ k. IsLiveOver store c (Piece k)) (sym same) (subst (IsLiveOver store c) e values.right_is.live))

  shown_as : (v w : Seen) → x ≡ v → y ≡ w → AreValuesOf store l r c v w
  shown_as v w p q = record {
    left_is = subst (IsValueOf store l c) p values.left_is;
    right_is = subst (IsValueOf store r c) q values.right_is;
  }

  made : (p : ℕ) (v : Seen) → n ≡ p → chosen ≡ v → IsChoice store l r c p v → IsChoice store l r c n chosen
  made p v e f h = subst (λ k. IsChoice store l r c k chosen) (sym e) (subst (IsChoice store l r c p) (sym f) h)

  module _ (a b : ℕ) (p : x ≡ Piece a) (q : y ≡ Piece b) (less : Bool) (test : IsSomeAnd (piece_at store a)
      (λ u. IsSomeAnd (piece_at store b) (λ w. IsTrue less ↔ (unknown_cmp u.unknown w.unknown ≡ Less)))) where
    pub made_lesser : less ≡ true → n ≡ b → chosen ≡ x → IsChoice store l r c n chosen
    made_lesser is e f = made b (Piece a) e (f ∙ p) (choice_lesser store l r c can a b (shown_as (Piece a) (Piece b) p q) (live_right b q e)
        ((lesser_is store l r c can a b (shown_as (Piece a) (Piece b) p q) less test).0 is))

    pub made_greater : less ≡ false → n ≡ a → chosen ≡ y → IsChoice store l r c n chosen
    made_greater is e f = made a (Piece b) e (f ∙ q) (choice_greater store l r c can a b (shown_as (Piece a) (Piece b) p q) (live_left a p e)
        (λ h. false≢true (sym is ∙ (lesser_is store l r c can a b (shown_as (Piece a) (Piece b) p q) less test).1 h)))

  pub made_first : (a : ℕ) (k : ConstId) → x ≡ Piece a → y ≡ Const k → n ≡ a → chosen ≡ y → IsChoice store l r c n chosen
  made_first a k p q e f =
      made a (Const k) e (f ∙ q) (choice_first store l r c can a k (live_left a p e) (shown_as (Piece a) (Const k) p q))

  pub made_second : (b : ℕ) (k : ConstId) → x ≡ Const k → y ≡ Piece b → n ≡ b → chosen ≡ x → IsChoice store l r c n chosen
  made_second b k p q e f =
      made b (Const k) e (f ∙ p) (choice_second store l r c can b k (live_right b q e) (shown_as (Const k) (Piece b) p q))

-- a row that meets the span of a value and holds its unknown is over that span
pub stands_over : (store : Store) → IsStore store → (c : Ends) (v : Seen) → IsLiveOver store c v
    → StandsOver (facts_in store) (term_in store v) c
stands_over store ok c v live = All-weaker (Contains (facts_in store)) Over is_over (facts_in store) (All-contains_itself (facts_in store))
  where
    Over : RowOf ConstId → Type 0
    Over fact = HoldsTerm fact (term_in store v) → Meet fact.span c → fact.span ≡ c

    of_value : (s : Ends) (u : Unknown ConstId) (x : Seen) → term_in store x ≡ unknown u → IsLiveOver store s x → IsLiveOver store c x → s ≡ c
    of_value s u (Const k) e p q = absurd cc
    of_value s u (Piece n) e p q =
        let one = some_and (λ (piece : PieceOf). piece.span ≡ s) (piece_at store n) p in
        let two = some_and (λ (piece : PieceOf). piece.span ≡ c) (piece_at store n) q in
        let same : one.0 ≡ two.0 = same_some (piece_at store n) one.0 two.0 one.1 two.1 in
        sym one.2 ∙ ap (λ (piece : PieceOf). piece.span) same ∙ two.2

    is_over : (fact : RowOf ConstId) → Contains (facts_in store) fact → Over fact
    is_over fact there holds meets =
        let from = fact_row store fact there in
        let row = from.0 in
        let meet : Meet row.span c = subst (λ (f : RowOf ConstId). Meet f.span c) (sym from.3) meets in
        let inside : Contains (map (term_in store) row.cells) (unknown holds.0) =
        subst (λ (f : RowOf ConstId). Contains f.row.terms (unknown holds.0)) (sym from.3) holds.2 in
        let cell = Contains-from_map (term_in store) row.cells (unknown holds.0) inside in
        let its = All-contains (IsLiveOver store row.span) row.cells cell.0 (ok.live from.1 row from.2) cell.1 in
        let same : cell.0 ≡ v = one_cell store ok row.span c meet cell.0 v its live (cell.2 ∙ sym holds.1) in
        ap (λ (f : RowOf ConstId). f.span) (sym from.3)
        ∙ of_value row.span holds.0 v holds.1 (subst (IsLiveOver store row.span) same its) live

-- what is held, in order
map_held : {X Y Z : Type 0} (k : Y → Z) (f : X → Y) (xs : List (Option X))
    → map k (filter_map (option_map f) xs) ≡ filter_map (option_map (λ x. k (f x))) xs
map_held k f [] = refl
map_held k f (None ∷ xs) = map_held k f xs
map_held k f (Some x ∷ xs) = ap (λ l. k (f x) ∷ l) (map_held k f xs)

-- two lists that hold the same at each place
same_held : {X Y Z : Type 0} (f : X → Z) (g : Y → Z) (xs : List (Option X)) (ys : List (Option Y))
    → ((n : ℕ) → option_map f (held_at xs n) ≡ option_map g (held_at ys n)) → filter_map (option_map f) xs ≡ filter_map (option_map g) ys
same_held f g [] [] h = refl
same_held f g [] (None ∷ ys) h = same_held f g [] ys (λ n. h (suc n))
same_held f g [] (Some y ∷ ys) h = let clash = h 0 in absurd cc
same_held f g (None ∷ xs) [] h = same_held f g xs [] (λ n. h (suc n))
same_held f g (Some x ∷ xs) [] h = let clash = h 0 in absurd cc
same_held f g (None ∷ xs) (None ∷ ys) h = same_held f g xs ys (λ n. h (suc n))
same_held f g (None ∷ xs) (Some y ∷ ys) h = let clash = h 0 in absurd cc
same_held f g (Some x ∷ xs) (None ∷ ys) h = let clash = h 0 in absurd cc
same_held f g (Some x ∷ xs) (Some y ∷ ys) h =
    let first = h 0 in
    let same : f x ≡ g y = cc in
    let rest = same_held f g xs ys (λ n. h (suc n)) in
    λ i. same i ∷ rest i

-- spans that tie are one span
span_cmp-IsAntisymmetric : IsAntisymmetric span_cmp
span_cmp-IsAntisymmetric a b e = search rules

module _ (old new : Store) (ok : IsStore old) (l r : TermOf ConstId) (c : Ends) (x y : Seen) (values : AreValuesOf old l r c x y)
    (piece : ℕ) (by : Seen) (choice : IsChoice old l r c piece by) (terms : SubstitutesTerm piece by old new) where
  abbrev gone : Unknown ConstId
  gone = unknown_value choice.its.unknown

  abbrev replacement : Replacement ConstId
  replacement = record { gone = gone; by = term_in old by }

  abbrev changed : RowOf ConstId → RowOf ConstId
  changed = replaced_over id_cmp replacement c

  its_term : term_in old (Piece piece) ≡ unknown gone
  its_term = piece_term old piece choice.its choice.live

  itself : order_of id_cmp gone gone ≡ Equal
  itself = tied_itself unknown_cmp-total choice.its.unknown

  -- a term becomes what the replacement says
  one_term : (term later : TermOf ConstId) → BecomesTerm (term_in old (Piece piece)) (term_in old by) term later
      → term_image (becomes id_cmp replacement) term ≡ later
  one_term (constant k) later b = sym (b.rest (λ e. let clash : constant k ≡ unknown gone = e ∙ its_term in cc))
  one_term (unknown u) later b = by_order (order_of id_cmp u gone) refl
    where
      not_it : (o : Ordering) → order_of id_cmp u gone ≡ o → ¬ (Equal ≡ o) → later ≡ unknown u
      not_it o e other = b.rest (λ same.
          let it : unknown u ≡ unknown gone = same ∙ its_term in
          let one : u ≡ gone = cc in
          other (sym itself ∙ ap (λ w. order_of id_cmp w gone) (sym one) ∙ e))

      by_order : (o : Ordering) → order_of id_cmp u gone ≡ o → if_equal o (term_in old by) (unknown u) ≡ later
      by_order Less e = sym (not_it Less e (λ clash. absurd cc))
      by_order Greater e = sym (not_it Greater e (λ clash. absurd cc))
      by_order Equal e = sym (b.its (term_cmp-IsAntisymmetric id_cmp id_cmp-IsAntisymmetric (unknown u) (unknown gone) e ∙ sym its_term))

  one_fact : (fact later : RowOf ConstId) → BecomesFact (term_in old (Piece piece)) (term_in old by) fact later
      → record { row = replaced_fact id_cmp replacement fact.row; span = fact.span } ≡ later
  one_fact fact later b =
      let terms_are = same_at_each (map (term_image (becomes id_cmp replacement)) fact.row.terms) later.row.terms
      (length-map fact.row.terms (term_image (becomes id_cmp replacement)) ∙ sym b.arity)
      (λ k s t p q.
      let from = from_map (term_image (becomes id_cmp replacement)) (slice_get fact.row.terms k) s
      (sym (slice_get-map (term_image (becomes id_cmp replacement)) fact.row.terms k) ∙ p) in
      sym from.2 ∙ one_term from.0 t (b.terms k from.0 t from.1 q)) in
      λ i. record { row = record { relation = sym b.relation i; terms = terms_are i }; span = sym b.span i }

  -- a row over the span changes, and any other stays
  one_row : (n : ℕ) (row : SeenRow) → row_at old.rows n ≡ Some row
      → (later : SeenRow) × (row_at new.rows n ≡ Some later) × (changed (fact_in old row) ≡ fact_in new later)
  one_row n row e = by_order (span_cmp row.span c) refl
    where
      stays : ¬ (row.span ≡ c) → (later : SeenRow) × (row_at new.rows n ≡ Some later) × (fact_in new later ≡ fact_in old row)
      stays other = some_and (λ (later : SeenRow). fact_in new later ≡ fact_in old row) (row_at new.rows n) (terms.others n row e (λ there.
          let live = All-contains (IsLiveOver old row.span) row.cells (Piece piece) (ok.live n row e) there in
          let its = some_and (λ (p : PieceOf). p.span ≡ row.span) (piece_at old piece) live in
          let same : its.0 ≡ choice.its = same_some (piece_at old piece) its.0 choice.its its.1 choice.live in
          other (sym its.2 ∙ ap (λ (p : PieceOf). p.span) same ∙ choice.span)))

      by_order : (o : Ordering) → span_cmp row.span c ≡ o → (later : SeenRow) × (row_at new.rows n ≡ Some later)
          × (if_equal o (record { row = replaced_fact id_cmp replacement (fact_in old row).row; span = row.span }) (fact_in old row)
          ≡ fact_in new later)
      by_order Less o =
          let h = stays (λ same. let no : Less ≡ Equal = sym o ∙ ap (span_cmp row.span) (sym same) ∙ tied_itself span_cmp-total row.span in absurd cc) in
          (h.0, h.1, sym h.2)
      by_order Greater o =
          let h = stays (λ same. let no : Greater ≡ Equal = sym o ∙ ap (span_cmp row.span) (sym same) ∙ tied_itself span_cmp-total row.span in absurd cc) in
          (h.0, h.1, sym h.2)
      by_order Equal o =
          let same : row.span ≡ c = span_cmp-IsAntisymmetric row.span c o in
          let t = choice.instant.0 in
          let in_row : Has row.span t = subst (λ s. Has s t) (sym same) choice.instant.1 in
          let in_piece : Has choice.its.span t = subst (λ s. Has s t) (sym choice.span) choice.instant.1 in
          let h = some_and (λ (later : SeenRow). BecomesFact (term_in old (Piece piece)) (term_in old by) (fact_in old row) (fact_in new later))
          (row_at new.rows n)
          (terms.within t (and_some (λ (p : PieceOf). Has p.span t) (piece_at old piece) choice.its choice.live in_piece) n row e in_row) in
          (h.0, h.1, one_fact (fact_in old row) (fact_in new h.0) h.2)

  each_row : (n : ℕ) → option_map (λ row. changed (fact_in old row)) (row_at old.rows n) ≡ option_map (fact_in new) (row_at new.rows n)
  each_row n = by_row (row_at old.rows n) refl
    where
      by_row : (o : Option SeenRow) → row_at old.rows n ≡ o
          → option_map (λ row. changed (fact_in old row)) o ≡ option_map (fact_in new) (row_at new.rows n)
      by_row None e = sym (ap (option_map (fact_in new)) (terms.only n e))
      by_row (Some row) e =
          let h = one_row n row e in
          ap Some h.2 ∙ sym (ap (option_map (fact_in new)) h.1)

  all_rows : map changed (facts_in old) ≡ facts_in new
  all_rows = map_held changed (fact_in old) old.rows
      ∙ same_held (λ row. changed (fact_in old row)) (fact_in new) old.rows new.rows each_row

  pub replaces : Replaces l r c old new
  replaces = record {
    replacement = replacement;
    sides = choice.sides;
    left = subst (λ t. StandsOver (facts_in old) t c) values.left_is.term_is (stands_over old ok c x values.left_is.live);
    right = subst (λ t. StandsOver (facts_in old) t c) values.right_is.term_is (stands_over old ok c y values.right_is.live);
    replaced = subst (λ facts. IsPermutation (map changed (facts_in old)) facts) all_rows (IsPermutation-refl (map changed (facts_in old)));
  }

-- cells that do not hold the piece stay
instead_none : (piece : ℕ) (by : Seen) (cells : List Seen) → ¬ (Contains cells (Piece piece)) → map (instead piece by) cells ≡ cells
instead_none piece by [] none = refl
instead_none piece by (v ∷ cells) none =
    let first : instead piece by v ≡ v =
    instead_else piece by v (λ e. none (subst (λ w. Contains (w ∷ cells) (Piece piece)) (sym e) (Contains-head (Piece piece) cells))) in
    let rest = instead_none piece by cells (λ there. none (Contains-cons v (Piece piece) cells there)) in
    λ i. first i ∷ rest i

-- a row of none of the numbers does not hold the piece
pub not_held : (old : Store) (piece : ℕ) (numbers : List ℕ) → HasRowsOf old.rows piece numbers → (number : ℕ) (row : SeenRow)
    → row_at old.rows number ≡ Some row → ¬ (Contains numbers number) → ¬ (Contains row.cells (Piece piece))
not_held old piece numbers has number row e other there =
    let column = at_from_contains row.cells (Piece piece) there in
    let place = has.2.all number column.0 (ap (option_and_then (λ (r : SeenRow). slice_get r.cells column.0)) e ∙ column.1) in
    let its = at_map (λ (p : Place). p.row) has.0 place.0 (record { row = number; column = column.0 }) place.1 in
    other (subst (λ l. Contains l number) (sym has.1) (contains_from_at (map (λ (p : Place). p.row) has.0) place.0 number its))

-- a row of none of the numbers is as it was
pub others_same : (old new : Store) (piece : ℕ) (by : Seen) (numbers : List ℕ) → HasRowsOf old.rows piece numbers
    → ReplacesCells old.rows new.rows piece by → (number : ℕ) → ¬ (Contains numbers number)
    → row_at new.rows number ≡ row_at old.rows number
others_same old new piece by numbers has cells number other = by_row (row_at old.rows number) refl
  where
    by_row : (o : Option SeenRow) → row_at old.rows number ≡ o → row_at new.rows number ≡ row_at old.rows number
    by_row None e = cells number ∙ ap (option_map (row_instead piece by)) e ∙ sym e
    by_row (Some row) e =
        let same = instead_none piece by row.cells (not_held old piece numbers has number row e other) in
        cells number ∙ ap (option_map (row_instead piece by)) e
        ∙ (λ i. Some (record { relation = row.relation; cells = same i; span = row.span })) ∙ sym e
