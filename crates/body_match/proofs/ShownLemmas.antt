-- For a match with different values there is one that a search finds: at each instant the rows that are shown stand for the others.
use Rattle.std.proofs.Common.{◌≡◌, inl, inr, ⊎_elim, ◌↔◌, ℕ, ℤ, zero, suc, ◌<◌, ◌≤◌, Option, Some, None, List, [], ◌∷◌, length, map, refl, sym, ap, ◌∙◌, subst, arith, Contains}
use Rattle.std.specs.Prelude.{slice_get}
use Rattle.std.specs.Ordering.{ord_max, ord_min}
use Rattle.std.proofs.lemmas.Bool.{cases_eq, cases_lt}
use Rattle.std.proofs.lemmas.Option.{slice_get_past}
use Rattle.std.proofs.lemmas.List.{length-map}
use Rattle.std.proofs.lemmas.List.Elements.{All-contains, Contains-get_or}
use Rattle.time_line.specs.Span.{Ends, Has, start_cmp, stop_cmp}
use Rattle.time_line.proofs.SpanLemmas.{IsMeet-from_ends}
use Rattle.term_core.specs.declared.term.Seen.{Seen}
use Rattle.rule_core.specs.declared.rules.Arg.{Arg}
use Rattle.rule_core.specs.declared.rules.Arg.TheVariants.{Var, Const}
use Rattle.rule_core.specs.declared.rules.Atom.{Atom}
use Rattle.rule_core.proofs.ListLemmas.{Contains-head, Contains-cons, Contains-cons_cases, Contains-nil}
use Rattle.fact_table.specs.Rows.{SeenRow, row_at, cell_at}
use Rattle.body_match.specs.declared.found.Match.{Match}
use Rattle.body_match.specs.declared.places.Place.{Place}
use Rattle.body_match.specs.declared.plan.Plan.{Plan}
use Rattle.body_match.specs.Matches.{seen_value, IsImage, IsImageAt, HoldsAt}
use Rattle.body_match.specs.Keys.{IsListedUnder}
use Rattle.body_match.specs.Search.{Task, IsTask, IsFindable, cell_in, placed_value, IsPartial, BeginsWith, IsListedFrom}
use Rattle.body_match.specs.Index.{IsUnequal}
use Rattle.body_match.specs.Plans.{IsIndex, IsPlan, HaveNone, task_in}
use Rattle.body_match.specs.Unequal.{Differ}
use Rattle.body_match.specs.Equality.{Equality, Recurs, IsLookedAt, FitsAtom, IsShown, Shows}
use Rattle.body_match.proofs.ListLemmas.{at_within, within_from_at, at_from_contains, contains_from_at, maps_from_each, zip_at, zip_length}
use Rattle.body_match.proofs.SearchLemmas.{some_and, and_some, same_some, cell_from_row, image_cell, located, placed_var}
use Rattle.body_match.proofs.LeafLemmas.{placed_all, seen_placed, made, made_is_match}
use Rattle.body_match.proofs.ExistLemmas.{values_exist}
use Rattle.body_match.proofs.PlanLemmas.{at_ordered, ordered_size, order_once}
use Rattle.body_match.proofs.IndexLemmas.{can_search_each}
use Rattle.body_match.proofs.UsingLemmas.{found_in_plan}

-- one for each of a list
choose : {X Y : Type 0} (xs : List X) (R : ℕ → X → Y → Type 0) → ((k : ℕ) (x : X) → slice_get xs k ≡ Some x → (y : Y) × R k x y)
    → (ys : List Y) × (length ys ≡ length xs) × ((k : ℕ) (x : X) (y : Y) → slice_get xs k ≡ Some x → slice_get ys k ≡ Some y → R k x y)
choose [] R h = ([], refl, λ k x y e. absurd cc)
choose {X} {Y} (x ∷ xs) R h =
    let here = h 0 x refl in
    let rest = choose xs (λ k. R (suc k)) (λ k z e. h (suc k) z e) in
    (here.0 ∷ rest.0, ap suc rest.1, each here.0 here.1 rest.0 rest.2)
  where
    each : (y : Y) → R 0 x y → (ys : List Y)
        → ((k : ℕ) (a : X) (b : Y) → slice_get xs k ≡ Some a → slice_get ys k ≡ Some b → R (suc k) a b)
        → (k : ℕ) (a : X) (b : Y) → slice_get (x ∷ xs) k ≡ Some a → slice_get (y ∷ ys) k ≡ Some b → R k a b
    each y here ys later zero a b p q =
        let left : x ≡ a = cc in
        let right : y ≡ b = cc in
        subst (λ z. R 0 z b) left (subst (λ z. R 0 x z) right here)
    each y here ys later (suc k) a b p q = later k a b p q

-- all instants that rows have in common, where there is one
common_of : (rows : List (Option SeenRow)) (t : ℤ) (list : List ℕ) → ((n : ℕ) → Contains list n → HoldsAt rows t n)
    → (span : Ends) × Has span t × ((s : ℤ) → Has span s ↔ ((n : ℕ) → Contains list n → HoldsAt rows s n))
common_of rows t [] h =
    (record { lo = None; hi = None }, (tt, tt), λ s. (λ g n c. absurd (Contains-nil n c), λ all. (tt, tt)))
common_of rows t (n ∷ list) h =
    let rest = common_of rows t list (λ m c. h m (Contains-cons n m list c)) in
    let row = some_and (λ (r : SeenRow). Has r.span t) (row_at rows n) (h n (Contains-head n list)) in
    let before : Ends = rest.0 in
    let meets = IsMeet-from_ends before row.0.span (ord_max start_cmp before.lo row.0.span.lo) (ord_min stop_cmp before.hi row.0.span.hi)
    refl refl in (
      record { lo = ord_max start_cmp before.lo row.0.span.lo; hi = ord_min stop_cmp before.hi row.0.span.hi },
      (meets t).1 (rest.1, row.2),
      λ s. (
        λ g m c. ⊎_elim
            (λ (e : n ≡ m). subst (HoldsAt rows s) e
            (and_some (λ (r : SeenRow). Has r.span s) (row_at rows n) row.0 row.1 ((meets s).0 g).1))
            (λ (d : Contains list m). (rest.2 s).0 ((meets s).0 g).0 m d)
            (Contains-cons_cases n m list c),
        λ all. (meets s).1 (
          (rest.2 s).1 (λ m c. all m (Contains-cons n m list c)),
          in_row row.0 row.1 s (all n (Contains-head n list)),
        ),
      ),
    )
  where
    in_row : (r : SeenRow) → row_at rows n ≡ Some r → (s : ℤ) → HoldsAt rows s n → Has r.span s
    in_row r e s holds =
        let there = some_and (λ (x : SeenRow). Has x.span s) (row_at rows n) holds in
        subst (λ (x : SeenRow). Has x.span s) (same_some (row_at rows n) there.0 r there.1 e) there.2

-- at an instant a row stands for another one at an atom
record StandsFor (e : Equality) (rows : List (Option SeenRow)) (t : ℤ) (atom : Atom) (old new : ℕ) : Type 0 where
  row : SeenRow
  there : row_at rows new ≡ Some row
  relation : row.relation ≡ atom.relation
  arity : length row.cells ≡ length atom.args
  cells : (column : ℕ) (arg : Arg) → slice_get atom.args column ≡ Some arg → IsLookedAt e arg → cell_at rows new column ≡ cell_at rows old column
  instant : Has row.span t

-- the row of an image
module _ (e : Equality) (rows : List (Option SeenRow)) (t : ℤ) (value : Arg → Option Seen) (atom : Atom) (n : ℕ)
    (image : IsImageAt rows value atom n) (holds : HoldsAt rows t n) where
  there : (row : SeenRow) × (row_at rows n ≡ Some row) × IsImage value atom row
  there = some_and (IsImage value atom) (row_at rows n) image

  fits : FitsAtom atom there.0
  fits = record {
    relation = there.2.relation;
    arity = sym (length-map there.0.cells Some) ∙ ap length there.2.cells ∙ length-map atom.args value;
  }

  has : Has there.0.span t
  has =
      let h = some_and (λ (r : SeenRow). Has r.span t) (row_at rows n) holds in
      subst (λ (r : SeenRow). Has r.span t) (same_some (row_at rows n) h.0 there.0 h.1 there.1) h.2

  -- it stands for itself
  for_itself : StandsFor e rows t atom n n
  for_itself = record {
    row = there.0;
    there = there.1;
    relation = fits.relation;
    arity = fits.arity;
    cells = λ column arg a looked. refl;
    instant = has;
  }

  -- and one that is shown stands for it
  shown_for_it : Shows e rows → Contains e.index.body atom → (new : ℕ) × IsShown e new × StandsFor e rows t atom n new
  shown_for_it shows in_body =
      let s = shows.stand n there.0 t there.1 (atom, in_body, fits) has in (
        s.number,
        s.shown,
        record {
          row = s.other;
          there = s.there;
          relation = s.like.relation ∙ fits.relation;
          arity = s.like.arity ∙ fits.arity;
          cells = λ column arg a looked. cell_from_row rows s.number column s.other s.there ∙ s.like.cells atom column arg in_body fits a looked
              ∙ sym (cell_from_row rows n column there.0 there.1);
          instant = s.instant;
        },
      )

module _ (e : Equality) (ok : IsIndex e.index) (rows : List (Option SeenRow)) (shows : Shows e rows) (row first : ℕ) (plan : Plan)
    (here : slice_get e.index.plans first ≡ Some plan) where
  abbrev order : List ℕ
  order = plan.order.items

  abbrev task : Task
  task = task_in plan rows

  plan_ok : IsPlan e.index.body e.index.vars first plan
  plan_ok = ok.each first plan here

  task_ok : IsTask task
  task_ok = (can_search_each e.index ok rows first plan here).task

  -- the place of an atom in the body
  in_body : (k : ℕ) (atom : Atom) → slice_get plan.body k ≡ Some atom
      → (place : ℕ) × (slice_get order k ≡ Some place) × (slice_get e.index.body place ≡ Some atom)
  in_body k atom at =
      let size = ordered_size e.index.body order plan.body plan_ok.atoms in
      let place = at_within order k (let l = within_from_at plan.body k atom at in omega (arith, l, size)) in
      (place.0, place.1, at_ordered e.index.body order plan.body plan_ok.atoms k place.0 atom place.1 at)

  -- a variable with two cells in the order has two in the body
  recurs : (v j k l m : ℕ) (a b : Atom) → slice_get plan.body j ≡ Some a → slice_get a.args k ≡ Some (Var v)
      → slice_get plan.body l ≡ Some b → slice_get b.args m ≡ Some (Var v) → ¬ ((j ≡ l) × (k ≡ m)) → Recurs e.index.body v
  recurs v j k l m a b p q r s apart =
      let x = in_body j a p in
      let y = in_body l b r in
      record {
        place = x.0;
        column = k;
        other_place = y.0;
        other_column = m;
        stands = and_some (λ (atom : Atom). slice_get atom.args k ≡ Some (Var v)) (slice_get e.index.body x.0) a x.2 q;
        again = and_some (λ (atom : Atom). slice_get atom.args m ≡ Some (Var v)) (slice_get e.index.body y.0) b y.2 s;
        apart = λ same. apart (
          order_once (length e.index.body) order plan_ok.order.moved j l x.0 x.1 (y.1 ∙ ap (λ n. Some n) (sym same.0)),
          same.1,
        );
      }

  module _ (found : Match) (listed : IsListedFrom task (row ∷ []) found) where
    abbrev value : Arg → Option Seen
    value = seen_value found.binding

    abbrev t : ℤ
    t = listed.0.instant.0

    long : length plan.body ≡ length found.rows
    long = zip_length (IsImageAt rows value) plan.body found.rows listed.0.images

    holds : (k n : ℕ) → slice_get found.rows k ≡ Some n → HoldsAt rows t n
    holds k n at =
        All-contains (HoldsAt rows t) found.rows n ((listed.0.common t).0 listed.0.instant.1) (contains_from_at found.rows k n at)

    image_at : (k n : ℕ) (atom : Atom) → slice_get found.rows k ≡ Some n → slice_get plan.body k ≡ Some atom → IsImageAt rows value atom n
    image_at k n atom at a =
        let z = zip_at (IsImageAt rows value) plan.body found.rows listed.0.images k atom a in
        subst (IsImageAt rows value atom) (same_some (slice_get found.rows k) z.0 n z.1 at) z.2

    -- the row for a place: the same at the first, and a shown one behind it
    record FitsPlace (k old new : ℕ) : Type 0 where
      shown : 1 ≤ k → IsShown e new
      same : k ≡ 0 → old ≡ new
      stands : (atom : Atom) → slice_get plan.body k ≡ Some atom → StandsFor e rows t atom old new

    row_for : (k n : ℕ) → slice_get found.rows k ≡ Some n → (new : ℕ) × FitsPlace k n new
    row_for zero n at = (
      n,
      record {
        shown = λ l. absurd (omega (arith, l));
        same = λ z. refl;
        stands = λ atom a. for_itself e rows t value atom n (image_at 0 n atom at a) (holds 0 n at);
      },
    )
    row_for (suc k) n at =
        let atom = at_within plan.body (suc k) (let l = within_from_at found.rows (suc k) n at in omega (arith, l, long)) in
        let place = in_body (suc k) atom.0 atom.1 in
        let s = shown_for_it e rows t value atom.0 n (image_at (suc k) n atom.0 at atom.1) (holds (suc k) n at) shows
        (contains_from_at e.index.body place.0 atom.0 place.2) in (
          s.0,
          record {
            shown = λ l. s.1;
            same = λ z. absurd (omega (arith, z));
            stands = λ a h. subst (λ x. StandsFor e rows t x n s.0) (same_some (slice_get plan.body (suc k)) atom.0 a atom.1 h) s.2;
          },
        )

    chosen : (new : List ℕ) × (length new ≡ length found.rows)
        × ((k n m : ℕ) → slice_get found.rows k ≡ Some n → slice_get new k ≡ Some m → FitsPlace k n m)
    chosen = choose found.rows FitsPlace row_for

    -- the row that another one stands for
    record Replaced (k n : ℕ) (atom : Atom) : Type 0 where
      old : ℕ
      at : slice_get found.rows k ≡ Some old
      image : IsImageAt rows value atom old
      fits_place : FitsPlace k old n
      stands : StandsFor e rows t atom old n

    module _ (new : List ℕ) (size : length new ≡ length found.rows)
        (each : (k n m : ℕ) → slice_get found.rows k ≡ Some n → slice_get new k ≡ Some m → FitsPlace k n m) where
      replaced : (k n : ℕ) (atom : Atom) → slice_get plan.body k ≡ Some atom → slice_get new k ≡ Some n → Replaced k n atom
      replaced k n atom a c =
          let old = at_within found.rows k (let l = within_from_at new k n c in omega (arith, l, size)) in
          let h = each k old.0 n old.1 c in
          record {
            old = old.0;
            at = old.1;
            image = image_at k old.0 atom old.1 a;
            fits_place = h;
            stands = h.stands atom a;
          }

      -- where it is looked at what an argument stands for, it stands for the same
      cell_is : (k n j : ℕ) (atom : Atom) (arg : Arg) → slice_get plan.body k ≡ Some atom → slice_get new k ≡ Some n
          → slice_get atom.args j ≡ Some arg → IsLookedAt e arg → cell_at rows n j ≡ value arg
      cell_is k n j atom arg a c g looked =
          let r = replaced k n atom a c in
          let cell = image_cell rows value atom r.old j arg r.image g in
          r.stands.cells j arg g looked ∙ cell.1 ∙ sym cell.2

      variable_is : (v : ℕ) (place : Place) → slice_get task.places v ≡ Some place → IsLookedAt e (Var v)
          → placed_value task new (Var v) ≡ slice_get found.binding v
      variable_is v place at looked =
          let first = (task_ok.places.each v place at).there in
          let n = at_within new place.atom (let l = within_from_at plan.body place.atom first.0 first.1 in omega (arith, l, long, size)) in
          placed_var task task_ok new v n.0 place at n.1 ∙ cell_is place.atom n.0 place.column first.0 (Var v) first.1 n.1 first.2 looked

      agrees : (k n j : ℕ) (atom : Atom) (arg : Arg) → slice_get plan.body k ≡ Some atom → slice_get new k ≡ Some n
          → slice_get atom.args j ≡ Some arg → cell_at rows n j ≡ placed_value task new arg
      agrees k n j atom (Const c) a at g = cell_is k n j atom (Const c) a at g tt
      agrees k n j atom (Var v) a at g =
          let p = located task task_ok k j v atom a g in
          let first = p.2.there in
          let others : ¬ ((k ≡ p.0.atom) × (j ≡ p.0.column)) → cell_at rows n j ≡ placed_value task new (Var v) =
          λ apart.
          let looked : IsLookedAt e (Var v) = inr (inr (recurs v k j p.0.atom p.0.column atom first.0 a g first.1 first.2 apart)) in
          cell_is k n j atom (Var v) a at g looked ∙ sym (variable_is v p.0 p.1 looked) in
          ⊎_elim
          (λ (same : k ≡ p.0.atom). ⊎_elim
          (λ (column : j ≡ p.0.column).
          ap (cell_at rows n) column ∙ sym (placed_var task task_ok new v n p.0 p.1 (ap (slice_get new) (sym same) ∙ at)))
          (λ (apart : ¬ (j ≡ p.0.column)). others (λ both. apart both.1))
          (cases_eq j p.0.column))
          (λ (apart : ¬ (k ≡ p.0.atom)). others (λ both. apart both.0))
          (cases_eq k p.0.atom)

      images : (k n : ℕ) (atom : Atom) → slice_get plan.body k ≡ Some atom → slice_get new k ≡ Some n
          → IsImageAt rows (placed_value task new) atom n
      images k n atom a c =
          let s = (replaced k n atom a c).stands in
          and_some (IsImage (placed_value task new) atom) (row_at rows n) s.row s.there (record {
            relation = s.relation;
            cells = maps_from_each Some (placed_value task new) s.row.cells atom.args s.arity
                (λ j x arg p q. sym (cell_from_row rows n j s.row s.there ∙ p) ∙ agrees k n j atom arg a c q);
          })

      holds_new : (n : ℕ) → Contains new n → HoldsAt rows t n
      holds_new n c =
          let k = at_from_contains new n c in
          let atom = at_within plan.body k.0 (let l = within_from_at new k.0 n k.1 in omega (arith, l, size, long)) in
          let s = (replaced k.0 n atom.0 atom.1 k.1).stands in
          and_some (λ (r : SeenRow). Has r.span t) (row_at rows n) s.row s.there s.instant

      abbrev span : (common : Ends) × Has common t × ((s : ℤ) → Has common s ↔ ((n : ℕ) → Contains new n → HoldsAt rows s n))
      span = common_of rows t new holds_new

      whole : length new ≡ length task.body
      whole = size ∙ sym long

      partial : IsPartial task new span.0
      partial = record {
        within = omega (arith, whole);
        images = λ k n atom a c. images k n atom a c;
        common = λ s. (
          λ h k d l. (span.2 s).0 h _ (Contains-get_or new k d l),
          λ all. (span.2 s).1 (λ n c. All-contains (HoldsAt rows s) new n all c),
        );
        instant = (t, span.1);
      }

      findable : (before n : ℕ) → 1 ≤ before → slice_get new before ≡ Some n → IsListedUnder plan.body plan.levels.items rows n
      findable before n some at =
          let old = at_within found.rows before (let l = within_from_at new before n at in omega (arith, l, size)) in
          All-contains (λ (p : Plan). IsListedUnder p.body p.levels.items rows n) e.index.plans plan
          (shows.listed n ((each before old.0 n old.1 at).shown some)) (contains_from_at e.index.plans first plan here)

      begins : BeginsWith (row ∷ []) new
      begins = by_list new refl
        where
          by_list : (list : List ℕ) → list ≡ new → BeginsWith (row ∷ []) list
          by_list [] is = absurd (let l : length found.rows ≡ length (row ∷ listed.1.0) = ap (λ (l : List ℕ). length l) listed.1.1 in
              let none : 0 ≡ length new = ap (λ (l : List ℕ). length l) is in omega (arith, l, size, none))
          by_list (n ∷ rest) is =
              let old : slice_get found.rows 0 ≡ Some row = ap (λ (l : List ℕ). slice_get l 0) listed.1.1 in
              let same : row ≡ n = (each 0 row n old (ap (λ (l : List ℕ). slice_get l 0) (sym is))).same refl in
              (rest, λ i. sym same i ∷ rest)

      -- the match of these rows
      abbrev values : (binding : List Seen) × (map Some binding ≡ map (cell_in task new) task.places)
      values = values_exist (cell_in task new) task.places (placed_all task task_ok new span.0 partial whole)

      abbrev other : Match
      other = made task task_ok new span.0 partial whole values.0 values.1

      same_value : (v : ℕ) → IsLookedAt e (Var v) → slice_get other.binding v ≡ slice_get found.binding v
      same_value v looked =
          sym (seen_placed task task_ok new span.0 partial whole values.0 values.1 (Var v))
          ∙ ⊎_elim
          (λ (l : v < length task.places). let place = at_within task.places v l in variable_is v place.0 place.1 looked)
          (λ (past : length task.places ≤ v).
          seen_placed task task_ok new span.0 partial whole values.0 values.1 (Var v)
          ∙ slice_get_past other.binding v (let l = (made_is_match task task_ok new span.0 partial whole values.0 values.1).values in omega (arith, l, past))
          ∙ sym (slice_get_past found.binding v (let l = listed.0.values in omega (arith, l, past))))
          (cases_lt v (length task.places))

      findable_one : Differ e.left e.right found
          → (m : Match) × IsListedFrom task (row ∷ []) m × IsFindable task m × Differ e.left e.right m
      findable_one differ = (
        other,
        (made_is_match task task_ok new span.0 partial whole values.0 values.1, begins),
        findable,
        λ same. differ (sym (same_value e.left (inl refl)) ∙ same ∙ same_value e.right (inr (inl refl))),
      )

    pub one_is_found : Differ e.left e.right found
        → (m : Match) × IsListedFrom task (row ∷ []) m × IsFindable task m × Differ e.left e.right m
    one_is_found differ = findable_one chosen.0 chosen.1 chosen.2 differ

-- so where no plan has one there is none
pub none_unequal : (e : Equality) → IsIndex e.index → (rows : List (Option SeenRow)) → Shows e rows → (row : ℕ)
    → HaveNone e.index.plans rows row e.left e.right (length e.index.plans) → (m : Match)
    → ¬ (IsUnequal e.index rows row e.left e.right m)
none_unequal e ok rows shows row none m h =
    let index = e.index in
    let a = at_from_contains m.rows row h.uses in
    let long : length index.body ≡ length m.rows =
    zip_length (IsImageAt rows (seen_value m.binding)) index.body m.rows h.match.images in
    let below : a.0 < length index.plans = omega (arith, within_from_at m.rows a.0 row a.1, long, ok.size) in
    let plan = at_within index.plans a.0 below in
    let found = found_in_plan index rows row a.0 plan.0 (ok.each a.0 plan.0 plan.1) m h.match a.1 in
    let differ : Differ e.left e.right found.0 =
    subst (λ values. slice_get values e.left ≡ slice_get values e.right → ⊥) (sym found.3) h.unequal in
    let one = one_is_found e ok rows shows row a.0 plan.0 plan.1 found.0 found.1 differ in
    none a.0 plan.0 below plan.1 one.0 one.1 one.2 one.3
