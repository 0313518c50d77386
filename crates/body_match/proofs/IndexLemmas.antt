-- Plans of an index: what they have, and how rows are listed in them.
use Rattle.std.proofs.Common.{◌≡◌, ⊎_elim, ℕ, ◌<◌, ◌≤◌, ◌+◌, ◌-◌, ◌↔◌, Option, Some, List, [], ◌∷◌, ◌++◌, length, get_or, refl, sym, ap, ◌∙◌, subst, arith, Contains, IsPermutation}
use Rattle.std.specs.Prelude.{slice_get, slice_set}
use Rattle.std.specs.List.{range_with_len}
use Rattle.std.proofs.lemmas.Bool.{cases_eq, cases_lt}
use Rattle.std.proofs.lemmas.List.{length_push}
use Rattle.std.proofs.lemmas.List.Elements.{All-contains}
use Rattle.std.proofs.lemmas.Option.{slice_get-get_or}
use Rattle.rule_core.specs.declared.rules.Arg.TheVariants.{Var}
use Rattle.rule_core.specs.declared.rules.Atom.{Atom}
use Rattle.rule_core.specs.Validity.{occurrences}
use Rattle.fact_table.specs.Rows.{SeenRow}
use Rattle.body_match.specs.declared.levels.Level.{Level}
use Rattle.body_match.specs.declared.lookup.Entry.{Entry}
use Rattle.body_match.specs.declared.places.Place.{Place}
use Rattle.body_match.specs.declared.plan.Plan.{Plan}
use Rattle.body_match.specs.Keys.{AreBound, AreLevels, IsEntryOf, IsLevel, IsListedUnder, ListsOne}
use Rattle.body_match.specs.Places.{AreFirstPlaces}
use Rattle.body_match.specs.Plans.{IsOrder, IsOrdered, IsPlan, AreSameLevels, AreSamePlans, CanList, CanSearch, ArePlans, IsIndex, IsListedFor, IsSamePlan, KeepsListed, KeepListed, task_in}
use Rattle.body_match.specs.Search.{ListsAll}
use Rattle.body_match.specs.Index.{Index, Grows, Lists, ListsRow}
use Rattle.body_match.proofs.ListLemmas.{at_within, within_from_at, contains_from_at, at_set_here, at_set_other, at_push, size_set}
use Rattle.body_match.proofs.PlaceLemmas.{atom_from_occurs, occurs_from_atom}
use Rattle.body_match.proofs.SearchLemmas.{same_some}
use Rattle.body_match.proofs.KeyLemmas.{number_within}
use Rattle.body_match.proofs.PlanLemmas.{order_size, order_has, ordered_size, at_ordered}

-- lists in which one place after the other is set

module _ {X : Type 0} (first old : List X) (at : ℕ) (a b : X) (there : slice_get first at ≡ Some a) (within : at < length old) where
  pub set_each : (R : ℕ → X → X → Type 0) → R at a b
      → ((k : ℕ) (x y : X) → slice_get first k ≡ Some x → slice_get old k ≡ Some y → R k x y)
      → (k : ℕ) (x y : X) → slice_get first k ≡ Some x → slice_get (slice_set old at b) k ≡ Some y → R k x y
  set_each R here before k x y e f = ⊎_elim
      (λ (same : k ≡ at).
      let x_is : a ≡ x = same_some (slice_get first at) a x there (ap (slice_get first) (sym same) ∙ e) in
      let y_is : b ≡ y =
      same_some (slice_get (slice_set old at b) at) b y (at_set_here old at b within) (ap (slice_get (slice_set old at b)) (sym same) ∙ f) in
      subst (λ n. R n x y) (sym same) (subst (λ z. R at x z) y_is (subst (λ z. R at z b) x_is here)))
      (λ (other : k ≡ at → ⊥). before k x y e (sym (at_set_other old at k b other) ∙ f))
      (cases_eq k at)

  pub set_first : (P : ℕ → X → Type 0) → P at b → ((k : ℕ) (y : X) → k < at → slice_get old k ≡ Some y → P k y)
      → (k : ℕ) (y : X) → k < at + 1 → slice_get (slice_set old at b) k ≡ Some y → P k y
  set_first P here before k y l f = ⊎_elim
      (λ (less : k < at). before k y less (sym (at_set_other old at k b (λ same. omega (arith, less, same))) ∙ f))
      (λ (not : at ≤ k).
      let same : k ≡ at = omega (arith, l, not) in
      let y_is : b ≡ y =
      same_some (slice_get (slice_set old at b) at) b y (at_set_here old at b within) (ap (slice_get (slice_set old at b)) (sym same) ∙ f) in
      subst (λ n. P n y) (sym same) (subst (P at) y_is here))
      (cases_lt k at)

  pub set_later : ((k : ℕ) → at ≤ k → slice_get old k ≡ slice_get first k)
      → (k : ℕ) → at + 1 ≤ k → slice_get (slice_set old at b) k ≡ slice_get first k
  set_later before k l = at_set_other old at k b (λ same. omega (arith, l, same)) ∙ before k (omega (arith, l))

-- rows listed in levels, so far

pub record AreListedIn (body : List Atom) (rows : List (Option SeenRow)) (row : ℕ) (first now : List Level) (done : ℕ) : Type 0 where
  pub size : length now ≡ length first
  pub columns : (k : ℕ) (a b : Level) → slice_get first k ≡ Some a → slice_get now k ≡ Some b → b.columns.items ≡ a.columns.items
  pub kept : KeepsListed first now
  pub listed : (k : ℕ) (level : Level) → k < done → slice_get now k ≡ Some level
      → (atom : Atom) → slice_get body (k + 1) ≡ Some atom → ListsOne rows atom level.columns.items row level.listed
  pub later : (k : ℕ) → done ≤ k → slice_get now k ≡ slice_get first k

module _ (body : List Atom) (rows : List (Option SeenRow)) (row : ℕ) where
  pub none_listed : (first : List Level) → AreListedIn body rows row first first 0
  none_listed first = record {
    size = refl;
    columns = λ k a b e f. ap (λ (l : Level). l.columns.items) (same_some (slice_get first k) b a f e);
    kept = λ k a b e f entry c. subst (λ (l : Level). Contains l.listed entry) (same_some (slice_get first k) a b e f) c;
    listed = λ k level l. absurd (omega (arith, l));
    later = λ k l. refl;
  }

  pub one_listed : (first old : List Level) (at : ℕ) (a b : Level) (atom : Atom) → slice_get old at ≡ Some a
      → slice_get body (at + 1) ≡ Some atom → b.columns.items ≡ a.columns.items
      → ((entry : Entry) → Contains a.listed entry → Contains b.listed entry) → ListsOne rows atom b.columns.items row b.listed
      → AreListedIn body rows row first old at → AreListedIn body rows row first (slice_set old at b) (at + 1)
  one_listed first old at a b atom here next columns kept listed h =
      let there : slice_get first at ≡ Some a = sym (h.later at (omega arith)) ∙ here in
      let within : at < length old = within_from_at old at a here in
      record {
        size = size_set old at b ∙ h.size;
        columns = set_each first old at a b there within (λ k x y. y.columns.items ≡ x.columns.items) columns h.columns;
        kept = set_each first old at a b there within (λ k x y. (entry : Entry) → Contains x.listed entry → Contains y.listed entry) kept h.kept;
        listed = set_first first old at a b there within
            (λ k (level : Level). (atom : Atom) → slice_get body (k + 1) ≡ Some atom → ListsOne rows atom level.columns.items row level.listed)
            (λ other e. subst (λ x. ListsOne rows x b.columns.items row b.listed)
            (same_some (slice_get body (at + 1)) atom other next e) listed) h.listed;
        later = set_later first old at a b there within h.later;
      }

  pub all_listed : (first now : List Level) (done : ℕ) → length body ≤ done + 1 → AreListedIn body rows row first now done
      → IsListedUnder body now rows row
  all_listed first now done whole h before atom level some e f =
      let within = within_from_at body before atom e in
      h.listed (before - 1) level (omega (arith, within, whole, some)) f atom
      (ap (slice_get body) (let same : before - 1 + 1 ≡ before = omega (arith, some) in same) ∙ e)

  -- only one outcome: the columns are the same
  pub same_levels : (first now : List Level) (done : ℕ) → AreListedIn body rows row first now done → AreSameLevels first now
  same_levels first now done h = record { size = h.size; columns = h.columns }

  pub one_same : (first old : List Level) (at : ℕ) (a b : Level) (done : ℕ) → slice_get old at ≡ Some a → done ≤ at
      → b.columns.items ≡ a.columns.items → AreListedIn body rows row first old done → AreSameLevels first (slice_set old at b)
  one_same first old at a b done here l columns h =
      let there : slice_get first at ≡ Some a = sym (h.later at l) ∙ here in
      let within : at < length old = within_from_at old at a here in
      record {
        size = size_set old at b ∙ h.size;
        columns = set_each first old at a b there within (λ k x y. y.columns.items ≡ x.columns.items) columns h.columns;
      }

-- rows listed in plans, so far

pub record AreListedFor (rows : List (Option SeenRow)) (row : ℕ) (first now : List Plan) (done : ℕ) : Type 0 where
  pub same : AreSamePlans first now
  pub kept : KeepListed first now
  pub listed : IsListedFor now rows row done
  pub later : (k : ℕ) → done ≤ k → slice_get now k ≡ slice_get first k

module _ (rows : List (Option SeenRow)) (row : ℕ) where
  same_plan : (a : Plan) → IsSamePlan a a
  same_plan a = record {
    order = refl;
    body = refl;
    places = refl;
    levels = record {
      size = refl;
      columns = λ k x y e f. ap (λ (l : Level). l.columns.items) (same_some (slice_get a.levels.items k) y x f e);
    };
  }

  pub no_plan_listed : (first : List Plan) → AreListedFor rows row first first 0
  no_plan_listed first = record {
    same = record {
      size = refl;
      each = λ k a b e f. subst (IsSamePlan a) (same_some (slice_get first k) a b e f) (same_plan a);
    };
    kept = λ k a b e f j x y p q entry c.
        let plan : a ≡ b = same_some (slice_get first k) a b e f in
        let level : x ≡ y = same_some (slice_get a.levels.items j) x y p (ap (λ (z : Plan). slice_get z.levels.items j) plan ∙ q) in
        subst (λ (l : Level). Contains l.listed entry) level c;
    listed = λ k plan l. absurd (omega (arith, l));
    later = λ k l. refl;
  }

  pub one_plan_listed : (first old : List Plan) (at : ℕ) (a b : Plan) → slice_get old at ≡ Some a → IsSamePlan a b
      → KeepsListed a.levels.items b.levels.items → IsListedUnder b.body b.levels.items rows row
      → AreListedFor rows row first old at → AreListedFor rows row first (slice_set old at b) (at + 1)
  one_plan_listed first old at a b here same kept listed h =
      let there : slice_get first at ≡ Some a = sym (h.later at (omega arith)) ∙ here in
      let within : at < length old = within_from_at old at a here in
      record {
        same = record {
          size = size_set old at b ∙ h.same.size;
          each = set_each first old at a b there within (λ k x y. IsSamePlan x y) same h.same.each;
        };
        kept = set_each first old at a b there within (λ k x y. KeepsListed x.levels.items y.levels.items) kept h.kept;
        listed = λ k plan l e. set_first first old at a b there within
            (λ k (plan : Plan). IsListedUnder plan.body plan.levels.items rows row) listed (λ k y l e. h.listed k y l e) k plan l e;
        later = set_later first old at a b there within h.later;
      }

  pub one_plan_same : (first old : List Plan) (at : ℕ) (a b : Plan) → slice_get old at ≡ Some a → IsSamePlan a b
      → AreListedFor rows row first old at → AreSamePlans first (slice_set old at b)
  one_plan_same first old at a b here same h =
      let there : slice_get first at ≡ Some a = sym (h.later at (omega arith)) ∙ here in
      let within : at < length old = within_from_at old at a here in
      record {
        size = size_set old at b ∙ h.same.size;
        each = set_each first old at a b there within (λ k x y. IsSamePlan x y) same h.same.each;
      }

-- what a plan has

module _ (body : List Atom) (order : List ℕ) (moved : IsPermutation (range_with_len 0 (length body)) order) (atoms : List Atom)
    (is : IsOrdered body order atoms) where
  pub occurs_in_body : (v : ℕ) → Contains (occurrences atoms) v → Contains (occurrences body) v
  occurs_in_body v c =
      let a = atom_from_occurs atoms v c in
      let place = at_within order a.0 (let l = within_from_at atoms a.0 a.1 a.2 in omega (arith, l, ordered_size body order atoms is)) in
      occurs_from_atom body v place.0 a.1 (at_ordered body order atoms is a.0 place.0 a.1 place.1 a.2) a.3

  pub occurs_in_order : (v : ℕ) → Contains (occurrences body) v → Contains (occurrences atoms) v
  occurs_in_order v c =
      let a = atom_from_occurs body v c in
      let k = order_has (length body) order moved a.0 (within_from_at body a.0 a.1 a.2) in
      let x = at_within atoms k.0 (let l = within_from_at order k.0 a.0 k.1 in omega (arith, l, ordered_size body order atoms is)) in
      let same : x.0 ≡ a.1 = same_some (slice_get body a.0) x.0 a.1 (at_ordered body order atoms is k.0 a.0 x.0 k.1 x.1) a.2 in
      occurs_from_atom atoms v k.0 x.0 x.1 (subst (λ (y : Atom). Contains y.args (Var v)) (sym same) a.3)

module _ (atoms : List Atom) (places : List Place) (rows : List (Option SeenRow)) (levels : List Level)
    (are : AreLevels atoms places rows (length atoms) levels) where
  level_at : (before : ℕ) (atom : Atom) (level : Level) → 1 ≤ before → slice_get atoms before ≡ Some atom
      → slice_get levels (before - 1) ≡ Some level → IsLevel places rows before atom level
  level_at before atom level some e f =
      let there = are before atom some (within_from_at atoms before atom e) e in
      subst (IsLevel places rows before atom) (same_some (slice_get levels (before - 1)) there.0 level there.1 f) there.2

  pub told_at : (before : ℕ) (atom : Atom) (level : Level) → 1 ≤ before → slice_get atoms before ≡ Some atom
      → slice_get levels (before - 1) ≡ Some level → AreBound places before atom level.columns.items
  told_at before atom level some e f = (level_at before atom level some e f).bound

  pub each_listed : (number : ℕ) → IsListedUnder atoms levels rows number
  each_listed number before atom level some e f row form =
      (level_at before atom level some e f).listed number (number_within rows number row form.there) row form

module _ (body : List Atom) (vars first : ℕ) (plan : Plan) (ok : IsPlan body vars first plan) where
  pub plan_size : length plan.body ≡ length body
  plan_size = ordered_size body plan.order.items plan.body ok.atoms ∙ order_size (length body) plan.order.items ok.order.moved

  pub can_list : CanList plan
  can_list = record {
    size = ok.size;
    within = λ before atom level some e f column c.
        let b = ok.told before atom level some e f column c in within_from_at atom.args column b.0 b.1;
  }

  pub can_search : (rows : List (Option SeenRow)) → 1 ≤ length body → ((v : ℕ) → Contains (occurrences body) v ↔ (v < vars))
      → CanSearch plan rows
  can_search rows some occurring =
      let order = plan.order.items in
      record {
        some = subst (λ n. 1 ≤ n) (sym plan_size) some;
        size = sym (ordered_size body order plan.body ok.atoms);
        order = subst (λ n. IsPermutation (range_with_len 0 n) order) (sym (order_size (length body) order ok.order.moved)) ok.order.moved;
        task = record {
          places = subst (λ n. AreFirstPlaces plan.body n plan.places.items) (sym ok.places.size) ok.places;
          vars = λ v c. subst (λ n. v < n) (sym ok.places.size)
              ((occurring v).0 (occurs_in_body body order ok.order.moved plan.body ok.atoms v c));
          size = ok.size;
          told = ok.told;
        };
      }

  -- a plan that looks up the same is one too
  pub still_plan : (new : Plan) → IsSamePlan plan new → IsPlan body vars first new
  still_plan new same = record {
    order = subst (IsOrder (length body) first) (sym same.order) ok.order;
    atoms = subst (λ order. IsOrdered body order new.body) (sym same.order)
        (subst (IsOrdered body plan.order.items) (sym same.body) ok.atoms);
    places = subst (λ (atoms : List Atom). AreFirstPlaces atoms vars new.places.items) (sym same.body)
        (subst (AreFirstPlaces plan.body vars) (sym same.places) ok.places);
    size = omega (arith, ok.size, ap length same.body, same.levels.size);
    told = λ before atom level some e f.
        let a = at_within plan.levels.items (before - 1)
        (let l = within_from_at new.levels.items (before - 1) level f in omega (arith, l, same.levels.size)) in
        let told = ok.told before atom a.0 some (ap (λ atoms. slice_get atoms before) (sym same.body) ∙ e) a.1 in
        subst (λ columns. AreBound new.places.items before atom columns) (sym (same.levels.columns (before - 1) a.0 level a.1 f))
        (subst (λ places. AreBound places before atom a.0.columns.items) (sym same.places) told);
  }

-- what was listed for a plan is listed for one that looks up the same and has listed more
pub listed_still : (a b : Plan) → IsSamePlan a b → KeepsListed a.levels.items b.levels.items → (rows : List (Option SeenRow)) (number : ℕ)
    → IsListedUnder a.body a.levels.items rows number → IsListedUnder b.body b.levels.items rows number
listed_still a b same kept rows number listed before atom level some e f row form =
    let old = at_within a.levels.items (before - 1)
    (let l = within_from_at b.levels.items (before - 1) level f in omega (arith, l, same.levels.size)) in
    let h = listed before atom old.0 some (ap (λ atoms. slice_get atoms before) (sym same.body) ∙ e) old.1 row form in
    let columns = same.levels.columns (before - 1) old.0 level old.1 f in (
      h.0,
      kept (before - 1) old.0 level old.1 f h.0 h.1,
      subst (λ columns. IsEntryOf rows columns number row h.0) (sym columns) h.2,
    )

-- a plan more
pub one_plan_more : (body : List Atom) (vars : ℕ) (rows : List (Option SeenRow)) (old new : List Plan) (first : ℕ) (plan : Plan)
    → new ≡ old ++ plan ∷ [] → IsPlan body vars first plan → ((number : ℕ) → IsListedUnder plan.body plan.levels.items rows number)
    → ArePlans body vars rows old first → ArePlans body vars rows new (first + 1)
one_plan_more body vars rows old new first plan pushed ok listed h = record {
  size = ap length pushed ∙ length_push old plan ∙ ap (λ n. n + 1) h.size;
  each = λ k other e. ⊎_elim
      (λ (before : slice_get old k ≡ Some other). h.each k other before)
      (λ (last : (k ≡ length old) × (plan ≡ other)).
      subst (λ n. IsPlan body vars n other × ((number : ℕ) → IsListedUnder other.body other.levels.items rows number)) (sym (last.0 ∙ h.size))
      (subst (λ (p : Plan). IsPlan body vars first p × ((number : ℕ) → IsListedUnder p.body p.levels.items rows number)) last.1 (ok, listed)))
      (at_push old plan k other (ap (λ (l : List Plan). slice_get l k) (sym pushed) ∙ e));
}

-- an index of plans

pub index_of : (body : List Atom) (vars : ℕ) (rows : List (Option SeenRow)) (plans : List Plan)
    → ((v : ℕ) → Contains (occurrences body) v ↔ (v < vars)) → ArePlans body vars rows plans (length body)
    → IsIndex (record { body = body; vars = vars; plans = plans })
index_of body vars rows plans occurring are = record {
  vars = occurring;
  size = are.size;
  each = λ first plan e. (are.each first plan e).0;
}

pub lists_of : (body : List Atom) (vars : ℕ) (rows : List (Option SeenRow)) (plans : List Plan) (first : ℕ)
    → ArePlans body vars rows plans first → Lists (record { body = body; vars = vars; plans = plans }) rows
lists_of body vars rows plans first are number k d l =
    (are.each k (get_or plans k d) (slice_get-get_or plans k d l)).1 number

module _ (body : List Atom) (vars : ℕ) (old new : List Plan) (same : AreSamePlans old new) where
  abbrev before : Index
  before = record { body = body; vars = vars; plans = old }

  abbrev after : Index
  after = record { body = body; vars = vars; plans = new }

  pub still_index : IsIndex before → IsIndex after
  still_index ok = record {
    vars = ok.vars;
    size = same.size ∙ ok.size;
    each = λ first plan e.
        let a = at_within old first (let l = within_from_at new first plan e in omega (arith, l, same.size)) in
        still_plan body vars first a.0 (ok.each first a.0 a.1) plan (same.each first a.0 plan a.1 e);
  }

  pub grows : KeepListed old new → Grows before after
  grows kept = record {
    body = refl;
    vars = refl;
    kept = λ rows number listed k d l.
        let b = slice_get-get_or new k d l in
        let a = at_within old k (omega (arith, l, same.size)) in
        listed_still a.0 (get_or new k d) (same.each k a.0 (get_or new k d) a.1 b) (kept k a.0 (get_or new k d) a.1 b) rows number
        (All-contains (λ (plan : Plan). IsListedUnder plan.body plan.levels.items rows number) old a.0 listed (contains_from_at old k a.0 a.1));
  }

pub lists_row : (body : List Atom) (vars : ℕ) (rows : List (Option SeenRow)) (row : ℕ) (plans : List Plan)
    → IsListedFor plans rows row (length plans) → ListsRow (record { body = body; vars = vars; plans = plans }) rows row
lists_row body vars rows row plans listed k d l = listed k (get_or plans k d) l (slice_get-get_or plans k d l)

pub can_search_each : (index : Index) → IsIndex index → (rows : List (Option SeenRow)) (k : ℕ) (plan : Plan)
    → slice_get index.plans k ≡ Some plan → CanSearch plan rows
can_search_each index ok rows k plan e =
    can_search index.body index.vars k plan (ok.each k plan e) rows
    (let l = within_from_at index.plans k plan e in omega (arith, l, ok.size)) ok.vars

pub lists_each : (index : Index) (rows : List (Option SeenRow)) → Lists index rows → (k : ℕ) (plan : Plan)
    → slice_get index.plans k ≡ Some plan → ListsAll (task_in plan rows)
lists_each index rows lists k plan e number =
    All-contains (λ (p : Plan). IsListedUnder p.body p.levels.items rows number) index.plans plan (lists number)
    (contains_from_at index.plans k plan e)
