-- Rows that are dropped from levels and listed in them, one place after the other.
use Rattle.std.proofs.Common.{◌≡◌, inl, inr, ℕ, zero, suc, ◌+◌, ◌-◌, ◌/◌, ◌<◌, ◌≤◌, Option, Some, List, [], ◌∷◌, ◌++◌, length, refl, sym, ap, ◌∙◌, subst, ⊎_elim, arith, Contains}
use Rattle.std.specs.Prelude.{slice_get, slice_set}
use Rattle.std.specs.Bool.{⊤}
use Rattle.std.proofs.lemmas.Bool.{cases_eq}
use Rattle.std.proofs.lemmas.List.{length_push}
use Rattle.std.proofs.lemmas.List.Elements.{Contains-append_left, Contains-append_right, Contains-append_cases}
use Rattle.rule_core.specs.declared.rules.Atom.{Atom}
use Rattle.fact_table.specs.Rows.{SeenRow}
use Rattle.body_match.specs.declared.levels.Level.{Level}
use Rattle.body_match.specs.declared.lookup.Entry.{Entry}
use Rattle.body_match.specs.declared.lookup.Reach.{Reach}
use Rattle.body_match.specs.declared.plan.Plan.{Plan}
use Rattle.body_match.specs.Directory.{stretch_place}
use Rattle.body_match.specs.Lookup.{Tree, IsTree, Encloses, all_in, entries_in, tree_of}
use Rattle.body_match.specs.Plans.{IsPlan, IsSamePlan, AreSamePlans, AreSameLevels}
use Rattle.body_match.specs.Renewals.{KeepsOthers, KeepsBut, ListsEach, LevelsKeepBut, AreListedUnder, AreBarePlans}
use Rattle.body_match.proofs.ListLemmas.{at_within, within_from_at, contains_from_at, at_from_contains, at_set_here, at_set_other, at_push, size_set}
use Rattle.body_match.proofs.SearchLemmas.{same_some}
use Rattle.body_match.proofs.IndexLemmas.{set_each, set_first, set_later}

-- a list of which the first places were set, one after the other: what holds between all of the old and the new, and for those that were set
pub record AreSet (X : Type 0) (Same Kept : X → X → Type 0) (Done : ℕ → X → Type 0) (first now : List X) (done : ℕ) : Type 0 where
  pub size : length now ≡ length first
  pub same : (k : ℕ) (a b : X) → slice_get first k ≡ Some a → slice_get now k ≡ Some b → Same a b
  pub kept : (k : ℕ) (a b : X) → slice_get first k ≡ Some a → slice_get now k ≡ Some b → Kept a b
  pub each : (k : ℕ) (x : X) → k < done → slice_get now k ≡ Some x → Done k x
  pub later : (k : ℕ) → done ≤ k → slice_get now k ≡ slice_get first k

module _ {X : Type 0} (Same Kept : X → X → Type 0) (Done : ℕ → X → Type 0) where
  pub none_set : ((x : X) → Same x x) → ((x : X) → Kept x x) → (first : List X) → AreSet X Same Kept Done first first 0
  none_set same kept first = record {
    size = refl;
    same = λ k a b e f. subst (Same a) (same_some (slice_get first k) a b e f) (same a);
    kept = λ k a b e f. subst (Kept a) (same_some (slice_get first k) a b e f) (kept a);
    each = λ k x l. absurd (omega (arith, l));
    later = λ k l. refl;
  }

  pub one_set : (first old : List X) (at : ℕ) (a b : X) → slice_get old at ≡ Some a → Same a b → Kept a b → Done at b
      → AreSet X Same Kept Done first old at → AreSet X Same Kept Done first (slice_set old at b) (at + 1)
  one_set first old at a b here same kept done h =
      let there : slice_get first at ≡ Some a = sym (h.later at (omega arith)) ∙ here in
      let within : at < length old = within_from_at old at a here in
      record {
        size = size_set old at b ∙ h.size;
        same = set_each first old at a b there within (λ k x y. Same x y) same h.same;
        kept = set_each first old at a b there within (λ k x y. Kept x y) kept h.kept;
        each = set_first first old at a b there within Done done h.each;
        later = set_later first old at a b there within h.later;
      }

  pub last_same : (first old : List X) (at : ℕ) (a b : X) → slice_get old at ≡ Some a → Same a b
      → AreSet X Same Kept Done first old at
      → (length (slice_set old at b) ≡ length first)
      × ((k : ℕ) (x y : X) → slice_get first k ≡ Some x → slice_get (slice_set old at b) k ≡ Some y → Same x y)
  last_same first old at a b here same h =
      let there : slice_get first at ≡ Some a = sym (h.later at (omega arith)) ∙ here in
      let within : at < length old = within_from_at old at a here in
      (size_set old at b ∙ h.size, set_each first old at a b there within (λ k x y. Same x y) same h.same)

-- look-ups of which the first had a row dropped

abbrev pub AreDropped : ℕ → List Tree → List Tree → ℕ → Type 0
AreDropped row first now done =
    AreSet Tree (λ a b. ⊤) (λ a b. KeepsOthers row a.entries b.entries) (λ k x. ⊤) first now done

pub none_dropped : (row : ℕ) (first : List Tree) → AreDropped row first first 0
none_dropped row first =
    none_set (λ (a : Tree) (b : Tree). ⊤) (λ (a : Tree) (b : Tree). KeepsOthers row a.entries b.entries) (λ (k : ℕ) (x : Tree). ⊤) (λ x. tt)
    (λ x entry c other live. c) first

pub one_dropped : (row : ℕ) (first old : List Tree) (at : ℕ) (a b : Tree) → slice_get old at ≡ Some a
    → KeepsOthers row a.entries b.entries → AreDropped row first old at → AreDropped row first (slice_set old at b) (at + 1)
one_dropped row first old at a b here kept h =
    one_set (λ (a : Tree) (b : Tree). ⊤) (λ (a : Tree) (b : Tree). KeepsOthers row a.entries b.entries) (λ (k : ℕ) (x : Tree). ⊤)
    first old at a b here tt kept tt h

-- an entry of look-ups is one of a look-up
pub in_some : (lookups : List Tree) (entry : Entry) → Contains (all_in lookups) entry
    → (k : ℕ) × (tree : Tree) × (slice_get lookups k ≡ Some tree) × Contains tree.entries entry
in_some [] entry c = absurd (omega (arith, c.1))
in_some (tree ∷ lookups) entry c = elim (Contains-append_cases tree.entries (all_in lookups) entry c) [
  | inl h ↦ (0, tree, refl, h)
  | inr h ↦ let s = in_some lookups entry h in (suc s.0, s.1, s.2, s.3)
]

pub in_all : (lookups : List Tree) (k : ℕ) (tree : Tree) (entry : Entry) → slice_get lookups k ≡ Some tree → Contains tree.entries entry
    → Contains (all_in lookups) entry
in_all [] k tree entry e c = absurd cc
in_all (t ∷ lookups) zero tree entry e c =
    let same : t ≡ tree = cc in
    Contains-append_left t.entries (all_in lookups) entry (subst (λ (x : Tree). Contains x.entries entry) (sym same) c)
in_all (t ∷ lookups) (suc k) tree entry e c =
    Contains-append_right t.entries (all_in lookups) entry (in_all lookups k tree entry e c)

pub all_dropped : (row : ℕ) (first now : List Tree) (done : ℕ) → AreDropped row first now done → KeepsOthers row (all_in first) (all_in now)
all_dropped row first now done h entry c other live =
    let s = in_some first entry c in
    let n = at_within now s.0 (let l = within_from_at first s.0 s.1 s.2 in omega (arith, l, h.size)) in
    in_all now s.0 n.0 entry n.1 (h.kept s.0 s.1 n.0 s.2 n.1 entry s.3 other live)

-- and beside look-ups
pub others_beside : (row : ℕ) (old new last rest : List Entry) → KeepsOthers row old new → KeepsOthers row last rest
    → KeepsOthers row (old ++ last) (new ++ rest)
others_beside row old new last rest first second entry c other live = ⊎_elim
    (λ (front : Contains old entry). Contains-append_left new rest entry (first entry front other live))
    (λ (back : Contains last entry). Contains-append_right new rest entry (second entry back other live))
    (Contains-append_cases old last entry c)

-- an entry that was marked at its place
module _ (tree : Tree) (ok : IsTree tree) (at : ℕ) (marked : Entry) (old : Entry) (there : slice_get tree.entries at ≡ Some old) where
  pub still_tree : marked.key ≡ old.key → ((reach : Reach) → Encloses reach old → Encloses reach marked)
      → IsTree (tree_of (slice_set tree.entries at marked) tree.reaches tree.leaves tree.stretches)
  still_tree key less = record {
    some = ok.some;
    fits = ok.fits;
    size = ok.size;
    leaf = λ k entry l e. ⊎_elim
        (λ (same : k ≡ at).
        let is : marked ≡ entry = same_some (slice_get (slice_set tree.entries at marked) at) marked entry
        (at_set_here tree.entries at marked (within_from_at tree.entries at old there))
        (ap (slice_get (slice_set tree.entries at marked)) (sym same) ∙ e) in
        let h = ok.leaf at old (within_from_at tree.entries at old there) there in
        (h.0, ap (λ n. slice_get tree.reaches (tree.leaves + n / 8)) same ∙ h.1, subst (Encloses h.0) is (less h.0 h.2)))
        (λ (other : k ≡ at → ⊥).
        let f = sym (at_set_other tree.entries at k marked other) ∙ e in
        ok.leaf k entry (within_from_at tree.entries k entry f) f)
        (cases_eq k at);
    joined = ok.joined;
    directed = λ k entry stretch l e f.
        let within : k < length tree.entries = omega (arith, l, size_set tree.entries at marked) in
        ⊎_elim
        (λ (same : k ≡ at).
        let is : marked ≡ entry = same_some (slice_get (slice_set tree.entries at marked) at) marked entry
        (at_set_here tree.entries at marked (within_from_at tree.entries at old there))
        (ap (slice_get (slice_set tree.entries at marked)) (sym same) ∙ e) in
        ok.directed k old stretch within (ap (slice_get tree.entries) same ∙ there)
        (ap (λ n. slice_get tree.stretches (stretch_place (length tree.stretches) n)) (sym key ∙ ap (λ (x : Entry). x.key) is) ∙ f))
        (λ (other : k ≡ at → ⊥).
        ok.directed k entry stretch within (sym (at_set_other tree.entries at k marked other) ∙ e) f)
        (cases_eq k at);
  }

pub others_stay : (row at : ℕ) (entries : List Entry) (old marked : Entry) → slice_get entries at ≡ Some old → old.row ≡ row
    → KeepsOthers row entries (slice_set entries at marked)
others_stay row at entries old marked there is entry c other live =
    let k = at_from_contains entries entry c in
    ⊎_elim
    (λ (same : k.0 ≡ at).
    let here : old ≡ entry = same_some (slice_get entries at) old entry there (ap (slice_get entries) (sym same) ∙ k.1) in
    absurd (other (ap (λ (e : Entry). e.row) (sym here) ∙ is)))
    (λ (apart : k.0 ≡ at → ⊥). contains_from_at (slice_set entries at marked) k.0 entry (at_set_other entries at k.0 marked apart ∙ k.1))
    (cases_eq k.0 at)

-- levels of which the first had rows dropped and others listed

module _ (body : List Atom) (source : List (Option SeenRow)) (gone fresh : List ℕ) where
  abbrev LevelSame : Level → Level → Type 0
  LevelSame a b = b.columns.items ≡ a.columns.items

  abbrev LevelKept : Level → Level → Type 0
  LevelKept a b = KeepsBut gone a.listed b.listed

  abbrev LevelDone : ℕ → Level → Type 0
  LevelDone k level = (atom : Atom) → slice_get body (k + 1) ≡ Some atom → ListsEach source atom level.columns.items fresh level.listed

  abbrev pub AreRenewedIn : List Level → List Level → ℕ → Type 0
  AreRenewedIn first now done = AreSet Level LevelSame LevelKept LevelDone first now done

  pub none_renewed : (first : List Level) → AreRenewedIn first first 0
  none_renewed first = none_set LevelSame LevelKept LevelDone (λ x. refl) (λ x entry c other live. c) first

  pub one_renewed : (first old : List Level) (at : ℕ) (a b : Level) (atom : Atom) → slice_get old at ≡ Some a
      → slice_get body (at + 1) ≡ Some atom → b.columns.items ≡ a.columns.items → KeepsBut gone a.listed b.listed
      → ListsEach source atom b.columns.items fresh b.listed
      → AreRenewedIn first old at → AreRenewedIn first (slice_set old at b) (at + 1)
  one_renewed first old at a b atom here next columns kept listed h =
      one_set LevelSame LevelKept LevelDone first old at a b here columns kept
      (λ other e. subst (λ x. ListsEach source x b.columns.items fresh b.listed)
      (same_some (slice_get body (at + 1)) atom other next e) listed) h

  pub renewed_same : (first old : List Level) (at : ℕ) (a b : Level) → slice_get old at ≡ Some a
      → b.columns.items ≡ a.columns.items → AreRenewedIn first old at → AreSameLevels first (slice_set old at b)
  renewed_same first old at a b here columns h =
      let s = last_same LevelSame LevelKept LevelDone first old at a b here columns h in record { size = s.0; columns = s.1 }

  pub all_renewed : (first now : List Level) (done : ℕ) → length body ≤ done + 1 → AreRenewedIn first now done
      → AreListedUnder body now source fresh
  all_renewed first now done whole h number c before atom level some e f =
      let within = within_from_at body before atom e in
      h.each (before - 1) level (omega (arith, within, whole, some)) f atom
      (ap (slice_get body) (let same : before - 1 + 1 ≡ before = omega (arith, some) in same) ∙ e) number c

-- and plans

module _ (source : List (Option SeenRow)) (gone fresh : List ℕ) where
  abbrev PlanKept : Plan → Plan → Type 0
  PlanKept a b = LevelsKeepBut gone a.levels.items b.levels.items

  abbrev PlanDone : ℕ → Plan → Type 0
  PlanDone k plan = AreListedUnder plan.body plan.levels.items source fresh

  abbrev pub AreRenewedFor : List Plan → List Plan → ℕ → Type 0
  AreRenewedFor first now done = AreSet Plan IsSamePlan PlanKept PlanDone first now done

  same_plan : (a : Plan) → IsSamePlan a a
  same_plan a = record {
    order = refl;
    body = refl;
    places = refl;
    levels = record {
      size = refl;
      columns = λ k x y e f. ap (λ (l : Level). l.columns.items) (same_some (slice_get a.levels.items k) y x f e);
    };
  }

  pub no_plan_renewed : (first : List Plan) → AreRenewedFor first first 0
  no_plan_renewed first = none_set IsSamePlan PlanKept PlanDone same_plan
      (λ a j x y p q entry c other live.
      subst (λ (l : Level). Contains l.listed entry) (same_some (slice_get a.levels.items j) x y p q) c) first

  pub one_plan_renewed : (first old : List Plan) (at : ℕ) (a b : Plan) → slice_get old at ≡ Some a → IsSamePlan a b
      → LevelsKeepBut gone a.levels.items b.levels.items → AreListedUnder b.body b.levels.items source fresh
      → AreRenewedFor first old at → AreRenewedFor first (slice_set old at b) (at + 1)
  one_plan_renewed first old at a b here same kept listed h =
      one_set IsSamePlan PlanKept PlanDone first old at a b here same kept listed h

  pub renewed_plan_same : (first old : List Plan) (at : ℕ) (a b : Plan) → slice_get old at ≡ Some a → IsSamePlan a b
      → AreRenewedFor first old at → AreSamePlans first (slice_set old at b)
  renewed_plan_same first old at a b here same h =
      let s = last_same IsSamePlan PlanKept PlanDone first old at a b here same h in record { size = s.0; each = s.1 }

-- a plan more
pub one_bare_more : (body : List Atom) (vars : ℕ) (old new : List Plan) (first : ℕ) (plan : Plan) → new ≡ old ++ plan ∷ []
    → IsPlan body vars first plan → AreBarePlans body vars old first → AreBarePlans body vars new (first + 1)
one_bare_more body vars old new first plan pushed ok h = record {
  size = ap length pushed ∙ length_push old plan ∙ ap (λ n. n + 1) h.size;
  each = λ k other e. ⊎_elim
      (λ (before : slice_get old k ≡ Some other). h.each k other before)
      (λ (last : (k ≡ length old) × (plan ≡ other)).
      subst (λ n. IsPlan body vars n other) (sym (last.0 ∙ h.size)) (subst (IsPlan body vars first) last.1 ok))
      (at_push old plan k other (ap (λ (l : List Plan). slice_get l k) (sym pushed) ∙ e));
}

-- entries more beside the look-ups
pub kept_beside_all : (lookups : List Tree) (last longer more : List Entry) → longer ≡ last ++ more → (other : Entry)
    → Contains (entries_in lookups last) other → Contains (entries_in lookups longer) other
kept_beside_all lookups last longer more is other c = subst (λ (l : List Entry). Contains (entries_in lookups l) other) (sym is) (⊎_elim
    (λ (front : Contains (all_in lookups) other). Contains-append_left (all_in lookups) (last ++ more) other front)
    (λ (back : Contains last other).
    Contains-append_right (all_in lookups) (last ++ more) other (Contains-append_left last more other back))
    (Contains-append_cases (all_in lookups) last other c))

pub added_beside_all : (lookups : List Tree) (last longer more : List Entry) → longer ≡ last ++ more → (entry : Entry)
    → Contains more entry → Contains (entries_in lookups longer) entry
added_beside_all lookups last longer more is entry c = subst (λ (l : List Entry). Contains (entries_in lookups l) entry) (sym is)
    (Contains-append_right (all_in lookups) (last ++ more) entry (Contains-append_right last more entry c))
