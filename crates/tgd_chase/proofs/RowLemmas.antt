-- The rows that firings make: which they are, when those of a further firing hold new unknowns, and that they hold the firing facts.
use Rattle.std.proofs.Common.{◌≡◌, ℕ, ℤ, ◌+◌, ◌<◌, Option, Some, None, List, [], ◌∷◌, ◌++◌, length, map, flat_map, get_or, take}
use Rattle.std.proofs.Common.{refl, sym, ap, ◌∙◌, subst, inl, inr, arith, AllPairs, Contains}
use Rattle.std.specs.Prelude.{IsSomeAnd, slice_get, IsPermutation}
use Rattle.std.specs.Option.{option_map_or}
use Rattle.std.proofs.lemmas.List.{take_more, get_or_default, get_or-take, length-take-le, map-append, append-nil}
use Rattle.std.proofs.lemmas.List.Concat.{flat_map-append}
use Rattle.std.proofs.lemmas.List.Elements.{Contains-get_or, Contains-append_left, Contains-append_right, Contains-append_cases}
use Rattle.std.proofs.lemmas.List.Sorted.{All-permutation, Contains-permutation, IsPermutation-sym, IsPermutation-trans, IsPermutation-append_left}
use Rattle.time_line.specs.Span.{Ends, Has, Meet}
use Rattle.term_core.specs.declared.const_id.ConstId.{ConstId}
use Rattle.rule_core.specs.declared.rules.Arg.{Arg}
use Rattle.rule_core.specs.declared.rules.Arg.TheVariants.{Var, Const}
use Rattle.rule_core.specs.declared.rules.Tgd.{Tgd}
use Rattle.rule_core.specs.Terms.{named, constant, unknown, FactOf}
use Rattle.rule_core.specs.Mapping.{RuleSet}
use Rattle.rule_core.specs.Match.{value, image}
use Rattle.rule_core.specs.Snapshot.{snapshot_at}
use Rattle.rule_core.specs.Firing.{FiringOf, frontier_of, frontier_value, fired_term, Fires, fired_facts, IsFiringFact, entry_rows, firing_rows}
use Rattle.rule_core.proofs.ListLemmas.{Contains-head, Contains-cons, Contains-nil, Contains-cons_cases, Contains-map, Contains-from_map}
use Rattle.rule_core.proofs.SnapshotLemmas.{snapshot_covers, covered_in_snapshot}
use Rattle.body_match.proofs.SearchLemmas.{and_some}
use Rattle.fact_table.specs.declared.fact.Fact.{Fact}
use Rattle.fact_table.specs.Snapshots.{stamped_facts, snapshot_of}
use Rattle.null_store.specs.Store.{Store, facts_in}
use Rattle.null_store.specs.Changes.{IsFresh}
use Rattle.failure_trace.specs.declared.firing.Firing.{Firing}
use Rattle.failure_trace.specs.Entries.{entry_of, entries_of}
use Rattle.failure_trace.specs.Firings.{AreSeparate, AreFirings}
use Rattle.tgd_chase.specs.Fired.{HoldFiringFacts}
use Rattle.tgd_chase.specs.Adding.{name_of}
use Rattle.tgd_chase.proofs.AddingLemmas.{Row, IsNew}

-- members of joined lists

in_flat_map : {X Y : Type 0} (f : X → List Y) (xs : List X) (x : X) (y : Y) → Contains xs x → Contains (f x) y → Contains (flat_map f xs) y
in_flat_map f [] x y c d = absurd (Contains-nil x c)
in_flat_map {X} {Y} f (z ∷ zs) x y c d = elim (Contains-cons_cases z x zs c) [
  | inl e ↦ Contains-append_left (f z) (flat_map f zs) y (subst (λ (w : X). Contains (f w) y) (sym e) d)
  | inr k ↦ Contains-append_right (f z) (flat_map f zs) y (in_flat_map f zs x y k d)
]

from_flat_map : {X Y : Type 0} (f : X → List Y) (xs : List X) (y : Y) → Contains (flat_map f xs) y
    → (x : X) × Contains xs x × Contains (f x) y
from_flat_map f [] y c = absurd (Contains-nil y c)
from_flat_map f (z ∷ zs) y c = elim (Contains-append_cases (f z) (flat_map f zs) y c) [
  | inl d ↦ (z, Contains-head z zs, d)
  | inr d ↦ let h = from_flat_map f zs y d in (h.0, Contains-cons z h.0 zs h.1, h.2)
]

-- the rows of one entry

module _ (rules : RuleSet) (entry : FiringOf ConstId) where
  -- the fact is one that the tgd at the entry's place makes of its values
  abbrev pub IsFired : FactOf ConstId → Tgd → Type 0
  IsFired fact tgd = Contains (fired_facts (λ c. c) entry.rule tgd entry.frontier) fact

  abbrev over : FactOf ConstId → Row
  over fact = record { row = fact; span = entry.span }

  abbrev rows_by : Option Tgd → List Row
  rows_by o = option_map_or (λ tgd. map over (fired_facts (λ c. c) entry.rule tgd entry.frontier)) o []

  -- a row is a fired fact over the entry's span
  from_entry : (row : Row) → Contains (entry_rows (λ c. c) rules entry) row
      → IsSomeAnd (slice_get rules.tgds entry.rule) (IsFired row.row) × (row.span ≡ entry.span)
  from_entry row c = by (slice_get rules.tgds entry.rule) c
    where
      by : (o : Option Tgd) → Contains (rows_by o) row → IsSomeAnd o (IsFired row.row) × (row.span ≡ entry.span)
      by None c = absurd (Contains-nil row c)
      by (Some tgd) c =
          let h = Contains-from_map over (fired_facts (λ c. c) entry.rule tgd entry.frontier) row c in (
            subst (λ fact. IsFired fact tgd) (ap (λ (r : Row). r.row) h.2) h.1,
            sym (ap (λ (r : Row). r.span) h.2),
          )

  to_entry : (fact : FactOf ConstId) → IsSomeAnd (slice_get rules.tgds entry.rule) (IsFired fact)
      → Contains (entry_rows (λ c. c) rules entry) (over fact)
  to_entry fact h = by (slice_get rules.tgds entry.rule) h
    where
      by : (o : Option Tgd) → IsSomeAnd o (IsFired fact) → Contains (rows_by o) (over fact)
      by None h = absurd h
      by (Some tgd) h = Contains-map over (fired_facts (λ c. c) entry.rule tgd entry.frontier) fact h

-- an unknown in a fact that a tgd makes is named by its place and the values
fired_unknown : (place : ℕ) (tgd : Tgd) (values : List ConstId) (fact : FactOf ConstId)
    → Contains (fired_facts (λ c. c) place tgd values) fact → (rule : ℕ) (frontier : List ConstId) (var : ℕ)
    → Contains fact.terms (unknown (named rule frontier var)) → (place ≡ rule) × (values ≡ frontier)
fired_unknown place tgd values fact made rule frontier var c =
    let from = Contains-from_map (image (λ c. c) (fired_term place tgd values)) tgd.head fact made in
    let there = subst (λ (f : FactOf ConstId). Contains f.terms (unknown (named rule frontier var))) (sym from.2) c in
    let arg = Contains-from_map (value (λ c. c) (fired_term place tgd values)) from.0.args (unknown (named rule frontier var)) there in
    by_arg arg.0 arg.2
  where
    by_value : (o : Option ConstId) (k : ℕ) → option_map_or constant o (unknown (named place values k)) ≡ unknown (named rule frontier var)
        → (place ≡ rule) × (values ≡ frontier)
    by_value None k e = ((cc), (cc))
    by_value (Some d) k e = absurd cc

    by_arg : (arg : Arg) → value (λ c. c) (fired_term place tgd values) arg ≡ unknown (named rule frontier var)
        → (place ≡ rule) × (values ≡ frontier)
    by_arg (Const d) e = absurd cc
    by_arg (Var v) e = by_value (frontier_value (frontier_of tgd) values v) _ e

-- the rows of all firings

module _ (rules : RuleSet) where
  abbrev rows_for : List Firing → List Row
  rows_for firings = firing_rows (λ c. c) rules (entries_of firings)

  -- a row is one of a firing, over its span
  pub from_rows : (firings : List Firing) (row : Row) → Contains (rows_for firings) row
      → (f : Firing) × Contains firings f
      × IsSomeAnd (slice_get rules.tgds f.rule) (IsFired rules (entry_of f) row.row) × (row.span ≡ f.span)
  from_rows firings row c =
      let e = from_flat_map (entry_rows (λ c. c) rules) (entries_of firings) row c in
      let f = Contains-from_map entry_of firings e.0 e.1 in
      let h = from_entry rules (entry_of f.0) row (subst (λ entry. Contains (entry_rows (λ c. c) rules entry) row) (sym f.2) e.2) in
      (f.0, f.1, h.0, h.1)

  to_rows : (firings : List Firing) (f : Firing) (fact : FactOf ConstId) → Contains firings f
      → IsSomeAnd (slice_get rules.tgds f.rule) (IsFired rules (entry_of f) fact)
      → Contains (rows_for firings) (record { row = fact; span = f.span })
  to_rows firings f fact c h =
      in_flat_map (entry_rows (λ c. c) rules) (entries_of firings) (entry_of f) (record { row = fact; span = f.span })
      (Contains-map entry_of firings f c) (to_entry rules (entry_of f) fact h)

  -- one firing more
  pub rows_more : (firings : List Firing) (index : ℕ) (f : Firing) (old new : List Row) → index < length firings
      → f ≡ get_or firings index f → IsPermutation (rows_for (take index firings)) old
      → IsPermutation (old ++ entry_rows (λ c. c) rules (entry_of f)) new → IsPermutation (rows_for (take (index + 1) firings)) new
  rows_more firings index f old new below here so_far adds =
      let more : take (index + 1) firings ≡ take index firings ++ f ∷ [] =
      take_more firings index f below ∙ ap (λ (g : Firing). take index firings ++ g ∷ []) (sym here) in
      let last = entry_rows (λ c. c) rules (entry_of f) in
      let front = take index firings in
      let joined : rows_for (front ++ f ∷ []) ≡ rows_for front ++ last =
      ap (flat_map (entry_rows (λ c. c) rules)) (map-append entry_of front (f ∷ []))
      ∙ flat_map-append (entry_rows (λ c. c) rules) (entries_of front) (entry_of f ∷ [])
      ∙ ap (λ (l : List Row). rows_for front ++ l) (append-nil last) in
      subst (λ (l : List Firing). IsPermutation (rows_for l) new) (sym more)
      (subst (λ (l : List Row). IsPermutation l new) (sym joined)
      (IsPermutation-trans (rows_for (take index firings) ++ last) (old ++ last) new
      (IsPermutation-append_left last (rows_for (take index firings)) old so_far) adds))

  -- the unknowns of the next firing are in no row so far over a span that meets its own
  pub fresh : (firings : List Firing) (index : ℕ) (f : Firing) (store : Store) → AllPairs AreSeparate firings → index < length firings
      → f ≡ get_or firings index f → IsPermutation (rows_for (take index firings)) (facts_in store) → IsFresh store (name_of f) f.span
  fresh firings index f store separate below here so_far =
      All-permutation (IsNew f) (rows_for (take index firings)) (facts_in store) so_far
      (λ k d l. let row = get_or (rows_for (take index firings)) k d in
      is_new row (from_rows (take index firings) row (Contains-get_or (rows_for (take index firings)) k d l)))
    where
      earlier : (g : Firing) → Contains (take index firings) g → AreSeparate g f
      earlier g c =
          let before : c.0 < index = omega (arith, c.1, length-take-le index firings (omega arith)) in
          let at : get_or firings c.0 g ≡ g = sym (get_or-take index firings c.0 g before) ∙ c.2 in
          let there : get_or firings index g ≡ f = get_or_default firings index g f below ∙ sym here in
          subst (λ (x : Firing). AreSeparate x f) at
          (subst (λ (x : Firing). AreSeparate (get_or firings c.0 g) x) there (separate c.0 index g before below))

      is_new : (row : Row) → (g : Firing) × Contains (take index firings) g
          × IsSomeAnd (slice_get rules.tgds g.rule) (IsFired rules (entry_of g) row.row) × (row.span ≡ g.span) → IsNew f row
      is_new row h meet var c = by (slice_get rules.tgds h.0.rule) h.2
        where
          by : (o : Option Tgd) → IsSomeAnd o (IsFired rules (entry_of h.0) row.row) → ⊥
          by None k = k
          by (Some tgd) k =
              let same = fired_unknown h.0.rule tgd h.0.frontier row.row k f.rule f.frontier var c in
              (earlier h.0 h.1 same.0 same.1).0 (subst (λ (s : Ends). Meet s f.span) h.3 meet)

-- the firings of a table

module _ (rules : RuleSet) (table : List Fact) (firings : List Firing) (are : AreFirings rules (stamped_facts table) firings) where
  module _ (rows : List Row) (made : IsPermutation (rows_for rules firings) rows) (t : ℤ) (fact : FactOf ConstId) where
    abbrev source : List (FactOf ConstId)
    source = snapshot_of table t

    -- the tgd at the place makes the fact of these values
    abbrev MakesBy : ℕ → List ConstId → Type 0
    MakesBy place values = IsSomeAnd (slice_get rules.tgds place) (λ tgd. Contains (fired_facts (λ c. c) place tgd values) fact)

    -- what is in a row at the instant is a firing fact
    is_firing_fact : Contains (snapshot_at rows t) fact → IsFiringFact (λ c. c) rules source fact
    is_firing_fact c =
        let at = snapshot_covers rows fact t c in
        let there = Contains-permutation rows (rows_for rules firings) at.1 (IsPermutation-sym (rows_for rules firings) rows made)
        (at.0, at.2, at.3) in
        let f = from_rows rules firings at.1 there in
        let has = subst (λ (s : Ends). Has s t) f.3 at.4.1 in
        let fires = (are.exact f.0.rule f.0.frontier t).0 (f.1.0, f.0, f.1.1, f.1.2, (refl, refl, has)) in
        let tgd = slice_get rules.tgds f.0.rule in
        (f.0.rule, by f.0 tgd fires (subst (λ x. IsSomeAnd tgd (IsFired rules (entry_of f.0) x)) at.4.0 f.2))
      where
        by : (f : Firing) (o : Option Tgd) → IsSomeAnd o (λ tgd. Fires (λ c. c) tgd source f.frontier)
            → IsSomeAnd o (IsFired rules (entry_of f) fact)
            → IsSomeAnd o (λ tgd. (values : List ConstId) × Fires (λ c. c) tgd source values
            × Contains (fired_facts (λ c. c) f.rule tgd values) fact)
        by f None fires k = k
        by f (Some tgd) fires k = (f.frontier, fires, k)

    is_in_a_row : IsFiringFact (λ c. c) rules source fact → Contains (snapshot_at rows t) fact
    is_in_a_row k = by (slice_get rules.tgds k.0) refl k.1
      where
        by : (o : Option Tgd) → slice_get rules.tgds k.0 ≡ o
            → IsSomeAnd o (λ tgd. (values : List ConstId) × Fires (λ c. c) tgd source values
            × Contains (fired_facts (λ c. c) k.0 tgd values) fact) → Contains (snapshot_at rows t) fact
        by None e h = absurd h
        by (Some tgd) e h =
            let fires = and_some (λ (x : Tgd). Fires (λ c. c) x source h.0) (slice_get rules.tgds k.0) tgd e h.1 in
            let f = (are.exact k.0 h.0 t).1 fires in
            let made_there = and_some (λ (x : Tgd). Contains (fired_facts (λ c. c) k.0 x h.0) fact) (slice_get rules.tgds k.0) tgd e h.2 in
            let at = subst (λ values. MakesBy f.1.rule values) (sym f.4.1) (subst (λ place. MakesBy place h.0) (sym f.4.0) made_there) in
            let row : Row = record { row = fact; span = f.1.span } in
            let there = Contains-permutation (rows_for rules firings) rows row made (to_rows rules firings f.1 fact (f.0, f.2, f.3) at) in
            covered_in_snapshot rows fact t (there.0, row, there.1, there.2, (refl, f.4.2))

  pub hold_firing_facts : (rows : List Row) → IsPermutation (rows_for rules firings) rows → HoldFiringFacts rules table rows
  hold_firing_facts rows made t fact = (is_firing_fact rows made t fact, is_in_a_row rows made t fact)
