-- What a store has before the rows of a firing are added.
use Rattle.failure_trace.specs.Firings.{AreFirings}
use Rattle.std.proofs.lemmas.List.{length-map}
use Rattle.std.proofs.Common.{◌≡◌, ℕ, Some, ◌≤◌, List, [], length, get_or, refl, sym, ◌∙◌, subst, All, Contains, ◌<◌, Option, None, ap}
use Rattle.std.specs.Prelude.{IsSomeAnd, IsPermutation, slice_get, ◌++◌}
use Rattle.std.proofs.lemmas.Option.{slice_get_read, slice_get_within}
use Rattle.time_line.specs.Span.{Meet, HasInstant}
use Rattle.term_core.specs.declared.const_id.ConstId.{ConstId}
use Rattle.rule_core.specs.declared.rules.Tgd.{Tgd}
use Rattle.rule_core.specs.Mapping.{RuleSet}
use Rattle.rule_core.specs.Snapshot.{snapshot_at}
use Rattle.rule_core.specs.Terms.{named, unknown, FactOf, StampedOf}
use Rattle.rule_core.specs.Firing.{frontier_of, entry_rows, Fires}
use Rattle.body_match.proofs.SearchLemmas.{and_some, some_and, same_some}
use Rattle.null_store.specs.Store.{Store, facts_in}
use Rattle.null_store.specs.Changes.{HoldsSame, HasRoom, KeepsAllButNames, IsNamedAt, CanFire, IsFresh, AddsFiring, head_cells, exists_count}
use Rattle.failure_trace.specs.declared.firing.Firing.{Firing}
use Rattle.failure_trace.specs.Entries.{entry_of}
use Rattle.tgd_chase.specs.Adding.{name_of, FitsRules, AddsRows}

-- a row of a target
abbrev pub Row : Type 0
Row = StampedOf (FactOf ConstId)

-- the row is over no instant of the firing's span, or holds none of its unknowns
abbrev pub IsNew : Firing → Row → Type 0
IsNew f row = Meet row.span f.span → (var : ℕ) → ¬ (Contains row.row.terms (unknown (named f.rule f.frontier var)))

-- the tgd at the place is the one that the rules have there
pub tgd_there : (rules : RuleSet) (f : Firing) (listed : List Tgd) (tgd : Tgd) → FitsRules rules f → listed ≡ rules.tgds
    → tgd ≡ get_or listed f.rule tgd → slice_get rules.tgds f.rule ≡ Some tgd
tgd_there rules f listed tgd fits same here =
    let s = some_and (λ (other : Tgd). length f.frontier ≡ length (frontier_of other)) (slice_get rules.tgds f.rule) fits in
    slice_get_read rules.tgds (length rules.tgds) f.rule tgd refl (slice_get_within rules.tgds f.rule s.0 s.1)
    (subst (λ (l : List Tgd). tgd ≡ get_or l f.rule tgd) same here)

-- the facts of a store are those of its rows and pieces
same_facts : (a b : Store) → b.rows ≡ a.rows → b.pieces ≡ a.pieces → facts_in b ≡ facts_in a
same_facts a b rows pieces = λ i. facts_in (record { rows = rows i; pieces = pieces i; names = []; spare = a.spare })

-- where there is room for the head, the firing can be added
pub can_fire : (rules : RuleSet) (f : Firing) (tgd : Tgd) (store : Store) → FitsRules rules f → slice_get rules.tgds f.rule ≡ Some tgd
    → HasRoom store (length tgd.head) (head_cells tgd) (exists_count tgd) → CanFire rules store (name_of f)
can_fire rules f tgd store fits is room =
    let s = some_and (λ (other : Tgd). length f.frontier ≡ length (frontier_of other)) (slice_get rules.tgds f.rule) fits in
    and_some (λ (other : Tgd). (length f.frontier ≡ length (frontier_of other))
    × HasRoom store (length other.head) (head_cells other) (exists_count other)) (slice_get rules.tgds f.rule) tgd is (
      subst (λ (other : Tgd). length f.frontier ≡ length (frontier_of other)) (same_some (slice_get rules.tgds f.rule) s.0 tgd s.1 is) s.2,
      room,
    )

-- a store with the same rows and pieces has no other unknown of the firing
pub still_fresh : (f : Firing) (old new : Store) → new.rows ≡ old.rows → new.pieces ≡ old.pieces → IsFresh old (name_of f) f.span
    → IsFresh new (name_of f) f.span
still_fresh f old new rows pieces fresh =
    subst (λ (facts : List Row). All (IsNew f) facts) (sym (same_facts old new rows pieces)) fresh

-- with its name the firing can be added too
pub can_add : (rules : RuleSet) (f : Firing) (old new : Store) (number : ℕ) → CanFire rules old (name_of f)
    → IsFresh old (name_of f) f.span → KeepsAllButNames old new → IsNamedAt new number f.rule f.frontier
    → IsSomeAnd (slice_get new.names number) (λ n. CanFire rules new n × IsFresh new n f.span)
can_add rules f old new number can fresh keeps at =
    let s = some_and (λ (tgd : Tgd). (length f.frontier ≡ length (frontier_of tgd))
    × HasRoom old (length tgd.head) (head_cells tgd) (exists_count tgd)) (slice_get rules.tgds f.rule) can in
    let room : HasRoom new (length s.0.head) (head_cells s.0) (exists_count s.0) = record {
      rows = subst (λ spare. length s.0.head ≤ spare.rows) (sym keeps.spare) s.2.1.rows;
      cells = subst (λ spare. head_cells s.0 ≤ spare.cells) (sym keeps.spare) s.2.1.cells;
      pieces = subst (λ spare. exists_count s.0 ≤ spare.pieces) (sym keeps.spare) s.2.1.pieces;
    } in
    and_some (λ n. CanFire rules new n × IsFresh new n f.span) (slice_get new.names number) (name_of f) at (
      and_some (λ (tgd : Tgd). (length f.frontier ≡ length (frontier_of tgd))
          × HasRoom new (length tgd.head) (head_cells tgd) (exists_count tgd)) (slice_get rules.tgds f.rule) s.0 s.1 (s.2.0, room),
      still_fresh f old new keeps.rows keeps.pieces fresh,
    )

-- what is added to a store with the same rows and pieces is added
pub plain_added : (rules : RuleSet) (f : Firing) (old kept new : Store) → kept.rows ≡ old.rows → kept.pieces ≡ old.pieces
    → AddsFiring rules (name_of f) f.span kept new → AddsRows rules f old new
plain_added rules f old kept new rows pieces adds =
    subst (λ (facts : List Row). IsPermutation (facts ++ entry_rows (λ c. c) rules (entry_of f)) (facts_in new)) (same_facts old kept rows pieces)
    adds.rows

-- and what is added under the firing's name
pub named_added : (rules : RuleSet) (f : Firing) (old kept new : Store) (number : ℕ) → KeepsAllButNames old kept
    → IsNamedAt kept number f.rule f.frontier → IsSomeAnd (slice_get kept.names number) (λ n. AddsFiring rules n f.span kept new)
    → AddsRows rules f old new
named_added rules f old kept new number keeps at adds =
    let s = some_and (λ n. AddsFiring rules n f.span kept new) (slice_get kept.names number) adds in
    let same = same_some (slice_get kept.names number) s.0 (name_of f) s.1 at in
    plain_added rules f old kept new keeps.rows keeps.pieces (subst (λ n. AddsFiring rules n f.span kept new) same s.2)

-- a firing has a value for each variable of its tgd's frontier
pub fits : (rules : RuleSet) (source : List (StampedOf (FactOf ConstId))) (listed : List Firing) (k : ℕ) (f : Firing)
    → AreFirings rules source listed → HasInstant f.span → k < length listed → f ≡ get_or listed k f → FitsRules rules f
fits rules source listed k f are instant l is =
    by (slice_get rules.tgds f.rule) ((are.exact f.rule f.frontier instant.0).0 (k, f, l, sym is, (refl, refl, instant.1)))
  where
    by : (o : Option Tgd) → IsSomeAnd o (λ tgd. Fires (λ c. c) tgd (snapshot_at source instant.0) f.frontier)
        → IsSomeAnd o (λ tgd. length f.frontier ≡ length (frontier_of tgd))
    by None h = h
    by (Some tgd) h = sym (ap length h.2) ∙ length-map (frontier_of tgd) h.0
