-- What a snapshot holds.
use Rattle.std.proofs.Common.{ℤ, Bool, Option, Some, None, List, filter, refl, arith, Contains}
use Rattle.std.specs.Bool.{Decides}
use Rattle.std.proofs.lemmas.Int.{ints}
use Rattle.std.proofs.lemmas.Bool.Decides.{Decides-and}
use Rattle.time_line.specs.Span.{Ends, IsFrom, IsBefore, Has}
use Rattle.rule_core.specs.Terms.{StampedOf}
use Rattle.rule_core.specs.Snapshot.{is_from, is_before, has, snapshot_at}
use Rattle.rule_core.specs.Coalesced.{Covers}
use Rattle.rule_core.proofs.ListLemmas.{Contains-map, Contains-from_map, Contains-filter, Contains-from_filter}

Decides-is_from : (lo : Option ℤ) (t : ℤ) → Decides (is_from lo t) (IsFrom lo t)
Decides-is_from None t = (λ _. tt, λ _. refl)
Decides-is_from (Some lo) t = (λ e. grind (arith, ints), λ h. grind (arith, ints))

Decides-is_before : (hi : Option ℤ) (t : ℤ) → Decides (is_before hi t) (IsBefore hi t)
Decides-is_before None t = (λ _. tt, λ _. refl)
Decides-is_before (Some hi) t = (λ e. grind (arith, ints), λ h. grind (arith, ints))

-- the test of a span
pub Decides-has : (s : Ends) (t : ℤ) → Decides (has s t) (Has s t)
Decides-has s t = Decides-and (is_from s.lo t) (is_before s.hi t) (Decides-is_from s.lo t) (Decides-is_before s.hi t)

-- a snapshot holds a row exactly where the list covers it
pub snapshot_covers : {X : Type 0} (stamped : List (StampedOf X)) (row : X) (t : ℤ) → Contains (snapshot_at stamped t) row
    → Covers stamped row t
snapshot_covers {X} stamped row t c =
    let p : StampedOf X → Bool = λ e. has e.span t in
    let found = Contains-from_map (λ (e : StampedOf X). e.row) (filter p stamped) row c in
    let there = Contains-from_filter p stamped found.0 found.1 in
    (there.0.0, found.0, there.0.1, there.0.2, (found.2, (Decides-has found.0.span t).0 there.1))

pub covered_in_snapshot : {X : Type 0} (stamped : List (StampedOf X)) (row : X) (t : ℤ) → Covers stamped row t
    → Contains (snapshot_at stamped t) row
covered_in_snapshot {X} stamped row t c =
    let p : StampedOf X → Bool = λ e. has e.span t in
    let kept = Contains-filter p stamped c.1 (c.0, c.2, c.3) ((Decides-has c.1.span t).1 c.4.1) in
    rw c.4.0 at (Contains-map (λ (e : StampedOf X). e.row) (filter p stamped) c.1 kept)
