-- What a mapping's tgds make of a table, beside the firings themselves.
use Rattle.std.specs.Prelude.{◌≡◌, ◌↔◌, ℤ, List, Some, map, slice_get, All, Contains, IsSomeAnd}
use Rattle.time_line.specs.Span.{Ends}
use Rattle.term_core.specs.declared.const_id.ConstId.{ConstId}
use Rattle.term_core.specs.declared.term.Seen.TheVariants.{Const}
use Rattle.rule_core.specs.declared.rules.Tgd.{Tgd}
use Rattle.rule_core.specs.Terms.{constant, FactOf, StampedOf}
use Rattle.rule_core.specs.Mapping.{RuleSet}
use Rattle.rule_core.specs.Snapshot.{snapshot_at}
use Rattle.rule_core.specs.Firing.{frontier_of, IsFiringFact}
use Rattle.fact_table.specs.declared.fact.Fact.{Fact}
use Rattle.fact_table.specs.Rows.{rows_of}
use Rattle.fact_table.specs.Snapshots.{snapshot_of}
use Rattle.body_match.specs.declared.found.Match.{Match}
use Rattle.body_match.specs.Matches.{IsMatch}
use Rattle.normaliser.specs.Normalised.{IsEndOf}
use Rattle.failure_trace.specs.declared.firing.Firing.{Firing}

-- the match gives the variables of the frontier these values
abbrev pub GivesFrontier : Tgd → Match → List ConstId → Type 0
GivesFrontier tgd found values = map (λ v. slice_get found.binding v) (frontier_of tgd) ≡ map (λ c. Some (Const c)) values

-- a match of the tgd's body in the table gives the frontier these values, and its span has the end
abbrev pub IsEndOfMatch : List Fact → Tgd → List ConstId → ℤ → Type 0
IsEndOfMatch table tgd values m = (found : Match)
    × IsMatch tgd.body tgd.body_vars (rows_of table) found × GivesFrontier tgd found values × IsEndOf found.span m

-- the span starts and stops only where matches with these values do
abbrev pub HasMatchEnds : List Fact → Tgd → List ConstId → Ends → Type 0
HasMatchEnds table tgd values span = (m : ℤ) → IsEndOf span m → IsEndOfMatch table tgd values m

-- supports start and stop only where matches with the firing's values do
abbrev pub HaveMatchEnds : RuleSet → List Fact → List Firing → Type 0
HaveMatchEnds rules table firings = All (λ firing. IsSomeAnd (slice_get rules.tgds firing.rule)
    (λ tgd. All (λ support. HasMatchEnds table tgd firing.frontier support.span) firing.supports)) firings

-- at every instant the rows hold exactly the firing facts of the table's snapshot
abbrev pub HoldFiringFacts : RuleSet → List Fact → List (StampedOf (FactOf ConstId)) → Type 0
HoldFiringFacts rules table rows = (t : ℤ) (fact : FactOf ConstId)
    → Contains (snapshot_at rows t) fact ↔ IsFiringFact (λ c. c) rules (snapshot_of table t) fact

-- each term of the instance is a constant
abbrev pub IsGround : {C : Type 0} → List (FactOf C) → Type 0
IsGround {C} facts = All (λ fact. All (λ term. (c : C) × (term ≡ constant c)) fact.terms) facts
