-- The facts of a table in groups, and the table that is cut by groups.
use Rattle.std.specs.Prelude.{◌≡◌, ◌⊎◌, ◌↔◌, ℕ, ◌<◌, ◌≤◌, ℤ, List, Option, Some, IsSomeAnd, All, Contains, length, slice_get, slice_index}
use Rattle.std.specs.List.{AllZip}
use Rattle.time_line.specs.Span.{Ends, Has, HasInstant, IsInside}
use Rattle.term_core.specs.declared.const_id.ConstId.{ConstId}
use Rattle.term_core.specs.declared.term.Seen.{Seen}
use Rattle.rule_core.specs.declared.rules.Atom.{Atom}
use Rattle.rule_core.specs.declared.rules.Tgd.{Tgd}
use Rattle.rule_core.specs.Mapping.{RuleSet}
use Rattle.rule_core.specs.Terms.{FactOf}
use Rattle.fact_table.specs.declared.fact.Fact.{Fact}
use Rattle.fact_table.specs.Facts.{IsTable}
use Rattle.fact_table.specs.Rows.{SeenRow, row_at, rows_of}
use Rattle.fact_table.specs.Snapshots.{snapshot_of}
use Rattle.body_match.specs.Matches.{seen_value, IsImageAt, HoldsAt}

-- at every instant the two tables hold the same facts
abbrev pub HaveSameSnapshots : List Fact → List Fact → Type 0
HaveSameSnapshots a b = (t : ℤ) (fact : FactOf ConstId) → Contains (snapshot_of a t) fact ↔ Contains (snapshot_of b t) fact

-- a row for each atom that is its image under one binding, with time ignored
abbrev pub IsTimelessMatch : List Atom → List (Option SeenRow) → List ℕ → Type 0
IsTimelessMatch body rows numbers = (binding : List Seen) × AllZip (IsImageAt rows (seen_value binding)) body numbers

-- the spans of the rows are all equal
abbrev pub AreEqualInTime : List (Option SeenRow) → List ℕ → Type 0
AreEqualInTime rows numbers = (span : Ends) × All (λ number. IsSomeAnd (row_at rows number) (λ row. row.span ≡ span)) numbers

-- the spans of the rows have an instant in common
abbrev pub MeetInTime : List (Option SeenRow) → List ℕ → Type 0
MeetInTime rows numbers = (t : ℤ) × All (HoldsAt rows t) numbers

-- the spans of the rows have no instant in common
abbrev pub AreDisjointInTime : List (Option SeenRow) → List ℕ → Type 0
AreDisjointInTime rows numbers = (t : ℤ) → ¬ (All (HoldsAt rows t) numbers)

-- in every match of a tgd's body, with time ignored, the spans are all equal or have no instant in common
abbrev pub IsEqualOrDisjoint : RuleSet → List Fact → Type 0
IsEqualOrDisjoint rules table = (tgd : Tgd) (numbers : List ℕ) → Contains rules.tgds tgd → IsTimelessMatch tgd.body (rows_of table) numbers
    → AreEqualInTime (rows_of table) numbers ⊎ AreDisjointInTime (rows_of table) numbers

-- one match of one tgd's body, with time ignored, uses the facts at both places, and all facts of that match have a common instant
pub record AreJoined (rules : RuleSet) (table : List Fact) (a b : ℕ) : Type 0 where
  pub tgd : Tgd
  pub numbers : List ℕ
  pub rule : Contains rules.tgds tgd
  pub fits : IsTimelessMatch tgd.body (rows_of table) numbers
  pub meet : MeetInTime (rows_of table) numbers
  pub uses : Contains numbers a × Contains numbers b

-- what steps of a relation lead to
pub data Reaches {X : Type 0} (R : X → X → Type 0) : X → X → Type 0 where
  here : {x : X} → Reaches R x x
  step : {x y z : X} → R x y → Reaches R y z → Reaches R x z

-- the facts at the places are of one group: joined facts lead from one to the other
abbrev pub AreOfOneGroup : RuleSet → List Fact → ℕ → ℕ → Type 0
AreOfOneGroup rules table = Reaches (AreJoined rules table)

-- for each fact the least place of a fact of its group
pub record AreLeastPlaces (rules : RuleSet) (table : List Fact) (places : List ℕ) : Type 0 where
  pub size : length places ≡ length table
  pub member : (n : ℕ) → n < length table → AreOfOneGroup rules table n (slice_index places n)
  pub least : (n m : ℕ) → n < length table → AreOfOneGroup rules table n m → slice_index places n ≤ m

-- the number is where the span starts or where it stops
abbrev pub IsEndOf : Ends → ℤ → Type 0
IsEndOf span m = (span.lo ≡ Some m) ⊎ (span.hi ≡ Some m)

-- the number is an end of a fact of the group of the fact at the place
abbrev pub IsEndInGroup : RuleSet → List Fact → ℕ → ℤ → Type 0
IsEndInGroup rules table place m =
    (other : ℕ) × AreOfOneGroup rules table place other × IsSomeAnd (slice_get table other) (λ fact. IsEndOf fact.span m)

-- one of the parts into which such numbers cut a span, where they are strictly inside it: a part starts and stops with the span or at
-- such a number, and has none strictly inside
pub record IsPartOf (cuts : ℤ → Type 0) (span part : Ends) : Type 0 where
  pub instant : HasInstant part
  pub within : (t : ℤ) → Has part t → Has span t
  pub bounds : (m : ℤ) → IsEndOf part m → IsEndOf span m ⊎ cuts m
  pub uncut : (m : ℤ) → cuts m → ¬ (IsInside part m)

-- the fact over one of the parts into which such numbers cut its span
pub record IsPieceOf (cuts : ℤ → Type 0) (fact piece : Fact) : Type 0 where
  pub relation : piece.relation ≡ fact.relation
  pub row : piece.row ≡ fact.row
  pub part : IsPartOf cuts fact.span piece.span

-- a piece of a fact of the table, which is cut at the ends of the facts of its group
abbrev pub IsPieceIn : RuleSet → List Fact → Fact → Type 0
IsPieceIn rules table piece =
    (place : ℕ) × IsSomeAnd (slice_get table place) (λ fact. IsPieceOf (IsEndInGroup rules table place) fact piece)

-- exactly the pieces of the facts of the table, in order and each once
pub record IsNormalised (rules : RuleSet) (table pieces : List Fact) : Type 0 where
  pub exact : (piece : Fact) → Contains pieces piece ↔ IsPieceIn rules table piece
  pub order : IsTable pieces
