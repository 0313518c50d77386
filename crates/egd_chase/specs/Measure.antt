-- What becomes less with each step of settling: the pairs of an unknown and an instant, of those that matter, at which a row holds it.
use Rattle.std.specs.Prelude.{◌<◌, ◌≡◌, ◌⊎◌, ℕ, ◌+◌, ℤ, pos, ◌-ℤ◌, cond, Bool, false, Option, Some, None, List, [], ◌∷◌, ◌++◌, flat_map, Contains}
use Rattle.std.specs.List.{list_any}
use Rattle.std.specs.Ordering.{is_eq}
use Rattle.term_core.specs.declared.const_id.ConstId.{ConstId}
use Rattle.term_core.specs.Order.{id_cmp}
use Rattle.rule_core.specs.Terms.{Unknown, TermOf, constant, unknown, FactOf}
use Rattle.rule_core.specs.Order.{unknown_cmp}
use Rattle.rule_core.specs.Snapshot.{snapshot_at}
use Rattle.rule_core.specs.Renaming.{HasUnknown}
use Rattle.rule_core.specs.Mapping.{RuleSet}
use Rattle.rule_core.specs.Validity.{IsValid}
use Rattle.failure_trace.specs.declared.journal.JournalStep.{JournalStep}
use Rattle.failure_trace.specs.JournalRun.{RowOf, IsStep}

-- whether the term is the unknown
abbrev pub is_unknown : Unknown ConstId → TermOf ConstId → Bool
is_unknown u (constant c) = false
is_unknown u (unknown w) = is_eq (unknown_cmp id_cmp w u)

-- whether a fact has the unknown
abbrev pub has_unknown : Unknown ConstId → List (FactOf ConstId) → Bool
has_unknown u facts = list_any (λ fact. list_any (is_unknown u) fact.terms) facts

-- at how many of the instants a row holds the unknown
abbrev pub instants_held : List (RowOf ConstId) → Unknown ConstId → List ℤ → ℕ
instants_held rows u [] = 0
instants_held rows u (t ∷ instants) = cond (has_unknown u (snapshot_at rows t)) 1 0 + instants_held rows u instants

-- the same for some unknowns together
abbrev pub holdings : List (RowOf ConstId) → List (Unknown ConstId) → List ℤ → ℕ
holdings rows [] instants = 0
holdings rows (u ∷ unknowns) instants = instants_held rows u instants + holdings rows unknowns instants

-- the unknowns of rows
abbrev pub unknowns_in : List (TermOf ConstId) → List (Unknown ConstId)
unknowns_in [] = []
unknowns_in (constant c ∷ terms) = unknowns_in terms
unknowns_in (unknown u ∷ terms) = u ∷ unknowns_in terms

abbrev pub unknowns_of : List (RowOf ConstId) → List (Unknown ConstId)
unknowns_of rows = flat_map (λ row. unknowns_in row.row.terms) rows

-- 0, the ends of rows, and the instants before them: each span that starts and stops at such ends has one of these
abbrev pub around : Option ℤ → List ℤ
around None = []
around (Some m) = m ∷ (m -ℤ pos 1) ∷ []

abbrev pub instants_of : List (RowOf ConstId) → List ℤ
instants_of rows = pos 0 ∷ flat_map (λ row. around row.span.lo ++ around row.span.hi) rows

-- how much the rows hold of what the first rows have
abbrev pub measure : List (RowOf ConstId) → List (RowOf ConstId) → ℕ
measure first rows = holdings rows (unknowns_of first) (instants_of first)

-- the instant is an end of one of the rows
abbrev pub IsEndIn : List (RowOf ConstId) → ℤ → Type 0
IsEndIn rows m = (row : RowOf ConstId) × Contains rows row × ((row.span.lo ≡ Some m) ⊎ (row.span.hi ≡ Some m))

-- the ends and the unknowns of the rows are among those of the first
pub record ComesFrom (first rows : List (RowOf ConstId)) : Type 0 where
  pub ends : (m : ℤ) → IsEndIn rows m → IsEndIn first m
  pub unknowns : (t : ℤ) (u : Unknown ConstId) → HasUnknown (snapshot_at rows t) u → Contains (unknowns_of first) u

-- an allowed step adds no end and no unknown, and lowers the measure
abbrev pub StepsLowerTheMeasure : Type 0
StepsLowerTheMeasure = (rules : RuleSet) (first state after : List (RowOf ConstId)) (step : JournalStep) → IsValid rules
    → ComesFrom first state → IsStep rules state step after → ComesFrom first after × (measure first after < measure first state)
