-- What settling does, at each instant, to the maps into instances in which every egd holds. Constants stand for themselves.
use Rattle.std.specs.Prelude.{◌≡◌, ℤ, List, All, Contains}
use Rattle.time_line.specs.Span.{Ends, Has}
use Rattle.term_core.specs.declared.const_id.ConstId.{ConstId}
use Rattle.rule_core.specs.Terms.{Unknown, TermOf, FactOf}
use Rattle.rule_core.specs.Mapping.{RuleSet}
use Rattle.rule_core.specs.Snapshot.{snapshot_at}
use Rattle.rule_core.specs.Homomorphism.{fact_image, Homomorphism}
use Rattle.rule_core.specs.Validity.{IsValid}
use Rattle.rule_core.specs.Solution.{EgdHolds}
use Rattle.failure_trace.specs.declared.journal.JournalStep.{JournalStep}
use Rattle.failure_trace.specs.JournalRun.{RowOf, MatchesOver, left_of, right_of, IsRun, IsClash}

-- every egd of the mapping holds in the instance
abbrev pub EgdsHold : RuleSet → List (FactOf ConstId) → Type 0
EgdsHold rules instance = All (λ egd. EgdHolds (λ c. c) egd instance) rules.egds

-- the map carries each of the facts into the instance
abbrev pub Carries : (Unknown ConstId → TermOf ConstId) → List (FactOf ConstId) → List (FactOf ConstId) → Type 0
Carries h facts instance = (fact : FactOf ConstId) → Contains facts fact → Contains instance (fact_image h fact)

-- what carries a snapshot into an instance in which every egd holds carries it there after an allowed run
abbrev pub RunsKeepMaps : Type 0
RunsKeepMaps = (rules : RuleSet) (state last : List (RowOf ConstId)) (journal : List JournalStep) → IsRun rules state journal last
    → (instance : List (FactOf ConstId)) → EgdsHold rules instance → (h : Unknown ConstId → TermOf ConstId) (t : ℤ)
    → Carries h (snapshot_at state t) instance → Carries h (snapshot_at last t) instance

-- each snapshot maps into the one after an allowed run
abbrev pub RunsLeadOn : Type 0
RunsLeadOn = (rules : RuleSet) (state last : List (RowOf ConstId)) (journal : List JournalStep) → IsRun rules state journal last
    → (t : ℤ) → Homomorphism (Contains (snapshot_at state t)) (snapshot_at last t)

-- where an allowed clash comes after an allowed run, no snapshot at an instant of the clash maps into an instance in which every egd
-- holds
abbrev pub ClashesEndMaps : Type 0
ClashesEndMaps = (rules : RuleSet) (state last : List (RowOf ConstId)) (journal : List JournalStep) (clash : JournalStep)
    → IsRun rules state journal last → IsClash rules last clash → (t : ℤ) → Has clash.span t
    → (instance : List (FactOf ConstId)) → EgdsHold rules instance → ¬ (Homomorphism (Contains (snapshot_at state t)) instance)

-- each match over a common time gives the two sides of its egd one term
abbrev pub AreSettled : RuleSet → List (RowOf ConstId) → Type 0
AreSettled rules rows = All (λ egd. (terms : List (TermOf ConstId)) (c : Ends) → MatchesOver (λ k. k) rows egd terms c
    → left_of egd terms ≡ right_of egd terms) rules.egds

-- in rows that are settled every egd holds at every instant
abbrev pub SettledRowsHold : Type 0
SettledRowsHold = (rules : RuleSet) (rows : List (RowOf ConstId)) → IsValid rules → AreSettled rules rows
    → (t : ℤ) → EgdsHold rules (snapshot_at rows t)
