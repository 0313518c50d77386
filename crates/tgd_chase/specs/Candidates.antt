-- Matches of tgds' bodies, of which firings are made. No public clause cites this module.
use Rattle.std.specs.Prelude.{◌≡◌, ◌<◌, ℕ, ℤ, List, [], ◌∷◌, ◌++◌, Some, length, map, slice_get, All, Any, IsSomeAnd}
use Rattle.time_line.specs.Span.{Has}
use Rattle.term_core.specs.declared.const_id.ConstId.{ConstId}
use Rattle.term_core.specs.declared.term.Seen.{Seen}
use Rattle.term_core.specs.declared.term.Seen.TheVariants.{Const}
use Rattle.rule_core.specs.declared.rules.Tgd.{Tgd}
use Rattle.rule_core.specs.Mapping.{RuleSet}
use Rattle.rule_core.specs.Firing.{Fires}
use Rattle.fact_table.specs.declared.fact.Fact.{Fact}
use Rattle.body_match.specs.declared.found.Match.{Match}
use Rattle.fact_table.specs.Snapshots.{stamped_facts, snapshot_of}
use Rattle.failure_trace.specs.Firings.{Supports, FiresOn}
use Rattle.tgd_chase.specs.Fired.{HasMatchEnds}
use Rattle.tgd_chase.specs.declared.candidates.Candidate.{Candidate}
use Rattle.tgd_chase.specs.declared.candidates.Finder.{Finder}

-- the cell shows a constant
abbrev pub IsConstant : Seen → Type 0
IsConstant cell = (c : ConstId) × (cell ≡ Const c)

-- the candidate is the match with constants for cells, and its frontier values are those of these variables
pub record IsMadeFrom (place : ℕ) (variables : List ℕ) (found : Match) (candidate : Candidate) : Type 0 where
  pub rule : candidate.rule ≡ place
  pub frontier : map (λ v. slice_get candidate.support.binding v) variables ≡ map (λ c. Some c) candidate.frontier
  pub binding : map Const candidate.support.binding ≡ found.binding
  pub span : candidate.support.span ≡ found.span

-- all values of the match are constants, and these variables are among its own
abbrev pub IsOfConstants : List ℕ → Match → Type 0
IsOfConstants variables found = All IsConstant found.binding × All (λ v. v < length found.binding) variables

-- the match is listed last as a candidate, if its values are constants
pub record TakesMatch (old : Finder) (found : Match) (new : Finder) : Type 0 where
  pub rule : new.rule ≡ old.rule
  pub variables : new.variables ≡ old.variables
  pub list : IsOfConstants old.variables found
      → (c : Candidate) × IsMadeFrom old.rule old.variables found c × (new.list.items ≡ old.list.items ++ c ∷ [])

-- the candidate is a match of the body of the tgd at the place
pub record IsCandidateOf (table : List Fact) (place : ℕ) (tgd : Tgd) (candidate : Candidate) : Type 0 where
  pub rule : candidate.rule ≡ place
  pub supports : Supports (stamped_facts table) tgd candidate.frontier candidate.support
  pub ends : HasMatchEnds table tgd candidate.frontier candidate.support.span

-- a candidate of the rule with these values has the instant
abbrev pub IsFoundAt : List Candidate → ℕ → List ConstId → ℤ → Type 0
IsFoundAt list rule values t = Any (λ c. (c.rule ≡ rule) × (c.frontier ≡ values) × Has c.support.span t) list

-- matches of the body of the tgd at the place, and one at each instant at which it fires
pub record AreCandidatesOf (table : List Fact) (place : ℕ) (tgd : Tgd) (list : List Candidate) : Type 0 where
  pub each : All (IsCandidateOf table place tgd) list
  pub whole : (values : List ConstId) (t : ℤ) → Fires (λ c. c) tgd (snapshot_of table t) values → IsFoundAt list place values t

-- behind the list stand those of the tgd
abbrev pub AddsCandidates : List Fact → ℕ → Tgd → List Candidate → List Candidate → Type 0
AddsCandidates table place tgd old new = (more : List Candidate) × (new ≡ old ++ more) × AreCandidatesOf table place tgd more

-- the candidate is a match of the body of its rule
abbrev pub IsCandidate : RuleSet → List Fact → Candidate → Type 0
IsCandidate rules table c = IsSomeAnd (slice_get rules.tgds c.rule) (λ tgd. IsCandidateOf table c.rule tgd c)

-- matches of tgds' bodies, and one at each instant at which a tgd fires
pub record AreCandidates (rules : RuleSet) (table : List Fact) (list : List Candidate) : Type 0 where
  pub each : All (IsCandidate rules table) list
  pub whole : (rule : ℕ) (values : List ConstId) (t : ℤ) → FiresOn rules (snapshot_of table t) rule values → IsFoundAt list rule values t
