-- Matches at an instant.
use Rattle.std.specs.Prelude.{◌≡◌, ◌↔◌, ℕ, ℤ, List, Option, Some, Any, slice_get}
use Rattle.time_line.specs.Span.{Has}
use Rattle.term_core.specs.declared.const_id.ConstId.{ConstId}
use Rattle.term_core.specs.declared.term.Seen.{Seen}
use Rattle.rule_core.specs.declared.rules.Atom.{Atom}
use Rattle.rule_core.specs.Terms.{TermOf}
use Rattle.rule_core.specs.Match.{Matches}
use Rattle.rule_core.specs.Snapshot.{snapshot_at}
use Rattle.fact_table.specs.Rows.{SeenRow}
use Rattle.fact_table.specs.Snapshots.{seen_term, facts_of}
use Rattle.body_match.specs.declared.found.Match.{Match}

-- the binding gives each variable the term that its value shows
abbrev pub AgreesWith : List Seen → (ℕ → TermOf ConstId) → Type 0
AgreesWith values binding = (v : ℕ) (value : Seen) → slice_get values v ≡ Some value → binding v ≡ seen_term value

-- a binding matches the body in a snapshot of the rows exactly where it agrees with a match of the list whose span has the
-- instant; constants stand for themselves
abbrev pub AreMatchesAtInstants : List Atom → List (Option SeenRow) → List Match → Type 0
AreMatchesAtInstants body rows list = (binding : ℕ → TermOf ConstId) (t : ℤ) →
    Matches (λ c. c) binding body (snapshot_at (facts_of rows) t) ↔ Any (λ found. Has found.span t × AgreesWith found.binding binding) list
