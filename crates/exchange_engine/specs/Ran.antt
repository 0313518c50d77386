-- What runs before a target is told: firings on the normalised table of a source, and their rows.
use Rattle.std.specs.Prelude.{◌≡◌, ℕ, List, length}
use Rattle.term_core.specs.declared.const_id.ConstId.{ConstId}
use Rattle.rule_core.specs.Firing.{firing_rows}
use Rattle.fact_table.specs.declared.fact.Fact.{Fact}
use Rattle.fact_table.specs.Snapshots.{stamped_facts}
use Rattle.normaliser.specs.Normalised.{IsNormalised}
use Rattle.failure_trace.specs.declared.firing.Firing.{Firing}
use Rattle.failure_trace.specs.Entries.{entries_of}
use Rattle.failure_trace.specs.Firings.{AreFirings}
use Rattle.failure_trace.specs.JournalRun.{RowOf}
use Rattle.tgd_chase.specs.Fired.{HaveMatchEnds}
use Rattle.exchange_engine.specs.Loading.{LoadedOf}

-- the firings, with their supports, are those on the normalised table of the source; supports start and stop only where matches do
pub record AreFiredOn (loaded : LoadedOf) (firings : List Firing) : Type 0 where
  pub pieces : List Fact
  pub normalised : IsNormalised loaded.rules loaded.table pieces
  pub exact : AreFirings loaded.rules (stamped_facts pieces) firings
  pub ends : HaveMatchEnds loaded.rules pieces firings

-- the rows of the heads of the firings, in order; constants stand for themselves
abbrev pub rows_for : LoadedOf → List Firing → List (RowOf ConstId)
rows_for loaded firings = firing_rows (λ c. c) loaded.rules (entries_of firings)

-- so many facts has the normalised table of the source
abbrev pub CountsPieces : LoadedOf → ℕ → Type 0
CountsPieces loaded count = (pieces : List Fact) → IsNormalised loaded.rules loaded.table pieces → count ≡ length pieces
