-- The cuts of a step, as they are made on a store. No public clause cites this module.
use Rattle.std.specs.Prelude.{◌≡◌, IsSomeAnd}
use Rattle.time_line.specs.Span.{Ends}
use Rattle.term_core.specs.declared.const_id.ConstId.{ConstId}
use Rattle.rule_core.specs.Terms.{TermOf}
use Rattle.fact_table.specs.Rows.{row_at}
use Rattle.failure_trace.specs.JournalRun.{CutInTurn}
use Rattle.null_store.specs.Store.{Store, facts_in}
use Rattle.egd_chase.specs.declared.sides.Side.{Side}
use Rattle.egd_chase.specs.declared.cutting.Cutting.{Cutting}
use Rattle.egd_chase.specs.Search.{ChangeOnly, HaveSpans}
use Rattle.egd_chase.specs.Shared.{KeepsShared}
use Rattle.egd_chase.specs.Sides.{HoldsSide, IsFitted}

-- the cuts that are noted lead from the rows of the first store to those of this one; each of the terms stands in its cell, in a row that
-- has all of the span; rows have spans, and all but those that came are as they were but for times, with what they had in common with
-- others
pub record IsCutTo (own other : TermOf ConstId) (c : Ends) (first now : Store) (work : Cutting) : Type 0 where
  pub cuts : CutInTurn (facts_in first) own other c work.notes (facts_in now)
  pub own_held : HoldsSide now own c work.own
  pub other_held : HoldsSide now other c work.other
  pub spans : HaveSpans now.rows
  pub only : ChangeOnly work.made.items first.rows now.rows
  pub shared : KeepsShared work.made.items first.rows now.rows

-- the row of the side starts where the span does
abbrev pub StartsWith : Store → Ends → Side → Type 0
StartsWith store c side = IsSomeAnd (row_at store.rows side.row) (λ row. row.span.lo ≡ c.lo)

-- where the other side's row was over exactly the span, it still is
abbrev pub KeepsFit : TermOf ConstId → Ends → Store → Side → Store → Side → Type 0
KeepsFit term c old before new after = IsFitted old term c before → IsFitted new term c after
