-- There are as many lists as counts so far, and none has a row.
use Rattle.std.proofs.Common.{◌≡◌, [], length, All}
use Rattle.exchange_engine.proofs.tables.empty_lists.Given as goal

abbrev pub invariant-loop-count : goal.invariant-loop-count
invariant-loop-count l = record { size : length l.lists ≡ l.count-index; empty : All (λ list. list ≡ []) l.lists }
