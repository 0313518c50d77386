-- The cells of the rows so far are found.
use Rattle.std.proofs.Common.{take, Any, Contains, length, sum_by}
use Rattle.exchange_engine.specs.Gathered.{Gains}
use Rattle.exchange_engine.proofs.loading.pool.add_rows.Given as goal

abbrev pub invariant-loop-fact : goal.invariant-loop-fact
invariant-loop-fact l =
    Gains l.fn.gathered l.gathered (λ text. Any (λ fact. Contains fact.row text) (take l.fact-index l.table))
    (sum_by (λ fact. length fact.row) (take l.fact-index l.table))
