-- The answers of the first queries.
use Rattle.std.proofs.Common.{take}
use Rattle.std.specs.List.{AllZip}
use Rattle.certain_answers.specs.Answering.{IsAnsweredOn}
use Rattle.certain_answers.proofs.table_answers.answers_of.Given as goal

abbrev pub invariant-loop-query : goal.invariant-loop-query
invariant-loop-query g l = AllZip (IsAnsweredOn l.tables) (take l.query-index l.queries) l.lists
