-- Each head variable so far has its column.
use Rattle.std.proofs.Common.{take}
use Rattle.rule_text.specs.RuleLine.{AreColumns}
use Rattle.rule_text.proofs.query.columns_of.Given as goal

abbrev pub invariant-loop-name : goal.invariant-loop-name
invariant-loop-name l = AreColumns l.vars (take l.name-index l.head) l.columns
