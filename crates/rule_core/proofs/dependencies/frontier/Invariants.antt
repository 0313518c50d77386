-- The variables so far are those below the next one that occur in the head, ascending.
use Rattle.rule_core.specs.Frontier.{Occurs}
use Rattle.rule_core.proofs.FrontierLemmas.{ArePicked}
use Rattle.rule_core.proofs.dependencies.frontier.Given as goal

abbrev pub invariant-loop-variable : goal.invariant-loop-variable
invariant-loop-variable l = ArePicked (Occurs l.tgd.head) l.variable l.variables
