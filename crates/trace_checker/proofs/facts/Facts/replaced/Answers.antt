use Rattle.std.proofs.Common.{map, subst}
use Rattle.rule_core.specs.Renaming.{HoldTheSame}
use Rattle.failure_trace.specs.Equating.{replaced_fact}
use Rattle.failure_trace.specs.TraceRun.{text_cmp}
use Rattle.trace_checker.specs.States.{replacement}
use Rattle.trace_checker.specs.Numbered.{renumbered, outward}
use Rattle.trace_checker.proofs.facts.Facts.replaced.Goals as goal

pub returns : goal.returns
returns c =
    let g = replaced_fact text_cmp (replacement c.args.gone c.args.by) in
    subst (λ facts. HoldTheSame (map (renumbered (outward c.replace.new.numbers)) c.in_ok-rows.rows) (map g facts)) c.self.view_is
    c.in_ok-rows.ensures.shown
