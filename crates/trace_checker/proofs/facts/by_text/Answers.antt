use Rattle.std.proofs.Common.{map, refl}
use Rattle.std.proofs.lemmas.Result.{IfOk-weaker}
use Rattle.rule_core.specs.Terms.{constant}
use Rattle.rule_core.specs.Renaming.{HoldTheSame}
use Rattle.failure_trace.specs.Equating.{replaced_fact}
use Rattle.failure_trace.specs.TraceRun.{text_cmp}
use Rattle.trace_checker.specs.declared.name.Name.TheVariants.{Text}
use Rattle.trace_checker.specs.States.{replacement}
use Rattle.trace_checker.specs.Numbered.{Replaces}
use Rattle.trace_checker.proofs.NumberLemmas.{gone_replaces}
use Rattle.trace_checker.proofs.facts.by_text.Goals as goal

pub returns : goal.returns
returns c =
    let text = Text c.args.text in
    let inner = c.in_ok-inner.inner in
    IfOk-weaker c.replaced.result
    (λ after. HoldTheSame after (map (replaced_fact text_cmp (replacement inner text)) c.args.rows))
    (λ after. Replaces (replacement c.args.gone text) c.args.numbers.now c.args.rows c.give.new.self after)
    (λ after same. gone_replaces c.args.numbers.now c.give.new.self c.requires.own c.in_ok-inner.ensures.own c.in_ok-inner.ensures.kept
    c.args.rows after c.requires.inner c.args.gone inner c.in_ok-inner.ensures.given (constant c.args.text.now) (constant c.args.text.now) refl
    (λ j e. absurd cc) same)
    c.replaced.ensures
