use Rattle.std.proofs.Common.{◌∙◌, Some, map, ap}
use Rattle.std.proofs.lemmas.Result.{IfOk-weaker}
use Rattle.rule_core.specs.Terms.{numbered, unknown}
use Rattle.rule_core.specs.Renaming.{HoldTheSame}
use Rattle.failure_trace.specs.Equating.{replaced_fact}
use Rattle.failure_trace.specs.TraceRun.{text_cmp}
use Rattle.trace_checker.specs.declared.name.Name.TheVariants.{Number}
use Rattle.trace_checker.specs.States.{replacement}
use Rattle.trace_checker.specs.Numbered.{Replaces}
use Rattle.trace_checker.proofs.NumberLemmas.{number_or, gone_replaces, kept_replaces}
use Rattle.trace_checker.proofs.facts.by_number.Goals as goal

pub returns-then-gone-kept : goal.returns-then-gone-kept
returns-then-gone-kept c =
    let gone = c.args.gone in
    let kept = c.args.kept in
    let gone_inner = c.in_ok-gone_inner.gone_inner in
    let kept_inner = c.in_ok-kept_inner.kept_inner in
    let first = c.in_ok-gone_inner.ensures in
    let second = c.in_ok-kept_inner.ensures in
    IfOk-weaker c.replaced.result
    (λ after. HoldTheSame after (map (replaced_fact text_cmp (replacement gone_inner (Number kept_inner))) c.args.rows))
    (λ after. Replaces (replacement gone (Number kept)) c.args.numbers.now c.args.rows c.give-2.new.self after)
    (λ after same. gone_replaces c.args.numbers.now c.give-2.new.self c.requires.own second.own (λ n i e. second.kept n i (first.kept n i e))
    c.args.rows after c.requires.inner gone gone_inner (second.kept gone gone_inner first.given) (unknown (numbered kept_inner))
    (unknown (numbered kept)) (ap (λ n. unknown (numbered n)) (second.own kept kept_inner second.given).1)
    (λ j e. (kept, second.given ∙ ap (λ n. Some n) (ap (number_or kept_inner) e))) same)
    c.replaced.ensures

pub rename-requires-clause-there : goal.rename-requires-clause-there
rename-requires-clause-there c =
    c.in_ok-kept_inner.ensures.kept c.args.gone c.in_ok-gone_inner.gone_inner c.in_ok-gone_inner.ensures.given

pub returns : goal.returns
returns c =
    let gone = c.args.gone in
    let kept = c.args.kept in
    let gone_inner = c.in_ok-gone_inner.gone_inner in
    let kept_inner = c.in_ok-kept_inner.kept_inner in
    let first = c.in_ok-gone_inner.ensures in
    let second = c.in_ok-kept_inner.ensures in
    kept_replaces c.args.numbers.now c.give-2.new.self c.rename.new.self c.requires.own second.own (λ n i e. second.kept n i (first.kept n i e))
    c.args.rows c.in_ok-after.after c.requires.inner gone kept gone_inner kept_inner (second.kept gone gone_inner first.given) second.given
    c.if-gone-kept.false c.in_ok-rename.ensures c.in_ok-after.ensures
