use Rattle.std.proofs.Common.{◌∙◌, map, ap, sym}
use Rattle.std.proofs.lemmas.List.{take_all}
use Rattle.rule_core.specs.Homomorphism.{term_image}
use Rattle.failure_trace.specs.Equating.{becomes}
use Rattle.failure_trace.specs.TraceRun.{text_cmp}
use Rattle.trace_checker.specs.declared.name.Name.{Name}
use Rattle.trace_checker.specs.Names.{term_named}
use Rattle.trace_checker.specs.States.{replacement}
use Rattle.trace_checker.proofs.NameLemmas.{map_pushed_at, map_twice}
use Rattle.trace_checker.proofs.row.replaced_row.Goals as goal

pub loop-name-preserved : goal.loop-name-preserved
loop-name-preserved c =
    let g = λ (n : Name). term_image (becomes text_cmp (replacement c.args.gone c.args.by)) (term_named n) in
    map_pushed_at term_named g c.as_slice-before.result.now c.loop-name.name-index _ c.loop-name-test.true
    c.loop-name.names.items c.push.new.self.items c.replaced_name.result c.loop-name.invariant c.in_ok-push.ensures.items c.replaced_name.ensures

pub returns : goal.returns
returns c =
    let g = λ (n : Name). term_image (becomes text_cmp (replacement c.args.gone c.args.by)) (term_named n) in
    let terms = c.loop-name.invariant ∙ ap (map g) (take_all c.loop-name.name-index c.as_slice-before.result.now c.loop-name-test.false ∙ c.as_slice-before.ensures.value)
    ∙ sym (map_twice (term_image (becomes text_cmp (replacement c.args.gone c.args.by))) term_named c.args.row.now.names.items) in
    λ i. record { relation = c.args.row.now.relation; terms = terms i }
