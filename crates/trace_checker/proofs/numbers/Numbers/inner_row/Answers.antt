use Rattle.std.proofs.Common.{◌∙◌, map, ap, sym}
use Rattle.std.proofs.lemmas.List.{take_all}
use Rattle.rule_core.specs.Homomorphism.{term_image}
use Rattle.trace_checker.specs.declared.name.Name.{Name}
use Rattle.trace_checker.specs.Names.{term_named}
use Rattle.trace_checker.specs.Numbered.{other_number, inward}
use Rattle.trace_checker.proofs.NameLemmas.{map_pushed_at, map_twice}
use Rattle.trace_checker.proofs.numbers.Numbers.inner_row.Goals as goal

pub loop-name-preserved : goal.loop-name-preserved
loop-name-preserved c =
    let g = λ (n : Name). term_image (other_number (inward c.args.self.now)) (term_named n) in
    map_pushed_at term_named g c.as_slice-before.result.now c.loop-name.name-index _ c.loop-name-test.true
    c.loop-name.names.items c.push.new.self.items c.inner_name.result c.loop-name.invariant c.in_ok-push.ensures.items c.inner_name.ensures

pub returns : goal.returns
returns c =
    let g = λ (n : Name). term_image (other_number (inward c.args.self.now)) (term_named n) in
    let terms = c.loop-name.invariant ∙ ap (map g) (take_all c.loop-name.name-index c.as_slice-before.result.now c.loop-name-test.false ∙ c.as_slice-before.ensures.value)
    ∙ sym (map_twice (term_image (other_number (inward c.args.self.now))) term_named c.args.row.now.names.items) in
    λ i. record { relation = c.args.row.now.relation; terms = terms i }
