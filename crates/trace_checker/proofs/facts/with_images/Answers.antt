use Rattle.std.proofs.Common.{◌++◌, length, map, sym, subst}
use Rattle.std.proofs.lemmas.List.{take_all, append-nil}
use Rattle.rule_core.specs.Match.{image}
use Rattle.rule_core.specs.Renaming.{HoldTheSame}
use Rattle.failure_trace.specs.Equating.{bound_to}
use Rattle.failure_trace.specs.Trace.{terms_in}
use Rattle.failure_trace.specs.Projected.{pool_text}
use Rattle.trace_checker.specs.Names.{IsKnown}
use Rattle.trace_checker.proofs.FactLemmas.{holds_more}
use Rattle.trace_checker.proofs.facts.with_images.Goals as goal

pub loop-atom-init : goal.loop-atom-init
loop-atom-init c = λ fact. subst (λ l. HoldTheSame c.args.facts l) (sym (append-nil c.args.facts)) (λ fact. (λ h. h, λ h. h)) fact

pub loop-atom-preserved : goal.loop-atom-preserved
loop-atom-preserved c =
    let g = image (pool_text c.args.pool.now) (bound_to (terms_in c.args.binding.now)) in
    holds_more g c.args.atoms.now c.loop-atom.atom-index c.atom-item.result c.loop-atom-test.true c.atom-item.is c.args.facts
    c.loop-atom.after c.in_ok-after.after _ c.in_ok-image_row.ensures c.loop-atom.invariant c.in_ok-after.ensures

pub returns : goal.returns
returns c =
    let g = image (pool_text c.args.pool.now) (bound_to (terms_in c.args.binding.now)) in
    subst (λ l. HoldTheSame c.loop-atom.after (c.args.facts ++ map g l)) (take_all c.loop-atom.atom-index c.args.atoms.now c.loop-atom-test.false)
    c.loop-atom.invariant

pub image_row-requires : goal.image_row-requires
image_row-requires c =
    subst (IsKnown c.args.pool.now (length c.args.binding.now)) (sym c.atom-item.is)
    (c.requires c.loop-atom.atom-index c.atom-item.result c.loop-atom-test.true)
