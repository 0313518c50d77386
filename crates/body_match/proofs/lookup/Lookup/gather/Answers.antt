use Rattle.std.proofs.Common.{ℕ, subst}
use Rattle.std.proofs.lemmas.Result.{on_ok_weaker}
use Rattle.body_match.specs.Lookup.{AddsBelow, AddsWithin}
use Rattle.body_match.proofs.ListLemmas.{at_from_contains}
use Rattle.body_match.proofs.TreeLemmas.{all_below}
use Rattle.body_match.proofs.lookup.Lookup.gather.Goals as goal

pub returns-in-Some-clause-sought : goal.returns-in-Some-clause-sought
returns-in-Some-clause-sought c =
    let tree = c.args.self.now in
    let new = c.gather_stretch.new.rows.items in
    on_ok_weaker c.gather_stretch.result
    (λ (h : AddsWithin tree.entries c.in-Some.stretch c.args.probe.now c.args.rows.now.items new). λ entry there s.
    let at = at_from_contains tree.entries entry there in
    h.sought at.0 entry (c.in-Some.ensures.within at.0 entry at.1 s.key) at.1 s) c.gather_stretch.ensures

pub returns-in-None-clause-sought : goal.returns-in-None-clause-sought
returns-in-None-clause-sought c =
    let tree = c.args.self.now in
    let new = c.gather_below.new.rows.items in
    on_ok_weaker c.gather_below.result
    (λ (h : AddsBelow tree c.root.result c.args.probe.now c.args.rows.now.items new). all_below tree c.root.ensures.tree c.args.probe.now c.args.rows.now.items new
    (subst (λ (node : ℕ). AddsBelow tree node c.args.probe.now c.args.rows.now.items new) c.root.ensures.value h)) c.gather_below.ensures

pub returns-in-None-clause-kept : goal.returns-in-None-clause-kept
returns-in-None-clause-kept c =
    let new = c.gather_below.new.rows.items in
    on_ok_weaker c.gather_below.result
    (λ (h : AddsBelow c.args.self.now c.root.result c.args.probe.now c.args.rows.now.items new). h.kept) c.gather_below.ensures
