use Rattle.std.proofs.Common.{◌∷◌, [], refl}
use Rattle.body_match.specs.declared.unequal.Unequal.{Unequal}
use Rattle.body_match.specs.Search.{IsFindable, IsListedFrom}
use Rattle.body_match.proofs.UnequalLemmas.{each_kept, none_kept}
use Rattle.body_match.proofs.unequal.unequal_from.Goals as goal

pub returns-clause-each : goal.returns-clause-each
returns-clause-each g c =
    let task = c.args.search.now in
    let left = c.args.wanted.left in
    let right = c.args.wanted.right in
    let old : Unequal = record { alloc = c.args.alloc; left = left; right = right; limit = c.args.limit; list = c.new.result } in
    each_kept (IsListedFrom task (c.args.wanted.row ∷ [])) (IsFindable task) left right old c.visit_from.new.visitor refl refl
    c.new.ensures.items c.in_ok-visit_from.field-0 c.in_ok-visit_from.ensures.gives

pub returns-clause-none : goal.returns-clause-none
returns-clause-none g c =
    let task = c.args.search.now in
    let left = c.args.wanted.left in
    let right = c.args.wanted.right in
    let old : Unequal = record { alloc = c.args.alloc; left = left; right = right; limit = c.args.limit; list = c.new.result } in
    none_kept (IsListedFrom task (c.args.wanted.row ∷ [])) (IsFindable task) left right old c.visit_from.new.visitor refl refl
    c.new.ensures.items c.in_ok-visit_from.field-0 c.in_ok-visit_from.ensures.gives c.in_ok-visit_from.ensures.stops
