use Rattle.std.proofs.Common.{◌≡◌, ◌∷◌, [], ℕ, List, Contains, length, sym, ap, ◌∙◌, subst}
use Rattle.std.proofs.lemmas.Result.{on_ok_weaker}
use Rattle.body_match.specs.declared.found.Match.{Match}
use Rattle.body_match.specs.Matches.{IsImageAt, seen_value}
use Rattle.body_match.specs.Search.{Task, IsFindable, IsListedFrom, task_of}
use Rattle.body_match.specs.Plans.{HasNone, task_in}
use Rattle.body_match.specs.Unequal.{Differ}
use Rattle.body_match.specs.Using.{AddsBack}
use Rattle.body_match.proofs.ListLemmas.{zip_length}
use Rattle.body_match.proofs.UnequalLemmas.{each_added, none_added}
use Rattle.body_match.proofs.unequal.add_unequal.Given.{Over}
use Rattle.body_match.proofs.unequal.add_unequal.Goals as goal
use Rattle.body_match.proofs.unequal.add_unequal.Goals.{In_ok-found}

-- what was searched for is what the plan says
task_is : (g : Over) (c : In_ok-found g) → c.new-search.result ≡ task_in c.args.plan.now (g.F.FactSource.rows c.args.source.now)
task_is g c =
    let rows = g.F.FactSource.rows c.args.source.now in
    c.new-search.ensures
    ∙ (λ i. task_of (c.as_slice-body.ensures i) (c.as_slice-places.ensures.value i) rows (c.as_slice.ensures.value i))

-- what was found
are_found : (g : Over) (c : In_ok-found g) (m : Match) → Contains c.in_ok-found.found.items m
    → IsListedFrom (task_in c.args.plan.now (g.F.FactSource.rows c.args.source.now)) (c.args.wanted.row ∷ []) m
    × Differ c.args.wanted.left c.args.wanted.right m
are_found g c m there =
    let h = c.in_ok-found.ensures.each m there in
    (subst (λ (t : Task). IsListedFrom t (c.args.wanted.row ∷ []) m) (task_is g c) h.0, h.1)

none_found : (g : Over) (c : In_ok-found g) → c.in_ok-found.found.items ≡ []
    → HasNone c.args.plan.now (g.F.FactSource.rows c.args.source.now) c.args.wanted.row c.args.wanted.left c.args.wanted.right
none_found g c none =
    subst (λ (t : Task). (m : Match) → IsListedFrom t (c.args.wanted.row ∷ []) m → IsFindable t m
    → ¬ (Differ c.args.wanted.left c.args.wanted.right m)) (task_is g c) (c.in_ok-found.ensures.none none)

pub add_back-requires-clause-sizes : goal.add_back-requires-clause-sizes
add_back-requires-clause-sizes g c = λ m there.
    let rows = g.F.FactSource.rows c.args.source.now in
    let whole = (are_found g (goal.at.add_back-requires-clause-sizes g c).In_ok-found m there).0.0 in
    sym (zip_length (IsImageAt rows (seen_value m.binding)) c.args.plan.now.body m.rows whole.images)
    ∙ sym c.requires.search.size ∙ ap (λ (l : List ℕ). length l) (sym c.as_slice-2.ensures.value)

pub returns-clause-each : goal.returns-clause-each
returns-clause-each g c =
    let found : List Match = c.in_ok-found.found.items in
    let old : List Match = c.args.list.now.items in
    let new : List Match = c.add_back.new.list.items in
    on_ok_weaker c.add_back.result
    (λ (h : AddsBack c.as_slice-2.result.now (Contains found) old new).
    each_added c.args.plan.now (g.F.FactSource.rows c.args.source.now) c.args.wanted.row c.args.wanted.left c.args.wanted.right found old new
    (subst (λ (l : List ℕ). AddsBack l (Contains found) old new) c.as_slice-2.ensures.value h)
    (are_found g (goal.at.returns-clause-each g c).In_ok-found)) c.add_back.ensures

pub returns-clause-none : goal.returns-clause-none
returns-clause-none g c =
    let found : List Match = c.in_ok-found.found.items in
    let old : List Match = c.args.list.now.items in
    let new : List Match = c.add_back.new.list.items in
    on_ok_weaker c.add_back.result
    (λ (h : AddsBack c.as_slice-2.result.now (Contains found) old new).
    none_added c.args.plan.now (g.F.FactSource.rows c.args.source.now) c.args.wanted.row c.args.wanted.left c.args.wanted.right found old new
    (subst (λ (l : List ℕ). AddsBack l (Contains found) old new) c.as_slice-2.ensures.value h)
    (none_found g (goal.at.returns-clause-none g c).In_ok-found)) c.add_back.ensures
