use Rattle.std.proofs.Common.{◌≡◌, ◌↔◌, ◌∷◌, [], ℕ, List, Contains, length, sym, ap, ◌∙◌, subst}
use Rattle.std.proofs.lemmas.Result.{on_ok_weaker}
use Rattle.body_match.specs.declared.found.Match.{Match}
use Rattle.body_match.specs.Matches.{IsImageAt, seen_value}
use Rattle.body_match.specs.Search.{Task, IsTask, IsListedFrom, ListsAll, task_of}
use Rattle.body_match.specs.Plans.{task_in}
use Rattle.body_match.specs.Using.{AddsBack}
use Rattle.body_match.proofs.ListLemmas.{zip_length}
use Rattle.body_match.proofs.UsingLemmas.{put_back_same}
use Rattle.body_match.proofs.using.add_from.Given.{Over}
use Rattle.body_match.proofs.using.add_from.Goals as goal
use Rattle.body_match.proofs.using.add_from.Goals.{After-all_from}

-- what was searched for is what the plan says
task_is : (g : Over) (c : After-all_from g) → c.new-search.result ≡ task_in c.args.plan.now (g.F.FactSource.rows c.args.source.now)
task_is g c =
    let rows = g.F.FactSource.rows c.args.source.now in
    c.new-search.ensures
    ∙ (λ i. task_of (c.as_slice-body.ensures i) (c.as_slice-places.ensures.value i) rows (c.as_slice.ensures.value i))

pub new-search-requires : goal.new-search-requires
new-search-requires g c =
    let rows = g.F.FactSource.rows c.args.source.now in
    subst IsTask (λ i. task_of (sym c.as_slice-body.ensures i) (sym c.as_slice-places.ensures.value i) rows (sym c.as_slice.ensures.value i))
    c.requires.search.task

pub all_from-requires-clause-lists : goal.all_from-requires-clause-lists
all_from-requires-clause-lists g c =
    let rows = g.F.FactSource.rows c.args.source.now in
    subst ListsAll (sym c.new-search.ensures)
    (subst ListsAll (λ i. task_of (sym c.as_slice-body.ensures i) (sym c.as_slice-places.ensures.value i) rows (sym c.as_slice.ensures.value i))
    c.requires.lists)

pub add_back-requires-clause-sizes : goal.add_back-requires-clause-sizes
add_back-requires-clause-sizes g c = λ m there.
    let rows = g.F.FactSource.rows c.args.source.now in
    let so = (c.in_ok-found.ensures m).0 there in
    let whole = (subst (λ (t : Task). IsListedFrom t (c.args.row ∷ []) m)
    (task_is g (goal.at.add_back-requires-clause-sizes g c).After-all_from) so).0 in
    sym (zip_length (IsImageAt rows (seen_value m.binding)) c.args.plan.now.body m.rows whole.images)
    ∙ sym c.requires.search.size ∙ ap (λ (l : List ℕ). length l) (sym c.as_slice-2.ensures.value)

pub returns : goal.returns
returns g c =
    let rows = g.F.FactSource.rows c.args.source.now in
    let found : List Match = c.in_ok-found.found.items in
    let old : List Match = c.args.list.now.items in
    let new : List Match = c.add_back.new.list.items in
    on_ok_weaker c.add_back.result
    (λ (h : AddsBack c.as_slice-2.result.now (Contains found) old new).
    put_back_same c.args.plan.now.order.items (Contains found) (IsListedFrom (task_in c.args.plan.now rows) (c.args.row ∷ [])) old new
    (λ m. subst (λ (t : Task). Contains found m ↔ IsListedFrom t (c.args.row ∷ []) m) (task_is g (goal.at.returns g c).After-all_from)
    (c.in_ok-found.ensures m))
    (subst (λ (l : List ℕ). AddsBack l (Contains found) old new) c.as_slice-2.ensures.value h)) c.add_back.ensures
