use Rattle.std.proofs.Common.{◌≡◌, ◌<◌, ℕ, List, [], Option, length, sym, ◌∙◌, subst, arith, Contains}
use Rattle.std.specs.Prelude.{IfSome, IfNone}
use Rattle.std.proofs.lemmas.List.{append-nil}
use Rattle.std.proofs.lemmas.Result.{IfOk-weaker}
use Rattle.body_match.specs.declared.found.Match.{Match}
use Rattle.body_match.specs.Search.{Task, IsListedFrom, task_of}
use Rattle.body_match.specs.Plans.{HasRows, IsOrdered, task_in}
use Rattle.body_match.proofs.PlanLemmas.{order_below, ordered_size}
use Rattle.body_match.proofs.ExactLemmas.{ordered_same}
use Rattle.body_match.proofs.LeafLemmas.{whole_rows}
use Rattle.body_match.proofs.UnequalLemmas.{none_weaker, some_weaker}
use Rattle.body_match.proofs.exact.match_in.Given.{Over}
use Rattle.body_match.proofs.exact.match_in.Goals as goal
use Rattle.body_match.proofs.exact.match_in.Goals.{After-new-search}

-- what was searched for is what the plan says
task_is : (g : Over) (c : After-new-search g) → c.new-search.result ≡ task_in c.args.plan.now (g.F.FactSource.rows c.args.source.now)
task_is g c =
    let rows = g.F.FactSource.rows c.args.source.now in
    c.new-search.ensures
    ∙ (λ i. task_of (c.as_slice-body.ensures i) (c.as_slice-places.ensures.value i) rows (c.as_slice-2.ensures.value i))

-- the rows in the order of the plan
in_order : (g : Over) (c : After-new-search g) → IsOrdered c.args.rows.now c.args.plan.now.order.items c.in_ok-chosen.chosen.items
in_order g c =
    subst (λ (l : List ℕ). IsOrdered c.args.rows.now l c.in_ok-chosen.chosen.items) c.as_slice.ensures.value c.in_ok-chosen.ensures

as_long : (g : Over) (c : After-new-search g) → length c.in_ok-chosen.chosen.items ≡ length c.args.plan.now.body
as_long g c = ordered_size c.args.rows.now c.args.plan.now.order.items c.in_ok-chosen.chosen.items (in_order g c) ∙ c.requires.search.size

pub rows_in-requires : goal.rows_in-requires
rows_in-requires g c = λ place there.
    let order : List ℕ = c.args.plan.now.order.items in
    let below : place < length order =
    order_below (length order) order c.requires.search.order place (subst (λ (l : List ℕ). Contains l place) c.as_slice.ensures.value there) in
    omega (arith, below, c.requires.size)

pub returns-clause-some : goal.returns-clause-some
returns-clause-some g c =
    let rows = g.F.FactSource.rows c.args.source.now in
    let plan = c.args.plan.now in
    let chosen : List ℕ = c.in_ok-chosen.chosen.items in
    let at = (goal.at.returns-clause-some g c).After-new-search in
    IfOk-weaker c.match_of.result (λ (o : Option Match). IfSome o (IsListedFrom c.new-search.result chosen))
    (λ (o : Option Match). IfSome o (HasRows plan rows c.args.rows.now))
    (some_weaker (IsListedFrom c.new-search.result chosen) (HasRows plan rows c.args.rows.now) (λ m h.
    let listed = subst (λ (t : Task). IsListedFrom t chosen m) (task_is g at) h in
    record {
      match = listed.0;
      rows = subst (IsOrdered c.args.rows.now plan.order.items)
          (whole_rows plan.body (length plan.places.items) rows chosen m listed.0 listed.1 (as_long g at)) (in_order g at);
    }))
    c.match_of.ensures.some

pub returns-clause-none : goal.returns-clause-none
returns-clause-none g c =
    let rows = g.F.FactSource.rows c.args.source.now in
    let plan = c.args.plan.now in
    let chosen : List ℕ = c.in_ok-chosen.chosen.items in
    let at = (goal.at.returns-clause-none g c).After-new-search in
    let None_listed : Type 0 = (m : Match) → ¬ (IsListedFrom c.new-search.result chosen m) in
    let None_has : Type 0 = (m : Match) → ¬ (HasRows plan rows c.args.rows.now m) in
    IfOk-weaker c.match_of.result (λ (o : Option Match). IfNone o None_listed) (λ (o : Option Match). IfNone o None_has)
    (none_weaker None_listed None_has (λ none m h.
    let same = ordered_same c.args.rows.now plan.order.items m.rows chosen h.rows (in_order g at) in
    none m (subst (λ (t : Task). IsListedFrom t chosen m) (sym (task_is g at)) (h.match, ([], same ∙ sym (append-nil chosen))))))
    c.match_of.ensures.none
