use Rattle.std.proofs.Common.{◌≡◌, ◌<◌, ℕ, List, Option, Some, length, refl, sym, ap, ◌∙◌, subst, arith}
use Rattle.std.specs.Prelude.{IfSome, IfNone, slice_get}
use Rattle.std.proofs.lemmas.Option.{slice_get_read}
use Rattle.std.proofs.lemmas.Result.{IfOk-weaker}
use Rattle.body_match.specs.declared.found.Match.{Match}
use Rattle.body_match.specs.declared.plan.Plan.{Plan}
use Rattle.body_match.specs.Equality.{Equality}
use Rattle.body_match.specs.Index.{IsUnequalWith}
use Rattle.body_match.specs.Plans.{HasRows, IsUnequalIn}
use Rattle.body_match.specs.Unequal.{Differ}
use Rattle.body_match.proofs.IndexLemmas.{can_search_each}
use Rattle.body_match.proofs.UnequalLemmas.{none_weaker, some_weaker}
use Rattle.body_match.proofs.ExactLemmas.{as_many, none_of_none, none_with, order_long, with_from_plan}
use Rattle.body_match.proofs.equality.EqualityIndex.unequal_with.Given.{Over}
use Rattle.body_match.proofs.equality.EqualityIndex.unequal_with.Goals as goal
use Rattle.body_match.proofs.equality.EqualityIndex.unequal_with.Goals.{After-index-plans-0}

-- the plan that begins with the first atom
first_plan : (g : Over) (c : After-index-plans-0 g) → slice_get c.args.self.now.index.plans 0 ≡ Some c.index-plans-0.result
first_plan g c =
    let plans : List Plan = c.plans-plans.result.now in
    let within : 0 < length plans = omega (arith, c.if-count-eq0.false) in
    ap (λ (l : List Plan). slice_get l 0) (sym c.plans-plans.ensures.value)
    ∙ slice_get_read plans (length plans) 0 c.index-plans-0.result refl within c.index-plans-0.is

-- there are as many rows as the plan has atoms
as_long : (g : Over) (c : After-index-plans-0 g) → length c.args.rows.now ≡ length c.index-plans-0.result.order.items
as_long g c =
    let e : Equality = c.args.self.now in
    let long = order_long e.index c.plans-plans.ensures.index (g.F.FactSource.rows c.args.source.now) e.left e.right c.args.rows.now 0
    c.index-plans-0.result (first_plan g c) in
    omega (arith, long, c.if-rows-count.false, ap (λ (l : List Plan). length l) c.plans-plans.ensures.value)

pub returns-then-rows-count-clause-none : goal.returns-then-rows-count-clause-none
returns-then-rows-count-clause-none g c = λ m h.
    let e : Equality = c.args.self.now in
    let many = as_many e.index c.plans-plans.ensures.index (g.F.FactSource.rows c.args.source.now) e.left e.right c.args.rows.now m h in
    omega (arith, c.if-rows-count.true, many, ap (λ (l : List Plan). length l) c.plans-plans.ensures.value)

pub returns-then-count-eq0-clause-none : goal.returns-then-count-eq0-clause-none
returns-then-count-eq0-clause-none g c =
    let e : Equality = c.args.self.now in
    let empty : length e.index.plans ≡ 0 = omega (arith, c.if-count-eq0.true, ap (λ (l : List Plan). length l) c.plans-plans.ensures.value) in
    none_of_none e.index c.plans-plans.ensures.index (g.F.FactSource.rows c.args.source.now) e.left e.right c.args.rows.now empty

pub unequal_match-requires-clause-search : goal.unequal_match-requires-clause-search
unequal_match-requires-clause-search g c =
    can_search_each c.args.self.now.index c.plans-plans.ensures.index (g.F.FactSource.rows c.args.source.now) 0 c.index-plans-0.result
    (first_plan g (goal.at.unequal_match-requires-clause-search g c).After-index-plans-0)

pub unequal_match-requires-clause-size : goal.unequal_match-requires-clause-size
unequal_match-requires-clause-size g c = as_long g (goal.at.unequal_match-requires-clause-size g c).After-index-plans-0

pub returns-clause-some : goal.returns-clause-some
returns-clause-some g c =
    let e : Equality = c.args.self.now in
    let rows = g.F.FactSource.rows c.args.source.now in
    let plan : Plan = c.index-plans-0.result in
    let at = (goal.at.returns-clause-some g c).After-index-plans-0 in
    let In : ℕ → ℕ → Match → Type 0 = λ left right. IsUnequalIn plan rows c.args.rows.now left right in
    IfOk-weaker c.unequal_match.result (λ (o : Option Match). IfSome o (In c.self.inside.left c.self.inside.right))
    (λ (o : Option Match). IfSome o (IsUnequalWith e.index rows e.left e.right c.args.rows.now))
    (some_weaker (In c.self.inside.left c.self.inside.right) (IsUnequalWith e.index rows e.left e.right c.args.rows.now)
    (λ m h. with_from_plan e.index c.plans-plans.ensures.index rows e.left e.right c.args.rows.now 0 plan (first_plan g at) (as_long g at) m
    (subst (λ (x : Equality). In x.left x.right m) c.self.view_is h)))
    c.unequal_match.ensures.some

pub returns-clause-none : goal.returns-clause-none
returns-clause-none g c =
    let e : Equality = c.args.self.now in
    let rows = g.F.FactSource.rows c.args.source.now in
    let plan : Plan = c.index-plans-0.result in
    let at = (goal.at.returns-clause-none g c).After-index-plans-0 in
    let None_in : ℕ → ℕ → Type 0 = λ left right. (m : Match) → HasRows plan rows c.args.rows.now m → ¬ (Differ left right m) in
    let None_with : Type 0 = (m : Match) → ¬ (IsUnequalWith e.index rows e.left e.right c.args.rows.now m) in
    IfOk-weaker c.unequal_match.result (λ (o : Option Match). IfNone o (None_in c.self.inside.left c.self.inside.right))
    (λ (o : Option Match). IfNone o None_with)
    (none_weaker (None_in c.self.inside.left c.self.inside.right) None_with
    (λ none. none_with e.index c.plans-plans.ensures.index rows e.left e.right c.args.rows.now 0 plan (first_plan g at)
    (subst (λ (x : Equality). None_in x.left x.right) c.self.view_is none)))
    c.unequal_match.ensures.none
