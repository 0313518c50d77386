use Rattle.std.proofs.Common.{◌≡◌, [], ℕ, Some, List, Contains, sym, subst}
use Rattle.fact_table.specs.Rows.{SeenRow, row_at}
use Rattle.egd_chase.specs.Search.{ChangeOnly}
use Rattle.egd_chase.proofs.WaitLemmas.{change_from_none, shared_with_none, can_take, parts_after}
use Rattle.egd_chase.proofs.search.Search.make.Given.{Over}
use Rattle.egd_chase.proofs.search.Search.make.Goals as goal
use Rattle.egd_chase.proofs.search.Search.make.Goals.{After-as_slice}

-- all rows are among these
change : (g : Over) (c : After-as_slice g) → ChangeOnly c.as_slice.result.now [] c.args.store.now.rows
change g c =
    change_from_none c.as_slice.result.now c.args.store.now.rows
    (subst (λ (l : List ℕ). (number : ℕ) (row : SeenRow) → row_at c.args.store.now.rows number ≡ Some row → Contains l number)
    (sym c.as_slice.ensures.value) c.in_ok-rows.ensures)

pub add-requires : goal.add-requires
add-requires g c =
    let rows = c.args.store.now.rows in
    let numbers = c.as_slice.result.now in
    can_take [] rows numbers (change g (goal.at.add-requires g c).After-as_slice)
    c.rows_that_lose_times_stay_listed.ensures c.args.egds.now c.in_ok-parts.parts.items c.in_ok-parts.ensures

pub returns-clause-parts : goal.returns-clause-parts
returns-clause-parts g c =
    let rows = c.args.store.now.rows in
    let numbers = c.as_slice.result.now in
    parts_after [] rows numbers (change g (goal.at.returns-clause-parts g c).After-as_slice) (shared_with_none numbers rows) c.args.egds.now
    c.in_ok-parts.parts.items c.add.new.self.parts.items c.in_ok-parts.ensures c.in_ok-add.ensures.taken
