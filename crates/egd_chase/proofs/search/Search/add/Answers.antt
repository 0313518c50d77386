use Rattle.std.proofs.Common.{◌≡◌, ◌<◌, Some, List, length, refl, arith}
use Rattle.std.specs.Prelude.{slice_get}
use Rattle.std.proofs.lemmas.Option.{slice_get_read}
use Rattle.egd_chase.specs.declared.search.Part.{Part}
use Rattle.egd_chase.proofs.IndexLemmas.{can_take_at, one_part_takes, all_have_taken}
use Rattle.egd_chase.proofs.search.Search.add.Given.{Over}
use Rattle.egd_chase.proofs.search.Search.add.Goals as goal
use Rattle.egd_chase.proofs.search.Search.add.Goals.{After-index_mut}

-- the part at the place
part_is : (g : Over) (c : After-index_mut g) → slice_get c.loop-at.self.parts.items c.loop-at.at ≡ Some c.index_mut.result.now
part_is g c =
    let now : List Part = c.loop-at.self.parts.items in
    let size = c.loop-at.invariant.taken.size in
    let l : c.loop-at.at < length now =
    omega (arith, size, c.loop-at-test.true, c.len-at-end.ensures, c.args.self.now.parts.ok) in
    slice_get_read now (length now) c.loop-at.at c.index_mut.result.now refl l c.index_mut.ensures.value

pub take-requires : goal.take-requires
take-requires g c =
    can_take_at c.args.store.now.rows c.args.rows.now c.args.self.now.parts.items c.loop-at.self.parts.items c.loop-at.at
    c.loop-at.invariant.taken c.index_mut.result.now (part_is g (goal.at.take-requires g c).After-index_mut) c.requires

pub loop-at-preserved : goal.loop-at-preserved
loop-at-preserved g c = record {
  taken = one_part_takes c.args.store.now.rows c.args.rows.now c.args.self.now.parts.items c.loop-at.self.parts.items c.loop-at.at
      c.loop-at.invariant.taken c.index_mut.result.now c.take.new.self (part_is g (goal.at.loop-at-preserved g c).After-index_mut)
      c.in_ok-take.ensures;
  limit = c.loop-at.invariant.limit;
}

pub returns-clause-taken : goal.returns-clause-taken
returns-clause-taken g c =
    all_have_taken c.args.store.now.rows c.args.rows.now c.args.self.now.parts.items c.loop-at.self.parts.items c.loop-at.at
    c.loop-at.invariant.taken (omega (arith, c.loop-at-test.false, c.len-at-end.ensures, c.args.self.now.parts.ok))
