use Rattle.std.proofs.Common.{◌∙◌, refl, arith}
use Rattle.std.proofs.lemmas.List.{length-set}
use Rattle.row_arena.proofs.ArenaLemmas.{cells_more}
use Rattle.row_arena.proofs.arena.add_cells.Goals as goal

pub loop-column-preserved : goal.loop-column-preserved
loop-column-preserved c =
    let so_far = c.loop-column.invariant in
    let new = c.insert_reserved in
    let few = c.requires.few in
    record {
      adds = cells_more c.args.cells.now.slots c.loop-column.cells.slots new.new.self.slots c.args.row c.args.values.now c.loop-column.ids
          c.loop-column.column new.result _ so_far.adds (omega (arith, so_far.size, few, c.loop-column-test.true)) refl
          new.ensures.was_vacant new.ensures.updates.changed new.ensures.updates.others;
      size = length-set c.loop-column.ids c.loop-column.column new.result ∙ so_far.size;
      len = omega (arith, new.ensures.len, so_far.len);
      capacity = new.ensures.capacity ∙ so_far.capacity;
    }
