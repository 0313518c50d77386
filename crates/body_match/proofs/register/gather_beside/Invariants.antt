-- What is sought among the entries so far.
use Rattle.std.proofs.Common.{take}
use Rattle.body_match.specs.Lookup.{HasSought, Keeps}
use Rattle.body_match.proofs.register.gather_beside.Given as goal

abbrev pub invariant-loop-entry : goal.invariant-loop-entry
invariant-loop-entry l = record {
  sought : HasSought (take l.entry-index l.entries) l.probe l.rows.items;
  kept : Keeps l.fn.rows.items l.rows.items;
}
