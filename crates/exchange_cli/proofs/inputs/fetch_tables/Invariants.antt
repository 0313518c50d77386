-- The tables so far are read, within what is left of the limit.
use Rattle.std.proofs.Common.{drop, take}
use Rattle.exchange_cli.specs.Run.{device}
use Rattle.exchange_cli.specs.Steps.{Keeps}
use Rattle.exchange_cli.proofs.SizeLemmas.{AreRead}
use Rattle.exchange_cli.proofs.StepLemmas.{GoesOnIn}
use Rattle.exchange_cli.proofs.inputs.fetch_tables.Given as goal

abbrev pub invariant-loop-relation : goal.invariant-loop-relation
invariant-loop-relation g l =
    let holds = g.S.Shelf.holds in
    let faults = g.S.Shelf.faults in
    record {
      keeps : Keeps (device (holds l.fn.shelf) (faults l.fn.shelf)) (device (holds l.shelf) (faults l.shelf));
      goes_on : GoesOnIn (holds l.fn.shelf) l.source l.mapping.rules.sources
          (drop l.relation-index l.mapping.rules.sources) l.tables l.left;
      read : AreRead (take l.relation-index l.mapping.rules.sources) l.tables;
    }
