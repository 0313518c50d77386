-- The files so far are stored.
use Rattle.std.proofs.Common.{◌≤◌, take}
use Rattle.exchange_cli.specs.Run.{device, Stores}
use Rattle.exchange_cli.proofs.delivery.store_all.Given as goal

abbrev pub invariant-loop-at : goal.invariant-loop-at
invariant-loop-at g l =
    let holds = g.S.Shelf.holds in
    let faults = g.S.Shelf.faults in
    record {
      stored : Stores (device (holds l.fn.shelf) (faults l.fn.shelf)) (device (holds l.shelf) (faults l.shelf)) (take l.at l.files);
      later : faults l.fn.shelf ≤ faults l.shelf;
    }
