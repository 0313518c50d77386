-- Where a store failed, the files before it are stored.
use Rattle.std.proofs.Common.{refl}
use Rattle.exchange_cli.specs.Run.{device}
use Rattle.exchange_cli.proofs.FileLemmas.{stops_up_to}
use Rattle.exchange_cli.proofs.delivery.deliver.Goals as goal

pub returns-in-Err-clause-delivers : goal.returns-in-Err-clause-delivers
returns-in-Err-clause-delivers g c =
    let stops = rw c.as_slice.ensures at c.in-Err.ensures.err in
    let before = device (g.S.Shelf.holds c.args.shelf.now) (g.S.Shelf.faults c.args.shelf.now) in
    let after = device (g.S.Shelf.holds c.store_all.new.shelf) (g.S.Shelf.faults c.store_all.new.shelf) in (
      stops_up_to before after c.args.product.files c.in-Err.at stops.1 c.name_at.result stops.0 stops.2
          (c.name_at.ensures stops.1 stops.2) stops.3,
      refl,
      stops.4,
    )
