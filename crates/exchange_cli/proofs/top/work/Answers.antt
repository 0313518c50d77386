-- How a run ends, by the step that it comes to.
use Rattle.std.proofs.Common.{map, string_bytes, refl}
use Rattle.exchange_cli.specs.Commands.{command_of}
use Rattle.exchange_cli.specs.Run.{device, moment, IsMadeFor}
use Rattle.exchange_cli.specs.Steps.{read_of}
use Rattle.exchange_cli.proofs.RunLemmas.{stops_early, finishes}
use Rattle.exchange_cli.proofs.top.work.Goals as goal

pub returns-in-Err-clause-causes : goal.returns-in-Err-clause-causes
returns-in-Err-clause-causes g c =
    stops_early (map string_bytes c.args.words.now) (device (g.S.Shelf.holds c.args.shelf.now) (g.S.Shelf.faults c.args.shelf.now))
    (device (g.S.Shelf.holds c.read_inputs.new.shelf) (g.S.Shelf.faults c.read_inputs.new.shelf)) (device
    (g.O.Sink.text c.args.out.now) (g.O.Sink.faults c.args.out.now))
    (command_of c.in-Some.command) c.in-Err.ending c.in-Some.ensures.spelled c.read_inputs.ensures.keeps c.in-Err.ensures.stops

pub returns-in-Ok-make-clause-causes : goal.returns-in-Ok-make-clause-causes
returns-in-Ok-make-clause-causes g c =
    let words = map string_bytes c.args.words.now in
    let before = device (g.S.Shelf.holds c.args.shelf.now) (g.S.Shelf.faults c.args.shelf.now) in
    let middle = device (g.S.Shelf.holds c.read_inputs.new.shelf) (g.S.Shelf.faults c.read_inputs.new.shelf) in
    let after = device (g.S.Shelf.holds c.deliver.new.shelf) (g.S.Shelf.faults c.deliver.new.shelf) in
    let out = device (g.O.Sink.text c.args.out.now) (g.O.Sink.faults c.args.out.now) in
    let printed = device (g.O.Sink.text c.deliver.new.out) (g.O.Sink.faults c.deliver.new.out) in
    let reads = c.in-Ok.ensures.reads in
    let made : IsMadeFor words (moment before out) c.in-Ok-make.product = (
      command_of c.in-Some.command,
      c.in-Some.ensures.spelled,
      reads.0,
      reads.1,
      read_of c.in-Ok.inputs,
      reads.2,
      c.in-Ok-make.ensures,
    ) in
    finishes words before middle after out printed c.in-Ok-make.product c.deliver.result made
    c.read_inputs.ensures.keeps c.deliver.ensures.later c.deliver.ensures.delivers

pub returns-in-Err-make-clause-causes : goal.returns-in-Err-make-clause-causes
returns-in-Err-make-clause-causes g c = (command_of c.in-Some.command, c.in-Some.ensures.spelled, (c.read_inputs.ensures.keeps.same, refl))
