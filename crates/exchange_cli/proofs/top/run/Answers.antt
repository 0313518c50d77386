-- The clauses under the headline follow from the way in which the run ends.
use Rattle.std.proofs.Common.{map, string_bytes}
use Rattle.exchange_cli.specs.Run.{device, seen, Ends}
use Rattle.exchange_cli.specs.Headline.{CompletesClause}
use Rattle.exchange_cli.proofs.HeadlineLemmas.{words_clause, answer_clause, refusal_clause, completes_clause, output_clause, store_clause, status_clause, target_clause, answers_clause, counts_clause, certificate_clause, pieces_clause, snapshot_clause, check_clause}
use Rattle.exchange_cli.proofs.top.run.Goals as goal

pub returns : goal.returns
returns g c =
    let words = map string_bytes c.args.words.now.items in
    let state = seen g.S.Shelf.holds g.S.Shelf.faults g.O.Sink.text g.O.Sink.faults in
    let before = state c.args.shelf.now c.args.out.now in
    let after = state c.work-ending.new.shelf c.work-ending.new.out in
    let err = device (g.E.Sink.text c.args.err.now) (g.E.Sink.faults c.args.err.now) in
    let now = device (g.E.Sink.text c.report.new.err) (g.E.Sink.faults c.report.new.err) in
    let status = c.status.result in
    let one = c.what_is_read_is_one.ensures in
    let only = c.what_is_read_is_not_refused.ensures in
    let ends : Ends words before after err now status = record {
      ending = c.work-ending.result;
      answer = c.status.ensures;
      cause = rw c.as_slice.ensures.value at c.work-ending.ensures.causes;
      line = c.report.ensures;
    } in
    let completes : CompletesClause words before after status = completes_clause one only words before after err now status ends in
    record {
      ends = ends;
      words = words_clause words before after err now status ends;
      untouched = rw c.as_slice.ensures.value at c.work-ending.ensures.untouched;
      answer = answer_clause words before after err now status ends;
      refusals = refusal_clause only c.there_is_one_first_refusal.ensures words before after err now status ends;
      completes = completes;
      output = output_clause words before after err now status ends;
      stores = store_clause words before after err now status ends;
      status = status_clause words before after status completes;
      target = target_clause words before after status completes;
      answers = answers_clause words before after status completes;
      counts = counts_clause words before after status completes;
      certificate = certificate_clause words before after status completes;
      pieces = pieces_clause words before after status completes;
      snapshot = snapshot_clause words before after status completes;
      checks = check_clause words before after status completes;
    }
