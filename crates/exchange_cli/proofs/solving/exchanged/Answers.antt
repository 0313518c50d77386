-- The promises of the exchange, taken together.
use Rattle.exchange_cli.proofs.OutcomeLemmas.{solved_from, failed_from}
use Rattle.exchange_cli.proofs.solving.exchanged.Goals as goal

pub returns-clause-solved : goal.returns-clause-solved
returns-clause-solved g c =
    let e = c.exchange.ensures in
    solved_from c.args.loaded.now c.exchange.result e.tables e.coalesced e.universal e.within e.nulls e.answers e.counts e.run

pub returns-clause-failed : goal.returns-clause-failed
returns-clause-failed g c =
    let e = c.exchange.ensures in failed_from c.args.loaded.now c.exchange.result e.accepted e.writable
