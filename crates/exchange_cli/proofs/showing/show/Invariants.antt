-- The steps are counted on the new ledger.
use Rattle.exchange_cli.proofs.showing.show.Given as goal

abbrev pub ghosts-exchanged : goal.ghosts-exchanged
ghosts-exchanged a = record { name = a.blank.name; parts = a.blank.parts }
