-- The steps are counted on the new ledger.
use Rattle.exchange_cli.proofs.cutting.cut.Given as goal

abbrev pub ghosts-normalised : goal.ghosts-normalised
ghosts-normalised a = record { name = a.blank.name; parts = a.blank.parts }
