use Rattle.std.proofs.Common.{◌≡◌, take}
use Rattle.exchange_cli.proofs.storing.header_texts.Given as goal

abbrev pub invariant-loop-column : goal.invariant-loop-column
invariant-loop-column l = l.header ≡ take l.column-index l.columns
