-- What is sought in the look-ups so far.
use Rattle.std.proofs.Common.{take}
use Rattle.body_match.specs.Lookup.{HasSought, all_in}
use Rattle.body_match.proofs.register.gather_in.Given as goal

abbrev pub invariant-loop-lookup : goal.invariant-loop-lookup
invariant-loop-lookup l = HasSought (all_in (take l.lookup-index l.lookups)) l.probe l.rows.items
