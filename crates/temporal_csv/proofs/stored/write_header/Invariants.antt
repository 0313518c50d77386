use Rattle.std.proofs.Common.{◌≡◌, [], take}
use Rattle.csv.specs.Records.{fields_of, partial_of}
use Rattle.temporal_csv.proofs.stored.write_header.Given as goal

abbrev pub invariant-loop-text : goal.invariant-loop-text
invariant-loop-text l = (fields_of l.fields ≡ take l.text-index l.header) × (partial_of l.fields ≡ [])
