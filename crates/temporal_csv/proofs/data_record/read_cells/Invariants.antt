use Rattle.std.proofs.Common.{◌≡◌, take}
use Rattle.std.specs.Prelude.{All, IsUtf8}
use Rattle.csv.specs.Records.{fields_of}
use Rattle.temporal_csv.proofs.data_record.read_cells.Given as goal

abbrev pub invariant-loop-i : goal.invariant-loop-i
invariant-loop-i l = record {
  cells : l.cells ≡ take l.i (fields_of l.fields);
  text : All IsUtf8 (take l.i (fields_of l.fields));
}
