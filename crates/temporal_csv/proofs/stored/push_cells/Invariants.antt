use Rattle.std.proofs.Common.{◌≡◌, ◌++◌, [], map, take}
use Rattle.std.specs.Prelude.{All}
use Rattle.csv.specs.Records.{fields_of, partial_of}
use Rattle.temporal_csv.specs.Stored.{cell_text}
use Rattle.temporal_csv.specs.TableWriter.{FitsWord, row_in}
use Rattle.temporal_csv.proofs.stored.push_cells.Given as goal

abbrev pub invariant-loop-column : goal.invariant-loop-column
invariant-loop-column g l =
    let cells = (row_in (g.R.RowSource.rows l.rows) l.row).cells in record {
      all : fields_of l.scratch.fields ≡ fields_of l.fn.scratch.fields ++ map cell_text (take l.column cells);
      whole : partial_of l.scratch.fields ≡ [];
      fits : All FitsWord (take l.column cells);
    }
