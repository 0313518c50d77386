use Rattle.std.proofs.Common.{◌≤◌, ◌-◌, ◌∷◌, ℕ, List, length}
use Rattle.std.specs.Prelude.{IsUtf8}
use Rattle.temporal_csv.specs.Stored.{header_of}
use Rattle.temporal_csv.specs.Table.{AreFacts}
use Rattle.temporal_csv.specs.TableReader.{HasRead}
use Rattle.temporal_csv.proofs.table.read_table.Given as goal

abbrev pub invariant-loop-facts : goal.invariant-loop-facts
invariant-loop-facts l = record {
  text : IsUtf8 l.bytes;
  records : List (List (List ℕ));
  read : HasRead l.bytes (header_of l.columns ∷ records) l.reader;
  each : AreFacts l.columns records l.facts;
  few : length l.facts ≤ 1000000;
}

abbrev pub decreases-loop-facts : goal.decreases-loop-facts
decreases-loop-facts l = 1000000 - length l.facts
