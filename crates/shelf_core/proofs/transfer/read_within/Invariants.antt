use Rattle.std.proofs.Common.{◌≤◌, vec_len}
use Rattle.std.specs.Io.KnownBytes.{Consumes}
use Rattle.shelf_core.proofs.transfer.read_within.Given as goal

-- the bytes are what was read, and the limit allows them
abbrev pub invariant-loop : goal.invariant-loop
invariant-loop g l = record {
  read : Consumes (g.R.Read.remaining l.fn.reader) (g.R.Read.remaining l.reader) l.bytes.items;
  within : vec_len l.bytes ≤ l.limit;
  piece : 1 ≤ vec_len l.piece;
}
