-- The line leads through the atoms so far.
use Rattle.std.proofs.Common.{◌≤◌, ◌-◌, [], length}
use Rattle.rule_text.specs.Frames.{said_of, LeadsIn}
use Rattle.rule_text.specs.RuleLine.{wants_atom}
use Rattle.rule_text.proofs.atoms.read_atoms.Given as goal

abbrev pub invariant-loop-read : goal.invariant-loop-read
invariant-loop-read l = record {
  within : l.read.end ≤ length l.bytes;
  leads : LeadsIn l.rules l.pool l.bytes l.part l.fn.from (λ f. wants_atom f (said_of l.fn.vars []))
      l.read.end (λ f. wants_atom f (said_of l.read.vars l.read.list));
}

abbrev pub decreases-loop-read : goal.decreases-loop-read
decreases-loop-read l = 9 - length l.read.list
