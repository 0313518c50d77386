use Rattle.std.proofs.Common.{◌↔◌, ℤ, List, ℕ, Option, Some, None, rules}
use Rattle.std.specs.Prelude.{IfErr, IsSome}
use Rattle.std.specs.Option.{ok_or}
use Rattle.time_line.specs.Span.{Ends, AreOrdered, HasInstant, IsSpan}
use Rattle.time_line.specs.declared.text.Side.TheVariants.{Start, End}
use Rattle.temporal_csv.specs.Table.{IsEndText, HasSpanFault}
use Rattle.temporal_csv.specs.declared.fault.TableCode.TheVariants.{C6}
use Rattle.temporal_csv.proofs.data_record.read_span.Goals as goal

-- ends of which no span was made are not in order
not_ordered : (start stop : List ℕ) (lo hi : Option ℤ) (span : Option Ends) → IsEndText Start start lo → IsEndText End stop hi
    → (IsSome span ↔ IsSpan (record { lo = lo; hi = hi })) → ((s : Ends) → HasInstant s ↔ AreOrdered s.lo s.hi)
    → IfErr (ok_or span C6) (HasSpanFault start stop)
not_ordered start stop lo hi (Some s) a b made law = tt
not_ordered start stop lo hi None a b made law = (
  lo,
  hi,
  a,
  b,
  λ ordered.
      absurd (let e = made.1 (record { instant = (law (record { lo = lo; hi = hi })).1 ordered; start = a.1; stop = b.1 }) in cc e),
)

pub returns-clause-fault : goal.returns-clause-fault
returns-clause-fault c =
    let lo : IsEndText Start c.args.start.now c.in_ok-lo.lo = search rules in
    let hi : IsEndText End c.args.stop.now c.in_ok-hi.hi = search rules in
    rw c.ok_or-3.ensures.value (not_ordered _ _ _ _ c.make.result lo hi c.make.ensures.none_only c.ordered_ends_have_an_instant.ensures)
