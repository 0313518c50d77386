use Rattle.std.proofs.Common.{rules}
use Rattle.time_line.specs.Span.{IsWithinLimit}
use Rattle.time_line.proofs.SpanLemmas.{HasInstant-from_ordered, AreOrdered-from_has, IsSpan-from_ordered, IsMeet-from_ends, picked}
use Rattle.time_line.proofs.span.Span.meet.Goals as goal

pub invariant_of-result : goal.invariant_of-result
invariant_of-result c =
    IsSpan-from_ordered _ _ (rw c.max-lo.ensures (picked IsWithinLimit _ _ _ c.self.invariant.start c.other.invariant.start))
    (rw c.earlier_stop-hi.ensures (picked IsWithinLimit _ _ _ c.other.invariant.stop c.self.invariant.stop))
    (search rules)

pub returns-then-are_ordered-clause-common : goal.returns-then-are_ordered-clause-common
returns-then-are_ordered-clause-common c =
    IsMeet-from_ends c.args.self.now c.args.other.now c.max-lo.result c.earlier_stop-hi.result (search rules) (search rules)

pub returns-then-are_ordered-clause-meets : goal.returns-then-are_ordered-clause-meets
returns-then-are_ordered-clause-meets c =
    let common = IsMeet-from_ends c.args.self.now c.args.other.now c.max-lo.result c.earlier_stop-hi.result (search rules) (search rules) in
    let t = HasInstant-from_ordered c.max-lo.result c.earlier_stop-hi.result (search rules) in
    let both = (common t.0).0 t.1 in
    (t.0, both.0, both.1)

pub returns-else-are_ordered-clause-apart : goal.returns-else-are_ordered-clause-apart
returns-else-are_ordered-clause-apart c = λ t a b.
    let common = IsMeet-from_ends c.args.self.now c.args.other.now c.max-lo.result c.earlier_stop-hi.result (search rules) (search rules) in
    let both = (common t).1 (a, b) in
    let ordered = AreOrdered-from_has c.max-lo.result c.earlier_stop-hi.result t both.0 both.1 in
    search rules
