use Rattle.std.proofs.Common.{inl, rules}
use Rattle.time_line.specs.Span.{IsWithinLimit}
use Rattle.time_line.proofs.SpanLemmas.{IsJoin-from_ends, picked}
use Rattle.time_line.proofs.span.Span.join.Goals as goal

pub invariant_of-result : goal.invariant_of-result
invariant_of-result c =
    let both = IsJoin-from_ends c.args.self.now c.args.other.now c.min.result c.later_stop.result c.requires (search rules) (search rules) in
    let t = c.self.invariant.instant in
    record {
      instant = (t.0, (both t.0).1 (inl (search rules)));
      start = rw c.min.ensures (picked IsWithinLimit _ _ _ c.other.invariant.start c.self.invariant.start);
      stop = rw c.later_stop.ensures (picked IsWithinLimit _ _ _ c.self.invariant.stop c.other.invariant.stop);
    }

pub returns-clause-both : goal.returns-clause-both
returns-clause-both c =
    IsJoin-from_ends c.args.self.now c.args.other.now c.min.result c.later_stop.result c.requires (search rules) (search rules)
