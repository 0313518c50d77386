use Rattle.time_line.specs.SpanOrder.{span_cmp-total}
use Rattle.time_line.proofs.laws.spans_have_one_order.Goals as goal

pub returns-clause-total : goal.returns-clause-total
returns-clause-total c = span_cmp-total
