use Rattle.time_line.proofs.SpanLemmas.{HasInstant-from_ordered, AreOrdered-from_has}
use Rattle.time_line.proofs.laws.ordered_ends_have_an_instant.Goals as goal

pub returns : goal.returns
returns c = λ s. (λ h. AreOrdered-from_has s.lo s.hi h.0 h.1.0 h.1.1, HasInstant-from_ordered s.lo s.hi)
