use Rattle.std.proofs.Common.{ℤ, Option, Some, None, arith}
use Rattle.std.proofs.lemmas.Int.{ints}
use Rattle.time_line.specs.Span.{IsWithinLimit, IsWithinInstants}
use Rattle.time_line.proofs.NumeralLemmas.{IsEnd-end_text}
use Rattle.time_line.proofs.laws.end_texts_read_back.Goals as goal

IsWithinInstants-from_limit : (end : Option ℤ) → IsWithinLimit end → IsWithinInstants end
IsWithinInstants-from_limit None h = tt
IsWithinInstants-from_limit (Some end) h = (omega (arith, ints), omega (arith, ints))

pub returns-clause-ends : goal.returns-clause-ends
returns-clause-ends c = λ side end h. IsEnd-end_text side end (IsWithinInstants-from_limit end h)

pub returns-clause-instants : goal.returns-clause-instants
returns-clause-instants c = IsEnd-end_text
