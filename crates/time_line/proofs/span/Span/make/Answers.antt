use Rattle.std.proofs.Common.{refl, rules}
use Rattle.time_line.proofs.SpanLemmas.{IsSpan-from_ordered}
use Rattle.time_line.proofs.span.Span.make.Goals as goal

pub invariant_of-result : goal.invariant_of-result
invariant_of-result c = IsSpan-from_ordered _ _ (search rules) (search rules) (search rules)

pub returns-then-are_ordered-clause-none_only : goal.returns-then-are_ordered-clause-none_only
returns-then-are_ordered-clause-none_only c =
    (λ _. IsSpan-from_ordered _ _ (search rules) (search rules) (search rules), λ _. refl)
