use Rattle.body_match.proofs.ExactLemmas.{begins_before}
use Rattle.body_match.proofs.search.span_of.Goals as goal

pub returns-in_err-span-clause-none : goal.returns-in_err-span-clause-none
returns-in_err-span-clause-none g c =
    rw c.from_residual.ensures (λ m h.
    c.in_err-span.ensures.none m (h.0, begins_before c.args.rows.now m.rows c.loop-at.at 0 c.loop-at-test.true h.1))
