-- What is read fits, by the law.
use Rattle.std.proofs.lemmas.Result.{IfOk-weaker}
use Rattle.rule_core.specs.Validity.{IsValid}
use Rattle.rule_text.specs.Adding.{with_rule}
use Rattle.rule_text.specs.RuleLine.{IsRule}
use Rattle.rule_text.proofs.reading.read_rule.Goals as goal

pub returns-clause-fits : goal.returns-clause-fits
returns-clause-fits c =
    IfOk-weaker c.read_line.result
    (λ line. IsRule c.args.bytes.now c.args.rules.now c.args.pool.now c.args.from line.0 line.1)
    (λ line. IsValid (with_rule c.args.rules.now line.0))
    (λ line states. c.what_is_read_fits.ensures c.args.bytes.now c.args.rules.now c.args.pool.now c.args.from line.0 line.1 c.is_kept.ensures states)
    c.read_line.ensures.states
