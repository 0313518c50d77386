use Rattle.std.proofs.lemmas.Result.{err_from_is_err_and}
use Rattle.rule_text.specs.RuleLine.{FailsRule}
use Rattle.mapping_core.proofs.LineLemmas.{fault_onward}
use Rattle.mapping_core.proofs.ReadsLemmas.{ReadsTo-knows, ReadsTo-rule, rule_forward, rule_fails}
use Rattle.mapping_core.proofs.reading.read_rule_line.Goals as goal

pub read_rule-requires-clause-known : goal.read_rule-requires-clause-known
read_rule-requires-clause-known c =
    ReadsTo-knows c.args.bytes.now c.args.pool.now c.args.from c.args.rules.now c.requires.before c.requires.pool

pub returns-in_err-line-clause-fault : goal.returns-in_err-line-clause-fault
returns-in_err-line-clause-fault c =
    let p = err_from_is_err_and c.from_residual.result c.from_residual.ensures.1 in
    rw (p.1, p.2) (fault_onward c.in_err-line.field-0.0 (FailsRule c.args.bytes.now c.args.rules.now c.args.pool.now c.args.from) _
    (λ fault. rule_fails c.args.bytes.now c.args.pool.now c.args.from c.args.rules.now fault c.requires.before c.requires.begins)
    c.in_err-line.ensures.fault)

pub returns-clause-reads : goal.returns-clause-reads
returns-clause-reads c =
    rw c.in_ok-add_rule.ensures.ok (ReadsTo-rule c.args.bytes.now c.args.pool.now c.args.from c.args.rules.now
    c.in_ok-line.line.0 c.in_ok-line.line.1 c.requires.before c.in_ok-line.ensures.states)

pub returns-clause-forward : goal.returns-clause-forward
returns-clause-forward c =
    rule_forward c.args.bytes.now c.args.pool.now c.args.from c.args.rules.now c.in_ok-line.line.0 c.in_ok-line.line.1 c.in_ok-line.ensures.states
