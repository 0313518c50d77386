use Rattle.std.proofs.lemmas.Result.{err_from_is_err_and}
use Rattle.decl_text.specs.Tokens.{IsNextFault}
use Rattle.mapping_core.proofs.LineLemmas.{fault_onward}
use Rattle.mapping_core.proofs.ReadsLemmas.{token_fails, ReadsTo-end, ReadsTo-constants, ReadsTo-empty}
use Rattle.mapping_core.proofs.reading.read_lines.Goals as goal

pub returns-in_err-token-clause-fault : goal.returns-in_err-token-clause-fault
returns-in_err-token-clause-fault c =
    let p = err_from_is_err_and c.from_residual.result c.from_residual.ensures.1 in
    rw (p.1, p.2) (fault_onward c.in_err-token.field-0.0 (IsNextFault c.args.bytes.now c.loop-rules.from) _
    (λ fault. token_fails c.args.bytes.now c.args.pool.now c.loop-rules.from c.loop-rules.rules fault c.loop-rules.invariant.reads)
    c.in_err-token.ensures.fault)

pub returns-in-Finish-clause-mapping : goal.returns-in-Finish-clause-mapping
returns-in-Finish-clause-mapping c =
    ReadsTo-end c.args.bytes.now c.args.pool.now c.loop-rules.from c.loop-rules.rules c.in_ok-token.token c.loop-rules.invariant.reads c.requires
    c.in_ok-token.ensures.token c.in-Finish.is

pub returns-in-Finish-clause-constants : goal.returns-in-Finish-clause-constants
returns-in-Finish-clause-constants c =
    ReadsTo-constants c.args.bytes.now c.args.pool.now c.loop-rules.from c.loop-rules.rules c.in_ok-token.token c.loop-rules.invariant.reads c.requires
    c.in_ok-token.ensures.token c.in-Finish.is

pub loop-rules-preserved-in-LineEnd : goal.loop-rules-preserved-in-LineEnd
loop-rules-preserved-in-LineEnd c = record {
  within = c.in_ok-token.ensures.within;
  reads = ReadsTo-empty c.args.bytes.now c.args.pool.now c.loop-rules.from c.loop-rules.rules c.in_ok-token.token c.loop-rules.invariant.reads
      c.in_ok-token.ensures.token c.in-LineEnd.is;
}
