-- The text of a writable trace is read as this trace alone.
use Rattle.std.proofs.Common.{ap, rules, sym, subst, SFits, w64}
use Rattle.std.proofs.lemmas.Int.{to_z-of_z}
use Rattle.failure_trace.specs.TraceText.{IsTrace}
use Rattle.exchange_cli.specs.declared.file.FileOut.{FileOut}
use Rattle.exchange_cli.specs.declared.ending.Finding.TheVariants.{NoSolution}
use Rattle.exchange_cli.proofs.refuting.refute.Goals as goal

pub returns : goal.returns
returns c = λ inputs refutes.
    let trace = c.args.trace.now in
    let fits : SFits w64 trace.instant = search rules in
    let file : FileOut = c.in_ok-certificate.field-0 in
    let verdict = c.in_ok-certificate.ensures in
    let read : IsTrace file.bytes trace =
    subst (λ text. IsTrace text trace) (sym verdict.bytes) (c.printed_traces_are_read_back.ensures trace c.requires) in
    record {
      trace = trace;
      file = file;
      certificate = record {
        verdict = verdict;
        read = read;
        one = λ other is. c.a_text_is_one_trace_or_has_one_first_fault.ensures.trace file.bytes other trace is read;
        refutes = refutes;
      };
      files = c.in_ok-alone.ensures;
      found = ap NoSolution (to_z-of_z w64 trace.instant fits);
      line = c.in_ok-printed_line.ensures;
    }
