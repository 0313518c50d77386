-- The verdict on what is loaded is the one verdict on what was read.
use Rattle.std.proofs.Common.{refl}
use Rattle.std.specs.declared.option.Option.TheVariants.{None}
use Rattle.exchange_cli.specs.Steps.{read_of}
use Rattle.exchange_cli.proofs.JudgedLemmas.{loaded_with}
use Rattle.exchange_cli.proofs.judging.judge.Goals as goal

pub returns : goal.returns
returns c = record {
  verdict = c.in_ok-verdict_on.field-0;
  judges = c.a_verdict_is_one_on_the_texts.ensures (read_of c.args.inputs) c.in_ok-loaded.loaded c.unwrap-trace.result
      c.in_ok-verdict_on.field-0
      (loaded_with c.args.inputs.mapping c.args.inputs.tables None c.args.inputs.trace c.in_ok-loaded.loaded c.in_ok-loaded.ensures)
      c.unwrap-trace.ensures c.in_ok-verdict_on.ensures;
  files = c.new.ensures;
  found = refl;
  line = c.in_ok-printed_line.ensures;
}
