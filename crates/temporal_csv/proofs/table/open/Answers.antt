use Rattle.std.proofs.Common.{◌∙◌, refl, sym, inr}
use Rattle.csv.specs.Reading.{Reached, strip_bom}
use Rattle.temporal_csv.proofs.table.open.Goals as goal

pub returns : goal.returns
unfolding Reached
returns c =
    let h = c.has_headers.ensures in
    let f = c.flexible.ensures in
    let r = c.from_reader.ensures in
    record {
      trims = rw (f, h) at r.trim ∙ c.new.ensures.trim;
      ready = inr (inr (rw (f, h) at r.has_headers, r.headers));
      flexible = rw f at r.flexible;
      config = rw (f, h) at r.config ∙ c.new.ensures.config;
      rest = strip_bom c.args.bytes.now;
      source = r.source;
      reached = (sym r.state, refl);
    }
