use Rattle.std.proofs.Common.{◌∙◌, arith}
use Rattle.egd_chase.proofs.IndexLemmas.{occur_below, no_rows_yet}
use Rattle.egd_chase.proofs.search.Part.make.Goals as goal

pub make-requires : goal.make-requires
make-requires c = record {
  vars = occur_below c.requires.0 c.args.egd.now c.requires.1 c.in_ok-body.body c.len-vars.result (c.in_ok-body.ensures ∙ c.as_slice.ensures)
      c.len-vars.ensures;
}

pub returns : goal.returns
returns c =
    no_rows_yet c.requires.0 c.args.egd.now c.requires.1 (record { index = c.in_ok-make.field-0; waiting = c.new.result; next = 0 })
    (c.in_ok-make.ensures.body ∙ c.in_ok-body.ensures ∙ c.as_slice.ensures) (c.in_ok-make.ensures.vars ∙ c.len-vars.ensures)
    c.in_ok-make.ensures.left c.in_ok-make.ensures.right c.in_ok-make.ensures.shown (omega arith)
