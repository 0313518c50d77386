-- The tables are one group, the answers the next, and the verdict stands behind them.
use Rattle.std.proofs.Common.{◌++◌, ◌∷◌, [], List, ap, ◌∙◌}
use Rattle.exchange_cli.specs.declared.file.FileOut.{FileOut}
use Rattle.exchange_cli.proofs.rendering.render.Goals as goal

pub returns : goal.returns
returns c =
    let tables : List FileOut = c.in_ok-table_files.field-0 in
    let answers : List FileOut = c.in_ok-answer_files.field-0 in
    let verdict : FileOut = c.in_ok-verdict.field-0 in
    record {
      groups = record { tables = tables; answers = answers; verdict = verdict };
      named = c.in_ok-table_files.ensures;
      answers = c.in_ok-answer_files.ensures;
      verdict = c.in_ok-verdict.ensures;
      all =
          c.from_vec.ensures
          ∙ c.in_ok-push.ensures.items
          ∙ ap (λ (l : List FileOut). l ++ verdict ∷ [])
          (c.in_ok-append.ensures.items ∙ (λ i. c.into_vec-files.ensures i ++ c.into_vec-answers.ensures i));
    }
