use Rattle.std.proofs.Common.{ℕ, ◌<◌, length, Contains}
use Rattle.std.proofs.lemmas.Result.{on_ok_weaker}
use Rattle.fact_table.specs.Rows.{row_at}
use Rattle.body_match.specs.Matches.{IsImage, seen_value}
use Rattle.body_match.proofs.ListLemmas.{at_within}
use Rattle.body_match.proofs.SearchLemmas.{some_and, next_image}
use Rattle.body_match.proofs.KeyLemmas.{number_within}
use Rattle.body_match.proofs.search.find.Goals as goal

pub returns-then-is_empty : goal.returns-then-is_empty
returns-then-is_empty g c =
    let task = c.args.search.now in
    let chosen = c.args.chosen.now in
    let atom = at_within task.body (length chosen) c.requires.more in
    on_ok_weaker c.find_all.result
    (λ (all : (row : ℕ) → row < length task.rows → Contains c.find_all.new.found.items row) found number h d.
    let image = some_and (IsImage (seen_value found.binding) atom.0) (row_at task.rows number)
    (next_image task c.find_all.ensures.task chosen c.args.span.now c.requires.partial number atom.0 atom.1 found h) in
    all number (number_within task.rows number image.0 image.1)) c.find_all.ensures.all
