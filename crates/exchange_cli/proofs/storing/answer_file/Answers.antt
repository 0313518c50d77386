-- The header is that of the head variables, which are names.
use Rattle.std.proofs.Common.{ℕ, List, map, sym, ◌∙◌, subst}
use Rattle.temporal_csv.specs.Stored.{IsStored, header_of, stamped_row, table_text}
use Rattle.exchange_cli.proofs.StoringLemmas.{header_some, letters_are}
use Rattle.exchange_cli.proofs.storing.answer_file.Goals as goal

pub write_table-requires-clause-some : goal.write_table-requires-clause-some
write_table-requires-clause-some g c = rw c.in_ok-header.ensures (header_some c.args.query.now.head)

pub write_table-requires-clause-letters : goal.write_table-requires-clause-letters
write_table-requires-clause-letters g c =
    rw c.in_ok-header.ensures (letters_are c.args.query.now.head c.requires.names)

pub returns : goal.returns
returns g c table is =
    let columns = c.args.query.now.head in
    let bytes = c.from_vec.ensures ∙ c.into_vec.ensures in
    record {
      name = c.in_ok-name_answers.ensures;
      text = bytes ∙ c.in_ok-bytes.ensures.text ∙ (λ i. table_text (c.in_ok-header.ensures i) (is i));
      stored =
          subst (λ (b : List ℕ). IsStored b (header_of columns) (map stamped_row table)) (sym bytes)
          (c.in_ok-bytes.ensures.stored columns table c.in_ok-header.ensures is);
    }
