use Rattle.std.proofs.Common.{◌≢◌, ◌++◌, ◌∙◌, ap, List, ℕ}
use Rattle.csv.specs.Records.{fields_of}
use Rattle.csv.specs.Writing.{writer_setup}
use Rattle.csv.specs.declared.writer.QuoteStyle.TheVariants as style
use Rattle.temporal_csv.specs.TableWriter.{written_text}
use Rattle.temporal_csv.proofs.WriterLemmas.{row_text-flexible}
use Rattle.temporal_csv.proofs.stored.write_record.Goals as goal
use Rattle.temporal_csv.proofs.stored.write_record.Goals.{in-Ok, in-Err}

pub returns-clause-text : goal.returns-clause-text
returns-clause-text c = elim c.match-write_byte_record.branch [
  | in-Ok w ↦
      let plain : (writer_setup c.args.out.now).style ≢ style.NonNumeric = rw c.requires.setup (λ e. cc e) in
      let bytes = w.in-Ok.ensures.bytes c.requires.fields c.requires.bare plain in
      let row = rw c.requires.setup at bytes in
      rw w.result-is (row ∙ ap (λ (t : List ℕ). written_text c.args.out.now ++ t) (row_text-flexible (fields_of c.args.fields.now)))
  | in-Err w ↦ rw w.result-is tt
]
