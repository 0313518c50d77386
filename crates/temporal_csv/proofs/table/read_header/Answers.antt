use Rattle.std.proofs.Common.{[], ◌∷◌, true, refl}
use Rattle.csv.specs.Records.{fields_of}
use Rattle.temporal_csv.specs.TableReader.{Continues}
use Rattle.temporal_csv.proofs.RecordsLemmas.{table-rest}
use Rattle.temporal_csv.proofs.table.read_header.Goals as goal

pub returns-then-not-is_header-clause-fault : goal.returns-then-not-is_header-clause-fault
returns-then-not-is_header-clause-fault c =
    let new = c.next_record.new in
    let found : Continues c.args.reader.now new.reader true (fields_of new.fields) =
    rw c.if-not-branch.false at c.in_ok-next_record.ensures in
    rw c.new-then-not-is_header.ensures (λ bytes text read.
    let rest = table-rest bytes (fields_of new.fields ∷ []) new.reader (found bytes [] read) in
    record {
      text = text;
      records = fields_of new.fields ∷ rest.0;
      read = rest.1;
      lacks = λ header. let is = c.is_header.ensures.1 header in cc is;
      is = refl;
    })
