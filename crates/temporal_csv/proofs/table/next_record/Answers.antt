use Rattle.csv.specs.Records.{fields_of}
use Rattle.temporal_csv.proofs.RecordsLemmas.{continues}
use Rattle.temporal_csv.proofs.table.next_record.Goals as goal

pub returns : goal.returns
returns c =
    let new = c.read_byte_record.new in
    continues c.args.reader.now new.self c.in-Ok.found (fields_of new.row) c.in-Ok.ensures.reads c.in-Ok.ensures.ready
    c.in-Ok.ensures.flexible
