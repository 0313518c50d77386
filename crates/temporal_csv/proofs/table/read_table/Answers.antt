use Rattle.std.proofs.Common.{◌≡◌, [], ◌∷◌, ◌++◌, Err, length, true, arith, rules, length-append}
use Rattle.csv.specs.Records.{fields_of}
use Rattle.temporal_csv.specs.Stored.{header_of}
use Rattle.temporal_csv.specs.Table.{IsFact}
use Rattle.temporal_csv.specs.TableReader.{Continues}
use Rattle.temporal_csv.proofs.TableLemmas.{each-push, fault-after_facts}
use Rattle.temporal_csv.proofs.table.read_table.Goals as goal

pub loop-facts-init : goal.loop-facts-init
loop-facts-init c = record {
  text = c.is_utf8.ensures.0 c.if-not-is_utf8.false;
  records = [];
  read = c.in_ok-read_header.ensures.ok c.args.bytes.now c.open-reader.ensures;
  each = rw c.new-facts.ensures tt;
  few = rw c.new-facts.ensures (omega arith);
}

pub returns-in_err-fact-clause-fault : goal.returns-in_err-fact-clause-fault
returns-in_err-fact-clause-fault c =
    let inv = c.loop-facts.invariant in
    let new = c.next_record.new in
    let found : Continues c.loop-facts.reader new.reader true (fields_of new.fields) = rw c.if-branch.true at c.in_ok-next_record.ensures in
    let read = found c.args.bytes.now (header_of c.args.columns.now ∷ inv.records) inv.read in
    let place = rw c.len-in-loop-facts.ensures at c.in_err-fact.ensures.place in
    let stops = rw (c.len.ensures, c.len-in-loop-facts.ensures) at c.in_err-fact.ensures.fault in
    let first = fault-after_facts c.args.columns.now c.args.bytes.now inv.records c.loop-facts.facts (fields_of new.fields) new.reader
    c.in_err-fact.field-0.0 inv.text inv.each read place stops in
    let answer : c.from_residual-in_err-fact.result ≡ Err c.in_err-fact.field-0.0 = search rules in
    rw answer first

pub loop-facts-preserved : goal.loop-facts-preserved
loop-facts-preserved c =
    let inv = c.loop-facts.invariant in
    let new = c.next_record.new in
    let found : Continues c.loop-facts.reader new.reader true (fields_of new.fields) = rw c.if-branch.true at c.in_ok-next_record.ensures in
    let fact : IsFact (length c.args.columns.now) (fields_of new.fields) c.in_ok-fact.fact =
    rw c.len.ensures at c.in_ok-fact.ensures.fact in
    let pushed : c.push.new.self ≡ c.loop-facts.facts ++ c.in_ok-fact.fact ∷ [] = c.in_ok-push.ensures.ok in
    let few = c.in_ok-fact.ensures.few in
    let count = c.len-in-loop-facts.ensures in
    record {
      text = inv.text;
      records = inv.records ++ fields_of new.fields ∷ [];
      read = found c.args.bytes.now (header_of c.args.columns.now ∷ inv.records) inv.read;
      each = rw pushed (each-push (IsFact (length c.args.columns.now)) inv.records c.loop-facts.facts (fields_of new.fields)
          c.in_ok-fact.fact inv.each fact);
      few = rw (pushed, length-append) (omega (arith, few, count));
    }
