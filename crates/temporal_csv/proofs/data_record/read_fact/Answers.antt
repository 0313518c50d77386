use Rattle.std.proofs.Common.{◌≡◌, ◌+◌, ◌-◌, length, arith, refl}
use Rattle.std.specs.Prelude.{IsUtf8}
use Rattle.std.proofs.lemmas.List.Elements.{All-take}
use Rattle.csv.specs.Records.{fields_of}
use Rattle.temporal_csv.proofs.TableLemmas.{parts_of, HasParts-of, all-text, end-texts-of, fault-from_span}
use Rattle.temporal_csv.proofs.data_record.read_fact.Goals as goal

pub returns-then-not-are_texts-clause-fault : goal.returns-then-not-are_texts-clause-fault
returns-then-not-are_texts-clause-fault c =
    let fields = fields_of c.args.fields.now in
    let wide : length fields ≡ c.args.width + 2 = c.has_width.ensures.0 c.if-not-has_width.false in
    let last : c.len.result - 1 ≡ c.args.width + 1 = omega (arith, wide, c.len.ensures) in
    rw c.new-then-not-are_texts.ensures (
      wide,
      λ all.
          let ends = end-texts-of c.args.width fields wide all in
          let text = c.are_texts.ensures.1 (rw (c.field-start.ensures, c.field-stop.ensures, last) ends) in
          cc text,
    )

pub returns-in_default-clause-fault : goal.returns-in_default-clause-fault
returns-in_default-clause-fault c =
    let wide = c.has_width.ensures.0 c.if-not-has_width.false in
    let found = rw c.in_default.is at c.in_ok-found.ensures.text in
    rw c.new-in_default.ensures (wide, λ all. cc (found.1 (All-take IsUtf8 c.args.width (fields_of c.args.fields.now) all)))

pub returns-in-Ok-clause-fact : goal.returns-in-Ok-clause-fact
returns-in-Ok-clause-fact c =
    let fields = fields_of c.args.fields.now in
    let width = c.args.width in
    let wide : length fields ≡ width + 2 = c.has_width.ensures.0 c.if-not-has_width.false in
    let last : c.len.result - 1 ≡ width + 1 = omega (arith, wide, c.len.ensures) in
    let ends = rw (c.field-start.ensures, c.field-stop.ensures, last) at (c.are_texts.ensures.0 c.if-not-are_texts.false) in
    let found = rw c.in-Some.is at c.in_ok-found.ensures.text in
    record {
      parts = parts_of width fields;
      has = HasParts-of width fields wide;
      text = all-text width fields wide (found.0 refl) ends;
      row = rw c.in-Some.is at c.in_ok-found.ensures.cells;
      ends = rw (c.field-start.ensures, c.field-stop.ensures, last) at c.in-Ok.ensures.span;
    }

pub returns-in-Err-clause-fault : goal.returns-in-Err-clause-fault
returns-in-Err-clause-fault c =
    let fields = fields_of c.args.fields.now in
    let width = c.args.width in
    let wide : length fields ≡ width + 2 = c.has_width.ensures.0 c.if-not-has_width.false in
    let last : c.len.result - 1 ≡ width + 1 = omega (arith, wide, c.len.ensures) in
    let ends = rw (c.field-start.ensures, c.field-stop.ensures, last) at (c.are_texts.ensures.0 c.if-not-are_texts.false) in
    let found = rw c.in-Some.is at c.in_ok-found.ensures.text in
    rw c.new-in-Err.ensures (fault-from_span width fields c.in-Err.code wide (all-text width fields wide (found.0 refl) ends)
    (rw (c.field-start.ensures, c.field-stop.ensures, last) at c.in-Err.ensures.fault))
