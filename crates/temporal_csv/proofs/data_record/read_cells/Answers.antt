use Rattle.std.proofs.Common.{◌≡◌, ◌<◌, ◌∙◌, [], get_or, length, take, arith, refl}
use Rattle.std.specs.Prelude.{IsUtf8}
use Rattle.std.proofs.lemmas.List.{get_or-take, length-take-le, take_more}
use Rattle.std.proofs.lemmas.List.Elements.{All-get_or, All-push}
use Rattle.csv.specs.Records.{fields_of}
use Rattle.temporal_csv.proofs.data_record.read_cells.Goals as goal

pub loop-i-preserved : goal.loop-i-preserved
loop-i-preserved c =
    let fields = fields_of c.args.fields.now in
    let here : c.loop-i.i < length fields = omega (arith, c.requires, c.loop-i-test.true) in
    let step = take_more fields c.loop-i.i [] here in
    let text = c.in-Ok.ensures.cases in
    let same : c.in_ok-from_str.field-0 ≡ get_or fields c.loop-i.i [] = c.in_ok-from_str.ensures ∙ text.0 ∙ c.field.ensures in
    record {
      cells = rw (c.in_ok-push.ensures.ok, c.loop-i.invariant.cells, same, step) refl;
      text = rw step (All-push IsUtf8 (take c.loop-i.i fields) _ c.loop-i.invariant.text (rw c.field.ensures at text.1));
    }

pub returns-in_default-clause-text : goal.returns-in_default-clause-text
returns-in_default-clause-text c =
    let fields = fields_of c.args.fields.now in
    let wide = length-take-le c.args.width fields c.requires in
    let cell = get_or-take c.args.width fields c.loop-i.i [] c.loop-i-test.true in (
      λ e. cc e,
      λ all.
          let text = All-get_or IsUtf8 (take c.args.width fields) c.loop-i.i [] (rw wide c.loop-i-test.true) all in
          absurd (c.in_default.ensures.cases.0 (rw c.field.ensures (rw cell at text))),
    )

pub returns-clause-text : goal.returns-clause-text
returns-clause-text c =
    let last : c.loop-i.i ≡ c.args.width = omega (arith, c.loop-i-test.false, c.loop-i.auto.i-end) in
    (λ e. rw last at c.loop-i.invariant.text, λ all. refl)
