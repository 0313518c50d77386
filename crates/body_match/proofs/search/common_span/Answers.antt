use Rattle.std.proofs.Common.{length, sym, ap, ◌∙◌, subst}
use Rattle.std.proofs.lemmas.Bool.{false≢true}
use Rattle.std.proofs.lemmas.Option.{slice_get-get_or}
use Rattle.fact_table.specs.declared.fact.RowHead.{RowHead}
use Rattle.time_line.specs.Span.{IsMeet, Meet}
use Rattle.body_match.specs.Matches.{seen_value}
use Rattle.body_match.proofs.SearchLemmas.{row_from_head, head_from_image, form_from_image, span_from_head, next_atom, next_image, next_agrees, next_meets, next_placed, next_partial}
use Rattle.body_match.proofs.search.common_span.Goals as goal

pub returns-in_err-head-clause-none : goal.returns-in_err-head-clause-none
returns-in_err-head-clause-none g c =
    let task = c.args.search.now in
    let chosen = c.args.chosen.now in
    let atom = c.index-body-chosen.result in
    let next = next_atom task.body c.body.result.now (length chosen) atom c.body.ensures.value c.requires.more c.index-body-chosen.is in
    rw c.from_residual.ensures (λ found h.
    head_from_image task.rows (seen_value found.binding) atom c.args.row
    (next_image task c.body.ensures.task chosen c.args.span.now c.requires.partial c.args.row atom next found h) c.in_err-head.ensures)

pub returns-then-not-has_form-clause-none : goal.returns-then-not-has_form-clause-none
returns-then-not-has_form-clause-none g c = λ found h.
    let task = c.args.search.now in
    let chosen = c.args.chosen.now in
    let atom = c.index-body-chosen.result in
    let next = next_atom task.body c.body.result.now (length chosen) atom c.body.ensures.value c.requires.more c.index-body-chosen.is in
    let form = form_from_image task.rows (seen_value found.binding) atom c.args.row c.in_ok-head.head (sym c.in_ok-head.ensures)
    (next_image task c.body.ensures.task chosen c.args.span.now c.requires.partial c.args.row atom next found h) in
    false≢true (sym c.if-not-has_form.true ∙ c.has_form.ensures.1 form)

pub returns-in_err-common-clause-none : goal.returns-in_err-common-clause-none
returns-in_err-common-clause-none g c =
    let task = c.args.search.now in
    let chosen = c.args.chosen.now in
    let atom = c.index-body-chosen.result in
    let next = next_atom task.body c.body.result.now (length chosen) atom c.body.ensures.value c.requires.more c.index-body-chosen.is in
    rw c.from_residual-in_err-common.ensures (λ found h.
    let m = next_meets task c.body.ensures.task chosen c.args.span.now c.requires.partial c.args.row atom next found h in
    c.in_err-common.ensures.apart m.0 m.1
    (span_from_head task.rows c.args.row c.in_ok-head.head m.0 (sym c.in_ok-head.ensures) m.2))

pub agrees-requires-clause-cells : goal.agrees-requires-clause-cells
agrees-requires-clause-cells g c =
    let task = c.args.search.now in
    let chosen = c.args.chosen.now in
    let atom = c.index-body-chosen.result in
    let next = next_atom task.body c.body.result.now (length chosen) atom c.body.ensures.value c.requires.more c.index-body-chosen.is in
    let r = row_from_head task.rows c.args.row c.in_ok-head.head (sym c.in_ok-head.ensures) in
    let form = c.has_form.ensures.0 c.if-not-has_form.false in
    λ k d l. next_placed task c.body.ensures.task chosen c.args.span.now c.requires.partial c.args.row atom next r.0 r.1
    (ap (λ (h : RowHead). h.relation) r.2 ∙ form.0) (ap (λ (h : RowHead). h.arity) r.2 ∙ form.1) k _ (slice_get-get_or atom.args k d l)

pub returns-then-agrees-clause-some : goal.returns-then-agrees-clause-some
returns-then-agrees-clause-some g c =
    let task = c.args.search.now in
    let chosen = c.args.chosen.now in
    let atom = c.index-body-chosen.result in
    let next = next_atom task.body c.body.result.now (length chosen) atom c.body.ensures.value c.requires.more c.index-body-chosen.is in
    let r = row_from_head task.rows c.args.row c.in_ok-head.head (sym c.in_ok-head.ensures) in
    let form = c.has_form.ensures.0 c.if-not-has_form.false in
    next_partial task c.body.ensures.task chosen c.args.span.now c.requires.partial c.args.row atom next r.0 r.1
    (ap (λ (h : RowHead). h.relation) r.2 ∙ form.0) (ap (λ (h : RowHead). h.arity) r.2 ∙ form.1) c.in_ok-common.common
    (subst (λ (h : RowHead). IsMeet c.args.span.now h.span c.in_ok-common.common) (sym r.2) c.in_ok-common.ensures.common)
    (subst (λ (h : RowHead). Meet c.args.span.now h.span) (sym r.2) c.in_ok-common.ensures.meets) (c.agrees.ensures.0 c.if-agrees.true)

pub returns-else-agrees-clause-none : goal.returns-else-agrees-clause-none
returns-else-agrees-clause-none g c = λ found h.
    let task = c.args.search.now in
    let chosen = c.args.chosen.now in
    let atom = c.index-body-chosen.result in
    let next = next_atom task.body c.body.result.now (length chosen) atom c.body.ensures.value c.requires.more c.index-body-chosen.is in
    false≢true (sym c.if-agrees.false
    ∙ c.agrees.ensures.1 (next_agrees task c.body.ensures.task chosen c.args.span.now c.requires.partial c.args.row atom next found h))
