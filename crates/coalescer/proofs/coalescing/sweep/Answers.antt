use Rattle.std.proofs.Common.{◌≡◌, ◌⊎◌, ◌<◌, arith, refl, sym, ap, subst, ◌∙◌, ◌+◌, [], length, take}
use Rattle.std.proofs.Math.ListN.{length-set}
use Rattle.std.proofs.lemmas.List.{get_or_read}
use Rattle.std.proofs.lemmas.List.Edits.{length-swap}
use Rattle.time_line.specs.Span.{HasInstant, IsJoin}
use Rattle.coalescer.proofs.SweepSteps.{Entry, SweptRows, start_rows, join_step, push_step, rest_none, coalesced_rows, covered_rows}
use Rattle.coalescer.proofs.coalescing.sweep.Goals as goal
use Rattle.coalescer.proofs.coalescing.sweep.Goals.{then-goes_on, else-goes_on, After-loop-at}

pub loop-at-init : goal.loop-at-init
loop-at-init c = record {
  order = omega arith;
  size = refl;
  swept = start_rows c.args.rows.now.items c.index-first.result.now c.requires.some c.requires.sorted c.index-first.ensures
      (subst (λ (e : Entry). HasInstant e.span) c.first.view_is c.is_kept.ensures.instant);
}

pub loop-at-preserved : goal.loop-at-preserved
loop-at-preserved c =
    let items = c.loop-at.rows.items in
    let last = c.loop-at.last in
    let at = c.loop-at.at in
    let all = c.args.rows.now.items in
    let a = c.index.result.now in
    let b = c.index-next.result.now in
    let order : last < at = c.loop-at.invariant.order in
    let within : at < length items = omega (arith, c.loop-at.invariant.size) in
    elim c.if-goes_on.branch [
      | then-goes_on w ↦
          let was = w.index_mut.result.now in
          let new = w.widen.new.entry in
          let one : was ≡ a = get_or_read items last was (omega arith) w.index_mut.ensures.value a ∙ sym c.index.ensures in
          record {
            order = omega (arith, w.last-is);
            size = rw w.rows-is (length-set items last new ∙ c.loop-at.invariant.size);
            swept = rw (w.rows-is, w.last-is) (join_step items last at all order within c.loop-at.invariant.swept
                a b c.index.ensures c.index-next.ensures
                new w.if-goes_on.ensures.row (w.widen.ensures.row ∙ ap (λ (e : Entry). e.row) one)
                (subst (λ (e : Entry). IsJoin e.span b.span new.span) one
                (subst (λ (e : Entry). IsJoin was.span e.span new.span) c.next.view_is w.widen.ensures.span))
                (subst (λ (e : Entry). (new.span.lo ≡ e.span.lo) ⊎ (new.span.lo ≡ b.span.lo)) one
                (subst (λ (e : Entry). (new.span.lo ≡ was.span.lo) ⊎ (new.span.lo ≡ e.span.lo)) c.next.view_is w.widen.ensures.start)));
          }
      | else-goes_on w ↦ record {
        order = omega (arith, w.last-is);
        size = rw (w.rows-is, w.swap.ensures.items) (length-swap items (last + 1) at ∙ c.loop-at.invariant.size);
        swept = rw (w.rows-is, w.last-is, w.swap.ensures.items)
            (push_step items last at all order within c.loop-at.invariant.swept a b c.index.ensures c.index-next.ensures
            (subst (λ (e : Entry). HasInstant e.span) c.next.view_is c.is_kept-in-loop-at.ensures.instant) w.if-goes_on.ensures.no);
      }
    ]

done_at : (c : After-loop-at) → SweptRows (take (c.loop-at.last + 1) c.loop-at.rows.items) [] c.args.rows.now.items
done_at c =
    rest_none c.loop-at.rows.items c.loop-at.last c.loop-at.at c.args.rows.now.items
    (omega (arith, c.loop-at.invariant.size)) c.loop-at.invariant.swept

pub returns-clause-coalesced : goal.returns-clause-coalesced
returns-clause-coalesced c = coalesced_rows (take (c.loop-at.last + 1) c.loop-at.rows.items) c.args.rows.now.items (done_at c)

pub returns-clause-covers : goal.returns-clause-covers
returns-clause-covers c = covered_rows (take (c.loop-at.last + 1) c.loop-at.rows.items) c.args.rows.now.items (done_at c)
