use Rattle.std.proofs.Common.{◌≡◌, true, false, length, map, eqb, nat_cmp, slice_range, ap, sym, ◌∙◌}
use Rattle.std.proofs.lemmas.List.Elements.{All-rest}
use Rattle.std.specs.Cmp.Lexicographic.{slice_cmp}
use Rattle.std.specs.FinMap.{get, find}
use Rattle.shelf_core.specs.Layout.{IsInText, entry_at}
use Rattle.shelf_core.proofs.LayoutLemmas.{find-here, find-further, get-entries_at}
use Rattle.shelf_core.proofs.entry_log.EntryLog.get.Goals as goal
use lib.Pointwise.{pointwise}

pub loop-place-init : goal.loop-place-init
loop-place-init c = record {
  found = ap (λ e. get e.held c.args.name.now) (sym c.self.view_is)
      ∙ get-entries_at c.self.inside.text.items c.args.name.now c.self.inside.places.items
      ∙ ap (λ ps. find (slice_cmp nat_cmp) c.args.name.now (map (entry_at c.self.inside.text.items) ps))
      (sym c.into_iter-place-iterator.ensures.into_iter_gives.0);
  in_text = rw c.into_iter-place-iterator.ensures.into_iter_gives.0 c.self.invariant;
}

pub returns-then-eq : goal.returns-then-eq
returns-then-eq c =
    let text = c.self.inside.text.items in
    let place = c.in-Some.place.now in
    let same : pointwise eqb c.args.name.now (slice_range text place.start place.middle) ≡ true =
    rw (← c.deref.ensures.value) (sym c.eq.ensures ∙ c.if-eq.true) in
    rw c.deref-then-eq.ensures.value
    (sym (c.loop-place.invariant.found ∙ find-here text c.args.name.now place _ _ c.in-Some.ensures.steps same))

pub loop-place-preserved : goal.loop-place-preserved
loop-place-preserved c =
    let text = c.self.inside.text.items in
    let place = c.in-Some.place.now in
    let other : pointwise eqb c.args.name.now (slice_range text place.start place.middle) ≡ false =
    rw (← c.deref.ensures.value) (sym c.eq.ensures ∙ c.if-eq.false) in
    record {
      found = c.loop-place.invariant.found ∙ find-further text c.args.name.now place _ _ c.in-Some.ensures.steps other;
      in_text = All-rest (IsInText (length text)) place _ _ c.in-Some.ensures.steps c.loop-place.invariant.in_text;
    }
