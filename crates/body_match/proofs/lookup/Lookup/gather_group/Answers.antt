use Rattle.std.proofs.Common.{◌≡◌, ◌+◌, ◌*◌, ◌<◌, ◌≤◌, length, min, sym, ap, ◌∙◌, subst, ⊎_elim, arith, pos, get_or, Contains}
use Rattle.std.specs.Prelude.{slice_get}
use Rattle.std.proofs.lemmas.Bool.{cases_lt}
use Rattle.std.proofs.lemmas.Option.{get_or_from_slice_get}
use Rattle.body_match.specs.declared.lookup.Entry.{Entry}
use Rattle.body_match.specs.Lookup.{IsSought}
use Rattle.body_match.proofs.TreeLemmas.{adds_leaf}
use Rattle.body_match.proofs.lookup.Lookup.gather_group.Goals as goal

pub overflow_mul-first : goal.overflow_mul-first
overflow_mul-first c = let fits = c.entries-entries.ensures.tree.fits in omega (arith, fits, c.requires)

pub loop-at-preserved : goal.loop-at-preserved
loop-at-preserved c =
    let read = c.entries-entries.ensures.value in
    let default : Entry = record { key = 0; from = pos 0; to = pos 0; row = 0 } in
    let now : Entry = get_or c.entries-entries.result.now c.loop-at.at default in
    let added : IsSought c.args.probe.now now → Contains c.add_if_sought.new.rows.items now.row = c.in_ok-add_if_sought.ensures.sought in
    record {
      kept = λ row h. c.in_ok-add_if_sought.ensures.kept row (c.loop-at.invariant.kept row h);
      sought = λ at entry from before e s. ⊎_elim
          (λ (earlier : at < c.loop-at.at). c.in_ok-add_if_sought.ensures.kept entry.row (c.loop-at.invariant.sought at entry from earlier e s))
          (λ (last : c.loop-at.at ≤ at).
          let same : at ≡ c.loop-at.at = omega (arith, last, before) in
          let this : now ≡ entry = get_or_from_slice_get c.entries-entries.result.now c.loop-at.at entry default
          (ap (λ l. slice_get l c.loop-at.at) read ∙ ap (slice_get c.args.self.now.entries) (sym same) ∙ e) in
          let P : Entry → Type 0 = λ x. IsSought c.args.probe.now x → Contains c.add_if_sought.new.rows.items x.row in
          subst P this added s)
          (cases_lt at c.loop-at.at);
    }

pub returns : goal.returns
returns c =
    adds_leaf c.args.self.now c.entries-entries.ensures.tree c.args.probe.now c.args.leaf c.min-end.result c.args.rows.now.items
    c.loop-at.rows.items
    (c.min-end.ensures ∙ ap (λ l. min (length l) (8 * c.args.leaf + 8)) c.entries-entries.ensures.value) c.loop-at.invariant.kept
    (λ at entry from before e s. c.loop-at.invariant.sought at entry from (omega (arith, before, c.loop-at-test.false)) e s)
