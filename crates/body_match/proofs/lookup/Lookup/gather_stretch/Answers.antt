use Rattle.std.proofs.Common.{◌≡◌, ◌<◌, ◌≤◌, length, sym, ap, ◌∙◌, subst, ⊎_elim, arith, pos, get_or, Contains}
use Rattle.std.specs.Prelude.{slice_get}
use Rattle.std.proofs.lemmas.Bool.{cases_lt}
use Rattle.std.proofs.lemmas.Option.{get_or_from_slice_get}
use Rattle.body_match.specs.declared.lookup.Entry.{Entry}
use Rattle.body_match.specs.Lookup.{IsSought}
use Rattle.body_match.proofs.ListLemmas.{within_from_at}
use Rattle.body_match.proofs.lookup.Lookup.gather_stretch.Goals as goal

pub loop-at-preserved : goal.loop-at-preserved
loop-at-preserved c =
    let read = c.entries-entries.ensures.value in
    let default : Entry = record { key = 0; from = pos 0; to = pos 0; row = 0 } in
    let now : Entry = get_or c.entries-entries.result.now c.loop-at.at default in
    let added : IsSought c.args.probe.now now → Contains c.add_if_sought.new.rows.items now.row = c.in_ok-add_if_sought.ensures.sought in
    record {
      kept = λ row h. c.in_ok-add_if_sought.ensures.kept row (c.loop-at.invariant.kept row h);
      sought = λ at entry from before e s. ⊎_elim
          (λ (earlier : at < c.loop-at.at). c.in_ok-add_if_sought.ensures.kept entry.row (c.loop-at.invariant.sought at entry from earlier e s))
          (λ (last : c.loop-at.at ≤ at).
          let same : at ≡ c.loop-at.at = omega (arith, last, before) in
          let this : now ≡ entry = get_or_from_slice_get c.entries-entries.result.now c.loop-at.at entry default
          (ap (λ l. slice_get l c.loop-at.at) read ∙ ap (slice_get c.args.self.now.entries) (sym same) ∙ e) in
          let P : Entry → Type 0 = λ x. IsSought c.args.probe.now x → Contains c.add_if_sought.new.rows.items x.row in
          subst P this added s)
          (cases_lt at c.loop-at.at);
    }

pub returns : goal.returns
returns c = record {
  kept = c.loop-at.invariant.kept;
  sought = λ at entry within e s.
      let inside = within_from_at c.args.self.now.entries at entry e in
      let size = ap length c.entries-entries.ensures.value in
      c.loop-at.invariant.sought at entry within.from
      (omega (arith, within.before, inside, size, c.min-end.ensures, c.loop-at-test.false)) e s;
}
