use Rattle.std.proofs.Common.{◌∷◌, ◌++◌, [], List, refl, sym, subst}
use Rattle.std.specs.Option.{IfSome, IfNone}
use Rattle.term_core.specs.declared.term.Term.{Term}
use Rattle.term_core.specs.declared.term.Seen.{Seen}
use Rattle.body_match.specs.declared.found.Match.{Match}
use Rattle.certain_answers.specs.Collected.{IsShown, IsEntryOf, Adds}
use Rattle.certain_answers.proofs.AnswerLemmas.{Entry, adds_one, one_entry, no_entry}
use Rattle.certain_answers.proofs.collecting.CollectorVisitor.visit.Goals as goal

pub returns-clause-takes : goal.returns-clause-takes
returns-clause-takes c =
    let columns = c.args.self.now.columns.now in
    let found : Match = c.args.found.now in
    let row : List Term = c.in-Some.row in
    let old : List Entry = c.args.self.now.rows.items in
    let entry : Entry = record { row = row; span = found.span } in
    let shown = subst (λ o. IfSome o (IsShown columns c.as_slice.result.now)) c.in-Some.is c.in_ok-row.ensures.shown in
    let added = one_entry columns found row (subst (λ (vs : List Seen). IsShown columns vs row) c.as_slice.ensures shown) old
    (old ++ entry ∷ []) entry refl refl (adds_one old entry) in
    record {
      columns = refl;
      rows = subst (λ (l : List Entry). Adds old l (IsEntryOf columns found)) (sym c.in_ok-push.ensures.items) added;
    }

pub returns-in-None-clause-takes : goal.returns-in-None-clause-takes
returns-in-None-clause-takes c =
    let columns = c.args.self.now.columns.now in
    let found = c.args.found.now in
    let never = subst (λ o. IfNone o ((row : List Term) → ¬ (IsShown columns c.as_slice.result.now row))) c.in-None.is
    c.in_ok-row.ensures.hidden in
    record {
      columns = refl;
      rows = no_entry columns found c.args.self.now.rows.items
          (subst (λ (vs : List Seen). (row : List Term) → ¬ (IsShown columns vs row)) c.as_slice.ensures never);
    }
