use Rattle.std.proofs.Common.{List, Contains, sym, subst}
use Rattle.body_match.specs.declared.lookup.Entry.{Entry}
use Rattle.body_match.specs.Lookup.{all_in}
use Rattle.body_match.specs.Renewals.{KeepsOthers}
use Rattle.body_match.proofs.RenewalLemmas.{others_beside}
use Rattle.body_match.proofs.register.Register.drop_entry.Goals as goal

pub returns-in_ok-self-inside : goal.returns-in_ok-self-inside
returns-in_ok-self-inside c = λ entry k other live.
    let row = c.args.entry.now.row in
    let last : List Entry = c.self.inside.last.items in
    let rest : List Entry = c.in_ok-self-inside.field-0.items in
    others_beside row (all_in c.self.inside.lookups.items) (all_in c.drop_in.new.lookups.items) last rest c.in_ok-drop_in.ensures
    (subst (λ (l : List Entry). KeepsOthers row l rest) c.as_slice-then-has_row.ensures.value c.in_ok-self-inside.ensures) entry
    (subst (λ (l : List Entry). Contains l entry) (sym c.self.view_is) k) other live

pub returns-else-has_row : goal.returns-else-has_row
returns-else-has_row c = λ entry k other live.
    let last : List Entry = c.self.inside.last.items in
    others_beside c.args.entry.now.row (all_in c.self.inside.lookups.items) (all_in c.drop_in.new.lookups.items) last last
    c.in_ok-drop_in.ensures (λ e h o l. h) entry (subst (λ (l : List Entry). Contains l entry) (sym c.self.view_is) k) other live
