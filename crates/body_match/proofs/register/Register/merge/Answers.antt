use Rattle.std.proofs.Common.{List, Contains, sym, subst}
use Rattle.body_match.specs.declared.lookup.Entry.{Entry}
use Rattle.body_match.specs.Lookup.{Tree, entries_in}
use Rattle.body_match.proofs.RegisterLemmas.{moved_into}
use Rattle.body_match.proofs.register.Register.merge.Goals as goal

pub returns : goal.returns
returns c = λ entry k.
    let tree : Tree = c.in_ok-make.field-0 in
    let kept : List Tree = c.take_small.new.lookups.items in
    let before : Contains (entries_in c.self.inside.lookups.items c.self.inside.last.items) entry =
    subst (λ (l : List Entry). Contains l entry) (sym c.self.view_is) k in
    let taken = c.in_ok-take_small.ensures entry
    (subst (λ v. Contains (entries_in c.self.inside.lookups.items v.items) entry) (sym c.replace-entries.ensures.value) before) in
    subst (λ (l : List Tree). Contains (entries_in l c.replace-entries.new.dest.items) entry) (sym c.in_ok-push.ensures.items)
    (moved_into kept tree c.take_small.new.entries.items c.replace-entries.new.dest.items c.in_ok-make.ensures entry taken)
