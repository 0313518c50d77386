use Rattle.std.proofs.Common.{List, Contains, sym, subst}
use Rattle.std.proofs.lemmas.Result.{on_ok_weaker}
use Rattle.body_match.specs.declared.lookup.Entry.{Entry}
use Rattle.body_match.specs.Lookup.{entries_in}
use Rattle.body_match.proofs.RegisterLemmas.{kept_beside, added_beside}
use Rattle.body_match.proofs.register.Register.add.Goals as goal

pub returns-then-len-lt-FEW-clause-kept : goal.returns-then-len-lt-FEW-clause-kept
returns-then-len-lt-FEW-clause-kept c = λ other k.
    kept_beside c.self.inside.lookups.items c.self.inside.last.items c.push.new.self.items c.args.entry c.in_ok-push.ensures.items other
    (subst (λ (l : List Entry). Contains l other) (sym c.self.view_is) k)

pub returns-then-len-lt-FEW-clause-added : goal.returns-then-len-lt-FEW-clause-added
returns-then-len-lt-FEW-clause-added c =
    added_beside c.self.inside.lookups.items c.self.inside.last.items c.push.new.self.items c.args.entry c.in_ok-push.ensures.items

pub returns-clause-kept : goal.returns-clause-kept
returns-clause-kept c =
    let pushed = entries_in c.self.inside.lookups.items c.push.new.self.items in
    on_ok_weaker c.merge.result
    (λ (h : (entry : Entry) → Contains pushed entry → Contains c.merge.new.self entry) other k. h other
    (kept_beside c.self.inside.lookups.items c.self.inside.last.items c.push.new.self.items c.args.entry c.in_ok-push.ensures.items other
    (subst (λ (l : List Entry). Contains l other) (sym c.self.view_is) k))) c.merge.ensures

pub returns-clause-added : goal.returns-clause-added
returns-clause-added c =
    let pushed = entries_in c.self.inside.lookups.items c.push.new.self.items in
    on_ok_weaker c.merge.result
    (λ (h : (entry : Entry) → Contains pushed entry → Contains c.merge.new.self entry). h c.args.entry
    (added_beside c.self.inside.lookups.items c.self.inside.last.items c.push.new.self.items c.args.entry c.in_ok-push.ensures.items))
    c.merge.ensures
