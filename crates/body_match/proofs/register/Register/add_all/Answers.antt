use Rattle.std.proofs.Common.{List, Contains, sym, subst}
use Rattle.std.proofs.lemmas.Result.{on_ok_weaker}
use Rattle.body_match.specs.declared.lookup.Entry.{Entry}
use Rattle.body_match.specs.Lookup.{entries_in}
use Rattle.body_match.proofs.RenewalLemmas.{kept_beside_all, added_beside_all}
use Rattle.body_match.proofs.register.Register.add_all.Goals as goal

pub returns-then-len-lt-FEW-clause-kept : goal.returns-then-len-lt-FEW-clause-kept
returns-then-len-lt-FEW-clause-kept c = λ other k.
    kept_beside_all c.self.inside.lookups.items c.self.inside.last.items c.append.new.self.items c.args.entries.items
    c.in_ok-append.ensures.items other (subst (λ (l : List Entry). Contains l other) (sym c.self.view_is) k)

pub returns-then-len-lt-FEW-clause-added : goal.returns-then-len-lt-FEW-clause-added
returns-then-len-lt-FEW-clause-added c = λ entry k.
    added_beside_all c.self.inside.lookups.items c.self.inside.last.items c.append.new.self.items c.args.entries.items
    c.in_ok-append.ensures.items entry k

pub returns-clause-kept : goal.returns-clause-kept
returns-clause-kept c =
    let longer = entries_in c.self.inside.lookups.items c.append.new.self.items in
    on_ok_weaker c.merge.result
    (λ (h : (entry : Entry) → Contains longer entry → Contains c.merge.new.self entry) other k. h other
    (kept_beside_all c.self.inside.lookups.items c.self.inside.last.items c.append.new.self.items c.args.entries.items
    c.in_ok-append.ensures.items other (subst (λ (l : List Entry). Contains l other) (sym c.self.view_is) k))) c.merge.ensures

pub returns-clause-added : goal.returns-clause-added
returns-clause-added c =
    let longer = entries_in c.self.inside.lookups.items c.append.new.self.items in
    on_ok_weaker c.merge.result
    (λ (h : (entry : Entry) → Contains longer entry → Contains c.merge.new.self entry) entry k. h entry
    (added_beside_all c.self.inside.lookups.items c.self.inside.last.items c.append.new.self.items c.args.entries.items
    c.in_ok-append.ensures.items entry k)) c.merge.ensures
