use Rattle.std.proofs.Common.{◌≡◌, ◌++◌, ◌+◌, ◌∷◌, [], List, length, Contains, sym, ap, ◌∙◌, subst, arith}
use Rattle.std.proofs.lemmas.List.{length_push}
use Rattle.std.proofs.lemmas.Result.{on_ok_weaker}
use Rattle.body_match.specs.declared.lookup.Entry.{Entry}
use Rattle.body_match.specs.Lookup.{Tree, entries_in}
use Rattle.body_match.proofs.RegisterLemmas.{moved_beside}
use Rattle.body_match.proofs.register.+take_small.Goals as goal

pub take_small-requires : goal.take_small-requires
take_small-requires t c =
    let was = c.in-Some.ensures in
    let less : length c.args.lookups.now.items ≡ length c.pop_small.new.lookups.items + 1 =
    ap length was ∙ length_push c.pop_small.new.lookups.items c.in-Some.lookup in
    (omega (arith, less, c.decreases), tt)

pub returns : goal.returns
returns t c =
    let kept : List Tree = c.pop_small.new.lookups.items in
    let tree : Tree = c.in-Some.lookup in
    let was : c.args.lookups.now.items ≡ kept ++ tree ∷ [] = c.in-Some.ensures in
    let added : c.append.new.self.items ≡ c.args.entries.now.items ++ tree.entries =
    c.in_ok-append.ensures.items ∙ ap (λ (l : List Entry). c.args.entries.now.items ++ l) c.into_entries.ensures in
    on_ok_weaker c.take_small.result
    (λ (h : (entry : Entry) → Contains (entries_in kept c.append.new.self.items) entry
    → Contains (entries_in c.take_small.new.lookups.items c.take_small.new.entries.items) entry) entry k.
    h entry (subst (λ (l : List Entry). Contains (entries_in kept l) entry) (sym added)
    (moved_beside kept tree c.args.entries.now.items entry
    (subst (λ (l : List Tree). Contains (entries_in l c.args.entries.now.items) entry) was k)))) c.take_small.ensures
