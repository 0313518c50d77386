use Rattle.std.proofs.Common.{◌≡◌, ◌++◌, ◌∷◌, [], List, Contains, sym, ap, ◌∙◌, subst}
use Rattle.std.proofs.lemmas.List.Elements.{Contains-append_right}
use Rattle.body_match.specs.Lookup.{Tree, entries_in}
use Rattle.body_match.proofs.RegisterLemmas.{moved_into}
use Rattle.body_match.proofs.register.Register.make.Goals as goal

pub returns : goal.returns
returns c = λ entry k.
    let tree : Tree = c.in_ok-lookup.lookup in
    let listed : c.push.new.self.items ≡ [] ++ tree ∷ [] =
    c.in_ok-push.ensures.items ∙ ap (λ (l : List Tree). l ++ tree ∷ []) c.new-lookups.ensures.items in
    subst (λ (l : List Tree). Contains (entries_in l c.new.result.items) entry) (sym listed)
    (moved_into [] tree c.args.entries.items c.new.result.items c.in_ok-lookup.ensures entry
    (Contains-append_right [] c.args.entries.items entry k))
