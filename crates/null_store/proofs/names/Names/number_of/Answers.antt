use Rattle.std.proofs.Common.{rules, ◌≡◌, List, Some, map, ap, ◌∙◌, subst}
use Rattle.term_core.specs.declared.const_id.ConstId.{ConstId}
use Rattle.std.proofs.lemmas.Option.{slice_get-map}
use Rattle.std.specs.Option.{option_map}
use Rattle.null_store.specs.contracts.names.NamePartialEq.TheImpl.{eq-value}
use Rattle.null_store.specs.declared.names.Name.{Name}
use Rattle.null_store.specs.Changes.{AddsOnce}
use Rattle.null_store.specs.Layout.{name_of}
use Rattle.null_store.proofs.NameLemmas.{keys_stay, same_names, added_once, stay_distinct}
use Rattle.null_store.proofs.names.Names.number_of.Goals as goal

pub returns-clause-ok : goal.returns-clause-ok
returns-clause-ok c =
    let copy : c.in_ok-frontier.frontier.items ≡ c.args.frontier.now = search rules in
    let stored = c.in_ok-number.ensures.stored in
    let same = same_names (record { rule = c.args.rule; frontier = c.in_ok-frontier.frontier }) stored.0 stored.2 in
    slice_get-map name_of c.insert_full.new.self.keys c.in_ok-number.number ∙ ap (option_map name_of) stored.1 ∙ ap Some same
    ∙ ap (λ (f : List ConstId). Some (record { rule = c.args.rule; frontier = f })) copy

pub returns-clause-keeps : goal.returns-clause-keeps
returns-clause-keeps c =
    rw (← c.self.view_is) (keys_stay name_of eq-value.it c.self.inside.names.keys c.insert_full.new.self.keys
    (record { rule = c.args.rule; frontier = c.in_ok-frontier.frontier }) c.in_ok-number.ensures.keys)

pub returns-clause-once : goal.returns-clause-once
returns-clause-once c =
    let copy : c.in_ok-frontier.frontier.items ≡ c.args.frontier.now = search rules in
    let keys = c.self.inside.names.keys in
    let key : Name = record { rule = c.args.rule; frontier = c.in_ok-frontier.frontier } in
    rw (← c.self.view_is) (subst (λ (f : List ConstId). AddsOnce (map name_of keys) (map name_of c.insert_full.new.self.keys)
    (record { rule = c.args.rule; frontier = f })) copy
    (added_once keys c.insert_full.new.self.keys key c.in_ok-number.ensures.keys))

pub returns-clause-distinct : goal.returns-clause-distinct
returns-clause-distinct c =
    let keys = c.self.inside.names.keys in
    let key : Name = record { rule = c.args.rule; frontier = c.in_ok-frontier.frontier } in
    rw (← c.self.view_is) (stay_distinct keys c.insert_full.new.self.keys key c.in_ok-number.ensures.keys)
