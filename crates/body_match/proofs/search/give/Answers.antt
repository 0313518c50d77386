use Rattle.std.proofs.Common.{◌≡◌, ℕ, List, Some, map, sym, ap, ◌∙◌, subst, All}
use Rattle.std.specs.Prelude.{IsSome}
use Rattle.term_core.specs.declared.term.Seen.{Seen}
use Rattle.body_match.specs.declared.places.Place.{Place}
use Rattle.body_match.specs.Search.{IsFindable, IsListedFrom, cell_in}
use Rattle.body_match.proofs.LeafLemmas.{placed_all, made, made_is_listed, only_made}
use Rattle.body_match.proofs.GiveLemmas.{gives_one}
use Rattle.body_match.proofs.search.give.Goals as goal

pub take_values-requires : goal.take_values-requires
take_values-requires g c =
    let task = c.args.search.now in
    let chosen = c.args.walk.now.chosen.items in
    subst (λ (l : List ℕ). All (λ (place : Place). IsSome (cell_in task l place)) c.places-places.result.now) (sym c.as_slice.ensures.value)
    (subst (λ (p : List Place). All (λ (place : Place). IsSome (cell_in task chosen place)) p) (sym c.places-places.ensures.value)
    (placed_all task c.places-places.ensures.task chosen c.args.span c.requires.partial c.requires.whole))

pub returns-clause-gives : goal.returns-clause-gives
returns-clause-gives g c =
    let task = c.args.search.now in
    let chosen = c.args.walk.now.chosen.items in
    let ok = c.places-places.ensures.task in
    let binding : List Seen = c.from_vec-binding.result in
    let rows : c.from_vec-rows.result ≡ chosen = rw c.replace.ensures.value at c.from_vec-rows.ensures in
    let read : binding ≡ c.take_values.new.values.items = rw c.replace-2.ensures.value at c.from_vec-binding.ensures in
    let values : map Some binding ≡ map (cell_in task chosen) task.places = ap (map Some) read ∙ c.in_ok-take_values.ensures
    ∙ ap (λ (l : List ℕ). map (cell_in task l) c.places-places.result.now) c.as_slice.ensures.value
    ∙ ap (map (cell_in task chosen)) c.places-places.ensures.value in
    gives_one g.V.Visitor.takes (IsFindable task) (IsListedFrom task chosen) c.args.visitor.now c.visit.new.self c.in_ok-more.more
    (made task ok chosen c.args.span c.requires.partial c.requires.whole binding values)
    (made_is_listed task ok chosen c.args.span c.requires.partial c.requires.whole binding values)
    (only_made task ok chosen c.args.span c.requires.partial c.requires.whole binding values)
    (subst (λ (r : List ℕ). g.V.Visitor.takes c.args.visitor.now (record { rows = r; binding = binding; span = c.args.span }) c.visit.new.self)
    rows c.in_ok-more.ensures.takes)
