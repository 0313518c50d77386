use Rattle.std.proofs.Common.{◌≡◌, ℕ, List, Some, map, sym, ap, ◌∙◌, subst}
use Rattle.time_line.specs.Span.{Ends}
use Rattle.term_core.specs.declared.term.Seen.{Seen}
use Rattle.body_match.specs.Search.{IsListedFrom, IsPartial, cell_in}
use Rattle.body_match.proofs.LeafLemmas.{made_is_listed}
use Rattle.body_match.proofs.search.match_of.Goals as goal

pub returns-clause-some : goal.returns-clause-some
returns-clause-some g c =
    let task = c.args.search.now in
    let chosen : List ℕ = c.args.rows.items in
    let span : Ends = c.in-Some.span in
    let binding : List Seen = c.from_vec-2.result in
    let partial : IsPartial task chosen span = subst (λ (l : List ℕ). IsPartial task l span) c.as_slice.ensures.value c.in-Some.ensures.some in
    let values : map Some binding ≡ map (cell_in task chosen) task.places = ap (map Some) c.from_vec-2.ensures ∙ c.in_ok-take_values.ensures
    ∙ ap (λ (l : List ℕ). map (cell_in task l) c.places-places.result.now) c.as_slice-2.ensures.value
    ∙ ap (map (cell_in task chosen)) c.places-places.ensures.value in
    subst (λ (r : List ℕ). IsListedFrom task chosen (record { rows = r; binding = binding; span = span })) (sym c.from_vec.ensures)
    (made_is_listed task c.places-places.ensures.task chosen span partial c.requires binding values)
