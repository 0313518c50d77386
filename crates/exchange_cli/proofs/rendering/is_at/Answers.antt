-- As many come before an unknown as its place tells.
use Rattle.std.proofs.Common.{◌≡◌, ◌+◌, Some, slice_get, sym, ap, ◌∙◌}
use Rattle.std.proofs.lemmas.Option.{slice_get-get_or}
use Rattle.exchange_cli.proofs.RenderingLemmas.{place_is_count}
use Rattle.exchange_cli.proofs.rendering.is_at.Goals as goal

pub returns-then-place-nulls-clause-place : goal.returns-then-place-nulls-clause-place
returns-then-place-nulls-clause-place c same =
    let nulls = c.args.nulls.now in
    let found : slice_get nulls c.args.place ≡ Some c.args.unknown.now =
    slice_get-get_or nulls c.args.place c.index-nulls-place.result c.if-place-nulls.true
    ∙ ap Some (sym c.index-nulls-place.is ∙ c.are_same.ensures same) in
    ap (λ n. n + 1) (sym (place_is_count c.unknowns_have_one_order.ensures.total nulls c.requires c.args.place c.args.unknown.now found))
