use Rattle.std.proofs.Common.{Some, sym, ap, ◌∙◌}
use Rattle.std.proofs.lemmas.Option.{slice_get-get_or}
use Rattle.std.proofs.lemmas.Slice.Eq.{bytes_eq-Decides}
use Rattle.exchange_engine.proofs.GatheredLemmas.{text_found}
use Rattle.exchange_engine.proofs.loading.pool.is_at.Goals as goal

pub returns-in-Some : goal.returns-in-Some
returns-in-Some c = λ same.
    let found = c.args.found.now in
    let one = c.in-Some.one.now in
    let there = c.in-Some.ensures.lookup in
    text_found found c.args.place one (slice_get-get_or found c.args.place one there.3.0 ∙ ap Some (sym there.1))
    ∙ ap Some ((bytes_eq-Decides one.text.now c.args.text.now).0 (sym c.eq.ensures ∙ same))
