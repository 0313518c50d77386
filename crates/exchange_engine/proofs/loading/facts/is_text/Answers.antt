use Rattle.std.proofs.Common.{◌∙◌, [], sym}
use Rattle.std.proofs.lemmas.Bool.{OnTrue_from}
use Rattle.std.proofs.lemmas.Option.{get_or_from_slice_get}
use Rattle.std.proofs.lemmas.Slice.Eq.{bytes_eq-Decides}
use Rattle.exchange_engine.proofs.loading.facts.is_text.Goals as goal

pub returns-then-id-len-clause-reads : goal.returns-then-id-len-clause-reads
returns-then-id-len-clause-reads c =
    let read = get_or_from_slice_get c.args.pool.now c.args.id.0 c.text.result.now [] c.text.ensures in
    OnTrue_from c.eq.result _ (λ yes. read ∙ (bytes_eq-Decides c.text.result.now c.args.text.now).0 (sym c.eq.ensures ∙ yes))
