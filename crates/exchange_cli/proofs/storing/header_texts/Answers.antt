use Rattle.std.proofs.Common.{◌≡◌, [], ◌∷◌, ◌++◌, ◌∙◌, codes, append_assoc}
use Rattle.std.proofs.lemmas.List.{take_all}
use Rattle.exchange_cli.proofs.storing.header_texts.Goals as goal

pub returns : goal.returns
returns c =
    let columns = c.args.columns.now in
    let past = rw c.as_slice-column-items.ensures at c.loop-column-test.false in
    let all : c.loop-column.header ≡ columns = c.loop-column.invariant ∙ take_all c.loop-column.column-index columns past in
    c.in_ok-push-3.ensures.ok
    ∙ (λ i. c.in_ok-push-2.ensures.ok i ++ c.in_ok-from_str-3.ensures i ∷ [])
    ∙ (λ i. (all i ++ c.in_ok-from_str-2.ensures i ∷ []) ++ codes "end" ∷ [])
    ∙ append_assoc columns (codes "start" ∷ []) (codes "end" ∷ [])
