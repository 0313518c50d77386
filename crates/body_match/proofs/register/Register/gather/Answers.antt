use Rattle.std.proofs.Common.{List, ℕ, subst}
use Rattle.std.specs.Result.{OnOk}
use Rattle.body_match.specs.declared.lookup.Entry.{Entry}
use Rattle.body_match.specs.Lookup.{HasSought, Keeps, all_in}
use Rattle.body_match.proofs.RegisterLemmas.{sought_both, on_both}
use Rattle.body_match.proofs.register.Register.gather.Goals as goal

pub returns : goal.returns
returns c =
    let probe = c.args.probe.now in
    let lookups = c.self.inside.lookups.items in
    let last : List Entry = c.self.inside.last.items in
    let between : List ℕ = c.gather_in.new.rows.items in
    let new : List ℕ = c.gather_beside.new.rows.items in
    let first : HasSought (all_in lookups) probe between =
    subst (λ l. HasSought (all_in l) probe between) c.as_slice.ensures.value c.in_ok-gather_in.ensures in
    subst (λ (l : List Entry). OnOk c.gather_beside.result (HasSought l probe new)) c.self.view_is
    (on_both c.gather_beside.result (HasSought c.as_slice-2.result.now probe new) (Keeps between new) _
    (λ second kept. sought_both (all_in lookups) last probe between new first kept
    (subst (λ (l : List Entry). HasSought l probe new) c.as_slice-2.ensures.value second))
    c.gather_beside.ensures.sought c.gather_beside.ensures.kept)
