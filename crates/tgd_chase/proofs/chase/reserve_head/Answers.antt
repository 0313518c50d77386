use Rattle.std.proofs.Common.{◌≡◌, ℕ, ◌-◌, List, length, sym, ap, ◌∙◌, subst}
use Rattle.std.specs.Prelude.{OnOk, sum_by}
use Rattle.std.proofs.lemmas.List.Concat.{length-flat_map}
use Rattle.rule_core.specs.declared.rules.Atom.{Atom}
use Rattle.rule_core.specs.declared.rules.Tgd.{Tgd}
use Rattle.null_store.specs.Changes.{HasRoom, head_cells, exists_count}
use Rattle.tgd_chase.proofs.chase.reserve_head.Goals as goal

pub returns-clause-room : goal.returns-clause-room
returns-clause-room c =
    let tgd : Tgd = c.args.tgd.now in
    let arguments : Atom → ℕ = λ atom. length atom.args in
    let cells : c.cell_count.result ≡ head_cells tgd =
    c.cell_count.ensures ∙ ap (sum_by arguments) c.as_slice-head.ensures ∙ sym (length-flat_map (λ (atom : Atom). atom.args) tgd.head) in
    subst (λ n. OnOk c.reserve.result (HasRoom c.reserve.new.self (length tgd.head) n (exists_count tgd))) cells
    (subst (λ (l : List Atom). OnOk c.reserve.result (HasRoom c.reserve.new.self (length l) c.cell_count.result (exists_count tgd)))
    c.as_slice-head.ensures
    (subst
    (λ n. OnOk c.reserve.result (HasRoom c.reserve.new.self (length c.as_slice-head.result.now) c.cell_count.result (n - tgd.body_vars)))
    c.len.ensures c.reserve.ensures.room))
