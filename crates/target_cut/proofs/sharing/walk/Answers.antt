use Rattle.std.proofs.Common.{◌≡◌, List, ℕ, ap, ◌∙◌}
use Rattle.std.specs.Prelude.{nat_eq}
use Rattle.indexmap.specs.IndexSet.{insert_all}
use Rattle.indexmap.proofs.CallerLemmas.{Drains-YieldsInOrder}
use Rattle.target_cut.proofs.SearchLemmas.{walks, inserts_all}
use Rattle.target_cut.proofs.sharing.walk.Goals as goal

pub returns : goal.returns
returns g c =
    let ran = c.in_ok-extend.ensures.ran in
    let old : List ℕ = c.args.rows.now.keys in
    let holders : List ℕ = c.in_ok-holders.holders in
    let all : ran.1 ≡ holders = Drains-YieldsInOrder _ _ ran.0 ran.1 ran.2.3 ran.4 ∙ ran.2.0 ∙ c.into_vec.ensures in
    walks c.args.store.now c.args.piece holders c.in_ok-holders.ensures.rows old c.extend.new.self.keys
    (inserts_all old holders c.extend.new.self.keys (ran.3.0 ∙ ap (insert_all nat_eq old) all))
