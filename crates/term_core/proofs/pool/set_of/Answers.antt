use Rattle.std.proofs.Common.{◌≡◌, [], string_bytes, ap, ◌∙◌}
use Rattle.std.specs.Str.{bytes_eq}
use Rattle.indexmap.specs.IndexSet.{insert_all}
use Rattle.indexmap.proofs.CallerLemmas.{Drains-YieldsInOrder}
use Rattle.term_core.proofs.PoolLemmas.{inserted_distinct, bytes_eq-flips}
use Rattle.term_core.proofs.pool.set_of.Goals as goal

-- the set is made of what the list gives, which is its texts in order
pub returns : goal.returns
returns c =
    let ran = c.in_ok-collect.ensures.ran in
    let end = ran.1.2 tt in
    let all : ran.0 ≡ c.args.list.items =
    Drains-YieldsInOrder _ _ c.into_iter.result ran.0 c.into_iter.ensures.runs (end.0, (ran.1.0, ran.1.1, end.1)) ∙ c.into_iter.ensures.rest in
    ran.2.0 ∙ ap (insert_all (λ a b. bytes_eq (string_bytes a) (string_bytes b)) []) all
    ∙ inserted_distinct (λ a b. bytes_eq (string_bytes a) (string_bytes b)) (λ a b. bytes_eq-flips (string_bytes a) (string_bytes b))
    c.args.list.items c.requires
