use Rattle.std.proofs.Common.{List, length, refl, subst, arith, Contains}
use Rattle.std.proofs.lemmas.Option.{slice_get_read}
use Rattle.body_match.specs.declared.found.Match.{Match}
use Rattle.body_match.proofs.ListLemmas.{contains_from_at}
use Rattle.egd_chase.specs.declared.settling.Outcome.{Outcome}
use Rattle.egd_chase.specs.Steps.{Comes}
use Rattle.egd_chase.proofs.SettleLemmas.{lower_on, lower_still}
use Rattle.egd_chase.proofs.settling.take_all.Goals as goal
use Rattle.egd_chase.proofs.settling.take_all.Goals.{in-Equated, in-Passed}

pub loop-found-preserved : goal.loop-found-preserved
loop-found-preserved g c =
    let rules = c.args.rules.now in
    let batch = c.args.batch.now in
    let before = c.loop-found in
    let new = c.take_one.new in
    let items : List Match = c.as_slice-found-items.result.now in
    let found = c.found-item.result in
    let numbers = c.as_slice-rows.result.now in
    let listed : Contains batch.found found = subst (λ (l : List Match). Contains l found) c.as_slice-found-items.ensures
    (contains_from_at items before.found-index found
    (slice_get_read items (length items) before.found-index found refl c.loop-found-test.true c.found-item.is)) in
    elim c.match-branch-2.branch [
      | in-Equated w ↦ record {
        way = λ rows way. (subst (λ (o : Outcome). Comes rules rows before.store new.store new.search new.journal batch.egd numbers o)
            w.in-Equated.is (c.in_ok-take_one.ensures rows (before.invariant.way rows way))).0;
        first = λ same. absurd (omega (arith, same));
        lower = λ l rows way.
            let comes = subst (λ (o : Outcome). Comes rules rows before.store new.store new.search new.journal batch.egd numbers o)
            w.in-Equated.is (c.in_ok-take_one.ensures rows (before.invariant.way rows way)) in
            lower_on rows c.args.store.now before.store new.store before.found-index before.invariant.first
            (λ some. before.invariant.lower some rows way) comes.1;
      }
      | in-Passed w ↦ record {
        way = λ rows way. (subst (λ (o : Outcome). Comes rules rows before.store new.store new.search new.journal batch.egd numbers o)
            w.in-Passed.is (c.in_ok-take_one.ensures rows (before.invariant.way rows way))).0;
        first = λ same. absurd (omega (arith, same));
        lower = λ l rows way.
            let comes = subst (λ (o : Outcome). Comes rules rows before.store new.store new.search new.journal batch.egd numbers o)
            w.in-Passed.is (c.in_ok-take_one.ensures rows (before.invariant.way rows way)) in
            lower_still rules rows c.args.store.now before.store new.store batch c.requires.batch found listed numbers c.as_slice-rows.ensures
            before.found-index before.invariant.first (λ some. before.invariant.lower some rows way) comes.1 comes.2;
      }
    ]
