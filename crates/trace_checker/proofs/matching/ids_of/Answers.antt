use Rattle.std.proofs.Common.{◌<◌, length, All, sym, subst}
use Rattle.std.proofs.lemmas.List.{take_all}
use Rattle.std.proofs.lemmas.List.Elements.{All-push}
use Rattle.term_core.specs.declared.const_id.ConstId.{ConstId}
use Rattle.trace_checker.specs.Names.{term_named}
use Rattle.trace_checker.specs.States.{NameThem}
use Rattle.trace_checker.proofs.NameLemmas.{map_pushed_at}
use Rattle.trace_checker.proofs.SourceLemmas.{named, not_named}
use Rattle.trace_checker.proofs.matching.ids_of.Goals as goal

pub loop-name-preserved : goal.loop-name-preserved
loop-name-preserved c =
    let pool = c.args.pool.now in
    record {
      within = subst (All (λ (id : ConstId). id.0 < length pool)) (sym c.in_ok-push.ensures.ok)
          (All-push (λ (id : ConstId). id.0 < length pool) c.loop-name.ids c.in-Some.id c.loop-name.invariant.within c.in-Some.ensures.found.0);
      same = map_pushed_at (named pool) term_named c.args.names.now c.loop-name.name-index _ c.loop-name-test.true
          c.loop-name.ids c.push.new.self c.in-Some.id c.loop-name.invariant.same c.in_ok-push.ensures.ok c.in-Some.ensures.found.1;
    }

pub returns-in_default-clause-none : goal.returns-in_default-clause-none
returns-in_default-clause-none c = λ ids them.
    not_named c.args.pool.now ids c.args.names.now c.loop-name.name-index _ c.loop-name-test.true c.in_default.ensures.none them

pub returns-clause-found : goal.returns-clause-found
returns-clause-found c =
    subst (NameThem c.args.pool.now c.loop-name.ids) (take_all c.loop-name.name-index c.args.names.now c.loop-name-test.false) c.loop-name.invariant
