use Rattle.std.proofs.Common.{◌≡◌, ◌≢◌, arith, rules}
use Rattle.std.proofs.lemmas.Result.{IfOk-weaker}
use Rattle.decl_text.specs.declared.token.Kind.TheVariants.{Finish}
use Rattle.mapping_core.proofs.PoolLemmas.{Gathers-step, pool_of}
use Rattle.mapping_core.proofs.QuotedLemmas.{quoted_no_fault, quoted_no_finish, AtEnd-finish, token_forward}
use Rattle.mapping_core.proofs.reading.read_pool.Goals as goal

pub returns-in_default-clause-pool : goal.returns-in_default-clause-pool
returns-in_default-clause-pool c =
    pool_of c.args.bytes.now c.loop-token.texts c.loop-token.from c.finish.result c.loop-token.invariant
    (λ text. quoted_no_fault c.args.bytes.now c.loop-token.from c.in_default.field-0 text c.in_default.ensures.fault) c.finish.ensures.has
    c.finish.ensures.pool

pub returns-then-eq-clause-pool : goal.returns-then-eq-clause-pool
returns-then-eq-clause-pool c =
    let kind : c.in-Ok.token.kind ≡ Finish = search rules in
    pool_of c.args.bytes.now c.loop-token.texts c.loop-token.from c.finish-then-eq.result c.loop-token.invariant
    (λ text. quoted_no_finish c.args.bytes.now c.loop-token.from text
    (AtEnd-finish c.args.bytes.now c.loop-token.from c.in-Ok.token c.in-Ok.ensures.token kind))
    c.finish-then-eq.ensures.has c.finish-then-eq.ensures.pool

pub loop-token-smaller : goal.loop-token-smaller
loop-token-smaller c =
    let other : c.in-Ok.token.kind ≢ Finish = search rules in
    let forward = token_forward c.args.bytes.now c.loop-token.from c.in-Ok.token c.in-Ok.ensures.token other in
    let next = Gathers-step c.args.bytes.now c.loop-token.texts c.add_quoted.new.texts c.loop-token.from c.in-Ok.token c.loop-token.invariant
    c.in-Ok.ensures.token other c.in_ok-add_quoted.ensures.has c.in_ok-add_quoted.ensures.few in
    omega (arith, forward, next.within)

pub loop-token-preserved : goal.loop-token-preserved
loop-token-preserved c =
    let other : c.in-Ok.token.kind ≢ Finish = search rules in
    Gathers-step c.args.bytes.now c.loop-token.texts c.add_quoted.new.texts c.loop-token.from c.in-Ok.token c.loop-token.invariant c.in-Ok.ensures.token
    other c.in_ok-add_quoted.ensures.has c.in_ok-add_quoted.ensures.few

pub returns-in_default-clause-few : goal.returns-in_default-clause-few
returns-in_default-clause-few c = IfOk-weaker c.finish.result _ _
    (λ pool few. omega (arith, few, c.loop-token.invariant.few, c.loop-token.invariant.within)) c.finish.ensures.few

pub returns-then-eq-clause-few : goal.returns-then-eq-clause-few
returns-then-eq-clause-few c = IfOk-weaker c.finish-then-eq.result _ _
    (λ pool few. omega (arith, few, c.loop-token.invariant.few, c.loop-token.invariant.within)) c.finish-then-eq.ensures.few
