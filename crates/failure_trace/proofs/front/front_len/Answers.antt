use Rattle.std.proofs.Common.{◌≡◌, ◌≢◌, take, drop, rules, arith, subst}
use Rattle.decl_text.specs.declared.token.Kind.{Kind}
use Rattle.decl_text.specs.Tokens.{IsSpelled}
use Rattle.failure_trace.proofs.FrontLemmas.{front_token, front_parts, front_once}
use Rattle.failure_trace.proofs.front.front_len.Goals as goal

pub returns-in_default-clause-none : goal.returns-in_default-clause-none
returns-in_default-clause-none c spelled rest whole e =
    let later = c.in_default.ensures.none _ (front_token c.args.bytes.now spelled rest c.args.kind whole e) in
    omega (arith, later)

pub returns-then-ne-clause-none : goal.returns-then-ne-clause-none
returns-then-ne-clause-none c spelled rest whole e =
    let same = front_once c.args.bytes.now spelled rest c.args.kind c.in-Ok.token whole e c.in-Ok.ensures.token in
    let is : c.in-Ok.token.kind ≡ c.args.kind = same.0 in
    let not : c.in-Ok.token.kind ≢ c.args.kind = search rules in
    not is

pub returns-clause-front : goal.returns-clause-front
returns-clause-front c =
    let is : c.in-Ok.token.kind ≡ c.args.kind = search rules in
    subst (λ (k : Kind). IsSpelled k (take c.in-Ok.token.end c.args.bytes.now) (drop c.in-Ok.token.end c.args.bytes.now)) is
    (front_parts c.args.bytes.now c.in-Ok.token c.in-Ok.ensures.token)
