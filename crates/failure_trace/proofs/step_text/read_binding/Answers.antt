use Rattle.std.proofs.Common.{ℕ, List, [], ◌∷◌, drop, sym, arith}
use Rattle.std.proofs.lemmas.List.{take_rest}
use Rattle.failure_trace.proofs.LineLemmas.{space_first, none_left, bound_so_far}
use Rattle.failure_trace.proofs.step_text.read_binding.Goals as goal

pub returns-then-len-ge-MOST_BOUND-clause-fault : goal.returns-then-len-ge-MOST_BOUND-clause-fault
returns-then-len-ge-MOST_BOUND-clause-fault c =
    let rest : List ℕ = c.loop-rest.rest.now in
    let space = space_first rest c.loop-rest.invariant.ends c.in-len1-up.len_at_least in
    let most = c.loop-rest.invariant.most in (
      c.loop-rest.binding,
      drop 1 rest,
      bound_so_far c.args.bytes.now rest c.loop-rest.binding (32 ∷ drop 1 rest) c.loop-rest.invariant.leads (sym space),
      omega (arith, most),
    )

pub returns-in_default-2-clause-fault : goal.returns-in_default-2-clause-fault
returns-in_default-2-clause-fault c =
    let rest : List ℕ = c.loop-rest.rest.now in
    let space = space_first rest c.loop-rest.invariant.ends c.in-len1-up.len_at_least in
    let none = simp take_rest at (rw c.in_default-2.is at c.in_ok-front.ensures.none) in (
      c.loop-rest.binding,
      drop 1 rest,
      bound_so_far c.args.bytes.now rest c.loop-rest.binding (32 ∷ drop 1 rest) c.loop-rest.invariant.leads (sym space),
      omega arith,
      none,
    )

pub returns-clause-binding : goal.returns-clause-binding
returns-clause-binding c =
    bound_so_far c.args.bytes.now c.loop-rest.rest.now c.loop-rest.binding [] c.loop-rest.invariant.leads
    (none_left c.loop-rest.rest.now c.in_default.len_below)
