use Rattle.std.proofs.Common.{◌≡◌, ◌++◌, ◌∷◌, [], length, get_or, sym, subst}
use Rattle.failure_trace.specs.Projected.{BindsFirst}
use Rattle.failure_trace.proofs.BindingLemmas.{name_at, bound_pushed}
use Rattle.failure_trace.proofs.binding.push_bound.Goals as goal

pub returns-clause-bound : goal.returns-clause-bound
returns-clause-bound c =
    let names = c.args.names.now in
    let binding = c.args.binding.now in
    let is = name_at names c.len.result (length binding) c.as_str.result.now c.in_ok-name.name c.in_ok-name.ensures
    (subst (λ x. x ≡ get_or names c.len.result x) (sym c.as_str.ensures) c.index-names-len.is) c.len.ensures in
    λ told b. subst (BindsFirst names (told ++ c.args.value ∷ [])) (sym c.in_ok-push.ensures.ok)
    (bound_pushed names told binding c.in_ok-name.name c.args.value c.requires.names c.requires.within is c.requires.value b)
