use Rattle.std.proofs.Common.{◌≡◌, ℕ, List, inl, inr, refl, sym, subst, rules}
use Rattle.std.specs.Prelude.{◌≢◌}
use Rattle.rule_core.specs.declared.rules.Place.{Place}
use Rattle.rule_core.specs.Adding.{IsNamedAt}
use Rattle.rule_text.proofs.LookupLemmas.{declared_at, named_is_declared, not_on_other_side, found_is_first}
use Rattle.rule_text.proofs.relations.find_relation.Goals as goal

pub returns-in_default-clause-missing : goal.returns-in_default-clause-missing
returns-in_default-clause-missing c =
    let none = c.in_default.ensures.none in
    inl (
      (λ declared. let there = declared_at c.args.rules.now c.args.name.now declared in
          none there.0 there.1 (subst (λ (n : List ℕ). IsNamedAt c.args.rules.now n there.0 there.1) (sym c.as_str.ensures) there.2)),
      refl,
    )

pub returns-then-ne-clause-missing : goal.returns-then-ne-clause-missing
returns-then-ne-clause-missing c =
    let named = subst (λ (n : List ℕ). IsNamedAt c.args.rules.now n c.in-Some.place c.in-Some.number) c.as_str.ensures c.in-Some.ensures.found in
    let other : c.in-Some.place ≢ c.args.side = search rules in
    inr (
      named_is_declared c.args.rules.now c.args.name.now c.in-Some.place c.in-Some.number named,
      not_on_other_side c.args.rules.now c.args.name.now c.in-Some.place c.args.side c.in-Some.number c.is_kept.ensures.relations named other,
      refl,
    )

pub returns-clause-found : goal.returns-clause-found
returns-clause-found c =
    let same : c.in-Some.place ≡ c.args.side = search rules in
    let named = subst (λ (n : List ℕ). IsNamedAt c.args.rules.now n c.args.side c.in-Some.number) c.as_str.ensures
    (subst (λ (side : Place). IsNamedAt c.args.rules.now c.as_str.result.now side c.in-Some.number) same c.in-Some.ensures.found) in
    found_is_first c.args.rules.now c.args.name.now c.args.side c.in-Some.number c.width_of-width.result c.is_kept.ensures.relations named
    c.width_of-width.ensures
