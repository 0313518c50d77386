-- A step of a trace that tells a firing or a step of a journal, and lists of them.
use Rattle.std.proofs.Common.{◌≡◌, ℕ, ℤ, ◌-◌, Some, List, map, length, refl, sym, ◌∙◌, subst, arith, All, Contains, IsSomeAnd, slice_get}
use Rattle.std.specs.List.{range_with_len}
use Rattle.std.proofs.lemmas.List.{length-append, length-map, take_all}
use Rattle.std.proofs.lemmas.List.Elements.{All-contains}
use Rattle.std.proofs.lemmas.List.FromFn.{length-range_with_len}
use Rattle.time_line.specs.Span.{Has}
use Rattle.term_core.specs.declared.term.Unknown.{Unknown as HeldUnknown}
use Rattle.rule_core.specs.declared.rules.Tgd.{Tgd}
use Rattle.rule_core.specs.Names.{IsName}
use Rattle.rule_core.specs.Mapping.{RuleSet}
use Rattle.rule_core.specs.Validity.{IsTgd}
use Rattle.failure_trace.specs.declared.firing.Firing.{Firing}
use Rattle.failure_trace.specs.declared.firing.Support.{Support}
use Rattle.failure_trace.specs.declared.trace.Value.{Value}
use Rattle.failure_trace.specs.declared.trace.Value.TheVariants.{Const, Null}
use Rattle.failure_trace.specs.declared.trace.Bound.{Bound}
use Rattle.failure_trace.specs.declared.trace.StepKind.{StepKind}
use Rattle.failure_trace.specs.declared.trace.StepKind.TheVariants.{Tgd as TgdStep}
use Rattle.failure_trace.specs.Printed.{IsWritableStep}
use Rattle.failure_trace.specs.Projected.{pool_text, number_among, exists_unknowns, firing_values, FitsBody, CanTellFiring, TellsFiring, Tells, BindsFirst}
use Rattle.failure_trace.proofs.BindingLemmas.{told_size}

-- a binding of all names
tells_all : (kind : StepKind) (rule : List ℕ) (vars : List (List ℕ)) (values : List Value) (name : List ℕ) (binding : List Bound)
    → name ≡ rule → length values ≡ length vars → BindsFirst vars values binding
    → Tells kind rule vars values (record { kind = kind; rule = name; binding = binding })
tells_all kind rule vars values name binding same size b = record {
  kind_is = refl;
  rule_is = same;
  names = b.names_are ∙ take_all (length values) vars (omega (arith, size));
  told = b.told;
}

module _ (rules : RuleSet) (pool : List (List ℕ)) (unknowns : List HeldUnknown) (t : ℤ) (firing : Firing) (tgd : Tgd) (support : Support)
    (there : slice_get rules.tgds firing.rule ≡ Some tgd) (valid : IsTgd rules.sources rules.targets tgd) (can : CanTellFiring rules pool t firing)
    (among : Contains firing.supports support) where
  pub fits : FitsBody pool tgd support
  fits = All-contains (FitsBody pool tgd) firing.supports support
      (subst (λ o. IsSomeAnd o (λ (g : Tgd). All (FitsBody pool g) firing.supports)) there can.0) among

  values_size : length (firing_values pool unknowns tgd firing support) ≡ length tgd.vars
  values_size =
      let constants = length-map support.binding (λ c. Const (pool_text pool c)) in
      let nulls = length-map (exists_unknowns tgd firing) (λ u. Null (number_among unknowns u)) in
      let given = length-map (range_with_len 0 (length tgd.vars - tgd.body_vars))
      (λ var. the_unknown var) in
      let range = length-range_with_len 0 (length tgd.vars - tgd.body_vars) in
      let both = length-append (map (λ c. Const (pool_text pool c)) support.binding) (map (λ u. Null (number_among unknowns u)) (exists_unknowns tgd firing)) in
      omega (arith, constants, nulls, given, range, both, fits.0, valid.within)
    where
      the_unknown : ℕ → HeldUnknown
      the_unknown var = record { rule = firing.rule; frontier = firing.frontier; var = var }

  pub tells_firing : (at : Has support.span t) (name : List ℕ) (binding : List Bound) → name ≡ tgd.name
      → BindsFirst tgd.vars (firing_values pool unknowns tgd firing support) binding
      → TellsFiring rules pool unknowns t firing (record { kind = TgdStep; rule = name; binding = binding })
  tells_firing at name binding same b = record {
    support = support;
    among = among;
    at = at;
    tells = subst (λ o. IsSomeAnd o (λ (g : Tgd). Tells TgdStep g.name g.vars (firing_values pool unknowns g firing support)
        (record { kind = TgdStep; rule = name; binding = binding }))) (sym there)
        (tells_all TgdStep tgd.name tgd.vars (firing_values pool unknowns tgd firing support) name binding same values_size b);
  }

  pub firing_writable : (name : List ℕ) (binding : List Bound) → name ≡ tgd.name
      → BindsFirst tgd.vars (firing_values pool unknowns tgd firing support) binding
      → IsWritableStep (record { kind = TgdStep; rule = name; binding = binding })
  firing_writable name binding same b = record {
    rule = subst IsName (sym same) valid.name;
    most = omega (arith, told_size tgd.vars (firing_values pool unknowns tgd firing support) binding b, values_size, valid.vars.most);
    bound = b.writable;
  }
