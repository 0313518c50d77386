-- What loading promises, with the facts that the types keep.
use Rattle.std.proofs.Common.{subst}
use Rattle.rule_core.specs.Validity.{IsValid}
use Rattle.mapping_core.specs.Mapping.{Meaning, HasItsConstants}
use Rattle.exchange_engine.specs.Loading.{LoadedOf, HasEachConstant}
use Rattle.exchange_cli.proofs.solving.load_inputs.Goals as goal

pub returns : goal.returns
returns c = record {
  read_valid = subst (λ (m : Meaning). IsValid m.rules) c.mapping.view_is c.is_kept.ensures;
  constants = subst (λ (m : Meaning). HasItsConstants m.rules m.pool) c.mapping.view_is c.mapping.invariant;
  valid = subst (λ (l : LoadedOf). IsValid l.rules) c.loaded.view_is c.is_kept-2.ensures;
  pool = rw (← c.loaded.view_is) c.len.ensures.pool;
  each = subst HasEachConstant c.loaded.view_is c.loaded.invariant;
  rules = c.in_ok-loaded.ensures.rules;
  facts = c.in_ok-loaded.ensures.facts;
  once = rw (← c.loaded.view_is) c.facts.ensures.table;
}
