use Rattle.std.proofs.Common.{List, subst}
use Rattle.term_core.specs.declared.const_id.ConstId.{ConstId}
use Rattle.rule_core.specs.Mapping.{RuleSet}
use Rattle.failure_trace.specs.JournalRun.{RowOf}
use Rattle.null_store.specs.Store.{facts_in}
use Rattle.egd_chase.specs.declared.settling.Settled.{Settled}
use Rattle.egd_chase.specs.Settled.{IfClash, LeadsToClash, HaveNoModel}
use Rattle.exchange_engine.specs.Loading.{LoadedOf}
use Rattle.exchange_engine.proofs.solving.exchange.Goals as goal

pub failed_from-requires : goal.failed_from-requires
failed_from-requires g c =
    let rules : RuleSet = c.loaded.inside.rules in
    let rows : List (RowOf ConstId) = facts_in c.in_ok-pieces.field-0.store in
    record {
      rows = rows;
      started = c.in_ok-pieces.ensures.started;
      leads = subst (λ (l : LoadedOf). LeadsToClash l.rules rows c.in-Clash.journal c.in-Clash.last) c.loaded.view_is
          (subst (λ (s : Settled). IfClash s (LeadsToClash rules rows)) c.in-Clash.is c.in_ok-store.ensures.clash);
      none = subst (λ (l : LoadedOf). HaveNoModel l.rules rows c.in-Clash.last) c.loaded.view_is
          (subst (λ (s : Settled). IfClash s (λ _ last. HaveNoModel rules rows last)) c.in-Clash.is c.in_ok-store.ensures.none);
    }
