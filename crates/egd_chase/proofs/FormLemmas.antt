-- What an allowed run comes to, as the definition of what settling gives.
use Rattle.std.proofs.Common.{List}
use Rattle.term_core.specs.declared.const_id.ConstId.{ConstId}
use Rattle.rule_core.specs.Mapping.{RuleSet}
use Rattle.rule_core.specs.Validity.{IsValid}
use Rattle.failure_trace.specs.declared.journal.JournalStep.{JournalStep}
use Rattle.failure_trace.specs.JournalRun.{RowOf}
use Rattle.egd_chase.specs.Settled.{LeadsTo, LeadsToClash, AreSettledForm, HaveNoModel}
use Rattle.egd_chase.proofs.RunMaps.{runs_keep_maps, runs_lead_on, clashes_end_maps}
use Rattle.egd_chase.proofs.SettledLemmas.{settled_rows_hold}

pub form_of_run : (rules : RuleSet) (rows last : List (RowOf ConstId)) (journal : List JournalStep) → IsValid rules
    → LeadsTo rules rows last journal → AreSettledForm rules rows last
form_of_run rules rows last journal valid leads = record {
  hold = settled_rows_hold rules last valid leads.settled;
  maps = runs_lead_on rules rows last journal leads.run;
  least = λ t instance into. record {
    of_unknown = into.1.of_unknown;
    into = runs_keep_maps rules rows last journal leads.run instance into.0 into.1.of_unknown t into.1.into;
  };
}

pub no_model_of_clash : (rules : RuleSet) (rows : List (RowOf ConstId)) (journal : List JournalStep) (clash : JournalStep)
    → LeadsToClash rules rows journal clash → HaveNoModel rules rows clash
no_model_of_clash rules rows journal clash leads t has instance into =
    clashes_end_maps rules rows leads.last journal clash leads.run leads.allowed t has instance into.0 into.1
