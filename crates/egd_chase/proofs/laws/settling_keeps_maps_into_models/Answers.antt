use Rattle.egd_chase.proofs.RunMaps.{runs_keep_maps, runs_lead_on, clashes_end_maps}
use Rattle.egd_chase.proofs.laws.settling_keeps_maps_into_models.Goals as goal

pub returns : goal.returns
returns c = record {
  keeps = runs_keep_maps;
  leads = runs_lead_on;
  clashes = clashes_end_maps;
}
