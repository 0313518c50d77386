use Rattle.std.proofs.Common.{Contains}
use Rattle.rule_core.specs.Laws.{MapsCompose}
use Rattle.rule_core.proofs.HomomorphismLemmas.{fact_image-both, composed}
use Rattle.rule_core.proofs.EqualSideLemmas.{fact_image-unknown}
use Rattle.rule_core.proofs.laws.maps_of_unknowns_compose.Goals as goal

maps : {C : Type 0} → MapsCompose C
maps first second third g h = composed (Contains first) second third g h

pub returns : goal.returns
returns c = record {
  number_identity = fact_image-unknown;
  text_identity = fact_image-unknown;
  number_images = fact_image-both;
  text_images = fact_image-both;
  number_maps = maps;
  text_maps = maps;
}
