use Rattle.rule_core.specs.Laws.{ReplacingKeepsMaps}
use Rattle.rule_core.proofs.EqualSideLemmas.{replaced_goes, clash_has_no_map}
use Rattle.rule_core.proofs.laws.equal_sides_may_be_replaced.Goals as goal

replacing : {C : Type 0} → ReplacingKeepsMaps C
replacing name egd facts instance u term by sides replaces holds h goes =
    replaced_goes name egd facts instance holds h goes u term by sides replaces

pub returns : goal.returns
returns c = record {
  numbers = replacing;
  texts = replacing;
  number_clashes = clash_has_no_map;
  text_clashes = clash_has_no_map;
}
