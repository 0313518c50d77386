use Rattle.rule_core.proofs.RenamingLemmas.{same_matches, same_tgd, same_egd, same_maps, same_solutions, same_solvable, same_has_solution, same_universal, same_answers, same_certain, same_snapshots}
use Rattle.rule_core.proofs.laws.a_renaming_keeps_what_holds.Goals as goal

pub returns : goal.returns
returns c = record {
  matches = same_matches;
  tgd = same_tgd;
  egd = same_egd;
  maps = same_maps;
  solution = same_solutions;
  solvable = same_solvable;
  has_solution = same_has_solution;
  universal = same_universal;
  answer = same_answers;
  certain = same_certain;
  snapshots = same_snapshots;
}
