use Rattle.std.proofs.Common.{◌≡◌, ℕ, ◌<◌, ◌↔◌, ◌++◌, [], true, List, sym, ◌∙◌, subst, Contains}
use Rattle.rule_core.specs.declared.rules.Branch.{Branch}
use Rattle.rule_core.specs.Validity.{occurrences}
use Rattle.body_match.specs.declared.found.Match.{Match}
use Rattle.body_match.specs.Matches.{AreMatches}
use Rattle.body_match.specs.Visits.{TakesInTurn}
use Rattle.certain_answers.specs.declared.collecting.Collector.{Collector}
use Rattle.certain_answers.specs.Answering.{IsAnswerable}
use Rattle.certain_answers.specs.Collected.{AddsBranch, Collects}
use Rattle.certain_answers.proofs.AnswerLemmas.{Entry, branch_collected}
use Rattle.certain_answers.proofs.querying.with_branch.Goals as goal

pub visit_matches-requires-clause-vars : goal.visit_matches-requires-clause-vars
visit_matches-requires-clause-vars g c =
    subst (λ (n : ℕ). (v : ℕ) → Contains (occurrences c.args.branch.now.body) v ↔ (v < n)) (sym c.len-vars.ensures) c.requires.vars

pub returns : goal.returns
returns g c =
    let branch : Branch = c.args.branch.now in
    let rows = g.F.FactSource.rows c.args.source.now in
    let old : Collector = c.new-collector.result in
    let new : Collector = c.visit_matches.new.visitor in
    let whole = c.in_ok-visit_matches.field-0 in
    let answerable : IsAnswerable branch =
    record { atoms = c.requires.atoms; few = c.requires.few; vars = c.requires.vars; columns = c.requires.columns } in
    let added = branch_collected rows branch answerable old new whole c.in_ok-visit_matches.ensures.stops
    (c.new-collector.ensures.columns ∙ c.as_slice.ensures)
    (subst (λ (n : ℕ). (list : List Match) × (rest : List Match) × AreMatches branch.body n rows (list ++ rest)
    × (whole ≡ true → rest ≡ []) × TakesInTurn Collects old list new) c.len-vars.ensures c.in_ok-visit_matches.ensures.visits) in
    subst (λ (l : List Entry). AddsBranch rows branch c.args.rows.items l) (sym c.into_rows.ensures)
    (subst (λ (l : List Entry). AddsBranch rows branch l new.rows.items) c.new-collector.ensures.rows added)
