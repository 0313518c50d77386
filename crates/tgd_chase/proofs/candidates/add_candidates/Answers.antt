use Rattle.std.proofs.Common.{ap, ◌∙◌, subst, List}
use Rattle.rule_core.specs.Firing.{frontier_of}
use Rattle.rule_core.proofs.FiringLemmas.{frontier_is, one_frontier}
use Rattle.tgd_chase.specs.Candidates.{AddsCandidates}
use Rattle.tgd_chase.specs.declared.candidates.Candidate.{Candidate}
use Rattle.tgd_chase.specs.declared.candidates.Finder.{Finder}
use Rattle.tgd_chase.proofs.CandidateLemmas.{takes_all}
use Rattle.tgd_chase.proofs.candidates.add_candidates.Goals as goal

pub returns : goal.returns
returns g c =
    let tgd = c.args.tgd.now in
    let visits = c.in_ok-whole.ensures.visits in
    let old : Finder = record { alloc = c.args.alloc; rule = c.args.rule; variables = c.in_ok-variables.variables; list = c.replace.result } in
    let h = takes_all c.args.table.now c.args.rule tgd c.requires.vars visits.0 visits.1 old c.visit_matches.new.visitor visits.2
    (visits.3 c.if-prove.false) visits.4 (λ i. c.args.rule)
    (one_frontier tgd c.in_ok-variables.variables (frontier_of tgd) c.in_ok-variables.ensures (frontier_is tgd)) in
    subst (λ (l : List Candidate). AddsCandidates c.args.table.now c.args.rule tgd l c.visit_matches.new.visitor.list.items)
    (ap (λ v. v.items) c.replace.ensures.value ∙ c.in_ok-reserve.ensures.items) h
