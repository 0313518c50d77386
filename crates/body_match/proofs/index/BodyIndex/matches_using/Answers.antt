use Rattle.std.proofs.Common.{◌↔◌, List, AllPairs, Contains, ap, sym, ◌∙◌, subst}
use Rattle.std.specs.Prelude.{slice_get}
use Rattle.std.proofs.lemmas.Result.{IfOk-weaker}
use Rattle.body_match.specs.declared.found.Match.{Match}
use Rattle.body_match.specs.declared.plan.Plan.{Plan}
use Rattle.body_match.specs.Index.{Index}
use Rattle.body_match.specs.Matches.{IsMatch, StandsBefore}
use Rattle.body_match.specs.Using.{AreAllInOrder}
use Rattle.body_match.proofs.IndexLemmas.{can_search_each, lists_each}
use Rattle.body_match.proofs.UsingLemmas.{each_used, used_in_order}
use Rattle.body_match.proofs.index.BodyIndex.matches_using.Goals as goal

pub matches_in-requires-clause-search : goal.matches_in-requires-clause-search
matches_in-requires-clause-search g c = λ k plan e.
    can_search_each c.args.self.now c.plans.ensures.index (g.F.FactSource.rows c.args.source.now) k plan
    (ap (λ (l : List Plan). slice_get l k) (sym c.plans.ensures.value) ∙ e)

pub matches_in-requires-clause-lists : goal.matches_in-requires-clause-lists
matches_in-requires-clause-lists g c = λ k plan e.
    lists_each c.args.self.now (g.F.FactSource.rows c.args.source.now) c.requires.lists k plan
    (ap (λ (l : List Plan). slice_get l k) (sym c.plans.ensures.value) ∙ e)

pub returns-clause-each : goal.returns-clause-each
returns-clause-each g c =
    let index : Index = c.args.self.now in
    let rows = g.F.FactSource.rows c.args.source.now in
    let row = c.args.row in
    IfOk-weaker c.matches_in.result (AreAllInOrder c.plans.result.now rows row)
    (λ (list : List Match). (m : Match) → Contains list m ↔ (IsMatch index.body index.vars rows m × Contains m.rows row))
    (λ list are. each_used index c.plans.ensures.index rows row list
    (subst (λ plans. AreAllInOrder plans rows row list) c.plans.ensures.value are)) c.matches_in.ensures

pub returns-clause-order : goal.returns-clause-order
returns-clause-order g c =
    let index : Index = c.args.self.now in
    let rows = g.F.FactSource.rows c.args.source.now in
    let row = c.args.row in
    IfOk-weaker c.matches_in.result (AreAllInOrder c.plans.result.now rows row) (AllPairs StandsBefore)
    (λ list are. used_in_order index c.plans.ensures.index rows row list
    (subst (λ plans. AreAllInOrder plans rows row list) c.plans.ensures.value are)) c.matches_in.ensures
