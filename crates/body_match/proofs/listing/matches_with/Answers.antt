use Rattle.std.proofs.Common.{◌↔◌, List, AllPairs, Contains, length, ap, sym, ◌∙◌, subst}
use Rattle.std.specs.Prelude.{slice_get}
use Rattle.std.proofs.lemmas.Result.{IfOk-weaker}
use Rattle.body_match.specs.declared.found.Match.{Match}
use Rattle.body_match.specs.declared.plan.Plan.{Plan}
use Rattle.body_match.specs.Index.{Index}
use Rattle.body_match.specs.Matches.{IsMatch, StandsBefore}
use Rattle.body_match.specs.Using.{AreAllInOrder}
use Rattle.body_match.proofs.IndexLemmas.{can_search_each, index_of, lists_each, lists_of}
use Rattle.body_match.proofs.UsingLemmas.{each_used, used_in_order}
use Rattle.body_match.proofs.listing.matches_with.Goals as goal

pub matches_in-requires-clause-search : goal.matches_in-requires-clause-search
matches_in-requires-clause-search g c = λ k plan e.
    let body = c.args.body.now in
    let rows = g.F.FactSource.rows c.args.source.now in
    let plans : List Plan = c.in_ok-plans.plans.items in
    let index : Index = record { body = body; vars = c.args.vars; plans = plans } in
    can_search_each index (index_of body c.args.vars rows plans c.requires.vars c.in_ok-plans.ensures) rows k plan
    (ap (λ (l : List Plan). slice_get l k) (sym c.as_slice.ensures.value) ∙ e)

pub matches_in-requires-clause-lists : goal.matches_in-requires-clause-lists
matches_in-requires-clause-lists g c = λ k plan e.
    let body = c.args.body.now in
    let rows = g.F.FactSource.rows c.args.source.now in
    let plans : List Plan = c.in_ok-plans.plans.items in
    let index : Index = record { body = body; vars = c.args.vars; plans = plans } in
    lists_each index rows (lists_of body c.args.vars rows plans (length body) c.in_ok-plans.ensures) k plan
    (ap (λ (l : List Plan). slice_get l k) (sym c.as_slice.ensures.value) ∙ e)

pub returns-clause-each : goal.returns-clause-each
returns-clause-each g c =
    let body = c.args.body.now in
    let rows = g.F.FactSource.rows c.args.source.now in
    let row = c.args.row in
    let plans : List Plan = c.in_ok-plans.plans.items in
    let index : Index = record { body = body; vars = c.args.vars; plans = plans } in
    IfOk-weaker c.matches_in.result (AreAllInOrder c.as_slice.result.now rows row)
    (λ (list : List Match). (m : Match) → Contains list m ↔ (IsMatch body c.args.vars rows m × Contains m.rows row))
    (λ list are. each_used index (index_of body c.args.vars rows plans c.requires.vars c.in_ok-plans.ensures) rows row list
    (subst (λ plans. AreAllInOrder plans rows row list) c.as_slice.ensures.value are)) c.matches_in.ensures

pub returns-clause-order : goal.returns-clause-order
returns-clause-order g c =
    let body = c.args.body.now in
    let rows = g.F.FactSource.rows c.args.source.now in
    let row = c.args.row in
    let plans : List Plan = c.in_ok-plans.plans.items in
    let index : Index = record { body = body; vars = c.args.vars; plans = plans } in
    IfOk-weaker c.matches_in.result (AreAllInOrder c.as_slice.result.now rows row) (AllPairs StandsBefore)
    (λ list are. used_in_order index (index_of body c.args.vars rows plans c.requires.vars c.in_ok-plans.ensures) rows row list
    (subst (λ plans. AreAllInOrder plans rows row list) c.as_slice.ensures.value are)) c.matches_in.ensures
