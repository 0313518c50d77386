use Rattle.std.proofs.Common.{OnOk, length, subst}
use Rattle.std.proofs.lemmas.Result.{on_ok_weaker}
use Rattle.body_match.specs.Index.{Index, Grows}
use Rattle.body_match.specs.Plans.{IsListedFor, KeepListed}
use Rattle.body_match.proofs.IndexLemmas.{can_list, grows, lists_row, still_index}
use Rattle.body_match.proofs.index.BodyIndex.list_row.Goals as goal

pub list_plans-requires : goal.list_plans-requires
list_plans-requires g c = λ k plan e. can_list c.self.inside.body c.self.inside.vars k plan (c.self.invariant.each k plan e)

pub returns-clause-grows : goal.returns-clause-grows
returns-clause-grows g c =
    let body = c.self.inside.body in
    let vars = c.self.inside.vars in
    let old = c.self.inside.plans.items in
    let new = c.list_plans.new.plans.items in
    subst (λ (index : Index). OnOk c.list_plans.result (Grows index (record { body = body; vars = vars; plans = new }))) c.self.view_is
    (on_ok_weaker c.list_plans.result (λ (h : KeepListed old new). grows body vars old new c.list_plans.ensures.same h) c.list_plans.ensures.kept)

pub returns-clause-listed : goal.returns-clause-listed
returns-clause-listed g c =
    let rows = g.F.FactSource.rows c.args.source.now in
    let new = c.list_plans.new.plans.items in
    on_ok_weaker c.list_plans.result
    (λ (h : IsListedFor new rows c.args.row (length new)). lists_row c.self.inside.body c.self.inside.vars rows c.args.row new h)
    c.list_plans.ensures.listed

pub invariant_of-self : goal.invariant_of-self
invariant_of-self g c =
    still_index c.self.inside.body c.self.inside.vars c.self.inside.plans.items c.list_plans.new.plans.items c.list_plans.ensures.same
    c.self.invariant
