use Rattle.std.proofs.Common.{◌≡◌, [], List, All, Contains, get_or, length, ap, sym, ◌∙◌, subst}
use Rattle.std.specs.Prelude.{slice_get}
use Rattle.std.proofs.lemmas.List.Elements.{Contains-get_or}
use Rattle.std.proofs.lemmas.Result.{IfOk-weaker}
use Rattle.body_match.specs.declared.found.Match.{Match}
use Rattle.body_match.specs.declared.plan.Plan.{Plan}
use Rattle.body_match.specs.Equality.{Equality}
use Rattle.body_match.specs.Index.{IsUnequal}
use Rattle.body_match.specs.Plans.{HaveNone, IsPutBack}
use Rattle.body_match.proofs.IndexLemmas.{can_search_each}
use Rattle.body_match.proofs.UnequalLemmas.{unequal_of_plan}
use Rattle.body_match.proofs.ShownLemmas.{none_unequal}
use Rattle.body_match.proofs.equality.EqualityIndex.unequal_matches.Goals as goal

pub unequal_of-requires-clause-search : goal.unequal_of-requires-clause-search
unequal_of-requires-clause-search g c = λ k plan e.
    can_search_each c.args.self.now.index c.plans.ensures.index (g.F.FactSource.rows c.args.source.now) k plan
    (ap (λ (l : List Plan). slice_get l k) (sym c.plans.ensures.value) ∙ e)

pub returns-clause-each : goal.returns-clause-each
returns-clause-each g c =
    let e : Equality = c.args.self.now in
    let rows = g.F.FactSource.rows c.args.source.now in
    let wanted = c.wanted-wanted.result in
    let is = c.wanted-wanted.ensures in
    IfOk-weaker c.unequal_of.result
    (λ (list : List Match). (m : Match) → Contains list m
    → (plan : Plan) × Contains c.plans.result.now plan × IsPutBack plan rows wanted.row wanted.left wanted.right m)
    (λ (list : List Match). All (IsUnequal e.index rows c.args.row e.left e.right) list)
    (λ list each k d l.
    let m : Match = get_or list k d in
    let h = each m (Contains-get_or list k d l) in
    unequal_of_plan e.index c.plans.ensures.index rows c.args.row e.left e.right m (
      h.0,
      subst (λ (plans : List Plan). Contains plans h.0) c.plans.ensures.value h.1,
      subst (λ w. w) (λ i. IsPutBack h.0 rows (is.row i) (is.left i) (is.right i) m) h.2,
    ))
    c.unequal_of.ensures.each

pub returns-clause-none : goal.returns-clause-none
returns-clause-none g c =
    let e : Equality = c.args.self.now in
    let rows = g.F.FactSource.rows c.args.source.now in
    let wanted = c.wanted-wanted.result in
    let is = c.wanted-wanted.ensures in
    let plans : List Plan = c.plans.result.now in
    IfOk-weaker c.unequal_of.result
    (λ (list : List Match). list ≡ [] → HaveNone plans rows wanted.row wanted.left wanted.right (length plans))
    (λ (list : List Match). list ≡ [] → (m : Match) → ¬ (IsUnequal e.index rows c.args.row e.left e.right m))
    (λ list none empty. none_unequal e c.plans.ensures.index rows c.requires.shows c.args.row
    (subst (λ w. w) (λ i. HaveNone (c.plans.ensures.value i) rows (is.row i) (is.left i) (is.right i) (length (c.plans.ensures.value i)))
    (none empty)))
    c.unequal_of.ensures.none
