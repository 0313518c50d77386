use Rattle.std.proofs.Common.{◌≡◌, ℕ, List, Option, Some, sym, ◌∙◌, subst}
use Rattle.std.specs.Prelude.{IfSome, slice_get}
use Rattle.std.proofs.lemmas.Bool.{false≢true}
use Rattle.body_match.specs.declared.found.Match.{Match}
use Rattle.body_match.specs.Plans.{HasRows, IsBack}
use Rattle.body_match.proofs.ExactLemmas.{one_has_rows}
use Rattle.body_match.proofs.exact.unequal_match.Given.{Over}
use Rattle.body_match.proofs.exact.unequal_match.Goals as goal
use Rattle.body_match.proofs.exact.unequal_match.Goals.{In-Some}

-- what was found has the rows
found_has : (g : Over) (c : In-Some g) → HasRows c.args.plan.now (g.F.FactSource.rows c.args.source.now) c.args.rows.now c.in-Some.found
found_has g c =
    let Has : Match → Type 0 = HasRows c.args.plan.now (g.F.FactSource.rows c.args.source.now) c.args.rows.now in
    let there : IfSome (Some c.in-Some.found) Has = subst (λ (o : Option Match). IfSome o Has) c.in-Some.is c.in_ok-found.ensures.some in
    there

pub returns-then-gives_same-clause-none : goal.returns-then-gives_same-clause-none
returns-then-gives_same-clause-none g c = λ m h differ.
    let found : Match = c.in-Some.found in
    let same : found ≡ m = one_has_rows c.args.plan.now (g.F.FactSource.rows c.args.source.now) c.args.rows.now c.requires.search found m
    (found_has g (goal.at.returns-then-gives_same-clause-none g c).In-Some) h in
    differ (subst (λ (x : Match). slice_get x.binding c.args.left ≡ slice_get x.binding c.args.right) same
    (c.gives_same.ensures.0 c.if-gives_same.true))

pub returns-clause-some : goal.returns-clause-some
returns-clause-some g c =
    record {
      ordered = c.in-Some.found;
      has = found_has g (goal.at.returns-clause-some g c).In-Some;
      back = subst (λ (l : List ℕ). IsBack l c.in-Some.found c.in_ok-back.back) c.as_slice.ensures.value c.in_ok-back.ensures;
      differ = λ e. false≢true (sym c.if-gives_same.false ∙ c.gives_same.ensures.1 e);
    }
