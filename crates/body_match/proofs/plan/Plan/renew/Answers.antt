use Rattle.std.proofs.Common.{List, sym, subst}
use Rattle.std.proofs.lemmas.Result.{on_ok_weaker}
use Rattle.rule_core.specs.declared.rules.Atom.{Atom}
use Rattle.body_match.specs.Renewals.{AreListedUnder}
use Rattle.body_match.specs.Plans.{AreWithin}
use Rattle.body_match.proofs.plan.Plan.renew.Goals as goal

pub renew_levels-requires-clause-within : goal.renew_levels-requires-clause-within
renew_levels-requires-clause-within g c =
    subst (λ (l : List Atom). AreWithin l c.args.self.now.levels.items) (sym c.as_slice-body.ensures) c.requires.within

pub returns-clause-listed : goal.returns-clause-listed
returns-clause-listed g c =
    on_ok_weaker c.renew_levels.result
    (λ (h : AreListedUnder c.as_slice-body.result.now c.renew_levels.new.levels.items (g.F.FactSource.rows c.args.source.now) c.args.fresh.now).
    subst (λ (l : List Atom). AreListedUnder l c.renew_levels.new.levels.items (g.F.FactSource.rows c.args.source.now) c.args.fresh.now)
    c.as_slice-body.ensures h) c.renew_levels.ensures.listed
