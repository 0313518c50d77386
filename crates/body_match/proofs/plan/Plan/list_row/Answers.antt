use Rattle.std.proofs.Common.{List, sym, subst}
use Rattle.std.proofs.lemmas.Result.{on_ok_weaker}
use Rattle.rule_core.specs.declared.rules.Atom.{Atom}
use Rattle.body_match.specs.Keys.{IsListedUnder}
use Rattle.body_match.specs.Plans.{AreWithin}
use Rattle.body_match.proofs.plan.Plan.list_row.Goals as goal

pub list_levels-requires-clause-within : goal.list_levels-requires-clause-within
list_levels-requires-clause-within g c =
    subst (λ (l : List Atom). AreWithin l c.args.self.now.levels.items) (sym c.as_slice.ensures) c.requires.within

pub returns-clause-listed : goal.returns-clause-listed
returns-clause-listed g c =
    on_ok_weaker c.list_levels.result
    (λ (h : IsListedUnder c.as_slice.result.now c.list_levels.new.levels.items (g.F.FactSource.rows c.args.source.now) c.args.row).
    subst (λ (l : List Atom). IsListedUnder l c.list_levels.new.levels.items (g.F.FactSource.rows c.args.source.now) c.args.row)
    c.as_slice.ensures h) c.list_levels.ensures.listed
