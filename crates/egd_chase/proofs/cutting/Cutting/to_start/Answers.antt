use Rattle.std.proofs.Common.{◌∙◌, sym}
use Rattle.egd_chase.proofs.CuttingLemmas.{starts_there}
use Rattle.egd_chase.proofs.FitLemmas.{no_start}
use Rattle.egd_chase.proofs.cutting.Cutting.to_start.Goals as goal

pub returns-in-None : goal.returns-in-None
returns-in-None g c = record {
  cuts = λ own other first was is_unknown. (
    was,
    starts_there own other c.args.span first c.args.store.now c.args.self.now was
        (no_start was.own_held.row.span c.args.span was.own_held.covers c.lo.ensures.span (sym c.lo.ensures.end ∙ c.in-None.is)),
    λ fitted. fitted,
  );
}
