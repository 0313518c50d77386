use Rattle.std.proofs.Common.{◌∙◌, sym}
use Rattle.egd_chase.proofs.CuttingLemmas.{fitted_there}
use Rattle.egd_chase.proofs.FitLemmas.{no_stop}
use Rattle.egd_chase.proofs.cutting.Cutting.to_stop.Goals as goal

pub returns-in-None : goal.returns-in-None
returns-in-None g c = record {
  cuts = λ own other first was is_unknown begun. (
    was,
    fitted_there own other c.args.span first c.args.store.now c.args.self.now was begun
        (no_stop was.own_held.row.span c.args.span was.own_held.covers c.hi.ensures.span (sym c.hi.ensures.end ∙ c.in-None.is)),
    λ fitted. fitted,
  );
}
