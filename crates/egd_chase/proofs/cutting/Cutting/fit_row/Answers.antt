use Rattle.egd_chase.proofs.CuttingLemmas.{on_one}
use Rattle.egd_chase.proofs.cutting.Cutting.fit_row.Goals as goal

pub to_stop-requires : goal.to_stop-requires
to_stop-requires g c =
    let q = c.requires.cuts in
    let a = c.in_ok-to_start.ensures.cuts q.0 q.1 q.2 q.3 q.4 in record { cuts = (q.0, q.1, q.2, a.0, q.4) }

pub returns : goal.returns
returns g c = record {
  cuts = λ own other first was is_unknown.
      let a = c.in_ok-to_start.ensures.cuts own other first was is_unknown in
      on_one c.to_stop.result (c.to_stop.ensures.cuts own other first a.0 is_unknown a.1) (λ k. (k.0, k.1, λ fitted. k.2 (a.2 fitted)));
}
