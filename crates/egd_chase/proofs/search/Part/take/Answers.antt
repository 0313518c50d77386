use Rattle.std.proofs.Common.{◌++◌, refl, ◌∙◌}
use Rattle.egd_chase.proofs.search.Part.take.Goals as goal

pub returns : goal.returns
returns g c = record {
  same = c.in_ok-came.ensures.same;
  listed = c.in_ok-came.ensures.listed;
  others = c.in_ok-came.ensures.others;
  stand = c.in_ok-came.ensures.stand;
  came = c.in_ok-came.came;
  shown = c.in_ok-came.ensures.shown;
  waiting = c.in_ok-extend_from_slice.ensures.items ∙ (λ i. c.args.self.now.waiting.items ++ c.as_slice.ensures i);
  next = refl;
}
