use Rattle.std.proofs.Common.{ap}
use Rattle.std.proofs.lemmas.List.Elements.{All-contains}
use Rattle.null_store.specs.Store.{term_in, IsLiveOver}
use Rattle.null_store.proofs.LawLemmas.{one_cell}
use Rattle.null_store.proofs.laws.one_unknown_is_one_piece.Goals as goal

pub returns-clause-cells : goal.returns-clause-cells
returns-clause-cells c = λ store ok j k a b x y p q meet in_a in_b. (
  one_cell store ok a.span b.span meet x y (All-contains (IsLiveOver store a.span) a.cells x (ok.live j a p) in_a)
      (All-contains (IsLiveOver store b.span) b.cells y (ok.live k b q) in_b),
  ap (term_in store),
)
