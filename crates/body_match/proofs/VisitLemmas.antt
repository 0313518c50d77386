-- Matches that are taken one after the other.
use Rattle.std.proofs.Common.{List, [], ◌∷◌, ◌++◌, subst, sym}
use Rattle.body_match.specs.declared.found.Match.{Match}
use Rattle.body_match.specs.Visits.{TakesInTurn}

module _ {S : Type 0} (takes : S → Match → S → Type 0) where
  -- one more at the end
  pub takes_more : (old between new : S) (list : List Match) (found : Match) → TakesInTurn takes old list between
      → takes between found new → TakesInTurn takes old (list ++ found ∷ []) new
  takes_more old between new [] found before now = (new, subst (λ s. takes s found new) (sym before) now, λ i. new)
  takes_more old between new (first ∷ list) found before now =
      (before.0, before.1, takes_more before.0 between new list found before.2 now)

  -- more at the end
  pub takes_both : (old between new : S) (list more : List Match) → TakesInTurn takes old list between
      → TakesInTurn takes between more new → TakesInTurn takes old (list ++ more) new
  takes_both old between new [] more before after = subst (λ s. TakesInTurn takes s more new) (sym before) after
  takes_both old between new (first ∷ list) more before after =
      (before.0, before.1, takes_both before.0 between new list more before.2 after)
