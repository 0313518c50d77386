use Rattle.std.proofs.Common.{◌≡◌, inl, inr, ⊎_elim, sym, ap, ◌∙◌, Contains}
use Rattle.term_core.specs.declared.term.Term.TheVariants.{Null}
use Rattle.exchange_engine.proofs.UnknownLemmas.{same_unknown}
use Rattle.exchange_engine.proofs.unknowns.add_of_term.Goals as goal

pub returns-in_ok-add : goal.returns-in_ok-add
returns-in_ok-add c = λ u. (
  λ d. ⊎_elim
      (λ (old : Contains c.args.found.now u). inl old)
      (λ (same : c.in-Null.unknown ≡ u). inr (c.in-Null.is ∙ ap Null same))
      ((c.in_ok-add.ensures u).0 d),
  λ d. (c.in_ok-add.ensures u).1 (⊎_elim
      (λ (old : Contains c.args.found.now u). inl old)
      (λ (is : c.args.term.now ≡ Null u). inr (same_unknown c.in-Null.unknown u (sym c.in-Null.is ∙ is)))
      d),
)
