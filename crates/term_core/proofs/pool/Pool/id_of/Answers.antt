use Rattle.std.proofs.Common.{string_bytes, refl, sym, ◌∙◌, true≢false}
use Rattle.term_core.proofs.PoolLemmas.{found_at, any_Decides}
use Rattle.term_core.proofs.pool.Pool.id_of.Goals as goal

pub returns-clause-found : goal.returns-clause-found
returns-clause-found c = rw (← c.self.view_is)
    (found_at (λ k. string_bytes k) c.self.inside.texts.keys c.args.text.now c.in_ok-place.place (sym c.in_ok-place.ensures.index))

pub returns-clause-there : goal.returns-clause-there
returns-clause-there c = (
  λ _. rw (← c.self.view_is)
      ((any_Decides (λ k. string_bytes k) c.self.inside.texts.keys c.args.text.now).0 (sym c.in_ok-place.ensures.found)),
  λ _. refl,
)

pub returns-in_err-place-clause-there : goal.returns-in_err-place-clause-there
returns-in_err-place-clause-there c =
    let none = c.from_residual.ensures in rw none (
      λ e. absurd (true≢false (sym e)),
      rw (← c.self.view_is) (λ h. absurd (true≢false (sym ((any_Decides (λ k. string_bytes k) c.self.inside.texts.keys c.args.text.now).1 h)
          ∙ sym c.in_err-place.ensures.found))),
    )
