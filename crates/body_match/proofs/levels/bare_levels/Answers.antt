use Rattle.std.proofs.Common.{◌≡◌, ◌+◌, ◌-◌, ◌<◌, ◌≤◌, ◌∷◌, ◌++◌, [], List, length, refl, sym, ap, ◌∙◌, subst, ⊎_elim, arith}
use Rattle.std.specs.Prelude.{slice_get}
use Rattle.std.proofs.lemmas.Bool.{cases_lt}
use Rattle.std.proofs.lemmas.List.{length_push}
use Rattle.rule_core.specs.declared.rules.Atom.{Atom}
use Rattle.body_match.specs.declared.levels.Level.{Level}
use Rattle.body_match.specs.Keys.{IsLevel}
use Rattle.body_match.proofs.ListLemmas.{at_front, at_seam}
use Rattle.body_match.proofs.SearchLemmas.{same_some, next_atom}
use Rattle.body_match.proofs.levels.bare_levels.Goals as goal

pub loop-before-preserved : goal.loop-before-preserved
loop-before-preserved c =
    let places = c.args.places.now in
    let old : List Level = c.loop-before.levels.items in
    let level : Level = c.in_ok-bare_level.field-0 in
    let now = c.index-body-before.result in
    let size = c.loop-before.invariant.size in
    let pushed = c.in_ok-push.ensures.items in
    let here = next_atom c.args.body.now c.args.body.now c.loop-before.before now refl c.loop-before-test.true c.index-body-before.is in record {
      size = ap (λ l. length l + 1) pushed ∙ ap (λ n. n + 1) (length_push old level ∙ size);
      levels = λ before atom some l e. ⊎_elim
          (λ (earlier : before < c.loop-before.before).
          let h = c.loop-before.invariant.levels before atom some earlier e in
          (h.0, ap (λ l. slice_get l (before - 1)) pushed ∙ at_front old (level ∷ []) (before - 1) h.0 h.1, h.2))
          (λ (last : c.loop-before.before ≤ before).
          let same : before ≡ c.loop-before.before = omega (arith, last, l) in
          let place : before - 1 ≡ length old = omega (arith, same, size) in
          let this : now ≡ atom = same_some (slice_get c.args.body.now before) now atom (ap (slice_get c.args.body.now) same ∙ here) e in (
            level,
            ap (λ l. slice_get l (before - 1)) pushed ∙ ap (slice_get (old ++ level ∷ [])) place ∙ at_seam old level [],
            subst (λ n. IsLevel places [] n atom level) (sym same)
                (subst (λ (a : Atom). IsLevel places [] c.loop-before.before a level) this c.in_ok-bare_level.ensures),
          ))
          (cases_lt before c.loop-before.before);
    }

pub returns-clause-levels : goal.returns-clause-levels
returns-clause-levels c = λ before atom some l e. c.loop-before.invariant.levels before atom some (omega (arith, l, c.loop-before-test.false)) e
