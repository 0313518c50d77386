use Rattle.std.proofs.Common.{◌≡◌, ℕ, ◌<◌, ◌≤◌, ◌∷◌, ◌++◌, [], List, Contains, sym, subst, ⊎_elim, arith}
use Rattle.std.proofs.lemmas.Bool.{cases_lt}
use Rattle.std.proofs.lemmas.List.Elements.{Contains-append_left, Contains-push}
use Rattle.body_match.proofs.search.find_all.Goals as goal

pub loop-row-preserved : goal.loop-row-preserved
loop-row-preserved g c = λ row l.
    let old : List ℕ = c.loop-row.found.items in
    let at = c.loop-row.row in
    subst (λ (xs : List ℕ). Contains xs row) (sym c.in_ok-push.ensures.items)
    (⊎_elim (λ (before : row < at). Contains-append_left old (at ∷ []) row (c.loop-row.invariant row before))
    (λ (last : at ≤ row). let same : at ≡ row = omega (arith, l, last) in subst (Contains (old ++ at ∷ [])) same (Contains-push old at))
    (cases_lt row at))
