use Rattle.std.proofs.Common.{◌≡◌, ◌≤◌, length, Option, Some, None, ap, ◌∙◌, refl, ⊎_elim}
use Rattle.std.specs.Prelude.{slice_get}
use Rattle.std.proofs.lemmas.Bool.{false≢true, cases_lt}
use Rattle.std.proofs.lemmas.Bool.Decides.{Decides-eqb}
use Rattle.std.proofs.lemmas.Option.{slice_get_read, slice_get_past}
use Rattle.std.proofs.lemmas.Slice.Eq.{slice_eq-Decides}
use Rattle.rule_core.proofs.queries.is_variable.Goals as goal

one_value : {X : Type 0} (o : Option X) (a b : X) → o ≡ Some a → o ≡ Some b → a ≡ b
one_value o a b e f = cc

no_value : {X : Type 0} (o : Option X) (a : X) → o ≡ None → o ≡ Some a → ⊥
no_value o a e f = absurd cc

pub returns-in-Some : goal.returns-in-Some
returns-in-Some c =
    let found = c.in-Some.found.now in
    let e : slice_get c.args.vars.now c.args.variable ≡ Some found =
    slice_get_read c.args.vars.now _ c.args.variable found refl c.in-Some.ensures.lookup.3.0 c.in-Some.ensures.lookup.1 in
    let d = slice_eq-Decides Decides-eqb found c.args.name.now c.eq.result c.eq.ensures in
    (λ t. e ∙ ap Some (d.0 t), λ s. d.1 (one_value _ _ _ e s))

pub returns-in-None : goal.returns-in-None
returns-in-None c =
    let past : length c.args.vars.now ≤ c.args.variable =
    ⊎_elim (λ lt. absurd (false≢true (c.in-None.ensures.lookup.2 lt))) (λ le. le) (cases_lt c.args.variable (length c.args.vars.now)) in
    (λ f. absurd (false≢true f), λ s. absurd (no_value _ _ (slice_get_past c.args.vars.now c.args.variable past) s))
