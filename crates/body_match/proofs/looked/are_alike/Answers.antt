use Rattle.std.proofs.Common.{◌≡◌, ◌<◌, ◌≤◌, length, refl, sym, ap, ◌∙◌, subst, ⊎_elim, arith}
use Rattle.std.specs.Prelude.{slice_get}
use Rattle.std.proofs.lemmas.Bool.{cases_lt}
use Rattle.std.proofs.lemmas.Option.{slice_get_read}
use Rattle.rule_core.specs.declared.rules.Atom.{Atom}
use Rattle.body_match.specs.Choice.{AreAlikeUnder}
use Rattle.body_match.proofs.ListLemmas.{within_from_at, at_from_contains}
use Rattle.body_match.proofs.SearchLemmas.{same_some}
use Rattle.body_match.proofs.looked.are_alike.Goals as goal

pub loop-atom-preserved : goal.loop-atom-preserved
loop-atom-preserved g c = λ k atom l e.
    let at = c.loop-atom.atom-index in
    let this : Atom = c.atom-item.result in
    let there = slice_get_read c.args.body.now (length c.args.body.now) at this refl c.loop-atom-test.true c.atom-item.is in
    ⊎_elim
    (λ (before : k < at). λ relation arity. c.loop-atom.invariant k atom before e relation arity)
    (λ (not : at ≤ k). λ relation arity.
    let same : k ≡ at = omega (arith, l, not) in
    let is : this ≡ atom = same_some (slice_get c.args.body.now at) this atom there (ap (slice_get c.args.body.now) (sym same) ∙ e) in
    subst (AreAlikeUnder c.args.looked.now (g.F.FactSource.rows c.args.source.now) c.args.row c.args.other) is
    (c.are_alike_under.ensures c.if-not-are_alike_under.false (relation ∙ ap (λ (a : Atom). a.relation) (sym is))
    (arity ∙ ap (λ (a : Atom). length a.args) (sym is))))
    (cases_lt k at)

pub returns : goal.returns
returns g c = λ yes atom h.
    let k = at_from_contains c.args.body.now atom h in
    let within = within_from_at c.args.body.now k.0 atom k.1 in
    c.loop-atom.invariant k.0 atom (omega (arith, within, c.loop-atom-test.false)) k.1
