use Rattle.std.proofs.Common.{◌≡◌}
use Rattle.std.specs.Bool.{Decides}
use Rattle.std.proofs.lemmas.Bool.Decides.{Decides-eqb}
use Rattle.std.proofs.lemmas.Slice.Eq.{slice_eq-Decides}
use Rattle.term_core.specs.declared.const_id.ConstId.{ConstId}
use Rattle.term_core.specs.contracts.const_id.ConstIdPartialEq.TheImpl.{eq-value}
use Rattle.tgd_chase.proofs.merging.are_alike.Goals as goal

-- the test of two constants
ids_decide : (a b : ConstId) → Decides (eq-value.it a b) (a ≡ b)
ids_decide a b =
    let numbers = Decides-eqb a.0 b.0 in
    (λ t i. record { 0 = numbers.0 t i }, λ e. numbers.1 (λ i. (e i).0))

pub returns-then-firing-candidate : goal.returns-then-firing-candidate
returns-then-firing-candidate c =
    let told = slice_eq-Decides ids_decide c.args.firing.now.frontier c.args.candidate.now.frontier c.eq.result c.eq.ensures in
    (λ t. (c.if-firing-candidate.true, told.0 t), λ alike. told.1 alike.1)
