-- That the order of spans is total. No public clause cites this module.
use Rattle.std.specs.Prelude.{◌≡◌, ℤ, Option, Some, None, refl}
use Rattle.std.proofs.Common.{subst}
use Rattle.std.specs.declared.cmp.Ordering.{Ordering}
use Rattle.std.specs.Ordering.{int_cmp, flip_args}
use Rattle.std.specs.Option.{option_cmp}
use Rattle.std.specs.Cmp.{IsTotalOrder, on_total, then_total, back_total, int_cmp_total}
use Rattle.std.specs.Cmp.Lexicographic.{options_total}
use Rattle.time_line.specs.Span.{Ends, stop_cmp, span_cmp}

-- the order of stops is that of starts the other way round, at numbers the other way round
stop_same : (a b : Option ℤ) → flip_args (option_cmp (flip_args int_cmp)) a b ≡ stop_cmp a b
stop_same None None = refl
stop_same None (Some b) = refl
stop_same (Some a) None = refl
stop_same (Some a) (Some b) = refl

-- the order of stops is total
stop_cmp-total : IsTotalOrder stop_cmp
stop_cmp-total =
    let P : (Option ℤ → Option ℤ → Ordering) → Type 0 = λ R. IsTotalOrder R in
    subst P (λ i a b. stop_same a b i) (back_total (options_total (back_total int_cmp_total)))

-- the order of spans is total
pub span_cmp-total : IsTotalOrder span_cmp
span_cmp-total = then_total (on_total (λ (e : Ends). e.lo) (options_total int_cmp_total)) (on_total (λ (e : Ends). e.hi) stop_cmp-total)
