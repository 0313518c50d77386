-- What the digits of a number stand for, a front at a time.
use Rattle.std.proofs.Common.{◌≡◌, ℕ, zero, suc, ◌+◌, ◌*◌, ◌-◌, ◌^◌, ◌<◌, ◌≤◌, ℤ, pos, negsuc, neg_ℤ, List, [], ◌∷◌, Option, Some, None, get_or, take, fold, decimal, inl, inr, refl, ap, ◌∙◌, rules, arith}
use Rattle.std.specs.Fmt.{signed_decimal}
use Rattle.std.specs.List.{AllByRecursion}
use Rattle.std.proofs.lemmas.Bool.Decides.{nat_tests}
use Rattle.std.proofs.lemmas.Fmt.{decimal_digit, digits_decimal, digits_value-decimal, first_decimal}
use Rattle.std.proofs.lemmas.Int.{ints}
use Rattle.std.proofs.lemmas.Str.Parse.{IsNumeralModel, numerals_by_fold}
use Rattle.time_line.specs.Span.{IsWithinInstants}
use Rattle.time_line.specs.Numeral.{IsDigit, IsPositive, IsNumber, value_of, number_of, IsEnd, end_text}
use Rattle.time_line.specs.declared.text.Side.{Side}

-- a digit more does not make a number smaller
value_grows : (n : ℕ) (ds : List ℕ) → n ≤ fold (λ n d. 10 * n + (d - 48)) n ds
value_grows n [] = omega arith
value_grows n (d ∷ ds) = omega (arith, value_grows (10 * n + (d - 48)) ds)

-- a front of the digits stands for no more than all of them
value_after-take-le : (n i : ℕ) (ds : List ℕ) → fold (λ n d. 10 * n + (d - 48)) n (take i ds) ≤ fold (λ n d. 10 * n + (d - 48)) n ds
value_after-take-le n zero ds = value_grows n ds
value_after-take-le n (suc i) [] = omega arith
value_after-take-le n (suc i) (d ∷ ds) = value_after-take-le (10 * n + (d - 48)) i ds

pub value_of-take-le : (i : ℕ) (ds : List ℕ) → value_of (take i ds) ≤ value_of ds
value_of-take-le i ds = value_after-take-le 0 i ds

-- digits and their value, in std's terms
own : IsNumeralModel (λ ds. AllByRecursion IsDigit ds) (λ ds. value_of ds)
own = numerals_by_fold (λ ds. AllByRecursion IsDigit ds) (search rules) (λ n ds. fold (λ n d. 10 * n + (d - 48)) n ds) (search rules)

-- digits of which the first is not 0
IsPositive-from_digits : (ds : List ℕ) → AllByRecursion IsDigit ds → 48 < get_or ds 0 0 → IsPositive ds
IsPositive-from_digits [] h p = absurd (omega arith)
IsPositive-from_digits (d ∷ ds) h p = (omega arith, h.0.1, h.1)

-- the digits of a number that is not 0
IsPositive-decimal : (n : ℕ) → 0 < n → n < 2 ^ 64 → IsPositive (decimal n)
IsPositive-decimal n p small = IsPositive-from_digits (decimal n) (digits_decimal own n small) (first_decimal n p small)

-- digits alone stand for what they are worth
number_of-positive : (ds : List ℕ) → IsPositive ds → number_of ds ≡ pos (value_of ds)
number_of-positive [] h = absurd h
number_of-positive (d ∷ ds) h = grind (arith, nat_tests)

-- the text of a number is a number, and stands for it
pub signed_decimal-reads : (z : ℤ) → IsWithinInstants (Some z) → IsNumber (signed_decimal z) × (number_of (signed_decimal z) ≡ z)
signed_decimal-reads (pos zero) h = rw (decimal_digit 0 (omega arith)) (inl refl, refl)
signed_decimal-reads (pos (suc n)) h =
    let small : suc n < 2 ^ 64 = omega (arith, ints) in
    let positive = IsPositive-decimal (suc n) (omega arith) small in
    (inr (inl positive), number_of-positive (decimal (suc n)) positive ∙ ap pos (digits_value-decimal own (suc n) small))
signed_decimal-reads (negsuc n) h =
    let small : suc n < 2 ^ 64 = omega (arith, ints) in
    let positive = IsPositive-decimal (suc n) (omega arith) small in
    (inr (inr (decimal (suc n), refl, positive)), ap (λ k. neg_ℤ (pos k)) (digits_value-decimal own (suc n) small))

-- the text of an end is that end
pub IsEnd-end_text : (side : Side) (end : Option ℤ) → IsWithinInstants end → IsEnd side (end_text side end) end
IsEnd-end_text side None h = refl
IsEnd-end_text side (Some end) h = signed_decimal-reads end h
