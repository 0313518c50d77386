use Rattle.std.proofs.Common.{◌≡◌, ℕ, ◌+◌, ◌<◌, ◌≤◌, ◌^◌, ◌/◌, ◌%◌, List, ◌∷◌, ◌++◌, length, decimal, length-append, append_assoc, sym, ap, ◌∙◌, arith}
use Rattle.std.proofs.lemmas.Fmt.{decimal_digit, decimal_step, decimal_nonempty}
use Rattle.time_line.proofs.text.EndText.prepend_number.Goals as goal

-- before the digits of a number there is room for one of them
room : (n k : ℕ) (ds text old : List ℕ) → n < 2 ^ 64 → decimal n ++ text ≡ ds ++ old → length ds + length old ≤ k → length text < k
room n k ds text old small e h =
    omega (arith, decimal_nonempty n small, length-append (decimal n) text, length-append ds old, ap length e)

-- the last digit stands before the text
stepped : (n : ℕ) (text : List ℕ) → 10 ≤ n → n < 2 ^ 64 → decimal (n / 10) ++ (48 + n % 10) ∷ text ≡ decimal n ++ text
stepped n text h small = rw (decimal_step n h small, append_assoc)

pub prepend-requires : goal.prepend-requires
prepend-requires c = room c.loop-rest.rest 17 _ _ _ (omega arith) c.loop-rest.invariant c.requires

pub prepend-requires-2 : goal.prepend-requires-2
prepend-requires-2 c = room c.loop-rest.rest 17 _ _ _ (omega arith) c.loop-rest.invariant c.requires

pub loop-rest-preserved : goal.loop-rest-preserved
loop-rest-preserved c =
    rw c.prepend.ensures (stepped c.loop-rest.rest c.loop-rest.self (omega arith) (omega arith) ∙ c.loop-rest.invariant)

pub returns : goal.returns
returns c = let digit = decimal_digit c.loop-rest.rest (omega arith) in
    c.prepend-2.ensures ∙ sym (ap (λ ds. ds ++ c.loop-rest.self) digit) ∙ c.loop-rest.invariant
