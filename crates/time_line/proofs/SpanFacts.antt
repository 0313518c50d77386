-- Known instants, orders and texts. A wrong definition does not check here.
use Rattle.std.specs.Prelude.{◌≡◌, pos, negsuc, Some, None, ◌∷◌, codes, refl}
use Rattle.std.proofs.Common.{ap, arith}
use Rattle.std.proofs.lemmas.Int.{ints}
use Rattle.std.proofs.lemmas.Fmt.{decimal_digit}
use Rattle.std.specs.Fmt.{signed_decimal}
use Rattle.std.specs.declared.cmp.Ordering.TheVariants.{Less, Greater}
use Rattle.time_line.specs.Span.{Ends, Has, span_cmp}
use Rattle.time_line.specs.Numeral.{number_of}

-- from 2012 up to 2014
abbrev years : Ends
years = record { lo = Some (pos 2012); hi = Some (pos 2014) }

-- a span has its start and the last instant before its stop, and not the stop
pub start : Has years (pos 2012)
start = (omega (arith, ints), omega (arith, ints))

pub last : Has years (pos 2013)
last = (omega (arith, ints), omega (arith, ints))

pub stop : ¬ Has years (pos 2014)
stop h = omega (arith, ints)

-- an absent end bounds nothing
pub always : Has (record { lo = None; hi = None }) (negsuc 41)
always = (tt, tt)

-- an absent start stands first, and an absent stop last
pub first : span_cmp (record { lo = None; hi = None }) years ≡ Less
first = refl

pub after : span_cmp (record { lo = Some (pos 2012); hi = None }) years ≡ Greater
after = refl

-- numbers as texts
pub minus_five : signed_decimal (negsuc 4) ≡ codes "-5"
minus_five = ap (λ ds. 45 ∷ ds) (decimal_digit 5 (omega arith))

pub zero : signed_decimal (pos 0) ≡ codes "0"
zero = decimal_digit 0 (omega arith)

pub least : number_of (codes "-1000000000000000") ≡ negsuc 999999999999999
least = refl

pub year : number_of (codes "2014") ≡ pos 2014
year = refl
