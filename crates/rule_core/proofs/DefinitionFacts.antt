-- The definitions at values that are worked out by hand.
use Rattle.std.proofs.Common.{◌≡◌, ℕ, ℤ, pos, negsuc, Option, Some, None, List, [], ◌∷◌, refl, codes}
use Rattle.std.specs.declared.cmp.Ordering.{Ordering}
use Rattle.std.specs.declared.cmp.Ordering.TheVariants.{Less, Equal}
use Rattle.time_line.specs.Span.{Ends}
use Rattle.rule_core.specs.Terms.{numbered, named, TermOf, constant, unknown, StampedOf}
use Rattle.rule_core.specs.Order.{stored_cmp}
use Rattle.rule_core.specs.Snapshot.{snapshot_at}

abbrev span : Option ℤ → Option ℤ → Ends
span lo hi = record { lo = lo; hi = hi }

abbrev stamped : {X : Type 0} → X → Option ℤ → Option ℤ → StampedOf X
stamped row lo hi = record { row = row; span = span lo hi }

-- three jobs: one from 2012 on and before 2014, one from 2014 on, and one before 2012
abbrev jobs : List (StampedOf (List ℕ))
jobs =
    stamped (codes "IBM") (Some (pos 2012)) (Some (pos 2014))
    ∷ stamped (codes "Google") (Some (pos 2014)) None
    ∷ stamped (codes "Sun") None (Some (pos 2012))
    ∷ []

before_the_start : snapshot_at jobs (pos 2011) ≡ codes "Sun" ∷ []
before_the_start = refl

the_start_is_in : snapshot_at jobs (pos 2012) ≡ codes "IBM" ∷ []
the_start_is_in = refl

the_last_instant_is_in : snapshot_at jobs (pos 2013) ≡ codes "IBM" ∷ []
the_last_instant_is_in = refl

the_stop_is_out : snapshot_at jobs (pos 2014) ≡ codes "Google" ∷ []
the_stop_is_out = refl

absent_ends_bound_nothing : snapshot_at jobs (negsuc 999999999999999999) ≡ codes "Sun" ∷ []
absent_ends_bound_nothing = refl

-- the order of rows
abbrev order : List (TermOf (List ℕ)) → List (TermOf (List ℕ)) → Ordering
order = stored_cmp

abbrev text : List ℕ → TermOf (List ℕ)
text bytes = constant bytes

abbrev null : ℕ → TermOf (List ℕ)
null n = unknown (numbered n)

abbrev made : ℕ → List (List ℕ) → ℕ → TermOf (List ℕ)
made rule frontier var = unknown (named rule frontier var)

letters : order (text (codes "a") ∷ []) (text (codes "b") ∷ []) ≡ Less
letters = refl

capitals_first : order (text (codes "Z") ∷ []) (text (codes "a") ∷ []) ≡ Less
capitals_first = refl

empty_text_first : order (text [] ∷ []) (text (codes " ") ∷ []) ≡ Less
empty_text_first = refl

bytes_and_not_numbers : order (text (codes "10") ∷ []) (text (codes "9") ∷ []) ≡ Less
bytes_and_not_numbers = refl

constants_before_unknowns : order (text (codes "zz") ∷ []) (null 1 ∷ []) ≡ Less
constants_before_unknowns = refl

unknowns_by_number : order (null 2 ∷ []) (null 10 ∷ []) ≡ Less
unknowns_by_number = refl

numbers_before_names : order (null 10 ∷ []) (made 0 [] 0 ∷ []) ≡ Less
numbers_before_names = refl

names_by_rule : order (made 0 (codes "z" ∷ []) 1 ∷ []) (made 1 (codes "a" ∷ []) 0 ∷ []) ≡ Less
names_by_rule = refl

names_by_frontier : order (made 1 (codes "Ada" ∷ codes "IBM" ∷ []) 1 ∷ []) (made 1 (codes "Bob" ∷ codes "IBM" ∷ []) 0 ∷ []) ≡ Less
names_by_frontier = refl

names_by_variable : order (made 1 (codes "Ada" ∷ []) 0 ∷ []) (made 1 (codes "Ada" ∷ []) 1 ∷ []) ≡ Less
names_by_variable = refl

from_left_to_right : order (text (codes "a") ∷ text (codes "z") ∷ []) (text (codes "b") ∷ text (codes "a") ∷ []) ≡ Less
from_left_to_right = refl

equal_rows : order (text (codes "a") ∷ null 1 ∷ []) (text (codes "a") ∷ null 1 ∷ []) ≡ Equal
equal_rows = refl
