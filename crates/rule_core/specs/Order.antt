-- The order of terms and of rows, from an order of constants.
use Rattle.std.specs.Prelude.{ℕ, List}
use Rattle.std.specs.declared.cmp.Ordering.{Ordering}
use Rattle.std.specs.declared.cmp.Ordering.TheVariants.{Less, Greater}
use Rattle.std.specs.Ordering.{nat_cmp, ordering_then}
use Rattle.std.specs.Cmp.Lexicographic.{slice_cmp}
use Rattle.rule_core.specs.Terms.{Unknown, numbered, named, TermOf, constant, unknown}

module _ {C : Type 0} (cmp : C → C → Ordering) where
  -- numbers by size, and before the others; these by rule, then by frontier values, then by variable
  abbrev pub unknown_cmp : Unknown C → Unknown C → Ordering
  unknown_cmp (numbered m) (numbered n) = nat_cmp m n
  unknown_cmp (numbered m) (named s g w) = Less
  unknown_cmp (named r f v) (numbered n) = Greater
  unknown_cmp (named r f v) (named s g w) = ordering_then (nat_cmp r s) (ordering_then (slice_cmp cmp f g) (nat_cmp v w))

  -- constants stand before unknowns
  abbrev pub term_cmp : TermOf C → TermOf C → Ordering
  term_cmp (constant c) (constant d) = cmp c d
  term_cmp (constant c) (unknown w) = Less
  term_cmp (unknown u) (constant d) = Greater
  term_cmp (unknown u) (unknown w) = unknown_cmp u w

  -- rows by their terms, from left to right
  abbrev pub row_cmp : List (TermOf C) → List (TermOf C) → Ordering
  row_cmp = slice_cmp term_cmp

-- the order of stored rows, whose constants are texts and are compared by their bytes
abbrev pub stored_cmp : List (TermOf (List ℕ)) → List (TermOf (List ℕ)) → Ordering
stored_cmp = row_cmp (slice_cmp nat_cmp)
