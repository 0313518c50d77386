-- What becomes of facts where two terms are made equal.
use Rattle.std.specs.Prelude.{◌≢◌, ℕ, Option, Some, None, List, slice_index_or}
use Rattle.std.specs.declared.cmp.Ordering.{Ordering}
use Rattle.std.specs.declared.cmp.Ordering.TheVariants.{Less, Equal, Greater}
use Rattle.rule_core.specs.Terms.{Unknown, numbered, TermOf, constant, unknown, FactOf}
use Rattle.rule_core.specs.Order.{unknown_cmp}
use Rattle.rule_core.specs.Homomorphism.{fact_image}

-- an unknown that is to be replaced, and the term that it becomes
pub record Replacement (C : Type 0) : Type 0 where
  pub gone : Unknown C
  pub by : TermOf C

-- what each variable is bound to by a list; where all variables of a body have a place in the list, the term past its end is not used
abbrev pub bound_to : {C : Type 0} → List (TermOf C) → ℕ → TermOf C
bound_to terms v = slice_index_or terms v (unknown (numbered 0))

-- the two terms are different constants
abbrev pub AreClashing : {C : Type 0} → TermOf C → TermOf C → Type 0
AreClashing (constant c) (constant d) = c ≢ d
AreClashing (constant c) (unknown w) = ⊥
AreClashing (unknown u) b = ⊥

-- the first of two values where the order finds no difference, else the second
abbrev pub if_equal : {X : Type 0} → Ordering → X → X → X
if_equal Less same other = other
if_equal Equal same other = same
if_equal Greater same other = other

module _ {C : Type 0} (cmp : C → C → Ordering) where
  -- of two unknowns the greater becomes the lesser
  abbrev pub of_unknowns : Unknown C → Unknown C → Ordering → Option (Replacement C)
  of_unknowns u w Less = Some (record { gone = w; by = unknown u })
  of_unknowns u w Equal = None
  of_unknowns u w Greater = Some (record { gone = u; by = unknown w })

  -- what is replaced to make two terms equal: an unknown beside a constant, else the greater of two unknowns;
  -- nothing where they are equal, or both are constants
  abbrev pub replacement_of : TermOf C → TermOf C → Option (Replacement C)
  replacement_of (constant c) (constant d) = None
  replacement_of (constant c) (unknown w) = Some (record { gone = w; by = constant c })
  replacement_of (unknown u) (constant d) = Some (record { gone = u; by = constant d })
  replacement_of (unknown u) (unknown w) = of_unknowns u w (unknown_cmp cmp u w)

  -- what an unknown becomes
  abbrev pub becomes : Replacement C → Unknown C → TermOf C
  becomes r u = if_equal (unknown_cmp cmp u r.gone) r.by (unknown u)

  -- the fact with the one unknown replaced
  abbrev pub replaced_fact : Replacement C → FactOf C → FactOf C
  replaced_fact r fact = fact_image (becomes r) fact
