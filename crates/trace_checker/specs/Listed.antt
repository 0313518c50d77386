-- Which facts have an unknown, as a checker lists them. No public clause cites this module.
use Rattle.std.specs.Prelude.{◌≡◌, ◌≢◌, ◌⊎◌, ℕ, Some, List, map, Contains, nat_eq}
use Rattle.std.specs.declared.vec.Vec.{Vec}
use Rattle.std.specs.declared.alloc.Global.{Global}
use Rattle.indexmap.specs.IndexMap.{get}
use Rattle.rule_core.specs.Terms.{numbered, unknown, TermOf, FactOf}
use Rattle.trace_checker.specs.declared.row.Row.{Row}
use Rattle.trace_checker.specs.declared.holders.Holders.{Holders}
use Rattle.trace_checker.specs.States.{fact_named}

-- the facts that rows are
abbrev pub facts_of : List Row → List (FactOf (List ℕ))
facts_of rows = map fact_named rows

-- the fact has the unknown with the number
abbrev pub HasNumber : FactOf (List ℕ) → ℕ → Type 0
HasNumber fact number = Contains fact.terms (unknown (numbered number))

-- the fact is listed under the unknown with the number
abbrev pub IsListed : Holders → ℕ → FactOf (List ℕ) → Type 0
IsListed holders number fact =
    (list : Vec Row Global) × (get nat_eq holders.lists number ≡ Some list) × Contains (facts_of list.items) fact

-- it is, where the term is an unknown
abbrev pub IsListedFor : Holders → FactOf (List ℕ) → TermOf (List ℕ) → Type 0
IsListedFor holders fact term = (number : ℕ) → term ≡ unknown (numbered number) → IsListed holders number fact

-- the fact is listed under each of its unknowns
abbrev pub IsListedForAll : Holders → FactOf (List ℕ) → Type 0
IsListedForAll holders fact = (number : ℕ) → HasNumber fact number → IsListed holders number fact

-- what is listed stays so
abbrev pub KeepsListed : Holders → Holders → Type 0
KeepsListed old new = (number : ℕ) (fact : FactOf (List ℕ)) → IsListed old number fact → IsListed new number fact

-- what was listed under the number is in the list, and the rest stays
abbrev pub TakesOut : Holders → ℕ → List (FactOf (List ℕ)) → Holders → Type 0
TakesOut old number list new = (other : ℕ) (fact : FactOf (List ℕ)) → IsListed old other fact
    → ((other ≡ number) × Contains list fact) ⊎ ((other ≢ number) × IsListed new other fact)

-- each of the facts is listed under each of its unknowns, or is among those that are left
abbrev pub AreListed : List (FactOf (List ℕ)) → Holders → List (FactOf (List ℕ)) → Type 0
AreListed facts holders left = (fact : FactOf (List ℕ)) (number : ℕ) → Contains facts fact → HasNumber fact number
    → IsListed holders number fact ⊎ Contains left fact

-- the one fact has become the other, where it was there
pub record Moves (old : List (FactOf (List ℕ))) (before later : FactOf (List ℕ)) (new : List (FactOf (List ℕ))) : Type 0 where
  pub from : (fact : FactOf (List ℕ)) → Contains new fact
      → (Contains old fact × (fact ≢ before)) ⊎ ((fact ≡ later) × Contains old before)
  pub into : (fact : FactOf (List ℕ)) → Contains old fact → Contains new fact ⊎ ((fact ≡ before) × Contains new later)
