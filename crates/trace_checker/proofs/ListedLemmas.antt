-- What is listed under unknowns.
use Rattle.std.proofs.Common.{◌≡◌, ◌≢◌, ℕ, ◌+◌, ◌<◌, false, Option, Some, List, [], ◌∷◌, ◌++◌, length, map, take, get_or, sym, ap, ◌∙◌, subst, inl, inr, Contains, Vec, Global, nat_eq}
use Rattle.std.proofs.lemmas.Bool.Decides.{eqb_tells}
use Rattle.std.proofs.lemmas.List.{map-append, take_more}
use Rattle.std.proofs.lemmas.List.Elements.{Contains-append_left, Contains-push, Contains-push_cases}
use Rattle.indexmap.specs.IndexMap.{get}
use Rattle.rule_core.specs.Terms.{numbered, named, TermOf, constant, unknown, FactOf}
use Rattle.rule_core.proofs.ListLemmas.{Contains-cons_cases}
use Rattle.trace_checker.specs.declared.row.Row.{Row}
use Rattle.trace_checker.specs.declared.holders.Holders.{Holders}
use Rattle.trace_checker.specs.States.{fact_named, HoldsAlso}
use Rattle.trace_checker.specs.Listed.{facts_of, HasNumber, IsListed, IsListedForAll, KeepsListed, TakesOut, AreListed}

abbrev Fact : Type 0
Fact = FactOf (List ℕ)

abbrev Term : Type 0
Term = TermOf (List ℕ)

-- an unknown has one number
abbrev number_or : ℕ → TermOf (List ℕ) → ℕ
number_or n (constant c) = n
number_or n (unknown (numbered m)) = m
number_or n (unknown (named r f v)) = n

pub one_number : (m n : ℕ) (term : Term) (holders : Holders) (fact : Fact) → term ≡ unknown (numbered m) → term ≡ unknown (numbered n)
    → IsListed holders m fact → IsListed holders n fact
one_number m n term holders fact is_m is_n is = subst (λ k. IsListed holders k fact) (ap (number_or m) (sym is_m ∙ is_n)) is

-- the list under a number is taken out
pub taken : (old new : Holders) (number : ℕ) (list : List Fact)
    → ((there : Vec Row Global) → get nat_eq old.lists number ≡ Some there → Contains (facts_of there.items) ≡ Contains list)
    → ((other : ℕ) → nat_eq number other ≡ false → get nat_eq new.lists other ≡ get nat_eq old.lists other) → TakesOut old number list new
taken old new number list gone others other fact is = elim (eqb_tells number other) [
  | inl k ↦ inl (
    sym k.1,
    subst (λ (has : Fact → Type 0). has fact) (gone is.0 (ap (get nat_eq old.lists) k.1 ∙ is.1)) is.2,
  )
  | inr k ↦ inr (λ e. k.1 (sym e), (is.0, others other k.0 ∙ is.1, is.2))
]

-- one list there is
pub same_list : (found : Option (Vec Row Global)) (one other : Vec Row Global) → found ≡ Some one → found ≡ Some other
    → Contains (facts_of other.items) ≡ Contains (facts_of one.items)
same_list found one other e f = let same : other ≡ one = cc in ap (λ (v : Vec Row Global). Contains (facts_of v.items)) same

-- and it is put back with one fact more
pub put_kept : (old mid new : Holders) (number : ℕ) (list : List Fact) (longer : Vec Row Global) (added : Fact)
    → TakesOut old number list mid → facts_of longer.items ≡ list ++ added ∷ [] → get nat_eq new.lists number ≡ Some longer
    → ((other : ℕ) → nat_eq number other ≡ false → get nat_eq new.lists other ≡ get nat_eq mid.lists other) → KeepsListed old new
put_kept old mid new number list longer added takes more here others other fact is = elim (takes other fact is) [
  | inl k ↦ (longer, ap (get nat_eq new.lists) k.0 ∙ here, subst (λ l. Contains l fact) (sym more) (Contains-append_left list (added ∷ []) fact k.1))
  | inr k ↦ elim (eqb_tells number other) [
    | inl e ↦ absurd (k.0 (sym e.1))
    | inr e ↦ (k.1.0, others other e.0 ∙ k.1.1, k.1.2)
  ]
]

pub put_there : (new : Holders) (number : ℕ) (list : List Fact) (longer : Vec Row Global) (added : Fact)
    → facts_of longer.items ≡ list ++ added ∷ [] → get nat_eq new.lists number ≡ Some longer → IsListed new number added
put_there new number list longer added more here = (longer, here, subst (λ l. Contains l added) (sym more) (Contains-push list added))

-- the facts of a list and one row more
pub facts_more : (rows new : List Row) (row : Row) → new ≡ rows ++ row ∷ [] → facts_of new ≡ facts_of rows ++ fact_named row ∷ []
facts_more rows new row e = ap facts_of e ∙ map-append fact_named rows (row ∷ [])

-- a fact that is listed under the terms so far, and under one more
pub listed_more : {X : Type 0} (term : X → Term) (xs : List X) (i : ℕ) (d : X) → i < length xs → (old new : Holders) (fact : Fact)
    → ((n : ℕ) → Contains (map term (take i xs)) (unknown (numbered n)) → IsListed old n fact) → KeepsListed old new
    → ((n : ℕ) → term (get_or xs i d) ≡ unknown (numbered n) → IsListed new n fact)
    → (n : ℕ) → Contains (map term (take (i + 1) xs)) (unknown (numbered n)) → IsListed new n fact
listed_more term xs i d lt old new fact so_far kept there n c =
    elim (Contains-push_cases (map term (take i xs)) (term (get_or xs i d)) (unknown (numbered n))
    (subst (λ l. Contains l (unknown (numbered n))) (ap (map term) (take_more xs i d lt) ∙ map-append term (take i xs) (get_or xs i d ∷ [])) c)) [
      | inl e ↦ kept n fact (so_far n e)
      | inr e ↦ there n e
    ]

-- facts are listed with one more that is
pub listed_with : (old new left : List Fact) (before after : Holders) (added : Fact) → HoldsAlso old added new
    → KeepsListed before after → IsListedForAll after added → AreListed old before left → AreListed new after left
listed_with old new left before after added more kept there listed fact number c has = elim ((more fact).0 c) [
  | inl d ↦ elim (listed fact number d has) [
    | inl is ↦ inl (kept number fact is)
    | inr in_left ↦ inr in_left
  ]
  | inr e ↦ inl (subst (λ x. IsListed after number x) e (there number (subst (λ x. HasNumber x number) (sym e) has)))
]

-- and without one
pub listed_without : (old new left : List Fact) (holders : Holders) (gone : Fact)
    → ((fact : Fact) → Contains new fact → Contains old fact × (fact ≢ gone)) → AreListed old holders (gone ∷ left) → AreListed new holders left
listed_without old new left holders gone from listed fact number c has =
    let was = from fact c in
    elim (listed fact number was.0 has) [
      | inl is ↦ inl is
      | inr d ↦ elim (Contains-cons_cases gone fact left d) [
        | inl e ↦ absurd (was.1 (sym e))
        | inr later ↦ inr later
      ]
    ]
