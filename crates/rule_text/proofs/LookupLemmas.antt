-- Where a name or a text stands first.
use Rattle.std.proofs.Common.{◌≡◌, inl, inr, ℕ, ◌+◌, ◌<◌, List, [], ◌∷◌, ◌++◌, length, get_or, take, Option, Some, None, All, AllPairs, Contains, refl, sym, subst, ap, ◌∙◌, arith}
use Rattle.std.specs.Prelude.{◌≢◌, IsSomeAnd, slice_get}
use Rattle.std.proofs.lemmas.List.{get_or-take, get_or_default, length-take, length-append}
use Rattle.std.proofs.Math.Seq.{take-append_seam, get_or-append_seam}
use Rattle.std.proofs.lemmas.Option.{slice_get_within, get_or_from_slice_get, slice_get_read, slice_get-get_or}
use Rattle.term_core.specs.Pool.{IsBefore, IsPool}
use Rattle.term_core.proofs.PoolLemmas.{before_itself}
use Rattle.rule_core.specs.declared.rules.Place.{Place}
use Rattle.rule_core.specs.declared.rules.Place.TheVariants.{Source, Target}
use Rattle.rule_core.specs.declared.rules.Relation.{Relation}
use Rattle.rule_core.specs.Mapping.{RuleSet}
use Rattle.rule_core.specs.Adding.{relations_of, IsNamedAt}
use Rattle.rule_core.specs.Validity.{AreRelations}
use Rattle.rule_text.specs.RuleLine.{IsFirstAt, IsFirstNamed, HasName}
use Rattle.rule_text.specs.Frames.{IsDeclared, IsFound}

-- where members are apart from all later ones, those before a number are apart from the one there
pub apart_before : {X : Type 0} (R : X → X → Type 0) (xs : List X) (n : ℕ) (x : X) → AllPairs R xs → slice_get xs n ≡ Some x
    → All (λ y. R y x) (take n xs)
apart_before {X} R xs n x apart there k d small =
    let within : n < length xs = slice_get_within xs n x there in
    let below : k < n = omega (arith, length-take n xs) in
    subst (λ (y : X). R y x) (sym (get_or-take n xs k d below))
    (subst (λ (z : X). R (get_or xs k d) z) (get_or_from_slice_get xs n x d there) (apart k n d below within))

-- a text of a pool stands there once
pub first_in_pool : (pool : List (List ℕ)) (text : List ℕ) (place : ℕ) → IsPool pool → slice_get pool place ≡ Some text
    → IsFirstAt pool text place
first_in_pool pool text place is there = record {
  there = there;
  before = λ k d small same. before_itself text
      (subst (λ (a : List ℕ). IsBefore a text) same (apart_before IsBefore pool place text is.order there k d small));
}

-- the last name, where it is new
pub first_as_last : (names : List (List ℕ)) (name : List ℕ) → ¬ (Contains names name) → IsFirstAt (names ++ name ∷ []) name (length names)
first_as_last names name new = record {
  there = slice_get_read (names ++ name ∷ []) (length names + 1) (length names) name (sym (length-append names (name ∷ []))) (omega arith)
      (sym (get_or-append_seam names name [] name));
  before = λ k d small same.
      let whole = take-append_seam names (name ∷ []) in
      let below : k < length names = omega (arith, ap length whole) in
      new (k, below, get_or_default names k name d below ∙ (ap (λ (l : List (List ℕ)). get_or l k d) (sym whole) ∙ same));
}

module _ (relations : List Relation) (name : List ℕ) where
  -- the relation at a number has the name
  pub named_at : (number : ℕ) → IsSomeAnd (slice_get relations number) (λ r. r.name ≡ name)
      → (r : Relation) × (slice_get relations number ≡ Some r) × (r.name ≡ name)
  named_at number found = by_option (slice_get relations number) refl found
    where
      by_option : (o : Option Relation) → slice_get relations number ≡ o → IsSomeAnd o (λ r. r.name ≡ name)
          → (r : Relation) × (slice_get relations number ≡ Some r) × (r.name ≡ name)
      by_option (Some r) there same = (r, there, same)
      by_option None there same = absurd same

  pub has_name : (number : ℕ) (r : Relation) → slice_get relations number ≡ Some r → r.name ≡ name → HasName relations name
  has_name number r there same =
      let within = slice_get_within relations number r there in
      (number, r, within, get_or_from_slice_get relations number r r there, same)

  pub named_somewhere : HasName relations name → (number : ℕ) × IsSomeAnd (slice_get relations number) (λ r. r.name ≡ name)
  named_somewhere has = (
    has.0,
    subst (λ o. IsSomeAnd o (λ (r : Relation). r.name ≡ name)) (sym (slice_get-get_or relations has.0 has.1 has.2))
        (ap (λ (r : Relation). r.name) has.3 ∙ has.4),
  )

  -- the relation of the name is the first, since no two have one
  pub first_named : (number : ℕ) (r : Relation) → AllPairs (λ (a b : Relation). a.name ≢ b.name) relations
      → slice_get relations number ≡ Some r → r.name ≡ name → IsFirstNamed relations name number r
  first_named number r apart there same = record {
    there = there;
    named = same;
    before = λ k d small e. apart_before (λ (a b : Relation). a.name ≢ b.name) relations number r apart there k d small (e ∙ sym same);
  }

-- a relation that is declared stands on a side at a number
pub declared_at : (set : RuleSet) (name : List ℕ) → IsDeclared set name → (side : Place) × (number : ℕ) × IsNamedAt set name side number
declared_at set name (inl has) = let there = named_somewhere set.sources name has in (Source, there.0, there.1)
declared_at set name (inr has) = let there = named_somewhere set.targets name has in (Target, there.0, there.1)

-- the relation at a number is declared
pub named_is_declared : (set : RuleSet) (name : List ℕ) (side : Place) (number : ℕ) → IsNamedAt set name side number → IsDeclared set name
named_is_declared set name Source number found =
    let r = named_at set.sources name number found in inl (has_name set.sources name number r.0 r.1 r.2)
named_is_declared set name Target number found =
    let r = named_at set.targets name number found in inr (has_name set.targets name number r.0 r.1 r.2)

-- no relation of a source has a target's name
apart_on_sides : (set : RuleSet) (name : List ℕ) → AreRelations set.sources set.targets → HasName set.sources name → HasName set.targets name → ⊥
apart_on_sides set name valid source target =
    let s = source.1 in
    let t = target.1 in
    let apart : All (λ (b : Relation). s.name ≢ b.name) set.targets =
    subst (λ (a : Relation). All (λ (b : Relation). a.name ≢ b.name) set.targets) source.3 (valid.sides source.0 s source.2) in
    let differ : s.name ≢ t.name = subst (λ (b : Relation). s.name ≢ b.name) target.3 (apart target.0 t target.2) in
    differ (source.4 ∙ sym target.4)

-- a relation of one side is none of the other
pub not_on_other_side : (set : RuleSet) (name : List ℕ) (place side : Place) (number : ℕ) → AreRelations set.sources set.targets
    → IsNamedAt set name place number → place ≢ side → ¬ (HasName (relations_of set side) name)
not_on_other_side set name Source Source number valid found other has = other refl
not_on_other_side set name Source Target number valid found other has =
    let r = named_at set.sources name number found in
    apart_on_sides set name valid (has_name set.sources name number r.0 r.1 r.2) has
not_on_other_side set name Target Source number valid found other has =
    let r = named_at set.targets name number found in
    apart_on_sides set name valid has (has_name set.targets name number r.0 r.1 r.2)
not_on_other_side set name Target Target number valid found other has = other refl

-- the relation that was found is the first of its name
pub found_is_first : (set : RuleSet) (name : List ℕ) (side : Place) (number width : ℕ) → AreRelations set.sources set.targets
    → IsNamedAt set name side number
    → ((r : Relation) → slice_get (relations_of set side) number ≡ Some r → width ≡ length r.columns) → IsFound set side name number width
found_is_first set name Source number width valid found wide =
    let r = named_at set.sources name number found in
    (r.0, first_named set.sources name number r.0 valid.source_names r.1 r.2, wide r.0 r.1)
found_is_first set name Target number width valid found wide =
    let r = named_at set.targets name number found in
    (r.0, first_named set.targets name number r.0 valid.target_names r.1 r.2, wide r.0 r.1)

-- a relation that was found is declared, and is of the side
pub found_is_declared : (set : RuleSet) (name : List ℕ) (side : Place) (number width : ℕ) → IsFound set side name number width
    → IsDeclared set name × HasName (relations_of set side) name
found_is_declared set name Source number width found =
    let has = has_name set.sources name number found.0 found.1.there found.1.named in (inl has, has)
found_is_declared set name Target number width found =
    let has = has_name set.targets name number found.0 found.1.there found.1.named in (inr has, has)

-- a name that stands first somewhere is among the names
pub first_is_there : (names : List (List ℕ)) (name : List ℕ) (place : ℕ) → IsFirstAt names name place → Contains names name
first_is_there names name place first =
    (place, slice_get_within names place name first.there, get_or_from_slice_get names place name name first.there)
