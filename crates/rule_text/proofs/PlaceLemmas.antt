-- Names by their numbers: each stands first at its number, where no two are equal.
use Rattle.std.proofs.Common.{◌≡◌, ◌≢◌, ℕ, zero, suc, ◌<◌, ◌≤◌, AllPairs, Contains, List, [], ◌∷◌, length, get_or, take, Some, refl, sym, ap, ◌∙◌, subst, arith}
use Rattle.std.specs.Prelude.{slice_get, IsSomeAnd}
use Rattle.std.proofs.lemmas.List.{length-take-le, get_or-take, get_or-map}
use Rattle.std.proofs.lemmas.Option.{slice_get-get_or, slice_get_within, get_or_from_slice_get}
use Rattle.term_core.specs.Pool.{IsPool, IsBefore}
use Rattle.term_core.proofs.PoolLemmas.{before_itself}
use Rattle.rule_core.specs.declared.rules.Relation.{Relation}
use Rattle.rule_core.specs.Validity.{AreDistinct}
use Rattle.rule_text.specs.RuleLine.{IsFirstAt, IsFirstNamed, HasName}
use Rattle.rule_text.specs.Canonical.{text_at, relation_name}

-- what is found, with what holds of it
pub what_is_found : {X : Type 0} (P : X → Type 0) (xs : List X) (k : ℕ) → IsSomeAnd (slice_get xs k) P
    → (x : X) × (slice_get xs k ≡ Some x) × P x
what_is_found P [] k found = absurd found
what_is_found P (x ∷ xs) zero found = (x, refl, found)
what_is_found P (x ∷ xs) (suc k) found = what_is_found P xs k found

-- the name with a number stands first there
pub first_at : (names : List (List ℕ)) (k : ℕ) → AreDistinct names → k < length names → IsFirstAt names (text_at names k) k
first_at names k distinct lt = record {
  there = slice_get-get_or names k [] lt;
  before = λ j d less.
      let here : j < k = omega (arith, less, length-take-le k names (omega arith)) in
      λ e. distinct j k d here lt (sym (get_or-take k names j d here) ∙ e
      ∙ get_or_from_slice_get names k (text_at names k) [] (slice_get-get_or names k [] lt)
      ∙ sym (get_or_from_slice_get names k (text_at names k) d (slice_get-get_or names k [] lt)));
}

distinct_front : (names : List (List ℕ)) (n : ℕ) → n ≤ length names → AreDistinct names → AreDistinct (take n names)
distinct_front names n fits distinct i j d lt within =
    let size = length-take-le n names fits in
    λ e. distinct i j d lt (omega arith)
    (sym (get_or-take n names i d (omega arith)) ∙ e ∙ get_or-take n names j d (omega arith))

-- also among the first few
pub first_in_front : (names : List (List ℕ)) (n k : ℕ) → AreDistinct names → n ≤ length names → k < n
    → IsFirstAt (take n names) (text_at names k) k
first_in_front names n k distinct fits lt =
    let size = length-take-le n names fits in
    subst (λ name. IsFirstAt (take n names) name k) (get_or-take n names k [] lt)
    (first_at (take n names) k (distinct_front names n fits distinct) (omega arith))

pub in_front : (names : List (List ℕ)) (n k : ℕ) → n ≤ length names → k < n → Contains (take n names) (text_at names k)
in_front names n k fits lt =
    let size = length-take-le n names fits in (
      k,
      omega arith,
      get_or-take n names k _ lt
          ∙ get_or_from_slice_get names k (text_at names k) _ (slice_get-get_or names k [] (omega arith)),
    )

-- and the next isn't among them
pub not_in_front : (names : List (List ℕ)) (n : ℕ) → AreDistinct names → n < length names → ¬ Contains (take n names) (text_at names n)
not_in_front names n distinct lt c =
    let size = length-take-le n names (omega arith) in
    let less : c.0 < n = omega (arith, c.1) in
    distinct c.0 n (text_at names n) less lt (sym (get_or-take n names c.0 _ less) ∙ c.2
    ∙ sym (get_or_from_slice_get names n (text_at names n) _ (slice_get-get_or names n [] lt)))

pub pool_distinct : (pool : List (List ℕ)) → IsPool pool → AreDistinct pool
pool_distinct pool is i j d lt within e =
    before_itself (get_or pool j d) (subst (λ t. IsBefore t (get_or pool j d)) e (is.order i j d lt within))

-- the name of the relation with a number
pub relation_name_is : (relations : List Relation) (k : ℕ) (relation : Relation) → slice_get relations k ≡ Some relation
    → relation_name relations k ≡ relation.name
relation_name_is relations k relation e =
    get_or-map (λ (r : Relation). r.name) relations k relation [] (slice_get_within relations k relation e)
    ∙ ap (λ (r : Relation). r.name) (get_or_from_slice_get relations k relation relation e)

pub first_named : (relations : List Relation) (k : ℕ) (relation : Relation) → AllPairs (λ a b. a.name ≢ b.name) relations
    → slice_get relations k ≡ Some relation → IsFirstNamed relations relation.name k relation
first_named relations k relation distinct e =
    let lt = slice_get_within relations k relation e in
    record {
      there = e;
      named = refl;
      before = λ j d less.
          let here : j < k = omega (arith, less, length-take-le k relations (omega arith)) in
          λ same. distinct j k d here lt (ap (λ (r : Relation). r.name) (sym (get_or-take k relations j d here)) ∙ same
          ∙ ap (λ (r : Relation). r.name) (sym (get_or_from_slice_get relations k relation d e)));
    }

pub has_name : (relations : List Relation) (k : ℕ) (relation : Relation) → slice_get relations k ≡ Some relation
    → HasName relations relation.name
has_name relations k relation e =
    (k, relation, slice_get_within relations k relation e, get_or_from_slice_get relations k relation relation e, refl)
