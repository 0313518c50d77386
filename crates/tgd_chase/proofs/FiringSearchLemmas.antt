-- Whether a tgd fires on a source with given frontier values is decided, by a search over the constants of the source.
use Rattle.std.proofs.Common.{◌≡◌, ℕ, ◌<◌, List, [], ◌∷◌, map, flat_map, get_or, refl, sym, ◌∙◌, subst, inl, inr, All, Contains}
use Rattle.std.specs.declared.cmp.Ordering.{Ordering}
use Rattle.std.specs.Cmp.{IsTotalOrder}
use Rattle.std.specs.Cmp.Lexicographic.{slice_cmp}
use Rattle.std.specs.FinMap.{IsAntisymmetric, slice_cmp-IsAntisymmetric}
use Rattle.std.proofs.lemmas.Bool.{cases_eq}
use Rattle.std.proofs.lemmas.Cmp.{lists_total}
use Rattle.std.proofs.lemmas.List.Elements.{All-contains, Contains-get_or, Contains-append_left, Contains-append_right}
use Rattle.term_core.specs.declared.const_id.ConstId.{ConstId}
use Rattle.rule_core.specs.declared.rules.Arg.TheVariants.{Var}
use Rattle.rule_core.specs.declared.rules.Atom.{Atom}
use Rattle.rule_core.specs.declared.rules.Tgd.{Tgd}
use Rattle.rule_core.specs.Terms.{TermOf, constant, unknown, FactOf}
use Rattle.rule_core.specs.Match.{value, image, Matches}
use Rattle.rule_core.specs.Firing.{frontier_of, Fires}
use Rattle.rule_core.specs.Validity.{occurrences, AreNumbered}
use Rattle.rule_core.proofs.ListLemmas.{Contains-head, Contains-cons, Contains-nil, Contains-cons_cases, Contains-map}
use Rattle.rule_core.specs.Order.{row_cmp}
use Rattle.rule_core.proofs.OrderLemmas.{row_cmp-total, row_cmp-IsAntisymmetric}
use Rattle.rule_core.proofs.FiringLemmas.{occurs_from, occurs_to, frontier_is}
use Rattle.tgd_chase.proofs.ImageLemmas.{images_agree}
use Rattle.tgd_chase.proofs.DecisionLemmas.{IsDecided, same_decided, both_decided, contains_decided, all_decided, function_decided}

-- the constants of an instance

-- the constants among terms
abbrev constants_of : {C : Type 0} → List (TermOf C) → List C
constants_of [] = []
constants_of (constant c ∷ terms) = c ∷ constants_of terms
constants_of (unknown u ∷ terms) = constants_of terms

among_constants : {C : Type 0} (terms : List (TermOf C)) (c : C) → Contains terms (constant c) → Contains (constants_of terms) c
among_constants [] c h = absurd (Contains-nil (constant c) h)
among_constants (constant b ∷ terms) c h = elim (Contains-cons_cases (constant b) (constant c) terms h) [
  | inl e ↦ let same : b ≡ c = cc in subst (Contains (b ∷ constants_of terms)) same (Contains-head b (constants_of terms))
  | inr d ↦ Contains-cons b c (constants_of terms) (among_constants terms c d)
]
among_constants (unknown u ∷ terms) c h = elim (Contains-cons_cases (unknown u) (constant c) terms h) [
  | inl e ↦ absurd cc
  | inr d ↦ among_constants terms c d
]

-- the constants of facts
abbrev constants_in : {C : Type 0} → List (FactOf C) → List C
constants_in facts = flat_map (λ fact. constants_of fact.terms) facts

in_constants : {C : Type 0} (facts : List (FactOf C)) (fact : FactOf C) (c : C) → Contains facts fact → Contains fact.terms (constant c)
    → Contains (constants_in facts) c
in_constants [] fact c there h = absurd (Contains-nil fact there)
in_constants {C} (f ∷ facts) fact c there h = elim (Contains-cons_cases f fact facts there) [
  | inl e ↦ Contains-append_left (constants_of f.terms) (constants_in facts) c
      (among_constants f.terms c (subst (λ (g : FactOf C). Contains g.terms (constant c)) (sym e) h))
  | inr d ↦ Contains-append_right (constants_of f.terms) (constants_in facts) c (in_constants facts fact c d h)
]

-- matches and their variables

-- functions that agree at each member give the list one image
pub map_agree : {X Y : Type 0} (f g : X → Y) (xs : List X) → ((x : X) → Contains xs x → f x ≡ g x) → map f xs ≡ map g xs
map_agree f g [] h = refl
map_agree f g (x ∷ xs) h =
    let first = h x (Contains-head x xs) in
    let rest = map_agree f g xs (λ y c. h y (Contains-cons x y xs c)) in
    λ i. first i ∷ rest i

module _ {C : Type 0} (name : ConstId → C) where
  -- bindings that agree at the variables of the atoms match alike
  pub matches_agree : (atoms : List Atom) (instance : List (FactOf C)) (b e : ℕ → TermOf C)
      → ((v : ℕ) → Contains (occurrences atoms) v → e v ≡ b v) → Matches name b atoms instance → Matches name e atoms instance
  matches_agree atoms instance b e h m k d l =
      let atom = get_or atoms k d in
      let there = Contains-get_or atoms k d l in
      let same = images_agree name b e atom (λ v c. h v (occurs_to atoms v (there.0, atom, there.1, there.2, c))) in
      subst (λ fact. Contains instance fact) (sym same) (m k d l)

  -- a variable of the atoms stands for a term of a fact that an atom becomes
  pub value_in : (atoms : List Atom) (instance : List (FactOf C)) (b : ℕ → TermOf C) → Matches name b atoms instance
      → (v : ℕ) → Contains (occurrences atoms) v → (fact : FactOf C) × Contains instance fact × Contains fact.terms (b v)
  value_in atoms instance b m v c =
      let at = occurs_from atoms v c in
      let there = All-contains (λ atom. Contains instance (image name b atom)) atoms at.1 m (at.0, at.2, at.3) in
      (image name b at.1, there, Contains-map (value name b) at.1.args (Var v) at.4)

  -- the search

  -- what the values of a tgd's variables must meet for it to fire
  abbrev Fit : Tgd → List (FactOf C) → List C → (ℕ → C) → Type 0
  Fit tgd source values f = Matches name (λ v. constant (f v)) tgd.body source × (map f (frontier_of tgd) ≡ values)

  module _ (tgd : Tgd) (counted : AreNumbered tgd.body_vars (occurrences tgd.body)) (source : List (FactOf C)) (values : List C) where
    -- only the values of the body's variables count
    fit_agree : (f g : ℕ → C) → ((v : ℕ) → v < tgd.body_vars → f v ≡ g v) → Fit tgd source values f → Fit tgd source values g
    fit_agree f g h fit = (
      matches_agree tgd.body source (λ v. constant (f v)) (λ v. constant (g v))
          (λ v c i. constant (sym (h v ((counted.same v).0 c)) i)) fit.0,
      sym (map_agree f g (frontier_of tgd) (λ v c. h v (((frontier_is tgd).same v).0 c).0)) ∙ fit.1,
    )

    -- each value of a variable is a constant of the source
    fit_within : (f : ℕ → C) → Fit tgd source values f → (v : ℕ) → v < tgd.body_vars → Contains (constants_in source) (f v)
    fit_within f fit v l =
        let at = value_in tgd.body source (λ w. constant (f w)) fit.0 v ((counted.same v).1 l) in
        in_constants source at.0 (f v) at.1 at.2

  module _ (base : C) (cmp : C → C → Ordering) (o : IsTotalOrder cmp) (apart : IsAntisymmetric cmp) where
    fact_decided : (a b : FactOf C) → IsDecided (a ≡ b)
    fact_decided a b =
        by (cases_eq a.relation b.relation)
        (same_decided (row_cmp cmp) (row_cmp-total cmp o) (row_cmp-IsAntisymmetric cmp apart) a.terms b.terms)
      where
        by : IsDecided (a.relation ≡ b.relation) → IsDecided (a.terms ≡ b.terms) → IsDecided (a ≡ b)
        by (inl p) (inl q) = inl (λ i. record { relation = p i; terms = q i })
        by (inl p) (inr n) = inr (λ e. n (λ i. (e i).terms))
        by (inr n) later = inr (λ e. n (λ i. (e i).relation))

    pub fires_decided : (tgd : Tgd) → AreNumbered tgd.body_vars (occurrences tgd.body) → (source : List (FactOf C)) (values : List C)
        → IsDecided (Fires name tgd source values)
    fires_decided tgd counted source values =
        let atom_in : (ℕ → C) → Atom → Type 0 = λ f atom. Contains source (image name (λ v. constant (f v)) atom) in
        let matches : (f : ℕ → C) → IsDecided (All (atom_in f) tgd.body) = λ f. all_decided (atom_in f)
        (λ atom. contains_decided fact_decided source (image name (λ v. constant (f v)) atom)) tgd.body in
        let gives : (f : ℕ → C) → IsDecided (map f (frontier_of tgd) ≡ values) =
        λ f. same_decided (slice_cmp cmp) (lists_total o) (slice_cmp-IsAntisymmetric apart) (map f (frontier_of tgd)) values in
        by (function_decided base (constants_in source) tgd.body_vars (Fit tgd source values)
        (λ f. both_decided (All (atom_in f) tgd.body) (map f (frontier_of tgd) ≡ values) (matches f) (gives f))
        (fit_agree tgd counted source values) (fit_within tgd counted source values))
      where
        by : IsDecided ((f : ℕ → C) × Fit tgd source values f) → IsDecided (Fires name tgd source values)
        by (inl k) = inl (k.0, k.1.0, k.1.1)
        by (inr n) = inr (λ k. n (k.0, (k.1, k.2)))
