-- What a firing's step of a trace binds, and what its tgd makes of that.
use Rattle.std.proofs.Common.{◌≡◌, ℕ, zero, suc, ◌+◌, ◌-◌, ◌<◌, ◌≤◌, ◌==◌, ltb, Option, Some, None, List, [], ◌∷◌, ◌++◌, map, drop, flat_map, length, get_or}
use Rattle.std.proofs.Common.{refl, sym, ap, ◌∙◌, subst, inl, inr, arith, All, Contains, slice_get}
use Rattle.std.specs.List.{range_with_len, position_or_len}
use Rattle.std.specs.Option.{option_map, option_and_then, option_map_or}
use Rattle.std.proofs.lemmas.Bool.{cases_lt, lt-ltb, le-ltb, eqb-true, eq-eqb, both_ways, cond-true, cond-false}
use Rattle.std.proofs.lemmas.List.Elements.{All-nil, All-cons}
use Rattle.std.proofs.lemmas.List.Sums.{fails_before_first, passes_at_first}
use Rattle.std.proofs.lemmas.Option.{slice_get-map, slice_get-get_or}
use Rattle.term_core.specs.declared.const_id.ConstId.{ConstId}
use Rattle.term_core.specs.declared.term.Unknown.{Unknown as HeldUnknown}
use Rattle.rule_core.specs.declared.rules.Arg.{Arg}
use Rattle.rule_core.specs.declared.rules.Arg.TheVariants.{Var, Const as ConstArg}
use Rattle.rule_core.specs.declared.rules.Atom.{Atom}
use Rattle.rule_core.specs.declared.rules.Tgd.{Tgd}
use Rattle.rule_core.specs.Terms.{Unknown, numbered, named, TermOf, constant, unknown, FactOf}
use Rattle.rule_core.specs.Values.{unknown_value}
use Rattle.rule_core.specs.Match.{value, image}
use Rattle.rule_core.specs.Frontier.{Occurs}
use Rattle.rule_core.specs.Firing.{frontier_of, frontier_value, fired_term}
use Rattle.rule_core.proofs.ListLemmas.{Contains-head, Contains-cons}
use Rattle.rule_core.proofs.FiringLemmas.{frontier_is}
use Rattle.failure_trace.specs.declared.trace.Value.{Value}
use Rattle.failure_trace.specs.declared.trace.Value.TheVariants.{Const, Null}
use Rattle.failure_trace.specs.Trace.{term_of, IsUnknown, numbers_of}
use Rattle.failure_trace.specs.Equating.{bound_to}
use Rattle.failure_trace.specs.Projected.{pool_text, number_among}
use Rattle.failure_trace.specs.Projection.{traced_term}

-- images as they are told: constants by other names, and each other term in some way
module _ {C D : Type 0} (name : ConstId → C) (to : C → D) (tell : TermOf C → TermOf D)
    (same : (c : C) → tell (constant c) ≡ constant (to c))
    (b : ℕ → TermOf C) (e : ℕ → TermOf D) where
  values_told : (args : List Arg) → ((v : ℕ) → Contains args (Var v) → e v ≡ tell (b v))
      → map (value (λ k. to (name k)) e) args ≡ map tell (map (value name b) args)
  values_told [] h = refl
  values_told (Var v ∷ args) h =
      let first = h v (Contains-head (Var v) args) in
      let rest = values_told args (λ w c. h w (Contains-cons (Var v) (Var w) args c)) in
      λ i. first i ∷ rest i
  values_told (ConstArg k ∷ args) h =
      let first = sym (same (name k)) in
      let rest = values_told args (λ w c. h w (Contains-cons (ConstArg k) (Var w) args c)) in
      λ i. first i ∷ rest i

  -- a fact, term by term
  abbrev pub told_fact : FactOf C → FactOf D
  told_fact fact = record { relation = fact.relation; terms = map tell fact.terms }

  pub image_told : (atom : Atom) → ((v : ℕ) → Contains atom.args (Var v) → e v ≡ tell (b v))
      → image (λ k. to (name k)) e atom ≡ told_fact (image name b atom)
  image_told atom h = λ i. record { relation = atom.relation; terms = values_told atom.args h i }

  pub images_told : (atoms : List Atom) → ((v : ℕ) → Occurs atoms v → e v ≡ tell (b v))
      → map (image (λ k. to (name k)) e) atoms ≡ map told_fact (map (image name b) atoms)
  images_told [] h = refl
  images_told (atom ∷ atoms) h =
      let first = image_told atom (λ v c. h v (0, atom, omega arith, refl, c)) in
      let rest = images_told atoms (λ v o. h v (suc o.0, o.1, omega (arith, o.2), o.3, o.4)) in
      λ i. first i ∷ rest i

-- the place of a variable in the frontier
module _ (xs : List ℕ) (v : ℕ) where
  -- the first place of the variable, or the length where there is none
  abbrev here : ℕ
  here = position_or_len (λ w. w == v) xs

  here_is : here < length xs → get_or xs here v ≡ v
  here_is l = eqb-true (get_or xs here v) v (passes_at_first (λ w. w == v) xs v l)

  here_within : Contains xs v → here < length xs
  here_within c = elim (cases_lt here (length xs)) [
    | inl l ↦ l
    | inr past ↦
        let fails = fails_before_first (λ w. w == v) xs c.0 v (omega (arith, c.1)) in
        absurd (both_ways (get_or xs c.0 v == v) fails (eq-eqb (get_or xs c.0 v) v c.2))
  ]

  value_there : {C : Type 0} (f : ℕ → C) → Contains xs v → frontier_value xs (map f xs) v ≡ Some (f v)
  value_there {C} f c =
      let l = here_within c in
      let n = length xs in
      ap (option_and_then (λ place. slice_get (map f xs) place)) (cond-true (ltb here n) (Some here) None (lt-ltb here n l))
      ∙ slice_get-map f xs here
      ∙ ap (λ o. option_map f o) (slice_get-get_or xs here v l)
      ∙ ap (λ w. Some (f w)) (here_is l)

  value_none : {C : Type 0} (values : List C) → ¬ (Contains xs v) → frontier_value xs values v ≡ None
  value_none {C} values n = elim (cases_lt here (length xs)) [
    | inl l ↦ absurd (n (here, l, here_is l))
    | inr past ↦ let n = length xs in
        ap (option_and_then (λ place. slice_get values place)) (cond-false (ltb here n) (Some here) None (le-ltb here n past))
  ]

-- what a variable of a tgd stands for as it fires: a value of the body's variables, or the unknown of an `exists` variable
module _ {C : Type 0} (place : ℕ) (tgd : Tgd) (f : ℕ → C) (values : List C) (are : map f (frontier_of tgd) ≡ values) where
  abbrev stands_for : ℕ → Option C → TermOf C
  stands_for v o = option_map_or constant o (unknown (named place values (v - tgd.body_vars)))

  pub fired_first : (v : ℕ) → v < tgd.body_vars → Occurs tgd.head v → fired_term place tgd values v ≡ constant (f v)
  fired_first v l occurs =
      let vs = frontier_of tgd in
      let c = ((frontier_is tgd).same v).1 (l, occurs) in
      ap (stands_for v) (subst (λ values. frontier_value vs values v ≡ Some (f v)) are (value_there vs v f c))

  pub fired_other : (v : ℕ) → tgd.body_vars ≤ v → fired_term place tgd values v ≡ unknown (named place values (v - tgd.body_vars))
  fired_other v le =
      ap (stands_for v) (value_none (frontier_of tgd) v values (λ c. omega (arith, le, (((frontier_is tgd).same v).0 c).0)))

-- constants, and then unknowns, as terms
abbrev pub bound_terms : List ConstId → List HeldUnknown → List (TermOf ConstId)
bound_terms constants unknowns = map constant constants ++ map (λ u. unknown (unknown_value u)) unknowns

pub constant_at : (cs : List ConstId) (us : List HeldUnknown) (v : ℕ) (c : ConstId) → slice_get cs v ≡ Some c
    → bound_to (bound_terms cs us) v ≡ constant c
constant_at [] us v c e = absurd cc
constant_at (d ∷ cs) us zero c e = let same : d ≡ c = cc in ap constant same
constant_at (d ∷ cs) us (suc v) c e = constant_at cs us v c e

behind_constants : (cs : List ConstId) (xs : List (TermOf ConstId)) (k v : ℕ) → v ≡ length cs + k
    → bound_to (map constant cs ++ xs) v ≡ bound_to xs k
behind_constants [] xs k v e = let same : v ≡ k = omega (arith, e) in ap (bound_to xs) same
behind_constants (c ∷ cs) xs k zero e = absurd (omega (arith, e))
behind_constants (c ∷ cs) xs k (suc v) e = behind_constants cs xs k v (omega (arith, e))

ranged_at : (f : ℕ → HeldUnknown) (a n k : ℕ) → k < n
    → bound_to (map (λ u. unknown (unknown_value u)) (map f (range_with_len a n))) k ≡ unknown (unknown_value (f (a + k)))
ranged_at f a zero k l = absurd (omega (arith, l))
ranged_at f a (suc n) zero l = let e : a ≡ a + 0 = omega arith in ap (λ m. unknown (unknown_value (f m))) e
ranged_at f a (suc n) (suc k) l =
    let e : a + 1 + k ≡ a + suc k = omega arith in
    ranged_at f (a + 1) n k (omega (arith, l)) ∙ ap (λ m. unknown (unknown_value (f m))) e

pub unknown_at : (cs : List ConstId) (f : ℕ → HeldUnknown) (n k v : ℕ) → v ≡ length cs + k → k < n
    → bound_to (bound_terms cs (map f (range_with_len 0 n))) v ≡ unknown (unknown_value (f k))
unknown_at cs f n k v at l =
    let e : 0 + k ≡ k = omega arith in
    behind_constants cs (map (λ u. unknown (unknown_value u)) (map f (range_with_len 0 n))) k v at
    ∙ ranged_at f 0 n k l
    ∙ ap (λ m. unknown (unknown_value (f m))) e

-- the number of an unknown in a trace that numbers these
abbrev pub trace_number : List HeldUnknown → Unknown ConstId → ℕ
trace_number unknowns (numbered n) = 0
trace_number unknowns (named rule frontier var) = number_among unknowns (record { rule = rule; frontier = frontier; var = var })

module _ (pool : List (List ℕ)) (all : List HeldUnknown) where
  -- what is told of constants, and then of unknowns
  abbrev pub bound_values : List ConstId → List HeldUnknown → List Value
  bound_values cs us = map (λ c. Const (pool_text pool c)) cs ++ map (λ u. Null (number_among all u)) us

  pub terms_told : (cs : List ConstId) (us : List HeldUnknown)
      → map term_of (bound_values cs us) ≡ map (traced_term (pool_text pool) (trace_number all)) (bound_terms cs us)
  terms_told [] [] = refl
  terms_told [] (u ∷ us) = ap (λ rest. unknown (numbered (number_among all u)) ∷ rest) (terms_told [] us)
  terms_told (c ∷ cs) us = ap (λ rest. constant (pool_text pool c) ∷ rest) (terms_told cs us)

  pub behind_values : (cs : List ConstId) (us : List HeldUnknown)
      → drop (length cs) (bound_values cs us) ≡ map (λ u. Null (number_among all u)) us
  behind_values [] us = refl
  behind_values (c ∷ cs) us = behind_values cs us

  pub numbers_told : (us : List HeldUnknown) → flat_map numbers_of (map (λ u. Null (number_among all u)) us) ≡ map (number_among all) us
  numbers_told [] = refl
  numbers_told (u ∷ us) = ap (λ rest. number_among all u ∷ rest) (numbers_told us)

  pub are_unknown : (us : List HeldUnknown) → All IsUnknown (map (λ u. Null (number_among all u)) us)
  are_unknown [] = All-nil IsUnknown
  are_unknown (u ∷ us) = All-cons IsUnknown (Null (number_among all u)) (map (λ u. Null (number_among all u)) us) tt (are_unknown us)
