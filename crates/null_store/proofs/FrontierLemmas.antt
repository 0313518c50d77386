-- The place of a variable in the frontier, and the values of its variables as they are put down one after another.
use Rattle.std.proofs.Common.{◌≡◌, ℕ, zero, suc, ◌+◌, ◌<◌, ◌≤◌, ◌==◌, Bool, true, false, cond, not, Some, None, List, [], ◌∷◌, ◌++◌, length, filter, get_or, set, sym, ap, ◌∙◌, subst, arith, add-one, ⊎_elim, ◌≢◌}
use Rattle.std.specs.Prelude.{slice_get, position, nat_lt}
use Rattle.std.specs.List.{range_with_len, position_or_len}
use Rattle.std.specs.Option.{option_and_then, option_map}
use Rattle.std.proofs.lemmas.Bool.{cases_lt, cases_Bool, eq-eqb, ne_eqb, lt-ltb}
use Rattle.std.proofs.lemmas.List.{get_or-set_same, get_or-set_other, length_push, append-nil}
use Rattle.std.proofs.lemmas.List.Elements.{filter-append}
use Rattle.std.proofs.lemmas.Option.{slice_get-get_or}
use Rattle.term_core.specs.declared.const_id.ConstId.{ConstId}
use Rattle.term_core.specs.declared.term.Seen.{Seen}
use Rattle.term_core.specs.declared.term.Seen.TheVariants.{Const, Piece}
use Rattle.rule_core.specs.declared.rules.Atom.{Atom}
use Rattle.rule_core.specs.declared.rules.Tgd.{Tgd}
use Rattle.rule_core.specs.Frontier.{Occurs}
use Rattle.rule_core.specs.Firing.{has_variable, frontier_of, frontier_value}
use Rattle.rule_core.proofs.FiringLemmas.{is_occurs, occurs_is}
use Rattle.null_store.specs.Layout.{HasValuesBelow}

-- a range with one more number
range_more : (a n v : ℕ) → a + n ≡ v → range_with_len a (n + 1) ≡ range_with_len a n ++ v ∷ []
range_more a zero v e = let same : a ≡ v = omega (arith, e) in ap (λ w. w ∷ []) same
range_more a (suc n) v e =
    let rest = range_more (a + 1) n v (omega (arith, e)) in
    rw add-one (ap (λ l. a ∷ l) (sym (ap (range_with_len (a + 1)) (add-one n)) ∙ rest))

-- the test does not find a variable that does not occur
pub absent : (atoms : List Atom) (v : ℕ) → ¬ (Occurs atoms v) → has_variable atoms v ≡ false
absent atoms v none = ⊎_elim (λ t. absurd (none (occurs_is atoms v t))) (λ f. f) (cases_Bool (has_variable atoms v))

module _ (P : ℕ → Bool) where
  -- how many numbers of a range pass, one step on
  pub passed_more : (n : ℕ) → P n ≡ true → length (filter P (range_with_len 0 (n + 1))) ≡ length (filter P (range_with_len 0 n)) + 1
  passed_more n h =
      let before = filter P (range_with_len 0 n) in
      ap (λ l. length (filter P l)) (range_more 0 n n (omega arith)) ∙ ap length (filter-append P (range_with_len 0 n) (n ∷ []))
      ∙ ap (λ b. length (before ++ cond b (n ∷ []) [])) h ∙ length_push before n

  pub passed_same : (n : ℕ) → P n ≡ false → length (filter P (range_with_len 0 (n + 1))) ≡ length (filter P (range_with_len 0 n))
  passed_same n h =
      let before = filter P (range_with_len 0 n) in
      ap (λ l. length (filter P l)) (range_more 0 n n (omega arith)) ∙ ap length (filter-append P (range_with_len 0 n) (n ∷ []))
      ∙ ap (λ b. length (before ++ cond b (n ∷ []) [])) h ∙ ap length (append-nil before)

  -- the place of a number that passes, among all that pass: there are as many before it
  passed_place : (a n k v : ℕ) → a + k ≡ v → k < n → P v ≡ true
      → (position_or_len (λ w. w == v) (filter P (range_with_len a n)) ≡ length (filter P (range_with_len a k)))
      × (length (filter P (range_with_len a k)) < length (filter P (range_with_len a n)))
  passed_place a zero k v e l p = absurd (omega arith)
  passed_place a (suc n) zero v e l p =
      let same : a ≡ v = omega (arith, e) in
      let passes = ap P same ∙ p in
      let later = filter P (range_with_len (a + 1) n) in (
        ap (λ b. position_or_len (λ w. w == v) (cond b (a ∷ later) later)) passes
            ∙ ap (λ b. cond (not b) (1 + position_or_len (λ w. w == v) later) 0) (eq-eqb a v same),
        subst (λ b. 0 < length (cond b (a ∷ later) later)) (sym passes) (omega arith),
      )
  passed_place a (suc n) (suc k) v e l p =
      by (P a) (passed_place (a + 1) n k v (omega (arith, e)) (omega arith) p) (ne_eqb a v (λ same. omega (arith, e, same)))
    where
      by : (b : Bool)
          → (position_or_len (λ w. w == v) (filter P (range_with_len (a + 1) n)) ≡ length (filter P (range_with_len (a + 1) k)))
          × (length (filter P (range_with_len (a + 1) k)) < length (filter P (range_with_len (a + 1) n)))
          → (a == v) ≡ false
          → (position_or_len (λ w. w == v) (cond b (a ∷ filter P (range_with_len (a + 1) n)) (filter P (range_with_len (a + 1) n)))
          ≡ length (cond b (a ∷ filter P (range_with_len (a + 1) k)) (filter P (range_with_len (a + 1) k))))
          × (length (cond b (a ∷ filter P (range_with_len (a + 1) k)) (filter P (range_with_len (a + 1) k)))
          < length (cond b (a ∷ filter P (range_with_len (a + 1) n)) (filter P (range_with_len (a + 1) n))))
      by true rest differs = (
        ap (λ b. cond (not b) (1 + position_or_len (λ w. w == v) (filter P (range_with_len (a + 1) n))) 0) differs
            ∙ ap (λ m. 1 + m) rest.0 ∙ omega arith,
        omega (arith, rest.1),
      )
      by false rest differs = rest

module _ (tgd : Tgd) (frontier : List ConstId) (size : length frontier ≡ length (frontier_of tgd)) (v : ℕ) (below : v < tgd.body_vars)
    (occurs : Occurs tgd.head v) where
  -- how many frontier variables are smaller
  abbrev pub smaller : ℕ
  smaller = length (filter (has_variable tgd.head) (range_with_len 0 v))

  place : (position_or_len (λ w. w == v) (frontier_of tgd) ≡ smaller) × (smaller < length (frontier_of tgd))
  place = passed_place (has_variable tgd.head) 0 tgd.body_vars v v (omega arith) below (is_occurs tgd.head v occurs)

  pub value_there : smaller < length frontier
  value_there = omega (arith, place.1, size)

  -- the value of the variable is that at the place
  pub value_is : (taken : ℕ) (d : ConstId) → taken ≡ smaller
      → Some (Const (get_or frontier taken d)) ≡ option_map Const (frontier_value (frontier_of tgd) frontier v)
  value_is taken d t =
      let found : position (λ w. w == v) (frontier_of tgd) ≡ Some taken =
      (λ i. cond (nat_lt (place.0 i) (length (frontier_of tgd))) (Some (place.0 i)) None)
      ∙ ap (λ b. cond b (Some smaller) None) (lt-ltb smaller (length (frontier_of tgd)) place.1) ∙ ap Some (sym t) in
      let there = slice_get-get_or frontier taken d (omega (arith, t, value_there)) in
      sym (ap (λ o. option_map Const (option_and_then (λ k. slice_get frontier k) o)) found ∙ ap (option_map Const) there)

-- a value is there for the next variable of the frontier
pub taken_inside : (tgd : Tgd) (frontier : List ConstId) → length frontier ≡ length (frontier_of tgd) → (v taken : ℕ) (head : List Atom)
    → head ≡ tgd.head → v < tgd.body_vars → Occurs head v → taken ≡ length (filter (has_variable tgd.head) (range_with_len 0 v))
    → taken < length frontier
taken_inside tgd frontier size v taken head e below occurs t =
    omega (arith, t, value_there tgd frontier size v below (subst (λ (atoms : List Atom). Occurs atoms v) e occurs))

module _ (tgd : Tgd) (frontier : List ConstId) (values : List Seen) (n : ℕ) (before : HasValuesBelow tgd frontier n values) where
  pub value_put : (seen : Seen) → n < length values
      → (Occurs tgd.head n → Some seen ≡ option_map Const (frontier_value (frontier_of tgd) frontier n))
      → HasValuesBelow tgd frontier (n + 1) (set values n seen)
  value_put seen l new v h o = ⊎_elim
      (λ (lt : v < n). let other : v ≢ n = omega arith in
      ap Some (get_or-set_other values n v seen (Piece 0) other) ∙ before v lt o)
      (λ (ge : n ≤ v). let same : n ≡ v = omega arith in
      subst (λ w. Some (get_or (set values n seen) w (Piece 0)) ≡ option_map Const (frontier_value (frontier_of tgd) frontier w)) same
      (ap Some (get_or-set_same values n seen (Piece 0) l) ∙ new (subst (Occurs tgd.head) (sym same) o)))
      (cases_lt v n)

  pub value_skipped : ¬ (Occurs tgd.head n) → HasValuesBelow tgd frontier (n + 1) values
  value_skipped none v h o = ⊎_elim
      (λ (lt : v < n). before v lt o)
      (λ (ge : n ≤ v). let same : v ≡ n = omega arith in absurd (none (subst (Occurs tgd.head) same o)))
      (cases_lt v n)
