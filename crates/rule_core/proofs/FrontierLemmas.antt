-- Numbers that are picked from those below a bound, one after another.
use Rattle.std.proofs.Common.{◌≡◌, ℕ, ◌+◌, ◌<◌, List, [], ◌∷◌, ◌++◌, get_or, subst, arith, ⊎_elim, AllPairs, Contains}
use Rattle.std.specs.Prelude.{◌↔◌}
use Rattle.std.proofs.lemmas.Bool.{cases_lt}
use Rattle.std.proofs.lemmas.List.Elements.{Contains-append_left, Contains-push, Contains-push_cases, Contains-get_or}
use Rattle.std.proofs.lemmas.List.Quantifiers.{all_pairs_push}

-- the numbers below n that have the property, ascending
pub record ArePicked (P : ℕ → Type 0) (n : ℕ) (xs : List ℕ) : Type 0 where
  pub same : (v : ℕ) → Contains xs v ↔ ((v < n) × P v)
  pub ascending : AllPairs (λ a b. a < b) xs

module _ (P : ℕ → Type 0) where
  pub picked_none : ArePicked P 0 []
  picked_none = record {
    same = λ v. (λ c. absurd (omega (arith, c.1)), λ h. absurd (omega (arith, h.0)));
    ascending = λ i j d lt within. absurd (omega arith);
  }

  pub picked_more : (n : ℕ) (xs : List ℕ) → ArePicked P n xs → P n → ArePicked P (n + 1) (xs ++ n ∷ [])
  picked_more n xs h p = record {
    same = λ v. (
      λ c. ⊎_elim (λ old. let k = (h.same v).0 old in (omega (arith, k.0), k.1))
          (λ e. (omega (arith, e), subst P e p)) (Contains-push_cases xs n v c),
      λ k. ⊎_elim (λ lt. Contains-append_left xs (n ∷ []) v ((h.same v).1 (lt, k.1)))
          (λ ge. let e : n ≡ v = omega (arith, k.0, ge) in subst (Contains (xs ++ n ∷ [])) e (Contains-push xs n)) (cases_lt v n),
    );
    ascending = all_pairs_push (λ a b. a < b) xs n h.ascending
        (λ k d lt. ((h.same (get_or xs k d)).0 (Contains-get_or xs k d lt)).0);
  }

  pub picked_skip : (n : ℕ) (xs : List ℕ) → ArePicked P n xs → ¬ (P n) → ArePicked P (n + 1) xs
  picked_skip n xs h p = record {
    same = λ v. (
      λ c. let k = (h.same v).0 c in (omega (arith, k.0), k.1),
      λ k. ⊎_elim (λ lt. (h.same v).1 (lt, k.1))
          (λ ge. let e : v ≡ n = omega (arith, k.0, ge) in absurd (p (subst P e k.1))) (cases_lt v n),
    );
    ascending = h.ascending;
  }
