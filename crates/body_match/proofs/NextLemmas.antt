-- The rows that may be chosen next, in order.
use Rattle.std.proofs.Common.{◌≡◌, ℕ, zero, suc, ◌+◌, ◌-◌, ◌<◌, ◌≤◌, List, [], ◌∷◌, ◌++◌, length, refl, sym, ap, ◌∙◌, subst, arith, AllPairs, Contains, eqb, take, IsPermutation, get_or}
use Rattle.std.specs.Prelude.{slice_get}
use Rattle.std.specs.List.{dedup}
use Rattle.std.specs.List.Sorted.{IsSorted}
use Rattle.std.specs.Ordering.{nat_cmp}
use Rattle.std.proofs.lemmas.Option.{get_or_from_slice_get}
use Rattle.std.proofs.lemmas.List.{length-append}
use Rattle.std.proofs.lemmas.List.Kept.{Contains-dedup_nat, AllPairs-from_increasing}
use Rattle.std.proofs.lemmas.List.Sorted.{Contains-permutation}
use Rattle.std.proofs.lemmas.Map.Keys.{IsStrictlyIncreasing-dedup}
use Rattle.body_match.specs.Search.{Task, HasNext, AddsNext}
use Rattle.body_match.proofs.ListLemmas.{at_from_contains, within_from_at}

take_front : (xs ys : List ℕ) → take (length xs) (xs ++ ys) ≡ xs
take_front [] ys = refl
take_front (x ∷ xs) ys = ap (λ l. x ∷ l) (take_front xs ys)

-- what stands behind a list
at_behind : (xs ys : List ℕ) (k : ℕ) → length xs ≤ k → slice_get (xs ++ ys) k ≡ slice_get ys (k - length xs)
at_behind [] ys k l = ap (slice_get ys) (omega arith)
at_behind (x ∷ xs) ys zero l = absurd (omega (arith, l))
at_behind (x ∷ xs) ys (suc k) l = at_behind xs ys k (omega (arith, l)) ∙ ap (slice_get ys) (omega arith)

pub adds_next : (task : Task) (chosen old new found sorted distinct : List ℕ) → HasNext task chosen found → IsPermutation found sorted
    → IsSorted nat_cmp sorted → distinct ≡ dedup eqb sorted → new ≡ old ++ distinct → AddsNext task chosen old new
adds_next task chosen old new found sorted distinct has moved order same pushed =
    let pairs = subst (AllPairs (λ a b. a < b)) (sym same) (AllPairs-from_increasing (dedup eqb sorted) (IsStrictlyIncreasing-dedup sorted order)) in
    record {
      kept = ap (take (length old)) pushed ∙ take_front old distinct;
      longer = omega (arith, ap length pushed, length-append old distinct);
      ascending = λ j k a b from l p q.
          let at_j = sym (at_behind old distinct j from) ∙ ap (λ xs. slice_get xs j) (sym pushed) ∙ p in
          let at_k = sym (at_behind old distinct k (omega (arith, from, l))) ∙ ap (λ xs. slice_get xs k) (sym pushed) ∙ q in
          let within = within_from_at distinct (k - length old) b at_k in
          let h = pairs (j - length old) (k - length old) 0 (omega (arith, from, l)) within in
          subst (λ x. x < b) (get_or_from_slice_get distinct (j - length old) a 0 at_j)
          (subst (λ x. get_or distinct (j - length old) 0 < x) (get_or_from_slice_get distinct (k - length old) b 0 at_k) h);
      all = λ m n h d.
          let c = subst (λ xs. Contains xs n) (sym same) (Contains-dedup_nat sorted n (Contains-permutation found sorted n moved (has m n h d))) in
          let at = at_from_contains distinct n c in (
            at.0 + length old,
            omega arith,
            ap (λ xs. slice_get xs (at.0 + length old)) pushed ∙ at_behind old distinct (at.0 + length old) (omega arith)
                ∙ ap (slice_get distinct) (let e : at.0 + length old - length old ≡ at.0 = omega arith in e) ∙ at.1,
          );
    }
