-- The unknowns of the firings at an instant as they are listed, and the number of one among sorted ones.
use Rattle.std.proofs.Common.{◌≡◌, ℕ, ℤ, zero, suc, ◌+◌, ◌<◌, ◌≤◌, Bool, true, false, cond, Some, List, [], ◌∷◌, ◌++◌, map, filter, length, take, get_or, count_by, refl, sym, ap, ◌∙◌, arith, flat_map, slice_get}
use Rattle.std.specs.List.{range_with_len}
use Rattle.std.specs.Option.{option_map_or}
use Rattle.std.proofs.lemmas.List.{append-nil, append_assoc}
use Rattle.std.proofs.lemmas.List.Sums.{sum_by-cons}
use Rattle.std.proofs.lemmas.List.Elements.{filter_more}
use Rattle.std.proofs.lemmas.List.Concat.{flat_map-append}
use Rattle.std.proofs.lemmas.List.FromFn.{map-range_with_len_more}
use Rattle.std.proofs.lemmas.List.Sorted.{searchable_from_sorted}
use Rattle.std.specs.declared.cmp.Ordering.{Ordering}
use Rattle.std.specs.declared.cmp.Ordering.TheVariants.{Less, Equal, Greater}
use Rattle.std.specs.Cmp.{IsTotalOrder}
use Rattle.std.specs.Prelude.{IsSorted}
use Rattle.std.specs.Ordering.{is_lt, ordering_index}
use Rattle.std.specs.List.Sorted.{IsPartitionedBy, IsPartitionPoint}
use Rattle.time_line.specs.Span.{Ends, Has, has}
use Rattle.term_core.specs.declared.term.Unknown.{Unknown as HeldUnknown}
use Rattle.rule_core.specs.declared.rules.Tgd.{Tgd}
use Rattle.rule_core.specs.Mapping.{RuleSet}
use Rattle.rule_core.proofs.SnapshotLemmas.{Decides-has}
use Rattle.failure_trace.specs.declared.firing.Firing.{Firing}
use Rattle.failure_trace.specs.Projected.{firings_at, exists_unknowns, unknowns_of, unknowns_at}

lesser : (r s : Ordering) → ordering_index r ≤ ordering_index s → is_lt s ≡ true → is_lt r ≡ true
lesser Less s l e = refl
lesser Equal Less l e = absurd (omega (arith, l))
lesser Equal Equal l e = absurd cc
lesser Equal Greater l e = absurd cc
lesser Greater Less l e = absurd (omega (arith, l))
lesser Greater Equal l e = absurd cc
lesser Greater Greater l e = absurd cc

-- of sorted values, those before a value stand first
pub lesser_stand_first : {X : Type 0} (cmp : X → X → Ordering) → IsTotalOrder cmp → (xs : List X) (u : X) → IsSorted cmp xs
    → IsPartitionedBy (λ w. is_lt (cmp w u)) xs
lesser_stand_first cmp total xs u sorted i j d le within e =
    lesser (cmp (get_or xs i d) u) (cmp (get_or xs j d) u) (searchable_from_sorted total (λ y. y) xs u sorted i j d le within) e

-- where those that pass stand first, as many pass as stand before the first that does not
pub count_is_point : {X : Type 0} (p : X → Bool) (xs : List X) (i : ℕ) → i ≤ length xs
    → IsPartitionPoint (λ x. p x ≡ true) (λ x. p x ≡ false) xs i → count_by p xs ≡ i
count_is_point p [] i within point = omega arith
count_is_point p (x ∷ xs) zero within point =
    let here : p x ≡ false = point.1 0 x (omega arith) (omega arith) in
    let rest : count_by p xs ≡ 0 =
    count_is_point p xs zero (omega arith)
    (λ k d low high. absurd (omega arith), λ k d low high. point.1 (suc k) d (omega arith) (omega arith)) in
    sum_by-cons (λ y. cond (p y) 1 0) x xs ∙ (λ i. cond (here i) 1 0 + rest i)
count_is_point p (x ∷ xs) (suc i) within point =
    let here : p x ≡ true = point.0 0 x (omega arith) (omega arith) in
    let rest : count_by p xs ≡ i =
    count_is_point p xs i (omega arith) (
      λ k d low high. point.0 (suc k) d (omega arith) (omega arith),
      λ k d low high. point.1 (suc k) d (omega arith) (omega arith),
    ) in
    let step : count_by p (x ∷ xs) ≡ 1 + i = sum_by-cons (λ y. cond (p y) 1 0) x xs ∙ (λ j. cond (here j) 1 0 + rest j) in
    omega (arith, step)

-- one more of a range
pub one_more : {X : Type 0} (f : ℕ → X) (old items now : List X) (n : ℕ) (x : X) → items ≡ old ++ map f (range_with_len 0 n)
    → now ≡ items ++ x ∷ [] → x ≡ f n → now ≡ old ++ map f (range_with_len 0 (n + 1))
one_more f old items now n x so_far pushed is =
    pushed
    ∙ (λ i. so_far i ++ is i ∷ [])
    ∙ append_assoc old (map f (range_with_len 0 n)) (f n ∷ [])
    ∙ ap (λ l. old ++ l) (sym (map-range_with_len_more f 0 n n (omega arith)))

-- what a filter keeps of one element more
module _ {X : Type 0} (span : X → Ends) (t : ℤ) where
  abbrev kept : List X → List X
  kept xs = filter (λ x. has (span x) t) xs

  more : (xs : List X) (i : ℕ) (x : X) → i < length xs → x ≡ get_or xs i x
      → kept (take (i + 1) xs) ≡ kept (take i xs) ++ cond (has (span x) t) (x ∷ []) []
  more xs i x l is = filter_more (λ y. has (span y) t) xs i x l ∙ (λ k. kept (take i xs) ++ cond (has (span (sym is k)) t) (sym is k ∷ []) [])

  pub one_kept : (xs : List X) (i : ℕ) (x : X) → i < length xs → x ≡ get_or xs i x → Has (span x) t
      → filter (λ y. has (span y) t) (take (i + 1) xs) ≡ filter (λ y. has (span y) t) (take i xs) ++ x ∷ []
  one_kept xs i x l is h = more xs i x l is ∙ ap (λ b. kept (take i xs) ++ cond b (x ∷ []) []) ((Decides-has (span x) t).1 h)

  not_has : (x : X) → ¬ (Has (span x) t) → (b : Bool) → has (span x) t ≡ b → has (span x) t ≡ false
  not_has x n true e = absurd (n ((Decides-has (span x) t).0 e))
  not_has x n false e = e

  pub none_kept : (xs : List X) (i : ℕ) (x : X) → i < length xs → x ≡ get_or xs i x → ¬ (Has (span x) t)
      → filter (λ y. has (span y) t) (take (i + 1) xs) ≡ filter (λ y. has (span y) t) (take i xs)
  none_kept xs i x l is n =
      more xs i x l is
      ∙ ap (λ b. kept (take i xs) ++ cond b (x ∷ []) []) (not_has x n (has (span x) t) refl)
      ∙ append-nil (kept (take i xs))

-- the unknowns of one firing more
module _ (rules : RuleSet) (firings : List Firing) (t : ℤ) (i : ℕ) (f : Firing) (within : i < length firings) (is : f ≡ get_or firings i f) where
  pub unknowns_more : (tgd : Tgd) (before now : List HeldUnknown) → Has f.span t → slice_get rules.tgds f.rule ≡ Some tgd
      → before ≡ unknowns_at rules (take i firings) t → now ≡ before ++ exists_unknowns tgd f → now ≡ unknowns_at rules (take (i + 1) firings) t
  unknowns_more tgd before now h there so_far added =
      added
      ∙ (λ k. so_far k ++ exists_unknowns tgd f)
      ∙ ap (λ o. unknowns_at rules (take i firings) t ++ option_map_or (λ (g : Tgd). exists_unknowns g f) o []) (sym there)
      ∙ ap (λ l. unknowns_at rules (take i firings) t ++ l) (sym (append-nil (unknowns_of rules f)))
      ∙ sym (flat_map-append (unknowns_of rules) (firings_at (take i firings) t) (f ∷ []))
      ∙ ap (flat_map (unknowns_of rules)) (sym (one_kept (λ (g : Firing). g.span) t firings i f within is h))

  pub unknowns_same : (before : List HeldUnknown) → ¬ (Has f.span t) → before ≡ unknowns_at rules (take i firings) t
      → before ≡ unknowns_at rules (take (i + 1) firings) t
  unknowns_same before n so_far =
      so_far ∙ ap (flat_map (unknowns_of rules)) (sym (none_kept (λ (g : Firing). g.span) t firings i f within is n))
