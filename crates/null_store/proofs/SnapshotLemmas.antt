-- Snapshots of rows in another order, and of rows that are cut at an instant.
use Rattle.std.proofs.Common.{◌≡◌, ◌↔◌, ℕ, zero, suc, ◌<◌, ℤ, Bool, true, false, cond, List, [], ◌∷◌, ◌++◌, length, map, filter, get_or, set, refl, sym, ap, ◌∙◌, subst, arith, All, IsPermutation}
use Rattle.std.specs.Bool.{Decides}
use Rattle.std.proofs.lemmas.List.{map-append, append_assoc}
use Rattle.std.proofs.lemmas.List.Edits.{swap_is}
use Rattle.std.proofs.lemmas.List.Elements.{All-head, All-tail}
use Rattle.std.proofs.lemmas.List.Sorted.{IsPermutation-refl, IsPermutation-trans, IsPermutation-sym, IsPermutation-map, IsPermutation-keeps, IsPermutation-append_left, IsPermutation-append_right, IsPermutation-append_comm}
use Rattle.time_line.specs.Span.{Ends, Has}
use Rattle.rule_core.specs.Terms.{StampedOf}
use Rattle.rule_core.specs.Snapshot.{has, snapshot_at}
use Rattle.rule_core.proofs.SnapshotLemmas.{Decides-has}

-- what passes a test, in another order
module _ {X : Type 0} (p : X → Bool) where
  abbrev one : X → List X
  one x = cond (p x) (x ∷ []) []

  first_passes : (x : X) (xs : List X) → filter p (x ∷ xs) ≡ one x ++ filter p xs
  first_passes x xs = by (p x)
    where
      by : (b : Bool) → cond b (x ∷ filter p xs) (filter p xs) ≡ cond b (x ∷ []) [] ++ filter p xs
      by true = refl
      by false = refl

  -- three lists, the first two in the other order
  turned : (xs ys zs : List X) → IsPermutation (xs ++ (ys ++ zs)) (ys ++ (xs ++ zs))
  turned xs ys zs = subst (λ l. IsPermutation l (ys ++ (xs ++ zs))) (append_assoc xs ys zs)
      (subst (IsPermutation ((xs ++ ys) ++ zs)) (append_assoc ys xs zs)
      (IsPermutation-append_left zs (xs ++ ys) (ys ++ xs) (IsPermutation-append_comm xs ys)))

  -- one element for another
  passes_set : (l : List X) (i : ℕ) (v d : X) → i < length l
      → IsPermutation (one (get_or l i d) ++ filter p (set l i v)) (one v ++ filter p l)
  passes_set [] i v d h = absurd (omega arith)
  passes_set (x ∷ l) zero v d h =
      subst (λ w. IsPermutation (one x ++ w) (one v ++ filter p (x ∷ l))) (sym (first_passes v l))
      (subst (λ w. IsPermutation (one x ++ (one v ++ filter p l)) (one v ++ w)) (sym (first_passes x l)) (turned (one x) (one v) (filter p l)))
  passes_set (x ∷ l) (suc i) v d h =
      let rest = passes_set l i v d (omega arith) in
      let y = get_or l i d in
      subst (λ w. IsPermutation (one y ++ w) (one v ++ filter p (x ∷ l))) (sym (first_passes x (set l i v)))
      (subst (λ w. IsPermutation (one y ++ (one x ++ filter p (set l i v))) (one v ++ w)) (sym (first_passes x l))
      (IsPermutation-trans _ _ _ (turned (one y) (one x) (filter p (set l i v)))
      (IsPermutation-trans _ _ _ (IsPermutation-append_right (one x) _ _ rest) (turned (one x) (one v) (filter p l)))))

  -- two elements in each other's place
  passes_exchanged : (l : List X) (i j : ℕ) (d : X) → i < length l → j < length l
      → IsPermutation (filter p l) (filter p (set (set l i (get_or l j d)) j (get_or l i d)))
  passes_exchanged [] i j d h k = absurd (omega arith)
  passes_exchanged (x ∷ l) zero zero d h k = IsPermutation-refl (filter p (x ∷ l))
  passes_exchanged (x ∷ l) zero (suc j) d h k =
      let y = get_or l j d in
      subst (λ w. IsPermutation w (filter p (y ∷ set l j x))) (sym (first_passes x l))
      (subst (IsPermutation (one x ++ filter p l)) (sym (first_passes y (set l j x)))
      (IsPermutation-sym _ _ (passes_set l j x d (omega arith))))
  passes_exchanged (x ∷ l) (suc i) zero d h k =
      let y = get_or l i d in
      subst (λ w. IsPermutation w (filter p (y ∷ set l i x))) (sym (first_passes x l))
      (subst (IsPermutation (one x ++ filter p l)) (sym (first_passes y (set l i x)))
      (IsPermutation-sym _ _ (passes_set l i x d (omega arith))))
  passes_exchanged (x ∷ l) (suc i) (suc j) d h k =
      let rest = passes_exchanged l i j d (omega arith) (omega arith) in
      let other = set (set l i (get_or l j d)) j (get_or l i d) in
      subst (λ w. IsPermutation w (filter p (x ∷ other))) (sym (first_passes x l))
      (subst (IsPermutation (one x ++ filter p l)) (sym (first_passes x other))
      (IsPermutation-append_right (one x) (filter p l) (filter p other) rest))

  -- an item of a list that has one
  some_item : (l : List X) → 0 < length l → X
  some_item [] h = absurd (omega arith)
  some_item (x ∷ l) h = x

  passes_any_order : (xs ys : List X) → IsPermutation xs ys → IsPermutation (filter p xs) (filter p ys)
  passes_any_order xs ys = IsPermutation-keeps xs (λ l. IsPermutation (filter p xs) (filter p l)) (IsPermutation-refl (filter p xs))
      (λ l i j h k before.
      let d : X = some_item l (omega arith) in
      IsPermutation-trans _ _ _ before
      (subst (λ w. IsPermutation (filter p l) (filter p w)) (swap_is l i j d h k) (passes_exchanged l i j d h k))) ys

  passes_append : (xs ys : List X) → filter p (xs ++ ys) ≡ filter p xs ++ filter p ys
  passes_append [] ys = refl
  passes_append (x ∷ xs) ys = first_passes x (xs ++ ys) ∙ ap (λ w. one x ++ w) (passes_append xs ys)
      ∙ sym (append_assoc (one x) (filter p xs) (filter p ys)) ∙ ap (λ w. w ++ filter p ys) (sym (first_passes x xs))

-- two tests of what is the same
same_test : {P Q : Type 0} (b c : Bool) → Decides b P → Decides c Q → P ↔ Q → b ≡ c
same_test true true p q h = refl
same_test true false p q h = sym (q.1 (h.0 (p.0 refl)))
same_test false true p q h = p.1 (h.1 (q.0 refl))
same_test false false p q h = refl

module _ {X : Type 0} (t : ℤ) where
  -- a snapshot of rows in another order, and of rows of two lists
  pub snapshot_any_order : (xs ys : List (StampedOf X)) → IsPermutation xs ys → IsPermutation (snapshot_at xs t) (snapshot_at ys t)
  snapshot_any_order xs ys h =
      let p : StampedOf X → Bool = λ e. has e.span t in
      IsPermutation-map (λ (e : StampedOf X). e.row) (filter p xs) (filter p ys) (passes_any_order p xs ys h)

  pub snapshot_append : (xs ys : List (StampedOf X)) → snapshot_at (xs ++ ys) t ≡ snapshot_at xs t ++ snapshot_at ys t
  snapshot_append xs ys =
      let p : StampedOf X → Bool = λ e. has e.span t in
      ap (map (λ (e : StampedOf X). e.row)) (passes_append p xs ys) ∙ map-append (λ (e : StampedOf X). e.row) (filter p xs) (filter p ys)

  -- rows over other spans that have the instant where theirs do
  pub snapshot_same : (f : Ends → Ends) (xs : List (StampedOf X)) → All (λ (e : StampedOf X). Has (f e.span) t ↔ Has e.span t) xs
      → snapshot_at (map (λ (e : StampedOf X). record { row = e.row; span = f e.span }) xs) t ≡ snapshot_at xs t
  snapshot_same f [] h = refl
  snapshot_same f (x ∷ xs) h =
      let same = same_test (has (f x.span) t) (has x.span t) (Decides-has (f x.span) t) (Decides-has x.span t)
      (All-head (λ (e : StampedOf X). Has (f e.span) t ↔ Has e.span t) x xs h) in
      by (has (f x.span) t) (has x.span t) same (snapshot_same f xs (All-tail (λ (e : StampedOf X). Has (f e.span) t ↔ Has e.span t) x xs h))
    where
      p : StampedOf X → Bool
      p e = has e.span t

      over : StampedOf X → StampedOf X
      over e = record { row = e.row; span = f e.span }

      by : (b c : Bool) → b ≡ c → snapshot_at (map over xs) t ≡ snapshot_at xs t
          → map (λ (e : StampedOf X). e.row) (cond b (over x ∷ filter p (map over xs)) (filter p (map over xs)))
          ≡ map (λ (e : StampedOf X). e.row) (cond c (x ∷ filter p xs) (filter p xs))
      by true true e rest = ap (λ l. x.row ∷ l) rest
      by false false e rest = rest
      by true false e rest = absurd cc
      by false true e rest = absurd cc

  pub snapshot_none : (f : Ends → Ends) (xs : List (StampedOf X)) → All (λ (e : StampedOf X). ¬ (Has (f e.span) t)) xs
      → snapshot_at (map (λ (e : StampedOf X). record { row = e.row; span = f e.span }) xs) t ≡ []
  snapshot_none f [] h = refl
  snapshot_none f (x ∷ xs) h =
      by (has (f x.span) t) (λ e. All-head (λ (w : StampedOf X). ¬ (Has (f w.span) t)) x xs h ((Decides-has (f x.span) t).0 e))
      (snapshot_none f xs (All-tail (λ (e : StampedOf X). ¬ (Has (f e.span) t)) x xs h))
    where
      p : StampedOf X → Bool
      p e = has e.span t

      over : StampedOf X → StampedOf X
      over e = record { row = e.row; span = f e.span }

      by : (b : Bool) → ¬ (b ≡ true) → snapshot_at (map over xs) t ≡ []
          → map (λ (e : StampedOf X). e.row) (cond b (over x ∷ filter p (map over xs)) (filter p (map over xs))) ≡ []
      by true none rest = absurd (none refl)
      by false none rest = rest
