-- The labels of places, by parents and by edges.
use Rattle.std.proofs.Common.{◌≡◌, ◌⊎◌, ℕ, zero, suc, ◌==◌, ◌+◌, ◌<◌, ◌≤◌, max, min, List, [], ◌∷◌, ◌++◌, fold, length, map, get_or, set, take, append-nil, refl, sym, ap, ◌∙◌, subst, inl, inr, ⊎_elim, arith, Contains}
use Rattle.std.specs.Prelude.{if◌then◌else◌}
use Rattle.std.proofs.lemmas.Bool.{cases_lt}
use Rattle.std.proofs.lemmas.Bool.Decides.{nat_tests}
use Rattle.std.proofs.lemmas.List.{get_or_append_left, get_or_push, get_or_past, get_or_default, length_push, length-map, get_or-set_same, get_or-set_other, length-set, append_assoc, map-append, take_more, get_or-take, length-take-le}
use Rattle.std.proofs.Math.ListN.{get_or-map as map_at}
use Rattle.std.proofs.lemmas.Grind.{same_number_lists}
use Rattle.std.proofs.lemmas.List.Elements.{Contains-append_left, Contains-push, Contains-push_cases, Contains-get_or}
use Rattle.std.specs.List.{range_with_len}
use Rattle.std.proofs.lemmas.List.FromFn.{length-range_with_len, get_or-range_with_len}
use Rattle.normaliser.specs.Normalised.{Reaches}
use Rattle.normaliser.specs.Normalised.Reaches.{here, step}
use Rattle.normaliser.specs.Labels.{AreParents, with_label, labels_of, merged, Joins, Edge, IsEdge, AreLabels, star, Unites}

-- as many labels as parents, and those so far stay
labels_size : (labels parents : List ℕ) → length (fold with_label labels parents) ≡ length labels + length parents
labels_size labels [] = omega arith
labels_size labels (p ∷ ps) =
    let rest = labels_size (with_label labels p) ps in
    let more = length_push labels (get_or labels p (length labels)) in
    omega (arith, rest, more)

labels_stay : (labels parents : List ℕ) (k d : ℕ) → k < length labels → get_or (fold with_label labels parents) k d ≡ get_or labels k d
labels_stay labels [] k d l = refl
labels_stay labels (p ∷ ps) k d l =
    let more = length_push labels (get_or labels p (length labels)) in
    labels_stay (with_label labels p) ps k d (omega (arith, l, more))
    ∙ get_or_append_left labels (get_or labels p (length labels) ∷ []) d k l

-- a place has the label of its parent, where that stands before it, and else its own number
label_of_child : (labels parents : List ℕ) (i k : ℕ) → k ≡ length labels + i → i < length parents → get_or parents i 0 < k
    → get_or (fold with_label labels parents) k 0 ≡ get_or (fold with_label labels parents) (get_or parents i 0) 0
label_of_child labels [] i k e l h = absurd (omega (arith, l))
label_of_child labels (p ∷ ps) zero k e l h =
    let at : k ≡ length labels = omega (arith, e) in
    let below : p < length labels = omega (arith, h, at) in
    let more = length_push labels (get_or labels p (length labels)) in
    labels_stay (with_label labels p) ps k 0 (omega (arith, at, more))
    ∙ get_or_push labels (get_or labels p (length labels)) 0 k (sym at)
    ∙ get_or_default labels p (length labels) 0 below
    ∙ sym (get_or_append_left labels (get_or labels p (length labels) ∷ []) 0 p below)
    ∙ sym (labels_stay (with_label labels p) ps p 0 (omega (arith, below, more)))
label_of_child labels (p ∷ ps) (suc i) k e l h =
    let more = length_push labels (get_or labels p (length labels)) in
    label_of_child (with_label labels p) ps i k (omega (arith, e, more)) (omega (arith, l)) h

label_of_root : (labels parents : List ℕ) (i k : ℕ) → k ≡ length labels + i → i < length parents → k ≤ get_or parents i 0
    → get_or (fold with_label labels parents) k 0 ≡ k
label_of_root labels [] i k e l h = absurd (omega (arith, l))
label_of_root labels (p ∷ ps) zero k e l h =
    let at : k ≡ length labels = omega (arith, e) in
    let more = length_push labels (get_or labels p (length labels)) in
    labels_stay (with_label labels p) ps k 0 (omega (arith, at, more))
    ∙ get_or_push labels (get_or labels p (length labels)) 0 k (sym at)
    ∙ get_or_past labels p (length labels) (omega (arith, h, at))
    ∙ sym at
label_of_root labels (p ∷ ps) (suc i) k e l h =
    let more = length_push labels (get_or labels p (length labels)) in
    label_of_root (with_label labels p) ps i k (omega (arith, e, more)) (omega (arith, l)) h

-- and a list with that is the list of labels
labels_are : (labels parents list : List ℕ) → length list ≡ length labels + length parents
    → ((k : ℕ) → k < length labels → get_or list k 0 ≡ get_or labels k 0)
    → ((i k : ℕ) → k ≡ length labels + i → i < length parents → get_or parents i 0 < k → get_or list k 0 ≡ get_or list (get_or parents i 0) 0)
    → ((i k : ℕ) → k ≡ length labels + i → i < length parents → k ≤ get_or parents i 0 → get_or list k 0 ≡ k)
    → fold with_label labels parents ≡ list
labels_are labels [] list size front child root =
    same_number_lists labels list (omega (arith, size)) (λ k l. sym (front k l))
labels_are labels (p ∷ ps) list size front child root =
    labels_are (with_label labels p) ps list (omega (arith, size, more)) stay
    (λ i k e l h. child (suc i) k (omega (arith, e, more)) (omega (arith, l)) h)
    (λ i k e l h. root (suc i) k (omega (arith, e, more)) (omega (arith, l)) h)
  where
    more : length (labels ++ get_or labels p (length labels) ∷ []) ≡ length labels + 1
    more = length_push labels (get_or labels p (length labels))

    last : (k : ℕ) → k ≡ length labels → get_or list k 0 ≡ get_or labels p (length labels)
    last k at = ⊎_elim
        (λ (below : p < length labels).
        child 0 k (omega (arith, at)) (omega arith) (omega (arith, below, at)) ∙ front p below ∙ get_or_default labels p 0 (length labels) below)
        (λ (past : length labels ≤ p).
        root 0 k (omega (arith, at)) (omega arith) (omega (arith, past, at)) ∙ at ∙ sym (get_or_past labels p (length labels) past))
        (cases_lt p (length labels))

    stay : (k : ℕ) → k < length (labels ++ get_or labels p (length labels) ∷ [])
        → get_or list k 0 ≡ get_or (labels ++ get_or labels p (length labels) ∷ []) k 0
    stay k l = ⊎_elim
        (λ (before : k < length labels). front k before ∙ sym (get_or_append_left labels (get_or labels p (length labels) ∷ []) 0 k before))
        (λ (after : length labels ≤ k).
        let at : k ≡ length labels = omega (arith, l, more, after) in
        last k at ∙ sym (get_or_push labels (get_or labels p (length labels)) 0 k (sym at)))
        (cases_lt k (length labels))

-- the same of all labels
pub length-labels_of : (parents : List ℕ) → length (labels_of parents) ≡ length parents
length-labels_of parents = let h = labels_size [] parents in omega (arith, h)

module _ (parents : List ℕ) (fit : AreParents parents) (k : ℕ) (within : k < length parents) where
  pub label_of_parent : get_or (labels_of parents) k 0 ≡ get_or (labels_of parents) (get_or parents k 0) 0
  label_of_parent = ⊎_elim
      (λ (below : get_or parents k 0 < k). label_of_child [] parents k k (omega arith) within below)
      (λ (past : k ≤ get_or parents k 0).
      let up : get_or parents k 0 ≤ k = fit k within in
      let same : k ≡ get_or parents k 0 = omega (arith, past, up) in
      ap (λ j. get_or (labels_of parents) j 0) same)
      (cases_lt (get_or parents k 0) k)

  pub label_of_its_own : k ≤ get_or parents k 0 → get_or (labels_of parents) k 0 ≡ k
  label_of_its_own h = label_of_root [] parents k k (omega arith) within h

pub labels_from_rules : (parents list : List ℕ) → length list ≡ length parents
    → ((k : ℕ) → k < length parents → get_or parents k 0 < k → get_or list k 0 ≡ get_or list (get_or parents k 0) 0)
    → ((k : ℕ) → k < length parents → k ≤ get_or parents k 0 → get_or list k 0 ≡ k)
    → labels_of parents ≡ list
labels_from_rules parents list size child root =
    labels_are [] parents list (omega (arith, size)) (λ k l. absurd (omega (arith, l)))
    (λ i k e l h. let same : i ≡ k = omega (arith, e) in
    subst (λ j. get_or parents j 0 < k → get_or list k 0 ≡ get_or list (get_or parents j 0) 0) (sym same)
    (child k (omega (arith, l, same))) h)
    (λ i k e l h. let same : i ≡ k = omega (arith, e) in
    root k (omega (arith, l, same)) (subst (λ j. k ≤ get_or parents j 0) same h))

pub same_or_not : (a b : ℕ) → (a ≡ b) ⊎ (a ≡ b → ⊥)
same_or_not a b = ⊎_elim
    (λ (l : a < b). inr (λ e. omega (arith, l, e)))
    (λ (g : b ≤ a). ⊎_elim
    (λ (l : b < a). inr (λ e. omega (arith, l, e)))
    (λ (h : a ≤ b). inl (omega (arith, g, h)))
    (cases_lt b a))
    (cases_lt a b)

-- of two labels both become the lesser, and others stay
module _ (x y : ℕ) where
  merged_first : merged x y x ≡ min x y
  merged_first = grind (arith, nat_tests)

  merged_second : merged x y y ≡ min x y
  merged_second = grind (arith, nat_tests)

  merged_other : (l : ℕ) → (l ≡ max x y → ⊥) → merged x y l ≡ l
  merged_other l differs = grind (arith, nat_tests)

  merged_greater : (l : ℕ) → l ≡ max x y → merged x y l ≡ min x y
  merged_greater l e = grind (arith, nat_tests)

  merged_lowers : (l : ℕ) → merged x y l ≤ l
  merged_lowers l = grind (arith, nat_tests)

  merged_zero : merged x y 0 ≡ 0
  merged_zero = let h = merged_lowers 0 in omega (arith, h)

  at_merged : (labels : List ℕ) (i : ℕ) → get_or (map (merged x y) labels) i 0 ≡ merged x y (get_or labels i 0)
  at_merged labels i =
      subst (λ z. get_or (map (merged x y) labels) i z ≡ merged x y (get_or labels i 0)) merged_zero
      (map_at (merged x y) labels i 0)

-- another parent with the same label changes no label
module _ (parents : List ℕ) (fit : AreParents parents) (k p : ℕ) (within : k < length parents) (up : p ≤ k) where
  pub parents_set : AreParents (set parents k p)
  parents_set j l = ⊎_elim
      (λ (before : j < k). rw (get_or-set_other parents k j p 0 (λ e. omega (arith, before, e))) (fit j (omega (arith, l, length-set parents k p))))
      (λ (after : k ≤ j). ⊎_elim
      (λ (behind : k < j). rw (get_or-set_other parents k j p 0 (λ e. omega (arith, behind, e))) (fit j (omega (arith, l, length-set parents k p))))
      (λ (last : j ≤ k).
      let same : k ≡ j = omega (arith, after, last) in
      subst (λ i. get_or (set parents k p) i 0 ≤ i) same (rw (get_or-set_same parents k p 0 within) up))
      (cases_lt k j))
      (cases_lt j k)

  pub same_labels : get_or (labels_of parents) k 0 ≡ get_or (labels_of parents) p 0 → (p ≡ k → get_or (labels_of parents) k 0 ≡ k)
      → labels_of (set parents k p) ≡ labels_of parents
  same_labels alike own = labels_from_rules (set parents k p) (labels_of parents)
      (length-labels_of parents ∙ sym (length-set parents k p)) child root
    where
      other : (j : ℕ) → (j ≡ k → ⊥) → get_or (set parents k p) j 0 ≡ get_or parents j 0
      other j differs = get_or-set_other parents k j p 0 differs

      inside : (j : ℕ) → j < length (set parents k p) → j < length parents
      inside j l = omega (arith, l, length-set parents k p)

      child : (j : ℕ) → j < length (set parents k p) → get_or (set parents k p) j 0 < j
          → get_or (labels_of parents) j 0 ≡ get_or (labels_of parents) (get_or (set parents k p) j 0) 0
      child j l h = elim (same_or_not j k) [
        | inl e ↦ subst (λ i. get_or (labels_of parents) i 0 ≡ get_or (labels_of parents) (get_or (set parents k p) i 0) 0) (sym e)
            (rw (get_or-set_same parents k p 0 within) alike)
        | inr differs ↦ rw (other j differs) (label_of_parent parents fit j (inside j l))
      ]

      root : (j : ℕ) → j < length (set parents k p) → j ≤ get_or (set parents k p) j 0 → get_or (labels_of parents) j 0 ≡ j
      root j l h = elim (same_or_not j k) [
        | inl e ↦
            let first : k ≤ get_or (set parents k p) k 0 = subst (λ i. i ≤ get_or (set parents k p) i 0) e h in
            let again : k ≤ p = rw (get_or-set_same parents k p 0 within) at first in
            subst (λ i. get_or (labels_of parents) i 0 ≡ i) (sym e) (own (omega (arith, up, again)))
        | inr differs ↦ label_of_its_own parents fit j (inside j l) (rw (other j differs) at h)
      ]

  -- a root that gets a lesser root for its parent gives its label up
  pub merged_labels : get_or (labels_of parents) k 0 ≡ k → get_or (labels_of parents) p 0 ≡ p
      → labels_of (set parents k p) ≡ map (merged k p) (labels_of parents)
  merged_labels top low = labels_from_rules (set parents k p) (map (merged k p) (labels_of parents))
      (length-map (labels_of parents) (merged k p) ∙ length-labels_of parents ∙ sym (length-set parents k p)) child root
    where
      other : (j : ℕ) → (j ≡ k → ⊥) → get_or (set parents k p) j 0 ≡ get_or parents j 0
      other j differs = get_or-set_other parents k j p 0 differs

      inside : (j : ℕ) → j < length (set parents k p) → j < length parents
      inside j l = omega (arith, l, length-set parents k p)

      child : (j : ℕ) → j < length (set parents k p) → get_or (set parents k p) j 0 < j
          → get_or (map (merged k p) (labels_of parents)) j 0 ≡ get_or (map (merged k p) (labels_of parents)) (get_or (set parents k p) j 0) 0
      child j l h = elim (same_or_not j k) [
        | inl e ↦ subst (λ i. get_or (map (merged k p) (labels_of parents)) i 0
            ≡ get_or (map (merged k p) (labels_of parents)) (get_or (set parents k p) i 0) 0) (sym e)
            (rw (get_or-set_same parents k p 0 within)
            (at_merged k p (labels_of parents) k ∙ ap (merged k p) top ∙ merged_first k p
            ∙ sym (at_merged k p (labels_of parents) p ∙ ap (merged k p) low ∙ merged_second k p)))
        | inr differs ↦ rw (other j differs)
            (at_merged k p (labels_of parents) j ∙ ap (merged k p) (label_of_parent parents fit j (inside j l))
            ∙ sym (at_merged k p (labels_of parents) (get_or parents j 0)))
      ]

      root : (j : ℕ) → j < length (set parents k p) → j ≤ get_or (set parents k p) j 0
          → get_or (map (merged k p) (labels_of parents)) j 0 ≡ j
      root j l h = elim (same_or_not j k) [
        | inl e ↦
            let first : k ≤ get_or (set parents k p) k 0 = subst (λ i. i ≤ get_or (set parents k p) i 0) e h in
            let again : k ≤ p = rw (get_or-set_same parents k p 0 within) at first in
            let same : min k p ≡ k = omega (arith, again, up) in
            subst (λ i. get_or (map (merged k p) (labels_of parents)) i 0 ≡ i) (sym e)
            (at_merged k p (labels_of parents) k ∙ ap (merged k p) top ∙ merged_first k p ∙ same)
        | inr differs ↦
            let own = label_of_its_own parents fit j (inside j l) (rw (other j differs) at h) in
            let greatest : max k p ≡ k = omega (arith, up) in
            at_merged k p (labels_of parents) j ∙ ap (merged k p) own ∙ merged_other k p j (λ e. differs (e ∙ greatest))
      ]

-- each place alone
pub own_parents : (n : ℕ) → AreParents (range_with_len 0 n)
own_parents n k l =
    let is : get_or (range_with_len 0 n) k 0 ≡ 0 + k = get_or-range_with_len 0 n k 0 (omega (arith, l, length-range_with_len 0 n)) in
    omega (arith, is)

pub own_labels : (n : ℕ) → labels_of (range_with_len 0 n) ≡ range_with_len 0 n
own_labels n = labels_from_rules (range_with_len 0 n) (range_with_len 0 n) refl
    (λ k l below. let is = is_own k l in absurd (omega (arith, is, below)))
    (λ k l up. is_own k l)
  where
    is_own : (k : ℕ) → k < length (range_with_len 0 n) → get_or (range_with_len 0 n) k 0 ≡ k
    is_own k l =
        let is : get_or (range_with_len 0 n) k 0 ≡ 0 + k = get_or-range_with_len 0 n k 0 (omega (arith, l, length-range_with_len 0 n)) in
        omega (arith, is)

-- two roots are joined by the greater one's parent
merged_by_ends : (x y : ℕ) → merged (max x y) (min x y) ≡ merged x y
merged_by_ends x y =
    let greater : max (max x y) (min x y) ≡ max x y = omega arith in
    let lesser : min (max x y) (min x y) ≡ min x y = omega arith in
    λ i l. if l == greater i then lesser i else l

pub labels_joined : (parents : List ℕ) → AreParents parents → (x y : ℕ) → x < length parents → y < length parents
    → get_or (labels_of parents) x 0 ≡ x → get_or (labels_of parents) y 0 ≡ y
    → labels_of (set parents (max x y) (min x y)) ≡ map (merged x y) (labels_of parents)
labels_joined parents fit x y in_x in_y own_x own_y =
    merged_labels parents fit (max x y) (min x y) (omega (arith, in_x, in_y)) (omega arith) (pick own_x own_y) (low own_x own_y)
    ∙ ap (λ f. map f (labels_of parents)) (merged_by_ends x y)
  where
    pick : get_or (labels_of parents) x 0 ≡ x → get_or (labels_of parents) y 0 ≡ y → get_or (labels_of parents) (max x y) 0 ≡ max x y
    pick p q = ⊎_elim
        (λ (l : x < y). let e : y ≡ max x y = omega (arith, l) in subst (λ z. get_or (labels_of parents) z 0 ≡ z) e q)
        (λ (g : y ≤ x). let e : x ≡ max x y = omega (arith, g) in subst (λ z. get_or (labels_of parents) z 0 ≡ z) e p)
        (cases_lt x y)

    low : get_or (labels_of parents) x 0 ≡ x → get_or (labels_of parents) y 0 ≡ y → get_or (labels_of parents) (min x y) 0 ≡ min x y
    low p q = ⊎_elim
        (λ (l : x < y). let e : x ≡ min x y = omega (arith, l) in subst (λ z. get_or (labels_of parents) z 0 ≡ z) e p)
        (λ (g : y ≤ x). let e : y ≡ min x y = omega (arith, g) in subst (λ z. get_or (labels_of parents) z 0 ≡ z) e q)
        (cases_lt x y)

-- what edges reach
pub reaches_more : {X : Type 0} {R : X → X → Type 0} (S : X → X → Type 0) → ((a b : X) → R a b → S a b) → {x y : X} → Reaches R x y → Reaches S x y
reaches_more S f here = here
reaches_more S f (step r rest) = step (f _ _ r) (reaches_more S f rest)

pub reaches_on : {X : Type 0} {R : X → X → Type 0} {x y z : X} → Reaches R x y → Reaches R y z → Reaches R x z
reaches_on here more = more
reaches_on (step r rest) more = step r (reaches_on rest more)

pub reaches_back : {X : Type 0} {R : X → X → Type 0} → ((a b : X) → R a b → R b a) → {x y : X} → Reaches R x y → Reaches R y x
reaches_back f here = here
reaches_back f (step r rest) = reaches_on (reaches_back f rest) (step (f _ _ r) here)

edge_back : (edges : List Edge) (a b : ℕ) → IsEdge edges a b → IsEdge edges b a
edge_back edges a b (inl c) = inr c
edge_back edges a b (inr c) = inl c

-- with one edge more its places have the lesser label of the two
module _ (edges : List Edge) (labels : List ℕ) (so_far : AreLabels edges labels) (a b : ℕ) (first : a < length labels)
    (second : b < length labels) where
  abbrev edge : Edge
  edge = record { from = a; to = b }

  abbrev more : List Edge
  more = edges ++ edge ∷ []

  abbrev of_a : ℕ
  of_a = get_or labels a 0

  abbrev of_b : ℕ
  of_b = get_or labels b 0

  still : (i j : ℕ) → IsEdge edges i j → IsEdge more i j
  still i j (inl c) = inl (Contains-append_left edges (edge ∷ []) (record { from = i; to = j }) c)
  still i j (inr c) = inr (Contains-append_left edges (edge ∷ []) (record { from = j; to = i }) c)

  to_label : (k : ℕ) → k < length labels → Reaches (IsEdge more) k (get_or labels k 0)
  to_label k l = reaches_more (IsEdge more) still (so_far.reached k l)

  a_to_b : Reaches (IsEdge more) of_a of_b
  a_to_b = reaches_on (reaches_back (edge_back more) (to_label a first)) (step (inl (Contains-push edges edge)) (to_label b second))

  to_lesser : (k : ℕ) → k < length labels → get_or labels k 0 ≡ max of_a of_b → Reaches (IsEdge more) k (min of_a of_b)
  to_lesser k l e = ⊎_elim
      (λ (below : of_a < of_b).
      let up : get_or labels k 0 ≡ of_b = omega (arith, e, below) in
      let down : of_a ≡ min of_a of_b = omega (arith, below) in
      subst (Reaches (IsEdge more) k) down
      (reaches_on (subst (Reaches (IsEdge more) k) up (to_label k l)) (reaches_back (edge_back more) a_to_b)))
      (λ (above : of_b ≤ of_a).
      let up : get_or labels k 0 ≡ of_a = omega (arith, e, above) in
      let down : of_b ≡ min of_a of_b = omega (arith, above) in
      subst (Reaches (IsEdge more) k) down (reaches_on (subst (Reaches (IsEdge more) k) up (to_label k l)) a_to_b))
      (cases_lt of_a of_b)

  inside : (k : ℕ) → k < length (map (merged of_a of_b) labels) → k < length labels
  inside k l = omega (arith, l, length-map labels (merged of_a of_b))

  pub labels_with_edge : AreLabels more (map (merged of_a of_b) labels)
  labels_with_edge = record {
    below = λ k l.
        let h = so_far.below k (inside k l) in
        let m = merged_lowers of_a of_b (get_or labels k 0) in
        rw (at_merged of_a of_b labels k) (omega (arith, h, m));
    reached = λ k l. rw (at_merged of_a of_b labels k) (elim (same_or_not (get_or labels k 0) (max of_a of_b)) [
      | inl e ↦ rw (merged_greater of_a of_b (get_or labels k 0) e) (to_lesser k (inside k l) e)
      | inr differs ↦ rw (merged_other of_a of_b (get_or labels k 0) differs) (to_label k (inside k l))
    ]);
    whole = λ i j c. at_merged of_a of_b labels i ∙ alike i j (Contains-push_cases edges edge (record { from = i; to = j }) c)
        ∙ sym (at_merged of_a of_b labels j);
  }
    where
      alike : (i j : ℕ) → Contains edges (record { from = i; to = j }) ⊎ (edge ≡ record { from = i; to = j })
          → merged of_a of_b (get_or labels i 0) ≡ merged of_a of_b (get_or labels j 0)
      alike i j (inl c) = ap (merged of_a of_b) (so_far.whole i j c)
      alike i j (inr e) =
          let at_i : i ≡ a = ap (λ (x : Edge). x.from) (sym e) in
          let at_j : j ≡ b = ap (λ (x : Edge). x.to) (sym e) in
          rw (at_i, at_j) (merged_first of_a of_b ∙ sym (merged_second of_a of_b))

-- nothing is united of one place or none
pub unites_none : (places labels : List ℕ) → length places ≤ 1 → Unites places labels labels
unites_none places labels few = record {
  size = refl;
  labels = λ edges so_far below. subst (λ e. AreLabels e labels) (alone places few edges) so_far;
}
  where
    alone : (places : List ℕ) → length places ≤ 1 → (edges : List Edge) → edges ≡ edges ++ star places
    alone [] l edges = sym (append-nil edges)
    alone (p ∷ []) l edges = sym (append-nil edges)
    alone (p ∷ q ∷ rest) l edges = absurd (omega (arith, l))

star_push : (places : List ℕ) (y : ℕ) → 0 < length places
    → star (places ++ y ∷ []) ≡ star places ++ record { from = get_or places 0 0; to = y } ∷ []
star_push [] y l = absurd (omega (arith, l))
star_push (x ∷ rest) y l = map-append (λ z. record { from = x; to = z }) rest (y ∷ [])

-- a further place is united with those so far, as it is joined with the first
pub unites_more : (places : List ℕ) (k : ℕ) (old between new : List ℕ) → 0 < k → k < length places → Unites (take k places) old between
    → length new ≡ length between
    → (get_or places 0 0 < length between → get_or places k 0 < length between → Joins (get_or places 0 0) (get_or places k 0) between new)
    → Unites (take (k + 1) places) old new
unites_more places k old between new some within so_far size joins = record {
  size = size ∙ so_far.size;
  labels = λ edges fit below.
      let first : get_or places 0 0 < length between = omega (arith, so_far.size, below (get_or places 0 0) (here_at 0 (omega (arith, some)))) in
      let second : get_or places k 0 < length between = omega (arith, so_far.size, below (get_or places k 0) (here_at k (omega arith))) in
      let fits = so_far.labels edges fit (λ p c. below p (subst (λ l. Contains l p) (sym all) (Contains-append_left (take k places) (get_or places k 0 ∷ []) p c))) in
      let joined = labels_with_edge (edges ++ star (take k places)) between fits (get_or places 0 0) (get_or places k 0) first second in
      subst (AreLabels (edges ++ star (take (k + 1) places))) (sym (joins first second))
      (subst (λ e. AreLabels e (map (merged (get_or between (get_or places 0 0) 0) (get_or between (get_or places k 0) 0)) between))
      (append_assoc edges (star (take k places)) (record { from = get_or places 0 0; to = get_or places k 0 } ∷ []) ∙ ap (λ e. edges ++ e) (sym edge_more))
      joined);
}
  where
    all : take (k + 1) places ≡ take k places ++ get_or places k 0 ∷ []
    all = take_more places k 0 within

    here_at : (j : ℕ) → j < k + 1 → Contains (take (k + 1) places) (get_or places j 0)
    here_at j l = subst (Contains (take (k + 1) places)) (get_or-take (k + 1) places j 0 l)
        (Contains-get_or (take (k + 1) places) j 0 (omega (arith, l, length-take-le (k + 1) places (omega (arith, within)))))

    edge_more : star (take (k + 1) places) ≡ star (take k places) ++ record { from = get_or places 0 0; to = get_or places k 0 } ∷ []
    edge_more =
        ap star all ∙ star_push (take k places) (get_or places k 0) (omega (arith, some, length-take-le k places (omega (arith, within))))
        ∙ ap (λ x. star (take k places) ++ record { from = x; to = get_or places k 0 } ∷ []) (get_or-take k places 0 0 some)
