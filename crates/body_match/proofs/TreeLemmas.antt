-- The tree above entries: what a node's reach says of the entries below.
use Rattle.std.proofs.Common.{◌≡◌, ◌⊎◌, inl, inr, ℕ, zero, suc, ◌+◌, ◌*◌, ◌/◌, ◌%◌, ◌<◌, ◌≤◌, List, Some, length, refl, sym, ap, ◌∙◌, subst, arith, slice_get, slice_set, min, Contains, ⊎_elim}
use Rattle.std.proofs.lemmas.Bool.{cases_lt}
use Rattle.body_match.specs.declared.lookup.Entry.{Entry}
use Rattle.body_match.specs.declared.lookup.Probe.{Probe}
use Rattle.body_match.specs.declared.lookup.Reach.{Reach}
use Rattle.body_match.specs.Lookup.{Tree, IsTree, Encloses, Includes, AreInLeaves, AreJoined, StepsBelow, IsBelow, IsSought, AddsBelow, Keeps, HasSought}
use Rattle.body_match.proofs.ListLemmas.{at_within, within_from_at, at_from_contains, at_set_here, at_set_other}
use Rattle.body_match.proofs.SearchLemmas.{same_some}

-- a node stands before all that are below it
pub steps_later : (steps node below : ℕ) → StepsBelow steps node below → node ≤ below
steps_later zero node below s = omega (arith, s)
steps_later (suc steps) node below (inl s) = let h = steps_later steps (2 * node) below s in omega (arith, h)
steps_later (suc steps) node below (inr s) = let h = steps_later steps (2 * node + 1) below s in omega (arith, h)

-- below a leaf stands no other node of the tree
pub below_leaf : (leaves node below : ℕ) → leaves ≤ node → below < 2 * leaves → IsBelow node below → node ≡ below
below_leaf leaves node below past within b = by_steps b.0 b.1
  where
    by_steps : (steps : ℕ) → StepsBelow steps node below → node ≡ below
    by_steps zero s = s
    by_steps (suc steps) (inl s) = let h = steps_later steps (2 * node) below s in absurd (omega (arith, h, past, within))
    by_steps (suc steps) (inr s) = let h = steps_later steps (2 * node + 1) below s in absurd (omega (arith, h, past, within))

-- what is below a node that is no leaf is the node, or below one of the two below it
pub below_cases : (node below : ℕ) → IsBelow node below → (node ≡ below) ⊎ (IsBelow (2 * node) below ⊎ IsBelow (2 * node + 1) below)
below_cases node below b = by_steps b.0 b.1
  where
    by_steps : (steps : ℕ) → StepsBelow steps node below
        → (node ≡ below) ⊎ (IsBelow (2 * node) below ⊎ IsBelow (2 * node + 1) below)
    by_steps zero s = inl s
    by_steps (suc steps) (inl s) = inr (inl (steps, s))
    by_steps (suc steps) (inr s) = inr (inr (steps, s))

-- one step more
step_more : (steps node above below : ℕ) → StepsBelow steps node above → (below ≡ 2 * above) ⊎ (below ≡ 2 * above + 1)
    → StepsBelow (suc steps) node below
step_more zero node above below s (inl e) = inl (omega (arith, s, e))
step_more zero node above below s (inr e) = inr (omega (arith, s, e))
step_more (suc steps) node above below (inl s) e = inl (step_more steps (2 * node) above below s e)
step_more (suc steps) node above below (inr s) e = inr (step_more steps (2 * node + 1) above below s e)

-- all nodes are below the root
pub below_root : (below : ℕ) → 1 ≤ below → IsBelow 1 below
below_root below some = by_size below below (omega arith) some
  where
    by_rest : (r : ℕ) → r < 2 → (r ≡ 0) ⊎ (r ≡ 1)
    by_rest zero l = inl refl
    by_rest (suc zero) l = inr refl
    by_rest (suc (suc r)) l = absurd (omega (arith, l))

    rest : (n : ℕ) → (n % 2 ≡ 0) ⊎ (n % 2 ≡ 1)
    rest n = by_rest (n % 2) (omega arith)

    halves : (n : ℕ) → (n ≡ 2 * (n / 2)) ⊎ (n ≡ 2 * (n / 2) + 1)
    halves n = ⊎_elim (λ (e : n % 2 ≡ 0). inl (omega (arith, e))) (λ (e : n % 2 ≡ 1). inr (omega (arith, e))) (rest n)

    first : (n : ℕ) → 1 ≤ n → (n ≡ 1) ⊎ (2 ≤ n)
    first zero l = absurd (omega (arith, l))
    first (suc zero) l = inl refl
    first (suc (suc n)) l = inr (omega arith)

    by_size : (size below : ℕ) → below ≤ size → 1 ≤ below → IsBelow 1 below
    by_size zero below l some = absurd (omega (arith, l, some))
    by_size (suc size) below l some = ⊎_elim (λ (one : below ≡ 1). (0, sym one)) (λ (more : 2 ≤ below).
        let h = by_size size (below / 2) (omega (arith, l, more)) (omega (arith, more)) in
        (suc h.0, step_more h.0 1 (below / 2) below h.1 (halves below))) (first below some)

module _ (tree : Tree) (ok : IsTree tree) where
  -- the reach of a node includes those below it
  includes_below : (steps node below : ℕ) (other : Reach) → 1 ≤ node → StepsBelow steps node below
      → slice_get tree.reaches below ≡ Some other → (reach : Reach) × (slice_get tree.reaches node ≡ Some reach) × Includes reach other
  includes_below zero node below other some s e = (other, ap (slice_get tree.reaches) s ∙ e, λ entry h. h)
  includes_below (suc steps) node below other some (inl s) e =
      let lower = includes_below steps (2 * node) below other (omega (arith, some)) s e in
      let within = within_from_at tree.reaches (2 * node) lower.0 lower.1 in
      let here = at_within tree.reaches node (omega (arith, within, some)) in
      (here.0, here.1, λ entry h. ok.joined node here.0 lower.0 (2 * node) some here.1 (inl refl) lower.1 entry (lower.2 entry h))
  includes_below (suc steps) node below other some (inr s) e =
      let lower = includes_below steps (2 * node + 1) below other (omega (arith, some)) s e in
      let within = within_from_at tree.reaches (2 * node + 1) lower.0 lower.1 in
      let here = at_within tree.reaches node (omega (arith, within, some)) in
      (here.0, here.1, λ entry h. ok.joined node here.0 lower.0 (2 * node + 1) some here.1 (inr refl) lower.1 entry (lower.2 entry h))

  -- so it encloses all entries below
  pub encloses_below : (node at : ℕ) (entry : Entry) → 1 ≤ node → slice_get tree.entries at ≡ Some entry
      → IsBelow node (tree.leaves + at / 8) → (reach : Reach) × (slice_get tree.reaches node ≡ Some reach) × Encloses reach entry
  encloses_below node at entry some e b =
      let leaf = ok.leaf at entry (within_from_at tree.entries at entry e) e in
      let up = includes_below b.0 node (tree.leaves + at / 8) leaf.0 some b.1 leaf.1 in
      (up.0, up.1, up.2 entry leaf.2)

  -- an entry's leaf is a node
  pub leaf_within : (at : ℕ) (entry : Entry) → slice_get tree.entries at ≡ Some entry → tree.leaves + at / 8 < 2 * tree.leaves
  leaf_within at entry e =
      let leaf = ok.leaf at entry (within_from_at tree.entries at entry e) e in
      let l = within_from_at tree.reaches (tree.leaves + at / 8) leaf.0 leaf.1 in
      omega (arith, l, ok.size)

-- no entry is in a leaf yet
pub leaves_none : (entries : List Entry) (reaches : List Reach) (leaves : ℕ) → AreInLeaves entries reaches leaves 0
leaves_none entries reaches leaves at entry l e = absurd (omega (arith, l))

-- one more entry lies within its leaf
pub leaves_more : (entries : List Entry) (reaches : List Reach) (leaves at : ℕ) (old joined : Reach) (here : Entry)
    → slice_get entries at ≡ Some here → slice_get reaches (leaves + at / 8) ≡ Some old → Includes joined old → Encloses joined here
    → AreInLeaves entries reaches leaves at → AreInLeaves entries (slice_set reaches (leaves + at / 8) joined) leaves (at + 1)
leaves_more entries reaches leaves at old joined here now was includes encloses before k entry l e =
    ⊎_elim (λ (earlier : k < at). by_leaf earlier) (λ (last : at ≤ k).
    let same : k ≡ at = omega (arith, l, last) in
    let this : entry ≡ here = same_some (slice_get entries k) entry here e (ap (slice_get entries) same ∙ now) in (
      joined,
      ap (λ n. slice_get (slice_set reaches (leaves + at / 8) joined) (leaves + n / 8)) same
          ∙ at_set_here reaches (leaves + at / 8) joined (within_from_at reaches (leaves + at / 8) old was),
      subst (Encloses joined) (sym this) encloses,
    ))
    (cases_lt k at)
  where
    by_leaf : k < at → (reach : Reach) × (slice_get (slice_set reaches (leaves + at / 8) joined) (leaves + k / 8) ≡ Some reach)
        × Encloses reach entry
    by_leaf earlier =
        let h = before k entry earlier e in
        ⊎_elim (λ (less : k / 8 < at / 8). (
          h.0,
          at_set_other reaches (leaves + at / 8) (leaves + k / 8) joined (λ f. omega (arith, f, less)) ∙ h.1,
          h.2,
        )) (λ (more : at / 8 ≤ k / 8).
        let same : k / 8 ≡ at / 8 = omega (arith, more, earlier) in
        let this : h.0 ≡ old = same_some (slice_get reaches (leaves + k / 8)) h.0 old h.1
        (ap (λ n. slice_get reaches (leaves + n)) same ∙ was) in (
          joined,
          ap (λ n. slice_get (slice_set reaches (leaves + at / 8) joined) (leaves + n)) same
              ∙ at_set_here reaches (leaves + at / 8) joined (within_from_at reaches (leaves + at / 8) old was),
          includes entry (subst (λ r. Encloses r entry) this h.2),
        ))
        (cases_lt (k / 8) (at / 8))

-- above the last leaf nothing is joined
pub joined_none : (reaches : List Reach) (leaves : ℕ) → length reaches ≡ 2 * leaves → AreJoined reaches leaves
joined_none reaches leaves size node reach other below past e b f =
    let within = within_from_at reaches below other f in
    ⊎_elim (λ (left : below ≡ 2 * node). absurd (omega (arith, left, within, size, past)))
    (λ (right : below ≡ 2 * node + 1). absurd (omega (arith, right, within, size, past))) b

-- one more node is the join of the two below it
pub joined_more : (reaches : List Reach) (node : ℕ) (left right joined : Reach) → 1 ≤ node → slice_get reaches (2 * node) ≡ Some left
    → slice_get reaches (2 * node + 1) ≡ Some right → Includes joined left → Includes joined right → AreJoined reaches (node + 1)
    → AreJoined (slice_set reaches node joined) node
joined_more reaches node left right joined some at_left at_right in_left in_right before k reach other below past e b f =
    let lower : node < below = ⊎_elim (λ (l : below ≡ 2 * k). omega (arith, l, past, some))
    (λ (r : below ≡ 2 * k + 1). omega (arith, r, past, some)) b in
    let there : slice_get reaches below ≡ Some other =
    sym (at_set_other reaches node below joined (λ same. omega (arith, same, lower))) ∙ f in
    ⊎_elim (λ (more : node < k).
    before k reach other below (omega (arith, more)) (sym (at_set_other reaches node k joined (λ same. omega (arith, same, more))) ∙ e) b
    there) (λ (less : k ≤ node).
    let same : k ≡ node = omega (arith, less, past) in
    let size : node < length reaches = let l = within_from_at reaches (2 * node) left at_left in omega (arith, l) in
    let this : reach ≡ joined = same_some (slice_get (slice_set reaches node joined) k) reach joined e
    (ap (slice_get (slice_set reaches node joined)) same ∙ at_set_here reaches node joined size) in
    ⊎_elim (λ (l : below ≡ 2 * k).
    let child : other ≡ left = same_some (slice_get reaches below) other left there
    (ap (slice_get reaches) (omega (arith, l, same)) ∙ at_left) in
    λ entry h. subst (λ r. Encloses r entry) (sym this) (in_left entry (subst (λ r. Encloses r entry) child h)))
    (λ (r : below ≡ 2 * k + 1).
    let child : other ≡ right = same_some (slice_get reaches below) other right there
    (ap (slice_get reaches) (omega (arith, r, same)) ∙ at_right) in
    λ entry h. subst (λ r. Encloses r entry) (sym this) (in_right entry (subst (λ r. Encloses r entry) child h)))
    b)
    (cases_lt node k)

module _ (tree : Tree) (ok : IsTree tree) (probe : Probe) where
  -- no entry below a node whose reach has none that may be sought
  pub adds_none_below : (node : ℕ) (reach : Reach) (old : List ℕ) → 1 ≤ node → slice_get tree.reaches node ≡ Some reach
      → ((entry : Entry) → Encloses reach entry → IsSought probe entry → ⊥) → AddsBelow tree node probe old old
  adds_none_below node reach old some e none = record {
    kept = λ row c. c;
    sought = λ at entry h.
        let up = encloses_below tree ok node at entry some h.there h.below in
        let same = same_some (slice_get tree.reaches node) up.0 reach up.1 e in
        absurd (none entry (subst (λ r. Encloses r entry) same up.2) h.sought);
  }

  -- those below the two nodes below one
  pub adds_both_below : (node : ℕ) (old between new : List ℕ) → node < tree.leaves → AddsBelow tree (2 * node) probe old between
      → AddsBelow tree (2 * node + 1) probe between new → AddsBelow tree node probe old new
  adds_both_below node old between new less left right = record {
    kept = λ row c. right.kept row (left.kept row c);
    sought = λ at entry h. elim (below_cases node (tree.leaves + at / 8) h.below) [
      | inl same ↦ absurd (omega (arith, same, less))
      | inr (inl l) ↦ right.kept entry.row (left.sought at entry (record { there = h.there; below = l; sought = h.sought }))
      | inr (inr r) ↦ right.sought at entry (record { there = h.there; below = r; sought = h.sought })
    ];
  }

  -- those of a leaf
  pub adds_leaf : (leaf end : ℕ) (old new : List ℕ) → end ≡ min (length tree.entries) (8 * leaf + 8) → Keeps old new
      → ((at : ℕ) (entry : Entry) → 8 * leaf ≤ at → at < end → slice_get tree.entries at ≡ Some entry → IsSought probe entry
      → Contains new entry.row) → AddsBelow tree (tree.leaves + leaf) probe old new
  adds_leaf leaf end old new is kept sought = record {
    kept = kept;
    sought = λ at entry h.
        let within = leaf_within tree ok at entry h.there in
        let same = below_leaf tree.leaves (tree.leaves + leaf) (tree.leaves + at / 8) (omega arith) within h.below in
        let inside = within_from_at tree.entries at entry h.there in
        sought at entry (omega (arith, same)) (omega (arith, same, inside, is)) h.there h.sought;
  }

  -- those of the root are all
  pub all_below : (old new : List ℕ) → AddsBelow tree 1 probe old new → HasSought tree.entries probe new
  all_below old new adds entry c s =
      let at = at_from_contains tree.entries entry c in
      adds.sought at.0 entry (record {
        there = at.1;
        below = below_root (tree.leaves + at.0 / 8) (let some = ok.some in omega (arith, some));
        sought = s;
      })
