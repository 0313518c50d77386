-- Rows in which no match over a common time has unequal sides: every egd holds at every instant.
use Rattle.std.proofs.Common.{◌≡◌, ◌↔◌, ℕ, zero, suc, ◌+◌, ◌<◌, ℤ, ◌<ℤ◌, ◌≤ℤ◌, int_le, Bool, true, false, Option, Some, None, List, [], ◌∷◌, map, length}
use Rattle.std.proofs.Common.{refl, sym, ap, ◌∙◌, arith, All, Contains, slice_index_or}
use Rattle.std.proofs.lemmas.Int.{ints}
use Rattle.std.proofs.lemmas.List.Elements.{All-contains, All-cons, All-head, All-tail}
use Rattle.time_line.specs.Span.{Ends, ends, IsFrom, IsBefore, Has}
use Rattle.term_core.specs.declared.const_id.ConstId.{ConstId}
use Rattle.rule_core.specs.declared.rules.Arg.{Arg}
use Rattle.rule_core.specs.declared.rules.Arg.TheVariants.{Var, Const}
use Rattle.rule_core.specs.declared.rules.Atom.{Atom}
use Rattle.rule_core.specs.declared.rules.Egd.{Egd}
use Rattle.rule_core.specs.declared.rules.Relation.{Relation}
use Rattle.rule_core.specs.Terms.{TermOf, numbered, constant, unknown}
use Rattle.rule_core.specs.Match.{value, image, Matches}
use Rattle.rule_core.specs.Snapshot.{snapshot_at}
use Rattle.rule_core.specs.Solution.{EgdHolds}
use Rattle.rule_core.specs.Validity.{IsEgd}
use Rattle.rule_core.proofs.ListLemmas.{Contains-head, Contains-cons, All-members}
use Rattle.rule_core.proofs.FiringLemmas.{occurs_to}
use Rattle.failure_trace.specs.Equating.{bound_to}
use Rattle.failure_trace.specs.JournalRun.{RowOf, MatchesOver, left_of, right_of}
use Rattle.failure_trace.proofs.SnapshotSteps.{shown}
use Rattle.egd_chase.specs.Settling.{SettledRowsHold}

-- an end that bounds as much as both
later_start : (a b : Option ℤ) → (c : Option ℤ) × ((t : ℤ) → IsFrom c t ↔ (IsFrom a t × IsFrom b t))
later_start None b = (b, λ t. (λ h. (tt, h), λ k. k.1))
later_start (Some a) None = (Some a, λ t. (λ h. (h, tt), λ k. k.0))
later_start (Some a) (Some b) = by (int_le a b) refl
  where
    by : (r : Bool) → int_le a b ≡ r → (c : Option ℤ) × ((t : ℤ) → IsFrom c t ↔ ((a ≤ℤ t) × (b ≤ℤ t)))
    by true e = (Some b, λ t. (λ h. (omega (arith, ints), h), λ k. k.1))
    by false e = (Some a, λ t. (λ h. (h, omega (arith, ints)), λ k. k.0))

earlier_stop : (a b : Option ℤ) → (c : Option ℤ) × ((t : ℤ) → IsBefore c t ↔ (IsBefore a t × IsBefore b t))
earlier_stop None b = (b, λ t. (λ h. (tt, h), λ k. k.1))
earlier_stop (Some a) None = (Some a, λ t. (λ h. (h, tt), λ k. k.0))
earlier_stop (Some a) (Some b) = by (int_le a b) refl
  where
    by : (r : Bool) → int_le a b ≡ r → (c : Option ℤ) × ((t : ℤ) → IsBefore c t ↔ ((t <ℤ a) × (t <ℤ b)))
    by true e = (Some a, λ t. (λ h. (h, omega (arith, ints)), λ k. k.0))
    by false e = (Some b, λ t. (λ h. (omega (arith, ints), h), λ k. k.1))

All-nil : {X : Type 0} (P : X → Type 0) → All P []
All-nil P k d l = absurd (omega (arith, l))

-- the whole common time of rows
common_time : (rows : List (RowOf ConstId)) → (c : Ends) × ((t : ℤ) → Has c t ↔ All (λ r. Has r.span t) rows)
common_time [] = (ends None None, λ t. (λ h. All-nil (λ r. Has r.span t), λ k. (tt, tt)))
common_time (row ∷ rows) =
    let rest = common_time rows in
    let lo = later_start row.span.lo rest.0.lo in
    let hi = earlier_stop row.span.hi rest.0.hi in (
      ends lo.0 hi.0,
      λ t. (
        λ h. let a = (lo.1 t).0 h.0 in let b = (hi.1 t).0 h.1 in
            All-cons (λ (r : RowOf ConstId). Has r.span t) row rows (a.0, b.0) ((rest.1 t).0 (a.1, b.1)),
        λ k. let first : Has row.span t = All-head (λ (r : RowOf ConstId). Has r.span t) row rows k in
            let more = (rest.1 t).1 (All-tail (λ (r : RowOf ConstId). Has r.span t) row rows k) in
            ((lo.1 t).1 (first.0, more.0), (hi.1 t).1 (first.1, more.1)),
      ),
    )

-- the first n values of a binding from the k-th on, as a list
abbrev listed : {X : Type 0} → (ℕ → X) → ℕ → ℕ → List X
listed b k zero = []
listed b k (suc n) = b k ∷ listed b (suc k) n

listed_size : {X : Type 0} (b : ℕ → X) (k n : ℕ) → length (listed b k n) ≡ n
listed_size b k zero = refl
listed_size b k (suc n) = ap suc (listed_size b (suc k) n)

listed_value : {X : Type 0} (b : ℕ → X) (d : X) (k n v : ℕ) → v < n → slice_index_or (listed b k n) v d ≡ b (k + v)
listed_value b d k zero v l = absurd (omega (arith, l))
listed_value b d k (suc n) zero l = let e : k ≡ k + 0 = omega arith in ap b e
listed_value b d k (suc n) (suc v) l =
    let e : suc k + v ≡ k + suc v = omega arith in listed_value b d (suc k) n v (omega (arith, l)) ∙ ap b e

module _ {C : Type 0} (name : ConstId → C) (b e : ℕ → TermOf C) where
  values_agree : (args : List Arg) → ((v : ℕ) → Contains args (Var v) → e v ≡ b v) → map (value name e) args ≡ map (value name b) args
  values_agree [] h = refl
  values_agree (Var v ∷ args) h =
      let first = h v (Contains-head (Var v) args) in
      let rest = values_agree args (λ w c. h w (Contains-cons (Var v) (Var w) args c)) in
      λ i. first i ∷ rest i
  values_agree (Const k ∷ args) h =
      let rest = values_agree args (λ w c. h w (Contains-cons (Const k) (Var w) args c)) in
      λ i. constant (name k) ∷ rest i

  image_agrees : (atom : Atom) → ((v : ℕ) → Contains atom.args (Var v) → e v ≡ b v) → image name e atom ≡ image name b atom
  image_agrees atom h = λ i. record { relation = atom.relation; terms = values_agree atom.args h i }

-- two functions that agree on a list
map_agrees : {X Y : Type 0} (f g : X → Y) (xs : List X) → ((x : X) → Contains xs x → g x ≡ f x) → map g xs ≡ map f xs
map_agrees f g [] h = refl
map_agrees f g (x ∷ xs) h =
    let first = h x (Contains-head x xs) in
    let rest = map_agrees f g xs (λ y c. h y (Contains-cons x y xs c)) in
    λ i. first i ∷ rest i

-- a row for each atom of a match in a snapshot
module _ (rows : List (RowOf ConstId)) (t : ℤ) (b : ℕ → TermOf ConstId) where
  abbrev AtomIsThere : Atom → Type 0
  AtomIsThere atom = Contains (snapshot_at rows t) (image (λ k. k) b atom)

  pub record HasRows (atoms : List Atom) : Type 0 where
    pub list : List (RowOf ConstId)
    pub present : All (Contains rows) list
    pub images : map (λ r. r.row) list ≡ map (image (λ k. k) b) atoms
    pub have : All (λ r. Has r.span t) list

  has_rows : (atoms : List Atom) → Matches (λ k. k) b atoms (snapshot_at rows t) → HasRows atoms
  has_rows [] m = record { list = []; present = All-nil (Contains rows); images = refl; have = All-nil (λ (r : RowOf ConstId). Has r.span t) }
  has_rows (atom ∷ atoms) m =
      let k = shown t rows (image (λ k. k) b atom) (All-head (AtomIsThere) atom atoms m) in
      let rest = has_rows atoms (All-tail (AtomIsThere) atom atoms m) in
      record {
        list = k.0 ∷ rest.list;
        present = All-cons (Contains rows) k.0 rest.list k.1 rest.present;
        images = λ i. k.2 i ∷ rest.images i;
        have = All-cons (λ (r : RowOf ConstId). Has r.span t) k.0 rest.list k.3 rest.have;
      }

module _ (relations : List Relation) (egd : Egd) (is : IsEgd relations egd) (rows : List (RowOf ConstId))
    (settled : (terms : List (TermOf ConstId)) (c : Ends) → MatchesOver (λ k. k) rows egd terms c
    → left_of egd terms ≡ right_of egd terms) (t : ℤ) (b : ℕ → TermOf ConstId)
    (m : Matches (λ k. k) b egd.body (snapshot_at rows t)) where
  abbrev terms : List (TermOf ConstId)
  terms = listed b 0 (length egd.vars)

  same_value : (v : ℕ) → v < length egd.vars → bound_to terms v ≡ b v
  same_value v l =
      let e : 0 + v ≡ v = omega arith in listed_value b (unknown (numbered 0)) 0 (length egd.vars) v l ∙ ap b e

  same_image : (atom : Atom) → Contains egd.body atom → image (λ k. k) (bound_to terms) atom ≡ image (λ k. k) b atom
  same_image atom there = image_agrees (λ k. k) b (bound_to terms) atom
      (λ v c. same_value v ((is.body_vars.same v).0 (occurs_to egd.body v (there.0, atom, there.1, there.2, c))))

  same_images : map (image (λ k. k) (bound_to terms)) egd.body ≡ map (image (λ k. k) b) egd.body
  same_images = map_agrees (image (λ k. k) b) (image (λ k. k) (bound_to terms)) egd.body same_image

  sides_agree : b egd.left ≡ b egd.right
  sides_agree =
      let found = has_rows rows t b egd.body m in
      let time = common_time found.list in
      sym (same_value egd.left is.left)
      ∙ settled terms time.0 (record {
        size = listed_size b 0 (length egd.vars);
        rows = found.list;
        present = found.present;
        images = found.images ∙ sym same_images;
        instant = (t, (time.1 t).1 found.have);
        common = time.1;
      })
      ∙ same_value egd.right is.right

pub settled_rows_hold : SettledRowsHold
settled_rows_hold rules rows valid settled t =
    All-members Settled (λ egd. EgdHolds (λ k. k) egd (snapshot_at rows t)) rules.egds
    (λ egd there so b m. sides_agree rules.targets egd (All-contains (IsEgd rules.targets) rules.egds egd valid.rules.egds there)
    rows so t b m)
    settled
  where
    Settled : Egd → Type 0
    Settled egd = (terms : List (TermOf ConstId)) (c : Ends) → MatchesOver (λ k. k) rows egd terms c
        → left_of egd terms ≡ right_of egd terms
