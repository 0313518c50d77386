-- The parts of the search, and the rows that are looked at in turn.
use Rattle.std.proofs.Common.{◌≡◌, ◌⊎◌, inl, inr, ◌↔◌, ℕ, zero, suc, ◌+◌, ◌<◌, ◌≤◌, Option, Some, List, [], ◌∷◌, ◌++◌, length, take, drop, sym, ap, ◌∙◌, subst, arith, ⊎_elim, All, Contains}
use Rattle.std.specs.Prelude.{slice_get, slice_set}
use Rattle.std.specs.List.{AllZip}
use Rattle.std.proofs.lemmas.Bool.{cases_eq, cases_lt}
use Rattle.std.proofs.lemmas.List.{take_more, drop_all}
use Rattle.std.proofs.lemmas.List.Elements.{All-contains, Contains-append_left, Contains-append_right, Contains-append_cases}
use Rattle.std.proofs.lemmas.Option.{get_or_from_slice_get, slice_get_within}
use Rattle.rule_core.specs.declared.rules.Atom.{Atom}
use Rattle.rule_core.specs.declared.rules.Egd.{Egd}
use Rattle.rule_core.specs.declared.rules.Relation.{Relation}
use Rattle.rule_core.specs.Validity.{IsEgd, occurrences}
use Rattle.rule_core.proofs.ListLemmas.{Contains-nil, Contains-cons_cases}
use Rattle.fact_table.specs.Rows.{SeenRow, row_at}
use Rattle.body_match.specs.declared.found.Match.{Match}
use Rattle.body_match.specs.Matches.{seen_value, IsImageAt, IsMatch}
use Rattle.body_match.specs.Index.{IsUnequalWith}
use Rattle.body_match.specs.Equality.{Equality, IsShown}
use Rattle.body_match.proofs.ListLemmas.{at_within, contains_from_at, zip_at, zip_length, zip_from_each, at_set_here, at_set_other, size_set}
use Rattle.null_store.proofs.ListLemmas.{same_some, stands}
use Rattle.egd_chase.specs.declared.search.Part.{Part}
use Rattle.egd_chase.specs.Search.{IsUnequalMatch, IsIndexFor, IsShownMatch, IsPartFor, AreParts, AllWait, HasNoUnequal, NoneIsUnequal, CanTake, HasTaken}
use Rattle.egd_chase.proofs.ShownLemmas.{shown_match}

-- one more pair of two lists
zip_push : {X Y : Type 0} (R : X → Y → Type 0) (xs : List X) (ys : List Y) (x : X) (y : Y) → AllZip R xs ys → R x y
    → AllZip R (xs ++ x ∷ []) (ys ++ y ∷ [])
zip_push R [] [] x y all one = (one, tt)
zip_push R [] (b ∷ ys) x y all one = absurd all
zip_push R (a ∷ xs) [] x y all one = absurd all
zip_push R (a ∷ xs) (b ∷ ys) x y all one = (all.0, zip_push R xs ys x y all.1 one)

-- a part for one egd more
pub one_part_more : (rows : List (Option SeenRow)) (egds : List Egd) (k : ℕ) (egd : Egd) (before after : List Part) (part : Part)
    → slice_get egds k ≡ Some egd → after ≡ before ++ part ∷ [] → IsPartFor rows egd part → AreParts rows (take k egds) before
    → AreParts rows (take (k + 1) egds) after
one_part_more rows egds k egd before after part at pushed is are =
    let more : take (k + 1) egds ≡ take k egds ++ egd ∷ [] =
    take_more egds k egd (slice_get_within egds k egd at) ∙ ap (λ e. take k egds ++ e ∷ []) (get_or_from_slice_get egds k egd egd at) in
    subst (λ l. AreParts rows l after) (sym more) (subst (AreParts rows (take k egds ++ egd ∷ [])) (sym pushed)
    (zip_push (IsPartFor rows) (take k egds) before egd part are is))

-- the part of an egd, and the egd of a part
pub part_at : (rows : List (Option SeenRow)) (egds : List Egd) (parts : List Part) → AreParts rows egds parts
    → (k : ℕ) (egd : Egd) (part : Part) → slice_get egds k ≡ Some egd → slice_get parts k ≡ Some part → IsPartFor rows egd part
part_at rows egds parts are k egd part p q =
    let h = zip_at (IsPartFor rows) egds parts are k egd p in
    subst (IsPartFor rows egd) (same_some (slice_get parts k) h.0 part h.1 q) h.2

pub egd_of_part : (rows : List (Option SeenRow)) (egds : List Egd) (parts : List Part) → AreParts rows egds parts
    → (k : ℕ) (part : Part) → slice_get parts k ≡ Some part → (egd : Egd) × (slice_get egds k ≡ Some egd) × IsPartFor rows egd part
egd_of_part rows egds parts are k part at =
    let size = zip_length (IsPartFor rows) egds parts are in
    let l = slice_get_within parts k part at in
    let egd = at_within egds k (omega (arith, size, l)) in
    (egd.0, egd.1, part_at rows egds parts are k egd.0 part egd.1 at)

-- one part of the list is another one now
pub part_set : (rows : List (Option SeenRow)) (egds : List Egd) (parts : List Part) (k : ℕ) (old new : Part) → slice_get parts k ≡ Some old
    → ((egd : Egd) → IsPartFor rows egd old → IsPartFor rows egd new) → AreParts rows egds parts → AreParts rows egds (slice_set parts k new)
part_set rows egds parts k old new at kept are =
    let set = slice_set parts k new in
    zip_from_each (IsPartFor rows) egds set (zip_length (IsPartFor rows) egds parts are ∙ sym (size_set parts k new))
    (λ j egd part p q. elim (cases_eq j k) [
      | inl same ↦
          let here : slice_get set k ≡ Some new = at_set_here parts k new (slice_get_within parts k old at) in
          let one : new ≡ part = same_some (slice_get set k) new part here (ap (slice_get set) (sym same) ∙ q) in
          subst (IsPartFor rows egd) one (kept egd (part_at rows egds parts are j egd old p (ap (slice_get parts) same ∙ at)))
      | inr other ↦ part_at rows egds parts are j egd part p (sym (at_set_other parts k j new other) ∙ q)
    ])

-- the variables of an egd are numbered
pub occur_below : (relations : List Relation) (egd : Egd) → IsEgd relations egd → (body : List Atom) (n : ℕ) → body ≡ egd.body
    → n ≡ length egd.vars → (v : ℕ) → Contains (occurrences body) v ↔ (v < n)
occur_below relations egd is body n same size v =
    subst (λ (atoms : List Atom). Contains (occurrences atoms) v ↔ (v < n)) (sym same)
    (subst (λ m. Contains (occurrences egd.body) v ↔ (v < m)) (sym size) (is.body_vars.same v))

-- a part over no rows
pub no_rows_yet : (relations : List Relation) (egd : Egd) → IsEgd relations egd → (part : Part) → part.index.index.body ≡ egd.body
    → part.index.index.vars ≡ length egd.vars → part.index.left ≡ egd.left → part.index.right ≡ egd.right
    → ((number : ℕ) → ¬ (IsShown part.index number)) → part.next ≤ length part.waiting.items → IsPartFor [] egd part
no_rows_yet relations egd is part body vars left right none within = record {
  index = record {
    occur = is.body_vars.same;
    body = body;
    vars = vars;
    left = left;
    right = right;
    shows = record { listed = λ number shown. absurd (none number shown); stand = λ number row t at fits has. absurd cc };
  };
  wait = λ found m.
      let value = seen_value found.binding in
      let atom = at_within egd.body 0 is.body.some in
      let first = zip_at (IsImageAt [] value) egd.body found.rows m.unequal.match.images 0 atom.0 atom.1 in
      absurd (none first.0 (All-contains (IsShown part.index) found.rows first.0 m.shown (contains_from_at found.rows 0 first.0 first.1)));
  within = within;
}

-- what is found over an index is a match of the egd's body
module _ (rows : List (Option SeenRow)) (egd : Egd) (e : Equality) (is : IsIndexFor rows egd e) where
  of_egd : (m : Match) → IsMatch e.index.body e.index.vars rows m → IsMatch egd.body (length egd.vars) rows m
  of_egd m h = subst (λ body. IsMatch body (length egd.vars) rows m) is.body (subst (λ vars. IsMatch e.index.body vars rows m) is.vars h)

  of_index : (m : Match) → IsMatch egd.body (length egd.vars) rows m → IsMatch e.index.body e.index.vars rows m
  of_index m h = subst (λ vars. IsMatch e.index.body vars rows m) (sym is.vars)
      (subst (λ body. IsMatch body (length egd.vars) rows m) (sym is.body) h)

  sides_of_egd : (m : Match) → ¬ (slice_get m.binding e.left ≡ slice_get m.binding e.right)
      → ¬ (slice_get m.binding egd.left ≡ slice_get m.binding egd.right)
  sides_of_egd m h same = h (ap (slice_get m.binding) is.left ∙ same ∙ ap (slice_get m.binding) (sym is.right))

  sides_of_index : (m : Match) → ¬ (slice_get m.binding egd.left ≡ slice_get m.binding egd.right)
      → ¬ (slice_get m.binding e.left ≡ slice_get m.binding e.right)
  sides_of_index m h same = h (ap (slice_get m.binding) (sym is.left) ∙ same ∙ ap (slice_get m.binding) is.right)

  pub with_of_egd : (numbers : List ℕ) (m : Match) → IsUnequalWith e.index rows e.left e.right numbers m → IsUnequalMatch rows egd m
  with_of_egd numbers m h = record { match = of_egd m h.match; unequal = sides_of_egd m h.unequal }

  pub with_of_index : (numbers : List ℕ) (m : Match) → IsUnequalMatch rows egd m → m.rows ≡ numbers
      → IsUnequalWith e.index rows e.left e.right numbers m
  with_of_index numbers m h uses = record { match = of_index m h.match; uses = uses; unequal = sides_of_index m h.unequal }

-- what stands at a place or behind it
drop_step : (xs : List ℕ) (k x y : ℕ) → slice_get xs k ≡ Some x → Contains (drop k xs) y → (x ≡ y) ⊎ Contains (drop (suc k) xs) y
drop_step [] k x y at there = absurd cc
drop_step (z ∷ xs) zero x y at there = elim (Contains-cons_cases z y xs there) [
  | inl same ↦ let first : z ≡ x = cc in inl (sym first ∙ same)
  | inr d ↦ inr d
]
drop_step (z ∷ xs) (suc k) x y at there = drop_step xs k x y at there

-- a row that no match of shown rows with unequal sides uses waits no longer
pub wait_less : (rows : List (Option SeenRow)) (egd : Egd) (e : Equality) (waiting : List ℕ) (next row : ℕ) → slice_get waiting next ≡ Some row
    → ((m : Match) → IsShownMatch rows egd e m → ¬ (Contains m.rows row)) → AllWait rows egd e (drop next waiting)
    → AllWait rows egd e (drop (next + 1) waiting)
wait_less rows egd e waiting next row at none wait found m =
    let h = wait found m in
    let place : suc next ≡ next + 1 = omega arith in
    elim (drop_step waiting next row h.0 at h.1) [
      | inl same ↦ absurd (none found m (subst (Contains found.rows) (sym same) h.2))
      | inr later ↦ (h.0, subst (λ n. Contains (drop n waiting) h.0) place later, h.2)
    ]

-- where no row waits, the egd has no match with unequal sides
pub none_waits : (rows : List (Option SeenRow)) (egd : Egd) (part : Part) → IsPartFor rows egd part → length part.waiting.items ≤ part.next
    → HasNoUnequal rows egd
none_waits rows egd part is long found unequal =
    let m = shown_match rows egd part.index is.index found unequal in
    let h = is.wait m.0 m.1 in
    Contains-nil h.0 (subst (λ l. Contains l h.0) (drop_all part.next part.waiting.items long) h.1)

-- the first egds have no match with unequal sides
abbrev pub NoneBelow : List (Option SeenRow) → List Egd → ℕ → Type 0
NoneBelow rows egds n = (k : ℕ) (egd : Egd) → k < n → slice_get egds k ≡ Some egd → HasNoUnequal rows egd

pub none_below_more : (rows : List (Option SeenRow)) (egds : List Egd) (parts : List Part) (n : ℕ) (part : Part) → AreParts rows egds parts
    → slice_get parts n ≡ Some part → ((egd : Egd) → IsPartFor rows egd part → HasNoUnequal rows egd)
    → NoneBelow rows egds n → NoneBelow rows egds (n + 1)
none_below_more rows egds parts n part are at none below k egd l p = ⊎_elim
    (λ (less : k < n). below k egd less p)
    (λ (not : n ≤ k).
    let same : k ≡ n = omega (arith, l, not) in
    none egd (part_at rows egds parts are n egd part (ap (slice_get egds) (sym same) ∙ p) at))
    (cases_lt k n)

pub none_of_all : (rows : List (Option SeenRow)) (egds : List Egd) (parts : List Part) (n : ℕ) → AreParts rows egds parts → length parts ≤ n
    → NoneBelow rows egds n → NoneIsUnequal rows egds
none_of_all rows egds parts n are long below k egd m at =
    let l = slice_get_within egds k egd at in
    let size = zip_length (IsPartFor rows) egds parts are in
    below k egd (omega (arith, l, size, long)) at m

-- the rows with numbers below n are in the list
abbrev pub HasRowsBelow : List (Option SeenRow) → ℕ → List ℕ → Type 0
HasRowsBelow rows n list = (number : ℕ) (row : SeenRow) → number < n → row_at rows number ≡ Some row → Contains list number

pub more_rows : (rows : List (Option SeenRow)) (n : ℕ) (old new : List ℕ) → ((k : ℕ) → Contains old k → Contains new k)
    → ((row : SeenRow) → row_at rows n ≡ Some row → Contains new n) → HasRowsBelow rows n old → HasRowsBelow rows (n + 1) new
more_rows rows n old new kept last below number row l at = ⊎_elim
    (λ (less : number < n). kept number (below number row less at))
    (λ (not : n ≤ number).
    let same : number ≡ n = omega (arith, l, not) in
    subst (Contains new) (sym same) (last row (ap (row_at rows) (sym same) ∙ at)))
    (cases_lt number n)

-- two lists that are these
pub rows_in : (rows : List (Option SeenRow)) (n : ℕ) (a b front back : List ℕ) → front ≡ a → back ≡ b → HasRowsBelow rows n (a ++ b)
    → HasRowsBelow rows n (front ++ back)
rows_in rows n a b front back p q h = subst (HasRowsBelow rows n) (λ i. sym p i ++ sym q i) h

-- more in the first or in the second of two lists
pub more_in_first : (a b : List ℕ) (n k : ℕ) → Contains (a ++ b) k → Contains ((a ++ n ∷ []) ++ b) k
more_in_first a b n k c = elim (Contains-append_cases a b k c) [
  | inl d ↦ Contains-append_left (a ++ n ∷ []) b k (Contains-append_left a (n ∷ []) k d)
  | inr d ↦ Contains-append_right (a ++ n ∷ []) b k d
]

pub more_in_second : (a b : List ℕ) (n k : ℕ) → Contains (a ++ b) k → Contains (a ++ (b ++ n ∷ [])) k
more_in_second a b n k c = elim (Contains-append_cases a b k c) [
  | inl d ↦ Contains-append_left a (b ++ n ∷ []) k d
  | inr d ↦ Contains-append_right a (b ++ n ∷ []) k (Contains-append_left b (n ∷ []) k d)
]

pub all_rows_below : (rows : List (Option SeenRow)) (n : ℕ) (list : List ℕ) → length rows ≤ n → HasRowsBelow rows n list
    → (number : ℕ) (row : SeenRow) → row_at rows number ≡ Some row → Contains list number
all_rows_below rows n list long below number row at =
    let l = slice_get_within rows number (Some row) (stands (slice_get rows number) row at) in
    below number row (omega (arith, l, long)) at

-- the parts take in rows one after the other
module _ (rows : List (Option SeenRow)) (numbers : List ℕ) where
  pub record HaveTakenBelow (old new : List Part) (n : ℕ) : Type 0 where
    pub size : length new ≡ length old
    pub done : (k : ℕ) (a b : Part) → k < n → slice_get old k ≡ Some a → slice_get new k ≡ Some b → HasTaken rows numbers a b
    pub later : (k : ℕ) → n ≤ k → slice_get new k ≡ slice_get old k

module _ (rows : List (Option SeenRow)) (numbers : List ℕ) (first now : List Part) (n : ℕ) (before : HaveTakenBelow rows numbers first now n) where
  -- the next part is as it was at first
  pub can_take_at : (part : Part) → slice_get now n ≡ Some part → All (CanTake rows numbers) first → CanTake rows numbers part
  can_take_at part at all = All-contains (CanTake rows numbers) first part all
      (contains_from_at first n part (sym (before.later n (omega arith)) ∙ at))

  -- one part more
  pub one_part_takes : (part new : Part) → slice_get now n ≡ Some part → HasTaken rows numbers part new
      → HaveTakenBelow rows numbers first (slice_set now n new) (n + 1)
  one_part_takes part new at takes = record {
    size = size_set now n new ∙ before.size;
    done = λ k a b l p q. ⊎_elim
        (λ (less : k < n).
        before.done k a b less p (sym (at_set_other now n k new (λ same. omega (arith, less, same))) ∙ q))
        (λ (not : n ≤ k).
        let same : k ≡ n = omega (arith, l, not) in
        let here : slice_get (slice_set now n new) n ≡ Some new = at_set_here now n new (slice_get_within now n part at) in
        let one : new ≡ b = same_some (slice_get (slice_set now n new) n) new b here (ap (slice_get (slice_set now n new)) (sym same) ∙ q) in
        let was : part ≡ a = same_some (slice_get now n) part a at (before.later n (omega arith) ∙ ap (slice_get first) (sym same) ∙ p) in
        subst (λ (x : Part). HasTaken rows numbers x b) was (subst (HasTaken rows numbers part) one takes))
        (cases_lt k n);
    later = λ k l. at_set_other now n k new (λ same. omega (arith, l, same)) ∙ before.later k (omega (arith, l));
  }

  -- all of them
  pub all_have_taken : length first ≤ n → AllZip (HasTaken rows numbers) first now
  all_have_taken long = zip_from_each (HasTaken rows numbers) first now (sym before.size)
      (λ k a b p q. let l = slice_get_within first k a p in before.done k a b (omega (arith, l, long)) p q)
