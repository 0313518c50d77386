-- What a visitor is given: nothing, one match, and more behind what it was given.
use Rattle.std.proofs.Common.{◌≡◌, ◌⊎◌, inl, inr, ℕ, ◌+◌, ◌<◌, ◌≤◌, Bool, true, false, List, [], ◌∷◌, ◌++◌, Some, length, refl, sym, ap, ◌∙◌, subst, ⊎_elim, arith, AllPairs, Contains, append_assoc}
use Rattle.std.specs.declared.cmp.Ordering.TheVariants.{Less}
use Rattle.std.specs.Ordering.{nat_cmp, ordering_then}
use Rattle.std.specs.Cmp.Lexicographic.{slice_cmp}
use Rattle.std.specs.Prelude.{slice_get}
use Rattle.std.proofs.lemmas.Bool.{cases_lt, false≢true}
use Rattle.std.proofs.lemmas.Bool.Decides.{nat_tests}
use Rattle.std.proofs.lemmas.Cmp.{tied_itself, nat_cmp_total}
use Rattle.std.proofs.lemmas.List.{append-nil}
use Rattle.std.proofs.lemmas.List.Elements.{Contains-append_left, Contains-append_right, Contains-append_cases}
use Rattle.rule_core.proofs.ListLemmas.{AllPairs-nil, AllPairs-cons, AllPairs-head, AllPairs-tail, Contains-head, Contains-cons, Contains-cons_cases, Contains-nil}
use Rattle.body_match.specs.declared.found.Match.{Match}
use Rattle.body_match.specs.Matches.{StandsBefore, IsImageAt, seen_value}
use Rattle.body_match.specs.Search.{Task, IsFindable, IsListedFrom, AddsNext, Gives}
use Rattle.body_match.proofs.ListLemmas.{within_from_at, zip_length}
use Rattle.body_match.proofs.SearchLemmas.{same_some}
use Rattle.body_match.proofs.VisitLemmas.{takes_both}

AllPairs-append : {X : Type 0} (R : X → X → Type 0) (xs ys : List X) → AllPairs R xs → AllPairs R ys
    → ((x y : X) → Contains xs x → Contains ys y → R x y) → AllPairs R (xs ++ ys)
AllPairs-append R [] ys p q h = q
AllPairs-append {X} R (x ∷ xs) ys p q h =
    AllPairs-cons R x (xs ++ ys)
    (λ y c. ⊎_elim (λ (d : Contains xs y). AllPairs-head R x xs p y d) (λ (d : Contains ys y). h x y (Contains-head x xs) d)
    (Contains-append_cases xs ys y c))
    (AllPairs-append R xs ys (AllPairs-tail R x xs p) q (λ a b c d. h a b (Contains-cons x a xs c) d))

-- lists that begin alike are in the order of what comes next
first_less : (front xs ys : List ℕ) (a b : ℕ) → a < b → slice_cmp nat_cmp (front ++ a ∷ xs) (front ++ b ∷ ys) ≡ Less
first_less [] xs ys a b l = let e : nat_cmp a b ≡ Less = grind (arith, nat_tests) in ap (λ o. ordering_then o (slice_cmp nat_cmp xs ys)) e
first_less (x ∷ front) xs ys a b l =
    ap (λ o. ordering_then o (slice_cmp nat_cmp (front ++ a ∷ xs) (front ++ b ∷ ys))) (tied_itself nat_cmp_total x)
    ∙ first_less front xs ys a b l

module _ {S : Type 0} (takes : S → Match → S → Type 0) (CanFind : Match → Type 0) where
  pub gives_none : (P : Match → Type 0) (old : S) (more : Bool) → ((m : Match) → P m → ⊥) → Gives takes P CanFind old old more
  gives_none P old more none = record {
    list = [];
    first = record {
      each = λ m c. absurd (Contains-nil m c);
      ordered = AllPairs-nil StandsBefore;
      later = λ m p d. absurd (none m p);
    };
    whole = λ e m p d. absurd (none m p);
    taken = refl;
  }

  pub gives_one : (P : Match → Type 0) (old new : S) (more : Bool) (one : Match) → P one → ((m : Match) → P m → one ≡ m)
      → takes old one new → Gives takes P CanFind old new more
  gives_one P old new more one p only took =
      let there : (m : Match) → P m → Contains (one ∷ []) m = λ m q. subst (Contains (one ∷ [])) (only m q) (Contains-head one []) in record {
        list = one ∷ [];
        first = record {
          each = λ m c. elim (Contains-cons_cases one m [] c) [
            | inl same ↦ subst P same p
            | inr d ↦ absurd (Contains-nil m d)
          ];
          ordered = AllPairs-cons StandsBefore one [] (λ m c. absurd (Contains-nil m c)) (AllPairs-nil StandsBefore);
          later = λ m q d. inl (there m q);
        };
        whole = λ e m q d. there m q;
        taken = (new, took, refl);
      }

  pub gives_same : (P Q : Match → Type 0) (old new : S) (more : Bool) → ((m : Match) → P m → Q m) → ((m : Match) → Q m → CanFind m → P m)
      → Gives takes P CanFind old new more → Gives takes Q CanFind old new more
  gives_same P Q old new more f g h = record {
    list = h.list;
    first = record {
      each = λ m c. f m (h.first.each m c);
      ordered = h.first.ordered;
      later = λ m q d. h.first.later m (g m q d) d;
    };
    whole = λ e m q d. h.whole e m (g m q d) d;
    taken = h.taken;
  }

  -- what is given behind all of something; what else there is stands after both, if it is not wanted any more
  pub gives_both : (P Q R : Match → Type 0) (old between new : S) (more : Bool) → Gives takes P CanFind old between true
      → Gives takes Q CanFind between new more → ((m n : Match) → P m → Q n → StandsBefore m n) → ((m : Match) → P m → R m)
      → ((m : Match) → Q m → R m)
      → ((m : Match) → R m → CanFind m → (P m ⊎ Q m) ⊎ ((more ≡ true → ⊥) × ((n : Match) → P n ⊎ Q n → StandsBefore n m)))
      → Gives takes R CanFind old new more
  gives_both P Q R old between new more p q before f g split = record {
    list = p.list ++ q.list;
    first = record {
      each = λ m c. ⊎_elim (λ (d : Contains p.list m). f m (p.first.each m d)) (λ (d : Contains q.list m). g m (q.first.each m d))
          (Contains-append_cases p.list q.list m c);
      ordered = AllPairs-append StandsBefore p.list q.list p.first.ordered q.first.ordered
          (λ m n c d. before m n (p.first.each m c) (q.first.each n d));
      later = λ m r d. by_split m d (split m r d);
    };
    whole = λ e m r d. by_whole e m d (split m r d);
    taken = takes_both takes old between new p.list q.list p.taken q.taken;
  }
    where
      one_of : (n : Match) → Contains (p.list ++ q.list) n → P n ⊎ Q n
      one_of n c = ⊎_elim (λ (d : Contains p.list n). inl (p.first.each n d)) (λ (d : Contains q.list n). inr (q.first.each n d))
          (Contains-append_cases p.list q.list n c)

      by_second : (m : Match) → Q m → Contains q.list m ⊎ ((other : Match) → Contains q.list other → StandsBefore other m)
          → Contains (p.list ++ q.list) m ⊎ ((other : Match) → Contains (p.list ++ q.list) other → StandsBefore other m)
      by_second m y (inl c) = inl (Contains-append_right p.list q.list m c)
      by_second m y (inr after) = inr (λ other c. ⊎_elim (λ (d : Contains p.list other). before other m (p.first.each other d) y)
          (λ (d : Contains q.list other). after other d) (Contains-append_cases p.list q.list other c))

      by_split : (m : Match) → CanFind m → (P m ⊎ Q m) ⊎ ((more ≡ true → ⊥) × ((n : Match) → P n ⊎ Q n → StandsBefore n m))
          → Contains (p.list ++ q.list) m ⊎ ((other : Match) → Contains (p.list ++ q.list) other → StandsBefore other m)
      by_split m d (inl (inl x)) = inl (Contains-append_left p.list q.list m (p.whole refl m x d))
      by_split m d (inl (inr y)) = by_second m y (q.first.later m y d)
      by_split m d (inr z) = inr (λ other c. z.1 other (one_of other c))

      by_whole : more ≡ true → (m : Match) → CanFind m → (P m ⊎ Q m) ⊎ ((more ≡ true → ⊥) × ((n : Match) → P n ⊎ Q n → StandsBefore n m))
          → Contains (p.list ++ q.list) m
      by_whole e m d (inl (inl x)) = Contains-append_left p.list q.list m (p.whole refl m x d)
      by_whole e m d (inl (inr y)) = Contains-append_right p.list q.list m (q.whole e m y d)
      by_whole e m d (inr z) = absurd (z.0 e)

-- a match whose rows begin with these and go on with one that is listed between two places
abbrev pub IsListedBetween : Task → List ℕ → List ℕ → ℕ → ℕ → Match → Type 0
IsListedBetween task chosen next first at m =
    (k : ℕ) × (n : ℕ) × (first ≤ k) × (k < at) × (slice_get next k ≡ Some n) × IsListedFrom task (chosen ++ n ∷ []) m

module _ (task : Task) (chosen : List ℕ) where
  -- with one row fewer
  pub shorter : (m : Match) (n : ℕ) → IsListedFrom task (chosen ++ n ∷ []) m → IsListedFrom task chosen m
  shorter m n h = (h.0, (n ∷ h.1.0, h.1.1 ∙ append_assoc chosen (n ∷ []) h.1.0))

  -- with one row more
  pub longer : (m : Match) → length chosen < length task.body → IsListedFrom task chosen m
      → (n : ℕ) × IsListedFrom task (chosen ++ n ∷ []) m
  longer m more h = by_rest h.1.0 h.1.1
    where
      by_rest : (rest : List ℕ) → m.rows ≡ chosen ++ rest → (n : ℕ) × IsListedFrom task (chosen ++ n ∷ []) m
      by_rest [] e =
          let long = zip_length (IsImageAt task.rows (seen_value m.binding)) task.body m.rows h.0.images in
          absurd (omega (arith, long, more, ap length (e ∙ append-nil chosen)))
      by_rest (n ∷ rest) e = (n, (h.0, (rest, e ∙ sym (append_assoc chosen (n ∷ []) rest))))

  -- matches are in the order of the rows that come next
  pub next_before : (a b : ℕ) (m n : Match) → a < b → IsListedFrom task (chosen ++ a ∷ []) m → IsListedFrom task (chosen ++ b ∷ []) n
      → StandsBefore m n
  next_before a b m n l x y =
      subst (λ rows. slice_cmp nat_cmp m.rows rows ≡ Less) (sym (y.1.1 ∙ append_assoc chosen (b ∷ []) y.1.0))
      (subst (λ rows. slice_cmp nat_cmp rows (chosen ++ b ∷ y.1.0) ≡ Less) (sym (x.1.1 ∙ append_assoc chosen (a ∷ []) x.1.0))
      (first_less chosen x.1.0 y.1.0 a b l))

  module _ {S : Type 0} (takes : S → Match → S → Type 0) (old next : List ℕ) (adds : AddsNext task chosen old next) where
    pub between_none : (s : S) → Gives takes (IsListedBetween task chosen next (length old) (length old)) (IsFindable task) s s true
    between_none s = gives_none takes (IsFindable task) (IsListedBetween task chosen next (length old) (length old)) s true (λ m h. omega (arith, h.2, h.3))

    in_order : (at row : ℕ) → slice_get next at ≡ Some row → (m n : Match) → IsListedBetween task chosen next (length old) at m
        → IsListedFrom task (chosen ++ row ∷ []) n → StandsBefore m n
    in_order at row e m n x y = next_before x.1 row m n (adds.ascending x.0 at x.1 row x.2 x.3 x.4 e) x.5 y

    pub between_more : (at row : ℕ) (a b c : S) → length old ≤ at → slice_get next at ≡ Some row
        → Gives takes (IsListedBetween task chosen next (length old) at) (IsFindable task) a b true
        → Gives takes (IsListedFrom task (chosen ++ row ∷ [])) (IsFindable task) b c true
        → Gives takes (IsListedBetween task chosen next (length old) (at + 1)) (IsFindable task) a c true
    between_more at row a b c from e p q =
        gives_both takes (IsFindable task) (IsListedBetween task chosen next (length old) at) (IsListedFrom task (chosen ++ row ∷ []))
        (IsListedBetween task chosen next (length old) (at + 1)) a b c true p q (in_order at row e)
        (λ m x. (x.0, x.1, x.2, omega (arith, x.3), x.4, x.5)) (λ m y. (at, row, from, omega arith, e, y))
        (λ m r d. inl (⊎_elim (λ (before : r.0 < at). inl (r.0, r.1, r.2, before, r.4, r.5)) (λ (last : at ≤ r.0).
        let same : r.0 ≡ at = omega (arith, last, r.3) in
        let this : r.1 ≡ row = same_some (slice_get next r.0) r.1 row r.4 (ap (slice_get next) same ∙ e) in
        inr (subst (λ n. IsListedFrom task (chosen ++ n ∷ []) m) this r.5)) (cases_lt r.0 at)))

    -- where no more is wanted, all others stand after what was given
    pub between_stop : (at row : ℕ) (a b c : S) → length chosen < length task.body → length old ≤ at → slice_get next at ≡ Some row
        → Gives takes (IsListedBetween task chosen next (length old) at) (IsFindable task) a b true
        → Gives takes (IsListedFrom task (chosen ++ row ∷ [])) (IsFindable task) b c false
        → Gives takes (IsListedFrom task chosen) (IsFindable task) a c false
    between_stop at row a b c more from e p q =
        gives_both takes (IsFindable task) (IsListedBetween task chosen next (length old) at) (IsListedFrom task (chosen ++ row ∷ []))
        (IsListedFrom task chosen) a b c false p q (in_order at row e) (λ m x. shorter m x.1 x.5) (λ m y. shorter m row y)
        (λ m r d. let n = longer m more r in let k = adds.all m n.0 n.1 d in by_place m n.0 n.1 k.0 k.1 k.2 (cases_lt k.0 at))
      where
        by_place : (m : Match) (n : ℕ) → IsListedFrom task (chosen ++ n ∷ []) m → (k : ℕ) → length old ≤ k → slice_get next k ≡ Some n
            → (k < at) ⊎ (at ≤ k)
            → (IsListedBetween task chosen next (length old) at m ⊎ IsListedFrom task (chosen ++ row ∷ []) m)
            ⊎ ((false ≡ true → ⊥) × ((o : Match) → IsListedBetween task chosen next (length old) at o
            ⊎ IsListedFrom task (chosen ++ row ∷ []) o → StandsBefore o m))
        by_place m n h k l f (inl before) = inl (inl (k, n, l, before, f, h))
        by_place m n h k l f (inr after) = ⊎_elim (λ (later : at < k). inr (
          false≢true,
          λ o x. ⊎_elim
              (λ (y : IsListedBetween task chosen next (length old) at o).
              next_before y.1 n o m (adds.ascending y.0 k y.1 n y.2 (omega (arith, later, y.3)) y.4 f) y.5 h)
              (λ (y : IsListedFrom task (chosen ++ row ∷ []) o). next_before row n o m (adds.ascending at k row n from later e f) y h) x,
        )) (λ (here : k ≤ at).
            let same : k ≡ at = omega (arith, here, after) in
            let this : n ≡ row = same_some (slice_get next k) n row f (ap (slice_get next) same ∙ e) in
            inl (inr (subst (λ x. IsListedFrom task (chosen ++ x ∷ []) m) this h))) (cases_lt at k)

    pub between_all : (at : ℕ) (a b : S) → length chosen < length task.body → length next ≤ at
        → Gives takes (IsListedBetween task chosen next (length old) at) (IsFindable task) a b true
        → Gives takes (IsListedFrom task chosen) (IsFindable task) a b true
    between_all at a b more past p =
        gives_same takes (IsFindable task) (IsListedBetween task chosen next (length old) at) (IsListedFrom task chosen) a b true
        (λ m x. shorter m x.1 x.5)
        (λ m r d. let n = longer m more r in let k = adds.all m n.0 n.1 d in
        (k.0, n.0, k.1, (let l = within_from_at next k.0 n.0 k.2 in omega (arith, l, past)), k.2, n.1)) p
