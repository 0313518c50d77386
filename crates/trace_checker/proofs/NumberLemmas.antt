-- Facts over inner numbers, and what they show.
use Rattle.std.proofs.Common.{◌≡◌, ◌≢◌, ◌⊎◌, ℕ, ◌+◌, ◌<◌, length, Some, None, Option, Bool, true, false, cond, nat_eq, List, [], ◌∷◌, ◌++◌, map, take, get_or, slice_set, refl, sym, ap, ◌∙◌, subst, inl, inr, Contains, unwrap_or, arith}
use Rattle.std.specs.declared.cmp.Ordering.{Ordering}
use Rattle.std.specs.declared.cmp.Ordering.TheVariants.{Less, Equal, Greater}
use Rattle.std.specs.FinMap.{nat_cmp-IsAntisymmetric, slice_cmp-IsAntisymmetric}
use Rattle.std.specs.Ordering.{nat_cmp}
use Rattle.std.proofs.lemmas.Bool.Decides.{eqb_tells, nat_tests}
use Rattle.std.proofs.lemmas.List.{map-append, take_more, get_or_append_left, length-append, length-set, get_or-set_same, get_or-set_other}
use Rattle.std.proofs.lemmas.List.Elements.{Contains-push_cases}
use Rattle.std.proofs.Math.Seq.{get_or-append_seam}
use Rattle.rule_core.specs.Terms.{Unknown, numbered, named, TermOf, constant, unknown, FactOf}
use Rattle.rule_core.specs.Order.{unknown_cmp}
use Rattle.rule_core.specs.Homomorphism.{term_image}
use Rattle.rule_core.specs.Renaming.{HoldTheSame}
use Rattle.rule_core.proofs.ListLemmas.{Contains-nil, Contains-head, Contains-cons, Contains-cons_cases, Contains-map, Contains-from_map}
use Rattle.failure_trace.specs.Equating.{Replacement, if_equal, becomes, replaced_fact}
use Rattle.failure_trace.specs.TraceRun.{text_cmp}
use Rattle.trace_checker.specs.declared.numbers.Numbers.{Numbers}
use Rattle.trace_checker.specs.States.{HoldsAlso}
use Rattle.trace_checker.specs.Listed.{HasNumber}
use Rattle.trace_checker.specs.Numbered.{other_number, renumbered, outward, inner_of, inward, AreOwn, IsTaken, AreTaken, HaveInner, KeepsInner, Renames, Replaces}

abbrev Fact : Type 0
Fact = FactOf (List ℕ)

abbrev Term : Type 0
Term = TermOf (List ℕ)

-- the terms with other numbers
abbrev other_terms : (ℕ → ℕ) → List Term → List Term
other_terms f ts = map (term_image (other_number f)) ts

-- by numbers that agree they are the same
same_terms : (f g : ℕ → ℕ) (ts : List Term) → ((i : ℕ) → Contains ts (unknown (numbered i)) → f i ≡ g i) → other_terms f ts ≡ other_terms g ts
same_terms f g [] agree = refl
same_terms f g (t ∷ ts) agree =
    let first = by t (λ i e. agree i (subst (λ x. Contains (t ∷ ts) x) e (Contains-head t ts))) in
    let rest = same_terms f g ts (λ i c. agree i (Contains-cons t (unknown (numbered i)) ts c)) in
    λ i. first i ∷ rest i
  where
    by : (t : Term) → ((i : ℕ) → t ≡ unknown (numbered i) → f i ≡ g i) → term_image (other_number f) t ≡ term_image (other_number g) t
    by (constant c) h = refl
    by (unknown (named r k v)) h = refl
    by (unknown (numbered n)) h = ap (λ m. unknown (numbered m)) (h n refl)

pub shown_same : (f g : ℕ → ℕ) (x : Fact) → ((i : ℕ) → HasNumber x i → f i ≡ g i) → renumbered f x ≡ renumbered g x
shown_same f g x agree = let terms = same_terms f g x.terms agree in λ i. record { relation = x.relation; terms = terms i }

-- by numbers that lead back they are what they were
back_terms : (f g : ℕ → ℕ) (ts : List Term) → ((i : ℕ) → Contains ts (unknown (numbered i)) → g (f i) ≡ i) → other_terms g (other_terms f ts) ≡ ts
back_terms f g [] back = refl
back_terms f g (t ∷ ts) back =
    let first = by t (λ i e. back i (subst (λ x. Contains (t ∷ ts) x) e (Contains-head t ts))) in
    let rest = back_terms f g ts (λ i c. back i (Contains-cons t (unknown (numbered i)) ts c)) in
    λ i. first i ∷ rest i
  where
    by : (t : Term) → ((i : ℕ) → t ≡ unknown (numbered i) → g (f i) ≡ i) → term_image (other_number g) (term_image (other_number f) t) ≡ t
    by (constant c) h = refl
    by (unknown (named r k v)) h = refl
    by (unknown (numbered n)) h = ap (λ m. unknown (numbered m)) (h n refl)

pub shown_back : (f g : ℕ → ℕ) (x : Fact) → ((i : ℕ) → HasNumber x i → g (f i) ≡ i) → renumbered g (renumbered f x) ≡ x
shown_back f g x back = let terms = back_terms f g x.terms back in λ i. record { relation = x.relation; terms = terms i }

-- a number of what is shown is that of a number
number_terms : (f : ℕ → ℕ) (ts : List Term) (i : ℕ) → Contains ts (unknown (numbered i)) → Contains (other_terms f ts) (unknown (numbered (f i)))
number_terms f ts i c = Contains-map (term_image (other_number f)) ts (unknown (numbered i)) c

pub number_shown : (f : ℕ → ℕ) (x : Fact) (i : ℕ) → HasNumber x i → HasNumber (renumbered f x) (f i)
number_shown f x i c = number_terms f x.terms i c

abbrev pub number_or : ℕ → Term → ℕ
number_or n (constant c) = n
number_or n (unknown (numbered m)) = m
number_or n (unknown (named r f v)) = n

pub number_from : (f : ℕ → ℕ) (x : Fact) (n : ℕ) → HasNumber (renumbered f x) n → (i : ℕ) × HasNumber x i × (f i ≡ n)
number_from f x n c =
    let t = Contains-from_map (term_image (other_number f)) x.terms (unknown (numbered n)) c in
    by t.0 t.1 t.2
  where
    by : (t : Term) → Contains x.terms t → term_image (other_number f) t ≡ unknown (numbered n) → (i : ℕ) × HasNumber x i × (f i ≡ n)
    by (constant c) has e = absurd cc
    by (unknown (named r k v)) has e = absurd cc
    by (unknown (numbered i)) has e = (i, has, ap (number_or n) e)

-- what an inner number shows
pub inward_is : (numbers : Numbers) (number inner : ℕ) → inner_of numbers number ≡ Some inner → inward numbers number ≡ inner
inward_is numbers number inner e = ap (λ (o : Option ℕ). unwrap_or o (length numbers.outer.items)) e

pub inner_back : (numbers : Numbers) → AreOwn numbers → (x : Fact)
    → ((inner : ℕ) → HasNumber x inner → (number : ℕ) × (inner_of numbers number ≡ Some inner))
    → renumbered (inward numbers) (renumbered (outward numbers) x) ≡ x
inner_back numbers own x have = shown_back (outward numbers) (inward numbers) x (λ i c.
    let n = have i c in
    ap (inward numbers) (own n.0 i n.1).1 ∙ inward_is numbers n.0 i n.1)

pub outer_back : (numbers : Numbers) → AreOwn numbers → (y : Fact) → AreTaken numbers y
    → renumbered (outward numbers) (renumbered (inward numbers) y) ≡ y
outer_back numbers own y taken = shown_back (inward numbers) (outward numbers) y (λ n c.
    let i = taken n c in
    ap (outward numbers) (inward_is numbers n i.0 i.1) ∙ (own n i.0 i.1).1)

-- a number whose inner one stands for a number has one
taken_from : (numbers : Numbers) → AreOwn numbers → (n m : ℕ) → inner_of numbers m ≡ Some (inward numbers n) → IsTaken numbers n
taken_from numbers own n m e = by (inner_of numbers n) refl
  where
    by : (o : Option ℕ) → inner_of numbers n ≡ o → IsTaken numbers n
    by (Some i) is = (i, is)
    by None is =
        let past : inward numbers n ≡ length numbers.outer.items = ap (λ (o : Option ℕ). unwrap_or o (length numbers.outer.items)) is in
        absurd (omega (arith, past, (own m (inward numbers n) e).0))

-- a fact is shown where its inner fact is there, and the other way
module _ (numbers : Numbers) (own : AreOwn numbers) (facts : List Fact) (have : HaveInner numbers facts) where
  pub shown_there : (y : Fact) → Contains facts (renumbered (inward numbers) y) → Contains (map (renumbered (outward numbers)) facts) y
  shown_there y c =
      subst (Contains (map (renumbered (outward numbers)) facts))
      (outer_back numbers own y (λ n has.
      let m = have (renumbered (inward numbers) y) (inward numbers n) c (number_shown (inward numbers) y n has) in
      taken_from numbers own n m.0 m.1))
      (Contains-map (renumbered (outward numbers)) facts (renumbered (inward numbers) y) c)

  pub shown_found : (y : Fact) → Contains (map (renumbered (outward numbers)) facts) y → Contains facts (renumbered (inward numbers) y)
  shown_found y c =
      let x = Contains-from_map (renumbered (outward numbers)) facts y c in
      subst (Contains facts) (sym (inner_back numbers own x.0 (λ i has. have x.0 i x.1 has)) ∙ ap (renumbered (inward numbers)) x.2) x.1

-- numbers that have more inner ones show the same
pub kept_shown : (old new : Numbers) → AreOwn old → AreOwn new → KeepsInner old new → (facts : List Fact) → HaveInner old facts
    → (x : Fact) → Contains facts x → renumbered (outward new) x ≡ renumbered (outward old) x
kept_shown old new own_old own_new kept facts have x c = shown_same (outward new) (outward old) x (λ i has.
    let n = have x i c has in
    (own_new n.0 i (kept n.0 i n.1)).1 ∙ sym (own_old n.0 i n.1).1)

pub kept_inner : (old new : Numbers) → KeepsInner old new → (facts : List Fact) → HaveInner old facts → HaveInner new facts
kept_inner old new kept facts have x i c has = let n = have x i c has in (n.0, kept n.0 i n.1)

-- one fact more
module _ (old new : Numbers) (own_old : AreOwn old) (own_new : AreOwn new) (kept : KeepsInner old new) (facts after : List Fact)
    (have : HaveInner old facts) (y : Fact) (taken : AreTaken new y) (more : HoldsAlso facts (renumbered (inward new) y) after) where
  pub more_inner : HaveInner new after
  more_inner x i c has = elim ((more x).0 c) [
    | inl d ↦ kept_inner old new kept facts have x i d has
    | inr e ↦
        let m = number_from (inward new) y i (subst (λ z. HasNumber z i) (sym e) has) in
        let j = taken m.0 m.1 in
        (m.0, j.1 ∙ ap (λ k. Some k) (sym (inward_is new m.0 j.0 j.1) ∙ m.2))
  ]

  pub more_shown : HoldsAlso (map (renumbered (outward old)) facts) y (map (renumbered (outward new)) after)
  more_shown fact = (
    λ c.
        let x = Contains-from_map (renumbered (outward new)) after fact c in
        elim ((more x.0).0 x.1) [
          | inl d ↦ inl (subst (Contains (map (renumbered (outward old)) facts))
              (sym (kept_shown old new own_old own_new kept facts have x.0 d) ∙ x.2)
              (Contains-map (renumbered (outward old)) facts x.0 d))
          | inr e ↦ inr (sym (outer_back new own_new y taken) ∙ ap (renumbered (outward new)) e ∙ x.2)
        ],
    λ c. elim c [
      | inl d ↦
          let x = Contains-from_map (renumbered (outward old)) facts fact d in
          subst (Contains (map (renumbered (outward new)) after)) (kept_shown old new own_old own_new kept facts have x.0 x.1 ∙ x.2)
          (Contains-map (renumbered (outward new)) after x.0 ((more x.0).1 (inl x.1)))
      | inr e ↦
          subst (Contains (map (renumbered (outward new)) after)) (outer_back new own_new y taken ∙ e)
          (Contains-map (renumbered (outward new)) after (renumbered (inward new) y) ((more (renumbered (inward new) y)).1 (inr refl)))
    ],
  )

-- what becomes of the number that is replaced, and of the others
same_number : (n : ℕ) → nat_cmp n n ≡ Equal
same_number n = grind (arith, nat_tests)

becomes_here : (g : ℕ) (by : Term) → becomes text_cmp (record { gone = numbered g; by = by }) (numbered g) ≡ by
becomes_here g by = ap (λ o. if_equal o by (unknown (numbered g))) (same_number g)

becomes_other : (g i : ℕ) (by : Term) → i ≢ g → becomes text_cmp (record { gone = numbered g; by = by }) (numbered i) ≡ unknown (numbered i)
becomes_other g i by apart = pick (nat_cmp i g) refl
  where
    pick : (o : Ordering) → nat_cmp i g ≡ o → if_equal (nat_cmp i g) by (unknown (numbered i)) ≡ unknown (numbered i)
    pick Less e = ap (λ o. if_equal o by (unknown (numbered i))) e
    pick Equal e = absurd (apart (nat_cmp-IsAntisymmetric i g e))
    pick Greater e = ap (λ o. if_equal o by (unknown (numbered i))) e

-- the terms of inner numbers with one replaced show those of outer numbers with one replaced
module _ (f h : ℕ → ℕ) (g n : ℕ) (by outer_by : Term) where
  abbrev inner_r : Replacement (List ℕ)
  inner_r = record { gone = numbered g; by = by }

  abbrev outer_r : Replacement (List ℕ)
  outer_r = record { gone = numbered n; by = outer_by }

  -- each number is shown as it is to be
  abbrev Agrees : ℕ → Type 0
  Agrees i = term_image (other_number h) (becomes text_cmp inner_r (numbered i)) ≡ becomes text_cmp outer_r (numbered (f i))

  replaced_terms : (ts : List Term) → ((i : ℕ) → Contains ts (unknown (numbered i)) → Agrees i)
      → other_terms h (map (term_image (becomes text_cmp inner_r)) ts) ≡ map (term_image (becomes text_cmp outer_r)) (other_terms f ts)
  replaced_terms [] agree = refl
  replaced_terms (t ∷ ts) agree =
      let first = one t (λ i e. agree i (subst (λ x. Contains (t ∷ ts) x) e (Contains-head t ts))) in
      let rest = replaced_terms ts (λ i c. agree i (Contains-cons t (unknown (numbered i)) ts c)) in
      λ i. first i ∷ rest i
    where
      one : (t : Term) → ((i : ℕ) → t ≡ unknown (numbered i) → Agrees i)
          → term_image (other_number h) (term_image (becomes text_cmp inner_r) t) ≡ term_image (becomes text_cmp outer_r) (term_image (other_number f) t)
      one (constant c) e = refl
      one (unknown (named r k v)) e = refl
      one (unknown (numbered i)) e = e i refl

  pub replaced_shown : (x : Fact) → ((i : ℕ) → HasNumber x i → Agrees i)
      → renumbered h (replaced_fact text_cmp inner_r x) ≡ replaced_fact text_cmp outer_r (renumbered f x)
  replaced_shown x agree = let terms = replaced_terms x.terms agree in λ i. record { relation = x.relation; terms = terms i }

  -- and so do the facts
  pub replaced_hold : (facts after : List Fact) → HoldTheSame after (map (replaced_fact text_cmp inner_r) facts)
      → ((x : Fact) (i : ℕ) → Contains facts x → HasNumber x i → Agrees i)
      → HoldTheSame (map (renumbered h) after) (map (replaced_fact text_cmp outer_r) (map (renumbered f) facts))
  replaced_hold facts after same agree fact = (
    λ c.
        let y = Contains-from_map (renumbered h) after fact c in
        let x = Contains-from_map (replaced_fact text_cmp inner_r) facts y.0 ((same y.0).0 y.1) in
        subst (Contains (map (replaced_fact text_cmp outer_r) (map (renumbered f) facts)))
        (sym (replaced_shown x.0 (λ i has. agree x.0 i x.1 has)) ∙ ap (renumbered h) x.2 ∙ y.2)
        (Contains-map (replaced_fact text_cmp outer_r) (map (renumbered f) facts) (renumbered f x.0) (Contains-map (renumbered f) facts x.0 x.1)),
    λ c.
        let y = Contains-from_map (replaced_fact text_cmp outer_r) (map (renumbered f) facts) fact c in
        let x = Contains-from_map (renumbered f) facts y.0 y.1 in
        subst (Contains (map (renumbered h) after))
        (replaced_shown x.0 (λ i has. agree x.0 i x.1 has) ∙ ap (replaced_fact text_cmp outer_r) x.2 ∙ y.2)
        (Contains-map (renumbered h) after (replaced_fact text_cmp inner_r x.0)
        ((same (replaced_fact text_cmp inner_r x.0)).1 (Contains-map (replaced_fact text_cmp inner_r) facts x.0 x.1))),
  )

-- a number of a fact with one replaced is another of the fact, or comes with the replacement
pub number_after : (g : ℕ) (by : Term) (x : Fact) (j : ℕ) → HasNumber (replaced_fact text_cmp (record { gone = numbered g; by = by }) x) j
    → (HasNumber x j × (j ≢ g)) ⊎ (by ≡ unknown (numbered j))
number_after g by x j c =
    let t = Contains-from_map (term_image (becomes text_cmp (record { gone = numbered g; by = by }))) x.terms (unknown (numbered j)) c in
    one t.0 t.1 t.2
  where
    one : (t : Term) → Contains x.terms t → term_image (becomes text_cmp (record { gone = numbered g; by = by })) t ≡ unknown (numbered j)
        → (HasNumber x j × (j ≢ g)) ⊎ (by ≡ unknown (numbered j))
    one (constant c) has e = absurd cc
    one (unknown (named r k v)) has e = absurd cc
    one (unknown (numbered i)) has e = elim (eqb_tells i g) [
      | inl k ↦ inr (sym (becomes_here g by) ∙ ap (λ m. becomes text_cmp (record { gone = numbered g; by = by }) (numbered m)) (sym k.1) ∙ e)
      | inr k ↦
          let is : unknown (numbered i) ≡ unknown (numbered j) = sym (becomes_other g i by k.1) ∙ e in
          let same : i ≡ j = ap (number_or i) is in
          inl (subst (λ t. Contains x.terms t) is has, λ e2. k.1 (same ∙ e2))
    ]

-- two that one number has are one
one_inner : (numbers : Numbers) (n i j : ℕ) → inner_of numbers n ≡ Some i → inner_of numbers n ≡ Some j → i ≡ j
one_inner numbers n i j e f = ap (λ (o : Option ℕ). unwrap_or o i) (sym e ∙ f)

-- the inner number of the one that is gone was replaced
module _ (old new : Numbers) (own_old : AreOwn old) (own_new : AreOwn new) (kept : KeepsInner old new) (facts after : List Fact)
    (have : HaveInner old facts) (gone g : ℕ) (given : inner_of new gone ≡ Some g) (by outer_by : Term)
    (shown_by : term_image (other_number (outward new)) by ≡ outer_by)
    (have_by : (j : ℕ) → by ≡ unknown (numbered j) → (n : ℕ) × (inner_of new n ≡ Some j))
    (same : HoldTheSame after (map (replaced_fact text_cmp (record { gone = numbered g; by = by })) facts)) where
  gone_agrees : (x : Fact) (i : ℕ) → Contains facts x → HasNumber x i → Agrees (outward old) (outward new) g gone by outer_by i
  gone_agrees x i c has =
      let n = have x i c has in
      let shown_old = (own_old n.0 i n.1).1 in
      let shown_new = (own_new n.0 i (kept n.0 i n.1)).1 in
      elim (eqb_tells i g) [
        | inl k ↦
            let is_gone : outward old i ≡ gone = shown_old ∙ sym shown_new ∙ ap (outward new) k.1 ∙ (own_new gone g given).1 in
            ap (λ m. term_image (other_number (outward new)) (becomes text_cmp (record { gone = numbered g; by = by }) (numbered m))) k.1
            ∙ ap (term_image (other_number (outward new))) (becomes_here g by) ∙ shown_by
            ∙ sym (becomes_here gone outer_by)
            ∙ ap (λ m. becomes text_cmp (record { gone = numbered gone; by = outer_by }) (numbered m)) (sym is_gone)
        | inr k ↦
            let not_gone : outward old i ≢ gone = λ e.
            k.1 (one_inner new gone i g (subst (λ m. inner_of new m ≡ Some i) (sym shown_old ∙ e) (kept n.0 i n.1)) given) in
            ap (term_image (other_number (outward new))) (becomes_other g i by k.1)
            ∙ ap (λ m. unknown (numbered m)) (shown_new ∙ sym shown_old)
            ∙ sym (becomes_other gone (outward old i) outer_by not_gone)
      ]

  gone_inner : HaveInner new after
  gone_inner y j c has =
      let x = Contains-from_map (replaced_fact text_cmp (record { gone = numbered g; by = by })) facts y ((same y).0 c) in
      elim (number_after g by x.0 j (subst (λ z. HasNumber z j) (sym x.2) has)) [
        | inl k ↦ let n = have x.0 j x.1 k.0 in (n.0, kept n.0 j n.1)
        | inr e ↦ have_by j e
      ]

  pub gone_replaces : Replaces (record { gone = numbered gone; by = outer_by }) old facts new after
  gone_replaces = record {
    own = own_new;
    inner = gone_inner;
    shown = replaced_hold (outward old) (outward new) g gone by outer_by facts after same gone_agrees;
  }

-- the inner number of the one that is kept was replaced, and the other renamed
module _ (old mid new : Numbers) (own_old : AreOwn old) (own_mid : AreOwn mid) (keeps : KeepsInner old mid) (facts after : List Fact)
    (have : HaveInner old facts) (gone kept g h : ℕ) (given_g : inner_of mid gone ≡ Some g) (given_h : inner_of mid kept ≡ Some h)
    (apart : gone ≢ kept) (renames : Renames mid gone kept g new)
    (same : HoldTheSame after (map (replaced_fact text_cmp (record { gone = numbered h; by = unknown (numbered g) })) facts)) where
  kept_agrees : (x : Fact) (i : ℕ) → Contains facts x → HasNumber x i
      → Agrees (outward old) (outward new) h gone (unknown (numbered g)) (unknown (numbered kept)) i
  kept_agrees x i c has =
      let n = have x i c has in
      let in_mid = keeps n.0 i n.1 in
      let shown_old = (own_old n.0 i n.1).1 in
      let shown_mid = (own_mid n.0 i in_mid).1 in
      let here = λ (m : ℕ). becomes text_cmp (record { gone = numbered h; by = unknown (numbered g) }) (numbered m) in
      let there = λ (m : ℕ). becomes text_cmp (record { gone = numbered gone; by = unknown (numbered kept) }) (numbered m) in
      elim (eqb_tells i h) [
        | inl k ↦
            let is_kept : outward old i ≡ kept = shown_old ∙ sym shown_mid ∙ ap (outward mid) k.1 ∙ (own_mid kept h given_h).1 in
            ap (λ m. term_image (other_number (outward new)) (here m)) k.1
            ∙ ap (term_image (other_number (outward new))) (becomes_here h (unknown (numbered g)))
            ∙ ap (λ m. unknown (numbered m)) renames.shown
            ∙ sym (becomes_other gone kept (unknown (numbered kept)) (λ e. apart (sym e)))
            ∙ ap there (sym is_kept)
        | inr k ↦ ap (term_image (other_number (outward new))) (becomes_other h i (unknown (numbered g)) k.1) ∙ elim (eqb_tells i g) [
          | inl l ↦
              let is_gone : outward old i ≡ gone = shown_old ∙ sym shown_mid ∙ ap (outward mid) l.1 ∙ (own_mid gone g given_g).1 in
              ap (λ m. unknown (numbered (outward new m))) l.1 ∙ ap (λ m. unknown (numbered m)) renames.shown
              ∙ sym (becomes_here gone (unknown (numbered kept)))
              ∙ ap there (sym is_gone)
          | inr l ↦
              let not_gone : outward old i ≢ gone = λ e.
              l.1 (one_inner mid gone i g (subst (λ m. inner_of mid m ≡ Some i) (sym shown_old ∙ e) in_mid) given_g) in
              ap (λ m. unknown (numbered m)) (renames.others i l.1 ∙ shown_mid ∙ sym shown_old)
              ∙ sym (becomes_other gone (outward old i) (unknown (numbered kept)) not_gone)
        ]
      ]

  kept_inner_too : HaveInner new after
  kept_inner_too y j c has =
      let x = Contains-from_map (replaced_fact text_cmp (record { gone = numbered h; by = unknown (numbered g) })) facts y ((same y).0 c) in
      elim (number_after h (unknown (numbered g)) x.0 j (subst (λ z. HasNumber z j) (sym x.2) has)) [
        | inl k ↦ elim (eqb_tells j g) [
          | inl l ↦ (kept, renames.here ∙ ap (λ m. Some m) (sym l.1))
          | inr l ↦
              let n = have x.0 j x.1 k.0 in
              let in_mid = keeps n.0 j n.1 in (
                n.0,
                renames.rest n.0
                    (λ e. k.1 (one_inner mid kept j h (subst (λ m. inner_of mid m ≡ Some j) e in_mid) given_h))
                    (λ e. l.1 (one_inner mid gone j g (subst (λ m. inner_of mid m ≡ Some j) e in_mid) given_g))
                    ∙ in_mid,
              )
        ]
        | inr e ↦ let is : g ≡ j = ap (number_or g) e in (kept, renames.here ∙ ap (λ m. Some m) is)
      ]

  pub kept_replaces : Replaces (record { gone = numbered gone; by = unknown (numbered kept) }) old facts new after
  kept_replaces = record {
    own = renames.own;
    inner = kept_inner_too;
    shown = replaced_hold (outward old) (outward new) h gone (unknown (numbered g)) (unknown (numbered kept)) facts after same kept_agrees;
  }

-- a number that is given an inner one
pub given_own : (old new : Numbers) (number : ℕ) → AreOwn old → new.outer.items ≡ old.outer.items ++ number ∷ []
    → inner_of new number ≡ Some (length old.outer.items)
    → ((other : ℕ) → nat_eq number other ≡ false → inner_of new other ≡ inner_of old other) → AreOwn new
given_own old new number own longer given others n i e = elim (eqb_tells number n) [
  | inl k ↦
      let last : i ≡ length old.outer.items = one_inner new n i (length old.outer.items) e (ap (inner_of new) (sym k.1) ∙ given) in (
        let size : length new.outer.items ≡ length old.outer.items + 1 = ap length longer ∙ length-append old.outer.items (number ∷ []) in
            omega (arith, last, size),
        ap (λ l. get_or l i 0) longer ∙ ap (λ j. get_or (old.outer.items ++ number ∷ []) j 0) last
            ∙ get_or-append_seam old.outer.items number [] 0 ∙ k.1,
      )
  | inr k ↦
      let was = own n i (sym (others n k.0) ∙ e) in (
        let size : length new.outer.items ≡ length old.outer.items + 1 = ap length longer ∙ length-append old.outer.items (number ∷ []) in
            omega (arith, was.0, size),
        ap (λ l. get_or l i 0) longer ∙ get_or_append_left old.outer.items (number ∷ []) 0 i was.0 ∙ was.1,
      )
]

-- an inner number that comes to stand for another
pub renamed : (old new : Numbers) (gone kept inner : ℕ) → AreOwn old → inner_of old gone ≡ Some inner
    → new.outer.items ≡ slice_set old.outer.items inner kept → inner_of new kept ≡ Some inner
    → ((n : ℕ) → n ≢ kept → inner_of new n ≡ cond (nat_eq gone n) None (inner_of old n)) → Renames old gone kept inner new
renamed old new gone kept inner own given is_set there rest =
    let within = (own gone inner given).0 in
    let size : length new.outer.items ≡ length old.outer.items = ap length is_set ∙ length-set old.outer.items inner kept in
    let shows : outward new inner ≡ kept = ap (λ l. get_or l inner 0) is_set ∙ get_or-set_same old.outer.items inner kept 0 within in
    let shows_other : (i : ℕ) → i ≢ inner → outward new i ≡ outward old i = λ i apart.
    ap (λ l. get_or l i 0) is_set ∙ get_or-set_other old.outer.items inner i kept 0 apart in
    record {
      own = λ n i e. elim (eqb_tells kept n) [
        | inl k ↦
            let same : i ≡ inner = one_inner new n i inner e (ap (inner_of new) (sym k.1) ∙ there) in
            (omega (arith, same, within, size), ap (outward new) same ∙ shows ∙ k.1)
        | inr k ↦
            let was = rest n (λ x. k.1 (sym x)) in
            elim (eqb_tells gone n) [
              | inl l ↦ let no : None ≡ Some i = sym (ap (λ (b : Bool). cond b None (inner_of old n)) l.0) ∙ sym was ∙ e in absurd cc
              | inr l ↦
                  let before : inner_of old n ≡ Some i = sym (ap (λ (b : Bool). cond b None (inner_of old n)) l.0) ∙ sym was ∙ e in
                  let held = own n i before in
                  let apart : i ≢ inner = λ x. l.1 (sym (own gone inner given).1 ∙ ap (outward old) (sym x) ∙ held.1) in
                  (omega (arith, held.0, size), shows_other i apart ∙ held.1)
            ]
      ];
      here = there;
      shown = shows;
      others = shows_other;
      rest = λ n not_kept not_gone. elim (eqb_tells gone n) [
        | inl l ↦ absurd (not_gone (sym l.1))
        | inr l ↦ rest n not_kept ∙ ap (λ (b : Bool). cond b None (inner_of old n)) l.0
      ];
    }

pub apart_eqb : (m n : ℕ) → m ≢ n → nat_eq m n ≡ false
apart_eqb m n apart = elim (eqb_tells m n) [
  | inl k ↦ absurd (apart k.1)
  | inr k ↦ k.0
]

-- the numbers of the terms so far have inner ones, and those of one more
pub taken_more : {X : Type 0} (term : X → Term) (xs : List X) (i : ℕ) (d : X) → i < length xs → (old new : Numbers)
    → ((n : ℕ) → Contains (map term (take i xs)) (unknown (numbered n)) → IsTaken old n) → KeepsInner old new
    → ((n : ℕ) → term (get_or xs i d) ≡ unknown (numbered n) → IsTaken new n)
    → (n : ℕ) → Contains (map term (take (i + 1) xs)) (unknown (numbered n)) → IsTaken new n
taken_more term xs i d lt old new so_far kept there n c =
    elim (Contains-push_cases (map term (take i xs)) (term (get_or xs i d)) (unknown (numbered n))
    (subst (λ l. Contains l (unknown (numbered n))) (ap (map term) (take_more xs i d lt) ∙ map-append term (take i xs) (get_or xs i d ∷ [])) c)) [
      | inl e ↦ let is = so_far n e in (is.0, kept n is.0 is.1)
      | inr e ↦ there n e
    ]
