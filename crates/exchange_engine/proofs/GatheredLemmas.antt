-- Texts and facts, gathered one after another.
use Rattle.std.proofs.Common.{◌≡◌, ◌↔◌, ◌⊎◌, inl, inr, ℕ, ◌+◌, ◌<◌, ◌≤◌, List, [], ◌∷◌, ◌++◌, Some, length, take, sum_by, sym, ap, ◌∙◌, subst, arith, All, Any, Contains}
use Rattle.std.specs.Prelude.{slice_get, IsPermutation}
use Rattle.std.proofs.lemmas.List.{take_more, take_all, length-append, length-map, length-take, get_or-take, map-append}
use Rattle.std.proofs.lemmas.List.Sorted.{Contains-permutation, IsPermutation-sym, length_permutation}
use Rattle.std.proofs.lemmas.List.Sums.{sum_by_push}
use Rattle.std.proofs.lemmas.List.Elements.{All-get_or, Contains-get_or, Contains-append_left, Contains-push, Contains-push_cases}
use Rattle.std.proofs.lemmas.List.Quantifiers.{Any-push}
use Rattle.std.proofs.lemmas.Option.{slice_get_within, slice_get-map, get_or_from_slice_get}
use Rattle.std.specs.Option.{option_map}
use Rattle.rule_core.proofs.ListLemmas.{Contains-nil, Contains-map, Contains-from_map}
use Rattle.exchange_engine.specs.Gathered.{Gains, texts_of}
use Rattle.exchange_engine.specs.declared.loading.pool.Found.{Found}

-- nothing is added
pub Gains-none : (texts : List (List ℕ)) (IsMore : List ℕ → Type 0) → ((text : List ℕ) → ¬ (IsMore text)) → Gains texts texts IsMore 0
Gains-none texts IsMore none = record {
  texts = λ text. (λ c. inl c, λ h. elim h [ inl c ↦ c | inr m ↦ absurd (none text m) ]);
  few = omega arith;
}

-- one text is added
Gains-one : (texts : List (List ℕ)) (text : List ℕ) → Gains texts (texts ++ text ∷ []) (λ t. t ≡ text) 1
Gains-one texts text = record {
  texts = λ t. (
    λ c. elim (Contains-push_cases texts text t c) [ inl before ↦ inl before | inr same ↦ inr (sym same) ],
    λ h. elim h [
      | inl c ↦ Contains-append_left texts (text ∷ []) t c
      | inr same ↦ subst (Contains (texts ++ text ∷ [])) (sym same) (Contains-push texts text)
    ],
  );
  few = omega (arith, length-append texts (text ∷ []));
}

-- a text that is there is added again
pub Gains-there : (texts : List (List ℕ)) (text : List ℕ) → Contains texts text → Gains texts texts (λ t. t ≡ text) 1
Gains-there texts text there = record {
  texts = λ t. (λ c. inl c, λ h. elim h [ inl c ↦ c | inr same ↦ subst (Contains texts) (sym same) there ]);
  few = omega arith;
}

-- a text that stands before a place
pub stands_before : (texts : List (List ℕ)) (place at : ℕ) (text : List ℕ) → slice_get texts at ≡ Some text → at < place
    → Contains (take place texts) text
stands_before texts place at text here before =
    let within = slice_get_within texts at text here in
    subst (Contains (take place texts)) (get_or-take place texts at text before ∙ get_or_from_slice_get texts at text text here)
    (Contains-get_or (take place texts) at text (omega (arith, length-take place texts, within, before)))

-- the text at the place of what was found
pub text_found : (found : List Found) (i : ℕ) (one : Found) → slice_get found i ≡ Some one → slice_get (texts_of found) i ≡ Some one.text.now
text_found found i one here =
    slice_get-map (λ (f : Found). f.text.now) found i ∙ ap (option_map (λ (f : Found). f.text.now)) here

-- one more text is found
pub Gains-found : (old new : List Found) (one : Found) (text : List ℕ) → one.text.now ≡ text → new ≡ old ++ one ∷ []
    → Gains (texts_of old) (texts_of new) (λ t. t ≡ text) 1
Gains-found old new one text same pushed =
    subst (λ l. Gains (texts_of old) l (λ t. t ≡ text) 1)
    ((λ i. texts_of old ++ sym same i ∷ []) ∙ sym (map-append (λ (f : Found). f.text.now) old (one ∷ [])) ∙ ap texts_of (sym pushed))
    (Gains-one (texts_of old) text)

-- in another order the same texts are found
pub Gains-moved : (old new : List (List ℕ)) (found moved : List Found) (n : ℕ) → IsPermutation found moved
    → Gains old new (Contains (texts_of moved)) n → Gains old new (Contains (texts_of found)) n
Gains-moved old new found moved n order h = record {
  texts = λ text. (
    λ c. elim ((h.texts text).0 c) [ inl o ↦ inl o | inr m ↦ inr (back moved found (IsPermutation-sym found moved order) text m) ],
    λ d. elim d [ inl o ↦ (h.texts text).1 (inl o) | inr m ↦ (h.texts text).1 (inr (back found moved order text m)) ],
  );
  few = h.few;
}
  where
    back : (a b : List Found) → IsPermutation a b → (text : List ℕ) → Contains (texts_of a) text → Contains (texts_of b) text
    back a b p text c =
        let one = Contains-from_map (λ (f : Found). f.text.now) a text c in
        subst (Contains (texts_of b)) one.2 (Contains-map (λ (f : Found). f.text.now) b one.0 (Contains-permutation a b one.0 p one.1))

-- texts are added, and then others
pub Gains-more : (old mid new : List (List ℕ)) (P Q R : List ℕ → Type 0) (m n k : ℕ) → Gains old mid P m → Gains mid new Q n
    → ((text : List ℕ) → R text ↔ (P text ⊎ Q text)) → k ≡ m + n → Gains old new R k
Gains-more old mid new P Q R m n k first second both size = record {
  texts = λ text. (
    λ c. elim ((second.texts text).0 c) [
      | inl before ↦ elim ((first.texts text).0 before) [ inl o ↦ inl o | inr p ↦ inr ((both text).1 (inl p)) ]
      | inr q ↦ inr ((both text).1 (inr q))
    ],
    λ h. elim h [
      | inl o ↦ (second.texts text).1 (inl ((first.texts text).1 (inl o)))
      | inr r ↦ elim ((both text).0 r) [
        | inl p ↦ (second.texts text).1 (inl ((first.texts text).1 (inr p)))
        | inr q ↦ (second.texts text).1 (inr q)
      ]
    ],
  );
  few = omega (arith, first.few, second.few, size);
}

-- the front of a list with one more element
pub front_more : {X : Type 0} (xs : List X) (i : ℕ) (x : X) → slice_get xs i ≡ Some x → take (i + 1) xs ≡ take i xs ++ x ∷ []
front_more xs i x e =
    take_more xs i x (slice_get_within xs i x e) ∙ ap (λ z. take i xs ++ z ∷ []) (get_or_from_slice_get xs i x x e)

-- what holds of each element holds of the one at a place
pub All-at : {X : Type 0} (P : X → Type 0) (xs : List X) (i : ℕ) (x : X) → All P xs → slice_get xs i ≡ Some x → P x
All-at P xs i x all e = subst P (get_or_from_slice_get xs i x x e) (All-get_or P xs i x (slice_get_within xs i x e) all)

Any-push_cases : {X : Type 0} (P : X → Type 0) (xs : List X) (y : X) → Any P (xs ++ y ∷ []) → Any P xs ⊎ P y
Any-push_cases P xs y h = elim (Contains-push_cases xs y h.1 (h.0, h.2, h.3)) [
  | inl c ↦ inl (c.0, h.1, c.1, c.2, h.4)
  | inr e ↦ inr (subst P (sym e) h.4)
]

Any-push_left : {X : Type 0} (P : X → Type 0) (xs : List X) (y : X) → Any P xs → Any P (xs ++ y ∷ [])
Any-push_left P xs y h = let c = Contains-append_left xs (y ∷ []) h.1 (h.0, h.2, h.3) in (c.0, h.1, c.1, c.2, h.4)

-- one more text of a list is added
pub Gains-text : (old mid new texts : List (List ℕ)) (i : ℕ) (text : List ℕ) → slice_get texts i ≡ Some text
    → Gains old mid (Contains (take i texts)) i → Gains mid new (λ t. t ≡ text) 1 → Gains old new (Contains (take (i + 1) texts)) (i + 1)
Gains-text old mid new texts i text e first second =
    subst (λ front. Gains old new (Contains front) (i + 1)) (sym (front_more texts i text e))
    (Gains-more old mid new (Contains (take i texts)) (λ t. t ≡ text) (Contains (take i texts ++ text ∷ [])) i 1 (i + 1) first second
    (λ t. (
      λ c. elim (Contains-push_cases (take i texts) text t c) [ inl before ↦ inl before | inr same ↦ inr (sym same) ],
      λ h. elim h [
        | inl c ↦ Contains-append_left (take i texts) (text ∷ []) t c
        | inr same ↦ subst (Contains (take i texts ++ text ∷ [])) (sym same) (Contains-push (take i texts) text)
      ],
    )) (omega arith))

-- the texts of one more element of a list are added
pub Gains-element : {X : Type 0} (old mid new : List (List ℕ)) (P : X → List ℕ → Type 0) (size : X → ℕ) (xs : List X) (i : ℕ) (x : X)
    → slice_get xs i ≡ Some x → Gains old mid (λ t. Any (λ y. P y t) (take i xs)) (sum_by size (take i xs)) → Gains mid new (P x) (size x)
    → Gains old new (λ t. Any (λ y. P y t) (take (i + 1) xs)) (sum_by size (take (i + 1) xs))
Gains-element old mid new P size xs i x e first second =
    subst (λ front. Gains old new (λ t. Any (λ y. P y t) front) (sum_by size front)) (sym (front_more xs i x e))
    (Gains-more old mid new (λ t. Any (λ y. P y t) (take i xs)) (P x) (λ t. Any (λ y. P y t) (take i xs ++ x ∷ []))
    (sum_by size (take i xs)) (size x) (sum_by size (take i xs ++ x ∷ [])) first second
    (λ t. (
      Any-push_cases (λ y. P y t) (take i xs) x,
      λ h. elim h [ inl before ↦ Any-push_left (λ y. P y t) (take i xs) x before | inr here ↦ Any-push (λ y. P y t) (take i xs) x here ],
    )) (sum_by_push size (take i xs) x))

-- and so all texts of a list are
pub Gains-texts : (old new texts : List (List ℕ)) (i : ℕ) → length texts ≡ i → Gains old new (Contains (take i texts)) i
    → Gains old new (Contains texts) (length texts)
Gains-texts old new texts i size h =
    subst (λ n. Gains old new (Contains texts) n) (sym size)
    (subst (λ front. Gains old new (Contains front) i) (take_all i texts (omega arith)) h)

-- and those of all elements
pub Gains-elements : {X : Type 0} (old new : List (List ℕ)) (P : X → List ℕ → Type 0) (size : X → ℕ) (xs : List X) (i : ℕ) → length xs ≤ i
    → Gains old new (λ t. Any (λ y. P y t) (take i xs)) (sum_by size (take i xs)) → Gains old new (λ t. Any (λ y. P y t) xs) (sum_by size xs)
Gains-elements old new P size xs i end h =
    subst (λ front. Gains old new (λ t. Any (λ y. P y t) front) (sum_by size front)) (take_all i xs end) h

-- the pool of what is gathered from one list, and then from another
pub pool_has : (start mid all : List (List ℕ)) (found moved : List Found) (empty new pool : List (List ℕ)) (P Q : List ℕ → Type 0) (m n k : ℕ)
    → start ≡ [] → Gains start mid P m → Gains mid all Q n → texts_of found ≡ all → IsPermutation found moved → empty ≡ []
    → Gains empty new (Contains (texts_of moved)) k → ((text : List ℕ) → Contains pool text ↔ Contains new text)
    → (text : List ℕ) → Contains pool text ↔ (P text ⊎ Q text)
pool_has start mid all found moved empty new pool P Q m n k none first second is_all order nothing added same text =
    let its = Gains-moved empty new found moved k order added in (
      λ c. elim ((its.texts text).0 ((same text).0 c)) [
        | inl o ↦ absurd (Contains-nil text (subst (λ l. Contains l text) nothing o))
        | inr f ↦ elim ((second.texts text).0 (subst (λ l. Contains l text) is_all f)) [
          | inl before ↦ elim ((first.texts text).0 before) [
            | inl o ↦ absurd (Contains-nil text (subst (λ l. Contains l text) none o))
            | inr p ↦ inl p
          ]
          | inr q ↦ inr q
        ]
      ],
      λ h. (same text).1 ((its.texts text).1 (inr (subst (λ l. Contains l text) (sym is_all) (elim h [
        | inl p ↦ (second.texts text).1 (inl ((first.texts text).1 (inr p)))
        | inr q ↦ (second.texts text).1 (inr q)
      ])))),
    )

-- so many texts are gathered at most
pub few_found : (start mid all : List (List ℕ)) (found moved : List Found) (P Q : List ℕ → Type 0) (m n : ℕ) → start ≡ []
    → Gains start mid P m → Gains mid all Q n → texts_of found ≡ all → IsPermutation found moved → length moved ≤ m + n
few_found start mid all found moved P Q m n none first second is_all order =
    omega (
      arith,
      first.few,
      second.few,
      ap length none,
      ap length is_all,
      length-map found (λ (f : Found). f.text.now),
      length_permutation found moved order,
    )
