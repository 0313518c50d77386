-- All numbers are the places of all texts, and can be so arranged that the texts of a pool come first.
use Rattle.std.proofs.Common.{◌≡◌, ◌≢◌, ℕ, zero, suc, ◌+◌, ◌<◌, ◌≤◌, List, [], ◌∷◌, length, get_or, cond, eqb, ⊎_elim, Some, refl, sym, ap, subst, ◌∙◌, le_refl, not-suc-le-zero, arith}
use Rattle.std.specs.Prelude.{slice_get}
use Rattle.std.proofs.lemmas.Bool.{cases_eq}
use Rattle.std.proofs.lemmas.Bool.Decides.{nat_tests}
use Rattle.std.proofs.lemmas.Option.{slice_get-get_or}
use Rattle.term_core.specs.declared.const_id.ConstId.{ConstId}
use Rattle.term_core.specs.Pool.{IsBefore, IsPool}
use Rattle.term_core.proofs.PoolLemmas.{before_itself}
use Rattle.rule_core.specs.Renaming.{Renaming}

-- a number, doubled so many times
doubled : ℕ → ℕ → ℕ
doubled zero n = n
doubled (suc a) n = doubled a n + doubled a n

-- the place of a text among all: an odd number for the rest, doubled as often as the first one says
place : List ℕ → ℕ
place [] = zero
place (a ∷ rest) = doubled a (suc (place rest + place rest))

-- the text at twice the place
raised : List ℕ → List ℕ
raised [] = []
raised (a ∷ rest) = suc a ∷ rest

-- the text at the next place
next : List ℕ → List ℕ
next [] = zero ∷ []
next (zero ∷ rest) = raised (next rest)
next (suc a ∷ rest) = zero ∷ a ∷ rest

-- the text at a place
text : ℕ → List ℕ
text zero = []
text (suc n) = next (text n)

-- raising a text doubles its place
place-raised : (l : List ℕ) → place (raised l) ≡ place l + place l
unfolding place raised doubled
place-raised [] = omega arith
place-raised (a ∷ rest) = refl

-- the next text is one place on
place-next : (l : List ℕ) → place (next l) ≡ suc (place l)
unfolding place next doubled
place-next [] = omega arith
place-next (zero ∷ rest) = omega (arith, place-raised (next rest), place-next rest)
place-next (suc a ∷ rest) = refl

-- the text at a place has this place
place-text : (n : ℕ) → place (text n) ≡ n
unfolding text place
place-text zero = refl
place-text (suc n) = place-next (text n) ∙ ap suc (place-text n)

-- one past twice a place stands the text that begins with a zero
next-raised : (l : List ℕ) → next (raised l) ≡ zero ∷ l
unfolding next raised
next-raised [] = refl
next-raised (a ∷ rest) = refl

-- at twice a place stands the raised text
text_twice : (n : ℕ) → text (n + n) ≡ raised (text n)
unfolding text next raised
text_twice zero = let e : zero + zero ≡ zero = omega arith in ap text e
text_twice (suc n) =
    let e : suc n + suc n ≡ suc (suc (n + n)) = omega arith in
    ap text e ∙ ap (λ l. next (next l)) (text_twice n) ∙ ap next (next-raised (text n))

-- so where a place is odd and doubled, the text begins with the count of doublings
text-doubled : (a n : ℕ) (rest : List ℕ) → text n ≡ rest → text (doubled a (suc (n + n))) ≡ a ∷ rest
unfolding text next raised doubled
text-doubled zero n rest e = ap next (text_twice n ∙ ap raised e) ∙ next-raised rest
text-doubled (suc a) n rest e = text_twice (doubled a (suc (n + n))) ∙ ap raised (text-doubled a n rest e)

-- at the place of a text stands the text
text-place : (l : List ℕ) → text (place l) ≡ l
unfolding text place
text-place [] = refl
text-place (a ∷ rest) = text-doubled a (place rest) rest (text-place rest)

-- the number, where two others change places
exchanged : ℕ → ℕ → ℕ → ℕ
exchanged a b n = cond (eqb n a) b (cond (eqb n b) a n)

-- they change back
exchanged_twice : (a b n : ℕ) → exchanged a b (exchanged a b n) ≡ n
unfolding exchanged
exchanged_twice a b n = grind (arith, nat_tests)

-- the first becomes the second
exchanged_first : (a b : ℕ) → exchanged a b a ≡ b
unfolding exchanged
exchanged_first a b = grind (arith, nat_tests)

-- any other number stays
exchanged_other : (a b n : ℕ) → n ≢ a → n ≢ b → exchanged a b n ≡ n
unfolding exchanged
exchanged_other a b n p q = grind (arith, nat_tests)

-- an arrangement after which two numbers change places
exchange : Renaming ℕ ℕ → ℕ → ℕ → Renaming ℕ ℕ
exchange r a b = record {
  to = λ k. exchanged a b (r.to k);
  from = λ m. r.from (exchanged a b m);
  back = λ k. ap r.from (exchanged_twice a b (r.to k)) ∙ r.back k;
  forth = λ m. ap (exchanged a b) (r.forth (exchanged a b m)) ∙ exchanged_twice a b m;
}

module _ (f : ℕ → ℕ) (size : ℕ) (apart : (j k : ℕ) → j < k → k < size → f j ≢ f k) where
  -- an arrangement of all numbers whose first n are as told
  abbrev pub Begun : ℕ → Type 0
  Begun n = (r : Renaming ℕ ℕ) × ((k : ℕ) → k < n → r.to k ≡ f k)

  -- the number at place n and the one that is to stand there change places
  one_more : (n : ℕ) → n < size → Begun n → Begun (suc n)
  unfolding exchange
  one_more n lt (r, same) = (exchange r (r.to n) (f n), told)
    where
      at_last : (k : ℕ) → k ≡ n → exchanged (r.to n) (f n) (r.to k) ≡ f k
      at_last k e = subst (λ m. exchanged (r.to n) (f n) (r.to m) ≡ f m) (sym e) (exchanged_first (r.to n) (f n))

      elsewhere : (k : ℕ) → k < n → r.to k ≢ r.to n
      elsewhere k below e = let back : k ≡ n = sym (r.back k) ∙ ap r.from e ∙ r.back n in omega (arith, below, back)

      earlier : (k : ℕ) → k < n → exchanged (r.to n) (f n) (r.to k) ≡ f k
      earlier k below =
          let new : f k ≢ f n = apart k n below lt in
          exchanged_other (r.to n) (f n) (r.to k) (elsewhere k below) (λ e. new (sym (same k below) ∙ e)) ∙ same k below

      told : (k : ℕ) → k < suc n → exchanged (r.to n) (f n) (r.to k) ≡ f k
      told k below = ⊎_elim (at_last k) (λ other. earlier k (omega (arith, below, other))) (cases_eq k n)

  -- the first n can stand as told, for each n up to the size
  pub begun : (n : ℕ) → n ≤ size → Begun n
  begun zero h = (record { to = λ k. k; from = λ k. k; back = λ k. refl; forth = λ k. refl }, λ k lt. absurd (not-suc-le-zero lt))
  begun (suc n) h = one_more n h (begun n (omega (arith, h)))

module _ (pool : List (List ℕ)) (good : IsPool pool) where
  -- the place of the text that has the number
  place_at : ℕ → ℕ
  place_at k = place (get_or pool k [])

  -- different numbers of the pool have texts at different places
  places_apart : (j k : ℕ) → j < k → k < length pool → place_at j ≢ place_at k
  unfolding place_at
  places_apart j k lt within e =
      let a = get_or pool j [] in
      let b = get_or pool k [] in
      let same : a ≡ b = sym (text-place a) ∙ ap text e ∙ text-place b in
      before_itself b (subst (λ t. IsBefore t b) same (good.order j k [] lt within))

  -- a renaming of numbers to texts that begins with the pool
  abbrev pub BeginsWithPool : Type 0
  BeginsWithPool = (r : Renaming ConstId (List ℕ)) × ((c : ConstId) → c.0 < length pool → slice_get pool c.0 ≡ Some (r.to c))

  -- where the places of its texts come first, the pool does
  by_places : Begun place_at (length pool) places_apart (length pool) → BeginsWithPool
  unfolding place_at
  by_places (r, same) = (
    record {
      to = λ c. text (r.to c.0);
      from = λ t. record { 0 = r.from (place t) };
      back = λ c i. record { 0 = (ap r.from (place-text (r.to c.0)) ∙ r.back c.0) i };
      forth = λ t. ap text (r.forth (place t)) ∙ text-place t;
    },
    λ c within. slice_get-get_or pool c.0 [] within ∙ ap Some (sym (ap text (same c.0 within) ∙ text-place (get_or pool c.0 []))),
  )

  -- some renaming does so
  pub pool_first : BeginsWithPool
  pool_first = by_places (begun place_at (length pool) places_apart (length pool) (le_refl (length pool)))
