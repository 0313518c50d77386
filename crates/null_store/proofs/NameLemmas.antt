-- Names in a list to which names are added, each once.
use Rattle.std.proofs.Common.{◌≡◌, ◌==◌, ◌&&◌, ◌||◌, suc, ◌<◌, Bool, true, false, true≢false, Some, List, [], ◌∷◌, ◌++◌, length, map, get_or, refl, sym, ap, ◌∙◌, subst, arith, if◌then◌else◌, ⊎_elim, Contains}
use Rattle.std.specs.Prelude.{slice_get}
use Rattle.std.specs.Cmp.Lexicographic.{pointwise}
use Rattle.std.proofs.lemmas.Bool.{eqb-true, eq-eqb, and_parts}
use Rattle.term_core.specs.declared.const_id.ConstId.{ConstId}
use Rattle.term_core.specs.contracts.const_id.ConstIdPartialEq.TheImpl.{eq-value as id_eq}
use Rattle.null_store.specs.declared.names.Name.{Name}
use Rattle.null_store.specs.contracts.names.NamePartialEq.TheImpl.{eq-value as name_eq}
use Rattle.null_store.specs.Store.{NameOf, AreDistinct}
use Rattle.null_store.specs.Changes.{AddsOnce}
use Rattle.null_store.specs.Layout.{name_of}
use Rattle.null_store.proofs.ListLemmas.{contains_from_at, pushed_at}
use Rattle.std.specs.List.{list_any}
use Rattle.std.proofs.lemmas.List.{map-append, append-nil, get_or-map, length-map}
use Rattle.std.proofs.lemmas.List.Folds.{list_any_at}
use Rattle.indexmap.specs.IndexSet.{insert_key}

-- the keys stay, and what is added stands behind them
pub keys_stay : {X Y : Type 0} (f : X → Y) (eq : X → X → Bool) (keys new : List X) (key : X) → new ≡ insert_key eq keys key
    → (more : List Y) × (map f new ≡ map f keys ++ more)
keys_stay {X} {Y} f eq keys new key e = by (list_any (eq key) keys) refl
  where
    by : (b : Bool) → list_any (eq key) keys ≡ b → (more : List Y) × (map f new ≡ map f keys ++ more)
    by true h = ([], ap (map f) (e ∙ ap (λ (b : Bool). if b then keys else keys ++ key ∷ []) h) ∙ sym (append-nil (map f keys)))
    by false h = (f key ∷ [], ap (map f) (e ∙ ap (λ (b : Bool). if b then keys else keys ++ key ∷ []) h) ∙ map-append f keys (key ∷ []))

-- the program finds lists of constants equal only where they are
pub same_constants : (xs ys : List ConstId) → pointwise id_eq.it xs ys ≡ true → xs ≡ ys
same_constants [] [] h = refl
same_constants [] (y ∷ ys) h = absurd (true≢false (sym h))
same_constants (x ∷ xs) [] h = absurd (true≢false (sym h))
same_constants (x ∷ xs) (y ∷ ys) h =
    let both = and_parts (id_eq.it x y) (pointwise id_eq.it xs ys) h in
    let number = eqb-true x.0 y.0 both.0 in
    let rest = same_constants xs ys both.1 in
    λ i. record { 0 = number i } ∷ rest i

-- and a name that it finds equal to another is the same to callers
pub same_names : (a b : Name) → name_eq.it a b ≡ true → name_of b ≡ name_of a
same_names a b h =
    let both = and_parts (a.rule == b.rule) (pointwise id_eq.it a.frontier.items b.frontier.items) h in
    let rule = eqb-true a.rule b.rule both.0 in
    let frontier = same_constants a.frontier.items b.frontier.items both.1 in
    sym (λ i. record { rule = rule i; frontier = frontier i })

-- the program finds a list of constants, and a name, equal to what is the same
constants_are : (xs : List ConstId) → pointwise id_eq.it xs xs ≡ true
constants_are [] = refl
constants_are (x ∷ xs) = ap (λ b. b && pointwise id_eq.it xs xs) (eq-eqb x.0 x.0 refl) ∙ constants_are xs

pub equal_names : (a b : Name) → name_of b ≡ name_of a → name_eq.it a b ≡ true
equal_names a b e =
    let rule = eq-eqb a.rule b.rule (sym (ap (λ (n : NameOf). n.rule) e)) in
    let frontier = subst (λ (f : List ConstId). pointwise id_eq.it a.frontier.items f ≡ true)
    (sym (ap (λ (n : NameOf). n.frontier) e)) (constants_are a.frontier.items) in
    ap (λ w. w && pointwise id_eq.it a.frontier.items b.frontier.items) rule ∙ frontier

-- the program finds a name among others exactly where it is one of them
found_among : (keys : List Name) (key : Name) → list_any (name_eq.it key) keys ≡ true → Contains (map name_of keys) (name_of key)
found_among [] key h = absurd (true≢false (sym h))
found_among (k ∷ keys) key h = by (found_among keys key) (name_eq.it key k) refl
  where
    by : (list_any (name_eq.it key) keys ≡ true → Contains (map name_of keys) (name_of key)) → (b : Bool) → name_eq.it key k ≡ b
        → Contains (map name_of (k ∷ keys)) (name_of key)
    by rest true e = (0, omega arith, same_names key k e)
    by rest false e =
        let c = rest (sym (ap (λ b. b || list_any (name_eq.it key) keys) e) ∙ h) in
        (suc c.0, omega (arith, c.1), c.2)

among_found : (keys : List Name) (key : Name) → Contains (map name_of keys) (name_of key) → list_any (name_eq.it key) keys ≡ true
among_found keys key c =
    let inside : c.0 < length keys = omega (arith, c.1, length-map keys name_of) in
    list_any_at (name_eq.it key) keys c.0 key inside
    (equal_names key (get_or keys c.0 key) (sym (get_or-map name_of keys c.0 key (name_of key) inside) ∙ c.2))

-- names stay distinct as one that is new is added
distinct_more : (names : List NameOf) (name : NameOf) → ¬ (Contains names name) → AreDistinct names → AreDistinct (names ++ name ∷ [])
distinct_more names name none distinct j k n p q = ⊎_elim
    (λ (a : slice_get names j ≡ Some n). ⊎_elim
    (λ (b : slice_get names k ≡ Some n). distinct j k n a b)
    (λ (b : (k ≡ length names) × (n ≡ name)). absurd (none (subst (Contains names) b.1 (contains_from_at names j n a))))
    (pushed_at names name n k q))
    (λ (a : (j ≡ length names) × (n ≡ name)). ⊎_elim
    (λ (b : slice_get names k ≡ Some n). absurd (none (subst (Contains names) a.1 (contains_from_at names k n b))))
    (λ (b : (k ≡ length names) × (n ≡ name)). a.0 ∙ sym b.0)
    (pushed_at names name n k q))
    (pushed_at names name n j p)

module _ (keys new : List Name) (key : Name) (is : new ≡ insert_key name_eq.it keys key) where
  abbrev Known : Bool → Type 0
  Known b = list_any (name_eq.it key) keys ≡ b

  known : Known true → map name_of new ≡ map name_of keys
  known h = ap (map name_of) (is ∙ ap (λ (b : Bool). if b then keys else keys ++ key ∷ []) h)

  unknown_yet : Known false → map name_of new ≡ map name_of keys ++ name_of key ∷ []
  unknown_yet h =
      ap (map name_of) (is ∙ ap (λ (b : Bool). if b then keys else keys ++ key ∷ []) h) ∙ map-append name_of keys (key ∷ [])

  -- it is added where it is new, and only there
  pub added_once : AddsOnce (map name_of keys) (map name_of new) (name_of key)
  added_once = record {
    there = λ c. known (among_found keys key c);
    added = λ none. by none (list_any (name_eq.it key) keys) refl;
  }
    where
      by : ¬ (Contains (map name_of keys) (name_of key)) → (b : Bool) → Known b → map name_of new ≡ map name_of keys ++ name_of key ∷ []
      by none true h = absurd (none (found_among keys key h))
      by none false h = unknown_yet h

  pub stay_distinct : AreDistinct (map name_of keys) → AreDistinct (map name_of new)
  stay_distinct distinct = by (list_any (name_eq.it key) keys) refl
    where
      by : (b : Bool) → Known b → AreDistinct (map name_of new)
      by true h = subst AreDistinct (sym (known h)) distinct
      by false h = subst AreDistinct (sym (unknown_yet h)) (distinct_more (map name_of keys) (name_of key)
          (λ c. true≢false (sym (among_found keys key c) ∙ h)) distinct)
