-- Names, rows and what they stand for.
use Rattle.std.proofs.Common.{◌≡◌, ℕ, ◌+◌, ◌<◌, true, List, [], ◌∷◌, ◌++◌, ◌&&◌, length, map, take, get_or, drop, refl, sym, ap, ◌∙◌, subst}
use Rattle.std.specs.Prelude.{nat_eq}
use Rattle.std.specs.Cmp.Lexicographic.{pointwise}
use Rattle.std.proofs.lemmas.Bool.{eqb-true, eq-eqb, and_parts}
use Rattle.std.proofs.lemmas.List.{take_more, map-append, get_or-map}
use Rattle.rule_core.specs.Terms.{numbered, named, TermOf, constant, unknown}
use Rattle.failure_trace.specs.declared.trace.Bound.{Bound}
use Rattle.failure_trace.specs.Trace.{names_in}
use Rattle.trace_checker.specs.declared.name.Name.{Name}
use Rattle.trace_checker.specs.declared.name.Name.TheVariants.{Text, Number}
use Rattle.trace_checker.specs.contracts.name.NamePartialEq.TheImpl.{eq-value as name_eq}
use Rattle.trace_checker.specs.Names.{term_named}

-- texts that the program finds equal
same_bytes : (s t : List ℕ) → pointwise nat_eq s t ≡ true → s ≡ t
same_bytes [] [] h = refl
same_bytes [] (y ∷ ys) h = absurd cc
same_bytes (x ∷ xs) [] h = absurd cc
same_bytes (x ∷ xs) (y ∷ ys) h =
    let both = and_parts (nat_eq x y) (pointwise nat_eq xs ys) h in
    let rest = same_bytes xs ys both.1 in
    λ i. eqb-true x y both.0 i ∷ rest i

bytes_are : (s : List ℕ) → pointwise nat_eq s s ≡ true
bytes_are [] = refl
bytes_are (x ∷ xs) = ap (λ b. b && pointwise nat_eq xs xs) (eq-eqb x x refl) ∙ bytes_are xs

abbrev text_or : List ℕ → TermOf (List ℕ) → List ℕ
text_or s (constant c) = c
text_or s (unknown u) = s

abbrev number_or : ℕ → TermOf (List ℕ) → ℕ
number_or n (constant c) = n
number_or n (unknown (numbered m)) = m
number_or n (unknown (named r f v)) = n

-- names that the program finds equal are one term, and the other way
pub same_term : (a b : Name) → name_eq.it a b ≡ true → term_named a ≡ term_named b
same_term (Text s) (Text t) h = ap constant (same_bytes s.now t.now h)
same_term (Text s) (Number n) h = absurd cc
same_term (Number m) (Text t) h = absurd cc
same_term (Number m) (Number n) h = ap (λ k. unknown (numbered k)) (eqb-true m n h)

pub equal_names : (a b : Name) → term_named a ≡ term_named b → name_eq.it a b ≡ true
equal_names (Text s) (Text t) h =
    subst (λ x. pointwise nat_eq s.now x ≡ true) (ap (text_or s.now) h) (bytes_are s.now)
equal_names (Text s) (Number n) h = absurd cc
equal_names (Number m) (Text t) h = absurd cc
equal_names (Number m) (Number n) h = eq-eqb m n (ap (number_or m) h)

-- so are lists of them
pub same_terms : (xs ys : List Name) → pointwise name_eq.it xs ys ≡ true → map term_named xs ≡ map term_named ys
same_terms [] [] h = refl
same_terms [] (b ∷ ys) h = absurd cc
same_terms (a ∷ xs) [] h = absurd cc
same_terms (a ∷ xs) (b ∷ ys) h =
    let both = and_parts (name_eq.it a b) (pointwise name_eq.it xs ys) h in
    let rest = same_terms xs ys both.1 in
    λ i. same_term a b both.0 i ∷ rest i

pub equal_lists : (xs ys : List Name) → map term_named xs ≡ map term_named ys → pointwise name_eq.it xs ys ≡ true
equal_lists [] [] h = refl
equal_lists [] (b ∷ ys) h = absurd cc
equal_lists (a ∷ xs) [] h = absurd cc
equal_lists (a ∷ xs) (b ∷ ys) h =
    let first = equal_names a b (ap (λ l. get_or l 0 (term_named a)) h) in
    let rest = equal_lists xs ys (ap (drop 1) h) in
    λ i. first i && rest i

pub map_twice : {X Y Z : Type 0} (f : Y → Z) (g : X → Y) (xs : List X) → map f (map g xs) ≡ map (λ x. f (g x)) xs
map_twice f g [] = refl
map_twice f g (x ∷ xs) = ap (λ l. f (g x) ∷ l) (map_twice f g xs)

-- one image more
pub map_pushed_at : {X A Y : Type 0} (f : A → Y) (g : X → Y) (xs : List X) (i : ℕ) (d : X) → i < length xs
    → (old new : List A) (a : A) → map f old ≡ map g (take i xs) → new ≡ old ++ a ∷ [] → f a ≡ g (get_or xs i d)
    → map f new ≡ map g (take (i + 1) xs)
map_pushed_at f g xs i d lt old new a so_far is e =
    ap (map f) is ∙ map-append f old (a ∷ []) ∙ (λ j. so_far j ++ e j ∷ [])
    ∙ sym (map-append g (take i xs) (get_or xs i d ∷ [])) ∙ ap (map g) (sym (take_more xs i d lt))

-- one name more
pub names_more : (b : List Bound) (v : List (List ℕ)) (i : ℕ) (x : Bound) (y : List ℕ) → i < length b → i < length v
    → x ≡ get_or b i x → y ≡ get_or v i y → x.name ≡ y → names_in (take i b) ≡ take i v → names_in (take (i + 1) b) ≡ take (i + 1) v
names_more b v i x y lb lv ax ay e so_far =
    ap names_in (take_more b i x lb) ∙ map-append (λ (z : Bound). z.name) (take i b) (get_or b i x ∷ [])
    ∙ (λ j. so_far j ++ (ap (λ (z : Bound). z.name) (sym ax) ∙ e ∙ ay) j ∷ []) ∙ sym (take_more v i y lv)

-- where one differs
pub names_differ : (b : List Bound) (v : List (List ℕ)) (i : ℕ) (x : Bound) (y : List ℕ) → i < length b
    → x ≡ get_or b i x → y ≡ get_or v i y → ¬ (x.name ≡ y) → ¬ (names_in b ≡ v)
names_differ b v i x y lb ax ay differ e =
    differ (ap (λ (z : Bound). z.name) ax ∙ sym (get_or-map (λ (z : Bound). z.name) b i x y lb) ∙ ap (λ l. get_or l i y) e ∙ sym ay)
