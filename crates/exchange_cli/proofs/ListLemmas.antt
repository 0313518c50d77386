-- Lemmas on lists.
use Rattle.std.proofs.Common.{◌≡◌, ℕ, zero, suc, ◌<◌, List, [], ◌∷◌, ◌++◌, length, get_or, slice_index_or, sym, subst, arith, All, Some, slice_get}
use Rattle.std.specs.List.{AllZip}
use Rattle.std.proofs.lemmas.List.Elements.{All-contains, All-get_or, Contains-get_or, Contains-append_left, Contains-append_right}
use Rattle.std.proofs.lemmas.Option.{get_or_from_slice_get, slice_get_within}

-- a list of four is its four elements
pub four : {A : Type 0} (xs : List A) (a b c d : A) → length xs ≡ 4
    → a ≡ slice_index_or xs 0 a → b ≡ slice_index_or xs 1 b → c ≡ slice_index_or xs 2 c → d ≡ slice_index_or xs 3 d
    → xs ≡ a ∷ b ∷ c ∷ d ∷ []
four [] a b c d e p q r s = absurd (omega arith)
four (w ∷ []) a b c d e p q r s = absurd (omega arith)
four (w ∷ x ∷ []) a b c d e p q r s = absurd (omega arith)
four (w ∷ x ∷ y ∷ []) a b c d e p q r s = absurd (omega arith)
four (w ∷ x ∷ y ∷ z ∷ []) a b c d e p q r s = cc
four (w ∷ x ∷ y ∷ z ∷ more ∷ rest) a b c d e p q r s = absurd (omega arith)

-- and a list of five its five
pub five : {A : Type 0} (xs : List A) (a b c d e : A) → length xs ≡ 5
    → a ≡ slice_index_or xs 0 a → b ≡ slice_index_or xs 1 b → c ≡ slice_index_or xs 2 c → d ≡ slice_index_or xs 3 d
    → e ≡ slice_index_or xs 4 e → xs ≡ a ∷ b ∷ c ∷ d ∷ e ∷ []
five [] a b c d e size p q r s t = absurd (omega arith)
five (x ∷ xs) a b c d e size p q r s t = cc_of (four xs b c d e (omega arith) q r s t) p
  where
    cc_of : xs ≡ b ∷ c ∷ d ∷ e ∷ [] → a ≡ x → x ∷ xs ≡ a ∷ b ∷ c ∷ d ∷ e ∷ []
    cc_of rest first = λ i. sym first i ∷ rest i

-- what holds of two lists place by place holds at each place
pub all_zip_at : {A B : Type 0} (R : A → B → Type 0) (xs : List A) (ys : List B) → AllZip R xs ys
    → (k : ℕ) (d : A) (e : B) → k < length xs → R (get_or xs k d) (get_or ys k e)
all_zip_at R [] [] all k d e within = absurd (omega arith)
all_zip_at R [] (y ∷ ys) all k d e within = absurd all
all_zip_at R (x ∷ xs) [] all k d e within = absurd all
all_zip_at R (x ∷ xs) (y ∷ ys) all zero d e within = all.0
all_zip_at R (x ∷ xs) (y ∷ ys) all (suc k) d e within = all_zip_at R xs ys all.1 k d e (omega arith)

-- what holds of all of a list holds of the one at a place
pub all_at : {A : Type 0} (P : A → Type 0) (xs : List A) (k : ℕ) (x : A) → slice_get xs k ≡ Some x → All P xs → P x
all_at P xs k x found all =
    subst P (get_or_from_slice_get xs k x x found) (All-get_or P xs k x (slice_get_within xs k x found) all)

-- what holds of all of a list holds of its first part, and of the part behind it
pub All-earlier : {A : Type 0} (P : A → Type 0) (xs ys : List A) → All P (xs ++ ys) → All P xs
All-earlier P xs ys all k d within =
    All-contains P (xs ++ ys) (get_or xs k d) all (Contains-append_left xs ys (get_or xs k d) (Contains-get_or xs k d within))

pub All-later : {A : Type 0} (P : A → Type 0) (xs ys : List A) → All P (xs ++ ys) → All P ys
All-later P xs ys all k d within =
    All-contains P (xs ++ ys) (get_or ys k d) all (Contains-append_right xs ys (get_or ys k d) (Contains-get_or ys k d within))
