-- What stands under a key, where a key may have nothing.
use Rattle.std.proofs.Common.{◌≡◌, ◌≢◌, ℕ, ◌<◌, ◌≤◌, Option, Some, None, List, length, take, get_or, set, refl, sym, ap, ◌∙◌, subst, arith, ⊎_elim}
use Rattle.std.specs.Prelude.{slice_get, IsSome, IsSomeAnd}
use Rattle.std.proofs.lemmas.Bool.{cases_lt}
use Rattle.std.proofs.lemmas.List.{get_or-take, length-take-le, get_or_past, get_or-set_same, get_or-set_other}
use Rattle.std.proofs.lemmas.Option.{slice_get_within, slice_get-get_or, get_or_from_slice_get}
use Rattle.row_arena.specs.Layout.{at}

-- what is there, with what holds of it
pub some_and : {X : Type 0} (P : X → Type 0) (o : Option X) → IsSomeAnd o P → (x : X) × (o ≡ Some x) × P x
some_and P None h = absurd h
some_and P (Some x) h = (x, refl, h)

pub and_some : {X : Type 0} (P : X → Type 0) (o : Option X) (x : X) → o ≡ Some x → P x → IsSomeAnd o P
and_some P o x e p = subst (λ w. IsSomeAnd w P) (sym e) p

pub same_some : {X : Type 0} (o : Option X) (x y : X) → o ≡ Some x → o ≡ Some y → x ≡ y
same_some o x y p q = let h : Some x ≡ Some y = sym p ∙ q in cc

-- something is there
pub is_there : {X : Type 0} (o : Option X) → IsSome o → (x : X) × (o ≡ Some x)
is_there None h = absurd cc
is_there (Some x) h = (x, refl)

pub there_is : {X : Type 0} (o : Option X) (x : X) → o ≡ Some x → IsSome o
there_is o x e = subst (λ w. IsSome w) (sym e) refl

module _ {X : Type 0} (slots : List (Option X)) where
  pub inside : (key : ℕ) (x : X) → at slots key ≡ Some x → key < length slots
  inside key x e = ⊎_elim
      (λ (l : key < length slots). l)
      (λ (g : length slots ≤ key). let clash : None ≡ Some x = sym (get_or_past slots key None g) ∙ e in absurd cc)
      (cases_lt key (length slots))

  -- what is under a key that is written
  pub written_here : (key : ℕ) (x y : X) → at slots key ≡ Some x → at (set slots key (Some y)) key ≡ Some y
  written_here key x y e = get_or-set_same slots key (Some y) None (inside key x e)

  pub written_else : (key other : ℕ) (y : Option X) → other ≢ key → at (set slots key y) other ≡ at slots other
  written_else key other y differ = get_or-set_other slots key other y None differ

-- what stands in the front of a list of numbers
pub taken_at : (n : ℕ) (xs : List ℕ) (k x : ℕ) → n ≤ length xs → slice_get (take n xs) k ≡ Some x → (k < n) × (get_or xs k 0 ≡ x)
taken_at n xs k x l e =
    let within = slice_get_within (take n xs) k x e in
    let below : k < n = omega (arith, within, length-take-le n xs l) in
    (below, sym (get_or-take n xs k 0 below) ∙ get_or_from_slice_get (take n xs) k x 0 e)

pub at_taken : (n : ℕ) (xs : List ℕ) (k : ℕ) → n ≤ length xs → k < n → slice_get (take n xs) k ≡ Some (get_or xs k 0)
at_taken n xs k l below =
    slice_get-get_or (take n xs) k 0 (omega (arith, below, length-take-le n xs l)) ∙ ap Some (get_or-take n xs k 0 below)
