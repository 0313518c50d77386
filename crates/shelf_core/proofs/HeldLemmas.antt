-- What a store leaves at each name.
use Rattle.std.proofs.Common.{◌≡◌, ◌≢◌, ℕ, List, None, Some, true, false, cond, refl, ap, ◌∙◌, nat_cmp}
use Rattle.std.proofs.lemmas.Cmp.{nat_list_cmp_total}
use Rattle.std.specs.Cmp.{tied_itself}
use Rattle.std.specs.Cmp.Lexicographic.{slice_cmp}
use Rattle.std.specs.Ordering.{eq_by_cmp, is_eq}
use Rattle.std.specs.declared.cmp.Ordering.{Ordering}
use Rattle.std.specs.declared.cmp.Ordering.TheVariants.{Less, Equal, Greater}
use Rattle.std.specs.declared.option.Option.{Option}
use Rattle.std.specs.FinMap.{get, insert, get-insert, nat_cmp-IsAntisymmetric, slice_cmp-IsAntisymmetric}
use Rattle.shelf_core.specs.Held.{Held, Sets, OthersStay}

-- the name that was set has the bytes
pub get-set : (held : Held) (name bytes : List ℕ) → get (insert held name bytes) name ≡ Some bytes
get-set held name bytes =
    get-insert nat_list_cmp_total held name bytes name
    ∙ ap (λ b. cond b (Some bytes) (get held name)) (same_name name)
  where
    same_name : (name : List ℕ) → eq_by_cmp (slice_cmp nat_cmp) name name ≡ true
    same_name name = ap is_eq (tied_itself nat_list_cmp_total name)

-- each other name is as before
pub get-other : (held : Held) (name bytes other : List ℕ) → other ≢ name → get (insert held name bytes) other ≡ get held other
get-other held name bytes other apart =
    get-insert nat_list_cmp_total held name bytes other
    ∙ ap (λ b. cond b (Some bytes) (get held other)) (not_tied (slice_cmp nat_cmp other name) refl)
  where
    not_tied : (o : Ordering) → slice_cmp nat_cmp other name ≡ o → is_eq o ≡ false
    not_tied Less e = refl
    not_tied Equal e = absurd (apart (slice_cmp-IsAntisymmetric nat_cmp-IsAntisymmetric other name e))
    not_tied Greater e = refl

-- what sets one name leaves the others
pub sets_others : (before after : Option Held) (name bytes : List ℕ) → Sets before after name bytes → OthersStay before after name
sets_others None None name bytes sets = tt
sets_others None (Some now) name bytes sets = cc
sets_others (Some held) None name bytes sets = cc
sets_others (Some held) (Some now) name bytes sets = λ other apart.
    let set : now ≡ insert held name bytes = cc in
    ap (λ h. get h other) set ∙ get-other held name bytes other apart
