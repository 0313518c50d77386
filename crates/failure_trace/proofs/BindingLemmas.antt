-- One binding more.
use Rattle.std.proofs.Common.{◌≡◌, ℕ, ◌+◌, ◌<◌, List, [], ◌∷◌, ◌++◌, map, length, take, get_or, sym, ap, ◌∙◌, subst, arith, All}
use Rattle.std.proofs.lemmas.List.{take_more, map_push, length-map, length_push, append_assoc}
use Rattle.std.specs.List.{range_with_len}
use Rattle.std.proofs.lemmas.List.FromFn.{map-range_with_len_more}
use Rattle.std.proofs.lemmas.List.Elements.{All-push}
use Rattle.rule_core.specs.Names.{IsName}
use Rattle.failure_trace.specs.declared.trace.Value.{Value}
use Rattle.failure_trace.specs.declared.trace.Bound.{Bound}
use Rattle.failure_trace.specs.Printed.{IsWritableValue, IsWritableBound}
use Rattle.failure_trace.specs.Projected.{BindsFirst}

abbrev bound : List ℕ → Value → Bound
bound name value = record { name = name; value = value }

-- as many values as bindings
pub told_size : (names : List (List ℕ)) (told : List Value) (binding : List Bound) → BindsFirst names told binding → length told ≡ length binding
told_size names told binding b = ap length (sym b.told) ∙ length-map binding (λ (x : Bound). x.value)

pub bound_pushed : (names : List (List ℕ)) (told : List Value) (binding : List Bound) (name : List ℕ) (value : Value)
    → All IsName names → length binding < length names → name ≡ get_or names (length binding) name → IsWritableValue value
    → BindsFirst names told binding → BindsFirst names (told ++ value ∷ []) (binding ++ bound name value ∷ [])
bound_pushed names told binding name value names_ok within is writable b =
    let size = told_size names told binding b in
    let below : length told < length names = omega (arith, size) in
    let here : name ≡ get_or names (length told) name = is ∙ ap (λ n. get_or names n name) (sym size) in
    let longer : length (told ++ value ∷ []) ≡ length told + 1 = length_push told value in
    record {
      names_are = map_push (λ (x : Bound). x.name) binding (bound name value)
          ∙ (λ i. b.names_are i ++ here i ∷ [])
          ∙ sym (take_more names (length told) name below)
          ∙ ap (λ n. take n names) (sym longer);
      told = map_push (λ (x : Bound). x.value) binding (bound name value) ∙ ap (λ l. l ++ value ∷ []) b.told;
      writable = All-push IsWritableBound binding (bound name value) b.writable
          (subst IsName (sym is) (names_ok (length binding) name within), writable);
    }

-- the name at a place
pub name_at : (names : List (List ℕ)) (k n : ℕ) (item name : List ℕ) → name ≡ item → item ≡ get_or names k item → k ≡ n
    → name ≡ get_or names n name
name_at names k n item name e is same = e ∙ is ∙ (λ i. get_or names (same i) (sym e i))

-- the value of one more of a range
pub one_value_more : {X : Type 0} (g : X → Value) (f : ℕ → X) (told : List Value) (n : ℕ) (value : Value) → value ≡ g (f n)
    → (told ++ map g (map f (range_with_len 0 n))) ++ value ∷ [] ≡ told ++ map g (map f (range_with_len 0 (n + 1)))
one_value_more g f told n value is =
    append_assoc told (map g (map f (range_with_len 0 n))) (value ∷ [])
    ∙ (λ i. told ++ (map g (map f (range_with_len 0 n)) ++ is i ∷ []))
    ∙ ap (λ l. told ++ l) (sym (ap (map g) (map-range_with_len_more f 0 n n (omega arith)) ∙ map_push g (map f (range_with_len 0 n)) (f n)))
