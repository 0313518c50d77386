-- What a list with spare room is: its items, and for how many more it has room.
use Rattle.std.specs.Prelude.{ℕ, List, refl}
use Rattle.std.specs.Coded.{Coded, code_by, coded×, coded_ℕ, coded_list}

pub record Slotted (T : Type 0) : Type 0 where
  pub items : List T
  pub room : ℕ

-- it is stored as the pair of its fields
abbrev pub slotted_code : {T : Type 0} → Coded T → Coded (Slotted T)
slotted_code c = code_by (List _ × ℕ) (coded× (coded_list c) coded_ℕ) (λ s. (s.items, s.room)) (λ p. record { items = p.0; room = p.1 }) (λ _. refl)
