-- What a shelf holds, where it tells: a finite map from names to entries, both lists of bytes.
use Rattle.std.specs.Prelude.{◌≡◌, ◌≢◌, ℕ, List, ⊤}
use Rattle.std.specs.declared.option.Option.{Option}
use Rattle.std.specs.declared.option.Option.TheVariants.{None, Some}
use Rattle.std.specs.Option.{option_map}
use Rattle.std.specs.Ordering.{nat_cmp}
use Rattle.std.specs.Cmp.Lexicographic.{slice_cmp}
use Rattle.std.specs.Coded.{Coded, coded_ℕ, coded_list}
use Rattle.std.specs.FinMap.{FinMap, code, get, insert}

-- the bytes of a name to the bytes of its entry
abbrev pub Held : Type 0
Held = FinMap (slice_cmp nat_cmp) (List ℕ)

-- what is held is stored as the list of its entries
abbrev pub held_code : Coded Held
held_code = code (coded_list coded_ℕ) (coded_list coded_ℕ)

-- that name has those bytes now, and nothing else has changed; what was told is told
abbrev pub Sets : Option Held → Option Held → List ℕ → List ℕ → Type 0
Sets before after name bytes = after ≡ option_map (λ held. insert held name bytes) before

-- each other name is as before; what was told is told
abbrev pub OthersStay : Option Held → Option Held → List ℕ → Type 0
OthersStay None None name = ⊤
OthersStay None (Some now) name = ⊥
OthersStay (Some held) None name = ⊥
OthersStay (Some held) (Some now) name = (other : List ℕ) → other ≢ name → get now other ≡ get held other
