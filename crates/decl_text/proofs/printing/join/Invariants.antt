use Rattle.std.proofs.Common.{◌≡◌, ◌++◌, take}
use Rattle.std.specs.List.{flat_map}
use Rattle.decl_text.proofs.printing.join.Given as goal

abbrev pub invariant-loop-text : goal.invariant-loop-text
invariant-loop-text l = l.joined ≡ l.initial.joined ++ flat_map (λ later. l.separator ++ later) (take l.text-index l.later)
