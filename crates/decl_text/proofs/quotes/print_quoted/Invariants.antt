use Rattle.std.proofs.Common.{◌≡◌, ◌∷◌, flat_map}
use Rattle.decl_text.specs.Quotes.{in_quotes}
use Rattle.decl_text.proofs.quotes.print_quoted.Given as goal

abbrev pub invariant-loop-c : goal.invariant-loop-c
invariant-loop-c l = l.quoted ≡ 34 ∷ flat_map in_quotes l.yielded
