use Rattle.std.proofs.Common.{◌≡◌, ℕ, List, length, ◌-◌, encode_utf8_all}
use Rattle.decl_text.proofs.InsideLemmas.{Inside}
use Rattle.decl_text.proofs.quotes.text_of.Given as goal

abbrev pub invariant-loop-c : goal.invariant-loop-c
invariant-loop-c l = (characters : List ℕ) × Inside characters l.quoted l.len × (l.text ≡ encode_utf8_all characters)

abbrev pub decreases-loop-c : goal.decreases-loop-c
decreases-loop-c l = length l.quoted - l.len
