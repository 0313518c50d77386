-- What is read so far is copied.
use Rattle.std.proofs.Common.{◌≡◌, take}
use Rattle.rule_core.proofs.rebase.same_texts.Given as goal

abbrev pub invariant-loop-text : goal.invariant-loop-text
invariant-loop-text l = l.copies ≡ take l.text-index l.texts
