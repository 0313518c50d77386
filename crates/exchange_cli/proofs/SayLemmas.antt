-- How a line is said part by part.
use Rattle.std.proofs.Common.{◌≡◌, ℕ, ◌≤◌, List, ◌++◌, true, inl, inr, rules, Result, Ok, Err}
use Rattle.std.specs.Result.{OnOk, IsErr, is_ok}
use Rattle.shelf_core.specs.Faults.{HasCause}
use Rattle.shelf_core.specs.Texts.{Appends}
use Rattle.shelf_core.proofs.FaultLemmas.{then_rises}
use Rattle.shelf_core.proofs.TextLemmas.{appends_then_appends}
use Rattle.exchange_cli.specs.Run.{Device, Says}

-- what holds of an answer that is Ok
pub on_ok : {T E : Type 0} (result : Result T E) (P : Type 0) → OnOk result P → is_ok result ≡ true → P
on_ok (Ok value) P p is = p
on_ok (Err error) P p is = absurd cc

-- a first part is appended, and then the last one is, or a fault is counted
pub says_last : {T E : Type 0} (a b c : Device (List ℕ)) (first last : List ℕ) (result : Result T E)
    → Appends a.content b.content first → a.faults ≤ b.faults
    → OnOk result (Appends b.content c.content last) → HasCause b.faults c.faults (IsErr result) → Says a c (first ++ last)
says_last a b c first last (Ok value) appended kept ok cause =
    inl (appends_then_appends a.content b.content c.content first last appended ok)
says_last a b c first last (Err error) appended kept ok cause =
    inr (then_rises a.faults b.faults c.faults kept cause.later (cause.rose (search rules)))
