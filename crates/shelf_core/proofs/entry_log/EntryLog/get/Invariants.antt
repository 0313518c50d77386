use Rattle.std.proofs.Common.{◌≡◌, All, length, map}
use Rattle.std.specs.Ordering.{nat_cmp}
use Rattle.std.specs.Cmp.Lexicographic.{slice_cmp}
use Rattle.std.specs.FinMap.{get, find}
use Rattle.std.specs.VecDeque.Iter.{deque_iter_rest}
use Rattle.shelf_core.specs.Layout.{IsInText, entry_at}
use Rattle.shelf_core.proofs.entry_log.EntryLog.get.Given as goal

-- no newer place has the name, so the entry is that of the places that are left
abbrev pub invariant-loop-place : goal.invariant-loop-place
invariant-loop-place l = record {
  found : get l.self.held l.name ≡
      find (slice_cmp nat_cmp) l.name (map (entry_at l.self-inside.text.items) (deque_iter_rest l.place-iterator));
  in_text : All (IsInText (length l.self-inside.text.items)) (deque_iter_rest l.place-iterator);
}
