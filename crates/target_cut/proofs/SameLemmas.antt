-- Rows of a store that took room are cut as those of the store before.
use Rattle.std.proofs.Common.{◌≡◌, ℕ, ℤ, List, subst}
use Rattle.null_store.specs.Store.{Store, Spare}
use Rattle.null_store.specs.Changes.{HoldsSame}
use Rattle.null_store.specs.Splits.{SplitsRows, SplitsPieces, SplitsFacts}

-- the store with other room
abbrev pub with_room : Store → Spare → Store
with_room store spare = record { rows = store.rows; pieces = store.pieces; names = store.names; spare = spare }

pub is_with_room : (old mid : Store) → HoldsSame old mid → mid ≡ with_room old mid.spare
is_with_room old mid same = λ i. record { rows = same.rows i; pieces = same.pieces i; names = same.names i; spare = mid.spare }

module _ (old mid new : Store) (same : HoldsSame old mid) (numbers : List ℕ) (m : ℤ) where
  pub rows_before : (made : List ℕ) → SplitsRows numbers m made mid new → SplitsRows numbers m made old new
  rows_before made h =
      let h : SplitsRows numbers m made (with_room old mid.spare) new = subst (λ s. SplitsRows numbers m made s new) (is_with_room old mid same) h in
      record {
        size = h.size;
        once = h.once;
        each = λ k number copy row a b e. let one = h.each k number copy row a b e in
            record { here = one.here; fact = one.fact; vacant = one.vacant; there = one.there };
        others = h.others;
        facts = h.facts;
      }

  pub pieces_before : SplitsPieces numbers m mid new → SplitsPieces numbers m old new
  pieces_before h =
      let h : SplitsPieces numbers m (with_room old mid.spare) new = subst (λ s. SplitsPieces numbers m s new) (is_with_room old mid same) h in
      record {
        each = λ number p piece a b e. let one = h.each number p piece a b e in
            record { here = one.here; twin = one.twin; vacant = one.vacant; there = one.there };
        others = h.others;
      }

  pub facts_before : SplitsFacts numbers m mid new → SplitsFacts numbers m old new
  facts_before h =
      let h : SplitsFacts numbers m (with_room old mid.spare) new = subst (λ s. SplitsFacts numbers m s new) (is_with_room old mid same) h in
      record { others = h.others; before = h.before; after = h.after }
