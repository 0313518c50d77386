-- Entries under keys, and the tree above them. No public clause cites this module.
use Rattle.std.specs.Prelude.{◌≡◌, ◌⊎◌, ℕ, ◌+◌, ◌*◌, ◌/◌, ◌<◌, ◌≤◌, zero, suc, ◌≤ℤ◌, ◌<ℤ◌, ◌^◌, List, Some, Contains, length, slice_get, ◌++◌, flat_map}
use Rattle.body_match.specs.declared.lookup.Entry.{Entry}
use Rattle.body_match.specs.declared.lookup.Probe.{Probe}
use Rattle.body_match.specs.declared.lookup.Reach.{Reach}
use Rattle.body_match.specs.declared.directory.Stretch.{Stretch}
use Rattle.body_match.specs.Directory.{AreDirected, IsWithin}

-- the entry is under the key, and may have an instant between those of the probe
pub record IsSought (probe : Probe) (entry : Entry) : Type 0 where
  pub key : entry.key ≡ probe.key
  pub from : entry.from <ℤ probe.to
  pub to : probe.from <ℤ entry.to

-- the entry lies within the reach
pub record Encloses (reach : Reach) (entry : Entry) : Type 0 where
  pub least : reach.least ≤ entry.key
  pub greatest : entry.key ≤ reach.greatest
  pub from : reach.from ≤ℤ entry.from
  pub to : entry.to ≤ℤ reach.to

-- what lies within the second lies within the first
abbrev pub Includes : Reach → Reach → Type 0
Includes reach other = (entry : Entry) → Encloses other entry → Encloses reach entry

-- entries, the reaches of the nodes of a tree, whose leaves begin at a place, and stretches of the entries
pub record Tree : Type 0 where
  pub entries : List Entry
  pub reaches : List Reach
  pub leaves : ℕ
  pub stretches : List Stretch

-- a tree from its parts
abbrev pub tree_of : List Entry → List Reach → ℕ → List Stretch → Tree
tree_of entries reaches leaves stretches = record { entries = entries; reaches = reaches; leaves = leaves; stretches = stretches }

-- the first entries lie within the reaches of their leaves, eight to a leaf
abbrev pub AreInLeaves : List Entry → List Reach → ℕ → ℕ → Type 0
AreInLeaves entries reaches leaves first = (at : ℕ) (entry : Entry) → at < first → slice_get entries at ≡ Some entry
    → (reach : Reach) × (slice_get reaches (leaves + at / 8) ≡ Some reach) × Encloses reach entry

-- from a node on, each reach includes those of the two nodes below
abbrev pub AreJoined : List Reach → ℕ → Type 0
AreJoined reaches first = (node : ℕ) (reach other : Reach) (below : ℕ) → first ≤ node → slice_get reaches node ≡ Some reach
    → (below ≡ 2 * node) ⊎ (below ≡ 2 * node + 1) → slice_get reaches below ≡ Some other → Includes reach other

-- each reach includes the entries below, and each entry stands within the stretch of its key
pub record IsTree (tree : Tree) : Type 0 where
  pub some : 1 ≤ tree.leaves
  pub fits : 16 * tree.leaves < 2 ^ 64
  pub size : length tree.reaches ≡ 2 * tree.leaves
  pub leaf : AreInLeaves tree.entries tree.reaches tree.leaves (length tree.entries)
  pub joined : AreJoined tree.reaches 1
  pub directed : AreDirected tree.entries tree.stretches (length tree.entries)

-- the second node is so many steps below the first
abbrev pub StepsBelow : ℕ → ℕ → ℕ → Type 0
StepsBelow zero node below = node ≡ below
StepsBelow (suc steps) node below = StepsBelow steps (2 * node) below ⊎ StepsBelow steps (2 * node + 1) below

-- the second node is the first, or somewhere below it
abbrev pub IsBelow : ℕ → ℕ → Type 0
IsBelow node below = (steps : ℕ) × StepsBelow steps node below

-- the entry at the place is sought, and is below the node
pub record IsSoughtBelow (tree : Tree) (node : ℕ) (probe : Probe) (at : ℕ) (entry : Entry) : Type 0 where
  pub there : slice_get tree.entries at ≡ Some entry
  pub below : IsBelow node (tree.leaves + at / 8)
  pub sought : IsSought probe entry

-- what was in the first list is in the second
abbrev pub Keeps : List ℕ → List ℕ → Type 0
Keeps old new = (row : ℕ) → Contains old row → Contains new row

-- all rows are kept, and the rows that are sought below a node are there
pub record AddsBelow (tree : Tree) (node : ℕ) (probe : Probe) (old new : List ℕ) : Type 0 where
  pub kept : Keeps old new
  pub sought : (at : ℕ) (entry : Entry) → IsSoughtBelow tree node probe at entry → Contains new entry.row

-- all rows are kept, and the rows that are sought within a stretch are there
pub record AddsWithin (entries : List Entry) (stretch : Stretch) (probe : Probe) (old new : List ℕ) : Type 0 where
  pub kept : Keeps old new
  pub sought : (at : ℕ) (entry : Entry) → IsWithin stretch at → slice_get entries at ≡ Some entry → IsSought probe entry → Contains new entry.row

-- all rows that are sought are there
abbrev pub HasSought : List Entry → Probe → List ℕ → Type 0
HasSought entries probe rows = (entry : Entry) → Contains entries entry → IsSought probe entry → Contains rows entry.row

-- all entries of look-ups
abbrev pub all_in : List Tree → List Entry
all_in lookups = flat_map (λ lookup. lookup.entries) lookups

-- the entries of look-ups, and behind them others
abbrev pub entries_in : List Tree → List Entry → List Entry
entries_in lookups last = all_in lookups ++ last
