-- How answers are collected. No public clause cites this module.
use Rattle.std.specs.Prelude.{◌≡◌, ◌↔◌, ◌⊎◌, ℕ, ℤ, List, Option, Some, None, map, Contains, slice_get}
use Rattle.term_core.specs.declared.const_id.ConstId.{ConstId}
use Rattle.term_core.specs.declared.term.Term.{Term}
use Rattle.term_core.specs.declared.term.Term.TheVariants.{Const}
use Rattle.term_core.specs.declared.term.Seen.{Seen}
use Rattle.term_core.specs.declared.term.Seen.TheVariants as cells
use Rattle.rule_core.specs.declared.rules.Branch.{Branch}
use Rattle.rule_core.specs.Terms.{StampedOf}
use Rattle.rule_core.specs.Coalesced.{Covers}
use Rattle.fact_table.specs.Rows.{SeenRow}
use Rattle.body_match.specs.declared.found.Match.{Match}
use Rattle.certain_answers.specs.declared.collecting.Collector.{Collector}
use Rattle.certain_answers.specs.Answering.{IsBranchRow}

-- the constant that a value is, if it is one
abbrev pub constant_shown : Option Seen → Option ConstId
constant_shown None = None
constant_shown (Some (cells.Const c)) = Some c
constant_shown (Some (cells.Piece p)) = None

-- the values of the columns are constants, and the row is these
abbrev pub IsShown : List ℕ → List Seen → List Term → Type 0
IsShown columns values row = (constants : List ConstId) × (row ≡ map Const constants)
    × (map (λ v. slice_get values v) columns ≡ map (λ c. Some (cells.Const c)) constants)

-- the row of the match over its span
pub record IsEntryOf (columns : List ℕ) (found : Match) (entry : StampedOf (List Term)) : Type 0 where
  pub row : IsShown columns found.binding entry.row
  pub span : entry.span ≡ found.span

-- the new list has exactly the old entries and those
abbrev pub Adds : List (StampedOf (List Term)) → List (StampedOf (List Term)) → (StampedOf (List Term) → Type 0) → Type 0
Adds old new IsMore = (entry : StampedOf (List Term)) → Contains new entry ↔ (Contains old entry ⊎ IsMore entry)

-- the entry of the match is there too, if it has one
pub record Collects (old : Collector) (found : Match) (new : Collector) : Type 0 where
  pub columns : old.columns.now ≡ new.columns.now
  pub rows : Adds old.rows.items new.rows.items (IsEntryOf old.columns.now found)

-- the new list covers what the old one does, and the answers of the branch
abbrev pub AddsBranch : List (Option SeenRow) → Branch → List (StampedOf (List Term)) → List (StampedOf (List Term)) → Type 0
AddsBranch rows branch old new = (row : List Term) (t : ℤ) → Covers new row t ↔ (Covers old row t ⊎ IsBranchRow rows t row branch)
