-- Places that are united step by step. No public clause cites this module.
use Rattle.std.specs.Prelude.{◌≡◌, ◌⊎◌, ◌↔◌, ℕ, ◌==◌, ◌<◌, ◌≤◌, List, [], ◌∷◌, ◌++◌, fold, if◌then◌else◌, map, max, min, length, Contains, slice_index, slice_index_or}
use Rattle.rule_core.specs.declared.rules.Tgd.{Tgd}
use Rattle.fact_table.specs.declared.fact.Fact.{Fact}
use Rattle.fact_table.specs.Rows.{rows_of}
use Rattle.body_match.specs.declared.found.Match.{Match}
use Rattle.body_match.specs.Matches.{IsMatch}
use Rattle.normaliser.specs.Normalised.{Reaches}

-- each place has a parent that isn't behind it
abbrev pub AreParents : List ℕ → Type 0
AreParents parents = (k : ℕ) → k < length parents → slice_index parents k ≤ k

-- behind the labels stands that of the next place: the one of its parent, or the place where that is its own parent
abbrev pub with_label : List ℕ → ℕ → List ℕ
with_label labels parent = labels ++ slice_index_or labels parent (length labels) ∷ []

-- for each place the one that parents lead to at last
abbrev pub labels_of : List ℕ → List ℕ
labels_of parents = fold with_label [] parents

-- of two labels the greater becomes the lesser
abbrev pub merged : ℕ → ℕ → ℕ → ℕ
merged a b label = if label == max a b then min a b else label

-- the two places have one label now, the lesser of those that they had, and so has what had one of these
abbrev pub Joins : ℕ → ℕ → List ℕ → List ℕ → Type 0
Joins a b old new = new ≡ map (merged (slice_index old a) (slice_index old b)) old

-- two places, which are of one kind
pub record Edge : Type 0 where
  pub from : ℕ
  pub to : ℕ

-- one of the edges joins the two
abbrev pub IsEdge : List Edge → ℕ → ℕ → Type 0
IsEdge edges a b = Contains edges (record { from = a; to = b }) ⊎ Contains edges (record { from = b; to = a })

-- each place has as its label a place that edges lead to, and no greater one; what an edge joins has one label
pub record AreLabels (edges : List Edge) (labels : List ℕ) : Type 0 where
  pub below : (k : ℕ) → k < length labels → slice_index labels k ≤ k
  pub reached : (k : ℕ) → k < length labels → Reaches (IsEdge edges) k (slice_index labels k)
  pub whole : (a b : ℕ) → Contains edges (record { from = a; to = b }) → slice_index labels a ≡ slice_index labels b

-- an edge from the first of some places to each other one
abbrev pub star : List ℕ → List Edge
star [] = []
star (first ∷ rest) = map (λ place. record { from = first; to = place }) rest

-- the places are there
abbrev pub AreBelow : ℕ → List ℕ → Type 0
AreBelow bound places = (place : ℕ) → Contains places place → place < bound

-- the labels tell of these places too that they are of one kind
pub record Unites (places : List ℕ) (old new : List ℕ) : Type 0 where
  pub size : length new ≡ length old
  pub labels : (edges : List Edge) → AreLabels edges old → AreBelow (length old) places → AreLabels (edges ++ star places) new

-- the edge joins the first fact of a match of the tgd's body in the table with another one of the match
abbrev pub IsEdgeOf : Tgd → List Fact → Edge → Type 0
IsEdgeOf tgd table edge = (found : Match) × IsMatch tgd.body tgd.body_vars (rows_of table) found × Contains (star found.rows) edge

-- the facts of each match of the tgd's body in the table are united, and nothing else
pub record UnitesMatches (tgd : Tgd) (table : List Fact) (old new : List ℕ) : Type 0 where
  pub size : length new ≡ length old
  pub labels : (edges : List Edge) → AreLabels edges old → length old ≡ length table
      → (more : List Edge) × AreLabels (edges ++ more) new × ((edge : Edge) → Contains more edge ↔ IsEdgeOf tgd table edge)
