-- What is gathered on the way from texts to numbers. No public clause cites this module.
use Rattle.std.specs.Prelude.{◌≡◌, ◌↔◌, ◌⊎◌, ℕ, ◌+◌, ◌<◌, ◌≤◌, List, ◌++◌, length, map, All, Contains}
use Rattle.rule_core.specs.Terms.{constant, FactOf, StampedOf}
use Rattle.fact_table.specs.declared.fact.Fact.{Fact}
use Rattle.exchange_engine.specs.declared.loading.pool.Found.{Found}
use Rattle.exchange_engine.specs.Loading.{RawTable, as_text}

-- the new texts are the old ones and such as these, and so many more at most
pub record Gains (old new : List (List ℕ)) (IsMore : List ℕ → Type 0) (count : ℕ) : Type 0 where
  pub texts : (text : List ℕ) → Contains new text ↔ (Contains old text ⊎ IsMore text)
  pub few : length new ≤ length old + count

-- the texts that were found
abbrev pub texts_of : List Found → List (List ℕ)
texts_of found = map (λ f. f.text.now) found

-- behind the old facts stand more, of numbers of the pool, which are these as texts, in some order
pub record Adds (pool : List (List ℕ)) (old new : List Fact) (read : List (StampedOf (FactOf (List ℕ)))) : Type 0 where
  pub more : List Fact
  pub behind : new ≡ old ++ more
  pub reads : (fact : StampedOf (FactOf (List ℕ))) → Contains (map (as_text pool) more) fact ↔ Contains read fact
  pub within : All (λ fact. All (λ c. c.0 < length pool) fact.row) more

-- a row of texts as a fact of a relation
abbrev pub raw_fact : ℕ → StampedOf (List (List ℕ)) → StampedOf (FactOf (List ℕ))
raw_fact relation raw = record { row = record { relation = relation; terms = map constant raw.row }; span = raw.span }

-- the rows of a table of texts as facts of a relation
abbrev pub raw_facts : ℕ → RawTable → List (StampedOf (FactOf (List ℕ)))
raw_facts relation table = map (raw_fact relation) table
