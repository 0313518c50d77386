-- The facts of tables: one table for each relation of a side, in the order of the relations.
use Rattle.std.specs.Prelude.{ℕ, ◌+◌, List, [], ◌∷◌, ◌++◌, map}
use Rattle.rule_core.specs.Terms.{TermOf, constant, FactOf, StampedOf}

-- the rows of terms of each table, as facts of the relations from the first number on
abbrev pub facts_from : {C : Type 0} → ℕ → List (List (StampedOf (List (TermOf C)))) → List (StampedOf (FactOf C))
facts_from relation [] = []
facts_from relation (table ∷ tables) =
    map (λ e. record { row = record { relation = relation; terms = e.row }; span = e.span }) table ++ facts_from (relation + 1) tables

-- the facts of all tables
abbrev pub facts_of : {C : Type 0} → List (List (StampedOf (List (TermOf C)))) → List (StampedOf (FactOf C))
facts_of tables = facts_from 0 tables

-- a table of constants as one of terms
abbrev pub as_terms : {C : Type 0} → List (StampedOf (List C)) → List (StampedOf (List (TermOf C)))
as_terms table = map (λ e. record { row = map constant e.row; span = e.span }) table
