-- How large the tables are that were read.
use Rattle.std.proofs.Common.{◌≡◌, ℕ, ◌+◌, ◌*◌, ◌<◌, ◌≤◌, List, [], ◌∷◌, ◌++◌, length, get_or, sum_by, sym, ap, ◌∙◌, subst, arith, take, All}
use Rattle.std.proofs.lemmas.List.{take_all, take_more, length_push}
use Rattle.std.proofs.lemmas.List.Sums.{sum_by-le, sum_by_push}
use Rattle.std.proofs.lemmas.Slice.Zip.{AllZip-long, all_zipped_more}
use Rattle.rule_core.specs.declared.rules.Relation.{Relation}
use Rattle.rule_core.specs.Terms.{StampedOf}
use Rattle.rule_core.specs.Validity.{IsRelation}
use Rattle.temporal_csv.specs.Table.{IsTable, IsFact}
use Rattle.exchange_engine.specs.Loading.{AreTablesOf, cell_count}
use Rattle.exchange_cli.specs.Inputs.{SourceTable}
use Rattle.exchange_cli.proofs.ListLemmas.{all_zip_at}

-- each row has a cell for each column of the relation
abbrev pub AreWide : Relation → SourceTable → Type 0
AreWide relation table = All (λ fact. length fact.row ≡ length relation.columns) table

module _ (relation : Relation) (bytes : List ℕ) (facts : SourceTable) (table : IsTable relation.columns bytes facts) where
  pub table_is_wide : AreWide relation facts
  table_is_wide k d within =
      let R : List (List ℕ) → StampedOf (List (List ℕ)) → Type 0 = IsFact (length relation.columns) in
      let long = AllZip-long R table.records facts table.each in
      let fact : IsFact (length relation.columns) (get_or table.records k []) (get_or facts k d) =
      all_zip_at R table.records facts table.each k [] d (omega arith) in
      ap length fact.row ∙ fact.has.wide

  -- 16 columns at most, and 1,000,000 facts
  pub table_has_few_cells : IsRelation relation → sum_by (λ (fact : StampedOf (List (List ℕ))). length fact.row) facts ≤ 16000000
  table_has_few_cells valid =
      let most = sum_by-le (λ (fact : StampedOf (List (List ℕ))). length fact.row) 16 facts
      (λ k d within. let wide = table_is_wide k d within in omega (arith, wide, valid.most)) in
      omega (arith, most, table.few)

-- so far a table for each relation, with so many cells at most
pub record AreRead (relations : List Relation) (tables : List SourceTable) : Type 0 where
  pub each : AreTablesOf relations tables
  pub few : cell_count tables ≤ 16000000 * length tables

pub none_is_read : (relations : List Relation) → AreRead (take 0 relations) []
none_is_read relations = record { each = tt; few = omega arith }

pub one_more_is_read : (relations : List Relation) (tables : List SourceTable) (k : ℕ) (r : Relation) (facts : SourceTable)
    → k < length relations → r ≡ get_or relations k r → AreRead (take k relations) tables → AreWide r facts
    → sum_by (λ (fact : StampedOf (List (List ℕ))). length fact.row) facts ≤ 16000000
    → AreRead (take (k + 1) relations) (tables ++ facts ∷ [])
one_more_is_read relations tables k r facts within is before wide few = record {
  each =
      let more : take (k + 1) relations ≡ take k relations ++ r ∷ [] =
      take_more relations k r within ∙ ap (λ q. take k relations ++ q ∷ []) (sym is) in
      subst (λ (rs : List Relation). AreTablesOf rs (tables ++ facts ∷ [])) (sym more)
      (all_zipped_more AreWide (take k relations) tables r facts before.each wide);
  few =
      let sums = sum_by_push (λ (table : SourceTable). sum_by (λ (fact : StampedOf (List (List ℕ))). length fact.row) table) tables facts in
      let long = length_push tables facts in
      omega (arith, sums, before.few);
}

pub all_are_read : (relations : List Relation) (tables : List SourceTable) (k : ℕ) → length relations ≤ k
    → AreRead (take k relations) tables → AreRead relations tables
all_are_read relations tables k past read = subst (λ (rs : List Relation). AreRead rs tables) (take_all k relations past) read

-- 64 relations at most
pub all_have_few_cells : (relations : List Relation) (tables : List SourceTable) → AreRead relations tables → length relations ≤ 64
    → cell_count tables ≤ 1024000000
all_have_few_cells relations tables read most =
    let long = AllZip-long AreWide relations tables read.each in
    omega (arith, read.few)
