-- The facts of tables of terms: which they are, and how they grow by a row.
use Rattle.std.proofs.Common.{◌≡◌, ◌⊎◌, ◌↔◌, ℕ, zero, suc, ◌+◌, Some, List, [], ◌∷◌, ◌++◌, set, map, refl, sym, ap, ◌∙◌, subst}
use Rattle.std.proofs.Common.{inl, inr, arith, add-zero, zero-add, All, Contains, length-set}
use Rattle.std.specs.Prelude.{slice_get}
use Rattle.std.proofs.lemmas.Bool.{cases_eq}
use Rattle.std.proofs.lemmas.List.{get_or-set_same, get_or-set_other}
use Rattle.std.proofs.lemmas.List.Elements.{All-contains, Contains-append_left, Contains-append_right, Contains-append_cases, Contains-push, Contains-push_cases}
use Rattle.std.proofs.lemmas.Option.{slice_get-get_or, slice_get_within, get_or_from_slice_get}
use Rattle.term_core.specs.declared.const_id.ConstId.{ConstId}
use Rattle.term_core.specs.declared.term.Term.{Term}
use Rattle.rule_core.specs.Terms.{TermOf, FactOf, StampedOf}
use Rattle.rule_core.specs.Values.{term_value, table_value}
use Rattle.rule_core.specs.Tables.{facts_from}
use Rattle.rule_core.proofs.ListLemmas.{Contains-nil, Contains-map, Contains-from_map}
use Rattle.body_match.proofs.ListLemmas.{contains_from_at}
use Rattle.body_match.proofs.SearchLemmas.{same_some}
use Rattle.exchange_engine.specs.Solved.{TermTable}
use Rattle.exchange_engine.specs.Grouped.{table_facts}

-- an entry of a table, and a fact over its span
abbrev pub Entry : Type 0
Entry = StampedOf (List Term)

abbrev pub TargetFact : Type 0
TargetFact = StampedOf (FactOf ConstId)

-- an entry as a fact of a relation
abbrev pub fact_for : ℕ → Entry → TargetFact
fact_for relation e = record { row = record { relation = relation; terms = map term_value e.row }; span = e.span }

-- the facts of one table

abbrev with_values : Entry → StampedOf (List (TermOf ConstId))
with_values e = record { row = map term_value e.row; span = e.span }

abbrev of_relation : ℕ → StampedOf (List (TermOf ConstId)) → TargetFact
of_relation relation e = record { row = record { relation = relation; terms = e.row }; span = e.span }

abbrev front : ℕ → TermTable → List TargetFact
front relation table = map (of_relation relation) (map with_values table)

in_front : (relation : ℕ) (table : TermTable) (e : Entry) → Contains table e → Contains (front relation table) (fact_for relation e)
in_front relation table e c =
    Contains-map (of_relation relation) (map with_values table) (with_values e) (Contains-map with_values table e c)

from_front : (relation : ℕ) (table : TermTable) (fact : TargetFact) → Contains (front relation table) fact
    → (e : Entry) × Contains table e × (fact_for relation e ≡ fact)
from_front relation table fact c =
    let values = Contains-from_map (of_relation relation) (map with_values table) fact c in
    let entry = Contains-from_map with_values table values.0 values.1 in
    (entry.0, entry.1, ap (of_relation relation) entry.2 ∙ values.2)

-- the facts of all tables

in_tables : (n : ℕ) (tables : List TermTable) (k : ℕ) (table : TermTable) (e : Entry) → slice_get tables k ≡ Some table → Contains table e
    → Contains (facts_from n (map table_value tables)) (fact_for (n + k) e)
in_tables n [] k table e at c = absurd cc
in_tables n (first ∷ rest) zero table e at c =
    let same : first ≡ table = cc in
    subst (λ m. Contains (facts_from n (map table_value (first ∷ rest))) (fact_for m e)) (sym (add-zero n))
    (Contains-append_left (front n first) (facts_from (n + 1) (map table_value rest)) (fact_for n e)
    (in_front n first e (subst (λ (l : TermTable). Contains l e) (sym same) c)))
in_tables n (first ∷ rest) (suc k) table e at c =
    let same : (n + 1) + k ≡ n + suc k = omega arith in
    subst (λ m. Contains (facts_from n (map table_value (first ∷ rest))) (fact_for m e)) same
    (Contains-append_right (front n first) (facts_from (n + 1) (map table_value rest)) (fact_for ((n + 1) + k) e)
    (in_tables (n + 1) rest k table e at c))

from_tables : (n : ℕ) (tables : List TermTable) (fact : TargetFact) → Contains (facts_from n (map table_value tables)) fact
    → (k : ℕ) × (table : TermTable) × (e : Entry) × (slice_get tables k ≡ Some table) × Contains table e × (fact_for (n + k) e ≡ fact)
from_tables n [] fact c = absurd (Contains-nil fact c)
from_tables n (first ∷ rest) fact c =
    elim (Contains-append_cases (front n first) (facts_from (n + 1) (map table_value rest)) fact c) [
      | inl here ↦
          let h = from_front n first fact here in
          (0, first, h.0, refl, h.1, ap (λ m. fact_for m h.0) (add-zero n) ∙ h.2)
      | inr later ↦
          let h = from_tables (n + 1) rest fact later in
          let same : n + suc h.0 ≡ (n + 1) + h.0 = omega arith in
          (suc h.0, h.1, h.2, h.3, h.4, ap (λ m. fact_for m h.2) same ∙ h.5)
    ]

-- the fact is that of an entry of the table of its relation
abbrev pub IsEntryFact : List TermTable → TargetFact → Type 0
IsEntryFact tables fact =
    (k : ℕ) × (table : TermTable) × (e : Entry) × (slice_get tables k ≡ Some table) × Contains table e × (fact_for k e ≡ fact)

pub in_facts : (tables : List TermTable) (k : ℕ) (table : TermTable) (e : Entry) → slice_get tables k ≡ Some table → Contains table e
    → Contains (table_facts tables) (fact_for k e)
in_facts tables k table e at c = subst (λ m. Contains (table_facts tables) (fact_for m e)) (zero-add k) (in_tables 0 tables k table e at c)

pub from_facts : (tables : List TermTable) (fact : TargetFact) → Contains (table_facts tables) fact → IsEntryFact tables fact
from_facts tables fact c =
    let h = from_tables 0 tables fact c in
    (h.0, h.1, h.2, h.3, h.4, ap (λ m. fact_for m h.2) (sym (zero-add h.0)) ∙ h.5)

-- empty tables have no fact
pub no_facts : (tables : List TermTable) → All (λ table. table ≡ []) tables → (fact : TargetFact) → ¬ (Contains (table_facts tables) fact)
no_facts tables empty fact c =
    let h = from_facts tables fact c in
    let none = All-contains (λ (table : TermTable). table ≡ []) tables h.1 empty (contains_from_at tables h.0 h.1 h.3) in
    Contains-nil h.2 (subst (λ (l : TermTable). Contains l h.2) none h.4)

-- one entry more

module _ (tables : List TermTable) (k : ℕ) (table : TermTable) (at : slice_get tables k ≡ Some table) (e : Entry) where
  abbrev longer : TermTable
  longer = table ++ e ∷ []

  abbrev pub grown : List TermTable
  grown = set tables k longer

  grown_here : slice_get grown k ≡ Some longer
  grown_here =
      let inside = slice_get_within tables k table at in
      slice_get-get_or grown k longer (omega (arith, inside, length-set tables k longer))
      ∙ ap Some (get_or-set_same tables k longer longer inside)

  grown_there : (j : ℕ) → ¬ (j ≡ k) → (other : TermTable) → slice_get tables j ≡ Some other → slice_get grown j ≡ Some other
  grown_there j apart other is =
      let inside = slice_get_within tables j other is in
      slice_get-get_or grown j other (omega (arith, inside, length-set tables k longer))
      ∙ ap Some (get_or-set_other tables k j longer other apart ∙ get_or_from_slice_get tables j other other is)

  from_grown : (j : ℕ) → ¬ (j ≡ k) → (other : TermTable) → slice_get grown j ≡ Some other → slice_get tables j ≡ Some other
  from_grown j apart other is =
      let inside = slice_get_within grown j other is in
      slice_get-get_or tables j other (omega (arith, inside, length-set tables k longer))
      ∙ ap Some (sym (get_or-set_other tables k j longer other apart) ∙ get_or_from_slice_get grown j other other is)

  pub more_facts : (fact : TargetFact) → Contains (table_facts grown) fact ↔ (Contains (table_facts tables) fact ⊎ (fact_for k e ≡ fact))
  more_facts fact = (λ c. to (from_facts grown fact c), from)
    where
      to : IsEntryFact grown fact → Contains (table_facts tables) fact ⊎ (fact_for k e ≡ fact)
      to h = elim (cases_eq h.0 k) [
        | inl here ↦
            let same : h.1 ≡ longer =
            same_some (slice_get grown k) h.1 longer (subst (λ j. slice_get grown j ≡ Some h.1) here h.3) grown_here in
            elim (Contains-push_cases table e h.2 (subst (λ (l : TermTable). Contains l h.2) same h.4)) [
              | inl old ↦ inl (subst (Contains (table_facts tables)) (ap (λ j. fact_for j h.2) (sym here) ∙ h.5)
                  (in_facts tables k table h.2 at old))
              | inr new ↦ inr (ap (fact_for k) new ∙ ap (λ j. fact_for j h.2) (sym here) ∙ h.5)
            ]
        | inr apart ↦ inl (subst (Contains (table_facts tables)) h.5 (in_facts tables h.0 h.1 h.2 (from_grown h.0 apart h.1 h.3) h.4))
      ]

      kept : IsEntryFact tables fact → Contains (table_facts grown) fact
      kept h = elim (cases_eq h.0 k) [
        | inl here ↦
            let same : h.1 ≡ table = same_some (slice_get tables k) h.1 table (subst (λ j. slice_get tables j ≡ Some h.1) here h.3) at in
            let old = subst (λ (l : TermTable). Contains l h.2) same h.4 in
            subst (Contains (table_facts grown)) (ap (λ j. fact_for j h.2) (sym here) ∙ h.5)
            (in_facts grown k longer h.2 grown_here (Contains-append_left table (e ∷ []) h.2 old))
        | inr apart ↦ subst (Contains (table_facts grown)) h.5 (in_facts grown h.0 h.1 h.2 (grown_there h.0 apart h.1 h.3) h.4)
      ]

      from : Contains (table_facts tables) fact ⊎ (fact_for k e ≡ fact) → Contains (table_facts grown) fact
      from (inl c) = kept (from_facts tables fact c)
      from (inr is) = subst (Contains (table_facts grown)) is (in_facts grown k longer e grown_here (Contains-push table e))
