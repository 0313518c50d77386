-- What a table holds at an instant, by its facts.
use Rattle.std.proofs.Common.{◌≡◌, ℕ, ℤ, List, [], ◌∷◌, map, refl, sym, ap, ◌∙◌, subst, Contains}
use Rattle.time_line.specs.Span.{Has}
use Rattle.term_core.specs.declared.const_id.ConstId.{ConstId}
use Rattle.term_core.specs.declared.term.Seen.TheVariants.{Const}
use Rattle.rule_core.specs.Terms.{TermOf, FactOf, StampedOf, constant, unknown}
use Rattle.rule_core.specs.Coalesced.{Covers}
use Rattle.rule_core.proofs.ListLemmas.{Contains-map, Contains-from_map}
use Rattle.rule_core.proofs.SnapshotLemmas.{snapshot_covers, covered_in_snapshot}
use Rattle.fact_table.specs.declared.fact.Fact.{Fact}
use Rattle.fact_table.specs.Facts.{HasAt}
use Rattle.fact_table.specs.Rows.{rows_of}
use Rattle.fact_table.specs.Snapshots.{seen_term, facts_of, constants_fact, with_terms, stamped_facts, snapshot_of}

same_terms : (row : List ConstId) → map seen_term (map Const row) ≡ map constant row
same_terms [] = refl
same_terms (c ∷ row) = λ i. constant c ∷ same_terms row i

-- the rows of a table are its facts
pub same_facts : (facts : List Fact) → facts_of (rows_of facts) ≡ map with_terms facts
same_facts [] = refl
same_facts (fact ∷ facts) =
    λ i. record { row = record { relation = fact.relation; terms = same_terms fact.row i }; span = fact.span } ∷ same_facts facts i

-- constants read off terms
constants_of : List (TermOf ConstId) → List ConstId
constants_of [] = []
constants_of (constant c ∷ terms) = c ∷ constants_of terms
constants_of (unknown u ∷ terms) = constants_of terms

constants_back : (row : List ConstId) → constants_of (map constant row) ≡ row
unfolding constants_of
constants_back [] = refl
constants_back (c ∷ row) = λ i. c ∷ constants_back row i

same_constants : (a b : List ConstId) → map constant a ≡ map constant b → a ≡ b
same_constants a b e = sym (constants_back a) ∙ ap constants_of e ∙ constants_back b

-- a fact of the table with the instant is one that the snapshot holds
pub in_snapshot : (facts : List Fact) (fact : Fact) (t : ℤ) → Contains facts fact → Has fact.span t
    → Contains (snapshot_of facts t) (constants_fact fact.relation fact.row)
in_snapshot facts fact t c has =
    let d = Contains-map with_terms facts fact c in
    let there : Covers (map with_terms facts) (constants_fact fact.relation fact.row) t = (d.0, with_terms fact, d.1, d.2, (refl, has)) in
    covered_in_snapshot (stamped_facts facts) (constants_fact fact.relation fact.row) t
    (subst (λ (l : List (StampedOf (FactOf ConstId))). Covers l (constants_fact fact.relation fact.row) t) (sym (same_facts facts)) there)

-- and each fact that the snapshot holds is one of the table's
pub from_snapshot : (facts : List Fact) (row : FactOf ConstId) (t : ℤ) → Contains (snapshot_of facts t) row
    → (fact : Fact) × Contains facts fact × (constants_fact fact.relation fact.row ≡ row) × Has fact.span t
from_snapshot facts row t c =
    let covers = snapshot_covers (stamped_facts facts) row t c in
    let there = subst (λ (l : List (StampedOf (FactOf ConstId))). Covers l row t) (same_facts facts) covers in
    let made = Contains-from_map with_terms facts there.1 (there.0, there.2, there.3) in (
      made.0,
      made.1,
      ap (λ (s : StampedOf (FactOf ConstId)). s.row) made.2 ∙ there.4.0,
      subst (λ (s : StampedOf (FactOf ConstId)). Has s.span t) (sym made.2) there.4.1,
    )

-- what the table has at an instant is what its snapshot holds
pub has_in_snapshot : (facts : List Fact) (relation : ℕ) (row : List ConstId) (t : ℤ) → HasAt facts relation row t
    → Contains (snapshot_of facts t) (constants_fact relation row)
has_in_snapshot facts relation row t h =
    let same : constants_fact h.1.relation h.1.row ≡ constants_fact relation row = λ i. constants_fact (h.4.0 i) (h.4.1 i) in
    subst (Contains (snapshot_of facts t)) same (in_snapshot facts h.1 t (h.0, h.2, h.3) h.4.2)

pub snapshot_has : (facts : List Fact) (relation : ℕ) (row : List ConstId) (t : ℤ)
    → Contains (snapshot_of facts t) (constants_fact relation row) → HasAt facts relation row t
snapshot_has facts relation row t c =
    let d = from_snapshot facts (constants_fact relation row) t c in
    let place = d.1 in
    let same = same_constants d.0.row row (ap (λ (f : FactOf ConstId). f.terms) d.2) in
    (place.0, d.0, place.1, place.2, (ap (λ (f : FactOf ConstId). f.relation) d.2, same, d.3))
