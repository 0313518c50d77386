-- What a table holds at an instant, as facts and by relation and row.
use Rattle.std.proofs.Common.{◌≡◌, ℕ, ℤ, List, [], ◌∷◌, map, refl, sym, ap, ◌∙◌, subst, ⊎_elim, Contains}
use Rattle.time_line.specs.Span.{Has}
use Rattle.term_core.specs.declared.const_id.ConstId.{ConstId}
use Rattle.term_core.specs.declared.term.Seen.TheVariants.{Const}
use Rattle.rule_core.specs.Terms.{FactOf, StampedOf}
use Rattle.rule_core.proofs.ListLemmas.{Contains-head, Contains-cons, Contains-cons_cases, Contains-nil}
use Rattle.rule_core.proofs.SnapshotLemmas.{snapshot_covers, covered_in_snapshot}
use Rattle.fact_table.specs.declared.fact.Fact.{Fact}
use Rattle.fact_table.specs.Facts.{HasAt}
use Rattle.fact_table.specs.Rows.{row_of, rows_of}
use Rattle.fact_table.specs.Snapshots.{seen_term, fact_of, facts_of}
use Rattle.fact_table.specs.Snapshots.{snapshot_of}

-- a fact of a table is a fact with terms, and each such fact is one of the table
in_facts : (facts : List Fact) (fact : Fact) → Contains facts fact → Contains (facts_of (rows_of facts)) (fact_of (row_of fact))
in_facts [] fact c = absurd (Contains-nil fact c)
in_facts (f ∷ fs) fact c = ⊎_elim
    (λ (e : f ≡ fact). subst (λ (g : Fact). Contains (facts_of (rows_of (f ∷ fs))) (fact_of (row_of g))) e
    (Contains-head (fact_of (row_of f)) (facts_of (rows_of fs))))
    (λ (d : Contains fs fact). Contains-cons (fact_of (row_of f)) (fact_of (row_of fact)) (facts_of (rows_of fs)) (in_facts fs fact d))
    (Contains-cons_cases f fact fs c)

from_facts : (facts : List Fact) (e : StampedOf (FactOf ConstId)) → Contains (facts_of (rows_of facts)) e
    → (fact : Fact) × Contains facts fact × (fact_of (row_of fact) ≡ e)
from_facts [] e c = absurd (Contains-nil e c)
from_facts (f ∷ fs) e c = ⊎_elim
    (λ (same : fact_of (row_of f) ≡ e). (f, Contains-head f fs, same))
    (λ (d : Contains (facts_of (rows_of fs)) e). let h = from_facts fs e d in (h.0, Contains-cons f h.0 fs h.1, h.2))
    (Contains-cons_cases (fact_of (row_of f)) e (facts_of (rows_of fs)) c)

-- facts with one relation and one row are one fact with terms
same_row : (a b : Fact) (e : StampedOf (FactOf ConstId)) (fact : FactOf ConstId) → b.relation ≡ a.relation → b.row ≡ a.row
    → fact_of (row_of a) ≡ e → e.row ≡ fact → (fact_of (row_of b)).row ≡ fact
same_row a b e fact relation row stamped at =
    let alike : (fact_of (row_of b)).row ≡ (fact_of (row_of a)).row =
    λ i. record { relation = relation i; terms = map seen_term (map Const (row i)) } in
    alike ∙ ap (λ (s : StampedOf (FactOf ConstId)). s.row) stamped ∙ at

-- where one table holds what another does, its snapshot has the other's facts
pub snapshot_moves : (a b : List Fact) (t : ℤ) → ((relation : ℕ) (row : List ConstId) → HasAt a relation row t → HasAt b relation row t)
    → (fact : FactOf ConstId) → Contains (snapshot_of a t) fact → Contains (snapshot_of b t) fact
snapshot_moves a b t moves fact c =
    let h = snapshot_covers (facts_of (rows_of a)) fact t c in
    let f = from_facts a h.1 (h.0, h.2, h.3) in
    let has : Has f.0.span t = subst (λ (e : StampedOf (FactOf ConstId)). Has e.span t) (sym f.2) h.4.1 in
    let g = moves f.0.relation f.0.row (f.1.0, f.0, f.1.1, f.1.2, (refl, refl, has)) in
    let d = in_facts b g.1 (g.0, g.2, g.3) in
    let same = same_row f.0 g.1 h.1 fact g.4.0 g.4.1 f.2 h.4.0 in
    subst (Contains (snapshot_of b t)) same
    (covered_in_snapshot (facts_of (rows_of b)) (fact_of (row_of g.1)).row t (d.0, fact_of (row_of g.1), d.1, d.2, (refl, g.4.2)))
