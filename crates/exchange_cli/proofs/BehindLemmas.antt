-- Why the stored tables are the end state of the run behind them, with texts for constants and numbers for unknowns.
use Rattle.std.proofs.Common.{◌≡◌, ℕ, ℤ, List, map, refl, sym, ap, ◌∙◌, subst, Contains}
use Rattle.std.specs.Cmp.Lexicographic.{slice_cmp}
use Rattle.std.proofs.lemmas.List.Elements.{All-contains}
use Rattle.time_line.specs.Span.{HasInstant}
use Rattle.term_core.specs.declared.const_id.ConstId.{ConstId}
use Rattle.term_core.specs.declared.term.Unknown.{Unknown as HeldUnknown}
use Rattle.term_core.specs.declared.term.Term.{Term}
use Rattle.term_core.specs.declared.term.Term.TheVariants.{Const, Null}
use Rattle.term_core.specs.Order.{term_cmp}
use Rattle.rule_core.specs.Coalesced.{IsCoalesced}
use Rattle.rule_core.specs.Terms.{unknown, FactOf, StampedOf}
use Rattle.rule_core.specs.Values.{unknown_value, term_value, table_value}
use Rattle.rule_core.specs.Tables.{facts_of}
use Rattle.rule_core.specs.Snapshot.{snapshot_at}
use Rattle.rule_core.specs.Renaming.{HoldTheSame, HasUnknown}
use Rattle.rule_core.proofs.ListLemmas.{Contains-map, Contains-from_map}
use Rattle.rule_core.proofs.SnapshotLemmas.{snapshot_covers, covered_in_snapshot}
use Rattle.body_match.proofs.ListLemmas.{contains_from_at, at_from_contains}
use Rattle.failure_trace.specs.JournalRun.{RowOf}
use Rattle.exchange_engine.specs.Solved.{TermTable, AreCoalesced, AreUnknownsOf, IsUnknownOf, HoldSnapshotsOf}
use Rattle.exchange_engine.proofs.TableFactLemmas.{fact_for, in_facts, from_facts}
use Rattle.exchange_cli.specs.Rendering.{stored_term, stored_table}
use Rattle.exchange_cli.specs.RunBehind.{told_term, told_fact, AreStoredOf}
use Rattle.exchange_cli.proofs.FactTextLemmas.{snapshot_retold}

-- lists of facts that hold the same hold the same when they are told
told_the_same : {C D : Type 0} (f : FactOf C → FactOf D) (a b : List (FactOf C)) → HoldTheSame a b → HoldTheSame (map f a) (map f b)
told_the_same f a b same fact = (
  λ c. let from = Contains-from_map f a fact c in subst (Contains (map f b)) from.2 (Contains-map f b from.0 ((same from.0).0 from.1)),
  λ c. let from = Contains-from_map f b fact c in subst (Contains (map f a)) from.2 (Contains-map f a from.0 ((same from.0).1 from.1)),
)

-- a term is told as it is stored
told_is_stored : (pool : List (List ℕ)) (nulls : List HeldUnknown) (x : Term) → told_term pool nulls (term_value x) ≡ stored_term pool nulls x
told_is_stored pool nulls (Const c) = refl
told_is_stored pool nulls (Null u) = refl

-- a term whose value is that of an unknown is this unknown
is_unknown : (u : HeldUnknown) (x : Term) → term_value x ≡ unknown (unknown_value u) → x ≡ Null u
is_unknown u (Const c) same = absurd cc
is_unknown u (Null w) same =
    let rule : w.rule ≡ u.rule = cc in
    let frontier : w.frontier ≡ u.frontier = cc in
    let var : w.var ≡ u.var = cc in
    λ i. Null (record { rule = rule i; frontier = frontier i; var = var i })

module _ (pool : List (List ℕ)) (tables : List TermTable) (nulls : List HeldUnknown) (rows : List (RowOf ConstId))
    (coalesced : AreCoalesced tables) (unknowns : AreUnknownsOf tables nulls) (same : HoldSnapshotsOf rows tables) where
  -- the facts of the tables, over their spans
  abbrev held : List (StampedOf (FactOf ConstId))
  held = facts_of (map table_value tables)

  -- an unknown of a table is held at some instant
  held_sometime : (u : HeldUnknown) → IsUnknownOf tables u → (t : ℤ) × HasUnknown (snapshot_at rows t) (unknown_value u)
  held_sometime u h =
      let table = h.1 in
      let e = h.4.1 in
      let of_tables : Contains tables table = (h.0, h.2, h.3) in
      let of_table : Contains table e = (h.4.0, h.4.2, h.4.3) in
      let place = at_from_contains tables table of_tables in
      let stamped = fact_for place.0 e in
      let one = All-contains (IsCoalesced (slice_cmp term_cmp)) tables table coalesced of_tables in
      let instant = All-contains (λ (d : StampedOf (List Term)). HasInstant d.span) table e one.spans of_table in
      let there = in_facts tables place.0 table e place.1 of_table in
      let shown = covered_in_snapshot held stamped.row instant.0 (there.0, stamped, there.1, there.2, (refl, instant.1)) in
      let kept = (same instant.0 stamped.row).0 shown in
      (instant.0, (kept.0, stamped.row, kept.1, kept.2, Contains-map term_value e.row (Null u) h.4.4))

  -- and what is held at some instant is an unknown of a table
  held_in_tables : (u : HeldUnknown) (t : ℤ) → HasUnknown (snapshot_at rows t) (unknown_value u) → IsUnknownOf tables u
  held_in_tables u t h =
      let fact = h.1 in
      let shown = (same t fact).1 (h.0, h.2, h.3) in
      let covers = snapshot_covers held fact t shown in
      let from = from_facts tables covers.1 (covers.0, covers.2, covers.3) in
      let terms : map term_value from.2.row ≡ fact.terms =
      ap (λ (s : StampedOf (FactOf ConstId)). s.row.terms) from.5 ∙ ap (λ (f : FactOf ConstId). f.terms) covers.4.0 in
      let x = Contains-from_map term_value from.2.row (unknown (unknown_value u))
      (subst (λ l. Contains l (unknown (unknown_value u))) (sym terms) h.4) in
      let null = subst (Contains from.2.row) (is_unknown u x.0 x.2) x.1 in
      let table = contains_from_at tables from.0 from.1 from.3 in
      (table.0, from.1, table.1, table.2, (from.4.0, from.2, from.4.1, from.4.2, null))

  pub are_stored : AreStoredOf pool rows (map (stored_table pool nulls) tables)
  are_stored = record {
    nulls = nulls;
    unknowns = record {
      each = λ u. (λ c. held_sometime u ((unknowns.each u).0 c), λ h. (unknowns.each u).1 (held_in_tables u h.0 h.1));
      ascending = unknowns.ascending;
    };
    same = λ t.
        subst (λ l. HoldTheSame l (map (told_fact pool nulls) (snapshot_at rows t)))
        (snapshot_retold term_value (told_term pool nulls) (stored_term pool nulls) tables (λ x there. told_is_stored pool nulls x) t)
        (told_the_same (told_fact pool nulls) (snapshot_at held t) (snapshot_at rows t) (same t));
  }
