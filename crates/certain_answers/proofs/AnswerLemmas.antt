-- What the rows of matches have to do with the answers of a query.
use Rattle.std.proofs.Common.{◌≡◌, ◌⊎◌, ◌↔◌, inl, inr, ℕ, ℤ, ◌+◌, ◌<◌, Bool, true, false, Option, Some, None, List, [], ◌∷◌, ◌++◌, length, map, take, get_or}
use Rattle.std.proofs.Common.{refl, sym, ap, ◌∙◌, subst, arith, Any, Contains}
use Rattle.std.specs.Prelude.{slice_get}
use Rattle.std.proofs.lemmas.List.{length-map, map-append, take_more, append-nil}
use Rattle.std.proofs.lemmas.List.Elements.{Contains-append_left, Contains-push, Contains-push_cases}
use Rattle.std.proofs.lemmas.Option.{slice_get-get_or}
use Rattle.time_line.specs.Span.{Has}
use Rattle.term_core.specs.declared.const_id.ConstId.{ConstId}
use Rattle.term_core.specs.declared.term.Term.{Term}
use Rattle.term_core.specs.declared.term.Term.TheVariants.{Const}
use Rattle.term_core.specs.declared.term.Seen.{Seen}
use Rattle.term_core.specs.declared.term.Seen.TheVariants as cells
use Rattle.rule_core.specs.declared.rules.Branch.{Branch}
use Rattle.rule_core.specs.declared.rules.Query.{Query}
use Rattle.rule_core.specs.Terms.{TermOf, constant, StampedOf}
use Rattle.rule_core.specs.Coalesced.{Covers}
use Rattle.rule_core.proofs.ListLemmas.{Contains-nil, Contains-head, Contains-cons, Contains-cons_cases}
use Rattle.fact_table.specs.Rows.{SeenRow}
use Rattle.fact_table.specs.Snapshots.{seen_term}
use Rattle.body_match.specs.declared.found.Match.{Match}
use Rattle.body_match.specs.Matches.{IsMatch, AreMatches}
use Rattle.body_match.specs.Snapshots.{AgreesWith}
use Rattle.body_match.specs.Visits.{TakesInTurn}
use Rattle.body_match.proofs.ListLemmas.{at_within, maps_at}
use Rattle.body_match.proofs.SnapshotLemmas.{facts_from_match, match_from_facts}
use Rattle.certain_answers.specs.declared.collecting.Collector.{Collector}
use Rattle.certain_answers.specs.Answering.{IsAnswerable, IsBranchRow, CoversAnswers}
use Rattle.certain_answers.specs.Collected.{constant_shown, IsShown, IsEntryOf, Adds, Collects, AddsBranch}

-- a row of terms over its span
abbrev pub Entry : Type 0
Entry = StampedOf (List Term)

-- the row of some columns

pub shown_none : (values : List Seen) → IsShown [] values []
shown_none values = ([], refl, refl)

pub shown_more : (columns : List ℕ) (values : List Seen) (row : List Term) (i v : ℕ) (c : ConstId) → i < length columns
    → v ≡ get_or columns i v → slice_get values v ≡ Some (cells.Const c) → IsShown (take i columns) values row
    → IsShown (take (i + 1) columns) values (row ++ Const c ∷ [])
shown_more columns values row i v c within is there shown = (
  shown.0 ++ c ∷ [],
  ap (λ l. l ++ Const c ∷ []) shown.1 ∙ sym (map-append Const shown.0 (c ∷ [])),
  ap (map (λ w. slice_get values w)) (take_more columns i v within ∙ ap (λ w. take i columns ++ w ∷ []) (sym is))
      ∙ map-append (λ w. slice_get values w) (take i columns) (v ∷ [])
      ∙ (λ k. shown.2 k ++ there k ∷ [])
      ∙ sym (map-append (λ d. Some (cells.Const d)) shown.0 (c ∷ [])),
)

-- where the value of a column is no constant, there is no row
pub hidden : (columns : List ℕ) (values : List Seen) (i v : ℕ) → i < length columns → v ≡ get_or columns i v
    → ((c : ConstId) → ¬ (slice_get values v ≡ Some (cells.Const c))) → (row : List Term) → ¬ (IsShown columns values row)
hidden columns values i v within is never row shown =
    let size : length columns ≡ length shown.0 =
    sym (length-map columns (λ w. slice_get values w)) ∙ ap length shown.2 ∙ length-map shown.0 (λ d. Some (cells.Const d)) in
    let c = at_within shown.0 i (omega (arith, within, size)) in
    let column : slice_get columns i ≡ Some v = slice_get-get_or columns i v within ∙ ap Some (sym is) in
    never c.0 (maps_at (λ w. slice_get values w) (λ d. Some (cells.Const d)) columns shown.0 shown.2 i v c.0 column c.1)

-- a value that is a constant
pub constant_read : (o : Option Seen) (c : ConstId) → constant_shown o ≡ Some c → o ≡ Some (cells.Const c)
constant_read None c e = absurd cc
constant_read (Some (cells.Const d)) c e = let same : d ≡ c = cc in ap (λ k. Some (cells.Const k)) same
constant_read (Some (cells.Piece p)) c e = absurd cc

-- and one that is none
pub none_read : (o : Option Seen) → constant_shown o ≡ None → (c : ConstId) → ¬ (o ≡ Some (cells.Const c))
none_read None e c is = absurd cc
none_read (Some (cells.Const d)) e c is = absurd cc
none_read (Some (cells.Piece p)) e c is = absurd cc

-- one entry more

pub adds_one : (list : List Entry) (entry : Entry) → Adds list (list ++ entry ∷ []) (λ e. entry ≡ e)
adds_one list entry e = (
  λ c. Contains-push_cases list entry e c,
  λ h. elim h [
    | inl c ↦ Contains-append_left list (entry ∷ []) e c
    | inr same ↦ subst (Contains (list ++ entry ∷ [])) same (Contains-push list entry)
  ],
)

-- the entry of a match that has one is there too

module _ (columns : List ℕ) (found : Match) (row : List Term) (shown : IsShown columns found.binding row) where
  rows_same : (constants more : List ConstId)
      → map (λ c. Some (cells.Const c)) constants ≡ map (λ c. Some (cells.Const c)) more → map Const constants ≡ map Const more
  rows_same [] [] e = refl
  rows_same [] (d ∷ more) e = absurd cc
  rows_same (c ∷ constants) [] e = absurd cc
  rows_same (c ∷ constants) (d ∷ more) e =
      let first : c ≡ d = cc in
      let rest : map (λ c. Some (cells.Const c)) constants ≡ map (λ c. Some (cells.Const c)) more = cc in
      let later = rows_same constants more rest in
      λ i. Const (first i) ∷ later i

  pub one_entry : (old new : List Entry) (entry : Entry) → entry.row ≡ row → entry.span ≡ found.span → Adds old new (λ e. entry ≡ e)
      → Adds old new (IsEntryOf columns found)
  one_entry old new entry row_is span_is adds e = (
    λ c. elim ((adds e).0 c) [
      | inl there ↦ inl there
      | inr same ↦ inr (subst (IsEntryOf columns found) same (record { row = subst (IsShown columns found.binding) (sym row_is) shown; span = span_is }))
    ],
    λ h. elim h [
      | inl there ↦ (adds e).1 (inl there)
      | inr is ↦
          let rows = row_is ∙ shown.1 ∙ rows_same shown.0 is.row.0 (sym shown.2 ∙ is.row.2) ∙ sym is.row.1 in
          let spans = span_is ∙ sym is.span in
          (adds e).1 (inr (λ i. record { row = rows i; span = spans i }))
    ],
  )

pub no_entry : (columns : List ℕ) (found : Match) (list : List Entry) → ((row : List Term) → ¬ (IsShown columns found.binding row))
    → Adds list list (IsEntryOf columns found)
no_entry columns found list never e = (
  λ c. inl c,
  λ h. elim h [
    | inl c ↦ c
    | inr is ↦ absurd (never e.row is.row)
  ],
)

-- those of all matches

abbrev pub IsEntryAmong : List ℕ → List Match → Entry → Type 0
IsEntryAmong columns list entry = (found : Match) × Contains list found × IsEntryOf columns found entry

pub collected : (old new : Collector) (list : List Match) → TakesInTurn Collects old list new
    → Adds old.rows.items new.rows.items (IsEntryAmong old.columns.now list)
collected old new [] same e = (
  λ c. inl (subst (λ (s : Collector). Contains s.rows.items e) (sym same) c),
  λ h. elim h [
    | inl c ↦ subst (λ (s : Collector). Contains s.rows.items e) same c
    | inr k ↦ absurd (Contains-nil k.0 k.1)
  ],
)
collected old new (found ∷ list) took e =
    let rest = collected took.0 new list took.2 e in (
      λ c. elim (rest.0 c) [
        | inl before ↦ elim ((took.1.rows e).0 before) [
          | inl there ↦ inl there
          | inr is ↦ inr (found, Contains-head found list, is)
        ]
        | inr k ↦ inr (k.0, Contains-cons found k.0 list k.1, subst (λ cs. IsEntryOf cs k.0 e) (sym took.1.columns) k.2)
      ],
      λ h. elim h [
        | inl there ↦ rest.1 (inl ((took.1.rows e).1 (inl there)))
        | inr k ↦ elim (Contains-cons_cases found k.0 list k.1) [
          | inl same ↦ rest.1 (inl ((took.1.rows e).1 (inr (subst (λ (m : Match). IsEntryOf old.columns.now m e) (sym same) k.2))))
          | inr later ↦ rest.1 (inr (k.0, later, subst (λ cs. IsEntryOf cs k.0 e) took.1.columns k.2))
        ]
      ],
    )

-- matches and answers

-- what a value shows, and some constant where there is none
abbrev shown_value : Option Seen → TermOf ConstId
shown_value None = constant (record { 0 = 0 })
shown_value (Some cell) = seen_term cell

abbrev given : List Seen → ℕ → TermOf ConstId
given values v = shown_value (slice_get values v)

given_columns : (values : List Seen) (columns : List ℕ) (constants : List ConstId)
    → map (λ v. slice_get values v) columns ≡ map (λ c. Some (cells.Const c)) constants → map (given values) columns ≡ map constant constants
given_columns values [] [] e = refl
given_columns values [] (c ∷ constants) e = absurd cc
given_columns values (v ∷ columns) [] e = absurd cc
given_columns values (v ∷ columns) (c ∷ constants) e =
    let first : slice_get values v ≡ Some (cells.Const c) = cc in
    let rest : map (λ v. slice_get values v) columns ≡ map (λ c. Some (cells.Const c)) constants = cc in
    let later = given_columns values columns constants rest in
    λ i. shown_value (first i) ∷ later i

-- the cell that shows a constant
shows : (cell : Seen) (c : ConstId) → seen_term cell ≡ constant c → cell ≡ cells.Const c
shows (cells.Const d) c e = let same : d ≡ c = cc in ap cells.Const same
shows (cells.Piece p) c e = absurd cc

columns_shown : (values : List Seen) (binding : ℕ → TermOf ConstId) → AgreesWith values binding → (columns : List ℕ) (constants : List ConstId)
    → ((v : ℕ) → Contains columns v → v < length values) → map binding columns ≡ map constant constants
    → map (λ v. slice_get values v) columns ≡ map (λ c. Some (cells.Const c)) constants
columns_shown values binding agrees [] [] within e = refl
columns_shown values binding agrees [] (c ∷ constants) within e = absurd cc
columns_shown values binding agrees (v ∷ columns) [] within e = absurd cc
columns_shown values binding agrees (v ∷ columns) (c ∷ constants) within e =
    let first : binding v ≡ constant c = cc in
    let rest : map binding columns ≡ map constant constants = cc in
    let cell = at_within values v (within v (Contains-head v columns)) in
    let is = shows cell.0 c (sym (agrees v cell.0 cell.1) ∙ first) in
    let here : slice_get values v ≡ Some (cells.Const c) = cell.1 ∙ ap Some is in
    let later = columns_shown values binding agrees columns constants (λ w k. within w (Contains-cons v w columns k)) rest in
    λ i. here i ∷ later i

module _ (rows : List (Option SeenRow)) (branch : Branch) (answerable : IsAnswerable branch) where
  -- a row of all matches is an answer, and each answer is such a row
  pub branch_added : (old new : List Entry) (list : List Match)
      → ((found : Match) → Contains list found ↔ IsMatch branch.body (length branch.vars) rows found)
      → Adds old new (IsEntryAmong branch.columns list) → AddsBranch rows branch old new
  branch_added old new list each adds row t = (to, from)
    where
      to : Covers new row t → Covers old row t ⊎ IsBranchRow rows t row branch
      to c = elim ((adds c.1).0 (c.0, c.2, c.3)) [
        | inl there ↦ inl (there.0, c.1, there.1, there.2, c.4)
        | inr k ↦
            let found = k.0 in
            let shown = k.2.row in
            let has = subst (λ s. Has s t) k.2.span c.4.1 in
            let whole = (each found).0 k.1 in
            inr (
              shown.0,
              sym c.4.0 ∙ shown.1,
              (
                given found.binding,
                facts_from_match branch.body (length branch.vars) rows answerable.vars (given found.binding) t found whole has
                    (λ v value e. ap shown_value e),
                given_columns found.binding branch.columns shown.0 shown.2,
              ),
            )
      ]

      from : Covers old row t ⊎ IsBranchRow rows t row branch → Covers new row t
      from (inl c) = let k = (adds c.1).1 (inl (c.0, c.2, c.3)) in (k.0, c.1, k.1, k.2, c.4)
      from (inr h) =
          let answer = h.2 in
          let m = match_from_facts branch.body (length branch.vars) rows answerable.vars answer.0 t answer.1 in
          let found = m.0 in
          let below : (v : ℕ) → Contains branch.columns v → v < length found.binding =
          λ v k. subst (λ n. v < n) (sym m.1.values) (subst (λ w. w < length branch.vars) k.2 (answerable.columns k.0 v k.1)) in
          let shown = columns_shown found.binding answer.0 m.3 branch.columns h.0 below answer.2 in
          let entry : Entry = record { row = row; span = found.span } in
          let k = (adds entry).1 (inr (found, (each found).1 m.1, record { row = (h.0, h.1, shown); span = refl })) in
          (k.0, entry, k.1, k.2, (refl, m.2))

  -- so it is where a collector that never stops is given all matches
  pub branch_collected : (old new : Collector) (whole : Bool) → (whole ≡ false → ⊥) → old.columns.now ≡ branch.columns
      → ((list : List Match) × (rest : List Match) × AreMatches branch.body (length branch.vars) rows (list ++ rest)
      × (whole ≡ true → rest ≡ []) × TakesInTurn Collects old list new)
      → AddsBranch rows branch old.rows.items new.rows.items
  branch_collected old new false stops columns h = absurd (stops refl)
  branch_collected old new true stops columns h =
      let all : AreMatches branch.body (length branch.vars) rows h.0 =
      subst (AreMatches branch.body (length branch.vars) rows) (ap (λ l. h.0 ++ l) (h.3 refl) ∙ append-nil h.0) h.2 in
      branch_added old.rows.items new.rows.items h.0 all.each
      (subst (λ cs. Adds old.rows.items new.rows.items (IsEntryAmong cs h.0)) columns (collected old new h.0 h.4))

-- all disjuncts

-- the list covers the answers of these
abbrev pub CoversBranches : List (Option SeenRow) → List Branch → List Entry → Type 0
CoversBranches rows branches list = (row : List Term) (t : ℤ) → Covers list row t ↔ Any (IsBranchRow rows t row) branches

pub covers_none : (rows : List (Option SeenRow)) (list : List Entry) → list ≡ [] → CoversBranches rows [] list
covers_none rows list is row t = (
  λ c. absurd (Contains-nil c.1 (subst (λ l. Contains l c.1) is (c.0, c.2, c.3))),
  λ h. absurd (Contains-nil h.1 (h.0, h.2, h.3)),
)

pub covers_more : (rows : List (Option SeenRow)) (branches : List Branch) (i : ℕ) (branch : Branch) (old new : List Entry)
    → i < length branches → branch ≡ get_or branches i branch → CoversBranches rows (take i branches) old
    → AddsBranch rows branch old new → CoversBranches rows (take (i + 1) branches) new
covers_more rows branches i branch old new within is before adds =
    subst (λ l. CoversBranches rows l new)
    (sym (take_more branches i branch within ∙ ap (λ b. take i branches ++ b ∷ []) (sym is)))
    (λ row t. (
      λ c. elim ((adds row t).0 c) [
        | inl there ↦
            let a = (before row t).0 there in
            let k = Contains-append_left (take i branches) (branch ∷ []) a.1 (a.0, a.2, a.3) in
            (k.0, a.1, k.1, k.2, a.4)
        | inr here ↦ let k = Contains-push (take i branches) branch in (k.0, branch, k.1, k.2, here)
      ],
      λ a. elim (Contains-push_cases (take i branches) branch a.1 (a.0, a.2, a.3)) [
        | inl there ↦ (adds row t).1 (inl ((before row t).1 (there.0, a.1, there.1, there.2, a.4)))
        | inr same ↦ (adds row t).1 (inr (subst (IsBranchRow rows t row) (sym same) a.4))
      ],
    ))

pub covers_all : (rows : List (Option SeenRow)) (query : Query) (list result : List Entry) → CoversBranches rows query.branches list
    → ((row : List Term) (t : ℤ) → Covers result row t ↔ Covers list row t) → CoversAnswers query rows result
covers_all rows query list result all same row t = (
  λ c. let a = (all row t).0 ((same row t).0 c) in (a.4.0, a.4.1, (a.0, a.1, a.2, a.3, a.4.2)),
  λ h. (same row t).1 ((all row t).1 (h.2.0, h.2.1, h.2.2, h.2.3, (h.0, h.1, h.2.4))),
)
