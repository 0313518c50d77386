-- What is stored is read back, and in one way.
use Rattle.std.proofs.Common.{◌≡◌, ◌==◌, ◌++◌, ◌∷◌, ◌∙◌, ◌≤◌, ◌<◌, ◌+◌, ◌-◌, ◌*◌, ◌/◌, ◌%◌, ◌^◌, [], ℕ, ℤ, List, Some, None, Option, refl, sym, ap, false, append_assoc, inl, inr, arith, length, length-append, map}
use Rattle.std.specs.Prelude.{◌⊎◌, All, if◌then◌else◌}
use Rattle.std.specs.List.{AllZip, AllByRecursion, flat_map, list_any}
use Rattle.std.specs.Fmt.{decimal}
use Rattle.std.proofs.lemmas.List.{append-nil}
use Rattle.std.proofs.lemmas.List.Elements.{All-head, All-map, All-tail}
use Rattle.std.proofs.lemmas.List.Sums.{fold-append}
use Rattle.std.proofs.lemmas.Bool.{cases_Bool, cases_lt, eq-eqb, eqb-true, ne_eqb}
use Rattle.std.proofs.lemmas.Fmt.{decimal_by_steps}
use Rattle.csv.specs.Machine.{next_record}
use Rattle.csv.specs.Reading.{Reached, default_config, strip_bom}
use Rattle.csv.specs.Writing.{default_writer, field_text, fields_text, is_blank, needs_byte, read_back, row_text}
use Rattle.csv.specs.declared.parser.State.TheVariants as st
use Rattle.csv.proofs.RoundTrip.{read-write}
use Rattle.time_line.specs.Span.{Ends, IsWithinLimit}
use Rattle.time_line.specs.Numeral.{IsDigit, IsEnd, IsMark, IsPositive, end_text, value_of}
use Rattle.time_line.specs.declared.text.Side.{Side}
use Rattle.time_line.specs.declared.text.Side.TheVariants.{Start, End}
use Rattle.rule_core.specs.Terms.{StampedOf, TermOf, constant, unknown, numbered, named}
use Rattle.temporal_csv.specs.Stored.{AreEnds, BeginsWithLetter, HasStorableEnds, IsAsWideAs, IsCell, IsDoubled, IsRow, IsStorable, IsStorableRow, HasRecords, IsStored, IsStoredBare, HasSpan, LacksSpan, StoredRow, bare_row, cell_text, end_texts, header_of, mark, record_of, stamped_row, stored_constant, table_text}
use Rattle.temporal_csv.proofs.RecordsLemmas.{table-records}

-- the cells of a row
abbrev Terms : Type 0
Terms = List (TermOf (List ℕ))

-- records that are written are read one after the other
written-reached : (rows : List (List (List ℕ)))
    → Reached default_config st.StartRecord (flat_map (row_text default_writer) rows) (map read_back rows) st.StartRecord []
unfolding Reached
written-reached [] = (refl, refl)
written-reached (r ∷ rs) =
    let more = flat_map (row_text default_writer) rs in
    ((read_back r, st.StartRecord, more), read-write r more, refl, written-reached rs)

-- and no further one
written-end : next_record default_config st.StartRecord [] [] [] ≡ None
unfolding next_record
written-end = refl

-- a record of some field is read as it was written
read_back-some : (fields : List (List ℕ)) → 0 < length fields → read_back fields ≡ fields
read_back-some [] some = absurd (omega (arith, some))
read_back-some (x ∷ xs) some = refl

read_back-rows : (header : List (List ℕ)) (rows : List StoredRow) → 0 < length header → All (IsAsWideAs header) rows
    → map read_back (map record_of rows) ≡ map record_of rows
read_back-rows header [] some widths = refl
read_back-rows header (r ∷ rs) some widths =
    let wide = All-head (IsAsWideAs header) r rs widths in
    let one : read_back (record_of r) ≡ record_of r = read_back-some (record_of r) (omega (arith, wide, some)) in
    rw (one, read_back-rows header rs some (All-tail (IsAsWideAs header) r rs widths)) refl

-- digits and one more
digits-push : (ds : List ℕ) (d : ℕ) → AllByRecursion IsDigit ds → IsDigit d → AllByRecursion IsDigit (ds ++ d ∷ [])
digits-push [] d h one = (one, tt)
digits-push (x ∷ xs) d h one = (h.0, digits-push xs d h.1 one)

positive-push : (ds : List ℕ) (d : ℕ) → IsPositive ds → IsDigit d → IsPositive (ds ++ d ∷ [])
positive-push [] d h one = absurd h
positive-push (x ∷ xs) d h one = (h.0, h.1, digits-push xs d h.2 one)

-- a number from 1 is written in digits that stand for it, the first of them not 0
abbrev Shows : ℕ → List ℕ → Type 0
Shows n ds = (1 ≤ n → IsPositive ds) × (value_of ds ≡ n)

shows-one : (n : ℕ) → n < 10 → Shows n ((48 + n) ∷ [])
shows-one n lt = ((λ from. (omega arith, omega arith, tt)), omega arith)

shows-more : (n : ℕ) (ds : List ℕ) → 10 ≤ n → Shows (n / 10) ds → Shows n (ds ++ ((48 + n % 10) ∷ []))
shows-more n ds ge h =
    let digit : IsDigit (48 + n % 10) = (omega arith, omega arith) in
    let value : value_of (ds ++ ((48 + n % 10) ∷ [])) ≡ 10 * value_of ds + ((48 + n % 10) - 48) = fold-append _ _ ds ((48 + n % 10) ∷ []) in
    ((λ from. positive-push ds (48 + n % 10) (h.0 (omega arith)) digit), rw (value, h.1) (omega arith))

pub decimal-shows : (n : ℕ) → n < 2 ^ 64 → Shows n (decimal n)
decimal-shows = decimal_by_steps Shows shows-one shows-more

-- the text of a term is the cell of this term
constant-cell : (text : List ℕ) → IsCell (stored_constant text) (constant text)
constant-cell [] = inr ((λ d. cc d.1), (λ n h. cc h.1), refl)
constant-cell (b ∷ bs) = elim (cases_Bool (b == mark)) [
  | inl same ↦ rw same (inl ((bs, ap (λ (x : ℕ). mark ∷ x ∷ bs) (eqb-true b mark same)), refl))
  | inr other ↦
      let no : b ≡ mark → ⊥ = λ e. cc (other, eq-eqb b mark e) in
      rw other (inr ((λ d. no (cc d.1)), (λ n h. no (cc h.1)), refl))
]

cell : (t : TermOf (List ℕ)) → IsStorable t → IsCell (cell_text t) t
cell (constant text) h = constant-cell text
cell (unknown (numbered n)) h =
    let shows = decimal-shows n h.1 in
    (decimal n, refl, shows.0 h.0, shows.1)
cell (unknown (named rule frontier var)) h = h

cells : (terms : List (TermOf (List ℕ))) → All IsStorable terms → AllZip IsCell (map cell_text terms) terms
cells [] h = tt
cells (t ∷ ts) h = (cell t (All-head IsStorable t ts h), cells ts (All-tail IsStorable t ts h))

-- a text whose first byte begins no byte order mark stays as it is
strip-other : (a : ℕ) (xs : List ℕ) → (a == 0xEF) ≡ false → strip_bom (a ∷ xs) ≡ a ∷ xs
unfolding strip_bom
strip-other a [] e = refl
strip-other a (b ∷ []) e = refl
strip-other a (b ∷ c ∷ rest) e = rw e refl

-- a text that begins with a letter, by that letter
record Lettered (text : List ℕ) : Type 0 where
  first : ℕ
  rest : List ℕ
  is : text ≡ first ∷ rest
  low : first < 128

lettered : (text : List ℕ) → BeginsWithLetter text → Lettered text
lettered [] h = absurd h
lettered (b ∷ bs) h = elim h [
  | inl upper ↦ record { first = b; rest = bs; is = refl; low = omega (arith, upper.1) }
  | inr lower ↦ record { first = b; rest = bs; is = refl; low = omega (arith, lower.1) }
]

strip-field : (text more : List ℕ) (b : ℕ) (bs : List ℕ) → text ≡ b ∷ bs → b < 128
    → strip_bom (field_text default_writer text ++ more) ≡ field_text default_writer text ++ more
strip-field text more b bs e low = elim (cases_Bool (list_any (needs_byte default_writer) text)) [
  | inl needs ↦ rw needs (strip-other 34 _ refl)
  | inr plain ↦ rw (plain, e) (strip-other b _ (ne_eqb b 0xEF (λ same. absurd (omega (arith, same, low)))))
]

-- what stands behind a record's first field
abbrev behind : List ℕ → List (List ℕ) → List ℕ → List ℕ
behind c cs rest = ((if is_blank default_writer (c ∷ cs) then 34 ∷ 34 ∷ [] else []) ++ 10 ∷ []) ++ rest

row-front : (c : List ℕ) (cs : List (List ℕ)) (rest : List ℕ)
    → row_text default_writer (c ∷ cs) ++ rest ≡ field_text default_writer c ++ (fields_text default_writer cs ++ behind c cs rest)
row-front c cs rest = simp append_assoc

-- the header begins with no byte order mark, and so does the table
strip-header : (text : List ℕ) (texts : List (List ℕ)) (rest : List ℕ) → BeginsWithLetter text
    → strip_bom (row_text default_writer (text ∷ texts) ++ rest) ≡ row_text default_writer (text ∷ texts) ++ rest
strip-header text texts rest letter =
    let begins = lettered text letter in
    rw (row-front text texts rest) (strip-field text _ begins.first begins.rest begins.is begins.low)

module _ (ends : (side : Side) (end : Option ℤ) → IsWithinLimit end → IsEnd side (end_text side end) end) where
  ends-read : (span : Option Ends) → HasStorableEnds span → AreEnds (end_texts span) span
  ends-read None h = refl
  ends-read (Some s) h = (end_text Start s.lo, end_text End s.hi, refl, ends Start s.lo h.0, ends End s.hi h.1)

  rows-read : (rows : List StoredRow) → All IsStorableRow rows → AllZip IsRow (map record_of rows) rows
  rows-read [] h = tt
  rows-read (r ∷ rs) h =
      let own = All-head IsStorableRow r rs h in (
        record {
          texts = map cell_text r.cells;
          ends = end_texts r.span;
          parts = refl;
          cells = cells r.cells own.terms;
          span = ends-read r.span own.ends;
        },
        rows-read rs (All-tail IsStorableRow r rs h),
      )

  pub table-read : (header : List (List ℕ)) (rows : List StoredRow) → 0 < length header → All BeginsWithLetter header
      → All (IsAsWideAs header) rows → All IsStorableRow rows → HasRecords (table_text header rows) header rows
  table-read [] rows some letters widths storable = absurd (omega (arith, some))
  table-read (text ∷ texts) rows some letters widths storable =
      let records = map record_of rows in
      let reached = rw (read_back-rows (text ∷ texts) rows some widths) at (written-reached ((text ∷ texts) ∷ records)) in
      let letter = All-head BeginsWithLetter text texts letters in
      record {
        records = records;
        read = (st.StartRecord, [], rw (strip-header text texts (flat_map (row_text default_writer) records) letter) reached, written-end);
        each = rows-read rows storable;
      }

-- a byte is a digit or is none
digit-or-not : (c : ℕ) → IsDigit c ⊎ ¬ IsDigit c
digit-or-not c = elim (cases_lt c 48) [
  | inl low ↦ inr (λ d. absurd (omega (arith, d.0)))
  | inr from ↦ elim (cases_lt 57 c) [
    | inl high ↦ inr (λ d. absurd (omega (arith, d.1)))
    | inr to ↦ inl (from, to)
  ]
]

digits-or-not : (cs : List ℕ) → AllByRecursion IsDigit cs ⊎ ¬ AllByRecursion IsDigit cs
digits-or-not [] = inl tt
digits-or-not (c ∷ cs) = elim (digit-or-not c) [
  | inl first ↦ elim (digits-or-not cs) [
    | inl rest ↦ inl (first, rest)
    | inr none ↦ inr (λ h. none h.1)
  ]
  | inr none ↦ inr (λ h. none h.0)
]

pub positive-or-not : (cs : List ℕ) → IsPositive cs ⊎ ¬ IsPositive cs
positive-or-not [] = inr (λ h. h)
positive-or-not (c ∷ cs) = elim (digits-or-not (c ∷ cs)) [
  | inl all ↦ elim (cases_lt c 49) [
    | inl low ↦ inr (λ h. absurd (omega (arith, h.0)))
    | inr from ↦ inl (from, all.0.1, all.1)
  ]
  | inr none ↦ inr (λ h. none ((omega (arith, h.0), h.1), h.2))
]

-- a text begins with `?` or does not
begins-or-not : (cs : List ℕ) → ((rest : List ℕ) × (cs ≡ mark ∷ rest)) ⊎ ¬ ((rest : List ℕ) × (cs ≡ mark ∷ rest))
begins-or-not [] = inr (λ h. cc h.1)
begins-or-not (c ∷ cs) = elim (cases_Bool (c == mark)) [
  | inl same ↦ inl (cs, ap (λ (x : ℕ). x ∷ cs) (eqb-true c mark same))
  | inr other ↦
      inr (λ h.
      let e : c ≡ mark = cc h.1 in
      cc (other, eq-eqb c mark e))
]

-- a text behind a `?`
marked-cell : (cs : List ℕ) → (t : TermOf (List ℕ)) × IsCell (mark ∷ cs) t
marked-cell cs = elim (positive-or-not cs) [
  | inl number ↦ (unknown (numbered (value_of cs)), (cs, refl, number, refl))
  | inr none ↦ elim (begins-or-not cs) [
    | inl second ↦ (constant cs, inl ((second.0, ap (λ (x : List ℕ). mark ∷ x) second.1), refl))
    | inr single ↦ (
      constant (mark ∷ cs),
      inr (
        (λ d. single (d.0, cc d.1)),
        (λ n h.
            let same : h.0 ≡ cs = cc h.1 in
            none (rw same at h.2)),
        refl,
      ),
    )
  ]
]

-- a text stands for some term
some-cell : (text : List ℕ) → (t : TermOf (List ℕ)) × IsCell text t
some-cell text = elim (begins-or-not text) [
  | inl marked ↦ rw marked.1 (marked-cell marked.0)
  | inr bare ↦ (
    constant text,
    inr (
      (λ d. bare (mark ∷ d.0, d.1)),
      (λ n h. bare (h.0, h.1)),
      refl,
    ),
  )
]

-- the last two of a list, and what stands before them
last-two : {X : Type 0} (xs ys : List X) (a b c d : X) → xs ++ a ∷ b ∷ [] ≡ ys ++ c ∷ d ∷ [] → (xs ≡ ys) × (a ≡ c) × (b ≡ d)
last-two [] [] a b c d e = (refl, cc e, cc e)
last-two [] (y ∷ ys) a b c d e = absurd (omega (arith, ap length e, length-append ys (c ∷ d ∷ [])))
last-two (x ∷ xs) [] a b c d e = absurd (omega (arith, ap length e, length-append xs (a ∷ b ∷ [])))
last-two (x ∷ xs) (y ∷ ys) a b c d e =
    let rest = last-two xs ys a b c d (cc e) in
    let first : x ≡ y = cc e in
    (cc (first, rest.0), rest.1, rest.2)

-- a cell stands for one term
not-both : (text : List ℕ) (n : ℕ) → IsDoubled text → IsMark text n → ⊥
not-both text n d h =
    let same : h.0 ≡ mark ∷ d.0 = cc (d.1, h.1) in
    let high = rw same at h.2 in
    omega (arith, high.1)

cell-one : (text : List ℕ) (a b : TermOf (List ℕ)) → IsCell text a → IsCell text b → a ≡ b
cell-one text (constant c) (constant d) (inl p) (inl q) = cc (p.1, q.1)
cell-one text (constant c) (constant d) (inl p) (inr q) = absurd (q.0 p.0)
cell-one text (constant c) (constant d) (inr p) (inl q) = absurd (p.0 q.0)
cell-one text (constant c) (constant d) (inr p) (inr q) = cc (p.2, q.2)
cell-one text (constant c) (unknown (numbered n)) (inl p) q = absurd (not-both text n p.0 q)
cell-one text (constant c) (unknown (numbered n)) (inr p) q = absurd (p.1 n q)
cell-one text (constant c) (unknown (named r f v)) p q = absurd q
cell-one text (unknown (numbered n)) (constant d) p (inl q) = absurd (not-both text n q.0 p)
cell-one text (unknown (numbered n)) (constant d) p (inr q) = absurd (q.1 n p)
cell-one text (unknown (numbered m)) (unknown (numbered n)) p q =
    let same : p.0 ≡ q.0 = cc (p.1, q.1) in
    cc (same, p.3, q.3)
cell-one text (unknown (numbered m)) (unknown (named r f v)) p q = absurd q
cell-one text (unknown (named r f v)) b p q = absurd p

pub one-cell : (text : List ℕ) → (t : TermOf (List ℕ)) × IsCell text t × ((other : TermOf (List ℕ)) → IsCell text other → other ≡ t)
one-cell text =
    let some = some-cell text in
    (some.0, some.1, (λ other h. cell-one text other some.0 h some.1))

cells-one : (texts : List (List ℕ)) (xs ys : List (TermOf (List ℕ))) → AllZip IsCell texts xs → AllZip IsCell texts ys → xs ≡ ys
cells-one [] [] [] h k = refl
cells-one [] [] (y ∷ ys) h k = absurd k
cells-one [] (x ∷ xs) ys h k = absurd h
cells-one (t ∷ ts) [] ys h k = absurd h
cells-one (t ∷ ts) (x ∷ xs) [] h k = absurd k
cells-one (t ∷ ts) (x ∷ xs) (y ∷ ys) h k =
    let first = cell-one t x y h.0 k.0 in
    let rest = cells-one ts xs ys h.1 k.1 in
    cc (first, rest)

-- records mean one list of rows of a kind, where each record means one row of it
rows-one : {X : Type 0} (row_of : X → StoredRow)
    → ((fields : List (List ℕ)) (x y : X) → IsRow fields (row_of x) → IsRow fields (row_of y) → x ≡ y)
    → (records : List (List (List ℕ))) (xs ys : List X) → AllZip IsRow records (map row_of xs) → AllZip IsRow records (map row_of ys)
    → xs ≡ ys
rows-one row_of one [] [] [] h k = refl
rows-one row_of one [] [] (y ∷ ys) h k = absurd k
rows-one row_of one [] (x ∷ xs) ys h k = absurd h
rows-one row_of one (r ∷ rs) [] ys h k = absurd h
rows-one row_of one (r ∷ rs) (x ∷ xs) [] h k = absurd k
rows-one row_of one (r ∷ rs) (x ∷ xs) (y ∷ ys) h k =
    let first = one r x y h.0 k.0 in
    let rest = rows-one row_of one rs xs ys h.1 k.1 in
    cc (first, rest)

pub header-one : (bytes : List ℕ) (c d : List (List ℕ)) (xs ys : List StoredRow) → HasRecords bytes c xs → HasRecords bytes d ys → c ≡ d
header-one bytes c d xs ys h k = cc (table-records bytes _ _ h.read k.read)

stored-rows : {X : Type 0} (row_of : X → StoredRow)
    → ((fields : List (List ℕ)) (x y : X) → IsRow fields (row_of x) → IsRow fields (row_of y) → x ≡ y)
    → (bytes : List ℕ) (c d : List (List ℕ)) (xs ys : List X) → HasRecords bytes c (map row_of xs) → HasRecords bytes d (map row_of ys)
    → xs ≡ ys
stored-rows row_of one bytes c d xs ys h k =
    let records : h.records ≡ k.records = cc (table-records bytes _ _ h.read k.read) in
    rows-one row_of one k.records xs ys (rw records at h.each) k.each

bare-one : (fields : List (List ℕ)) (x y : Terms) → IsRow fields (bare_row x) → IsRow fields (bare_row y) → x ≡ y
bare-one fields x y h k =
    let own : fields ≡ h.texts = h.parts ∙ ap (λ (e : List (List ℕ)). h.texts ++ e) h.span ∙ append-nil h.texts in
    let other : fields ≡ k.texts = k.parts ∙ ap (λ (e : List (List ℕ)). k.texts ++ e) k.span ∙ append-nil k.texts in
    cells-one k.texts x y (rw (sym own ∙ other) at h.cells) k.cells

pub bare-rows : (bytes : List ℕ) (c d : List (List ℕ)) (xs ys : List Terms) → IsStoredBare bytes c (map bare_row xs)
    → IsStoredBare bytes d (map bare_row ys) → xs ≡ ys
bare-rows bytes c d xs ys h k = stored-rows bare_row bare-one bytes c d xs ys h.whole k.whole

same-row : (xs ys : Terms) (a b c d : Option ℤ) → xs ≡ ys → a ≡ b → c ≡ d
    → let x : StampedOf Terms = record { row = xs; span = record { lo = a; hi = c } } in
    let y : StampedOf Terms = record { row = ys; span = record { lo = b; hi = d } } in
    x ≡ y
same-row xs ys a b c d e f g = rw (e, f, g) refl

-- what stands in a record that ends in these two fields
with-ends : (fields texts ends : List (List ℕ)) (a b : List ℕ) → fields ≡ texts ++ ends → ends ≡ a ∷ b ∷ [] → fields ≡ texts ++ a ∷ b ∷ []
with-ends fields texts ends a b whole two = whole ∙ ap (λ (e : List (List ℕ)). texts ++ e) two

module _ (one : (side : Side) (text : List ℕ) (a b : Option ℤ) → IsEnd side text a → IsEnd side text b → a ≡ b) where
  stamped-one : (fields : List (List ℕ)) (x y : StampedOf Terms) → IsRow fields (stamped_row x) → IsRow fields (stamped_row y) → x ≡ y
  stamped-one fields x y h k =
      let own = with-ends fields h.texts h.ends h.span.0 h.span.1 h.parts h.span.2 in
      let other = with-ends fields k.texts k.ends k.span.0 k.span.1 k.parts k.span.2 in
      let parts = last-two h.texts k.texts h.span.0 h.span.1 k.span.0 k.span.1 (sym own ∙ other) in
      let cells = cells-one k.texts x.row y.row (rw parts.0 at h.cells) k.cells in
      let lo = one Start k.span.0 x.span.lo y.span.lo (rw parts.1 at h.span.3) k.span.3 in
      let hi = one End k.span.1 x.span.hi y.span.hi (rw parts.2 at h.span.4) k.span.4 in
      same-row x.row y.row x.span.lo y.span.lo x.span.hi y.span.hi cells lo hi

  pub stamped-rows : (bytes : List ℕ) (c d : List (List ℕ)) (xs ys : List (StampedOf Terms)) → IsStored bytes c (map stamped_row xs)
      → IsStored bytes d (map stamped_row ys) → xs ≡ ys
  stamped-rows bytes c d xs ys h k = stored-rows stamped_row stamped-one bytes c d xs ys h.whole k.whole

-- rows over spans have spans, and other rows have none
spans-stamped : (rows : List (StampedOf Terms)) → All HasSpan (map stamped_row rows)
spans-stamped rows = All-map HasSpan stamped_row rows (λ i d within. refl)

spans-bare : (rows : List Terms) → All LacksSpan (map bare_row rows)
spans-bare rows = All-map LacksSpan bare_row rows (λ i d within. refl)

-- the records of a table with spans, and of one without
pub stored-stamped : (bytes : List ℕ) (header columns : List (List ℕ)) (rows : List StoredRow) (table : List (StampedOf Terms))
    → HasRecords bytes header rows → header ≡ header_of columns → rows ≡ map stamped_row table
    → IsStored bytes (header_of columns) (map stamped_row table)
stored-stamped bytes header columns rows table h e f =
    record { whole = rw (e, f) at h; columns = columns; header_is = refl; spans = spans-stamped table }

pub stored-bare : (bytes : List ℕ) (header : List (List ℕ)) (rows : List StoredRow) (table : List Terms)
    → HasRecords bytes header rows → rows ≡ map bare_row table → IsStoredBare bytes header (map bare_row table)
stored-bare bytes header rows table h f = record { whole = rw f at h; spans = spans-bare table }
