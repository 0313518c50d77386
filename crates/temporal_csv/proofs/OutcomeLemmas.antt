-- Each table has facts or a first fault: every step of its meaning is decided.
use Rattle.std.proofs.Common.{◌≡◌, ◌≢◌, ◌⊎◌, ℕ, ℤ, pos, negsuc, ◌+◌, ◌≤◌, List, [], ◌∷◌, ◌++◌, length, take, get_or, Option, Some, None, codes, refl, sym, ap, subst, inl, inr, arith, append_assoc, length-append}
use Rattle.std.specs.Prelude.{All, IsUtf8}
use Rattle.std.specs.Str.{is_utf8}
use Rattle.std.proofs.lemmas.Bool.{cases_Bool, cases_eq, cases_lt}
use Rattle.std.proofs.lemmas.Int.{by_lt_z}
use Rattle.std.proofs.lemmas.List.{append-nil}
use Rattle.std.proofs.lemmas.List.Elements.{All-cons, All-head, All-nil, All-tail}
use Rattle.std.proofs.lemmas.Str.{IsUtf8-from_is_utf8, is_utf8-from_IsUtf8}
use Rattle.std.specs.Int.Signed.{clash_ℤ}
use Rattle.csv.specs.Reading.{default_config, strip_bom}
use Rattle.csv.specs.declared.parser.State.TheVariants as st
use Rattle.time_line.specs.Span.{AreOrdered, Ends, IsWithinLimit}
use Rattle.time_line.specs.Numeral.{IsNumber, IsPositive, number_of, word_of}
use Rattle.time_line.specs.declared.text.Side.{Side}
use Rattle.time_line.specs.declared.text.Side.TheVariants.{Start, End}
use Rattle.temporal_csv.specs.Records.{AreRecordsOf}
use Rattle.temporal_csv.specs.Stored.{header_of}
use Rattle.temporal_csv.specs.Table.{AreFacts, HasFault, HasSpanFault, IsEndText, IsFact, IsNoEndText, IsTable, StopsAt, TableFaults, HasEndTexts, most_records}
use Rattle.temporal_csv.specs.declared.fault.TableCode.{TableCode}
use Rattle.temporal_csv.specs.declared.fault.TableCode.TheVariants.{C1, C2, C3, C4, C5, C6, C7}
use Rattle.temporal_csv.proofs.RecordsLemmas.{records-of}
use Rattle.temporal_csv.proofs.StoredLemmas.{positive-or-not}
use Rattle.temporal_csv.proofs.TableLemmas.{Fields, RowFact, HasParts-of, each-length, each-push, fault-from_span, parts_of}

-- two lists are one or are not, where that is so of two items
list-same : {X : Type 0} → ((x y : X) → (x ≡ y) ⊎ (x ≢ y)) → (xs ys : List X) → (xs ≡ ys) ⊎ (xs ≢ ys)
list-same same [] [] = inl refl
list-same same [] (y ∷ ys) = inr (λ e. cc e)
list-same same (x ∷ xs) [] = inr (λ e. cc e)
list-same same (x ∷ xs) (y ∷ ys) = elim (same x y) [
  | inl first ↦ elim (list-same same xs ys) [
    | inl rest ↦ inl (cc (first, rest))
    | inr rest ↦ inr (λ e. rest (cc e))
  ]
  | inr first ↦ inr (λ e. first (cc e))
]

text-same : (a b : List ℕ) → (a ≡ b) ⊎ (a ≢ b)
text-same = list-same cases_eq

text-or-not : (bytes : List ℕ) → IsUtf8 bytes ⊎ ¬ IsUtf8 bytes
text-or-not bytes = elim (cases_Bool (is_utf8 bytes)) [
  | inl good ↦ inl (IsUtf8-from_is_utf8 bytes good)
  | inr bad ↦ inr (λ text. let good = is_utf8-from_IsUtf8 bytes text in cc (good, bad))
]

texts-or-not : (fields : Fields) → All IsUtf8 fields ⊎ ¬ All IsUtf8 fields
texts-or-not [] = inl (All-nil IsUtf8)
texts-or-not (f ∷ fs) = elim (text-or-not f) [
  | inl first ↦ elim (texts-or-not fs) [
    | inl rest ↦ inl (All-cons IsUtf8 f fs first rest)
    | inr none ↦ inr (λ all. none (All-tail IsUtf8 f fs all))
  ]
  | inr none ↦ inr (λ all. none (All-head IsUtf8 f fs all))
]

-- a text is a number or is none
signed-or-not : (text : List ℕ) → ((digits : List ℕ) × (text ≡ 45 ∷ digits) × IsPositive digits)
    ⊎ ¬ ((digits : List ℕ) × (text ≡ 45 ∷ digits) × IsPositive digits)
signed-or-not [] = inr (λ h. cc h.1)
signed-or-not (c ∷ cs) = elim (cases_eq c 45) [
  | inl minus ↦ elim (positive-or-not cs) [
    | inl digits ↦ inl (cs, ap (λ (b : ℕ). b ∷ cs) minus, digits)
    | inr none ↦ inr (λ h.
        let same : h.0 ≡ cs = cc h.1 in
        none (rw same at h.2))
  ]
  | inr other ↦ inr (λ h. other (cc h.1))
]

number-or-not : (text : List ℕ) → IsNumber text ⊎ ¬ IsNumber text
number-or-not text = elim (text-same text (codes "0")) [
  | inl nothing ↦ inl (inl nothing)
  | inr some ↦ elim (positive-or-not text) [
    | inl digits ↦ inl (inr (inl digits))
    | inr none ↦ elim (signed-or-not text) [
      | inl signed ↦ inl (inr (inr signed))
      | inr unsigned ↦ inr (λ h. elim h [ inl a ↦ some a | inr r ↦ elim r [ inl b ↦ none b | inr c ↦ unsigned c ] ])
    ]
  ]
]

limit-or-not : (n : ℤ) → IsWithinLimit (Some n) ⊎ ¬ IsWithinLimit (Some n)
limit-or-not n =
    by_lt_z n (negsuc 999999999999999) (λ low. inr (λ h. clash_ℤ low h.0))
    (λ from. by_lt_z (pos 1000000000000000) n (λ high. inr (λ h. clash_ℤ high h.1)) (λ to. inl (from, to)))

ordered-or-not : (lo hi : Option ℤ) → AreOrdered lo hi ⊎ ¬ AreOrdered lo hi
ordered-or-not None hi = inl tt
ordered-or-not (Some lo) None = inl tt
ordered-or-not (Some lo) (Some hi) = by_lt_z lo hi (λ h. inl h) (λ h. inr (λ less. clash_ℤ less h))

-- a text is an end within the limit, or is none
end-or-none : (side : Side) (text : List ℕ) → ((end : Option ℤ) × IsEndText side text end) ⊎ IsNoEndText side text
end-or-none side text = elim (text-same text (word_of side)) [
  | inl word ↦ inl (None, (word, tt))
  | inr other ↦ elim (number-or-not text) [
    | inr none ↦ inr (no-number other none)
    | inl number ↦ elim (limit-or-not (number_of text)) [
      | inl within ↦ inl (Some (number_of text), ((number, refl), within))
      | inr far ↦ inr (too-far other far)
    ]
  ]
]
  where
    no-number : text ≢ word_of side → ¬ IsNumber text → IsNoEndText side text
    no-number other none None h = other h.0
    no-number other none (Some n) h = none h.0.0

    too-far : text ≢ word_of side → ¬ IsWithinLimit (Some (number_of text)) → IsNoEndText side text
    too-far other far None h = other h.0
    too-far other far (Some n) h = far (subst (λ (m : ℤ). IsWithinLimit (Some m)) (sym h.0.1) h.1)

-- two texts are the ends of a span, or have a first fault
span-or-fault : (start stop : List ℕ) → ((span : Ends) × HasEndTexts start stop span) ⊎ ((code : TableCode) × HasSpanFault start stop code)
span-or-fault start stop = elim (end-or-none Start start) [
  | inr none ↦ inr (C4, none)
  | inl lo ↦ elim (end-or-none End stop) [
    | inr none ↦ inr (C5, (lo.0, lo.1, none))
    | inl hi ↦ elim (ordered-or-not lo.0 hi.0) [
      | inl ordered ↦ inl (record { lo = lo.0; hi = hi.0 }, record { lo = lo.1; hi = hi.1; ordered = ordered })
      | inr back ↦ inr (C6, (lo.0, hi.0, lo.1, hi.1, back))
    ]
  ]
]

-- a data record is a fact, or has a first fault
record-outcome : (width : ℕ) (fields : Fields)
    → ((fact : RowFact) × IsFact width fields fact) ⊎ ((code : TableCode) × HasFault width fields code)
record-outcome width fields = elim (cases_eq (length fields) (width + 2)) [
  | inr other ↦ inr (C3, other)
  | inl wide ↦ elim (texts-or-not fields) [
    | inr none ↦ inr (C1, (wide, none))
    | inl text ↦ elim (span-or-fault (get_or fields width []) (get_or fields (width + 1) [])) [
      | inl span ↦ inl (
        record { row = take width fields; span = span.0 },
        record { parts = parts_of width fields; has = HasParts-of width fields wide; text = text; row = refl; ends = span.1 },
      )
      | inr fault ↦ inr (fault.0, fault-from_span width fields fault.0 wide text fault.1)
    ]
  ]
]

-- what a table may come to
abbrev pub Outcome : List (List ℕ) → List ℕ → Type 0
Outcome columns bytes = ((facts : List RowFact) × IsTable columns bytes facts) ⊎ TableFaults columns bytes

module _ (columns : List (List ℕ)) (bytes : List ℕ) (text : IsUtf8 bytes) where
  fault-here : (before : List Fields) (fields : Fields) (after : List Fields) (facts : List RowFact) (code : TableCode)
      → AreRecordsOf bytes (header_of columns ∷ (before ++ fields ∷ after)) → AreFacts columns before facts
      → StopsAt (length columns) (length before) fields code → TableFaults columns bytes
  fault-here before fields after facts code read each stops = (
    record { code = code; at = length before + 2 },
    inr (inr (record {
      text = text;
      before = before;
      fields = fields;
      after = after;
      read = read;
      facts = facts;
      each = each;
      stops = stops;
      at = refl;
    })),
  )

  -- the records after some facts
  records-outcome : (after before : List Fields) (facts : List RowFact) → AreRecordsOf bytes (header_of columns ∷ (before ++ after))
      → AreFacts columns before facts → length before ≤ most_records → Outcome columns bytes
  records-outcome [] before facts read each few =
      let size = each-length (IsFact (length columns)) before facts each in
      inl (
        facts,
        record {
          text = text;
          records = before;
          read = subst (λ (rs : List Fields). AreRecordsOf bytes (header_of columns ∷ rs)) (append-nil before) read;
          each = each;
          few = omega (arith, size, few);
        },
      )
  records-outcome (f ∷ fs) before facts read each few = elim (cases_lt (length before) most_records) [
    | inr full ↦ inr (fault-here before f fs facts C7 read each (inl (omega (arith, full, few), refl)))
    | inl room ↦ elim (record-outcome (length columns) f) [
      | inr fault ↦ inr (fault-here before f fs facts fault.0 read each (inr (room, fault.1)))
      | inl fact ↦ records-outcome fs (before ++ f ∷ []) (facts ++ fact.0 ∷ [])
          (subst (λ (rs : List Fields). AreRecordsOf bytes (header_of columns ∷ rs)) (sym (append_assoc before (f ∷ []) fs)) read)
          (each-push (IsFact (length columns)) before facts f fact.0 each fact.1)
          (omega (arith, room, length-append before (f ∷ [])))
    ]
  ]

  -- the header, and the records after it
  header-outcome : (records : List Fields) → AreRecordsOf bytes records → Outcome columns bytes
  header-outcome [] read = inr (
    record { code = C2; at = 1 },
    inr (inl (record { text = text; records = []; read = read; lacks = tt; is = refl })),
  )
  header-outcome (first ∷ rest) read = elim (list-same text-same first (header_of columns)) [
    | inl header ↦ records-outcome rest [] [] (subst (λ (r : Fields). AreRecordsOf bytes (r ∷ rest)) header read) tt (omega arith)
    | inr other ↦ inr (
      record { code = C2; at = 1 },
      inr (inl (record { text = text; records = first ∷ rest; read = read; lacks = other; is = refl })),
    )
  ]

-- a table has facts or a first fault
pub table-outcome : (columns : List (List ℕ)) (bytes : List ℕ) → Outcome columns bytes
table-outcome columns bytes = elim (text-or-not bytes) [
  | inl text ↦
      let records = records-of default_config st.StartRecord (strip_bom bytes) in
      header-outcome columns bytes text records.0 records.1
  | inr none ↦ inr (record { code = C1; at = 0 }, inl (record { text = none; is = refl }))
]
