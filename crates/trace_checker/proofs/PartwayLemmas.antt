-- Facts in which an unknown is being replaced, one listed fact after the other.
use Rattle.std.proofs.Common.{◌≡◌, ◌≢◌, ◌⊎◌, ℕ, ◌+◌, ◌<◌, length, drop, get_or, Bool, true, false, cond, List, [], ◌∷◌, map, refl, sym, ap, ◌∙◌, subst, inl, inr, true≢false, Contains}
use Rattle.std.specs.declared.cmp.Ordering.{Ordering}
use Rattle.std.specs.declared.cmp.Ordering.TheVariants.{Less, Equal, Greater}
use Rattle.std.specs.FinMap.{nat_cmp-IsAntisymmetric, slice_cmp-IsAntisymmetric}
use Rattle.std.specs.List.{list_any}
use Rattle.std.proofs.lemmas.Bool.Decides.{eqb_tells}
use Rattle.std.proofs.lemmas.List.{drop_more}
use Rattle.rule_core.specs.Terms.{numbered, named, TermOf, constant, unknown, FactOf}
use Rattle.rule_core.specs.Order.{unknown_cmp}
use Rattle.rule_core.specs.Homomorphism.{term_image}
use Rattle.rule_core.specs.Renaming.{HoldTheSame}
use Rattle.rule_core.proofs.ListLemmas.{Contains-nil, Contains-head, Contains-cons, Contains-cons_cases, Contains-map, Contains-from_map}
use Rattle.failure_trace.specs.Equating.{Replacement, if_equal, becomes, replaced_fact}
use Rattle.failure_trace.specs.TraceRun.{text_cmp}
use Rattle.failure_trace.proofs.SnapshotSteps.{fact_stays}
use Rattle.trace_checker.specs.declared.name.Name.{Name}
use Rattle.trace_checker.specs.declared.row.Row.{Row}
use Rattle.trace_checker.specs.declared.holders.Holders.{Holders}
use Rattle.trace_checker.specs.contracts.row.RowPartialEq.TheImpl.{eq-value as row_eq}
use Rattle.trace_checker.specs.States.{fact_named, replacement, HoldsAlso}
use Rattle.trace_checker.specs.Listed.{facts_of, HasNumber, TakesOut, AreListed, Moves}
use Rattle.trace_checker.proofs.FactLemmas.{same_row, equal_rows, row_there, row_found}

abbrev Fact : Type 0
Fact = FactOf (List ℕ)

-- the rows without one of them
module _ (old new : List Row) (row : Row) (found : (q : Row) → list_any (row_eq.it q) new ≡ cond (row_eq.it row q) false (list_any (row_eq.it q) old)) where
  pub left_from : (fact : Fact) → Contains (facts_of new) fact → Contains (facts_of old) fact × (fact ≢ fact_named row)
  left_from fact c =
      let k = Contains-from_map fact_named new fact c in
      by k.0 k.2 (sym (found k.0) ∙ row_found new k.0 (Contains-map fact_named new k.0 k.1)) (row_eq.it row k.0) refl
    where
      by : (k : Row) → fact_named k ≡ fact → cond (row_eq.it row k) false (list_any (row_eq.it k) old) ≡ true → (b : Bool) → row_eq.it row k ≡ b
          → Contains (facts_of old) fact × (fact ≢ fact_named row)
      by k same h true e = absurd (true≢false (sym h ∙ ap (λ b. cond b false (list_any (row_eq.it k) old)) e))
      by k same h false e = (
        subst (Contains (facts_of old)) same (row_there old k (sym (ap (λ b. cond b false (list_any (row_eq.it k) old)) e) ∙ h)),
        λ is. true≢false (sym (equal_rows row k (sym (same ∙ is))) ∙ e),
      )

  pub left_into : (fact : Fact) → Contains (facts_of old) fact → Contains (facts_of new) fact ⊎ (fact ≡ fact_named row)
  left_into fact c =
      let k = Contains-from_map fact_named old fact c in
      by k.0 k.2 (row_found old k.0 (Contains-map fact_named old k.0 k.1)) (row_eq.it row k.0) refl
    where
      by : (k : Row) → fact_named k ≡ fact → list_any (row_eq.it k) old ≡ true → (b : Bool) → row_eq.it row k ≡ b
          → Contains (facts_of new) fact ⊎ (fact ≡ fact_named row)
      by k same h true e = inr (sym same ∙ sym (same_row row k e))
      by k same h false e =
          inl (subst (Contains (facts_of new)) same (row_there new k (found k ∙ ap (λ b. cond b false (list_any (row_eq.it k) old)) e ∙ h)))

  -- one was there, and the other is put in its place
  pub moved : (later : Fact) (after : List Fact) → list_any (row_eq.it row) old ≡ true → HoldsAlso (facts_of new) later after
      → Moves (facts_of old) (fact_named row) later after
  moved later after there more = record {
    from = λ fact c. elim ((more fact).0 c) [
      | inl d ↦ inl (left_from fact d)
      | inr e ↦ inr (sym e, row_there old row there)
    ];
    into = λ fact c. elim (left_into fact c) [
      | inl d ↦ inl ((more fact).1 (inl d))
      | inr e ↦ inr (e, (more later).1 (inr refl))
    ];
  }

  -- or it wasn't there
  pub not_moved : (later : Fact) → list_any (row_eq.it row) old ≡ false → Moves (facts_of old) (fact_named row) later (facts_of new)
  not_moved later none = record {
    from = λ fact c. inl (left_from fact c);
    into = λ fact c. elim (left_into fact c) [
      | inl d ↦ inl d
      | inr e ↦ absurd (true≢false (sym (row_found old row (subst (Contains (facts_of old)) e c)) ∙ none))
    ];
  }

-- the listed facts that are left are as they were, the others are as they become
pub record IsPartway (g : FactOf (List ℕ) → FactOf (List ℕ)) (old now : List (FactOf (List ℕ))) (holders : Holders) (left : List (FactOf (List ℕ))) : Type 0 where
  pub listed : AreListed now holders left
  pub from : (fact : FactOf (List ℕ)) → Contains now fact → Contains (map g old) fact ⊎ (Contains old fact × Contains left fact)
  pub into : (fact : FactOf (List ℕ)) → Contains old fact → Contains now (g fact) ⊎ (Contains now fact × Contains left fact)

module _ (g : Fact → Fact) (old : List Fact) where
  -- no fact that isn't listed has the unknown
  pub partway_first : (before holders : Holders) (number : ℕ) (listed : List Fact) → AreListed old before [] → TakesOut before number listed holders
      → ((fact : Fact) → HasNumber fact number ⊎ (HasNumber fact number → ⊥)) → ((fact : Fact) → (HasNumber fact number → ⊥) → g fact ≡ fact)
      → IsPartway g old old holders listed
  partway_first before holders number listed are takes decided stays = record {
    listed = λ fact n c has. elim (are fact n c has) [
      | inl is ↦ elim (takes n fact is) [
        | inl k ↦ inr k.1
        | inr k ↦ inl k.1
      ]
      | inr d ↦ absurd (Contains-nil fact d)
    ];
    from = λ fact c. elim (decided fact) [
      | inl has ↦ inr (c, in_list fact c has)
      | inr lacks ↦ inl (subst (Contains (map g old)) (stays fact lacks) (Contains-map g old fact c))
    ];
    into = λ fact c. elim (decided fact) [
      | inl has ↦ inr (c, in_list fact c has)
      | inr lacks ↦ inl (subst (Contains old) (sym (stays fact lacks)) c)
    ];
  }
    where
      in_list : (fact : Fact) → Contains old fact → HasNumber fact number → Contains listed fact
      in_list fact c has = elim (are fact number c has) [
        | inl is ↦ elim (takes number fact is) [
          | inl k ↦ k.1
          | inr k ↦ absurd (k.0 refl)
        ]
        | inr d ↦ absurd (Contains-nil fact d)
      ]

  -- one listed fact more
  pub partway_more : (now new : List Fact) (before after : Holders) (fact : Fact) (left : List Fact) → ((x : Fact) → g (g x) ≡ g x)
      → IsPartway g old now before (fact ∷ left) → Moves now fact (g fact) new → AreListed new after left → IsPartway g old new after left
  partway_more now new before after fact left twice part moves listed = record {
    listed = listed;
    from = λ x c. elim (moves.from x c) [
      | inl k ↦ elim (part.from x k.0) [
        | inl a ↦ inl a
        | inr b ↦ elim (Contains-cons_cases fact x left b.1) [
          | inl e ↦ absurd (k.1 (sym e))
          | inr d ↦ inr (b.0, d)
        ]
      ]
      | inr k ↦ elim (part.from fact k.1) [
        | inl a ↦
            let y = Contains-from_map g old fact a in
            inl (subst (Contains (map g old)) (sym (twice y.0) ∙ ap g y.2 ∙ sym k.0) (Contains-map g old y.0 y.1))
        | inr b ↦ inl (subst (Contains (map g old)) (sym k.0) (Contains-map g old fact b.0))
      ]
    ];
    into = λ x c. elim (part.into x c) [
      | inl a ↦ elim (moves.into (g x) a) [
        | inl n ↦ inl n
        | inr m ↦ inl (subst (Contains new) (ap g (sym m.0) ∙ twice x) m.1)
      ]
      | inr b ↦ elim (moves.into x b.0) [
        | inl n ↦ elim (Contains-cons_cases fact x left b.1) [
          | inl e ↦ elim (moves.from x n) [
            | inl k ↦ absurd (k.1 (sym e))
            | inr k ↦ inl (subst (Contains new) (k.0 ∙ ap g e) n)
          ]
          | inr d ↦ inr (n, d)
        ]
        | inr m ↦ inl (subst (Contains new) (ap g (sym m.0)) m.1)
      ]
    ];
  }

  -- all of them
  pub partway_all : (now : List Fact) (holders : Holders) → IsPartway g old now holders [] → HoldTheSame now (map g old)
  partway_all now holders part fact = (
    λ c. elim (part.from fact c) [
      | inl a ↦ a
      | inr b ↦ absurd (Contains-nil fact b.1)
    ],
    λ c.
        let y = Contains-from_map g old fact c in
        elim (part.into y.0 y.1) [
          | inl a ↦ subst (Contains now) y.2 a
          | inr b ↦ absurd (Contains-nil y.0 b.1)
        ],
  )

-- an unknown is replaced once
module _ (r : Replacement (List ℕ)) where
  by_stays : (t : TermOf (List ℕ)) → t ≡ r.by → term_image (becomes text_cmp r) t ≡ t
  by_stays (constant c) e = refl
  by_stays (unknown w) e = pick (unknown_cmp text_cmp w r.gone)
    where
      pick : (o : Ordering) → if_equal o r.by (unknown w) ≡ unknown w
      pick Less = refl
      pick Equal = sym e
      pick Greater = refl

  image_twice : (t : TermOf (List ℕ)) → term_image (becomes text_cmp r) (term_image (becomes text_cmp r) t) ≡ term_image (becomes text_cmp r) t
  image_twice (constant c) = refl
  image_twice (unknown u) = pick (unknown_cmp text_cmp u r.gone) refl
    where
      pick : (o : Ordering) → unknown_cmp text_cmp u r.gone ≡ o
          → term_image (becomes text_cmp r) (if_equal o r.by (unknown u)) ≡ if_equal o r.by (unknown u)
      pick Less e = ap (λ p. if_equal p r.by (unknown u)) e
      pick Equal e = by_stays r.by refl
      pick Greater e = ap (λ p. if_equal p r.by (unknown u)) e

  terms_twice : (ts : List (TermOf (List ℕ))) → map (term_image (becomes text_cmp r)) (map (term_image (becomes text_cmp r)) ts)
      ≡ map (term_image (becomes text_cmp r)) ts
  terms_twice [] = refl
  terms_twice (t ∷ ts) = let rest = terms_twice ts in λ i. image_twice t i ∷ rest i

  pub replaced_twice : (fact : Fact) → replaced_fact text_cmp r (replaced_fact text_cmp r fact) ≡ replaced_fact text_cmp r fact
  replaced_twice fact = λ i. record { relation = fact.relation; terms = terms_twice fact.terms i }

-- a fact without the unknown stays
pub replaced_stays : (gone : ℕ) (by : Name) (fact : Fact) → (HasNumber fact gone → ⊥) → replaced_fact text_cmp (replacement gone by) fact ≡ fact
replaced_stays gone by fact lacks =
    fact_stays text_cmp (slice_cmp-IsAntisymmetric nat_cmp-IsAntisymmetric) (replacement gone by) fact lacks

-- a fact has an unknown or lacks it
is_number : (t : TermOf (List ℕ)) (n : ℕ) → (t ≡ unknown (numbered n)) ⊎ (t ≡ unknown (numbered n) → ⊥)
is_number (constant c) n = inr (λ e. absurd cc)
is_number (unknown (named r f v)) n = inr (λ e. absurd cc)
is_number (unknown (numbered m)) n = elim (eqb_tells m n) [
  | inl k ↦ inl (ap (λ x. unknown (numbered x)) k.1)
  | inr k ↦ inr (λ e. let same : m ≡ n = cc in absurd (k.1 same))
]

have_number : (ts : List (TermOf (List ℕ))) (n : ℕ) → Contains ts (unknown (numbered n)) ⊎ (Contains ts (unknown (numbered n)) → ⊥)
have_number [] n = inr (Contains-nil (unknown (numbered n)))
have_number (t ∷ ts) n = elim (is_number t n) [
  | inl e ↦ inl (subst (λ x. Contains (x ∷ ts) (unknown (numbered n))) (sym e) (Contains-head (unknown (numbered n)) ts))
  | inr apart ↦ elim (have_number ts n) [
    | inl d ↦ inl (Contains-cons t (unknown (numbered n)) ts d)
    | inr lacks ↦ inr (λ c. elim (Contains-cons_cases t (unknown (numbered n)) ts c) [
      | inl e ↦ apart e
      | inr d ↦ lacks d
    ])
  ]
]

pub has_number : (n : ℕ) (fact : Fact) → HasNumber fact n ⊎ (HasNumber fact n → ⊥)
has_number n fact = have_number fact.terms n

-- the next row of the list
pub partway_next : (g : Fact → Fact) (old now new : List Fact) (before after : Holders) (rows : List Row) (i : ℕ) (row : Row) → i < length rows
    → row ≡ get_or rows i row → ((x : Fact) → g (g x) ≡ g x) → IsPartway g old now before (facts_of (drop i rows))
    → Moves now (fact_named row) (g (fact_named row)) new
    → ((left : List Fact) → AreListed now before (fact_named row ∷ left) → AreListed new after left)
    → IsPartway g old new after (facts_of (drop (i + 1) rows))
partway_next g old now new before after rows i row lt at twice part moves listed =
    let rest = facts_of (drop (i + 1) rows) in
    let front : facts_of (drop i rows) ≡ fact_named row ∷ rest = ap facts_of (drop_more rows i row lt ∙ ap (λ y. y ∷ drop (i + 1) rows) (sym at)) in
    let here = subst (IsPartway g old now before) front part in
    partway_more g old now new before after (fact_named row) rest twice here moves (listed rest here.listed)

-- behind the last
pub partway_end : (g : Fact → Fact) (old now : List Fact) (holders : Holders) (rows : List Row) (i : ℕ) → drop i rows ≡ []
    → IsPartway g old now holders (facts_of (drop i rows)) → IsPartway g old now holders []
partway_end g old now holders rows i none part = subst (λ l. IsPartway g old now holders (facts_of l)) none part
