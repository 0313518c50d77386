-- What a binding matches in a snapshot, by the matches of rows.
use Rattle.std.proofs.Common.{◌≡◌, inl, inr, ◌↔◌, ℕ, ℤ, zero, suc, ◌<◌, ◌≤◌, Option, Some, None, List, [], ◌∷◌, ◌++◌, length, get_or, map, refl, sym, ap, ◌∙◌, subst, ⊎_elim, arith, All, Contains}
use Rattle.std.specs.Prelude.{slice_get}
use Rattle.std.specs.List.{AllZip}
use Rattle.std.proofs.lemmas.Bool.{cases_lt}
use Rattle.std.proofs.lemmas.List.{length-map, length_push}
use Rattle.std.proofs.lemmas.List.Elements.{All-nil, All-cons, All-head, All-tail, All-contains}
use Rattle.std.proofs.lemmas.Option.{slice_get-get_or}
use Rattle.time_line.specs.Span.{Ends, Has}
use Rattle.time_line.proofs.SpanLemmas.{IsMeet-from_ends}
use Rattle.time_line.specs.Span.{start_cmp, stop_cmp}
use Rattle.std.specs.Ordering.{ord_max, ord_min}
use Rattle.term_core.specs.declared.const_id.ConstId.{ConstId}
use Rattle.term_core.specs.declared.term.Seen.{Seen}
use Rattle.term_core.specs.declared.term.Seen.TheVariants as cells
use Rattle.rule_core.specs.declared.rules.Arg.{Arg}
use Rattle.rule_core.specs.declared.rules.Arg.TheVariants.{Var, Const}
use Rattle.rule_core.specs.declared.rules.Atom.{Atom}
use Rattle.rule_core.specs.Validity.{occurrences}
use Rattle.rule_core.specs.Terms.{TermOf, constant, unknown, numbered, named, FactOf, StampedOf}
use Rattle.rule_core.specs.Match.{value, image, Matches}
use Rattle.rule_core.specs.Snapshot.{snapshot_at}
use Rattle.rule_core.proofs.ListLemmas.{Contains-head, Contains-cons, Contains-cons_cases, Contains-nil}
use Rattle.rule_core.proofs.SnapshotLemmas.{snapshot_covers, covered_in_snapshot}
use Rattle.fact_table.specs.Rows.{SeenRow, row_at}
use Rattle.body_match.specs.declared.found.Match.{Match}
use Rattle.body_match.specs.Matches.{seen_value, IsImage, IsImageAt, HoldsAt, IsMatch}
use Rattle.fact_table.specs.Snapshots.{seen_term, fact_of, facts_of}
use Rattle.body_match.specs.Snapshots.{AgreesWith, AreMatchesAtInstants}
use Rattle.body_match.proofs.ListLemmas.{at_within, within_from_at, contains_from_at, at_from_contains, at_front, at_seam, maps_at, maps_from_each, zip_at, zip_length, zip_from_each}
use Rattle.body_match.proofs.PlaceLemmas.{atom_from_occurs, occurs_from_atom}
use Rattle.body_match.proofs.SearchLemmas.{some_and, and_some, same_some}

-- the cell that shows a term, if there is one
abbrev term_seen : TermOf ConstId → Seen
term_seen (constant c) = cells.Const c
term_seen (unknown (numbered p)) = cells.Piece p
term_seen (unknown (named r f v)) = cells.Piece 0

seen_back : (cell : Seen) → term_seen (seen_term cell) ≡ cell
seen_back (cells.Const c) = refl
seen_back (cells.Piece p) = refl

shows_constant : (cell : Seen) (c : ConstId) → seen_term cell ≡ constant c → cell ≡ cells.Const c
shows_constant cell c e = sym (seen_back cell) ∙ ap term_seen e

-- a row is a fact of the store, and each such fact is a row
row_is_fact : (rows : List (Option SeenRow)) (n : ℕ) (row : SeenRow) → row_at rows n ≡ Some row → Contains (facts_of rows) (fact_of row)
row_is_fact [] n row e = absurd cc
row_is_fact (None ∷ rows) zero row e = absurd cc
row_is_fact (Some r ∷ rows) zero row e =
    let same : r ≡ row = cc in
    subst (λ (s : SeenRow). Contains (facts_of (Some r ∷ rows)) (fact_of s)) same (Contains-head (fact_of r) (facts_of rows))
row_is_fact (None ∷ rows) (suc n) row e = row_is_fact rows n row e
row_is_fact (Some r ∷ rows) (suc n) row e = Contains-cons (fact_of r) (fact_of row) (facts_of rows) (row_is_fact rows n row e)

fact_is_row : (rows : List (Option SeenRow)) (fact : StampedOf (FactOf ConstId)) → Contains (facts_of rows) fact
    → (n : ℕ) × (row : SeenRow) × (row_at rows n ≡ Some row) × (fact_of row ≡ fact)
fact_is_row [] fact c = absurd (Contains-nil fact c)
fact_is_row (None ∷ rows) fact c = let h = fact_is_row rows fact c in (suc h.0, h.1, h.2, h.3)
fact_is_row (Some r ∷ rows) fact c = elim (Contains-cons_cases (fact_of r) fact (facts_of rows) c) [
  | inl e ↦ (0, r, refl, e)
  | inr d ↦ let h = fact_is_row rows fact d in (suc h.0, h.1, h.2, h.3)
]

-- the row with the number has the instant, and is the image as a fact
abbrev IsFactAt : List (Option SeenRow) → ℤ → FactOf ConstId → ℕ → Type 0
IsFactAt rows t fact n = (row : SeenRow) × (row_at rows n ≡ Some row) × Has row.span t × ((fact_of row).row ≡ fact)

fact_at : (rows : List (Option SeenRow)) (t : ℤ) (fact : FactOf ConstId) → Contains (snapshot_at (facts_of rows) t) fact
    → (n : ℕ) × IsFactAt rows t fact n
fact_at rows t fact c =
    let h = snapshot_covers (facts_of rows) fact t c in
    let r = fact_is_row rows h.1 (h.0, h.2, h.3) in (
      r.0,
      (
        r.1,
        r.2,
        subst (λ (e : StampedOf (FactOf ConstId)). Has e.span t) (sym r.3) h.4.1,
        ap (λ (e : StampedOf (FactOf ConstId)). e.row) r.3 ∙ h.4.0,
      ),
    )

-- the rows of all atoms
choose : (rows : List (Option SeenRow)) (t : ℤ) (make : Atom → FactOf ConstId) (atoms : List Atom)
    → All (λ atom. Contains (snapshot_at (facts_of rows) t) (make atom)) atoms
    → (numbers : List ℕ) × AllZip (λ atom n. IsFactAt rows t (make atom) n) atoms numbers
choose rows t make [] all = ([], tt)
choose rows t make (atom ∷ atoms) all =
    let first = fact_at rows t (make atom) (All-head (λ a. Contains (snapshot_at (facts_of rows) t) (make a)) atom atoms all) in
    let rest = choose rows t make atoms (All-tail (λ a. Contains (snapshot_at (facts_of rows) t) (make a)) atom atoms all) in
    (first.0 ∷ rest.0, (first.1, rest.1))

-- the instants that all rows have in common are a span's
common_of : (rows : List (Option SeenRow)) (numbers : List ℕ)
    → ((n : ℕ) → Contains numbers n → (row : SeenRow) × (row_at rows n ≡ Some row))
    → (s : Ends) × ((t : ℤ) → Has s t ↔ All (HoldsAt rows t) numbers)
common_of rows [] there = (record { lo = None; hi = None }, λ t. (λ _. All-nil (HoldsAt rows t), λ _. (tt, tt)))
common_of rows (n ∷ numbers) there =
    let row = there n (Contains-head n numbers) in
    let rest = common_of rows numbers (λ m c. there m (Contains-cons n m numbers c)) in
    let lo = ord_max start_cmp row.0.span.lo rest.0.lo in
    let hi = ord_min stop_cmp row.0.span.hi rest.0.hi in
    let both = IsMeet-from_ends row.0.span rest.0 lo hi refl refl in (
      record { lo = lo; hi = hi },
      λ t. (
        λ h. All-cons (HoldsAt rows t) n numbers (and_some (λ (r : SeenRow). Has r.span t) (row_at rows n) row.0 row.1 ((both t).0 h).0)
            ((rest.1 t).0 ((both t).0 h).1),
        λ all. (both t).1 (
          has_row t n row.0 row.1 (All-head (HoldsAt rows t) n numbers all),
          (rest.1 t).1 (All-tail (HoldsAt rows t) n numbers all),
        ),
      ),
    )
  where
    has_row : (t : ℤ) (n : ℕ) (row : SeenRow) → row_at rows n ≡ Some row → HoldsAt rows t n → Has row.span t
    has_row t n row e h =
        let s = some_and (λ (r : SeenRow). Has r.span t) (row_at rows n) h in
        subst (λ (r : SeenRow). Has r.span t) (same_some (row_at rows n) s.0 row s.1 e) s.2

-- the cells of the first variables' terms
abbrev values_below : (ℕ → TermOf ConstId) → ℕ → List Seen
values_below binding zero = []
values_below binding (suc n) = values_below binding n ++ term_seen (binding n) ∷ []

values_size : (binding : ℕ → TermOf ConstId) (n : ℕ) → length (values_below binding n) ≡ n
values_size binding zero = refl
values_size binding (suc n) =
    let rest = values_size binding n in
    omega (arith, rest, length_push (values_below binding n) (term_seen (binding n)))

value_at : (binding : ℕ → TermOf ConstId) (n v : ℕ) → v < n → slice_get (values_below binding n) v ≡ Some (term_seen (binding v))
value_at binding zero v l = absurd (omega (arith, l))
value_at binding (suc n) v l = ⊎_elim
    (λ (before : v < n). at_front (values_below binding n) (term_seen (binding n) ∷ []) v (term_seen (binding v))
    (value_at binding n v before))
    (λ (after : n ≤ v).
    let same : v ≡ length (values_below binding n) = omega (arith, l, after, values_size binding n) in
    let last : n ≡ v = omega (arith, l, after) in
    ap (slice_get (values_below binding n ++ term_seen (binding n) ∷ [])) same
    ∙ at_seam (values_below binding n) (term_seen (binding n)) [] ∙ ap (λ k. Some (term_seen (binding k))) last)
    (cases_lt v n)

module _ (body : List Atom) (vars : ℕ) (rows : List (Option SeenRow)) (occurring : (v : ℕ) → Contains (occurrences body) v ↔ (v < vars))
    (binding : ℕ → TermOf ConstId) (t : ℤ) where
  -- the fact that an atom becomes, where constants stand for themselves
  abbrev becomes : Atom → FactOf ConstId
  becomes atom = image (λ c. c) binding atom

  abbrev term_of : Arg → TermOf ConstId
  term_of arg = value (λ c. c) binding arg

  -- a match that the binding agrees with gives the facts
  pub facts_from_match : (found : Match) → IsMatch body vars rows found → Has found.span t → AgreesWith found.binding binding
      → Matches (λ c. c) binding body (snapshot_at (facts_of rows) t)
  facts_from_match found whole has agrees k d l =
      let atom = get_or body k d in
      let z = zip_at (IsImageAt rows (seen_value found.binding)) body found.rows whole.images k atom (slice_get-get_or body k d l) in
      let row = some_and (IsImage (seen_value found.binding) atom) (row_at rows z.0) z.2 in
      let holds = some_and (λ (r : SeenRow). Has r.span t) (row_at rows z.0)
      (All-contains (HoldsAt rows t) found.rows z.0 ((whole.common t).0 has) (contains_from_at found.rows k z.0 z.1)) in
      let has_row = subst (λ (r : SeenRow). Has r.span t) (same_some (row_at rows z.0) holds.0 row.0 holds.1 row.1) holds.2 in
      let c = row_is_fact rows z.0 row.0 row.1 in
      let fact : (fact_of row.0).row ≡ becomes atom = λ i. record { relation = row.2.relation i; terms = terms atom row.0 row.2 i } in
      subst (Contains (snapshot_at (facts_of rows) t)) fact
      (covered_in_snapshot (facts_of rows) (fact_of row.0).row t (c.0, fact_of row.0, c.1, c.2, (refl, has_row)))
    where
      same_term : (arg : Arg) (cell : Seen) → seen_value found.binding arg ≡ Some cell → seen_term cell ≡ term_of arg
      same_term (Const c) cell e = let same : cells.Const c ≡ cell = cc in ap seen_term (sym same)
      same_term (Var v) cell e = sym (agrees v cell e)

      terms : (atom : Atom) (row : SeenRow) → IsImage (seen_value found.binding) atom row → map seen_term row.cells ≡ map term_of atom.args
      terms atom row h =
          let size = sym (length-map row.cells Some) ∙ ap length h.cells ∙ length-map atom.args (seen_value found.binding) in
          maps_from_each seen_term term_of row.cells atom.args size
          (λ j cell arg p q. same_term arg cell (sym (maps_at Some (seen_value found.binding) row.cells atom.args h.cells j cell arg p q)))

  -- and facts that a binding gives are those of a match that it agrees with
  module _ (matched : Matches (λ c. c) binding body (snapshot_at (facts_of rows) t)) where
    chosen : (numbers : List ℕ) × AllZip (λ atom n. IsFactAt rows t (becomes atom) n) body numbers
    chosen = choose rows t becomes body matched

    abbrev values : List Seen
    values = values_below binding vars

    -- the row of an atom, and its cells by their terms
    row_for_atom : (k : ℕ) (atom : Atom) → slice_get body k ≡ Some atom
        → (n : ℕ) × (slice_get chosen.0 k ≡ Some n) × IsFactAt rows t (becomes atom) n
    row_for_atom k atom e = zip_at (λ a n. IsFactAt rows t (becomes a) n) body chosen.0 chosen.1 k atom e

    shown : (atom : Atom) (row : SeenRow) → (fact_of row).row ≡ becomes atom → (j : ℕ) (cell : Seen) (arg : Arg)
        → slice_get row.cells j ≡ Some cell → slice_get atom.args j ≡ Some arg → seen_term cell ≡ term_of arg
    shown atom row e j cell arg p q = maps_at seen_term term_of row.cells atom.args (ap (λ (f : FactOf ConstId). f.terms) e) j cell arg p q

    arity : (atom : Atom) (row : SeenRow) → (fact_of row).row ≡ becomes atom → length row.cells ≡ length atom.args
    arity atom row e =
        sym (length-map row.cells seen_term) ∙ ap (λ (f : FactOf ConstId). length f.terms) e ∙ length-map atom.args term_of

    -- a value shows its variable's term
    value_shows : (v : ℕ) → v < vars → seen_term (term_seen (binding v)) ≡ binding v
    value_shows v l =
        let a = atom_from_occurs body v ((occurring v).1 l) in
        let j = at_from_contains a.1.args (Var v) a.3 in
        let r = row_for_atom a.0 a.1 a.2 in
        let size = arity a.1 r.2.0 r.2.3 in
        let cell = at_within r.2.0.cells j.0 (omega (arith, size, within_from_at a.1.args j.0 (Var v) j.1)) in
        let same = shown a.1 r.2.0 r.2.3 j.0 cell.0 (Var v) cell.1 j.1 in
        ap (λ x. seen_term (term_seen x)) (sym same) ∙ ap seen_term (seen_back cell.0) ∙ same

    image_found : (k n : ℕ) (atom : Atom) → slice_get body k ≡ Some atom → IsFactAt rows t (becomes atom) n
        → IsImageAt rows (seen_value values) atom n
    image_found k n atom e h =
        and_some (IsImage (seen_value values) atom) (row_at rows n) h.0 h.1 (record {
          relation = ap (λ (f : FactOf ConstId). f.relation) h.3;
          cells = maps_from_each Some (seen_value values) h.0.cells atom.args (arity atom h.0 h.3)
              (λ j cell arg p q. by_arg j cell arg q (shown atom h.0 h.3 j cell arg p q));
        })
      where
        by_arg : (j : ℕ) (cell : Seen) (arg : Arg) → slice_get atom.args j ≡ Some arg → seen_term cell ≡ term_of arg
            → Some cell ≡ seen_value values arg
        by_arg j cell (Const c) q s = ap Some (shows_constant cell c s)
        by_arg j cell (Var v) q s =
            let below = (occurring v).0 (occurs_from_atom body v k atom e (contains_from_at atom.args j (Var v) q)) in
            ap Some (sym (seen_back cell) ∙ ap term_seen s) ∙ sym (value_at binding vars v below)

    there : (n : ℕ) → Contains chosen.0 n → (row : SeenRow) × (row_at rows n ≡ Some row) × Has row.span t
    there n c =
        let k = at_from_contains chosen.0 n c in
        let size = zip_length (λ atom m. IsFactAt rows t (becomes atom) m) body chosen.0 chosen.1 in
        let atom = at_within body k.0 (omega (arith, size, within_from_at chosen.0 k.0 n k.1)) in
        let r = row_for_atom k.0 atom.0 atom.1 in
        let same = same_some (slice_get chosen.0 k.0) r.0 n r.1 k.1 in
        (r.2.0, ap (row_at rows) (sym same) ∙ r.2.1, r.2.2)

    span : (s : Ends) × ((u : ℤ) → Has s u ↔ All (HoldsAt rows u) chosen.0)
    span = common_of rows chosen.0 (λ n c. let r = there n c in (r.0, r.1))

    all_hold : All (HoldsAt rows t) chosen.0
    all_hold k d l =
        let n = get_or chosen.0 k d in
        let r = there n (contains_from_at chosen.0 k n (slice_get-get_or chosen.0 k d l)) in
        and_some (λ (row : SeenRow). Has row.span t) (row_at rows n) r.0 r.1 r.2

    pub match_from_facts : (found : Match) × IsMatch body vars rows found × Has found.span t × AgreesWith found.binding binding
    match_from_facts =
        let has = (span.1 t).1 all_hold in (
          record { rows = chosen.0; binding = values; span = span.0 },
          record {
            images = zip_from_each (IsImageAt rows (seen_value values)) body chosen.0
                (zip_length (λ atom m. IsFactAt rows t (becomes atom) m) body chosen.0 chosen.1)
                (λ k atom n p q. let r = row_for_atom k atom p in
                image_found k n atom p (subst (IsFactAt rows t (becomes atom)) (same_some (slice_get chosen.0 k) r.0 n r.1 q) r.2));
            values = values_size binding vars;
            common = span.1;
            instant = (t, has);
          },
          has,
          λ v cell e.
              let below : v < vars = omega (arith, within_from_at values v cell e, values_size binding vars) in
              let same = same_some (slice_get values v) (term_seen (binding v)) cell (value_at binding vars v below) e in
              sym (value_shows v below) ∙ ap seen_term same,
        )

-- so a list of all matches has those of each instant
pub all_at_instants : (body : List Atom) (vars : ℕ) (rows : List (Option SeenRow)) → ((v : ℕ) → Contains (occurrences body) v ↔ (v < vars))
    → (list : List Match) → ((found : Match) → Contains list found ↔ IsMatch body vars rows found) → AreMatchesAtInstants body rows list
all_at_instants body vars rows occurring list each binding t = (
  λ matched.
      let m = match_from_facts body vars rows occurring binding t matched in
      let c = (each m.0).1 m.1 in
      (c.0, m.0, c.1, c.2, (m.2, m.3)),
  λ h. facts_from_match body vars rows occurring binding t h.1 ((each h.1).0 (h.0, h.2, h.3)) h.4.0 h.4.1,
)
