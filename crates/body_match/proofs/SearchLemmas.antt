-- What an argument stands for in a match and in a part of one, and how a part goes on.
use Rattle.std.proofs.Common.{◌≡◌, inl, inr, ℕ, ℤ, ◌+◌, ◌<◌, ◌≤◌, Option, Some, None, List, [], ◌∷◌, ◌++◌, length, map, refl, sym, ap, ◌∙◌, subst, ⊎_elim, arith, All, Contains, get_or}
use Rattle.std.specs.Prelude.{slice_get, IsSome, IsSomeAnd}
use Rattle.std.specs.Option.{option_and_then, option_map}
use Rattle.std.proofs.lemmas.Bool.{cases_lt, false≢true}
use Rattle.std.proofs.lemmas.Option.{slice_get_read, get_or_from_slice_get}
use Rattle.std.proofs.lemmas.List.{length_push, length-map}
use Rattle.std.proofs.lemmas.List.Elements.{All-contains, All-push, Contains-append_left, Contains-push, Contains-get_or}
use Rattle.time_line.specs.Span.{Ends, Has, IsMeet, Meet}
use Rattle.term_core.specs.declared.term.Seen.{Seen}
use Rattle.rule_core.specs.declared.rules.Arg.{Arg}
use Rattle.rule_core.specs.declared.rules.Arg.TheVariants.{Var, Const}
use Rattle.rule_core.specs.declared.rules.Atom.{Atom}
use Rattle.fact_table.specs.declared.fact.RowHead.{RowHead}
use Rattle.fact_table.specs.Rows.{SeenRow, row_at, head_of, head_at, cell_at}
use Rattle.body_match.specs.declared.found.Match.{Match}
use Rattle.body_match.specs.declared.places.Place.{Place}
use Rattle.body_match.specs.Matches.{seen_value, IsImage, IsImageAt, HoldsAt, IsMatch}
use Rattle.body_match.specs.Places.{IsFirstPlace}
use Rattle.body_match.specs.Search.{Task, IsTask, cell_in, placed_value, Agrees, IsPartial, BeginsWith, IsListedFrom}
use Rattle.body_match.proofs.ListLemmas.{at_within, within_from_at, contains_from_at, at_front, at_seam, at_push, at_map, at_from_map, maps_from_each, zip_at}
use Rattle.body_match.proofs.PlaceLemmas.{occurs_from_atom}

-- what is there, with what holds of it
pub some_and : {X : Type 0} (P : X → Type 0) (o : Option X) → IsSomeAnd o P → (x : X) × (o ≡ Some x) × P x
some_and P None h = absurd h
some_and P (Some x) h = (x, refl, h)

pub and_some : {X : Type 0} (P : X → Type 0) (o : Option X) (x : X) → o ≡ Some x → P x → IsSomeAnd o P
and_some P o x e p = subst (λ w. IsSomeAnd w P) (sym e) p

pub same_some : {X : Type 0} (o : Option X) (x y : X) → o ≡ Some x → o ≡ Some y → x ≡ y
same_some o x y p q = let h : Some x ≡ Some y = sym p ∙ q in cc

-- the row whose head is there
pub row_from_head : (rows : List (Option SeenRow)) (n : ℕ) (head : RowHead) → head_at rows n ≡ Some head
    → (row : SeenRow) × (row_at rows n ≡ Some row) × (head_of row ≡ head)
row_from_head rows n head e = by_row (row_at rows n) refl e
  where
    by_row : (o : Option SeenRow) → row_at rows n ≡ o → option_map head_of o ≡ Some head
        → (row : SeenRow) × (row_at rows n ≡ Some row) × (head_of row ≡ head)
    by_row None p h = absurd cc
    by_row (Some row) p h = (row, p, let same : head_of row ≡ head = cc in same)

-- a row that is an atom's image has a head of the atom's form, and holds when the head says
pub head_from_image : (rows : List (Option SeenRow)) (value : Arg → Option Seen) (atom : Atom) (n : ℕ) → IsImageAt rows value atom n
    → None ≡ head_at rows n → ⊥
head_from_image rows value atom n image e =
    let h = some_and (IsImage value atom) (row_at rows n) image in
    let both : None ≡ Some (head_of h.0) = e ∙ ap (option_map head_of) h.1 in
    cc

pub form_from_image : (rows : List (Option SeenRow)) (value : Arg → Option Seen) (atom : Atom) (n : ℕ) (head : RowHead)
    → head_at rows n ≡ Some head → IsImageAt rows value atom n → (head.relation ≡ atom.relation) × (head.arity ≡ length atom.args)
form_from_image rows value atom n head e image =
    let h = some_and (IsImage value atom) (row_at rows n) image in
    let same : head_of h.0 ≡ head = same_some (head_at rows n) (head_of h.0) head (ap (option_map head_of) h.1) e in (
      ap (λ (r : RowHead). r.relation) (sym same) ∙ h.2.relation,
      ap (λ (r : RowHead). r.arity) (sym same) ∙ sym (length-map h.0.cells Some) ∙ ap length h.2.cells ∙ length-map atom.args value,
    )

pub span_from_head : (rows : List (Option SeenRow)) (n : ℕ) (head : RowHead) (t : ℤ) → head_at rows n ≡ Some head → HoldsAt rows t n
    → Has head.span t
span_from_head rows n head t e holds =
    let h = some_and (λ (r : SeenRow). Has r.span t) (row_at rows n) holds in
    let same : head_of h.0 ≡ head = same_some (head_at rows n) (head_of h.0) head (ap (option_map head_of) h.1) e in
    subst (λ (r : RowHead). Has r.span t) same h.2

pub cell_from_row : (rows : List (Option SeenRow)) (n j : ℕ) (row : SeenRow) → row_at rows n ≡ Some row
    → cell_at rows n j ≡ slice_get row.cells j
cell_from_row rows n j row e = ap (option_and_then (λ (r : SeenRow). slice_get r.cells j)) e

-- the cell for an argument of an atom whose image the row is
pub image_cell : (rows : List (Option SeenRow)) (value : Arg → Option Seen) (atom : Atom) (n j : ℕ) (arg : Arg)
    → IsImageAt rows value atom n → slice_get atom.args j ≡ Some arg
    → (cell : Seen) × (cell_at rows n j ≡ Some cell) × (value arg ≡ Some cell)
image_cell rows value atom n j arg image e =
    let h = some_and (IsImage value atom) (row_at rows n) image in
    let here : slice_get (map Some h.0.cells) j ≡ Some (value arg) = ap (λ l. slice_get l j) h.2.cells ∙ at_map value atom.args j arg e in
    let c = at_from_map Some h.0.cells j (value arg) here in
    (c.0, cell_from_row rows n j h.0 h.1 ∙ c.1, sym c.2)

module _ (task : Task) (ok : IsTask task) where
  -- the place of a variable that is an argument of an atom is in this atom or before it
  pub located : (k j v : ℕ) (atom : Atom) → slice_get task.body k ≡ Some atom → slice_get atom.args j ≡ Some (Var v)
      → (place : Place) × (slice_get task.places v ≡ Some place) × IsFirstPlace task.body v place × (place.atom ≤ k)
  located k j v atom e a =
      let arg = contains_from_at atom.args j (Var v) a in
      let p = at_within task.places v (ok.vars v (occurs_from_atom task.body v k atom e arg)) in
      let first = ok.places.each v p.0 p.1 in
      (p.0, p.1, first, first.first k atom e arg)

  -- a variable stands for the cell at its place
  pub placed_var : (chosen : List ℕ) (v n : ℕ) (place : Place) → slice_get task.places v ≡ Some place → slice_get chosen place.atom ≡ Some n
      → placed_value task chosen (Var v) ≡ cell_at task.rows n place.column
  placed_var chosen v n place e c =
      ap (option_and_then (cell_in task chosen)) e ∙ ap (option_and_then (λ m. cell_at task.rows m place.column)) c

  -- arguments of atoms whose rows are chosen stand for the same when more rows are chosen
  pub placed_more : (chosen more : List ℕ) (k j : ℕ) (atom : Atom) (arg : Arg) → slice_get task.body k ≡ Some atom
      → slice_get atom.args j ≡ Some arg → k < length chosen
      → placed_value task (chosen ++ more) arg ≡ placed_value task chosen arg
  placed_more chosen more k j atom (Const c) e a l = refl
  placed_more chosen more k j atom (Var v) e a l =
      let p = located k j v atom e a in
      let n = at_within chosen p.0.atom (omega (arith, p.3, l)) in
      placed_var (chosen ++ more) v n.0 p.0 p.1 (at_front chosen more p.0.atom n.0 n.1) ∙ sym (placed_var chosen v n.0 p.0 p.1 n.1)

  module _ (found : Match) (whole : IsMatch task.body (length task.places) task.rows found) where
    -- the row of an atom, where rows are chosen for it and all before it
    pub row_in_match : (chosen : List ℕ) (k n : ℕ) (atom : Atom) → BeginsWith chosen found.rows → slice_get task.body k ≡ Some atom
        → slice_get chosen k ≡ Some n → IsImageAt task.rows (seen_value found.binding) atom n
    row_in_match chosen k n atom begins e c =
        let z = zip_at (IsImageAt task.rows (seen_value found.binding)) task.body found.rows whole.images k atom e in
        let there : slice_get found.rows k ≡ Some n = ap (λ l. slice_get l k) begins.1 ∙ at_front chosen begins.0 k n c in
        subst (IsImageAt task.rows (seen_value found.binding) atom) (same_some (slice_get found.rows k) z.0 n z.1 there) z.2

    -- and its arguments stand for what they stand for in the match
    pub placed_in_match : (chosen : List ℕ) (k j : ℕ) (atom : Atom) (arg : Arg) → BeginsWith chosen found.rows
        → slice_get task.body k ≡ Some atom → slice_get atom.args j ≡ Some arg → k < length chosen
        → placed_value task chosen arg ≡ seen_value found.binding arg
    placed_in_match chosen k j atom (Const c) begins e a l = refl
    placed_in_match chosen k j atom (Var v) begins e a l =
        let p = located k j v atom e a in
        let n = at_within chosen p.0.atom (omega (arith, p.3, l)) in
        let first = p.2.there in
        let image = row_in_match chosen p.0.atom n.0 first.0 begins first.1 n.1 in
        let cell = image_cell task.rows (seen_value found.binding) first.0 n.0 p.0.column (Var v) image first.2 in
        placed_var chosen v n.0 p.0 p.1 n.1 ∙ cell.1 ∙ sym cell.2

  -- one more row
  module _ (chosen : List ℕ) (span : Ends) (partial : IsPartial task chosen span) (number : ℕ) (atom : Atom)
      (next : slice_get task.body (length chosen) ≡ Some atom) where
    abbrev front : List ℕ
    front = chosen ++ number ∷ []

    size : length front ≡ length chosen + 1
    size = length_push chosen number

    -- in a match with these rows, the last is the next atom's image
    pub next_image : (found : Match) → IsListedFrom task front found → IsImageAt task.rows (seen_value found.binding) atom number
    next_image found h = row_in_match found h.0 front (length chosen) number atom h.1 next (at_seam chosen number [])

    pub next_agrees : (found : Match) → IsListedFrom task front found → Agrees task front atom number
    next_agrees found h k arg a =
        let cell = image_cell task.rows (seen_value found.binding) atom number k arg (next_image found h) a in
        cell.1 ∙ sym cell.2 ∙ sym (placed_in_match found h.0 front (length chosen) k atom arg h.1 next a (omega (arith, size)))

    -- and all have an instant in common
    pub next_meets : (found : Match) → IsListedFrom task front found → (t : ℤ) × Has span t × HoldsAt task.rows t number
    next_meets found h =
        let t = h.0.instant in
        let all = (h.0.common t.0).0 t.1 in
        let each : (n : ℕ) → Contains front n → HoldsAt task.rows t.0 n = λ n c.
        All-contains (HoldsAt task.rows t.0) found.rows n all
        (subst (λ l. Contains l n) (sym h.1.1) (Contains-append_left front h.1.0 n c)) in (
          t.0,
          (partial.common t.0).1 (all_from_each chosen (λ n c. each n (Contains-append_left chosen (number ∷ []) n c))),
          each number (Contains-push chosen number),
        )
      where
        all_from_each : {X : Type 0} {P : X → Type 0} (xs : List X) → ((x : X) → Contains xs x → P x) → All P xs
        all_from_each xs h k d l = h _ (Contains-get_or xs k d l)

    module _ (row : SeenRow) (at : row_at task.rows number ≡ Some row) (relation : row.relation ≡ atom.relation)
        (arity : length row.cells ≡ length atom.args) where
      -- each argument of the next atom stands for some cell
      pub next_placed : (j : ℕ) (arg : Arg) → slice_get atom.args j ≡ Some arg → IsSome (placed_value task front arg)
      next_placed j (Const c) a = refl
      next_placed j (Var v) a =
          let p = located (length chosen) j v atom next a in
          let first = p.2.there in
          ⊎_elim
          (λ (before : p.0.atom < length chosen).
          let n = at_within chosen p.0.atom before in
          let cell = image_cell task.rows (placed_value task chosen) first.0 n.0 p.0.column (Var v)
          (partial.images p.0.atom n.0 first.0 first.1 n.1) first.2 in
          is_some (placed_value task front (Var v)) cell.0
          (placed_more chosen (number ∷ []) p.0.atom p.0.column first.0 (Var v) first.1 first.2 before ∙ cell.2))
          (λ (after : length chosen ≤ p.0.atom).
          let here : p.0.atom ≡ length chosen = omega (arith, after, p.3) in
          let same : first.0 ≡ atom = same_some (slice_get task.body (length chosen)) first.0 atom
          (ap (slice_get task.body) (sym here) ∙ first.1) next in
          let column = within_from_at atom.args p.0.column (Var v)
          (subst (λ (b : Atom). slice_get b.args p.0.column ≡ Some (Var v)) same first.2) in
          let cell = at_within row.cells p.0.column (omega (arith, column, arity)) in
          is_some (placed_value task front (Var v)) cell.0
          (placed_var front v number p.0 p.1 (ap (slice_get front) here ∙ at_seam chosen number [])
          ∙ cell_from_row task.rows number p.0.column row at ∙ cell.1))
          (cases_lt p.0.atom (length chosen))
        where
          is_some : {X : Type 0} (o : Option X) (x : X) → o ≡ Some x → IsSome o
          is_some o x e = subst (λ w. IsSome w) (sym e) refl

      -- the rows with this one are a part too
      pub next_partial : (common : Ends) → IsMeet span row.span common → Meet span row.span → Agrees task front atom number
          → IsPartial task front common
      next_partial common meets both agrees = record {
        within = omega (arith, size, within_from_at task.body (length chosen) atom next);
        images = λ k n a e c. elim (at_push chosen number k n c) [
          | inl old ↦ more k n a e old
          | inr last ↦ here k n a e last.0 last.1
        ];
        common = λ t. (
          λ h. All-push (HoldsAt task.rows t) chosen number ((partial.common t).0 ((meets t).0 h).0)
              (and_some (λ (r : SeenRow). Has r.span t) (row_at task.rows number) row at ((meets t).0 h).1),
          λ all. (meets t).1 (
            (partial.common t).1 (λ k d l. all_at t k d l all),
            last_has t (All-contains (HoldsAt task.rows t) front number all (Contains-push chosen number)),
          ),
        );
        instant = (both.0, (meets both.0).1 (both.1, both.2));
      }
        where
          more : (k n : ℕ) (a : Atom) → slice_get task.body k ≡ Some a → slice_get chosen k ≡ Some n
              → IsImageAt task.rows (placed_value task front) a n
          more k n a e c =
              let h = some_and (IsImage (placed_value task chosen) a) (row_at task.rows n) (partial.images k n a e c) in
              and_some (IsImage (placed_value task front) a) (row_at task.rows n) h.0 h.1 (record {
                relation = h.2.relation;
                cells = h.2.cells ∙ maps_from_each (placed_value task chosen) (placed_value task front) a.args a.args refl
                    (λ j x y p q. ap (placed_value task chosen) (same_some (slice_get a.args j) x y p q)
                    ∙ sym (placed_more chosen (number ∷ []) k j a y e q (within_from_at chosen k n c)));
              })

          here : (k n : ℕ) (a : Atom) → slice_get task.body k ≡ Some a → k ≡ length chosen → number ≡ n
              → IsImageAt task.rows (placed_value task front) a n
          here k n a e last same =
              let b : atom ≡ a = same_some (slice_get task.body k) atom a (ap (slice_get task.body) last ∙ next) e in
              subst (IsImageAt task.rows (placed_value task front) a) same
              (subst (λ z. IsImageAt task.rows (placed_value task front) z number) b
              (and_some (IsImage (placed_value task front) atom) (row_at task.rows number) row at (record {
                relation = relation;
                cells = maps_from_each Some (placed_value task front) row.cells atom.args arity
                    (λ j x y p q. sym (cell_from_row task.rows number j row at ∙ p) ∙ agrees j y q);
              })))

          all_at : (t : ℤ) (k d : ℕ) → k < length chosen → All (HoldsAt task.rows t) front → HoldsAt task.rows t (get_or chosen k d)
          all_at t k d l all = All-contains (HoldsAt task.rows t) front (get_or chosen k d) all
              (Contains-append_left chosen (number ∷ []) (get_or chosen k d) (Contains-get_or chosen k d l))

          last_has : (t : ℤ) → HoldsAt task.rows t number → Has row.span t
          last_has t h =
              let s = some_and (λ (r : SeenRow). Has r.span t) (row_at task.rows number) h in
              subst (λ (r : SeenRow). Has r.span t) (same_some (row_at task.rows number) s.0 row s.1 at) s.2

-- the atom at a place, as the code reads it
pub next_atom : (body read : List Atom) (k : ℕ) (atom : Atom) → read ≡ body → k < length body → atom ≡ get_or read k atom
    → slice_get body k ≡ Some atom
next_atom body read k atom e l is = slice_get_read body (length body) k atom refl l (subst (λ (b : List Atom). atom ≡ get_or b k atom) e is)

-- the cell at a place, as the code reads it
pub cell_in_read : (task : Task) (chosen : List ℕ) (place : Place) (cell : Seen) → IsSome (cell_in task chosen place)
    → cell_at task.rows (get_or chosen place.atom 0) place.column ≡ Some cell → cell_in task chosen place ≡ Some cell
cell_in_read task chosen place cell some e = by_read (slice_get chosen place.atom) refl some
  where
    by_read : (o : Option ℕ) → slice_get chosen place.atom ≡ o → IsSome (option_and_then (λ n. cell_at task.rows n place.column) o)
        → cell_in task chosen place ≡ Some cell
    by_read None f h = absurd (false≢true h)
    by_read (Some n) f h =
        ap (option_and_then (λ m. cell_at task.rows m place.column)) f
        ∙ ap (λ m. cell_at task.rows m place.column) (sym (get_or_from_slice_get chosen place.atom n 0 f)) ∙ e
