-- Where a match with unequal sides is there, one is whose rows are all shown.
use Rattle.std.proofs.Common.{◌≡◌, inl, inr, ℕ, zero, suc, ℤ, ◌<◌, ◌≤◌, Option, Some, List, [], ◌∷◌, ◌++◌, length, refl, sym, ap, ◌∙◌, subst, arith, ⊎_elim, All, Contains}
use Rattle.std.specs.Prelude.{slice_get}
use Rattle.std.specs.List.{AllZip}
use Rattle.std.proofs.lemmas.Bool.{cases_eq, cases_lt}
use Rattle.std.proofs.lemmas.List.{length-map, length_push}
use Rattle.std.proofs.lemmas.List.Elements.{All-nil, All-cons, All-contains}
use Rattle.std.proofs.lemmas.Option.{slice_get_past}
use Rattle.time_line.specs.Span.{Has}
use Rattle.term_core.specs.declared.term.Seen.{Seen}
use Rattle.rule_core.specs.declared.rules.Arg.{Arg}
use Rattle.rule_core.specs.declared.rules.Arg.TheVariants.{Var, Const}
use Rattle.rule_core.specs.declared.rules.Atom.{Atom}
use Rattle.rule_core.specs.declared.rules.Egd.{Egd}
use Rattle.rule_core.proofs.ListLemmas.{Contains-head, Contains-cons}
use Rattle.fact_table.specs.Rows.{SeenRow, row_at}
use Rattle.body_match.specs.declared.found.Match.{Match}
use Rattle.body_match.specs.Matches.{seen_value, IsImage, IsImageAt, HoldsAt}
use Rattle.body_match.specs.Equality.{Equality, StandsAt, Recurs, IsLookedAt, FitsAtom, IsLike, IsShown}
use Rattle.body_match.proofs.ListLemmas.{at_within, within_from_at, contains_from_at, at_from_contains, at_front, at_seam, maps_at, maps_from_each, zip_at, zip_length, zip_from_each}
use Rattle.body_match.proofs.PlaceLemmas.{atom_from_occurs, occurs_from_atom}
use Rattle.body_match.proofs.SearchLemmas.{some_and, and_some, same_some}
use Rattle.egd_chase.specs.Search.{IsUnequalMatch, IsIndexFor, IsShownMatch}
use Rattle.egd_chase.proofs.WaitLemmas.{common_of}

-- one for each
choose : {X Y : Type 0} (R : X → Y → Type 0) (xs : List X) → ((x : X) → Contains xs x → (y : Y) × R x y) → (ys : List Y) × AllZip R xs ys
choose R [] each = ([], tt)
choose R (x ∷ xs) each =
    let first = each x (Contains-head x xs) in
    let rest = choose R xs (λ y c. each y (Contains-cons x y xs c)) in
    (first.0 ∷ rest.0, (first.1, rest.1))

-- what is so of the second of each pair
all_of_zip : {X Y : Type 0} (R : X → Y → Type 0) (P : Y → Type 0) (xs : List X) (ys : List Y) → ((x : X) (y : Y) → R x y → P y)
    → AllZip R xs ys → All P ys
all_of_zip R P [] [] each h = All-nil P
all_of_zip R P [] (y ∷ ys) each h = absurd h
all_of_zip R P (x ∷ xs) [] each h = absurd h
all_of_zip R P (x ∷ xs) (y ∷ ys) each h = All-cons P y ys (each x y h.0) (all_of_zip R P xs ys each h.1)

-- a list with one for each number below n
list_below : {X : Type 0} (P : ℕ → X → Type 0) (n : ℕ) → ((k : ℕ) → k < n → (x : X) × P k x)
    → (xs : List X) × (length xs ≡ n) × ((k : ℕ) → k < n → (x : X) × (slice_get xs k ≡ Some x) × P k x)
list_below P zero each = ([], refl, λ k l. absurd (omega (arith, l)))
list_below {X} P (suc n) each =
    let rest = list_below P n (λ k l. each k (omega (arith, l))) in
    let last = each n (omega arith) in
    let xs : List X = rest.0 in (
      xs ++ last.0 ∷ [],
      (let more = length_push xs last.0 in let size = rest.1 in omega (arith, more, size)),
      λ k l. ⊎_elim
          (λ (less : k < n). let h = rest.2 k less in (h.0, at_front xs (last.0 ∷ []) k h.0 h.1, h.2))
          (λ (not : n ≤ k).
          let same : n ≡ k = omega (arith, l, not) in (
            last.0,
            ap (slice_get (xs ++ last.0 ∷ [])) (sym same ∙ sym rest.1) ∙ at_seam xs last.0 [],
            subst (λ j. P j last.0) same last.1,
          ))
          (cases_lt k n),
    )

-- a row that is shown has at the instant what this one has wherever the body looks
record StandsFor (rows : List (Option SeenRow)) (e : Equality) (t : ℤ) (number other : ℕ) : Type 0 where
  pub row : SeenRow
  pub like_row : SeenRow
  pub at : row_at rows number ≡ Some row
  pub there : row_at rows other ≡ Some like_row
  pub shown : IsShown e other
  pub like : IsLike e row like_row
  pub instant : Has like_row.span t

module _ (rows : List (Option SeenRow)) (egd : Egd) (e : Equality) (is : IsIndexFor rows egd e) (m : Match) (unequal : IsUnequalMatch rows egd m) where
  abbrev t : ℤ
  t = unequal.match.instant.0

  abbrev value : Arg → Option Seen
  value = seen_value m.binding

  size : length egd.body ≡ length m.rows
  size = zip_length (IsImageAt rows value) egd.body m.rows unequal.match.images

  -- an atom of the egd is one of the index
  in_body : (k : ℕ) (atom : Atom) → slice_get egd.body k ≡ Some atom → Contains e.index.body atom
  in_body k atom at = subst (λ (body : List Atom). Contains body atom) (sym is.body) (contains_from_at egd.body k atom at)

  fits_atom : (atom : Atom) (row : SeenRow) → IsImage value atom row → FitsAtom atom row
  fits_atom atom row image = record {
    relation = image.relation;
    arity = sym (length-map row.cells Some) ∙ ap length image.cells ∙ length-map atom.args value;
  }

  -- for each row of the match a row is shown that stands for it
  stands_for : (number : ℕ) → Contains m.rows number → (other : ℕ) × StandsFor rows e t number other
  stands_for number c =
      let place = at_from_contains m.rows number c in
      let k = place.0 in
      let l = within_from_at m.rows k number place.1 in
      let atom = at_within egd.body k (omega (arith, size, l)) in
      let here = zip_at (IsImageAt rows value) egd.body m.rows unequal.match.images k atom.0 atom.1 in
      let same : here.0 ≡ number = same_some (slice_get m.rows k) here.0 number here.1 place.1 in
      let row = some_and (IsImage value atom.0) (row_at rows here.0) here.2 in
      let there : row_at rows number ≡ Some row.0 = ap (row_at rows) (sym same) ∙ row.1 in
      let holds = All-contains (HoldsAt rows t) m.rows number ((unequal.match.common t).0 unequal.match.instant.1) c in
      let held = some_and (λ (r : SeenRow). Has r.span t) (row_at rows number) holds in
      let has : Has row.0.span t = subst (λ (r : SeenRow). Has r.span t) (same_some (row_at rows number) held.0 row.0 held.1 there) held.2 in
      let s = is.shows.stand number row.0 t there (atom.0, in_body k atom.0 atom.1, fits_atom atom.0 row.0 row.2) has in (
        s.number,
        record { row = row.0; like_row = s.other; at = there; there = s.there; shown = s.shown; like = s.like; instant = s.instant },
      )

  chosen : (others : List ℕ) × AllZip (StandsFor rows e t) m.rows others
  chosen = choose (StandsFor rows e t) m.rows stands_for

  abbrev others : List ℕ
  others = chosen.0

  -- what stands for the row of an atom
  record Placed (k : ℕ) (atom : Atom) : Type 0 where
    pub number : ℕ
    pub old : SeenRow
    pub new : SeenRow
    pub at : slice_get others k ≡ Some number
    pub there : row_at rows number ≡ Some new
    pub image : IsImage value atom old
    pub like : IsLike e old new

  placed : (k : ℕ) (atom : Atom) → slice_get egd.body k ≡ Some atom → Placed k atom
  placed k atom at =
      let here = zip_at (IsImageAt rows value) egd.body m.rows unequal.match.images k atom at in
      let row = some_and (IsImage value atom) (row_at rows here.0) here.2 in
      let pair = zip_at (StandsFor rows e t) m.rows others chosen.1 k here.0 here.1 in
      let stand = pair.2 in
      let same : row.0 ≡ stand.row = same_some (row_at rows here.0) row.0 stand.row row.1 stand.at in
      record {
        number = pair.0;
        old = stand.row;
        new = stand.like_row;
        at = pair.1;
        there = stand.there;
        image = subst (IsImage value atom) same row.2;
        like = stand.like;
      }

  -- as many cells as arguments
  arity : (k : ℕ) (atom : Atom) (p : Placed k atom) → length p.new.cells ≡ length atom.args
  arity k atom p = p.like.arity ∙ (fits_atom atom p.old p.image).arity

  -- where the body looks, the cells are as in the match
  cell_at_look : (k : ℕ) (atom : Atom) → slice_get egd.body k ≡ Some atom → (p : Placed k atom) (column : ℕ) (arg : Arg)
      → slice_get atom.args column ≡ Some arg → IsLookedAt e arg → slice_get p.new.cells column ≡ value arg
  cell_at_look k atom at p column arg q looked =
      let fits = fits_atom atom p.old p.image in
      let fit = fits.arity in
      let l = within_from_at atom.args column arg q in
      let cell = at_within p.old.cells column (omega (arith, l, fit)) in
      p.like.cells atom column arg (in_body k atom at) fits q looked ∙ cell.1
      ∙ maps_at (λ (c : Seen). Some c) value p.old.cells atom.args p.image.cells column cell.0 arg cell.1 q

  -- a value that stands in all cells of a variable, and is that of the match where the body looks
  record IsValue (v : ℕ) (c : Seen) : Type 0 where
    pub stands : (k column : ℕ) (atom : Atom) → slice_get egd.body k ≡ Some atom → (p : Placed k atom)
        → slice_get atom.args column ≡ Some (Var v) → slice_get p.new.cells column ≡ Some c
    pub kept : IsLookedAt e (Var v) → slice_get m.binding v ≡ Some c

  -- two rows that stand for that of one atom are one
  same_placed : (k j : ℕ) (a b : Atom) (p : Placed k a) (q : Placed j b) → k ≡ j → p.new ≡ q.new
  same_placed k j a b p q same =
      let number : p.number ≡ q.number = same_some (slice_get others k) p.number q.number p.at (ap (slice_get others) same ∙ q.at) in
      same_some (row_at rows p.number) p.new q.new p.there (ap (row_at rows) number ∙ q.there)

  stands_at : (k column v : ℕ) (atom : Atom) → slice_get egd.body k ≡ Some atom → slice_get atom.args column ≡ Some (Var v)
      → StandsAt e.index.body v k column
  stands_at k column v atom at q =
      subst (λ (body : List Atom). StandsAt body v k column) (sym is.body)
      (and_some (λ (a : Atom). slice_get a.args column ≡ Some (Var v)) (slice_get egd.body k) atom at q)

  value_for : (v : ℕ) → v < length egd.vars → (c : Seen) × IsValue v c
  value_for v l =
      let occurs = atom_from_occurs egd.body v ((is.occur v).1 l) in
      let k = occurs.0 in
      let atom = occurs.1 in
      let at = occurs.2 in
      let argument = at_from_contains atom.args (Var v) occurs.3 in
      let column = argument.0 in
      let p = placed k atom at in
      let many = arity k atom p in
      let within = within_from_at atom.args column (Var v) argument.1 in
      let cell = at_within p.new.cells column (omega (arith, within, many)) in
      let kept : IsLookedAt e (Var v) → slice_get m.binding v ≡ Some cell.0 =
      λ looked. sym (cell_at_look k atom at p column (Var v) argument.1 looked) ∙ cell.1 in (
        cell.0,
        record {
          stands = λ j other b in_place q r. elim (cases_eq k j) [
            | inl same ↦ elim (cases_eq column other) [
              | inl equal ↦
                  ap (λ (row : SeenRow). slice_get row.cells other) (sym (same_placed k j atom b p q same))
                  ∙ ap (slice_get p.new.cells) (sym equal) ∙ cell.1
              | inr apart ↦
                  let recurs : Recurs e.index.body v = record {
                    place = k;
                    column = column;
                    other_place = j;
                    other_column = other;
                    stands = stands_at k column v atom at argument.1;
                    again = stands_at j other v b in_place r;
                    apart = λ both. apart both.1;
                  } in
                  cell_at_look j b in_place q other (Var v) r (inr (inr recurs)) ∙ kept (inr (inr recurs))
            ]
            | inr apart ↦
                let recurs : Recurs e.index.body v = record {
                  place = k;
                  column = column;
                  other_place = j;
                  other_column = other;
                  stands = stands_at k column v atom at argument.1;
                  again = stands_at j other v b in_place r;
                  apart = λ both. apart both.0;
                } in
                cell_at_look j b in_place q other (Var v) r (inr (inr recurs)) ∙ kept (inr (inr recurs))
          ];
          kept = kept;
        },
      )

  values : (binding : List Seen) × (length binding ≡ length egd.vars)
      × ((v : ℕ) → v < length egd.vars → (c : Seen) × (slice_get binding v ≡ Some c) × IsValue v c)
  values = list_below IsValue (length egd.vars) value_for

  abbrev binding : List Seen
  binding = values.0

  -- what an argument stands for is in the cell
  cell_is : (k : ℕ) (atom : Atom) → slice_get egd.body k ≡ Some atom → (p : Placed k atom) (column : ℕ) (cell : Seen) (arg : Arg)
      → slice_get p.new.cells column ≡ Some cell → slice_get atom.args column ≡ Some arg → Some cell ≡ seen_value binding arg
  cell_is k atom at p column cell (Const c) here q = sym here ∙ cell_at_look k atom at p column (Const c) q tt
  cell_is k atom at p column cell (Var v) here q =
      let l = (is.occur v).0 (occurs_from_atom egd.body v k atom at (contains_from_at atom.args column (Var v) q)) in
      let h = values.2 v l in
      sym here ∙ h.2.stands k column atom at p q ∙ sym h.1

  others_size : length m.rows ≡ length others
  others_size = zip_length (StandsFor rows e t) m.rows others chosen.1

  image_is : (k : ℕ) (atom : Atom) (number : ℕ) → slice_get egd.body k ≡ Some atom → slice_get others k ≡ Some number
      → IsImageAt rows (seen_value binding) atom number
  image_is k atom number at here =
      let p = placed k atom at in
      let same : p.number ≡ number = same_some (slice_get others k) p.number number p.at here in
      subst (IsImageAt rows (seen_value binding) atom) same
      (and_some (IsImage (seen_value binding) atom) (row_at rows p.number) p.new p.there (record {
        relation = p.like.relation ∙ p.image.relation;
        cells = maps_from_each (λ (c : Seen). Some c) (seen_value binding) p.new.cells atom.args (arity k atom p)
            (λ column cell arg q r. cell_is k atom at p column cell arg q r);
      }))

  -- a variable that is looked at keeps its value
  kept_value : (v : ℕ) → IsLookedAt e (Var v) → slice_get binding v ≡ slice_get m.binding v
  kept_value v looked = ⊎_elim
      (λ (less : v < length egd.vars). let h = values.2 v less in h.1 ∙ sym (h.2.kept looked))
      (λ (not : length egd.vars ≤ v).
      let one = values.1 in
      let two = unequal.match.values in
      slice_get_past binding v (omega (arith, not, one)) ∙ sym (slice_get_past m.binding v (omega (arith, not, two))))
      (cases_lt v (length egd.vars))

  there : All (λ n. (row : SeenRow) × (row_at rows n ≡ Some row)) others
  there = all_of_zip (StandsFor rows e t) (λ n. (row : SeenRow) × (row_at rows n ≡ Some row)) m.rows others
      (λ number other s. (s.like_row, s.there)) chosen.1

  hold : All (HoldsAt rows t) others
  hold = all_of_zip (StandsFor rows e t) (HoldsAt rows t) m.rows others
      (λ number other s. and_some (λ (r : SeenRow). Has r.span t) (row_at rows other) s.like_row s.there s.instant) chosen.1

  pub shown_match : (found : Match) × IsShownMatch rows egd e found
  shown_match =
      let common = common_of rows others (λ n c. All-contains (λ k. (row : SeenRow) × (row_at rows k ≡ Some row)) others n there c) in (
        record { rows = others; binding = binding; span = common.0 },
        record {
          unequal = record {
            match = record {
              images = zip_from_each (IsImageAt rows (seen_value binding)) egd.body others (size ∙ others_size) image_is;
              values = values.1;
              common = common.1;
              instant = (t, (common.1 t).1 hold);
            };
            unequal = λ same. unequal.unequal (sym (kept_value egd.left (inl (sym is.left))) ∙ same
                ∙ kept_value egd.right (inr (inl (sym is.right))));
          };
          shown = all_of_zip (StandsFor rows e t) (IsShown e) m.rows others (λ number other s. s.shown) chosen.1;
        },
      )
