-- The rows of a head, one after another.
use Rattle.std.proofs.Common.{◌≡◌, ℕ, zero, suc, ◌+◌, ◌<◌, ◌≤◌, get_or, Option, Some, None, List, [], ◌∷◌, ◌++◌, length, map, set, take, refl, sym, ap, ◌∙◌, subst, arith, All}
use Rattle.std.specs.Prelude.{flat_map, slice_get, IsSomeAnd, IsPermutation}
use Rattle.std.specs.List.{filter_map}
use Rattle.std.specs.Option.{option_map}
use Rattle.std.proofs.lemmas.Option.{slice_get-get_or}
use Rattle.time_line.specs.Span.{Ends}
use Rattle.std.proofs.lemmas.List.{length-append, append-nil, append_assoc, map_push}
use Rattle.std.proofs.lemmas.List.Sorted.{IsPermutation-refl, IsPermutation-trans, IsPermutation-append}
use Rattle.term_core.specs.declared.term.Seen.{Seen}
use Rattle.term_core.specs.declared.term.Seen.TheVariants.{Const, Piece}
use Rattle.rule_core.specs.declared.rules.Arg.{Arg}
use Rattle.rule_core.specs.declared.rules.Atom.{Atom}
use Rattle.fact_table.specs.Rows.{SeenRow, row_at}
use Rattle.null_store.specs.Layout.{IsPlain, HasPlain, IsThere, cell_of, with_cell, SetsCell, AddsOne, AddsRows}
use Rattle.null_store.proofs.ListLemmas.{and_some, one_added}

-- there is room for one more atom where there is room for all
pub room_for_next : (head : List Atom) (i : ℕ) (d : Atom) → i < length head
    → length (flat_map (λ atom. atom.args) (take i head)) + length (get_or head i d).args ≤ length (flat_map (λ atom. atom.args) head)
room_for_next [] i d l = absurd (omega arith)
room_for_next (atom ∷ head) zero d l = simp length-append (omega arith)
room_for_next (atom ∷ head) (suc i) d l =
    let rest = room_for_next head i d (omega arith) in
    simp length-append (omega (arith, rest))

-- the cells of the first k arguments, and a constant for each of the others
abbrev pub filled : List Seen → ℕ → List Arg → List Seen
filled values k [] = []
filled values zero (arg ∷ args) = Const (record { 0 = 0 }) ∷ filled values zero args
filled values (suc k) (arg ∷ args) = cell_of values arg ∷ filled values k args

-- one more is filled
filled_next : (values : List Seen) (args : List Arg) (k : ℕ) (arg : Arg) → slice_get args k ≡ Some arg
    → set (filled values k args) k (cell_of values arg) ≡ filled values (suc k) args
filled_next values [] k arg e = absurd cc
filled_next values (a ∷ args) zero arg e = let same : arg ≡ a = cc in ap (λ b. cell_of values b ∷ filled values zero args) same
filled_next values (a ∷ args) (suc k) arg e = ap (λ l. cell_of values a ∷ l) (filled_next values args k arg e)

pub filled_more : (values : List Seen) (args : List Arg) (k : ℕ) (arg : Arg) → slice_get args k ≡ Some arg
    → set (filled values k args) k (cell_of values arg) ≡ filled values (k + 1) args
filled_more values args k arg e =
    let same : suc k ≡ k + 1 = omega arith in
    filled_next values args k arg e ∙ ap (λ n. filled values n args) same

pub filled_all : (values : List Seen) (args : List Arg) → filled values (length args) args ≡ map (cell_of values) args
filled_all values [] = refl
filled_all values (a ∷ args) = ap (λ l. cell_of values a ∷ l) (filled_all values args)

-- the next one is a constant
pub filled_plain : (values : List Seen) (args : List Arg) (k : ℕ) → k < length args
    → IsSomeAnd (slice_get (filled values k args) k) IsPlain
filled_plain values [] k l = absurd (omega arith)
filled_plain values (a ∷ args) zero l = tt
filled_plain values (a ∷ args) (suc k) l = filled_plain values args k (omega arith)

-- nothing is filled where all are one constant
abbrev pub blanks : ℕ → List Seen
blanks zero = []
blanks (suc m) = Const (record { 0 = 0 }) ∷ blanks m

pub blank_is : (values : List Seen) (m n : ℕ) (args : List Arg) → n ≡ length args → length args ≤ m
    → take n (blanks m) ≡ filled values zero args
blank_is values m zero [] e l = refl
blank_is values m (suc n) [] e l = absurd (omega (arith, e))
blank_is values m zero (a ∷ args) e l = absurd (omega (arith, e))
blank_is values zero (suc n) (a ∷ args) e l = absurd (omega (arith, l))
blank_is values (suc m) (suc n) (a ∷ args) e l =
    ap (λ w. Const (record { 0 = 0 }) ∷ w) (blank_is values m n args (omega (arith, e)) (omega (arith, l)))

pub filled_long : (values : List Seen) (k : ℕ) (args : List Arg) → length (filled values k args) ≡ length args
filled_long values k [] = refl
filled_long values zero (a ∷ args) = ap suc (filled_long values zero args)
filled_long values (suc k) (a ∷ args) = ap suc (filled_long values k args)

-- the row while it is filled
module _ (values : List Seen) (args : List Arg) (relation : ℕ) (span : Ends) where
  abbrev pub partly : ℕ → SeenRow
  partly k = record { relation = relation; cells = filled values k args; span = span }

  pub has_plain : (rows : List (Option SeenRow)) (n k : ℕ) → row_at rows n ≡ Some (partly k) → k < length args → HasPlain rows n k
  has_plain rows n k e l = and_some (λ (r : SeenRow). IsSomeAnd (slice_get r.cells k) IsPlain) (row_at rows n) (partly k) e
      (filled_plain values args k l)

  module _ (k : ℕ) (d : Arg) (sliced : List Arg) (same : sliced ≡ args) (l : k < length args) (result : Seen)
      (is : result ≡ cell_of values (get_or sliced k d)) where
    its_value : result ≡ cell_of values (get_or args k d)
    its_value = is ∙ ap (λ (s : List Arg). cell_of values (get_or s k d)) same

    pub fills : (value : Seen) → result ≡ value → (old new : List (Option SeenRow)) (n : ℕ) → row_at old n ≡ Some (partly k)
        → SetsCell old new n k value → row_at new n ≡ Some (partly (k + 1))
    fills value e old new n before sets =
        let put : value ≡ cell_of values (get_or args k d) = sym e ∙ its_value in
        let more = filled_more values args k (get_or args k d) (slice_get-get_or args k d l) in
        sets.here ∙ ap (option_map (with_cell k value)) before
        ∙ (λ i. Some (record { relation = relation; cells = set (filled values k args) k (put i); span = span }))
        ∙ (λ i. Some (record { relation = relation; cells = more i; span = span }))

    pub holds_there : (n p : ℕ) → result ≡ Piece p → All (IsThere values n) args → p < n
    holds_there n p e there = there k d l p (sym its_value ∙ e)

-- the cells of one more atom
pub cells_so_far : (head : List Atom) (i : ℕ) (d : Atom) → i < length head
    → length (flat_map (λ atom. atom.args) (take (i + 1) head))
    ≡ length (flat_map (λ atom. atom.args) (take i head)) + length (get_or head i d).args
cells_so_far head i d l =
    let next : i + 1 ≡ suc i = omega arith in
    ap (λ n. length (flat_map (λ atom. atom.args) (take n head))) next ∙ by head i l
  where
    by : (atoms : List Atom) (k : ℕ) → k < length atoms
        → length (flat_map (λ atom. atom.args) (take (suc k) atoms))
        ≡ length (flat_map (λ atom. atom.args) (take k atoms)) + length (get_or atoms k d).args
    by [] k l = absurd (omega arith)
    by (atom ∷ atoms) zero l = simp length-append (omega arith)
    by (atom ∷ atoms) (suc k) l = let rest = by atoms k (omega arith) in simp length-append (omega (arith, rest))

-- no row yet, and one more
pub rows_none : (rows : List (Option SeenRow)) → AddsRows rows rows []
rows_none rows = record {
  rows = subst (λ l. IsPermutation l (filter_map (λ (r : Option SeenRow). r) rows)) (sym (append-nil (filter_map (λ (r : Option SeenRow). r) rows)))
      (IsPermutation-refl (filter_map (λ (r : Option SeenRow). r) rows));
  kept = λ n row e. e;
}

pub rows_more : (f : Atom → SeenRow) (head : List Atom) (k : ℕ) (atom : Atom) → atom ≡ get_or head k atom → k < length head
    → (old mid new : List (Option SeenRow)) → AddsRows old mid (map f (take k head)) → (n : ℕ) → AddsOne mid new n (f atom)
    → AddsRows old new (map f (take (k + 1) head))
rows_more f head k atom is l old mid new before n one = record {
  rows =
      let last : take (k + 1) head ≡ take k head ++ atom ∷ [] = take_more head k atom is l in
      let more = map f (take k head) in
      let whole : map f (take (k + 1) head) ≡ more ++ f atom ∷ [] = ap (map f) last ∙ map_push f (take k head) atom in
      subst (λ w. IsPermutation (flat old ++ w) (flat new)) (sym whole)
      (subst (λ w. IsPermutation w (flat new)) (append_assoc (flat old) more (f atom ∷ []))
      (IsPermutation-trans ((flat old ++ more) ++ f atom ∷ []) (flat mid ++ f atom ∷ []) (flat new)
      (IsPermutation-append (flat old ++ more) (flat mid) (f atom ∷ []) (f atom ∷ []) before.rows (IsPermutation-refl (f atom ∷ [])))
      (one_added mid new n (f atom) one.vacant one.here one.others)));
  kept = λ m row e.
      let was = before.kept m row e in
      one.others m (λ same. let clash : None ≡ Some row = sym one.vacant ∙ sym (ap (row_at mid) same) ∙ was in cc) ∙ was;
}
  where
    flat : List (Option SeenRow) → List SeenRow
    flat rows = filter_map (λ (r : Option SeenRow). r) rows

    take_more : (atoms : List Atom) (i : ℕ) (a : Atom) → a ≡ get_or atoms i a → i < length atoms → take (i + 1) atoms ≡ take i atoms ++ a ∷ []
    take_more atoms i a is l = let next : i + 1 ≡ suc i = omega arith in ap (λ j. take j atoms) next ∙ by atoms i a is l
      where
        by : (atoms : List Atom) (i : ℕ) (a : Atom) → a ≡ get_or atoms i a → i < length atoms → take (suc i) atoms ≡ take i atoms ++ a ∷ []
        by [] i a is l = absurd (omega arith)
        by (b ∷ atoms) zero a is l = ap (λ w. w ∷ []) (sym is)
        by (b ∷ atoms) (suc i) a is l = ap (λ w. b ∷ w) (by atoms i a is (omega arith))
