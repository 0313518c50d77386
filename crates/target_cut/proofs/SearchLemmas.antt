-- Numbers, each once, to which the rows that hold pieces are added.
use Rattle.std.proofs.Common.{◌≡◌, ◌⊎◌, inl, inr, ℕ, Bool, true, false, Some, None, Option, if◌then◌else◌, List, [], ◌∷◌, ◌++◌, refl, sym, ap, ◌∙◌, subst, Contains}
use Rattle.std.specs.Prelude.{slice_get, IsSomeAnd, nat_eq}
use Rattle.std.specs.List.{list_any}
use Rattle.std.specs.Option.{option_and_then}
use Rattle.std.proofs.lemmas.Bool.{eqb-true}
use Rattle.std.proofs.lemmas.List.{append-nil, append_assoc}
use Rattle.std.proofs.lemmas.List.Elements.{Contains-append_left, Contains-push, Contains-push_cases}
use Rattle.rule_core.proofs.ListLemmas.{Contains-nil, Contains-head, Contains-cons, Contains-cons_cases, Contains-map, Contains-from_map}
use Rattle.indexmap.specs.IndexSet.{insert_key, insert_all}
use Rattle.indexmap.proofs.CallerLemmas.{Contains-list_any}
use Rattle.term_core.specs.declared.term.Seen.TheVariants.{Piece}
use Rattle.fact_table.specs.Rows.{SeenRow, row_at, cell_at}
use Rattle.null_store.specs.Lists.{Place, HasRowsOf}
use Rattle.null_store.proofs.ListLemmas.{some_and, contains_from_at, at_from_contains}
use Rattle.null_store.specs.Store.{Store}
use Rattle.null_store.specs.Splits.{HasPiece}
use Rattle.target_cut.specs.Search.{Walks}

-- a number is added where it is new, behind the others
pub record Inserts (old added new : List ℕ) : Type 0 where
  pub behind : (more : List ℕ) × (new ≡ old ++ more)
  pub there : (n : ℕ) → Contains added n → Contains new n
  pub only : (n : ℕ) → Contains new n → Contains old n ⊎ Contains added n

pub number_found : (keys : List ℕ) (n : ℕ) → list_any (nat_eq n) keys ≡ true → Contains keys n
number_found = Contains-list_any nat_eq (λ x y e. eqb-true x y e)

pub inserts_one : (keys : List ℕ) (x : ℕ) (new : List ℕ) → new ≡ insert_key nat_eq keys x → Inserts keys (x ∷ []) new
inserts_one keys x new e = by (list_any (nat_eq x) keys) refl
  where
    by : (b : Bool) → list_any (nat_eq x) keys ≡ b → Inserts keys (x ∷ []) new
    by true h =
        let same : new ≡ keys = e ∙ ap (λ (b : Bool). if b then keys else keys ++ x ∷ []) h in
        subst (Inserts keys (x ∷ [])) (sym same) (record {
          behind = ([], sym (append-nil keys));
          there = λ n c. elim (Contains-cons_cases x n [] c) [
            | inl same ↦ subst (Contains keys) same (number_found keys x h)
            | inr none ↦ absurd (Contains-nil n none)
          ];
          only = λ n c. inl c;
        })
    by false h =
        let more : new ≡ keys ++ x ∷ [] = e ∙ ap (λ (b : Bool). if b then keys else keys ++ x ∷ []) h in
        subst (Inserts keys (x ∷ [])) (sym more) (record {
          behind = (x ∷ [], refl);
          there = λ n c. elim (Contains-cons_cases x n [] c) [
            | inl same ↦ subst (Contains (keys ++ x ∷ [])) same (Contains-push keys x)
            | inr none ↦ absurd (Contains-nil n none)
          ];
          only = λ n c. elim (Contains-push_cases keys x n c) [
            | inl old ↦ inl old
            | inr same ↦ inr (subst (Contains (x ∷ [])) same (Contains-head x []))
          ];
        })

-- what stands in the front stays
pub stays : (old new : List ℕ) → (more : List ℕ) × (new ≡ old ++ more) → (n : ℕ) → Contains old n → Contains new n
stays old new more n c = subst (λ (l : List ℕ). Contains l n) (sym more.1) (Contains-append_left old more.0 n c)

pub inserts_all : (keys xs new : List ℕ) → new ≡ insert_all nat_eq keys xs → Inserts keys xs new
inserts_all keys [] new e = subst (Inserts keys []) (sym e) (record {
  behind = ([], sym (append-nil keys));
  there = λ n c. absurd (Contains-nil n c);
  only = λ n c. inl c;
})
inserts_all keys (x ∷ xs) new e =
    let first = inserts_one keys x (insert_key nat_eq keys x) refl in
    let rest = inserts_all (insert_key nat_eq keys x) xs new e in
    record {
      behind = (
        first.behind.0 ++ rest.behind.0,
        rest.behind.1 ∙ ap (λ (l : List ℕ). l ++ rest.behind.0) first.behind.1 ∙ append_assoc keys first.behind.0 rest.behind.0,
      );
      there = λ n c. elim (Contains-cons_cases x n xs c) [
        | inl same ↦ stays (insert_key nat_eq keys x) new rest.behind n (first.there n (subst (Contains (x ∷ [])) same (Contains-head x [])))
        | inr later ↦ rest.there n later
      ];
      only = λ n c. elim (rest.only n c) [
        | inl before ↦ elim (first.only n before) [
          | inl old ↦ inl old
          | inr it ↦ inr (elim (Contains-cons_cases x n [] it) [
            | inl same ↦ subst (Contains (x ∷ xs)) same (Contains-head x xs)
            | inr none ↦ absurd (Contains-nil n none)
          ])
        ]
        | inr later ↦ inr (Contains-cons x n xs later)
      ];
    }

-- a row holds a piece exactly where a cell of it does
pub held_cell : (store : Store) (number piece : ℕ) → HasPiece store number piece
    → (column : ℕ) × (cell_at store.rows number column ≡ Some (Piece piece))
held_cell store number piece h =
    let row = some_and (λ (r : SeenRow). Contains r.cells (Piece piece)) (row_at store.rows number) h in (
      row.2.0,
      ap (option_and_then (λ (r : SeenRow). slice_get r.cells row.2.0)) row.1
          ∙ at_from_contains row.0.cells (Piece piece) row.2.0 row.2.1 row.2.2,
    )

pub cell_held : (store : Store) (number column piece : ℕ) → cell_at store.rows number column ≡ Some (Piece piece)
    → HasPiece store number piece
cell_held store number column piece = by (row_at store.rows number)
  where
    by : (o : Option SeenRow) → option_and_then (λ (r : SeenRow). slice_get r.cells column) o ≡ Some (Piece piece)
        → IsSomeAnd o (λ row. Contains row.cells (Piece piece))
    by None e = absurd cc
    by (Some row) e = contains_from_at row.cells column (Piece piece) e

-- the rows of the cells that hold a piece are those that hold it
module _ (store : Store) (piece : ℕ) (numbers : List ℕ) (holders : HasRowsOf store.rows piece numbers) where
  pub holders_in : (number : ℕ) → HasPiece store number piece → Contains numbers number
  holders_in number h =
      let cell = held_cell store number piece h in
      let at = holders.2.all number cell.0 cell.1 in
      let place : Place = record { row = number; column = cell.0 } in
      subst (λ (l : List ℕ). Contains l number) (sym holders.1)
      (Contains-map (λ (p : Place). p.row) holders.0 place (contains_from_at holders.0 at.0 place at.1))

  pub in_holders : (number : ℕ) → Contains numbers number → HasPiece store number piece
  in_holders number c =
      let from = Contains-from_map (λ (p : Place). p.row) holders.0 number (subst (λ (l : List ℕ). Contains l number) holders.1 c) in
      let cell = holders.2.hold from.1.0 from.0 (at_from_contains holders.0 from.0 from.1.0 from.1.1 from.1.2) in
      subst (λ (n : ℕ). HasPiece store n piece) from.2 (cell_held store from.0.row from.0.column piece cell)

  pub walks : (old new : List ℕ) → Inserts old numbers new → Walks store piece old new
  walks old new h = record {
    behind = h.behind;
    holders = λ number at. h.there number (holders_in number at);
    only = λ number c. elim (h.only number c) [
      | inl before ↦ inl before
      | inr added ↦ inr (in_holders number added)
    ];
  }
