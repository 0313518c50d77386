-- Facts that are told by rows, in a list where each stands once.
use Rattle.std.proofs.Common.{◌≡◌, ℕ, ◌+◌, ◌<◌, Bool, true, false, true≢false, List, [], ◌∷◌, ◌++◌, ◌&&◌, ◌||◌, if◌then◌else◌, length, map, take, get_or, refl, sym, ap, ◌∙◌, subst, inl, inr, Contains}
use Rattle.std.specs.Prelude.{nat_eq}
use Rattle.std.specs.Cmp.Lexicographic.{pointwise}
use Rattle.std.specs.List.{list_any}
use Rattle.std.proofs.lemmas.Bool.{eqb-true, eq-eqb, and_parts}
use Rattle.std.proofs.lemmas.List.{map-append, take_more, append_assoc}
use Rattle.std.proofs.lemmas.List.Folds.{list_any_at}
use Rattle.std.proofs.lemmas.List.Elements.{Contains-append_left, Contains-push, Contains-push_cases}
use Rattle.indexmap.specs.IndexSet.{insert_key}
use Rattle.rule_core.specs.Terms.{FactOf}
use Rattle.rule_core.specs.Renaming.{HoldTheSame}
use Rattle.rule_core.proofs.ListLemmas.{Contains-head, Contains-cons, Contains-from_map}
use Rattle.trace_checker.specs.declared.row.Row.{Row}
use Rattle.trace_checker.specs.contracts.name.NamePartialEq.TheImpl.{eq-value as name_eq}
use Rattle.trace_checker.specs.contracts.row.RowPartialEq.TheImpl.{eq-value as row_eq}
use Rattle.trace_checker.specs.States.{fact_named, HoldsAlso}
use Rattle.trace_checker.proofs.NameLemmas.{same_terms, equal_lists}

-- rows that the program finds equal are one fact, and the other way
pub same_row : (a b : Row) → row_eq.it a b ≡ true → fact_named a ≡ fact_named b
same_row a b h =
    let both = and_parts (nat_eq a.relation b.relation) (pointwise name_eq.it a.names.items b.names.items) h in
    let terms = same_terms a.names.items b.names.items both.1 in
    λ i. record { relation = eqb-true a.relation b.relation both.0 i; terms = terms i }

pub equal_rows : (a b : Row) → fact_named a ≡ fact_named b → row_eq.it a b ≡ true
equal_rows a b h =
    let relations = eq-eqb a.relation b.relation (ap (λ (f : FactOf (List ℕ)). f.relation) h) in
    let terms = equal_lists a.names.items b.names.items (ap (λ (f : FactOf (List ℕ)). f.terms) h) in
    λ i. relations i && terms i

-- what is found is there, and the other way
pub row_there : (keys : List Row) (k : Row) → list_any (row_eq.it k) keys ≡ true → Contains (map fact_named keys) (fact_named k)
row_there [] k h = absurd (true≢false (sym h))
row_there (x ∷ xs) k h = by (row_eq.it k x) refl (row_there xs k)
  where
    by : (b : Bool) → row_eq.it k x ≡ b → (list_any (row_eq.it k) xs ≡ true → Contains (map fact_named xs) (fact_named k))
        → Contains (map fact_named (x ∷ xs)) (fact_named k)
    by true e rest = subst (Contains (map fact_named (x ∷ xs))) (sym (same_row k x e)) (Contains-head (fact_named x) (map fact_named xs))
    by false e rest = Contains-cons (fact_named x) (fact_named k) (map fact_named xs)
        (rest (sym (ap (λ c. c || list_any (row_eq.it k) xs) e) ∙ h))

pub row_found : (keys : List Row) (k : Row) → Contains (map fact_named keys) (fact_named k) → list_any (row_eq.it k) keys ≡ true
row_found keys k c =
    let d = Contains-from_map fact_named keys (fact_named k) c in
    list_any_at (row_eq.it k) keys d.1.0 d.0 d.1.1
    (subst (λ y. row_eq.it k y ≡ true) (sym d.1.2) (equal_rows k d.0 (sym d.2)))

-- a row that is put among others
pub row_added : (keys new : List Row) (k : Row) → new ≡ insert_key row_eq.it keys k
    → HoldsAlso (map fact_named keys) (fact_named k) (map fact_named new)
row_added keys new k put = by (list_any (row_eq.it k) keys) refl
  where
    by : (b : Bool) → list_any (row_eq.it k) keys ≡ b → HoldsAlso (map fact_named keys) (fact_named k) (map fact_named new)
    by true h =
        let is : new ≡ keys = put ∙ ap (λ (b : Bool). if b then keys else keys ++ k ∷ []) h in
        subst (λ l. HoldsAlso (map fact_named keys) (fact_named k) (map fact_named l)) (sym is)
        (λ fact. (inl, λ c. elim c [ inl d ↦ d | inr e ↦ subst (Contains (map fact_named keys)) e (row_there keys k h) ]))
    by false h =
        let is : new ≡ keys ++ k ∷ [] = put ∙ ap (λ (b : Bool). if b then keys else keys ++ k ∷ []) h in
        let facts : map fact_named new ≡ map fact_named keys ++ fact_named k ∷ [] = ap (map fact_named) is ∙ map-append fact_named keys (k ∷ []) in
        subst (HoldsAlso (map fact_named keys) (fact_named k)) (sym facts)
        (λ fact. (
          Contains-push_cases (map fact_named keys) (fact_named k) fact,
          λ c. elim c [
            | inl d ↦ Contains-append_left (map fact_named keys) (fact_named k ∷ []) fact d
            | inr e ↦ subst (Contains (map fact_named keys ++ fact_named k ∷ [])) e (Contains-push (map fact_named keys) (fact_named k))
          ],
        ))

abbrev Facts : Type 0
Facts = List (FactOf (List ℕ))

-- a fact is in the list behind its first ones, or among these
pub pushed_holds : (base some old new : Facts) (added other : FactOf (List ℕ)) → added ≡ other → HoldTheSame old (base ++ some)
    → HoldsAlso old added new → HoldTheSame new (base ++ (some ++ other ∷ []))
pushed_holds base some old new added other same holds more = subst (HoldTheSame new) (append_assoc base some (other ∷ [])) (λ fact. (
  λ c. elim ((more fact).0 c) [
    | inl d ↦ Contains-append_left (base ++ some) (other ∷ []) fact ((holds fact).0 d)
    | inr e ↦ subst (Contains ((base ++ some) ++ other ∷ [])) (sym same ∙ e) (Contains-push (base ++ some) other)
  ],
  λ c. elim (Contains-push_cases (base ++ some) other fact c) [
    | inl d ↦ (more fact).1 (inl ((holds fact).1 d))
    | inr e ↦ (more fact).1 (inr (same ∙ e))
  ],
))

-- one image more
pub holds_more : {X : Type 0} (g : X → FactOf (List ℕ)) (xs : List X) (i : ℕ) (x : X) → i < length xs → x ≡ get_or xs i x
    → (base old new : Facts) (added : FactOf (List ℕ)) → added ≡ g x → HoldTheSame old (base ++ map g (take i xs))
    → HoldsAlso old added new → HoldTheSame new (base ++ map g (take (i + 1) xs))
holds_more g xs i x lt at base old new added same holds more =
    let front : take (i + 1) xs ≡ take i xs ++ x ∷ [] = take_more xs i x lt ∙ ap (λ y. take i xs ++ y ∷ []) (sym at) in
    subst (λ l. HoldTheSame new (base ++ l)) (sym (ap (map g) front ∙ map-append g (take i xs) (x ∷ [])))
    (pushed_holds base (map g (take i xs)) old new added (g x) same holds more)
