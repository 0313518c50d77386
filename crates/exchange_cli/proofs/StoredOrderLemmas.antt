-- The order of terms as they are stored: texts stand as their numbers do, and numbers of unknowns as the unknowns.
use Rattle.std.proofs.Common.{◌≡◌, ℕ, ◌+◌, ◌<◌, List, [], ◌∷◌, map, length, get_or, refl, sym, ◌∙◌, arith, All, AllPairs, Contains}
use Rattle.std.specs.Prelude.{Some, slice_get}
use Rattle.std.specs.declared.cmp.Ordering.TheVariants.{Less}
use Rattle.std.specs.Ordering.{nat_cmp, ordering_then}
use Rattle.std.specs.Cmp.{IsTotalOrder}
use Rattle.std.specs.Cmp.Lexicographic.{slice_cmp}
use Rattle.std.proofs.lemmas.Bool.Decides.{nat_tests}
use Rattle.std.proofs.lemmas.List.Elements.{All-head, All-tail}
use Rattle.std.proofs.lemmas.Option.{slice_get-get_or}
use Rattle.term_core.specs.declared.const_id.ConstId.{ConstId}
use Rattle.term_core.specs.declared.term.Unknown.{Unknown as HeldUnknown}
use Rattle.term_core.specs.declared.term.Term.{Term}
use Rattle.term_core.specs.declared.term.Term.TheVariants.{Const, Null}
use Rattle.term_core.specs.Order.{id_cmp, unknown_cmp, term_cmp}
use Rattle.rule_core.specs.Order.{stored_cmp}
use Rattle.rule_core.specs.Order as stored
use Rattle.certain_answers.proofs.RankLemmas.{places_cmp, count_before, count_is_place}
use Rattle.exchange_engine.specs.Loading.{text_in}
use Rattle.exchange_cli.specs.Rendering.{rank_in, stored_term}

-- numbers that are counted from 1 compare as their places

nat_cmp-more : (i j : ℕ) → nat_cmp (i + 1) (j + 1) ≡ nat_cmp i j
nat_cmp-more i j = grind (arith, nat_tests)

-- terms and rows

-- a constant has a text in the pool, and an unknown is one of those that have numbers
abbrev pub IsStorable : List (List ℕ) → List HeldUnknown → Term → Type 0
IsStorable pool nulls (Const c) = c.0 < length pool
IsStorable pool nulls (Null u) = Contains nulls u

-- numbers of a pool are ordered as their texts
abbrev pub IsOrderedAlike : List (List ℕ) → Type 0
IsOrderedAlike pool = (i j : ℕ) (a b : List ℕ) → slice_get pool i ≡ Some a → slice_get pool j ≡ Some b
    → nat_cmp i j ≡ slice_cmp nat_cmp a b

module _ (ordered : IsTotalOrder unknown_cmp) (nulls : List HeldUnknown) (ascending : AllPairs (λ u w. unknown_cmp u w ≡ Less) nulls) where
  -- an unknown stands at the place before its number
  pub rank_is_place : (u : HeldUnknown) → Contains nulls u → (d : HeldUnknown)
      → get_or nulls (count_before unknown_cmp ordered nulls u) d ≡ u
  rank_is_place u there = (count_is_place unknown_cmp ordered nulls ascending u there).1

  -- numbers of unknowns compare as the unknowns do
  ranks_cmp : (u w : HeldUnknown) → Contains nulls u → Contains nulls w → nat_cmp (rank_in nulls u) (rank_in nulls w) ≡ unknown_cmp u w
  ranks_cmp u w c d =
      let before = count_before unknown_cmp ordered nulls in
      let i = count_is_place unknown_cmp ordered nulls ascending u c in
      let j = count_is_place unknown_cmp ordered nulls ascending w d in
      nat_cmp-more (before u) (before w)
      ∙ sym (places_cmp unknown_cmp ordered nulls ascending (before u) (before w) u i.0 j.0)
      ∙ (λ k. unknown_cmp (i.1 u k) (j.1 u k))

  module _ (pool : List (List ℕ)) (alike : IsOrderedAlike pool) where
    -- texts of constants compare as their numbers do
    texts_cmp : (c d : ConstId) → c.0 < length pool → d.0 < length pool
        → slice_cmp nat_cmp (text_in pool c) (text_in pool d) ≡ id_cmp c d
    texts_cmp c d h l = sym (alike c.0 d.0 (text_in pool c) (text_in pool d)
        (slice_get-get_or pool c.0 [] h) (slice_get-get_or pool d.0 [] l))

    -- stored terms compare as the terms do
    terms_cmp : (x y : Term) → IsStorable pool nulls x → IsStorable pool nulls y
        → stored.term_cmp (slice_cmp nat_cmp) (stored_term pool nulls x) (stored_term pool nulls y) ≡ term_cmp x y
    terms_cmp (Const c) (Const d) h l = texts_cmp c d h l
    terms_cmp (Const c) (Null w) h l = refl
    terms_cmp (Null u) (Const d) h l = refl
    terms_cmp (Null u) (Null w) h l = ranks_cmp u w h l

    -- and so stored rows
    pub rows_cmp : (xs ys : List Term) → All (IsStorable pool nulls) xs → All (IsStorable pool nulls) ys
        → stored_cmp (map (stored_term pool nulls) xs) (map (stored_term pool nulls) ys) ≡ slice_cmp term_cmp xs ys
    rows_cmp [] [] h l = refl
    rows_cmp [] (y ∷ ys) h l = refl
    rows_cmp (x ∷ xs) [] h l = refl
    rows_cmp (x ∷ xs) (y ∷ ys) h l = λ i. ordering_then
        (terms_cmp x y (All-head (IsStorable pool nulls) x xs h) (All-head (IsStorable pool nulls) y ys l) i)
        (rows_cmp xs ys (All-tail (IsStorable pool nulls) x xs h) (All-tail (IsStorable pool nulls) y ys l) i)
