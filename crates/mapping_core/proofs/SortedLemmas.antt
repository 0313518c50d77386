-- Each text has a pool: its texts in quotes, gathered token by token in the order of their bytes.
use Rattle.std.proofs.Common.{◌≡◌, ◌⊎◌, ◌↔◌, inl, inr, ⊎_elim, ℕ, zero, suc, ◌+◌, ◌-◌, ◌<◌, ◌≤◌, List, [], ◌∷◌, length, take, drop, Contains, AllPairs, refl, sym, ap, ◌∙◌, subst, arith}
use Rattle.std.specs.declared.cmp.Ordering.{Ordering}
use Rattle.std.specs.declared.cmp.Ordering.TheVariants.{Less, Equal, Greater}
use Rattle.std.specs.Ordering.{nat_cmp, ordering_reverse}
use Rattle.std.specs.Cmp.Lexicographic.{slice_cmp}
use Rattle.std.specs.FinMap.{nat_cmp-IsAntisymmetric, slice_cmp-IsAntisymmetric}
use Rattle.std.proofs.lemmas.Cmp.{nat_list_cmp_total}
use Rattle.term_core.specs.Pool.{IsBefore}
use Rattle.rule_core.proofs.ListLemmas.{Contains-nil, Contains-head, Contains-cons, Contains-cons_cases, AllPairs-nil, AllPairs-cons, AllPairs-head, AllPairs-tail}
use Rattle.decl_text.specs.declared.token.Kind.TheVariants.{Quoted, Finish}
use Rattle.decl_text.specs.declared.token.Token.{Token}
use Rattle.decl_text.specs.Tests.{Lexeme, IsTextOf}
use Rattle.decl_text.specs.TokenList.{IsQuotedFrom}
use Rattle.decl_text.specs.Parts.{StandsNext}
use Rattle.decl_text.proofs.EitherLemmas.{token_or_fault}
use Rattle.decl_text.proofs.SomeLemmas.{same_kind}
use Rattle.decl_text.proofs.TestLemmas.{token_says}
use Rattle.mapping_core.specs.Reading.{IsPoolOf}
use Rattle.mapping_core.specs.Steps.{SaysQuoted, Gathers}
use Rattle.mapping_core.proofs.PoolLemmas.{says_quoted, Gathers-start, Gathers-step, Gathers-end}
use Rattle.mapping_core.proofs.QuotedLemmas.{quoted_no_fault, quoted_no_finish, AtEnd-finish, token_forward}

-- of two texts one stands before the other, or they are the same
compared : (a b : List ℕ) → IsBefore a b ⊎ ((a ≡ b) ⊎ IsBefore b a)
compared a b = by_order (slice_cmp nat_cmp a b) refl
  where
    by_order : (o : Ordering) → slice_cmp nat_cmp a b ≡ o → IsBefore a b ⊎ ((a ≡ b) ⊎ IsBefore b a)
    by_order Less e = inl e
    by_order Equal e = inr (inl (slice_cmp-IsAntisymmetric nat_cmp-IsAntisymmetric a b e))
    by_order Greater e = inr (inr (nat_list_cmp_total.antisymm b a ∙ ap ordering_reverse e))

-- the texts in their order, with one text more
record IsAdded (text : List ℕ) (texts more : List (List ℕ)) : Type 0 where
  order : AllPairs IsBefore more
  few : length more ≤ length texts + 1
  has : (other : List ℕ) → Contains more other ↔ (Contains texts other ⊎ (other ≡ text))

added_first : (text first : List ℕ) (rest : List (List ℕ)) → IsBefore text first → AllPairs IsBefore (first ∷ rest)
    → IsAdded text (first ∷ rest) (text ∷ first ∷ rest)
added_first text first rest before order = record {
  order = AllPairs-cons IsBefore text (first ∷ rest)
      (λ other c. ⊎_elim (λ same. subst (IsBefore text) same before)
      (λ later. nat_list_cmp_total.trans text first other before (AllPairs-head IsBefore first rest order other later))
      (Contains-cons_cases first other rest c)) order;
  few = omega arith;
  has = λ other. (
    λ c. ⊎_elim (λ same. inr (sym same)) (λ old. inl old) (Contains-cons_cases text other (first ∷ rest) c),
    λ h. ⊎_elim (λ old. Contains-cons text other (first ∷ rest) old)
        (λ same. subst (Contains (text ∷ first ∷ rest)) (sym same) (Contains-head text (first ∷ rest))) h,
  );
}

added_again : (text first : List ℕ) (rest : List (List ℕ)) → text ≡ first → AllPairs IsBefore (first ∷ rest)
    → IsAdded text (first ∷ rest) (first ∷ rest)
added_again text first rest same order = record {
  order = order;
  few = omega arith;
  has = λ other. (
    λ c. inl c,
    λ h. ⊎_elim (λ old. old) (λ e. subst (Contains (first ∷ rest)) (sym (e ∙ same)) (Contains-head first rest)) h,
  );
}

added_later : (text first : List ℕ) (rest more : List (List ℕ)) → IsBefore first text → AllPairs IsBefore (first ∷ rest)
    → IsAdded text rest more → IsAdded text (first ∷ rest) (first ∷ more)
added_later text first rest more before order added = record {
  order = AllPairs-cons IsBefore first more
      (λ other c. ⊎_elim (λ old. AllPairs-head IsBefore first rest order other old) (λ same. subst (IsBefore first) (sym same) before)
      ((added.has other).0 c)) added.order;
  few = let few = added.few in omega arith;
  has = λ other. (
    λ c. ⊎_elim (λ same. inl (subst (Contains (first ∷ rest)) same (Contains-head first rest)))
        (λ later. ⊎_elim (λ old. inl (Contains-cons first other rest old)) (λ new. inr new) ((added.has other).0 later))
        (Contains-cons_cases first other more c),
    λ h. ⊎_elim
        (λ old. ⊎_elim (λ same. subst (Contains (first ∷ more)) same (Contains-head first more))
        (λ later. Contains-cons first other more ((added.has other).1 (inl later))) (Contains-cons_cases first other rest old))
        (λ new. Contains-cons first other more ((added.has other).1 (inr new))) h,
  );
}

add_text : (text : List ℕ) (texts : List (List ℕ)) → AllPairs IsBefore texts → (more : List (List ℕ)) × IsAdded text texts more
add_text text [] order = (
  text ∷ [],
  record {
    order = AllPairs-cons IsBefore text [] (λ other c. absurd (Contains-nil other c)) order;
    few = omega arith;
    has = λ other. (
      λ c. ⊎_elim (λ same. inr (sym same)) (λ old. inl old) (Contains-cons_cases text other [] c),
      λ h. ⊎_elim (λ old. absurd (Contains-nil other old)) (λ same. subst (Contains (text ∷ [])) (sym same) (Contains-head text [])) h,
    );
  },
)
add_text text (first ∷ rest) order = elim (compared text first) [
  | inl before ↦ (text ∷ first ∷ rest, added_first text first rest before order)
  | inr other ↦ elim other [
    | inl same ↦ (first ∷ rest, added_again text first rest same order)
    | inr after ↦ let more = add_text text rest (AllPairs-tail IsBefore first rest order) in
        (first ∷ more.0, added_later text first rest more.0 after order more.1)
  ]
]

module _ (bytes : List ℕ) where
  -- all texts in quotes, gathered up to an offset behind which there is none
  record GathersAll (texts : List (List ℕ)) : Type 0 where
    place : ℕ
    gathers : Gathers bytes texts place
    none : (text : List ℕ) → IsQuotedFrom bytes place text → ⊥
    order : AllPairs IsBefore texts

  -- the texts with the token's, if it is in quotes
  record IsGathered (token : Token) (texts more : List (List ℕ)) : Type 0 where
    order : AllPairs IsBefore more
    few : length more ≤ length texts + 1
    has : (text : List ℕ) → Contains more text ↔ (Contains texts text ⊎ SaysQuoted bytes token text)

  add_token : (from : ℕ) (token : Token) (lexeme : Lexeme) (texts : List (List ℕ))
      → StandsNext bytes from token lexeme → AllPairs IsBefore texts → (more : List (List ℕ)) × IsGathered token texts more
  add_token from token lexeme texts stands order = elim (same_kind token.kind Quoted) [
    | inl quoted ↦
        let more = add_text lexeme.text texts order in
        let says = says_quoted bytes token lexeme.text quoted
        (subst (λ k. IsTextOf k (take (token.end - token.start) (drop token.start bytes)) lexeme.text) quoted stands.says.text) in (
          more.0,
          record {
            order = more.1.order;
            few = more.1.few;
            has = λ text. (
              λ c. ⊎_elim (λ old. inl old) (λ same. inr ((says text).1 same)) ((more.1.has text).0 c),
              λ h. (more.1.has text).1 (⊎_elim (λ old. inl old) (λ said. inr ((says text).0 said)) h),
            );
          },
        )
    | inr other ↦ (
      texts,
      record {
        order = order;
        few = omega arith;
        has = λ text. (λ c. inl c, λ h. ⊎_elim (λ old. old) (λ said. absurd (other (sym said.kind))) h);
      },
    )
  ]

  gather : (n from : ℕ) (texts : List (List ℕ)) → length bytes - from < n → Gathers bytes texts from → AllPairs IsBefore texts
      → (all : List (List ℕ)) × GathersAll all
  gather zero from texts fuel before order = absurd (omega arith)
  gather (suc n) from texts fuel before order = elim (token_or_fault bytes from) [
    | inl (token, next) ↦ elim (same_kind token.kind Finish) [
      | inl last ↦ (
        texts,
        record {
          place = from;
          gathers = before;
          none = λ text. quoted_no_finish bytes from text (AtEnd-finish bytes from token next last);
          order = order;
        },
      )
      | inr other ↦
          let said = token_says bytes from token next in
          let more = add_token from token said.0 texts said.1 order in
          let gathers = Gathers-step bytes texts more.0 from token before next other more.1.has more.1.few in
          let forward = token_forward bytes from token next other in
          let within = gathers.within in
          gather n token.end more.0 (omega arith) gathers more.1.order
    ]
    | inr (fault, next) ↦ (
      texts,
      record { place = from; gathers = before; none = λ text. quoted_no_fault bytes from fault text next; order = order },
    )
  ]

  -- each text that isn't too long has a pool
  pub some_pool : length bytes < 4294967295 → (pool : List (List ℕ)) × IsPoolOf bytes pool
  some_pool short =
      let all = gather (suc (length bytes)) 0 [] (omega arith) (Gathers-start bytes) (AllPairs-nil IsBefore) in
      let few = all.1.gathers.few in
      let within = all.1.gathers.within in (
        all.0,
        Gathers-end bytes all.0 all.0 all.1.place all.1.gathers all.1.none (record { order = all.1.order; few = omega arith })
            (λ text. (λ c. c, λ c. c)),
      )
