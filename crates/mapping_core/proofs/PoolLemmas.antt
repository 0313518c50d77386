-- The texts in quotes, gathered token by token.
use Rattle.std.proofs.Common.{◌≡◌, ◌≢◌, ◌⊎◌, ◌↔◌, inl, inr, ℕ, ◌+◌, ◌-◌, ◌≤◌, List, [], length, take, drop, Contains, Result, Ok, Err, IfOk, sym, subst, arith}
use Rattle.term_core.specs.Pool.{IsPool}
use Rattle.rule_core.proofs.ListLemmas.{Contains-nil}
use Rattle.decl_text.specs.declared.token.Kind.TheVariants.{Quoted, Finish}
use Rattle.decl_text.specs.declared.token.Token.{Token}
use Rattle.decl_text.specs.Quotes.{IsQuoted}
use Rattle.decl_text.specs.Tokens.{IsNextToken}
use Rattle.decl_text.specs.Tests.{IsTextOf}
use Rattle.decl_text.specs.TokenList.{IsQuotedFrom}
use Rattle.decl_text.proofs.NextLemmas.{quoted_read}
use Rattle.decl_text.proofs.TestLemmas.{token_in}
use Rattle.mapping_core.specs.Reading.{IsPoolOf}
use Rattle.mapping_core.specs.Steps.{SaysQuoted, Gathers}
use Rattle.mapping_core.proofs.QuotedLemmas.{quoted_next, quoted_now, quoted_later, token_forward}

-- a token in quotes says its text and no other
pub says_quoted : (bytes : List ℕ) (token : Token) (text : List ℕ) → token.kind ≡ Quoted
    → IsQuoted (take (token.end - token.start) (drop token.start bytes)) text
    → (other : List ℕ) → SaysQuoted bytes token other ↔ (other ≡ text)
says_quoted bytes token text kind quoted other = (
  λ says. quoted_read (take (token.end - token.start) (drop token.start bytes)) other text
      (subst (λ k. IsTextOf k (take (token.end - token.start) (drop token.start bytes)) other) kind says.text) quoted,
  λ same. record {
    kind = sym kind;
    text = subst (λ k. IsTextOf k (take (token.end - token.start) (drop token.start bytes)) other) (sym kind)
        (subst (IsQuoted (take (token.end - token.start) (drop token.start bytes))) (sym same) quoted);
  },
)

pub Gathers-start : (bytes : List ℕ) → Gathers bytes [] 0
Gathers-start bytes = record {
  within = omega arith;
  few = omega arith;
  quoted = λ text. (λ q. inr q, λ h. elim h [ inl c ↦ absurd (Contains-nil text c) | inr q ↦ q ]);
}

pub Gathers-step : (bytes : List ℕ) (texts more : List (List ℕ)) (from : ℕ) (token : Token) → Gathers bytes texts from → IsNextToken bytes from token
    → token.kind ≢ Finish → ((text : List ℕ) → Contains more text ↔ (Contains texts text ⊎ SaysQuoted bytes token text))
    → length more ≤ length texts + 1 → Gathers bytes more token.end
Gathers-step bytes texts more from token before next other has few = record {
  within = (token_in bytes from token before.within next).1;
  few = omega (arith, few, before.few, token_forward bytes from token next other);
  quoted = λ text. (
    λ q. elim ((before.quoted text).0 q) [
      | inl old ↦ inl ((has text).1 (inl old))
      | inr later ↦ elim (quoted_next bytes from token text next later) [
        | inl says ↦ inl ((has text).1 (inr says))
        | inr after ↦ inr after
      ]
    ],
    λ h. elim h [
      | inl c ↦ elim ((has text).0 c) [
        | inl old ↦ (before.quoted text).1 (inl old)
        | inr says ↦ (before.quoted text).1 (inr (quoted_now bytes from token text next says))
      ]
      | inr after ↦ (before.quoted text).1 (inr (quoted_later bytes from token text next after))
    ],
  );
}

pub Gathers-end : (bytes : List ℕ) (texts pool : List (List ℕ)) (from : ℕ) → Gathers bytes texts from
    → ((text : List ℕ) → IsQuotedFrom bytes from text → ⊥) → IsPool pool → ((text : List ℕ) → Contains pool text ↔ Contains texts text)
    → IsPoolOf bytes pool
Gathers-end bytes texts pool from before none ordered same = record {
  ordered = ordered;
  quoted = λ text. (
    λ c. (before.quoted text).1 (inl ((same text).0 c)),
    λ q. elim ((before.quoted text).0 q) [ inl c ↦ (same text).1 c | inr later ↦ absurd (none text later) ],
  );
}

-- the pool that is made of all texts
pub pool_of : {E : Type 0} (bytes : List ℕ) (texts : List (List ℕ)) (from : ℕ) (made : Result (List (List ℕ)) E) → Gathers bytes texts from
    → ((text : List ℕ) → IsQuotedFrom bytes from text → ⊥) → IfOk made (λ pool. (text : List ℕ) → Contains pool text ↔ Contains texts text)
    → IfOk made IsPool → IfOk made (IsPoolOf bytes)
pool_of bytes texts from (Ok pool) before none same ordered = Gathers-end bytes texts pool from before none ordered same
pool_of bytes texts from (Err e) before none same ordered = tt
