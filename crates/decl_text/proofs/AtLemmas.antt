-- What begins exactly at an offset: one token, or one fault.
use Rattle.std.proofs.Common.{◌≡◌, ◌⊎◌, inl, inr, ⊎_elim, ℕ, List, [], ◌∷◌, ◌++◌, length, drop, refl, sym, ap, ◌∙◌, arith}
use Rattle.std.proofs.lemmas.Bool.{cases_eq}
use Rattle.std.proofs.lemmas.List.{length-append}
use Rattle.decl_text.specs.declared.token.Token.{Token}
use Rattle.decl_text.specs.declared.fault.Code.TheVariants.{X1}
use Rattle.decl_text.specs.declared.fault.MappingFault.{MappingFault}
use Rattle.decl_text.specs.Tokens.{is_blank, EndsGap, IsNextToken, IsNextFault, IsTokenAt, IsFaultAt}
use Rattle.decl_text.proofs.ScanLemmas.{no_gap}
use Rattle.decl_text.proofs.OnceLemmas.{gap_once, EndsGap-token}
use Rattle.decl_text.proofs.NextLemmas.{next_token_once, next_fault_once, next_apart, token_is_later}
use Rattle.decl_text.proofs.EitherLemmas.{test_cases, token_or_fault}

-- where no blank and no comment begins, the next token stands
token_is_here : (bytes : List ℕ) (at : ℕ) (token : Token) → EndsGap (drop at bytes) → IsNextToken bytes at token → token.start ≡ at
token_is_here bytes at token ends next =
    let same : drop at bytes ≡ next.spelled ++ next.rest =
    gap_once [] next.gap (drop at bytes) (next.spelled ++ next.rest) (no_gap (drop at bytes)) next.gap_before ends
    (EndsGap-token token.kind next.spelled next.rest next.whole) next.bytes_are in
    let size = ap length next.bytes_are ∙ length-append next.gap (next.spelled ++ next.rest) in
    let whole = ap length same in
    let start = next.start_is in
    omega arith

gap_or_none : (bytes : List ℕ) → EndsGap bytes ⊎ ¬ (EndsGap bytes)
gap_or_none [] = inl tt
gap_or_none (b ∷ bs) =
    ⊎_elim (λ blank. inr (λ ends. ends.0 blank))
    (λ other. ⊎_elim (λ sign. inr (λ ends. ends.1 sign)) (λ further. inl (other, further)) (cases_eq b 35)) (test_cases (is_blank b))

pub at_once : (bytes : List ℕ) (at : ℕ) (a b : Token) → IsTokenAt bytes at a → IsTokenAt bytes at b → a ≡ b
at_once bytes at a b p q = next_token_once bytes at a b p.next q.next

pub fault_at_once : (bytes : List ℕ) (at : ℕ) (a b : MappingFault) → IsFaultAt bytes at a → IsFaultAt bytes at b → a ≡ b
fault_at_once bytes at a b (inl p) (inl q) = p.1 ∙ sym q.1
fault_at_once bytes at a b (inl p) (inr q) = absurd (p.0 q.0)
fault_at_once bytes at a b (inr p) (inl q) = absurd (q.0 p.0)
fault_at_once bytes at a b (inr p) (inr q) = next_fault_once bytes at a b p.1 q.1

pub at_apart : (bytes : List ℕ) (at : ℕ) (a : Token) (b : MappingFault) → IsTokenAt bytes at a → ¬ (IsFaultAt bytes at b)
at_apart bytes at a b p (inl gap) = let later = token_is_later bytes at a gap.0 p.next in let start = p.start_is in omega arith
at_apart bytes at a b p (inr own) = next_apart bytes at a b p.next own.1

pub at_or_fault : (bytes : List ℕ) (at : ℕ) → ((token : Token) × IsTokenAt bytes at token) ⊎ ((fault : MappingFault) × IsFaultAt bytes at fault)
at_or_fault bytes at =
    ⊎_elim
    (λ (ends : EndsGap (drop at bytes)). ⊎_elim
    (λ (t : (token : Token) × IsNextToken bytes at token). inl (t.0, record { next = t.1; start_is = token_is_here bytes at t.0 ends t.1 }))
    (λ (f : (fault : MappingFault) × IsNextFault bytes at fault). inr (f.0, inr (ends, f.1))) (token_or_fault bytes at))
    (λ (gap : ¬ (EndsGap (drop at bytes))). inr (record { code = X1; place = at }, inl (gap, refl))) (gap_or_none (drop at bytes))
