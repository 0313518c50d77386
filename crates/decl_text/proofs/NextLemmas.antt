-- The next token and its fault are one thing, and a text in quotes is read back.
use Rattle.std.proofs.Common.{◌≡◌, ◌+◌, ◌<◌, ℕ, List, [], ◌∷◌, ◌++◌, length, drop, encode_utf8_all, chars, refl, sym, ap, ◌∙◌, subst, arith, ◌≢◌}
use Rattle.std.specs.List.{flat_map}
use Rattle.std.proofs.lemmas.List.{length-append, drop_at}
use Rattle.std.proofs.lemmas.Str.{chars-encodes}
use Rattle.decl_text.specs.declared.token.Kind.{Kind}
use Rattle.decl_text.specs.declared.fault.Code.{Code}
use Rattle.decl_text.specs.declared.token.Kind.TheVariants.{Quoted}
use Rattle.decl_text.specs.declared.token.Token.{Token}
use Rattle.decl_text.specs.declared.fault.MappingFault.{MappingFault}
use Rattle.decl_text.specs.Quotes.{in_quotes, IsQuoted}
use Rattle.decl_text.specs.Tokens.{EndsGap, IsNextToken, IsBadToken, IsNextFault}
use Rattle.decl_text.proofs.QuoteLemmas.{characters_once, Ends-close}
use Rattle.decl_text.proofs.ScanLemmas.{no_gap}
use Rattle.decl_text.proofs.OnceLemmas.{gap_once, spelled_once, bad_once, bad_is_no_token, EndsGap-token, EndsGap-bad}

gap_size : (g h r s : List ℕ) → g ++ r ≡ h ++ s → r ≡ s → length g ≡ length h
gap_size g h r s e same =
    let whole : length g + length r ≡ length h + length s = sym (length-append g r) ∙ ap length e ∙ length-append h s in
    let rest = ap length same in
    omega arith

token_same : (a b : Token) → a.kind ≡ b.kind → a.start ≡ b.start → a.end ≡ b.end → a ≡ b
token_same a b kind start end =
    let make : Kind → ℕ → ℕ → Token = λ k s e. record { kind = k; start = s; end = e } in
    ap (λ k. make k a.start a.end) kind ∙ ap (λ s. make b.kind s a.end) start ∙ ap (λ e. make b.kind b.start e) end

pub fault_same : (a b : MappingFault) → a.code ≡ b.code → a.place ≡ b.place → a ≡ b
fault_same a b code place =
    let make : Code → ℕ → MappingFault = λ c p. record { code = c; place = p } in
    ap (λ c. make c a.place) code ∙ ap (λ p. make b.code p) place

pub next_token_once : (bytes : List ℕ) (from : ℕ) (a b : Token) → IsNextToken bytes from a → IsNextToken bytes from b → a ≡ b
next_token_once bytes from a b p q =
    let whole : p.gap ++ (p.spelled ++ p.rest) ≡ q.gap ++ (q.spelled ++ q.rest) = sym p.bytes_are ∙ q.bytes_are in
    let after : p.spelled ++ p.rest ≡ q.spelled ++ q.rest =
    gap_once p.gap q.gap (p.spelled ++ p.rest) (q.spelled ++ q.rest) p.gap_before q.gap_before
    (EndsGap-token a.kind p.spelled p.rest p.whole) (EndsGap-token b.kind q.spelled q.rest q.whole) whole in
    let once = spelled_once a.kind b.kind p.spelled q.spelled p.rest q.rest p.whole q.whole after in
    let starts : a.start ≡ b.start =
    p.start_is ∙ ap (λ n. from + n) (gap_size p.gap q.gap _ _ whole after) ∙ sym q.start_is in
    let ends : a.end ≡ b.end = p.end_is ∙ ap (λ n. n + length p.spelled) starts ∙ ap (λ l. b.start + length l) once.1 ∙ sym q.end_is in
    token_same a b once.0 starts ends

pub next_fault_once : (bytes : List ℕ) (from : ℕ) (a b : MappingFault) → IsNextFault bytes from a → IsNextFault bytes from b → a ≡ b
next_fault_once bytes from a b p q =
    let whole : p.gap ++ p.rest ≡ q.gap ++ q.rest = sym p.bytes_are ∙ q.bytes_are in
    let after : p.rest ≡ q.rest =
    gap_once p.gap q.gap p.rest q.rest p.gap_before q.gap_before (EndsGap-bad p.rest a.code p.after p.bad)
    (EndsGap-bad q.rest b.code q.after q.bad) whole in
    let once = bad_once q.rest a.code b.code p.after q.after (subst (λ l. IsBadToken l a.code p.after) after p.bad) q.bad in
    fault_same a b once.0 (p.place_is ∙ ap (λ n. (from + n) + p.after) (gap_size p.gap q.gap _ _ whole after)
    ∙ ap (λ n. (from + length q.gap) + n) once.1 ∙ sym q.place_is)

pub next_apart : (bytes : List ℕ) (from : ℕ) (a : Token) (b : MappingFault) → IsNextToken bytes from a → IsNextFault bytes from b → ⊥
next_apart bytes from a b p q =
    let whole : p.gap ++ (p.spelled ++ p.rest) ≡ q.gap ++ q.rest = sym p.bytes_are ∙ q.bytes_are in
    let after : p.spelled ++ p.rest ≡ q.rest =
    gap_once p.gap q.gap (p.spelled ++ p.rest) q.rest p.gap_before q.gap_before
    (EndsGap-token a.kind p.spelled p.rest p.whole) (EndsGap-bad q.rest b.code q.after q.bad) whole in
    bad_is_no_token q.rest b.code q.after a.kind p.spelled p.rest q.bad p.whole (sym after)

nothing_in_front : (gap after bytes : List ℕ) → length gap ≡ 0 → bytes ≡ gap ++ after → bytes ≡ after
nothing_in_front [] after bytes none e = e
nothing_in_front (b ∷ bs) after bytes none e = absurd (omega arith)

-- where a blank or a comment begins, the next token begins later
pub token_is_later : (bytes : List ℕ) (at : ℕ) (token : Token) → ¬ (EndsGap (drop at bytes)) → IsNextToken bytes at token → at < token.start
token_is_later bytes at token begins next =
    let some : length next.gap ≢ 0 = λ none. begins (subst EndsGap
    (sym (nothing_in_front next.gap (next.spelled ++ next.rest) (drop at bytes) none next.bytes_are))
    (EndsGap-token token.kind next.spelled next.rest next.whole)) in
    let start = next.start_is in
    omega (arith, some)

pub quoted_token : (before quoted text rest : List ℕ) → IsQuoted quoted text
    → IsNextToken (before ++ (quoted ++ rest)) (length before)
    (record { kind = Quoted; start = length before; end = length before + length quoted })
quoted_token before quoted text rest is = record {
  gap = [];
  spelled = quoted;
  rest = rest;
  bytes_are = drop_at before (quoted ++ rest) (length before) refl;
  gap_before = no_gap (quoted ++ rest);
  start_is = omega arith;
  end_is = refl;
  whole = (text, is);
}

pub quoted_read : (quoted text other : List ℕ) → IsQuoted quoted text → IsQuoted quoted other → text ≡ other
quoted_read quoted text other p q =
    let whole : 34 ∷ (flat_map in_quotes p.0 ++ 34 ∷ []) ≡ 34 ∷ (flat_map in_quotes q.0 ++ 34 ∷ []) =
    sym p.1.bytes_are ∙ q.1.bytes_are in
    let rests : flat_map in_quotes p.0 ++ 34 ∷ [] ≡ flat_map in_quotes q.0 ++ 34 ∷ [] = cc in
    let once = characters_once p.0 q.0 (34 ∷ []) (34 ∷ []) p.1.characters_are q.1.characters_are (Ends-close []) (Ends-close []) rests in
    p.2 ∙ ap encode_utf8_all once.0 ∙ sym q.2

pub quoted_printed : (quoted other text : List ℕ) → IsQuoted quoted text → IsQuoted other text → quoted ≡ other
quoted_printed quoted other text p q =
    let same : p.0 ≡ q.0 =
    sym (chars-encodes p.0 p.1.characters_are) ∙ ap chars (sym p.2 ∙ q.2) ∙ chars-encodes q.0 q.1.characters_are in
    p.1.bytes_are ∙ ap (λ cs. 34 ∷ (flat_map in_quotes cs ++ 34 ∷ [])) same ∙ sym q.1.bytes_are
