-- How characters stand in quotes: each in one way, and none where something stops the text.
use Rattle.std.proofs.Common.{Option, Some, None, IfSome, IfNone, MatchOption, ◌≡◌, ◌==◌, ◌||◌, Bool, ℕ, ◌+◌, ◌-◌, ◌<◌, ◌≤◌, true, false, cond, List, [], ◌∷◌, ◌++◌, length, take, drop, get_or, IsUtf8, refl, sym, ap, ◌∙◌, subst, append_assoc, arith, ◌⊎◌, inl, inr, ⊎_elim}
use Rattle.std.specs.Char.{encode_utf8, IsScalar}
use Rattle.std.specs.Str.{StartsWithNoChar, IsValidUpTo, all_scalars}
use Rattle.std.specs.List.{flat_map}
use Rattle.std.proofs.lemmas.Bool.{false≢true, cases_eq, and_parts}
use Rattle.std.proofs.lemmas.Bool.Decides.{nat_tests}
use Rattle.std.proofs.Math.Seq.{take-append-add}
use Rattle.std.proofs.lemmas.List.{take_at, take-append-drop, length-append}
use Rattle.std.proofs.lemmas.Str.{char_from_byte, encode_same, encode_ascii, length-encode, len_utf8_bounds, IsUtf8-encode}
use Rattle.decl_text.specs.declared.fault.Code.{Code}
use Rattle.decl_text.specs.declared.fault.Code.TheVariants.{X2, X3, X4}
use Rattle.decl_text.specs.Quotes.{in_quotes}
use Rattle.decl_text.specs.Tokens.{StopsQuotes}
use Rattle.decl_text.specs.Pieces.{is_escaped}

-- the letters of the four escapes
abbrev pub is_escape : ℕ → Bool
is_escape l = ((l == 34) || (l == 92)) || ((l == 110) || (l == 114))

-- the character of an escape
abbrev pub unescaped : ℕ → ℕ
unescaped l = cond (l == 110) 10 (cond (l == 114) 13 l)

-- a character that stands as it is
abbrev pub Plain : ℕ → Type 0
Plain c = (is_escaped c ≡ false) × (in_quotes c ≡ encode_utf8 c)

-- a character that is escaped
abbrev pub Escaped : ℕ → Type 0
Escaped c = (l : ℕ) × (is_escape l ≡ true) × (unescaped l ≡ c) × (in_quotes c ≡ 92 ∷ l ∷ [])

pub not_escaped : (c : ℕ) → (c ≡ 34 → ⊥) → (c ≡ 92 → ⊥) → (c ≡ 10 → ⊥) → (c ≡ 13 → ⊥) → is_escaped c ≡ false
not_escaped c a b d e = grind (arith, nat_tests)

pub in_quotes-plain : (c : ℕ) → is_escaped c ≡ false → in_quotes c ≡ encode_utf8 c
in_quotes-plain c h = grind (arith, nat_tests)

pub in_quotes_cases : (c : ℕ) → Plain c ⊎ Escaped c
in_quotes_cases c =
    ⊎_elim (λ e. inr (34, refl, sym e, ap in_quotes e))
    (λ a. ⊎_elim (λ e. inr (92, refl, sym e, ap in_quotes e))
    (λ b. ⊎_elim (λ e. inr (110, refl, sym e, ap in_quotes e))
    (λ d. ⊎_elim (λ e. inr (114, refl, sym e, ap in_quotes e))
    (λ f. let plain = not_escaped c a b d f in inl (plain, in_quotes-plain c plain))
    (cases_eq c 13)) (cases_eq c 10)) (cases_eq c 92)) (cases_eq c 34)

-- bytes that begin with a plain character do not begin with an escaped one
pub plain_first : (c b : ℕ) (bytes rest : List ℕ) → is_escaped c ≡ false → b ∷ bytes ≡ encode_utf8 c ++ rest → b < 128
    → is_escaped b ≡ false
plain_first c b bytes rest plain e small =
    let same : c ≡ b = char_from_byte (b ∷ bytes) rest c e small (omega arith) in subst (λ x. is_escaped x ≡ false) same plain

clash : (c b : ℕ) (bytes rest : List ℕ) → is_escaped c ≡ false → b < 128 → is_escaped b ≡ true → b ∷ bytes ≡ encode_utf8 c ++ rest → ⊥
clash c b bytes rest plain small escaped e = false≢true (sym (plain_first c b bytes rest plain e small) ∙ escaped)

-- a character in quotes ends at one offset
pub in_quotes_once : (c d : ℕ) (r t : List ℕ) → in_quotes c ++ r ≡ in_quotes d ++ t → (c ≡ d) × (r ≡ t)
in_quotes_once c d r t e =
    ⊎_elim
    (λ (p : Plain c). ⊎_elim
    (λ (q : Plain d). encode_same c d r t (ap (λ x. x ++ r) (sym p.1) ∙ e ∙ ap (λ x. x ++ t) q.1))
    (λ (q : Escaped d). absurd (clash c 92 (q.0 ∷ t) r p.0 (omega arith) refl
    (ap (λ x. x ++ t) (sym q.3) ∙ sym e ∙ ap (λ x. x ++ r) p.1))) (in_quotes_cases d))
    (λ (p : Escaped c). ⊎_elim
    (λ (q : Plain d). absurd (clash d 92 (p.0 ∷ r) t q.0 (omega arith) refl
    (ap (λ x. x ++ r) (sym p.3) ∙ e ∙ ap (λ x. x ++ t) q.1)))
    (λ (q : Escaped d). let both : 92 ∷ p.0 ∷ r ≡ 92 ∷ q.0 ∷ t = ap (λ x. x ++ r) (sym p.3) ∙ e ∙ ap (λ x. x ++ t) q.3 in
    let letters : p.0 ≡ q.0 = cc in
    let rests : r ≡ t = cc in
    (sym p.2 ∙ ap unescaped letters ∙ q.2, rests)) (in_quotes_cases d)) (in_quotes_cases c)

-- after a backslash stands a letter of an escape
pub escape_letter : (rest : List ℕ) (c : ℕ) (more : List ℕ) → 92 ∷ rest ≡ in_quotes c ++ more → is_escape (get_or rest 0 0) ≡ true
escape_letter rest c more e =
    ⊎_elim (λ (p : Plain c). absurd (clash c 92 rest more p.0 (omega arith) refl (e ∙ ap (λ x. x ++ more) p.1)))
    (λ (p : Escaped c). let both : 92 ∷ rest ≡ 92 ∷ p.0 ∷ more = e ∙ ap (λ x. x ++ more) p.3 in
    let rests : rest ≡ p.0 ∷ more = cc in
    rw rests p.1) (in_quotes_cases c)

encode_some : (c : ℕ) → 1 ≤ length (encode_utf8 c)
encode_some c = let bounds = len_utf8_bounds c in rw length-encode bounds.0

pub in_quotes_some : (c : ℕ) → 1 ≤ length (in_quotes c)
in_quotes_some c =
    ⊎_elim (λ (p : Plain c). rw p.1 (encode_some c)) (λ (p : Escaped c). rw p.3 (omega arith)) (in_quotes_cases c)

-- no character begins with nothing
pub no_char_in_nothing : (bytes : List ℕ) → length bytes ≡ 0 → StartsWithNoChar bytes
no_char_in_nothing bytes none c rest scalar e =
    let some = encode_some c in omega (arith, simp length-append at (ap length e))

-- where not one byte at the front is UTF-8, no character begins
pub no_valid_front : (bytes : List ℕ) (n : ℕ) → IsValidUpTo bytes n → n ≡ 0 → StartsWithNoChar bytes
no_valid_front bytes n valid zero c rest scalar e =
    let some = encode_some c in
    let front : take (length (encode_utf8 c)) bytes ≡ encode_utf8 c =
    ap (take (length (encode_utf8 c))) e ∙ take_at (encode_utf8 c) rest (length (encode_utf8 c)) refl in
    valid.longest (length (encode_utf8 c)) (omega arith) (subst IsUtf8 (sym front) (IsUtf8-encode c scalar))

-- a character that begins the bytes begins their first four
pub no_char_in_front : (bytes : List ℕ) → StartsWithNoChar (take 4 bytes) → StartsWithNoChar bytes
no_char_in_front bytes none c rest scalar e =
    let bounds = len_utf8_bounds c in
    let size = length-encode c in
    let split : take (length (encode_utf8 c) + (4 - length (encode_utf8 c))) (encode_utf8 c ++ rest)
    ≡ encode_utf8 c ++ take (4 - length (encode_utf8 c)) rest = take-append-add (encode_utf8 c) rest (4 - length (encode_utf8 c)) in
    let four : length (encode_utf8 c) + (4 - length (encode_utf8 c)) ≡ 4 = omega arith in
    none c (take (4 - length (encode_utf8 c)) rest) scalar (ap (take 4) e ∙ ap (λ n. take n (encode_utf8 c ++ rest)) (sym four) ∙ split)

-- no character of a text in quotes begins here
abbrev pub Ends : List ℕ → Type 0
Ends bytes = (c : ℕ) (rest : List ℕ) → IsScalar c → bytes ≡ in_quotes c ++ rest → ⊥

no_first : (b : ℕ) (bytes : List ℕ) → b < 128 → (b ≡ 92 → ⊥) → is_escaped b ≡ true → Ends (b ∷ bytes)
no_first b bytes small other escaped c rest scalar e =
    ⊎_elim (λ (p : Plain c). clash c b bytes rest p.0 small escaped (e ∙ ap (λ x. x ++ rest) p.1))
    (λ (p : Escaped c). let both : b ∷ bytes ≡ 92 ∷ p.0 ∷ rest = e ∙ ap (λ x. x ++ rest) p.3 in
    let same : b ≡ 92 = cc in
    other same) (in_quotes_cases c)

pub Ends-close : (rest : List ℕ) → Ends (34 ∷ rest)
Ends-close rest = no_first 34 rest (omega arith) (λ e. absurd (omega arith)) refl

Ends-bad : (bytes : List ℕ) → StartsWithNoChar bytes → Ends bytes
Ends-bad bytes none c rest scalar e =
    ⊎_elim (λ (p : Plain c). none c rest scalar (e ∙ ap (λ x. x ++ rest) p.1))
    (λ (p : Escaped c). none 92 (p.0 ∷ rest) refl (e ∙ ap (λ x. x ++ rest) p.3 ∙ ap (λ x. x ++ p.0 ∷ rest) (sym (encode_ascii 92 (omega arith)))))
    (in_quotes_cases c)

Ends-nothing : Ends []
Ends-nothing c rest scalar e = let some = in_quotes_some c in absurd (omega (arith, simp length-append at (ap length e)))

pub Ends-stop : (code : Code) (bytes : List ℕ) → StopsQuotes code bytes → Ends bytes
Ends-stop X2 [] stops = absurd stops
Ends-stop X2 (b ∷ bs) stops = Ends-bad (b ∷ bs) stops
Ends-stop X3 [] stops = Ends-nothing
Ends-stop X3 (b ∷ bs) stops =
    ⊎_elim (λ (e : b ≡ 10). subst (λ x. Ends (x ∷ bs)) (sym e) (no_first 10 bs (omega arith) (λ e. absurd (omega arith)) refl))
    (λ (e : b ≡ 13). subst (λ x. Ends (x ∷ bs)) (sym e) (no_first 13 bs (omega arith) (λ e. absurd (omega arith)) refl)) stops
Ends-stop X4 [] stops = absurd stops
Ends-stop X4 (b ∷ bs) stops = λ c rest scalar e. stops.1 c rest e
Ends-stop code bytes stops = absurd stops

-- characters in quotes end where no more of them begins
pub characters_once : (cs ds a b : List ℕ) → all_scalars cs ≡ true → all_scalars ds ≡ true → Ends a → Ends b
    → flat_map in_quotes cs ++ a ≡ flat_map in_quotes ds ++ b → (cs ≡ ds) × (a ≡ b)
characters_once [] [] a b hc hd ea eb e = (refl, e)
characters_once [] (d ∷ ds) a b hc hd ea eb e =
    absurd (ea d (flat_map in_quotes ds ++ b) (and_parts _ _ hd).0 (e ∙ append_assoc (in_quotes d) (flat_map in_quotes ds) b))
characters_once (c ∷ cs) [] a b hc hd ea eb e =
    absurd (eb c (flat_map in_quotes cs ++ a) (and_parts _ _ hc).0 (sym e ∙ append_assoc (in_quotes c) (flat_map in_quotes cs) a))
characters_once (c ∷ cs) (d ∷ ds) a b hc hd ea eb e =
    let one = in_quotes_once c d (flat_map in_quotes cs ++ a) (flat_map in_quotes ds ++ b)
    (sym (append_assoc (in_quotes c) (flat_map in_quotes cs) a) ∙ e ∙ append_assoc (in_quotes d) (flat_map in_quotes ds) b) in
    let more : (cs ≡ ds) × (a ≡ b) = characters_once cs ds a b (and_parts _ _ hc).1 (and_parts _ _ hd).1 ea eb one.1 in
    (ap (λ x. x ∷ cs) one.0 ∙ ap (λ l. d ∷ l) more.0, more.1)

-- a backslash at the end begins no escape
pub no_escape_in_nothing : (rest : List ℕ) (c : ℕ) (more : List ℕ) → length rest < 1 → 92 ∷ rest ≡ in_quotes c ++ more → ⊥
no_escape_in_nothing [] c more none e = false≢true (escape_letter [] c more e)
no_escape_in_nothing (b ∷ rest) c more none e = omega arith

-- the first character of a valid front is the first of all the bytes
pub char_at_front : (found : Option ℕ) (bytes valid source after : List ℕ) (None_ : Type 0) → source ≡ valid
    → ((more : List ℕ) × (take 4 bytes ≡ valid ++ more)) → MatchOption found None_ (λ c. source ≡ encode_utf8 c ++ after)
    → IfSome found (λ c. (rest : List ℕ) × (bytes ≡ encode_utf8 c ++ rest))
char_at_front None bytes valid source after None_ same front step = tt
char_at_front (Some c) bytes valid source after None_ same front step = (
  after ++ front.0 ++ drop 4 bytes,
  sym (take-append-drop 4 bytes) ∙ ap (λ l. l ++ drop 4 bytes) (front.1 ∙ ap (λ l. l ++ front.0) (sym same ∙ step))
      ∙ ap (λ l. l ++ drop 4 bytes) (append_assoc (encode_utf8 c) after front.0) ∙ append_assoc (encode_utf8 c) (after ++ front.0) (drop 4 bytes),
)

pub no_char_at_front : (found : Option ℕ) (bytes valid source : List ℕ) (Some_ : ℕ → Type 0) (Rest : Type 0) → source ≡ valid
    → (length valid ≡ 0 → StartsWithNoChar (take 4 bytes)) → MatchOption found ((length source ≡ 0) × Rest) Some_
    → IfNone found (StartsWithNoChar bytes)
no_char_at_front None bytes valid source Some_ Rest same none step = no_char_in_front bytes (none (ap length (sym same) ∙ step.0))
no_char_at_front (Some c) bytes valid source Some_ Rest same none step = tt
