-- What stands next is one thing.
use Rattle.std.proofs.Common.{◌≡◌, ◌≢◌, ◌==◌, ℕ, true, false, cond, List, [], ◌∷◌, ◌++◌, length, All, IsTrue, refl, sym, ap, ◌∙◌, subst, append_assoc, arith, ◌⊎◌, inl, inr, ⊎_elim}
use Rattle.std.specs.Str.{StartsWithNoChar}
use Rattle.std.specs.List.{flat_map}
use Rattle.std.proofs.lemmas.Bool.Decides.{nat_tests}
use Rattle.std.proofs.lemmas.List.Elements.{All-head, All-tail}
use Rattle.std.proofs.lemmas.Str.{encode_ascii}
use Rattle.decl_text.specs.declared.token.Kind.{Kind}
use Rattle.decl_text.specs.declared.token.Kind.TheVariants.{Name, Quoted, LeftParen, RightParen, Comma, Colon, Arrow, Equals, Bar, LineEnd, Finish}
use Rattle.decl_text.specs.declared.fault.Code.{Code}
use Rattle.decl_text.specs.declared.fault.Code.TheVariants.{X1, X2, X3, X4}
use Rattle.decl_text.specs.Quotes.{in_quotes, IsQuoted}
use Rattle.decl_text.specs.Tokens.{is_blank, is_letter, is_name_byte, IsWord, EndsWord, EndsLine, IsSpelled, IsComment, IsGap, EndsGap, BeginsNothing, StopsQuotes, offset_in_quotes, IsBadQuoted, IsBadToken}
use Rattle.decl_text.proofs.QuoteLemmas.{Ends-close, Ends-stop, characters_once}

-- the bytes do not begin with one of the run's
abbrev pub Leaves : (ℕ → Type 0) → List ℕ → Type 0
Leaves P [] = Unit {0}
Leaves P (b ∷ bs) = P b → ⊥

-- a run goes as far as it can, and so it has one end
pub run_once : (P : ℕ → Type 0) (w v r s : List ℕ) → All P w → All P v → Leaves P r → Leaves P s → w ++ r ≡ v ++ s → (w ≡ v) × (r ≡ s)
run_once P [] [] r s hw hv hr hs e = (refl, e)
run_once P [] (c ∷ v) r s hw hv hr hs e = absurd ((subst (Leaves P) e hr) (All-head P c v hv))
run_once P (c ∷ w) [] r s hw hv hr hs e = absurd ((subst (Leaves P) (sym e) hs) (All-head P c w hw))
run_once P (c ∷ w) (d ∷ v) r s hw hv hr hs e =
    let first : c ≡ d = cc in
    let rests : w ++ r ≡ v ++ s = cc in
    let more : (w ≡ v) × (r ≡ s) = run_once P w v r s (All-tail P c w hw) (All-tail P d v hv) hr hs rests in
    (ap (λ x. x ∷ w) first ∙ ap (λ l. d ∷ l) more.0, more.1)

leaves_line : (bytes : List ℕ) → EndsLine bytes → Leaves (λ b. b ≢ 10) bytes
leaves_line [] ends = tt
leaves_line (b ∷ bytes) ends = λ other. other ends

leaves_blanks : (comment rest : List ℕ) → IsComment comment rest → EndsGap rest → Leaves (λ b. IsTrue (is_blank b)) (comment ++ rest)
leaves_blanks [] [] is ends = tt
leaves_blanks [] (b ∷ rest) is ends = ends.0
leaves_blanks (b ∷ comment) rest is ends = subst (λ x. IsTrue (is_blank x) → ⊥) (sym is.0) (λ blank. cc)

comment_once : (w v r s : List ℕ) → IsComment w r → IsComment v s → EndsGap r → EndsGap s → w ++ r ≡ v ++ s → r ≡ s
comment_once [] [] r s hw hv hr hs e = e
comment_once [] (c ∷ v) r s hw hv hr hs e = absurd ((subst EndsGap e hr).1 hv.0)
comment_once (c ∷ w) [] r s hw hv hr hs e = absurd ((subst EndsGap (sym e) hs).1 hw.0)
comment_once (c ∷ w) (d ∷ v) r s hw hv hr hs e =
    let rests : w ++ r ≡ v ++ s = cc in
    (run_once (λ b. b ≢ 10) w v r s hw.1 hv.1 (leaves_line r hw.2) (leaves_line s hv.2) rests).1

-- what stands after blanks and comments is one list of bytes
pub gap_once : (g h r s : List ℕ) → IsGap g r → IsGap h s → EndsGap r → EndsGap s → g ++ r ≡ h ++ s → r ≡ s
gap_once g h r s a b hr hs e =
    let whole : a.blanks ++ (a.comment ++ r) ≡ b.blanks ++ (b.comment ++ s) =
    sym (append_assoc a.blanks a.comment r) ∙ ap (λ l. l ++ r) (sym a.bytes_are) ∙ e ∙ ap (λ l. l ++ s) b.bytes_are
    ∙ append_assoc b.blanks b.comment s in
    let blanks = run_once (λ b. IsTrue (is_blank b)) a.blanks b.blanks (a.comment ++ r) (b.comment ++ s) a.all_blank b.all_blank
    (leaves_blanks a.comment r a.one_comment hr) (leaves_blanks b.comment s b.one_comment hs) whole in
    comment_once a.comment b.comment r s a.one_comment b.one_comment hr hs blanks.1

-- the kind of a token by its first byte
abbrev pub kind_at : List ℕ → Kind
kind_at [] = Finish
kind_at (b ∷ bs) =
    cond (is_letter b) Name
    (cond (b == 34) Quoted
    (cond (b == 40) LeftParen
    (cond (b == 41) RightParen
    (cond (b == 44) Comma (cond (b == 58) Colon (cond (b == 45) Arrow (cond (b == 61) Equals (cond (b == 124) Bar LineEnd))))))))

opened : (bytes text : List ℕ) (quoted : IsQuoted bytes text) (rest : List ℕ)
    → bytes ++ rest ≡ 34 ∷ (flat_map in_quotes quoted.0 ++ 34 ∷ rest)
opened bytes text quoted rest =
    ap (λ l. l ++ rest) quoted.1.bytes_are ∙ ap (λ l. 34 ∷ l) (append_assoc (flat_map in_quotes quoted.0) (34 ∷ []) rest)

kind_first : (kind : Kind) (w r : List ℕ) → IsSpelled kind w r → kind_at (w ++ r) ≡ kind
kind_first Name [] r is = absurd is.0
kind_first Name (b ∷ w) r is = rw is.0.0 refl
kind_first Quoted w r is = ap kind_at (opened w is.0 is.1 r)
kind_first LeftParen w r is = ap (λ l. kind_at (l ++ r)) is
kind_first RightParen w r is = ap (λ l. kind_at (l ++ r)) is
kind_first Comma w r is = ap (λ l. kind_at (l ++ r)) is
kind_first Colon w r is = ap (λ l. kind_at (l ++ r)) is
kind_first Arrow w r is = ap (λ l. kind_at (l ++ r)) is
kind_first Equals w r is = ap (λ l. kind_at (l ++ r)) is
kind_first Bar w r is = ap (λ l. kind_at (l ++ r)) is
kind_first LineEnd w r is = ap (λ l. kind_at (l ++ r)) is
kind_first Finish w r is = ap (λ l. kind_at (l ++ r)) is.0 ∙ ap kind_at is.1

letter_apart : (b : ℕ) → is_letter b ≡ true → (is_blank b ≡ false) × (b ≡ 35 → ⊥)
letter_apart b letter = (grind (arith, nat_tests), λ e. grind (arith, nat_tests))

-- a token begins with neither a blank nor a comment
pub EndsGap-token : (kind : Kind) (w r : List ℕ) → IsSpelled kind w r → EndsGap (w ++ r)
EndsGap-token Name [] r is = absurd is.0
EndsGap-token Name (b ∷ w) r is = let apart = letter_apart b is.0.0 in ((λ blank. cc), apart.1)
EndsGap-token Quoted w r is = subst EndsGap (sym (opened w is.0 is.1 r)) ((λ blank. cc), λ e. absurd (omega arith))
EndsGap-token LeftParen w r is = subst (λ l. EndsGap (l ++ r)) (sym is) ((λ blank. cc), λ e. absurd (omega arith))
EndsGap-token RightParen w r is = subst (λ l. EndsGap (l ++ r)) (sym is) ((λ blank. cc), λ e. absurd (omega arith))
EndsGap-token Comma w r is = subst (λ l. EndsGap (l ++ r)) (sym is) ((λ blank. cc), λ e. absurd (omega arith))
EndsGap-token Colon w r is = subst (λ l. EndsGap (l ++ r)) (sym is) ((λ blank. cc), λ e. absurd (omega arith))
EndsGap-token Arrow w r is = subst (λ l. EndsGap (l ++ r)) (sym is) ((λ blank. cc), λ e. absurd (omega arith))
EndsGap-token Equals w r is = subst (λ l. EndsGap (l ++ r)) (sym is) ((λ blank. cc), λ e. absurd (omega arith))
EndsGap-token Bar w r is = subst (λ l. EndsGap (l ++ r)) (sym is) ((λ blank. cc), λ e. absurd (omega arith))
EndsGap-token LineEnd w r is = subst (λ l. EndsGap (l ++ r)) (sym is) ((λ blank. cc), λ e. absurd (omega arith))
EndsGap-token Finish w r is = subst (λ l. EndsGap (l ++ r)) (sym is.0) (subst EndsGap (sym is.1) tt)

leaves_word : (bytes : List ℕ) → EndsWord bytes → Leaves (λ b. IsTrue (is_name_byte b)) bytes
leaves_word [] ends = tt
leaves_word (b ∷ bytes) ends = ends

word_once : (w v r s : List ℕ) → IsWord w → IsWord v → EndsWord r → EndsWord s → w ++ r ≡ v ++ s → w ≡ v
word_once [] v r s hw hv hr hs e = absurd hw
word_once (c ∷ w) [] r s hw hv hr hs e = absurd hv
word_once (c ∷ w) (d ∷ v) r s hw hv hr hs e =
    let first : c ≡ d = cc in
    let rests : w ++ r ≡ v ++ s = cc in
    let more = run_once (λ b. IsTrue (is_name_byte b)) w v r s hw.1 hv.1 (leaves_word r hr) (leaves_word s hs) rests in
    ap (λ x. x ∷ w) first ∙ ap (λ l. d ∷ l) more.0

quoted_once : (w v a b r s : List ℕ) → IsQuoted w a → IsQuoted v b → w ++ r ≡ v ++ s → w ≡ v
quoted_once w v a b r s p q e =
    let whole : 34 ∷ (flat_map in_quotes p.0 ++ 34 ∷ r) ≡ 34 ∷ (flat_map in_quotes q.0 ++ 34 ∷ s) =
    sym (opened w a p r) ∙ e ∙ opened v b q s in
    let rests : flat_map in_quotes p.0 ++ 34 ∷ r ≡ flat_map in_quotes q.0 ++ 34 ∷ s = cc in
    let once = characters_once p.0 q.0 (34 ∷ r) (34 ∷ s) p.1.characters_are q.1.characters_are (Ends-close r) (Ends-close s) rests in
    p.1.bytes_are ∙ ap (λ cs. 34 ∷ (flat_map in_quotes cs ++ 34 ∷ [])) once.0 ∙ sym q.1.bytes_are

same_kind : (kind : Kind) (w v r s : List ℕ) → IsSpelled kind w r → IsSpelled kind v s → w ++ r ≡ v ++ s → w ≡ v
same_kind Name w v r s p q e = word_once w v r s p.0 q.0 p.1 q.1 e
same_kind Quoted w v r s p q e = quoted_once w v p.0 q.0 r s p.1 q.1 e
same_kind LeftParen w v r s p q e = p ∙ sym q
same_kind RightParen w v r s p q e = p ∙ sym q
same_kind Comma w v r s p q e = p ∙ sym q
same_kind Colon w v r s p q e = p ∙ sym q
same_kind Arrow w v r s p q e = p ∙ sym q
same_kind Equals w v r s p q e = p ∙ sym q
same_kind Bar w v r s p q e = p ∙ sym q
same_kind LineEnd w v r s p q e = p ∙ sym q
same_kind Finish w v r s p q e = p.0 ∙ sym q.0

-- the bytes begin with one token
pub spelled_once : (k l : Kind) (w v r s : List ℕ) → IsSpelled k w r → IsSpelled l v s → w ++ r ≡ v ++ s → (k ≡ l) × (w ≡ v)
spelled_once k l w v r s p q e =
    let kinds : k ≡ l = sym (kind_first k w r p) ∙ ap kind_at e ∙ kind_first l v s q in
    (kinds, same_kind l w v r s (subst (λ x. IsSpelled x w r) kinds p) q e)

-- a token begins with a quote only where it is a text in quotes
quote_is_quoted : (kind : Kind) (w r bytes : List ℕ) → IsSpelled kind w r → w ++ r ≡ 34 ∷ bytes → kind ≡ Quoted
quote_is_quoted kind w r bytes is e = sym (kind_first kind w r is) ∙ ap kind_at e

starts_no_char : (b : ℕ) (bytes : List ℕ) → b ≡ 34 ⊎ (b ≡ 92 ⊎ (b ≡ 10 ⊎ b ≡ 13)) → StartsWithNoChar (b ∷ bytes) → ⊥
starts_no_char b bytes one none =
    ⊎_elim (λ e. none 34 bytes refl (ap (λ x. x ∷ bytes) e ∙ ap (λ l. l ++ bytes) (sym (encode_ascii 34 (omega arith)))))
    (λ one. ⊎_elim (λ e. none 92 bytes refl (ap (λ x. x ∷ bytes) e ∙ ap (λ l. l ++ bytes) (sym (encode_ascii 92 (omega arith)))))
    (λ one. ⊎_elim (λ e. none 10 bytes refl (ap (λ x. x ∷ bytes) e ∙ ap (λ l. l ++ bytes) (sym (encode_ascii 10 (omega arith)))))
    (λ e. none 13 bytes refl (ap (λ x. x ∷ bytes) e ∙ ap (λ l. l ++ bytes) (sym (encode_ascii 13 (omega arith))))) one) one) one

-- a closing quote doesn't stop a text before it
close_stops_nothing : (code : Code) (rest : List ℕ) → StopsQuotes code (34 ∷ rest) → ⊥
close_stops_nothing X2 rest stops = starts_no_char 34 rest (inl refl) stops
close_stops_nothing X3 rest stops = ⊎_elim (λ e. absurd (omega arith)) (λ e. absurd (omega arith)) stops
close_stops_nothing X4 rest stops = let e = stops.0 in absurd (omega arith)
close_stops_nothing code rest stops = absurd stops

line_end : (b : ℕ) → (b ≡ 10) ⊎ (b ≡ 13) → b ≡ 34 ⊎ (b ≡ 92 ⊎ (b ≡ 10 ⊎ b ≡ 13))
line_end b one = inr (inr one)

line_is_no_backslash : (b : ℕ) → (b ≡ 10) ⊎ (b ≡ 13) → b ≡ 92 → ⊥
line_is_no_backslash b one e = ⊎_elim (λ (f : b ≡ 10). absurd (omega arith)) (λ (f : b ≡ 13). absurd (omega arith)) one

-- what stops a text in quotes has one code
stop_once : (k l : Code) (bytes : List ℕ) → StopsQuotes k bytes → StopsQuotes l bytes → k ≡ l
stop_once X2 X2 bytes p q = refl
stop_once X3 X3 bytes p q = refl
stop_once X4 X4 bytes p q = refl
stop_once X2 X3 [] p q = absurd p
stop_once X2 X3 (b ∷ bs) p q = absurd (starts_no_char b bs (line_end b q) p)
stop_once X2 X4 [] p q = absurd p
stop_once X2 X4 (b ∷ bs) p q = absurd (starts_no_char b bs (inr (inl q.0)) p)
stop_once X3 X2 [] p q = absurd q
stop_once X3 X2 (b ∷ bs) p q = absurd (starts_no_char b bs (line_end b p) q)
stop_once X3 X4 [] p q = absurd q
stop_once X3 X4 (b ∷ bs) p q = absurd (line_is_no_backslash b p q.0)
stop_once X4 X2 [] p q = absurd q
stop_once X4 X2 (b ∷ bs) p q = absurd (starts_no_char b bs (inr (inl p.0)) q)
stop_once X4 X3 [] p q = absurd p
stop_once X4 X3 (b ∷ bs) p q = absurd (line_is_no_backslash b q p.0)
stop_once X2 l bytes p q = absurd q
stop_once X3 l bytes p q = absurd q
stop_once X4 l bytes p q = absurd q
stop_once k l bytes p q = absurd p

bad_quoted_once : (bytes : List ℕ) (k l : Code) (m n : ℕ) → IsBadQuoted bytes k m → IsBadQuoted bytes l n → (k ≡ l) × (m ≡ n)
bad_quoted_once bytes k l m n p q =
    let whole : 34 ∷ (flat_map in_quotes p.characters ++ p.stop) ≡ 34 ∷ (flat_map in_quotes q.characters ++ q.stop) =
    sym p.opens.bytes_are ∙ q.opens.bytes_are in
    let rests : flat_map in_quotes p.characters ++ p.stop ≡ flat_map in_quotes q.characters ++ q.stop = cc in
    let once = characters_once p.characters q.characters p.stop q.stop p.opens.characters_are q.opens.characters_are
    (Ends-stop k p.stop p.stops) (Ends-stop l q.stop q.stops) rests in
    let codes : k ≡ l = stop_once k l q.stop (subst (StopsQuotes k) once.1 p.stops) q.stops in (
      codes,
      p.after_is ∙ ap (λ c. offset_in_quotes c (length (flat_map in_quotes p.characters))) codes
          ∙ ap (λ cs. offset_in_quotes l (length (flat_map in_quotes cs))) once.0 ∙ sym q.after_is,
    )

nothing_is_no_quote : (bytes rest : List ℕ) → BeginsNothing bytes → bytes ≡ 34 ∷ rest → ⊥
nothing_is_no_quote [] rest none e = absurd none
nothing_is_no_quote (b ∷ bs) rest none e = let same : b ≡ 34 = cc in none.0 same

-- a faulty token is either a byte that begins nothing, or a text in quotes that is stopped
bad_cases : (bytes : List ℕ) (code : Code) (after : ℕ) → IsBadToken bytes code after
    → ((code ≡ X1) × (after ≡ 0) × BeginsNothing bytes) ⊎ IsBadQuoted bytes code after
bad_cases bytes X1 after bad = inl (refl, bad.0, bad.1)
bad_cases bytes code after bad = inr bad

pub bad_once : (bytes : List ℕ) (k l : Code) (m n : ℕ) → IsBadToken bytes k m → IsBadToken bytes l n → (k ≡ l) × (m ≡ n)
bad_once bytes k l m n p q =
    ⊎_elim
    (λ (a : (k ≡ X1) × (m ≡ 0) × BeginsNothing bytes). ⊎_elim
    (λ (b : (l ≡ X1) × (n ≡ 0) × BeginsNothing bytes). (a.0 ∙ sym b.0, a.1 ∙ sym b.1))
    (λ (b : IsBadQuoted bytes l n). absurd (nothing_is_no_quote bytes _ a.2 b.opens.bytes_are)) (bad_cases bytes l n q))
    (λ (a : IsBadQuoted bytes k m). ⊎_elim
    (λ (b : (l ≡ X1) × (n ≡ 0) × BeginsNothing bytes). absurd (nothing_is_no_quote bytes _ b.2 a.opens.bytes_are))
    (λ (b : IsBadQuoted bytes l n). bad_quoted_once bytes k l m n a b) (bad_cases bytes l n q)) (bad_cases bytes k m p)

nothing_ends_gap : (bytes : List ℕ) → BeginsNothing bytes → EndsGap bytes
nothing_ends_gap [] none = absurd none
nothing_ends_gap (b ∷ bs) none = none.1

-- a faulty token begins with neither a blank nor a comment
pub EndsGap-bad : (bytes : List ℕ) (code : Code) (after : ℕ) → IsBadToken bytes code after → EndsGap bytes
EndsGap-bad bytes code after bad =
    ⊎_elim (λ (a : (code ≡ X1) × (after ≡ 0) × BeginsNothing bytes). nothing_ends_gap bytes a.2)
    (λ (a : IsBadQuoted bytes code after). subst EndsGap (sym a.opens.bytes_are) ((λ blank. cc), λ e. absurd (omega arith)))
    (bad_cases bytes code after bad)

nothing_is_no_token : (bytes : List ℕ) (kind : Kind) (w r : List ℕ) → BeginsNothing bytes → IsSpelled kind w r → bytes ≡ w ++ r → ⊥
nothing_is_no_token [] kind w r none is e = absurd none
nothing_is_no_token (b ∷ bs) kind w r none is e = none.2 kind w r is e

stopped_is_no_token : (bytes : List ℕ) (code : Code) (after : ℕ) (kind : Kind) (w r : List ℕ) → IsBadQuoted bytes code after
    → IsSpelled kind w r → bytes ≡ w ++ r → ⊥
stopped_is_no_token bytes code after kind w r bad is e =
    let kinds : kind ≡ Quoted = quote_is_quoted kind w r _ is (sym e ∙ bad.opens.bytes_are) in
    let quoted : (text : List ℕ) × IsQuoted w text = subst (λ k. IsSpelled k w r) kinds is in
    let whole : 34 ∷ (flat_map in_quotes bad.characters ++ bad.stop) ≡ 34 ∷ (flat_map in_quotes quoted.1.0 ++ 34 ∷ r) =
    sym bad.opens.bytes_are ∙ e ∙ opened w quoted.0 quoted.1 r in
    let rests : flat_map in_quotes bad.characters ++ bad.stop ≡ flat_map in_quotes quoted.1.0 ++ 34 ∷ r = cc in
    let once = characters_once bad.characters quoted.1.0 bad.stop (34 ∷ r) bad.opens.characters_are quoted.1.1.characters_are
    (Ends-stop code bad.stop bad.stops) (Ends-close r) rests in
    close_stops_nothing code r (subst (StopsQuotes code) once.1 bad.stops)

pub bad_is_no_token : (bytes : List ℕ) (code : Code) (after : ℕ) (kind : Kind) (w r : List ℕ) → IsBadToken bytes code after
    → IsSpelled kind w r → bytes ≡ w ++ r → ⊥
bad_is_no_token bytes code after kind w r bad is e =
    ⊎_elim (λ (a : (code ≡ X1) × (after ≡ 0) × BeginsNothing bytes). nothing_is_no_token bytes kind w r a.2 is e)
    (λ (a : IsBadQuoted bytes code after). stopped_is_no_token bytes code after kind w r a is e) (bad_cases bytes code after bad)
