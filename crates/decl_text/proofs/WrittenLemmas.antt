-- What is written leads on wherever it stands: words, signs and texts in quotes, each behind blanks or none.
use Rattle.std.proofs.Common.{◌≡◌, ℕ, ◌+◌, ◌≤◌, false, IsTrue, IsUtf8, All, List, [], ◌∷◌, ◌++◌, length, map, map-id, refl, sym, ap, ◌∙◌, subst, append_assoc, append-nil, arith, chars}
use Rattle.std.specs.List.{flat_map}
use Rattle.std.proofs.lemmas.List.{length-append, drop_at}
use Rattle.std.proofs.lemmas.List.Elements.{All-weaker, All-tail}
use Rattle.std.proofs.lemmas.Str.{chars-encodes, encodes-chars, scalars-chars}
use Rattle.rule_core.specs.Names.{IsNameByte, IsName}
use Rattle.decl_text.specs.declared.token.Kind.{Kind}
use Rattle.decl_text.specs.declared.token.Kind.TheVariants.{Name, Quoted}
use Rattle.decl_text.specs.declared.token.Token.{Token}
use Rattle.decl_text.specs.Quotes.{in_quotes, IsQuoted}
use Rattle.decl_text.specs.Tokens.{is_blank, is_name_byte, IsWord, EndsWord, IsSpelled, IsNextToken}
use Rattle.decl_text.specs.Tests.{Lexeme, Outcome, goes, Leads}
use Rattle.decl_text.specs.Parts.{StandsNext}
use Rattle.decl_text.specs.Canonical.{joined, quoted_text}
use Rattle.decl_text.proofs.LetterLemmas.{letter_of, name_byte_of}
use Rattle.decl_text.proofs.ScanLemmas.{token_bytes}
use Rattle.decl_text.proofs.TestLemmas.{IsSign, sign_says, name_says, Leads-one, Leads-join}

-- no byte, or only blanks
abbrev pub AreBlanks : List ℕ → Type 0
AreBlanks gap = All (λ b. IsTrue (is_blank b)) gap

-- any bytes may follow
abbrev pub Always : List ℕ → Type 0
Always rest = Unit {0}

-- a name is a word
pub word_of_name : (text : List ℕ) → IsName text → IsWord text
word_of_name [] name = absurd name.first
word_of_name (b ∷ bs) name = (
  letter_of b name.first,
  All-weaker IsNameByte (λ c. IsTrue (is_name_byte c)) name_byte_of bs (All-tail IsNameByte b bs name.bytes),
)

-- a text in quotes is the canonical one
pub quoted_text_is : (quoted text : List ℕ) → IsQuoted quoted text → quoted ≡ quoted_text text
quoted_text_is quoted text is =
    is.1.bytes_are
    ∙ ap (λ cs. 34 ∷ (flat_map in_quotes cs ++ 34 ∷ [])) (sym (chars-encodes is.0 is.1.characters_are) ∙ ap chars (sym is.2))

-- and the canonical one is a text in quotes
pub quoted_text_says : (text : List ℕ) → IsUtf8 text → IsQuoted (quoted_text text) text
quoted_text_says text utf8 =
    (chars text, record { characters_are = scalars-chars text utf8; bytes_are = refl }, sym (encodes-chars text utf8))

-- a token behind blanks stands next
pub written_token : (before gap spelled rest : List ℕ) (kind : Kind) → AreBlanks gap → IsSpelled kind spelled rest
    → IsNextToken (before ++ ((gap ++ spelled) ++ rest)) (length before)
    (record { kind = kind; start = length before + length gap; end = (length before + length gap) + length spelled })
written_token before gap spelled rest kind blanks whole = record {
  gap = gap;
  spelled = spelled;
  rest = rest;
  bytes_are = drop_at before ((gap ++ spelled) ++ rest) (length before) refl ∙ append_assoc gap spelled rest;
  gap_before = record { blanks = gap; comment = []; bytes_are = sym (append-nil gap); all_blank = blanks; one_comment = tt };
  start_is = refl;
  end_is = refl;
  whole = whole;
}

module _ {P : Type 0} (tests : P → Lexeme → Outcome P → Type 0) where
  -- wherever the text stands before bytes of this kind, its tokens lead from the one position to the other
  pub record Written (Follows : List ℕ → Type 0) (position : P) (text : List ℕ) (next : P) : Type 0 where
    pub leads : (before rest : List ℕ) → Follows rest
        → Leads tests (before ++ (text ++ rest)) (length before) position (length before + length text) next

  -- one text after another
  pub Written-join : (F G : List ℕ → Type 0) (position : P) (a : List ℕ) (between : P) (b : List ℕ) (next : P)
      → Written F position a between → ((rest : List ℕ) → G rest → F (b ++ rest)) → Written G between b next
      → Written G position (a ++ b) next
  Written-join F G position a between b next first ends second = record {
    leads = λ before rest follows.
        let one = first.leads before (b ++ rest) (ends rest follows) in
        let two = second.leads (before ++ a) rest follows in
        let whole : before ++ ((a ++ b) ++ rest) ≡ before ++ (a ++ (b ++ rest)) = ap (λ l. before ++ l) (append_assoc a b rest) in
        let shifted : (before ++ a) ++ (b ++ rest) ≡ before ++ ((a ++ b) ++ rest) = append_assoc before a (b ++ rest) ∙ sym whole in
        let at : length (before ++ a) ≡ length before + length a = length-append before a in
        let to : length (before ++ a) + length b ≡ length before + length (a ++ b) = simp length-append (omega arith) in
        Leads-join tests (before ++ ((a ++ b) ++ rest)) (length before) position (length before + length a) between
        (length before + length (a ++ b)) next
        (subst (λ l. Leads tests l (length before) position (length before + length a) between) (sym whole) one)
        (subst (λ n. Leads tests (before ++ ((a ++ b) ++ rest)) n between (length before + length (a ++ b)) next) at
        (subst (λ n. Leads tests (before ++ ((a ++ b) ++ rest)) (length (before ++ a)) between n next) to
        (subst (λ l. Leads tests l (length (before ++ a)) between (length (before ++ a) + length b) next) shifted two)));
  }

  -- after a sign anything goes
  pub Written-then : (G : List ℕ → Type 0) (position : P) (a : List ℕ) (between : P) (b : List ℕ) (next : P)
      → Written Always position a between → Written G between b next → Written G position (a ++ b) next
  Written-then G position a between b next first second = Written-join Always G position a between b next first (λ rest follows. tt) second

  -- after a word goes what begins with no byte of a name
  pub Written-next : (G : List ℕ → Type 0) (position : P) (a : List ℕ) (between : P) (c : ℕ) (b : List ℕ) (next : P)
      → Written EndsWord position a between → is_name_byte c ≡ false → Written G between (c ∷ b) next
      → Written G position (a ++ c ∷ b) next
  Written-next G position a between c b next first other second =
      Written-join EndsWord G position a between (c ∷ b) next first (λ rest follows name. cc) second

  pub Written-weaker : (F G : List ℕ → Type 0) (position : P) (text : List ℕ) (next : P) → ((rest : List ℕ) → G rest → F rest)
      → Written F position text next → Written G position text next
  Written-weaker F G position text next weaker it = record { leads = λ before rest follows. it.leads before rest (weaker rest follows) }

  pub Written-same : (F : List ℕ → Type 0) (position : P) (a b : List ℕ) (next last : P) → a ≡ b → next ≡ last
      → Written F position a next → Written F position b last
  Written-same F position a b next last texts positions it =
      subst (λ p. Written F position b p) positions (subst (λ l. Written F position l next) texts it)

  -- a token that passes
  one_token : (F : List ℕ → Type 0) (position next : P) (gap spelled : List ℕ) (lexeme : Lexeme)
      → ((before rest : List ℕ) → F rest → (token : Token) × StandsNext (before ++ ((gap ++ spelled) ++ rest)) (length before) token lexeme
      × (token.end ≡ (length before + length gap) + length spelled))
      → tests position lexeme (goes next) → Written F position (gap ++ spelled) next
  one_token F position next gap spelled lexeme stands passes = record {
    leads = λ before rest follows.
        let found = stands before rest follows in
        let end : found.0.end ≡ length before + length (gap ++ spelled) = simp length-append (let e = found.2 in omega arith) in
        subst (λ n. Leads tests (before ++ ((gap ++ spelled) ++ rest)) (length before) position n next) end
        (Leads-one tests (before ++ ((gap ++ spelled) ++ rest)) (length before) position next found.0 lexeme found.1 passes);
  }

  -- a sign behind blanks
  pub sign_written : (position next : P) (gap spelled : List ℕ) (kind : Kind) → AreBlanks gap → ((rest : List ℕ) → IsSpelled kind spelled rest)
      → IsSign kind → tests position (record { kind = kind; text = [] }) (goes next) → Written Always position (gap ++ spelled) next
  sign_written position next gap spelled kind blanks whole sign passes =
      one_token Always position next gap spelled (record { kind = kind; text = [] })
      (λ before rest follows.
      let stands = written_token before gap spelled rest kind blanks (whole rest) in
      (_, sign_says (before ++ ((gap ++ spelled) ++ rest)) (length before) _ kind stands refl sign, refl)) passes

  -- a word behind blanks
  pub word_written : (position next : P) (gap word : List ℕ) → AreBlanks gap → IsWord word
      → tests position (record { kind = Name; text = word }) (goes next) → Written EndsWord position (gap ++ word) next
  unfolding written_token
  word_written position next gap word blanks is passes =
      one_token EndsWord position next gap word (record { kind = Name; text = word })
      (λ before rest follows.
      let stands = written_token before gap word rest Name blanks (is, follows) in (
        _,
        name_says (before ++ ((gap ++ word) ++ rest)) (length before) _ word stands refl
            (sym (token_bytes (before ++ ((gap ++ word) ++ rest)) (length before) _ stands)),
        refl,
      )) passes

  -- a text in quotes behind blanks
  pub quoted_written : (position next : P) (gap text : List ℕ) → AreBlanks gap → IsUtf8 text
      → tests position (record { kind = Quoted; text = text }) (goes next) → Written Always position (gap ++ quoted_text text) next
  unfolding written_token
  quoted_written position next gap text blanks utf8 passes =
      one_token Always position next gap (quoted_text text) (record { kind = Quoted; text = text })
      (λ before rest follows.
      let says = quoted_text_says text utf8 in
      let stands = written_token before gap (quoted_text text) rest Quoted blanks (text, says) in (
        _,
        record {
          next = stands;
          says = record {
            kind = refl;
            text = subst (λ l. IsQuoted l text) (sym (token_bytes (before ++ ((gap ++ quoted_text text) ++ rest)) (length before) _ stands)) says;
          };
        },
        refl,
      )) passes

  -- a list that goes on behind its separator, or ends with a byte of no name, ends a word
  list_ends : (s : ℕ) (separator : List ℕ) (texts : List (List ℕ)) (c : ℕ) (tail rest : List ℕ) → is_name_byte s ≡ false
      → is_name_byte c ≡ false → EndsWord ((flat_map (λ l. (s ∷ separator) ++ l) texts ++ c ∷ tail) ++ rest)
  list_ends s separator [] c tail rest opens ends = λ name. cc
  list_ends s separator (text ∷ texts) c tail rest opens ends = λ name. cc

  -- the rest of a list, each item behind its separator, and then what begins with no byte of a name
  pub list_written : (G : List ℕ → Type 0) {X : Type 0} (text : X → List ℕ) (at : List X → P) (all : List X) (s : ℕ) (separator : List ℕ)
      → is_name_byte s ≡ false
      → ((done : List X) (x : X) (more : List X) → done ++ x ∷ more ≡ all
      → Written EndsWord (at done) ((s ∷ separator) ++ text x) (at (done ++ x ∷ [])))
      → (c : ℕ) (tail : List ℕ) (last : P) → is_name_byte c ≡ false → Written G (at all) (c ∷ tail) last
      → (done more : List X) → done ++ more ≡ all
      → Written G (at done) (flat_map (λ later. (s ∷ separator) ++ later) (map text more) ++ c ∷ tail) last
  list_written G text at all s separator opens each c tail last ends then done [] e =
      subst (λ l. Written G (at l) (c ∷ tail) last) (sym e ∙ append-nil done) then
  list_written G text at all s separator opens each c tail last ends then done (x ∷ more) e =
      let later = list_written G text at all s separator opens each c tail last ends then (done ++ x ∷ []) more (append_assoc done (x ∷ []) more ∙ e) in
      subst (λ l. Written G (at done) l last)
      (sym (append_assoc ((s ∷ separator) ++ text x) (flat_map (λ l. (s ∷ separator) ++ l) (map text more)) (c ∷ tail)))
      (Written-join EndsWord G (at done) ((s ∷ separator) ++ text x) (at (done ++ x ∷ []))
      (flat_map (λ l. (s ∷ separator) ++ l) (map text more) ++ c ∷ tail) last
      (each done x more e) (λ rest follows. list_ends s separator (map text more) c tail rest opens ends) later)

  -- a list from its first item on, behind blanks or none
  pub joined_written : (G : List ℕ → Type 0) {X : Type 0} (text : X → List ℕ) (at : List X → P) (position : P) (gap : List ℕ) (all : List X)
      (s : ℕ) (separator : List ℕ) → is_name_byte s ≡ false → 1 ≤ length all
      → ((x : X) (more : List X) → x ∷ more ≡ all → Written EndsWord position (gap ++ text x) (at (x ∷ [])))
      → ((done : List X) (x : X) (more : List X) → done ++ x ∷ more ≡ all
      → Written EndsWord (at done) ((s ∷ separator) ++ text x) (at (done ++ x ∷ [])))
      → (c : ℕ) (tail : List ℕ) (last : P) → is_name_byte c ≡ false → Written G (at all) (c ∷ tail) last
      → Written G position ((gap ++ joined (s ∷ separator) (map text all)) ++ c ∷ tail) last
  joined_written G text at position gap [] s separator opens some first each c tail last ends then = absurd (omega (arith, some))
  joined_written G text at position gap (x ∷ more) s separator opens some first each c tail last ends then =
      let later = list_written G text at (x ∷ more) s separator opens each c tail last ends then (x ∷ []) more refl in
      let texts = map text more in
      let rest_of = flat_map (λ l. (s ∷ separator) ++ l) texts in
      subst (λ l. Written G position l last)
      (sym (ap (λ l. l ++ c ∷ tail) (sym (append_assoc gap (text x) rest_of)) ∙ append_assoc (gap ++ text x) rest_of (c ∷ tail)))
      (Written-join EndsWord G position (gap ++ text x) (at (x ∷ [])) (rest_of ++ c ∷ tail) last (first x more refl)
      (λ rest follows. list_ends s separator texts c tail rest opens ends) later)

  -- a list of words
  pub words_written : (G : List ℕ → Type 0) (at : List (List ℕ) → P) (position : P) (gap : List ℕ) (all : List (List ℕ)) (s : ℕ)
      (separator : List ℕ) → is_name_byte s ≡ false → 1 ≤ length all
      → ((x : List ℕ) (more : List (List ℕ)) → x ∷ more ≡ all → Written EndsWord position (gap ++ x) (at (x ∷ [])))
      → ((done : List (List ℕ)) (x : List ℕ) (more : List (List ℕ)) → done ++ x ∷ more ≡ all
      → Written EndsWord (at done) ((s ∷ separator) ++ x) (at (done ++ x ∷ [])))
      → (c : ℕ) (tail : List ℕ) (last : P) → is_name_byte c ≡ false → Written G (at all) (c ∷ tail) last
      → Written G position ((gap ++ joined (s ∷ separator) all) ++ c ∷ tail) last
  words_written G at position gap all s separator opens some first each c tail last ends then =
      subst (λ l. Written G position ((gap ++ joined (s ∷ separator) l) ++ c ∷ tail) last) (map-id all)
      (joined_written G (λ x. x) at position gap all s separator opens some first each c tail last ends then)
