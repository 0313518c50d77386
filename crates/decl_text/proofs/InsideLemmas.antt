-- Reading inside quotes: the characters so far, and what ends them.
use Rattle.std.proofs.Common.{◌≡◌, ℕ, ◌+◌, ◌≤◌, true, List, [], ◌∷◌, ◌++◌, length, take, drop, encode_utf8_all, refl, sym, ap, ◌∙◌, subst, append_assoc, arith}
use Rattle.std.specs.Char.{encode_utf8, IsScalar}
use Rattle.std.specs.Str.{all_scalars}
use Rattle.std.specs.List.{flat_map}
use Rattle.std.proofs.lemmas.Bool.{and_from, and_parts}
use Rattle.std.proofs.lemmas.List.{append-nil, take_at, drop_at, length-append, length-drop, drop-drop}
use Rattle.std.proofs.lemmas.Grind.{flat_map-append}
use Rattle.std.proofs.lemmas.Str.{encodes-append}
use Rattle.decl_text.specs.declared.fault.Code.{Code}
use Rattle.decl_text.specs.declared.fault.Code.TheVariants.{X1, X3}
use Rattle.decl_text.specs.Quotes.{in_quotes, Opens, IsQuoted}
use Rattle.decl_text.specs.Tokens.{StopsQuotes, offset_in_quotes, IsBadQuoted}
use Rattle.decl_text.proofs.QuoteLemmas.{Ends, Ends-close, characters_once}

-- so many bytes are the opening quote and these characters
pub record Inside (characters bytes : List ℕ) (len : ℕ) : Type 0 where
  pub opens : Opens characters bytes (drop len bytes)
  pub len_is : len ≡ 1 + length (flat_map in_quotes characters)
  pub within : len ≤ length bytes

pub Inside-start : (bytes rest : List ℕ) → bytes ≡ 34 ∷ rest → Inside [] bytes 1
Inside-start bytes rest e = rw e (record { opens = record { characters_are = refl; bytes_are = refl }; len_is = refl; within = omega arith })

scalars_more : (cs : List ℕ) (c : ℕ) → all_scalars cs ≡ true → IsScalar c → all_scalars (cs ++ c ∷ []) ≡ true
scalars_more [] c all one = and_from _ _ one refl
scalars_more (d ∷ cs) c all one = let parts = and_parts _ _ all in and_from _ _ parts.0 (scalars_more cs c parts.1 one)

characters_more : (cs : List ℕ) (c : ℕ) → flat_map in_quotes (cs ++ c ∷ []) ≡ flat_map in_quotes cs ++ in_quotes c
characters_more cs c = flat_map-append in_quotes cs (c ∷ []) ∙ ap (λ l. flat_map in_quotes cs ++ l) (append-nil (in_quotes c))

pub Inside-step : (cs bytes : List ℕ) (len c : ℕ) (rest : List ℕ) → Inside cs bytes len → IsScalar c
    → drop len bytes ≡ in_quotes c ++ rest → Inside (cs ++ c ∷ []) bytes (len + length (in_quotes c))
Inside-step cs bytes len c rest so_far scalar e =
    let left : drop (len + length (in_quotes c)) bytes ≡ rest =
    sym (drop-drop (length (in_quotes c)) len bytes) ∙ ap (drop (length (in_quotes c))) e ∙ drop_at (in_quotes c) rest (length (in_quotes c)) refl in
    let all : bytes ≡ 34 ∷ (flat_map in_quotes (cs ++ c ∷ []) ++ rest) =
    so_far.opens.bytes_are ∙ ap (λ l. 34 ∷ (flat_map in_quotes cs ++ l)) e
    ∙ ap (λ l. 34 ∷ l) (sym (append_assoc (flat_map in_quotes cs) (in_quotes c) rest) ∙ ap (λ l. l ++ rest) (sym (characters_more cs c))) in
    let size : length (flat_map in_quotes (cs ++ c ∷ [])) ≡ length (flat_map in_quotes cs) + length (in_quotes c) =
    ap length (characters_more cs c) ∙ length-append (flat_map in_quotes cs) (in_quotes c) in
    let whole : length (drop len bytes) ≡ length (in_quotes c) + length rest = ap length e ∙ length-append (in_quotes c) rest in
    let dropped = length-drop len bytes in
    let was = so_far.len_is in
    let room = so_far.within in
    record {
      opens = record { characters_are = scalars_more cs c so_far.opens.characters_are scalar; bytes_are = rw left all };
      len_is = omega arith;
      within = omega arith;
    }

-- what is taken up to the closing quote is the whole text in quotes
pub Inside-close : (cs bytes : List ℕ) (len : ℕ) (rest : List ℕ) → Inside cs bytes len → drop len bytes ≡ 34 ∷ rest
    → (text : List ℕ) × IsQuoted (take (len + 1) bytes) text
Inside-close cs bytes len rest so_far e =
    let all : bytes ≡ (34 ∷ (flat_map in_quotes cs ++ 34 ∷ [])) ++ rest =
    so_far.opens.bytes_are ∙ ap (λ l. 34 ∷ (flat_map in_quotes cs ++ l)) e
    ∙ ap (λ l. 34 ∷ l) (sym (append_assoc (flat_map in_quotes cs) (34 ∷ []) rest)) in
    let was = so_far.len_is in
    let more = length-append (flat_map in_quotes cs) (34 ∷ []) in
    let size : length (34 ∷ (flat_map in_quotes cs ++ 34 ∷ [])) ≡ len + 1 = omega arith in
    let front : take (len + 1) bytes ≡ 34 ∷ (flat_map in_quotes cs ++ 34 ∷ []) = ap (take (len + 1)) all ∙ take_at (34 ∷ (flat_map in_quotes cs ++ 34 ∷ [])) rest (len + 1) size in
    (encode_utf8_all cs, (cs, record { characters_are = so_far.opens.characters_are; bytes_are = front }, refl))

placed : (code : Code) (bytes : List ℕ) (n : ℕ) → StopsQuotes code bytes → (code ≡ X3 → ⊥) → offset_in_quotes code n ≡ 1 + n
placed X3 bytes n stops other = absurd (other refl)
placed code bytes n stops other = refl

coded : (code : Code) (bytes : List ℕ) (after : ℕ) → IsBadQuoted bytes code after → (code ≡ X1 → ⊥)
coded code bytes after bad e = let z : StopsQuotes X1 bad.stop = subst (λ x. StopsQuotes x bad.stop) e bad.stops in z

pub Inside-stop : (cs bytes : List ℕ) (len : ℕ) (code : Code) → Inside cs bytes len → StopsQuotes code (drop len bytes) → (code ≡ X3 → ⊥)
    → IsBadQuoted bytes code len
Inside-stop cs bytes len code so_far stops other = record {
  characters = cs;
  stop = drop len bytes;
  opens = so_far.opens;
  stops = stops;
  after_is = so_far.len_is ∙ sym (placed code (drop len bytes) (length (flat_map in_quotes cs)) stops other);
}

pub Inside-cut : (cs bytes : List ℕ) (len : ℕ) → Inside cs bytes len → StopsQuotes X3 (drop len bytes) → IsBadQuoted bytes X3 0
Inside-cut cs bytes len so_far stops = record { characters = cs; stop = drop len bytes; opens = so_far.opens; stops = stops; after_is = refl }

-- where what is left holds no more characters, those so far are all of a whole text in quotes
pub Inside-whole : (cs bytes : List ℕ) (len : ℕ) (text all : List ℕ) → Inside cs bytes len → Ends (drop len bytes) → IsQuoted bytes all
    → text ≡ encode_utf8_all cs → IsQuoted bytes text
Inside-whole cs bytes len text all so_far ends quoted e =
    let same : 34 ∷ (flat_map in_quotes cs ++ drop len bytes) ≡ 34 ∷ (flat_map in_quotes quoted.0 ++ 34 ∷ []) =
    sym so_far.opens.bytes_are ∙ quoted.1.bytes_are in
    let tails : flat_map in_quotes cs ++ drop len bytes ≡ flat_map in_quotes quoted.0 ++ 34 ∷ [] = cc in
    let once = characters_once cs quoted.0 (drop len bytes) (34 ∷ []) so_far.opens.characters_are quoted.1.characters_are ends (Ends-close []) tails in
    (quoted.0, quoted.1, e ∙ ap encode_utf8_all once.0)

pub text_more : (cs text : List ℕ) (c : ℕ) → text ≡ encode_utf8_all cs → text ++ encode_utf8 c ≡ encode_utf8_all (cs ++ c ∷ [])
text_more cs text c e = ap (λ l. l ++ encode_utf8 c) e ∙ ap (λ l. encode_utf8_all cs ++ l) (sym (append-nil (encode_utf8 c))) ∙ sym (encodes-append cs (c ∷ []))
