-- What stands at the front of a line of a trace is one thing.
use Rattle.std.proofs.Common.{◌≡◌, ◌≢◌, ℕ, ◌+◌, List, [], ◌∷◌, ◌++◌, length, take, drop, All, IsTrue, refl, sym, ap, ◌∙◌, subst, arith}
use Rattle.std.proofs.lemmas.List.{take-append-drop, drop-drop}
use Rattle.std.proofs.lemmas.List.Elements.{All-nil, All-cons, All-from_recursion, All-weaker}
use Rattle.std.proofs.Math.Seq.{take-append_seam, drop-append_seam}
use Rattle.time_line.specs.Numeral.{IsDigit, IsPositive, IsMark}
use Rattle.rule_core.specs.Names.{IsName}
use Rattle.decl_text.specs.declared.token.Kind.{Kind}
use Rattle.decl_text.specs.declared.token.Kind.TheVariants.{Name, Quoted}
use Rattle.decl_text.specs.declared.token.Token.{Token}
use Rattle.decl_text.specs.Tokens.{is_blank, is_name_byte, EndsWord, IsSpelled, IsGap, IsNextToken, IsTokenAt}
use Rattle.decl_text.proofs.OnceLemmas.{Leaves, run_once, spelled_once}
use Rattle.decl_text.proofs.WrittenLemmas.{word_of_name}
use Rattle.failure_trace.specs.declared.trace.Value.{Value}
use Rattle.failure_trace.specs.TraceText.{EndsPart, IsValue, BeginsBound}

no_gap : (rest : List ℕ) → IsGap [] rest
no_gap rest = record { blanks = []; comment = []; bytes_are = refl; all_blank = All-nil (λ b. IsTrue (is_blank b)); one_comment = tt }

-- what is spelled at the front is the next token there
pub front_token : (bytes spelled rest : List ℕ) (kind : Kind) → IsSpelled kind spelled rest → bytes ≡ spelled ++ rest
    → IsNextToken bytes 0 (record { kind = kind; start = 0; end = length spelled })
front_token bytes spelled rest kind whole e = record {
  gap = [];
  spelled = spelled;
  rest = rest;
  bytes_are = e;
  gap_before = no_gap (spelled ++ rest);
  start_is = refl;
  end_is = omega arith;
  whole = whole;
}

nothing : (gap after bytes : List ℕ) → length gap ≡ 0 → bytes ≡ gap ++ after → bytes ≡ after
nothing [] after bytes none e = e
nothing (b ∷ bs) after bytes none e = absurd (omega arith)

-- the token at the front, with what it is spelled by and what follows
pub front_parts : (bytes : List ℕ) (token : Token) → IsTokenAt bytes 0 token
    → IsSpelled token.kind (take token.end bytes) (drop token.end bytes)
front_parts bytes token at =
    let n = at.next in
    let none : length n.gap ≡ 0 = omega (arith, n.start_is, at.start_is) in
    let whole : bytes ≡ n.spelled ++ n.rest = nothing n.gap (n.spelled ++ n.rest) bytes none n.bytes_are in
    let size : token.end ≡ length n.spelled = omega (arith, n.end_is, at.start_is) in
    let front : take token.end bytes ≡ n.spelled =
    ap (λ k. take k bytes) size ∙ ap (λ l. take (length n.spelled) l) whole ∙ take-append_seam n.spelled n.rest in
    let back : drop token.end bytes ≡ n.rest =
    ap (λ k. drop k bytes) size ∙ ap (λ l. drop (length n.spelled) l) whole ∙ drop-append_seam n.spelled n.rest in
    subst (λ r. IsSpelled token.kind (take token.end bytes) r) (sym back) (subst (λ w. IsSpelled token.kind w n.rest) (sym front) n.whole)

cancel : (w r s : List ℕ) → w ++ r ≡ w ++ s → r ≡ s
cancel [] r s h = h
cancel (x ∷ w) r s h = cancel w r s cc

-- what follows equal fronts of one list is equal
pub same_after : (w v r s : List ℕ) → w ≡ v → w ++ r ≡ v ++ s → r ≡ s
same_after w v r s same h = cancel v r s (subst (λ x. x ++ r ≡ v ++ s) same h)

pub same_rest : (n : ℕ) (bytes front rest : List ℕ) → bytes ≡ front ++ rest → take n bytes ≡ front → drop n bytes ≡ rest
same_rest n bytes front rest e same = same_after (take n bytes) front (drop n bytes) rest same (take-append-drop n bytes ∙ e)

-- what is spelled at the front is the token there
pub front_once : (bytes spelled rest : List ℕ) (kind : Kind) (token : Token) → IsSpelled kind spelled rest → bytes ≡ spelled ++ rest
    → IsTokenAt bytes 0 token → (token.kind ≡ kind) × (take token.end bytes ≡ spelled) × (drop token.end bytes ≡ rest)
front_once bytes spelled rest kind token whole e at =
    let same = spelled_once token.kind kind (take token.end bytes) spelled (drop token.end bytes) rest (front_parts bytes token at) whole
    (take-append-drop token.end bytes ∙ e) in
    (same.0, same.1, same_rest token.end bytes spelled rest e same.1)

-- a space or nothing ends a name
pub ends_word : (rest : List ℕ) → EndsPart rest → EndsWord rest
ends_word [] ends = tt
ends_word (b ∷ bs) ends = subst (λ x. ¬ (IsTrue (is_name_byte x))) (sym ends) (λ h. absurd cc)

-- the sign `=` does
pub equals_ends_word : (rest : List ℕ) → EndsWord (61 ∷ rest)
equals_ends_word rest h = absurd cc

-- a name as it is spelled
pub name_spelled : (name rest : List ℕ) → IsName name → EndsWord rest → IsSpelled Name name rest
name_spelled name rest is ends = (word_of_name name is, ends)

-- two names at the front are one
pub name_once : (a b r s : List ℕ) → IsName a → IsName b → EndsWord r → EndsWord s → a ++ r ≡ b ++ s → (a ≡ b) × (r ≡ s)
name_once a b r s x y p q e =
    let same = spelled_once Name Name a b r s (name_spelled a r x p) (name_spelled b s y q) e in
    (same.1, same_after a b r s same.1 e)

no_space : (b : ℕ) → IsDigit b → b ≢ 32
no_space b digit e = omega (arith, digit.0, e)

-- the mark of an unknown has no space
pub mark_whole : (text : List ℕ) (number : ℕ) → IsMark text number → All (λ b. b ≢ 32) text
mark_whole text number mark = subst (All (λ b. b ≢ 32)) (sym mark.1)
    (All-cons (λ b. b ≢ 32) 63 mark.0 (λ e. absurd cc) (digits mark.0 mark.2))
  where
    digits : (ds : List ℕ) → IsPositive ds → All (λ b. b ≢ 32) ds
    digits [] is = absurd is
    digits (d ∷ ds) is = All-cons (λ b. b ≢ 32) d ds (λ e. omega (arith, is.0, e))
        (All-weaker IsDigit (λ b. b ≢ 32) no_space ds (All-from_recursion IsDigit ds is.2))

pub leaves_part : (rest : List ℕ) → EndsPart rest → Leaves (λ b. b ≢ 32) rest
leaves_part [] ends = tt
leaves_part (b ∷ bs) ends = λ other. other ends

-- a part without a space that is followed by one, or by nothing, is as long as it can be
pub part_once : (a b r s : List ℕ) → All (λ x. x ≢ 32) a → All (λ x. x ≢ 32) b → EndsPart r → EndsPart s → a ++ r ≡ b ++ s
    → (a ≡ b) × (r ≡ s)
part_once a b r s x y p q e = run_once (λ c. c ≢ 32) a b r s x y (leaves_part r p) (leaves_part s q) e

-- a binding at the front, from its parts
pub bound_front : (bytes after : List ℕ) (len n : ℕ) (value : Value) → drop len bytes ≡ 61 ∷ after → IsName (take len bytes)
    → IsValue (take n after) value → EndsPart (drop n after)
    → BeginsBound bytes (record { name = take len bytes; value = value }) (drop ((len + 1) + n) bytes)
bound_front bytes after len n value e name is ends =
    let rest : drop ((len + 1) + n) bytes ≡ drop n after =
    sym (drop-drop n (len + 1) bytes) ∙ ap (λ l. drop n l) (sym (drop-drop 1 len bytes) ∙ ap (λ l. drop 1 l) e) in
    record {
      value = take n after;
      bytes_are = sym (take-append-drop len bytes) ∙ ap (λ l. take len bytes ++ l)
          (e ∙ ap (λ l. 61 ∷ l) (sym (take-append-drop n after) ∙ ap (λ l. take n after ++ l) (sym rest)));
      name = name;
      is = is;
      ends = subst EndsPart (sym rest) ends;
    }

-- words are as long as they can be
pub word_once : (a b r s : List ℕ) → IsSpelled Name a r → IsSpelled Name b s → a ++ r ≡ b ++ s → a ≡ b
word_once a b r s x y e = (spelled_once Name Name a b r s x y e).1

-- so are texts in quotes
pub quoted_once : (a b r s : List ℕ) → IsSpelled Quoted a r → IsSpelled Quoted b s → a ++ r ≡ b ++ s → a ≡ b
quoted_once a b r s x y e = (spelled_once Quoted Quoted a b r s x y e).1
