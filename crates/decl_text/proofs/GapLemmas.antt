-- Blanks and comments, taken off the front.
use Rattle.std.proofs.Common.{◌≡◌, ◌≢◌, ℕ, zero, suc, ◌+◌, List, [], ◌∷◌, take, drop, get_or, All, IsTrue, subst, arith}
use Rattle.std.proofs.Math.Seq.{take-add}
use Rattle.std.proofs.lemmas.List.{drop-drop}
use Rattle.std.proofs.lemmas.List.Elements.{All-tail}
use Rattle.decl_text.specs.Tokens.{is_blank, EndsLine, IsComment, IsGap, EndsGap}
use Rattle.decl_text.specs.Pieces.{EndsBlanks}

-- the rest of a line that begins with a number sign is a comment
pub comment_from_line : (bytes : List ℕ) (n : ℕ) → get_or bytes 0 0 ≡ 35 → All (λ b. b ≢ 10) (take n bytes) → EndsLine (drop n bytes)
    → IsComment (take n bytes) (drop n bytes)
comment_from_line [] zero sign line whole = tt
comment_from_line [] (suc n) sign line whole = tt
comment_from_line (b ∷ bytes) zero sign line whole = tt
comment_from_line (b ∷ bytes) (suc n) sign line whole = (sign, All-tail (λ c. c ≢ 10) b (take n bytes) line, whole)

-- a line feed begins neither a blank nor a comment
pub EndsGap-line : (bytes : List ℕ) → EndsLine bytes → EndsGap bytes
EndsGap-line [] ends = tt
EndsGap-line (b ∷ bytes) ends = rw ends ((λ blank. absurd cc), (λ e. omega arith))

pub EndsGap-other : (bytes : List ℕ) → EndsBlanks bytes → (get_or bytes 0 0 ≡ 35 → ⊥) → EndsGap bytes
EndsGap-other [] ends other = tt
EndsGap-other (b ∷ bytes) ends other = (ends, other)

pub IsGap-parts : (bytes : List ℕ) (n m : ℕ) → All (λ b. IsTrue (is_blank b)) (take n bytes)
    → IsComment (take m (drop n bytes)) (drop m (drop n bytes)) → IsGap (take (n + m) bytes) (drop (n + m) bytes)
IsGap-parts bytes n m blank comment = record {
  blanks = take n bytes;
  comment = take m (drop n bytes);
  bytes_are = take-add n m bytes;
  all_blank = blank;
  one_comment = subst (λ l. IsComment (take m (drop n bytes)) l) (drop-drop m n bytes) comment;
}
