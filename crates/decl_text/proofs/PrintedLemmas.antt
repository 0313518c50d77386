-- A canonical declaration leads through its tests.
use Rattle.std.proofs.Common.{◌≡◌, inl, inr, ℕ, ◌+◌, ◌<◌, ◌≤◌, Bool, true, IsTrue, All, Contains, List, [], ◌∷◌, ◌++◌, length, get_or, codes, refl, sym, ap, ◌∙◌, subst, arith}
use Rattle.std.specs.Prelude.{◌&&◌}
use Rattle.std.proofs.Math.ListN.{get_or-append}
use Rattle.std.proofs.Math.Seq.{get_or-append_seam}
use Rattle.std.proofs.lemmas.Bool.{and_parts}
use Rattle.std.proofs.lemmas.List.{length-append}
use Rattle.std.proofs.lemmas.List.Elements.{All-nil, All-cons}
use Rattle.rule_core.specs.declared.rules.Place.{Place}
use Rattle.rule_core.specs.declared.rules.Place.TheVariants.{Source, Target}
use Rattle.rule_core.specs.declared.rules.Relation.{Relation}
use Rattle.rule_core.specs.Mapping.{RuleSet}
use Rattle.rule_core.specs.Names.{IsName}
use Rattle.rule_core.specs.Validity.{AreDistinct, IsValid}
use Rattle.rule_core.specs.Adding.{with_relation, IsNewRelation}
use Rattle.rule_core.proofs.ValidityLemmas.{new_relation}
use Rattle.decl_text.specs.declared.token.Kind.TheVariants.{LeftParen, RightParen, Comma, LineEnd}
use Rattle.decl_text.specs.Tokens.{is_blank, is_letter, is_name_byte, IsWord, EndsWord}
use Rattle.decl_text.specs.Declaration.{begins, wants_name, wants_parenthesis, wants_column, wants_comma, wants_line_end, declared, declaration_tests}
use Rattle.decl_text.specs.Canonical.{joined, place_word, declaration_text}
use Rattle.decl_text.proofs.WrittenLemmas.{Always, AreBlanks, word_of_name, Written, Written-then, Written-next, sign_written, word_written, words_written}

-- no blank, and one
pub no_blank : AreBlanks []
no_blank = All-nil (λ b. IsTrue (is_blank b))

pub one_blank : AreBlanks (32 ∷ [])
one_blank = All-cons (λ b. IsTrue (is_blank b)) 32 [] refl no_blank

-- all bytes may stand in a name
abbrev pub are_name_bytes : List ℕ → Bool
are_name_bytes [] = true
are_name_bytes (b ∷ bs) = is_name_byte b && are_name_bytes bs

name_bytes : (bytes : List ℕ) → are_name_bytes bytes ≡ true → All (λ b. IsTrue (is_name_byte b)) bytes
name_bytes [] h = All-nil (λ b. IsTrue (is_name_byte b))
name_bytes (b ∷ bs) h = let parts = and_parts _ _ h in All-cons (λ b. IsTrue (is_name_byte b)) b bs parts.0 (name_bytes bs parts.1)

-- a word by its test
pub word_by_test : (b : ℕ) (bytes : List ℕ) → is_letter b ≡ true → are_name_bytes bytes ≡ true → IsWord (b ∷ bytes)
word_by_test b bytes letter all = (letter, name_bytes bytes all)

-- what holds of each item of a list holds of one within it
pub All-seam : {X : Type 0} (P : X → Type 0) (done : List X) (x : X) (more all : List X) → done ++ x ∷ more ≡ all → All P all → P x
All-seam P done x more all e each =
    subst P (get_or-append_seam done x more x)
    ((subst (All P) (sym e) each) (length done) x (simp length-append (omega arith)))

-- an item of a list of distinct ones doesn't stand before itself
pub new_at_seam : (done : List (List ℕ)) (x : List ℕ) (more all : List (List ℕ)) → done ++ x ∷ more ≡ all → AreDistinct all
    → ¬ Contains done x
new_at_seam done x more all e distinct c =
    (subst AreDistinct (sym e) distinct) c.0 (length done) x c.1 (simp length-append (omega arith))
    (get_or-append done (x ∷ more) x c.0 c.1 ∙ c.2 ∙ sym (get_or-append_seam done x more x))

pub length_seam : {X : Type 0} (done : List X) (x : X) (more all : List X) (n : ℕ) → done ++ x ∷ more ≡ all → length all ≤ n → length done < n
length_seam done x more all n e most =
    let size : length all ≡ length done + length (x ∷ more) = ap length (sym e) ∙ length-append done (x ∷ more) in omega arith

-- the relation with these of its columns
abbrev so_far : Relation → List (List ℕ) → Relation
so_far relation columns = record relation { columns = columns }

module _ (rules : RuleSet) (place : Place) (relation : Relation) (new : IsNewRelation rules relation) where
  column_written : (done : List (List ℕ)) (x : List ℕ) (more : List (List ℕ)) → done ++ x ∷ more ≡ relation.columns
      → (gap : List ℕ) → AreBlanks gap
      → Written (declaration_tests rules) EndsWord (wants_column place (so_far relation done)) (gap ++ x) (wants_comma place (so_far relation (done ++ x ∷ [])))
  column_written done x more e gap blanks =
      let name = All-seam IsName done x more relation.columns e new.valid.columns in
      word_written (declaration_tests rules) (wants_column place (so_far relation done)) (wants_comma place (so_far relation (done ++ x ∷ []))) gap x blanks
      (word_of_name x name)
      (inl (
        refl,
        inl (
          name.word,
          inl (
            name.most,
            inl (
              new_at_seam done x more relation.columns e new.valid.distinct,
              inl (length_seam done x more relation.columns 16 e new.valid.most, refl),
            ),
          ),
        ),
      ))

  comma_written : (done : List (List ℕ)) → Written (declaration_tests rules) Always (wants_comma place (so_far relation done)) (44 ∷ []) (wants_column place (so_far relation done))
  comma_written done =
      sign_written (declaration_tests rules) (wants_comma place (so_far relation done)) (wants_column place (so_far relation done)) [] (44 ∷ []) Comma no_blank
      (λ rest. refl) (λ e. cc, λ e. cc) (inl (refl, refl))

  end_written : Written (declaration_tests rules) Always (wants_comma place relation) (41 ∷ 10 ∷ []) (declared place relation)
  end_written =
      Written-then (declaration_tests rules) Always (wants_comma place relation) (41 ∷ []) (wants_line_end place relation) (10 ∷ [])
      (declared place relation)
      (sign_written (declaration_tests rules) (wants_comma place relation) (wants_line_end place relation) [] (41 ∷ []) RightParen no_blank
      (λ rest. refl) (λ e. cc, λ e. cc) (inr (λ e. cc, inl (refl, refl))))
      (sign_written (declaration_tests rules) (wants_line_end place relation) (declared place relation) [] (10 ∷ []) LineEnd no_blank
      (λ rest. refl) (λ e. cc, λ e. cc) (inl (inl refl, refl)))

  columns_written : Written (declaration_tests rules) Always (wants_column place (so_far relation []))
      (joined (codes ", ") relation.columns ++ 41 ∷ 10 ∷ []) (declared place relation)
  columns_written =
      words_written (declaration_tests rules) Always (λ done. wants_comma place (so_far relation done)) (wants_column place (so_far relation [])) [] relation.columns
      44 (32 ∷ []) refl new.valid.some (λ x more e. column_written [] x more e [] no_blank)
      (λ done x more e. Written-then (declaration_tests rules) EndsWord (wants_comma place (so_far relation done)) (44 ∷ [])
      (wants_column place (so_far relation done)) (32 ∷ x) (wants_comma place (so_far relation (done ++ x ∷ []))) (comma_written done)
      (column_written done x more e (32 ∷ []) one_blank))
      41 (10 ∷ []) (declared place relation) refl end_written

  name_written : Written (declaration_tests rules) EndsWord (wants_name place) (32 ∷ relation.name) (wants_parenthesis place relation.name)
  name_written =
      word_written (declaration_tests rules) (wants_name place) (wants_parenthesis place relation.name) (32 ∷ []) relation.name one_blank
      (word_of_name relation.name new.valid.name)
      (inl (refl, inl (new.valid.name.word, inl (new.valid.name.most, inl (new.name, inl (new.room, refl))))))

  opened_written : Written (declaration_tests rules) Always (wants_parenthesis place relation.name) (40 ∷ []) (wants_column place (so_far relation []))
  opened_written =
      sign_written (declaration_tests rules) (wants_parenthesis place relation.name) (wants_column place (so_far relation [])) [] (40 ∷ []) LeftParen no_blank
      (λ rest. refl) (λ e. cc, λ e. cc) (inl (refl, refl))

place_written : (rules : RuleSet) (place : Place) → Written (declaration_tests rules) EndsWord begins (place_word place) (wants_name place)
place_written rules Source =
    word_written (declaration_tests rules) begins (wants_name Source) [] (codes "source") no_blank (word_by_test 115 (codes "ource") refl refl)
    (inl ((refl, refl), refl))
place_written rules Target =
    word_written (declaration_tests rules) begins (wants_name Target) [] (codes "target") no_blank (word_by_test 116 (codes "arget") refl refl)
    (inr (λ e. let first = ap (λ l. get_or l 0 0) e.1 in absurd (omega arith), inl ((refl, refl), refl)))

-- the whole line
pub declaration_written : (rules : RuleSet) (place : Place) (relation : Relation) → IsValid (with_relation rules place relation)
    → Written (declaration_tests rules) Always begins (declaration_text place relation) (declared place relation)
declaration_written rules place relation valid =
    let new = new_relation rules place relation valid in
    let tests = declaration_tests rules in
    let columns = joined (codes ", ") relation.columns ++ 41 ∷ 10 ∷ [] in
    Written-next tests Always begins (place_word place) (wants_name place) 32 (relation.name ++ 40 ∷ columns) (declared place relation)
    (place_written rules place) refl
    (Written-next tests Always (wants_name place) (32 ∷ relation.name) (wants_parenthesis place relation.name) 40 columns (declared place relation)
    (name_written rules place relation new) refl
    (Written-then tests Always (wants_parenthesis place relation.name) (40 ∷ []) (wants_column place (so_far relation [])) columns
    (declared place relation) (opened_written rules place relation new) (columns_written rules place relation new)))
