-- The canonical line of an egd leads through its tests.
use Rattle.std.proofs.Common.{◌≡◌, inl, inr, ℕ, IsUtf8, All, List, [], ◌∷◌, ◌++◌, length, get_or, take, codes, refl, sym, ap, ◌∙◌, subst, arith}
use Rattle.std.proofs.Math.Seq.{take-length}
use Rattle.std.proofs.lemmas.List.Elements.{Contains-get_or}
use Rattle.term_core.specs.Pool.{IsPool}
use Rattle.rule_core.specs.declared.rules.Egd.{Egd as EgdValue}
use Rattle.rule_core.specs.Mapping.{RuleSet}
use Rattle.rule_core.specs.Validity.{IsValid, AreRelations, occurrences}
use Rattle.rule_core.specs.Adding.{with_egd, IsNewEgd}
use Rattle.rule_core.proofs.ValidityLemmas.{new_egd}
use Rattle.decl_text.specs.declared.token.Kind.TheVariants.{Colon, Arrow, Equals, LineEnd}
use Rattle.decl_text.proofs.WrittenLemmas.{Always, word_of_name, Written, Written-then, Written-next, sign_written, word_written}
use Rattle.decl_text.proofs.PrintedLemmas.{no_blank, one_blank, word_by_test}
use Rattle.rule_text.specs.declared.rule.Rule.TheVariants.{Egd}
use Rattle.rule_text.specs.RuleLine.{Frame, body_of_egd, Said, RulePosition, begins, wants_egd_name, wants_colon, wants_atom, after_atom, wants_left, wants_equals, wants_right, wants_line_end, stated, rule_tests}
use Rattle.rule_text.specs.Canonical.{text_at, atoms_text, egd_text}
use Rattle.rule_text.specs.Constants.{AreTextual}
use Rattle.rule_text.proofs.PlaceLemmas.{first_at}
use Rattle.rule_text.proofs.TurnLemmas.{known, numbered_turns}
use Rattle.rule_text.proofs.AtomLemmas.{said_of, Names, IsShortText, atom_begins, atoms_written}

module _ (rules : RuleSet) (pool : List (List ℕ)) (egd : EgdValue) (relations : AreRelations rules.sources rules.targets) (is_pool : IsPool pool)
    (texts : All IsUtf8 pool) (new : IsNewEgd rules egd) where
  names : Names rules pool egd.vars
  names = record { relations = relations; variables = new.valid.vars; is_pool = is_pool; texts = texts }

  -- all that the body says
  abbrev body_said : Said
  body_said = record { vars = egd.vars; atoms = egd.body }

  right_written : Written (rule_tests rules pool) Always (wants_right egd.name body_said egd.left) (32 ∷ (text_at egd.vars egd.right ++ 10 ∷ []))
      (stated (Egd egd))
  right_written =
      let tests = rule_tests rules pool in
      let line : RulePosition = wants_line_end (Egd egd) in
      let position = wants_right egd.name body_said egd.left in
      Written-next tests Always position (32 ∷ text_at egd.vars egd.right) line 10 [] (stated (Egd egd))
      (word_written tests position line (32 ∷ []) (text_at egd.vars egd.right) one_blank
      (word_of_name (text_at egd.vars egd.right) (new.valid.vars.names egd.right [] new.valid.right))
      (inl (
        refl,
        inl (
          (new.valid.vars.names egd.right [] new.valid.right).word,
          inl (
            (new.valid.vars.names egd.right [] new.valid.right).most,
            inl (
              Contains-get_or egd.vars egd.right [] new.valid.right,
              (egd.right, first_at egd.vars egd.right new.valid.vars.distinct new.valid.right, refl),
            ),
          ),
        ),
      )))
      refl
      (sign_written tests line (stated (Egd egd)) [] (10 ∷ []) LineEnd no_blank (λ rest. refl) (λ e. cc, λ e. cc) (inl (inl refl, refl)))

  left_written : Written (rule_tests rules pool) Always (wants_left egd.name body_said)
      (32 ∷ (text_at egd.vars egd.left ++ 32 ∷ 61 ∷ 32 ∷ (text_at egd.vars egd.right ++ 10 ∷ []))) (stated (Egd egd))
  left_written =
      let tests = rule_tests rules pool in
      let equals : RulePosition = wants_equals egd.name body_said egd.left in
      let position = wants_left egd.name body_said in
      let more = 32 ∷ (text_at egd.vars egd.right ++ 10 ∷ []) in
      Written-next tests Always position (32 ∷ text_at egd.vars egd.left) equals 32 (61 ∷ more) (stated (Egd egd))
      (word_written tests position equals (32 ∷ []) (text_at egd.vars egd.left) one_blank
      (word_of_name (text_at egd.vars egd.left) (new.valid.vars.names egd.left [] new.valid.left))
      (inl (
        refl,
        inl (
          (new.valid.vars.names egd.left [] new.valid.left).word,
          inl (
            (new.valid.vars.names egd.left [] new.valid.left).most,
            inl (
              Contains-get_or egd.vars egd.left [] new.valid.left,
              (egd.left, first_at egd.vars egd.left new.valid.vars.distinct new.valid.left, refl),
            ),
          ),
        ),
      )))
      refl
      (Written-then tests Always equals (32 ∷ 61 ∷ []) (wants_right egd.name body_said egd.left) more (stated (Egd egd))
      (sign_written tests equals (wants_right egd.name body_said egd.left) (32 ∷ []) (61 ∷ []) Equals one_blank (λ rest. refl) (λ e. cc, λ e. cc)
      (inl (refl, refl)))
      right_written)

  abbrev sides_line : List ℕ
  sides_line = 32 ∷ 45 ∷ 62 ∷ 32 ∷ (text_at egd.vars egd.left ++ 32 ∷ 61 ∷ 32 ∷ (text_at egd.vars egd.right ++ 10 ∷ []))

  body_written : AreTextual pool IsShortText egd.body
      → Written (rule_tests rules pool) Always (wants_atom (body_of_egd egd.name) (said_of egd.vars 0 []))
      (32 ∷ (atoms_text pool rules.targets egd.vars egd.body ++ sides_line)) (stated (Egd egd))
  body_written textual =
      let tests = rule_tests rules pool in
      let frame : Frame = body_of_egd egd.name in
      let said : ℕ → Said = λ n. said_of egd.vars n egd.body in
      let sides = 32 ∷ (text_at egd.vars egd.left ++ 32 ∷ 61 ∷ 32 ∷ (text_at egd.vars egd.right ++ 10 ∷ [])) in
      let turns = numbered_turns (length egd.vars) (length egd.vars) (omega arith) (occurrences egd.body) new.valid.body_vars in
      let arrow : Written tests Always (after_atom frame body_said) sides_line (stated (Egd egd)) =
      Written-then tests Always (after_atom frame body_said) (32 ∷ 45 ∷ 62 ∷ []) (wants_left egd.name body_said) sides (stated (Egd egd))
      (sign_written tests (after_atom frame body_said) (wants_left egd.name body_said) (32 ∷ []) (45 ∷ 62 ∷ []) Arrow one_blank (λ rest. refl)
      (λ e. cc, λ e. cc) (inr (λ e. cc, inl (refl, refl))))
      left_written in
      let all : take (known 0 (occurrences egd.body)) egd.vars ≡ egd.vars = ap (λ n. take n egd.vars) turns.1 ∙ take-length egd.vars in
      atoms_written rules pool egd.vars names frame Always (wants_atom frame (said_of egd.vars 0 [])) 0 egd.body
      (atom_begins rules pool egd.vars names frame (said_of egd.vars 0 [])) new.valid.body turns.0 textual
      32 (45 ∷ 62 ∷ sides) (stated (Egd egd)) refl
      (subst (λ vars. Written tests Always (after_atom frame (record { vars = vars; atoms = egd.body })) sides_line (stated (Egd egd))) (sym all) arrow)

  egd_line : AreTextual pool IsShortText egd.body → Written (rule_tests rules pool) Always begins (egd_text pool rules egd) (stated (Egd egd))
  egd_line textual =
      let tests = rule_tests rules pool in
      let last : RulePosition = stated (Egd egd) in
      let frame : Frame = body_of_egd egd.name in
      let text = atoms_text pool rules.targets egd.vars egd.body ++ sides_line in
      let name = new.valid.name in
      Written-next tests Always begins (codes "egd") wants_egd_name 32 (egd.name ++ 58 ∷ 32 ∷ text) last
      (word_written tests begins wants_egd_name [] (codes "egd") no_blank (word_by_test 101 (codes "gd") refl refl)
      (inr (λ e. let first = ap (λ l. get_or l 0 0) e.1 in absurd (omega arith), inl ((refl, refl), refl))))
      refl
      (Written-next tests Always wants_egd_name (32 ∷ egd.name) (wants_colon frame) 58 (32 ∷ text) last
      (word_written tests wants_egd_name (wants_colon frame) (32 ∷ []) egd.name one_blank (word_of_name egd.name name)
      (inl (refl, inl (name.word, inl (name.most, inl (new.name, inl (new.room, refl)))))))
      refl
      (Written-then tests Always (wants_colon frame) (58 ∷ []) (wants_atom frame (said_of egd.vars 0 [])) (32 ∷ text) last
      (sign_written tests (wants_colon frame) (wants_atom frame (said_of egd.vars 0 [])) [] (58 ∷ []) Colon no_blank (λ rest. refl)
      (λ e. cc, λ e. cc) (inl (refl, refl)))
      (body_written textual)))

pub egd_written : (rules : RuleSet) (pool : List (List ℕ)) (egd : EgdValue) → IsValid (with_egd rules egd) → IsPool pool → All IsUtf8 pool
    → AreTextual pool IsShortText egd.body → Written (rule_tests rules pool) Always begins (egd_text pool rules egd) (stated (Egd egd))
egd_written rules pool egd valid is_pool texts textual =
    egd_line rules pool egd valid.relations is_pool texts (new_egd rules egd valid) textual
