-- The canonical line of a tgd leads through its tests.
use Rattle.std.proofs.Common.{◌≡◌, inl, inr, ℕ, IsUtf8, All, List, [], ◌∷◌, ◌++◌, length, take, drop, codes, refl, sym, ap, ◌∙◌, subst, arith, append_assoc, append-nil}
use Rattle.std.proofs.Math.Seq.{take-length}
use Rattle.std.proofs.lemmas.List.{length-take-le, length-drop, take-append-drop}
use Rattle.term_core.specs.Pool.{IsPool}
use Rattle.rule_core.specs.declared.rules.Tgd.{Tgd as TgdValue}
use Rattle.rule_core.specs.Mapping.{RuleSet}
use Rattle.rule_core.specs.Names.{IsName}
use Rattle.rule_core.specs.Validity.{IsValid, AreRelations, occurrences}
use Rattle.rule_core.specs.Adding.{with_tgd, IsNewTgd}
use Rattle.rule_core.proofs.ValidityLemmas.{new_tgd}
use Rattle.decl_text.specs.declared.token.Kind.TheVariants.{Name, Comma, Colon, Arrow, LineEnd}
use Rattle.decl_text.specs.Tokens.{EndsWord}
use Rattle.decl_text.specs.Tests.{Outcome, goes}
use Rattle.decl_text.proofs.WrittenLemmas.{Always, AreBlanks, word_of_name, Written, Written-then, Written-next, sign_written, word_written, words_written}
use Rattle.decl_text.proofs.PrintedLemmas.{no_blank, one_blank, word_by_test, All-seam, new_at_seam, length_seam}
use Rattle.rule_text.specs.declared.rule.Rule.TheVariants.{Tgd}
use Rattle.rule_text.specs.RuleLine.{Frame, body_of_tgd, head_of_tgd, RulePosition, begins, wants_tgd_name, wants_colon, wants_atom, after_atom, after_arrow, wants_exists_variable, wants_exists_comma, stated, relation_tests, rule_tests}
use Rattle.rule_text.specs.Canonical.{listed, exists_text, atoms_text, tgd_text}
use Rattle.rule_text.specs.Constants.{AreTextual}
use Rattle.rule_text.proofs.TurnLemmas.{known, numbered_turns, within_turns, occurrences_among}
use Rattle.rule_text.proofs.AtomLemmas.{said_of, Names, IsShortText, Begins, atom_begins, atoms_written}

module _ (rules : RuleSet) (pool : List (List ℕ)) (tgd : TgdValue) (relations : AreRelations rules.sources rules.targets) (is_pool : IsPool pool)
    (texts : All IsUtf8 pool) (new : IsNewTgd rules tgd) where
  names : Names rules pool tgd.vars
  names = record { relations = relations; variables = new.valid.vars; is_pool = is_pool; texts = texts }

  -- how many variables the head's frame knows of the body
  abbrev in_body : ℕ
  in_body = length (take tgd.body_vars tgd.vars)

  abbrev head_frame : Frame
  head_frame = head_of_tgd tgd.name tgd.body in_body

  abbrev head_line : List ℕ
  head_line = atoms_text pool rules.targets tgd.vars tgd.head ++ 10 ∷ []

  -- the end of the line
  head_end : known (length tgd.vars) (occurrences tgd.head) ≡ length tgd.vars
      → Written (rule_tests rules pool) Always
      (after_atom head_frame (said_of tgd.vars (known (length tgd.vars) (occurrences tgd.head)) tgd.head)) (10 ∷ []) (stated (Tgd tgd))
  head_end all =
      let make : List (List ℕ) → ℕ → Outcome RulePosition = λ vars n.
      goes (stated (Tgd (record { name = tgd.name; vars = vars; body_vars = n; body = tgd.body; head = tgd.head }))) in
      let vars_are : take (known (length tgd.vars) (occurrences tgd.head)) tgd.vars ≡ tgd.vars =
      ap (λ n. take n tgd.vars) all ∙ take-length tgd.vars in
      sign_written (rule_tests rules pool) (after_atom head_frame (said_of tgd.vars (known (length tgd.vars) (occurrences tgd.head)) tgd.head))
      (stated (Tgd tgd)) [] (10 ∷ []) LineEnd no_blank (λ rest. refl) (λ e. cc, λ e. cc)
      (inr (
        λ e. cc,
        inl (
          inl refl,
          ap (λ n. make tgd.vars n) (sym (length-take-le tgd.body_vars tgd.vars new.valid.within))
              ∙ ap (λ vars. make vars in_body) (sym vars_are),
        ),
      ))

  -- the head, from where it may begin
  head_written : AreTextual pool IsShortText tgd.head → (position : RulePosition)
      → Begins rules pool tgd.vars names head_frame position (said_of tgd.vars (length tgd.vars) [])
      → Written (rule_tests rules pool) Always position (32 ∷ head_line) (stated (Tgd tgd))
  head_written textual position enters =
      let turns = within_turns ⊥ (length tgd.vars) (occurrences tgd.head) (occurrences_among (length tgd.vars) tgd.head new.valid.safe) in
      atoms_written rules pool tgd.vars names head_frame Always position (length tgd.vars) tgd.head enters new.valid.head turns.0 textual
      10 [] (stated (Tgd tgd)) refl (head_end turns.1)

  -- with no `exists` the head begins behind the arrow
  arrow_begins : tgd.body_vars ≡ length tgd.vars
      → Begins rules pool tgd.vars names head_frame (after_arrow tgd.name (said_of tgd.vars tgd.body_vars tgd.body))
      (said_of tgd.vars (length tgd.vars) [])
  arrow_begins all = record {
    enters = λ name outcome other passes. inr (
      λ keyword. other keyword.1,
      subst (λ n. relation_tests rules head_frame (said_of tgd.vars n []) (record { kind = Name; text = name }) outcome) (sym all) passes,
    );
  }

  -- the `exists` variables so far
  exists_at : (done : List (List ℕ)) (x : List ℕ) (more : List (List ℕ)) → done ++ x ∷ more ≡ drop tgd.body_vars tgd.vars
      → (gap : List ℕ) → AreBlanks gap
      → Written (rule_tests rules pool) EndsWord (wants_exists_variable tgd.name tgd.body in_body (take tgd.body_vars tgd.vars ++ done))
      (gap ++ x) (wants_exists_comma tgd.name tgd.body in_body (take tgd.body_vars tgd.vars ++ (done ++ x ∷ [])))
  exists_at done x more e gap blanks =
      let front = take tgd.body_vars tgd.vars in
      let whole : (front ++ done) ++ x ∷ more ≡ tgd.vars =
      append_assoc front done (x ∷ more) ∙ ap (λ l. front ++ l) e ∙ take-append-drop tgd.body_vars tgd.vars in
      let name = All-seam IsName (front ++ done) x more tgd.vars whole new.valid.vars.names in
      word_written (rule_tests rules pool) (wants_exists_variable tgd.name tgd.body in_body (front ++ done))
      (wants_exists_comma tgd.name tgd.body in_body (front ++ (done ++ x ∷ []))) gap x blanks (word_of_name x name)
      (inl (
        refl,
        inl (
          name.word,
          inl (
            name.most,
            inl (
              new_at_seam (front ++ done) x more tgd.vars whole new.valid.vars.distinct,
              inl (
                length_seam (front ++ done) x more tgd.vars 32 whole new.valid.vars.most,
                ap (λ l. goes (wants_exists_comma tgd.name tgd.body in_body l)) (sym (append_assoc front done (x ∷ []))),
              ),
            ),
          ),
        ),
      ))

  exists_end : AreTextual pool IsShortText tgd.head
      → Written (rule_tests rules pool) Always
      (wants_exists_comma tgd.name tgd.body in_body (take tgd.body_vars tgd.vars ++ drop tgd.body_vars tgd.vars)) (58 ∷ 32 ∷ head_line) (stated (Tgd tgd))
  exists_end textual =
      let tests = rule_tests rules pool in
      let all = take tgd.body_vars tgd.vars ++ drop tgd.body_vars tgd.vars in
      let said = said_of tgd.vars (length tgd.vars) [] in
      let make : List (List ℕ) → Outcome RulePosition = λ vars. goes (wants_atom head_frame (record { vars = vars; atoms = [] })) in
      Written-then tests Always (wants_exists_comma tgd.name tgd.body in_body all) (58 ∷ []) (wants_atom head_frame said) (32 ∷ head_line)
      (stated (Tgd tgd))
      (sign_written tests (wants_exists_comma tgd.name tgd.body in_body all) (wants_atom head_frame said) [] (58 ∷ []) Colon no_blank
      (λ rest. refl) (λ e. cc, λ e. cc)
      (inr (λ e. cc, inl (refl, ap make (take-length tgd.vars ∙ sym (take-append-drop tgd.body_vars tgd.vars))))))
      (head_written textual (wants_atom head_frame said) (atom_begins rules pool tgd.vars names head_frame said))

  -- what follows the arrow
  arrow_written : AreTextual pool IsShortText tgd.head → (exists : List (List ℕ)) → drop tgd.body_vars tgd.vars ≡ exists
      → Written (rule_tests rules pool) Always (after_arrow tgd.name (said_of tgd.vars tgd.body_vars tgd.body))
      (32 ∷ (exists_text exists ++ head_line)) (stated (Tgd tgd))
  arrow_written textual [] e =
      let none : tgd.body_vars ≡ length tgd.vars = omega (arith, ap length e, length-drop tgd.body_vars tgd.vars, new.valid.within) in
      head_written textual (after_arrow tgd.name (said_of tgd.vars tgd.body_vars tgd.body)) (arrow_begins none)
  arrow_written textual (name ∷ more) e =
      let tests = rule_tests rules pool in
      let front = take tgd.body_vars tgd.vars in
      let position = after_arrow tgd.name (said_of tgd.vars tgd.body_vars tgd.body) in
      let wants : List (List ℕ) → RulePosition = λ done. wants_exists_variable tgd.name tgd.body in_body (front ++ done) in
      let at : List (List ℕ) → RulePosition = λ done. wants_exists_comma tgd.name tgd.body in_body (front ++ done) in
      let end : Written tests Always (at (name ∷ more)) (58 ∷ 32 ∷ head_line) (stated (Tgd tgd)) =
      subst (λ l. Written tests Always (at l) (58 ∷ 32 ∷ head_line) (stated (Tgd tgd))) e (exists_end textual) in
      let list : Written tests Always (wants []) (32 ∷ (listed (name ∷ more) ++ 58 ∷ 32 ∷ head_line)) (stated (Tgd tgd)) =
      words_written tests Always at (wants []) (32 ∷ []) (name ∷ more) 44 (32 ∷ []) refl (omega arith)
      (λ x others same. exists_at [] x others (same ∙ sym e) (32 ∷ []) one_blank)
      (λ done x others same. Written-then tests EndsWord (at done) (44 ∷ []) (wants done) (32 ∷ x) (at (done ++ x ∷ []))
      (sign_written tests (at done) (wants done) [] (44 ∷ []) Comma no_blank (λ rest. refl) (λ e. cc, λ e. cc) (inl (refl, refl)))
      (exists_at done x others (same ∙ sym e) (32 ∷ []) one_blank))
      58 (32 ∷ head_line) (stated (Tgd tgd)) refl end in
      let word : Written tests EndsWord position (32 ∷ codes "exists") (wants []) =
      word_written tests position (wants []) (32 ∷ []) (codes "exists") one_blank (word_by_test 101 (codes "xists") refl refl)
      (inl ((refl, refl), ap (λ l. goes (wants_exists_variable tgd.name tgd.body in_body l)) (append-nil front))) in
      subst (λ l. Written tests Always position (32 ∷ (codes "exists " ++ l)) (stated (Tgd tgd)))
      (sym (append_assoc (listed (name ∷ more)) (58 ∷ 32 ∷ []) head_line))
      (Written-next tests Always position (32 ∷ codes "exists") (wants []) 32 (listed (name ∷ more) ++ 58 ∷ 32 ∷ head_line) (stated (Tgd tgd))
      word refl list)

  -- the body, up to the arrow
  body_written : AreTextual pool IsShortText tgd.body → AreTextual pool IsShortText tgd.head
      → Written (rule_tests rules pool) Always (wants_atom (body_of_tgd tgd.name) (said_of tgd.vars 0 []))
      (32 ∷ (atoms_text pool rules.sources tgd.vars tgd.body ++ 32 ∷ 45 ∷ 62 ∷ 32 ∷ (exists_text (drop tgd.body_vars tgd.vars) ++ head_line)))
      (stated (Tgd tgd))
  body_written body head =
      let tests = rule_tests rules pool in
      let frame : Frame = body_of_tgd tgd.name in
      let said = said_of tgd.vars tgd.body_vars tgd.body in
      let tail = 32 ∷ (exists_text (drop tgd.body_vars tgd.vars) ++ head_line) in
      let turns = numbered_turns (length tgd.vars) tgd.body_vars new.valid.within (occurrences tgd.body) new.valid.body_vars in
      let arrow : Written tests Always (after_atom frame said) (32 ∷ 45 ∷ 62 ∷ tail) (stated (Tgd tgd)) =
      Written-then tests Always (after_atom frame said) (32 ∷ 45 ∷ 62 ∷ []) (after_arrow tgd.name said) tail (stated (Tgd tgd))
      (sign_written tests (after_atom frame said) (after_arrow tgd.name said) (32 ∷ []) (45 ∷ 62 ∷ []) Arrow one_blank (λ rest. refl)
      (λ e. cc, λ e. cc) (inr (λ e. cc, inl (refl, refl))))
      (arrow_written head (drop tgd.body_vars tgd.vars) refl) in
      atoms_written rules pool tgd.vars names frame Always (wants_atom frame (said_of tgd.vars 0 [])) 0 tgd.body
      (atom_begins rules pool tgd.vars names frame (said_of tgd.vars 0 [])) new.valid.body turns.0 body
      32 (45 ∷ 62 ∷ tail) (stated (Tgd tgd)) refl
      (subst (λ n. Written tests Always (after_atom frame (said_of tgd.vars n tgd.body)) (32 ∷ 45 ∷ 62 ∷ tail) (stated (Tgd tgd))) (sym turns.1) arrow)

  tgd_line : AreTextual pool IsShortText tgd.body → AreTextual pool IsShortText tgd.head
      → Written (rule_tests rules pool) Always begins (tgd_text pool rules tgd) (stated (Tgd tgd))
  tgd_line body head =
      let tests = rule_tests rules pool in
      let last = stated (Tgd tgd) in
      let frame : Frame = body_of_tgd tgd.name in
      let text = atoms_text pool rules.sources tgd.vars tgd.body ++ 32 ∷ 45 ∷ 62 ∷ 32 ∷ (exists_text (drop tgd.body_vars tgd.vars) ++ head_line) in
      let name = new.valid.name in
      Written-next tests Always begins (codes "tgd") wants_tgd_name 32 (tgd.name ++ 58 ∷ 32 ∷ text) last
      (word_written tests begins wants_tgd_name [] (codes "tgd") no_blank (word_by_test 116 (codes "gd") refl refl) (inl ((refl, refl), refl)))
      refl
      (Written-next tests Always wants_tgd_name (32 ∷ tgd.name) (wants_colon frame) 58 (32 ∷ text) last
      (word_written tests wants_tgd_name (wants_colon frame) (32 ∷ []) tgd.name one_blank (word_of_name tgd.name name)
      (inl (refl, inl (name.word, inl (name.most, inl (new.name, inl (new.room, refl)))))))
      refl
      (Written-then tests Always (wants_colon frame) (58 ∷ []) (wants_atom frame (said_of tgd.vars 0 [])) (32 ∷ text) last
      (sign_written tests (wants_colon frame) (wants_atom frame (said_of tgd.vars 0 [])) [] (58 ∷ []) Colon no_blank (λ rest. refl)
      (λ e. cc, λ e. cc) (inl (refl, refl)))
      (body_written body head)))

pub tgd_written : (rules : RuleSet) (pool : List (List ℕ)) (tgd : TgdValue) → IsValid (with_tgd rules tgd) → IsPool pool → All IsUtf8 pool
    → AreTextual pool IsShortText tgd.body → AreTextual pool IsShortText tgd.head
    → Written (rule_tests rules pool) Always begins (tgd_text pool rules tgd) (stated (Tgd tgd))
tgd_written rules pool tgd valid is_pool texts body head =
    tgd_line rules pool tgd valid.relations is_pool texts (new_tgd rules tgd valid) body head
