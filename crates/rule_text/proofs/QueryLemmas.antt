-- The canonical line of a query leads through its tests.
use Rattle.std.proofs.Common.{◌≡◌, inl, inr, ℕ, suc, ◌<◌, ◌≤◌, false, IsUtf8, All, Contains, List, [], ◌∷◌, ◌++◌, length, get_or, take, codes, Some, refl, sym, ap, ◌∙◌, subst, arith, append_assoc, append-nil}
use Rattle.std.specs.Prelude.{slice_get}
use Rattle.std.specs.List.{AllZip}
use Rattle.std.proofs.Math.Seq.{take-length}
use Rattle.std.proofs.lemmas.List.{length_push}
use Rattle.std.proofs.lemmas.Option.{slice_get-get_or, slice_get_within, get_or_from_slice_get}
use Rattle.term_core.specs.Pool.{IsPool}
use Rattle.rule_core.specs.declared.rules.Branch.{Branch}
use Rattle.rule_core.specs.declared.rules.Query.{Query as QueryValue}
use Rattle.rule_core.specs.declared.rules.Relation.{Relation}
use Rattle.rule_core.specs.Mapping.{RuleSet}
use Rattle.rule_core.specs.Names.{IsName}
use Rattle.rule_core.specs.Validity.{IsValid, AreDistinct, AreRelations, IsBranch, occurrences}
use Rattle.rule_core.specs.Adding.{with_query, IsNewQuery}
use Rattle.rule_core.proofs.ValidityLemmas.{new_query}
use Rattle.decl_text.specs.declared.token.Kind.TheVariants.{LeftParen, RightParen, Comma, Colon, Bar, LineEnd}
use Rattle.decl_text.specs.Tokens.{is_name_byte, EndsWord}
use Rattle.decl_text.specs.Tests.{Outcome, goes}
use Rattle.decl_text.proofs.WrittenLemmas.{Always, word_of_name, Written, Written-then, Written-next, sign_written, word_written, words_written}
use Rattle.decl_text.proofs.PrintedLemmas.{no_blank, one_blank, word_by_test, All-seam, new_at_seam, length_seam}
use Rattle.rule_text.specs.declared.rule.Rule.TheVariants.{Query}
use Rattle.rule_text.specs.RuleLine.{Frame, disjunct_of, Said, RulePosition, IsFirstAt, AreColumns, begins, wants_query_name, wants_head_parenthesis, wants_head, wants_head_variable, wants_head_comma, wants_colon, wants_atom, after_atom, stated, rule_tests}
use Rattle.rule_text.specs.Canonical.{listed, atoms_text, branches_text, query_text}
use Rattle.rule_text.specs.Constants.{AreTextual}
use Rattle.rule_text.proofs.PlaceLemmas.{first_at}
use Rattle.rule_text.proofs.TurnLemmas.{known, numbered_turns}
use Rattle.rule_text.proofs.AtomLemmas.{said_of, Names, IsShortText, atom_begins, atoms_written}

-- two lists of one length, member by member
all_zip_from : {A B : Type 0} (R : A → B → Type 0) (a : A) (b : B) (xs : List A) (ys : List B) → length ys ≡ length xs
    → ((k : ℕ) → k < length xs → R (get_or xs k a) (get_or ys k b)) → AllZip R xs ys
all_zip_from R a b [] [] size each = tt
all_zip_from R a b [] (y ∷ ys) size each = absurd (omega (arith, size))
all_zip_from R a b (x ∷ xs) [] size each = absurd (omega (arith, size))
all_zip_from R a b (x ∷ xs) (y ∷ ys) size each =
    (each 0 (omega arith), all_zip_from R a b xs ys (omega (arith, size)) (λ k lt. each (suc k) (omega (arith, lt))))

module _ (relations : List Relation) (head : List (List ℕ)) (branch : Branch) (valid : IsBranch relations head branch) where
  -- the number of a head variable among those of the disjunct
  column_found : (k : ℕ) → k < length head → slice_get branch.vars (get_or branch.columns k 0) ≡ Some (get_or head k [])
  column_found k lt = valid.columns k lt ∙ slice_get-get_or head k [] lt

  pub columns_are : AreColumns branch.vars head branch.columns
  columns_are =
      all_zip_from (IsFirstAt branch.vars) [] 0 head branch.columns valid.arity
      (λ k lt. let column = get_or branch.columns k 0 in
      let found = column_found k lt in
      subst (λ name. IsFirstAt branch.vars name column) (get_or_from_slice_get branch.vars column (get_or head k []) [] found)
      (first_at branch.vars column valid.vars.distinct (slice_get_within branch.vars column (get_or head k []) found)))

  pub head_is_there : All (Contains branch.vars) head
  head_is_there k d lt =
      let column = get_or branch.columns k 0 in
      let found = valid.columns k lt ∙ slice_get-get_or head k d lt in (
        column,
        slice_get_within branch.vars column (get_or head k d) found,
        get_or_from_slice_get branch.vars column (get_or head k d) (get_or head k d) found,
      )

module _ (rules : RuleSet) (pool : List (List ℕ)) where
  -- the head of a query, with its closing parenthesis
  pub head_written : (name : List ℕ) (head : List (List ℕ)) → All IsName head → AreDistinct head → length head ≤ 16
      → (tail : List ℕ) (last : RulePosition) → Written (rule_tests rules pool) Always (wants_colon (disjunct_of name head [])) tail last
      → Written (rule_tests rules pool) Always (wants_head name) (listed head ++ 41 ∷ tail) last
  head_written name [] are distinct most tail last then =
      let tests = rule_tests rules pool in
      Written-then tests Always (wants_head name) (41 ∷ []) (wants_colon (disjunct_of name [] [])) tail last
      (sign_written tests (wants_head name) (wants_colon (disjunct_of name [] [])) [] (41 ∷ []) RightParen no_blank (λ rest. refl)
      (λ e. cc, λ e. cc) (inl (refl, refl))) then
  head_written name (first ∷ others) are distinct most tail last then =
      let tests = rule_tests rules pool in
      let head = first ∷ others in
      let at : List (List ℕ) → RulePosition = λ done. wants_head_comma name done in
      let wants : List (List ℕ) → RulePosition = λ done. wants_head_variable name done in
      words_written tests Always at (wants_head name) [] head 44 (32 ∷ []) refl (omega arith)
      (λ x more e.
      let named = All-seam IsName [] x more head e are in
      word_written tests (wants_head name) (at (x ∷ [])) [] x no_blank (word_of_name x named)
      (inr (
        λ e. cc,
        inl (
          refl,
          inl (
            named.word,
            inl (
              named.most,
              inl (
                new_at_seam [] x more head e distinct,
                inl (length_seam [] x more head 16 e most, refl),
              ),
            ),
          ),
        ),
      )))
      (λ done x more e.
      let named = All-seam IsName done x more head e are in
      Written-then tests EndsWord (at done) (44 ∷ []) (wants done) (32 ∷ x) (at (done ++ x ∷ []))
      (sign_written tests (at done) (wants done) [] (44 ∷ []) Comma no_blank (λ rest. refl) (λ e. cc, λ e. cc) (inl (refl, refl)))
      (word_written tests (wants done) (at (done ++ x ∷ [])) (32 ∷ []) x one_blank (word_of_name x named)
      (inl (
        refl,
        inl (
          named.word,
          inl (
            named.most,
            inl (
              new_at_seam done x more head e distinct,
              inl (length_seam done x more head 16 e most, refl),
            ),
          ),
        ),
      ))))
      41 tail last refl
      (Written-then tests Always (at head) (41 ∷ []) (wants_colon (disjunct_of name head [])) tail last
      (sign_written tests (at head) (wants_colon (disjunct_of name head [])) [] (41 ∷ []) RightParen no_blank (λ rest. refl)
      (λ e. cc, λ e. cc) (inr (λ e. cc, inl (refl, refl)))) then)

module _ (rules : RuleSet) (pool : List (List ℕ)) (query : QueryValue) (relations : AreRelations rules.sources rules.targets)
    (is_pool : IsPool pool) (texts : All IsUtf8 pool) (new : IsNewQuery rules query)
    (textual : All (λ branch. AreTextual pool IsShortText branch.body) query.branches) where
  abbrev frame_after : List Branch → Frame
  frame_after done = disjunct_of query.name query.head done

  abbrev branch_said : Branch → Said
  branch_said branch = record { vars = branch.vars; atoms = branch.body }

  -- the atoms of a disjunct, and what follows
  atoms_of_branch : (done : List Branch) (b : Branch) → IsBranch rules.targets query.head b → AreTextual pool IsShortText b.body
      → (c : ℕ) (tail : List ℕ) → is_name_byte c ≡ false
      → Written (rule_tests rules pool) Always (after_atom (frame_after done) (branch_said b)) (c ∷ tail) (stated (Query query))
      → Written (rule_tests rules pool) Always (wants_atom (frame_after done) (record { vars = []; atoms = [] }))
      (32 ∷ (atoms_text pool rules.targets b.vars b.body ++ c ∷ tail)) (stated (Query query))
  atoms_of_branch done b valid short c tail ends then =
      let tests = rule_tests rules pool in
      let names : Names rules pool b.vars = record { relations = relations; variables = valid.vars; is_pool = is_pool; texts = texts } in
      let turns = numbered_turns (length b.vars) (length b.vars) (omega arith) (occurrences b.body) valid.body_vars in
      let all : take (known 0 (occurrences b.body)) b.vars ≡ b.vars = ap (λ n. take n b.vars) turns.1 ∙ take-length b.vars in
      atoms_written rules pool b.vars names (frame_after done) Always (wants_atom (frame_after done) (said_of b.vars 0 [])) 0 b.body
      (atom_begins rules pool b.vars names (frame_after done) (said_of b.vars 0 [])) valid.body turns.0 short
      c tail (stated (Query query)) ends
      (subst (λ vars. Written tests Always (after_atom (frame_after done) (record { vars = vars; atoms = b.body })) (c ∷ tail) (stated (Query query)))
      (sym all) then)

  -- a disjunct and all later ones
  branches_written : (done : List Branch) (b : Branch) (more : List Branch) → done ++ b ∷ more ≡ query.branches
      → Written (rule_tests rules pool) Always (wants_atom (frame_after done) (record { vars = []; atoms = [] }))
      (32 ∷ (branches_text pool rules.targets (b ∷ more) ++ 10 ∷ [])) (stated (Query query))
  branches_written done b [] e =
      let tests = rule_tests rules pool in
      let valid = All-seam (IsBranch rules.targets query.head) done b [] query.branches e new.valid.branches in
      let short = All-seam (λ (branch : Branch). AreTextual pool IsShortText branch.body) done b [] query.branches e textual in
      let make : List Branch → Outcome RulePosition = λ branches.
      goes (stated (Query (record { name = query.name; head = query.head; branches = branches }))) in
      subst (λ l. Written tests Always (wants_atom (frame_after done) (record { vars = []; atoms = [] })) (32 ∷ (l ++ 10 ∷ [])) (stated (Query query)))
      (sym (append-nil (atoms_text pool rules.targets b.vars b.body)))
      (atoms_of_branch done b valid short 10 [] refl
      (sign_written tests (after_atom (frame_after done) (branch_said b)) (stated (Query query)) [] (10 ∷ []) LineEnd no_blank (λ rest. refl)
      (λ e. cc, λ e. cc)
      (inr (
        λ e. cc,
        inr (
          λ e. cc,
          inl (
            inl refl,
            inl (
              head_is_there rules.targets query.head b valid,
              (b.columns, columns_are rules.targets query.head b valid, ap make (sym e)),
            ),
          ),
        ),
      ))))
  branches_written done b (next ∷ more) e =
      let tests = rule_tests rules pool in
      let valid = All-seam (IsBranch rules.targets query.head) done b (next ∷ more) query.branches e new.valid.branches in
      let short = All-seam (λ (branch : Branch). AreTextual pool IsShortText branch.body) done b (next ∷ more) query.branches e textual in
      let whole : (done ++ b ∷ []) ++ next ∷ more ≡ query.branches = append_assoc done (b ∷ []) (next ∷ more) ∙ e in
      let few : length done < 7 = omega (arith, length_seam (done ++ b ∷ []) next more query.branches 8 whole new.valid.most, length_push done b) in
      let later = branches_written (done ++ b ∷ []) next more whole in
      let text = branches_text pool rules.targets (next ∷ more) in
      let position : RulePosition = after_atom (frame_after done) (branch_said b) in
      let again : RulePosition = wants_atom (frame_after (done ++ b ∷ [])) (record { vars = []; atoms = [] }) in
      subst (λ l. Written tests Always (wants_atom (frame_after done) (record { vars = []; atoms = [] })) (32 ∷ l) (stated (Query query)))
      (sym (append_assoc (atoms_text pool rules.targets b.vars b.body) (32 ∷ 124 ∷ 32 ∷ text) (10 ∷ [])))
      (atoms_of_branch done b valid short 32 (124 ∷ 32 ∷ (text ++ 10 ∷ [])) refl
      (Written-then tests Always position (32 ∷ 124 ∷ []) again (32 ∷ (text ++ 10 ∷ [])) (stated (Query query))
      (sign_written tests position again (32 ∷ []) (124 ∷ []) Bar one_blank (λ rest. refl) (λ e. cc, λ e. cc)
      (inr (
        λ e. cc,
        inl (
          refl,
          inl (
            head_is_there rules.targets query.head b valid,
            inl (
              few,
              (b.columns, columns_are rules.targets query.head b valid, refl),
            ),
          ),
        ),
      )))
      later))

  all_branches : (branches : List Branch) → branches ≡ query.branches
      → Written (rule_tests rules pool) Always (wants_atom (frame_after []) (record { vars = []; atoms = [] }))
      (32 ∷ (branches_text pool rules.targets branches ++ 10 ∷ [])) (stated (Query query))
  all_branches [] e = absurd (omega (arith, ap length e, new.valid.some))
  all_branches (b ∷ more) e = branches_written [] b more e

  query_line : Written (rule_tests rules pool) Always begins (query_text pool rules query) (stated (Query query))
  query_line =
      let tests = rule_tests rules pool in
      let last : RulePosition = stated (Query query) in
      let frame : Frame = frame_after [] in
      let text = branches_text pool rules.targets query.branches ++ 10 ∷ [] in
      let heads = listed query.head ++ 41 ∷ 58 ∷ 32 ∷ text in
      let name = new.valid.name in
      Written-next tests Always begins (codes "query") wants_query_name 32 (query.name ++ 40 ∷ heads) last
      (word_written tests begins wants_query_name [] (codes "query") no_blank (word_by_test 113 (codes "uery") refl refl)
      (inr (
        λ e. let first = ap (λ l. get_or l 0 0) e.1 in absurd (omega arith),
        inr (λ e. let first = ap (λ l. get_or l 0 0) e.1 in absurd (omega arith), inl ((refl, refl), refl)),
      )))
      refl
      (Written-next tests Always wants_query_name (32 ∷ query.name) (wants_head_parenthesis query.name) 40 heads last
      (word_written tests wants_query_name (wants_head_parenthesis query.name) (32 ∷ []) query.name one_blank (word_of_name query.name name)
      (inl (refl, inl (name.word, inl (name.most, inl (new.name, inl (new.room, refl)))))))
      refl
      (Written-then tests Always (wants_head_parenthesis query.name) (40 ∷ []) (wants_head query.name) heads last
      (sign_written tests (wants_head_parenthesis query.name) (wants_head query.name) [] (40 ∷ []) LeftParen no_blank (λ rest. refl)
      (λ e. cc, λ e. cc) (inl (refl, refl)))
      (head_written rules pool query.name query.head new.valid.head new.valid.distinct new.valid.head_most (58 ∷ 32 ∷ text) last
      (Written-then tests Always (wants_colon frame) (58 ∷ []) (wants_atom frame (record { vars = []; atoms = [] })) (32 ∷ text) last
      (sign_written tests (wants_colon frame) (wants_atom frame (record { vars = []; atoms = [] })) [] (58 ∷ []) Colon no_blank (λ rest. refl)
      (λ e. cc, λ e. cc) (inl (refl, refl)))
      (all_branches query.branches refl)))))

pub query_written : (rules : RuleSet) (pool : List (List ℕ)) (query : QueryValue) → IsValid (with_query rules query) → IsPool pool
    → All IsUtf8 pool → All (λ branch. AreTextual pool IsShortText branch.body) query.branches
    → Written (rule_tests rules pool) Always begins (query_text pool rules query) (stated (Query query))
query_written rules pool query valid is_pool texts textual =
    query_line rules pool query valid.relations is_pool texts (new_query rules query valid) textual
