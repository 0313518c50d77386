-- Canonical atoms lead through their tests.
use Rattle.std.proofs.Common.{◌≡◌, ◌≢◌, ◌⊎◌, inl, inr, ℕ, ◌+◌, ◌<◌, ◌≤◌, false, IsUtf8, All, AllPairs, List, [], ◌∷◌, ◌++◌, length, take, map, codes, Some, refl, sym, ap, subst, arith}
use Rattle.std.specs.Prelude.{slice_get}
use Rattle.std.proofs.lemmas.List.{length-take-le, take_more}
use Rattle.std.proofs.lemmas.Option.{get_or_from_slice_get, slice_get_within}
use Rattle.term_core.specs.declared.const_id.ConstId.{ConstId}
use Rattle.term_core.specs.Pool.{IsPool}
use Rattle.rule_core.specs.declared.rules.Place.{Place}
use Rattle.rule_core.specs.declared.rules.Place.TheVariants.{Source, Target}
use Rattle.rule_core.specs.declared.rules.Relation.{Relation}
use Rattle.rule_core.specs.declared.rules.Arg.{Arg}
use Rattle.rule_core.specs.declared.rules.Arg.TheVariants.{Var, Const}
use Rattle.rule_core.specs.declared.rules.Atom.{Atom}
use Rattle.rule_core.specs.Mapping.{RuleSet}
use Rattle.rule_core.specs.Names.{IsName}
use Rattle.rule_core.specs.Validity.{AreVariables, AreRelations, AreAtoms, FitsRelation, IsRelation, variables_in, occurrences}
use Rattle.rule_core.specs.Adding.{relations_of}
use Rattle.decl_text.specs.declared.token.Kind.TheVariants.{Name, LeftParen, RightParen, Comma}
use Rattle.decl_text.specs.Tokens.{is_name_byte, EndsWord}
use Rattle.decl_text.specs.Tests.{Outcome, goes}
use Rattle.decl_text.specs.Canonical.{joined, quoted_text}
use Rattle.decl_text.proofs.WrittenLemmas.{Always, AreBlanks, word_of_name, Written, Written-then, Written-next, Written-weaker, Written-same, sign_written, word_written, quoted_written, joined_written}
use Rattle.decl_text.proofs.PrintedLemmas.{no_blank, one_blank, All-seam, length_seam}
use Rattle.rule_text.specs.RuleLine.{Frame, body_of_tgd, head_of_tgd, body_of_egd, disjunct_of, side_of, Said, OpenAtom, with_argument, HasName, RulePosition, wants_atom, wants_parenthesis, wants_argument, wants_comma, after_atom, Variable, variable_tests, relation_tests, rule_tests}
use Rattle.rule_text.specs.Canonical.{text_at, relation_name, argument_text, atom_text, atoms_text}
use Rattle.rule_text.specs.Constants.{IsTextual, AreTextual}
use Rattle.rule_text.proofs.PlaceLemmas.{what_is_found, first_at, first_in_front, in_front, not_in_front, pool_distinct, relation_name_is, first_named, has_name}
use Rattle.rule_text.proofs.TurnLemmas.{next_known, next_same, next_more, known, InTurn, Turns, Turns-argument, Turns-atom, known-argument, known-atom}

-- new variables may come anywhere but in a head
abbrev pub Grows : Frame → Type 0
Grows (head_of_tgd name body body_vars) = ⊥
Grows other = Unit {0}

-- the first so many of these variables are said, and these atoms
abbrev pub said_of : List (List ℕ) → ℕ → List Atom → Said
said_of vars k atoms = record { vars = take k vars; atoms = atoms }

-- what is meant by the numbers in a rule: valid relations, names for variables, texts for constants
pub record Names (rules : RuleSet) (pool vars : List (List ℕ)) : Type 0 where
  pub relations : AreRelations rules.sources rules.targets
  pub variables : AreVariables vars
  pub is_pool : IsPool pool
  pub texts : All IsUtf8 pool

module _ (vars : List (List ℕ)) (are : AreVariables vars) where
  -- a variable that is known
  known_passes : (frame : Frame) (k v : ℕ) (atoms : List Atom) (atom : OpenAtom) → v < k → k ≤ length vars
      → variable_tests frame (said_of vars k atoms) atom (text_at vars v)
      (goes (wants_comma frame (said_of vars k atoms) (with_argument atom (Var v))))
  known_passes (body_of_tgd name) k v atoms atom lt fits =
      inl (in_front vars k v fits lt, (v, first_in_front vars k v are.distinct fits lt, refl))
  known_passes (head_of_tgd name body body_vars) k v atoms atom lt fits =
      inl (in_front vars k v fits lt, (v, first_in_front vars k v are.distinct fits lt, refl))
  known_passes (body_of_egd name) k v atoms atom lt fits =
      inl (in_front vars k v fits lt, (v, first_in_front vars k v are.distinct fits lt, refl))
  known_passes (disjunct_of name head branches) k v atoms atom lt fits =
      inl (in_front vars k v fits lt, (v, first_in_front vars k v are.distinct fits lt, refl))

  -- the next one, as it is added
  next_located : (frame : Frame) (k : ℕ) (atoms : List Atom) (atom : OpenAtom) → k < length vars
      → Variable frame (record { vars = take k vars ++ text_at vars k ∷ []; atoms = atoms }) atom (text_at vars k)
      (goes (wants_comma frame (said_of vars (k + 1) atoms) (with_argument atom (Var k))))
  next_located frame k atoms atom lt =
      subst
      (λ l. Variable frame (record { vars = l; atoms = atoms }) atom (text_at vars k)
      (goes (wants_comma frame (said_of vars (k + 1) atoms) (with_argument atom (Var k)))))
      (take_more vars k [] lt)
      (k, first_in_front vars (k + 1) k are.distinct (omega arith) (omega arith), refl)

  next_passes : (frame : Frame) (k : ℕ) (atoms : List Atom) (atom : OpenAtom) → Grows frame → k < length vars
      → variable_tests frame (said_of vars k atoms) atom (text_at vars k)
      (goes (wants_comma frame (said_of vars (k + 1) atoms) (with_argument atom (Var k))))
  next_passes (head_of_tgd name body body_vars) k atoms atom grows lt = absurd grows
  next_passes (body_of_tgd name) k atoms atom grows lt =
      inr (
        not_in_front vars k are.distinct lt,
        inl (omega (arith, length-take-le k vars (omega arith), are.most), next_located (body_of_tgd name) k atoms atom lt),
      )
  next_passes (body_of_egd name) k atoms atom grows lt =
      inr (
        not_in_front vars k are.distinct lt,
        inl (omega (arith, length-take-le k vars (omega arith), are.most), next_located (body_of_egd name) k atoms atom lt),
      )
  next_passes (disjunct_of name head branches) k atoms atom grows lt =
      inr (
        not_in_front vars k are.distinct lt,
        inl (omega (arith, length-take-le k vars (omega arith), are.most), next_located (disjunct_of name head branches) k atoms atom lt),
      )

  pub variable_passes : (frame : Frame) (k v : ℕ) (atoms : List Atom) (atom : OpenAtom) → InTurn (Grows frame) (length vars) k v
      → variable_tests frame (said_of vars k atoms) atom (text_at vars v)
      (goes (wants_comma frame (said_of vars (next_known k v) atoms) (with_argument atom (Var v))))
  variable_passes frame k v atoms atom (inl known) =
      subst
      (λ n. variable_tests frame (said_of vars k atoms) atom (text_at vars v)
      (goes (wants_comma frame (said_of vars n atoms) (with_argument atom (Var v)))))
      (sym (next_same k v known.0)) (known_passes frame k v atoms atom known.0 known.1)
  variable_passes frame k v atoms atom (inr new) =
      subst
      (λ n. variable_tests frame (said_of vars k atoms) atom (text_at vars v)
      (goes (wants_comma frame (said_of vars n atoms) (with_argument atom (Var v)))))
      (sym (next_more k v new.1))
      (subst
      (λ w. variable_tests frame (said_of vars k atoms) atom (text_at vars w)
      (goes (wants_comma frame (said_of vars (k + 1) atoms) (with_argument atom (Var w)))))
      (sym new.1) (next_passes frame k atoms atom new.0 new.2))

-- a constant has a text of at most 4096 bytes
abbrev pub IsShortText : List ℕ → Type 0
IsShortText text = length text ≤ 4096

in_names : (Growing : Type 0) (names k v : ℕ) → InTurn Growing names k v → v < names
in_names Growing names k v (inl known) = omega (arith, known.0, known.1)
in_names Growing names k v (inr new) = omega (arith, new.1, new.2)

-- what a number of the pool says
text_found : (pool : List (List ℕ)) (c : ConstId) → IsTextual pool IsShortText (Const c)
    → (c.0 < length pool) × IsShortText (text_at pool c.0)
text_found pool c textual =
    let found = what_is_found IsShortText pool c.0 textual in
    (slice_get_within pool c.0 found.0 found.1, subst IsShortText (sym (get_or_from_slice_get pool c.0 found.0 [] found.1)) found.2)

on_a_side : (rules : RuleSet) (place : Place) (name : List ℕ) → HasName (relations_of rules place) name
    → HasName rules.sources name ⊎ HasName rules.targets name
on_a_side rules Source name has = inl has
on_a_side rules Target name has = inr has

names_distinct : (rules : RuleSet) (place : Place) → AreRelations rules.sources rules.targets
    → AllPairs (λ a b. a.name ≢ b.name) (relations_of rules place)
names_distinct rules Source are = are.source_names
names_distinct rules Target are = are.target_names

names_valid : (rules : RuleSet) (place : Place) → AreRelations rules.sources rules.targets → All IsRelation (relations_of rules place)
names_valid rules Source are = are.source_relations
names_valid rules Target are = are.target_relations

-- the relation of an atom
relation_found : (relations : List Relation) (atom : Atom) → All IsRelation relations → FitsRelation relations atom
    → (relation : Relation) × (slice_get relations atom.relation ≡ Some relation) × (length atom.args ≡ length relation.columns)
    × IsRelation relation
relation_found relations atom valid fits =
    let found = what_is_found (λ (r : Relation). length atom.args ≡ length r.columns) relations atom.relation fits in (
      found.0,
      found.1,
      found.2,
      subst IsRelation (get_or_from_slice_get relations atom.relation found.0 found.0 found.1)
          (valid atom.relation found.0 (slice_get_within relations atom.relation found.0 found.1)),
    )

some_arguments : (relations : List Relation) (atom : Atom) → All IsRelation relations → FitsRelation relations atom → 1 ≤ length atom.args
some_arguments relations atom valid fits =
    let found = relation_found relations atom valid fits in
    let some = found.3.some in
    let same = found.2 in
    omega arith

module _ (rules : RuleSet) (pool vars : List (List ℕ)) (names : Names rules pool vars) (frame : Frame) where
  argument_written : (k : ℕ) (atoms : List Atom) (atom : OpenAtom) (arg : Arg) (gap : List ℕ) → AreBlanks gap
      → Turns (Grows frame) (length vars) k (variables_in (arg ∷ [])) → IsTextual pool IsShortText arg
      → Written (rule_tests rules pool) EndsWord (wants_argument frame (said_of vars k atoms) atom) (gap ++ argument_text pool vars arg)
      (wants_comma frame (said_of vars (known k (variables_in (arg ∷ []))) atoms) (with_argument atom arg))
  argument_written k atoms atom (Var v) gap blanks turns textual =
      let name : IsName (text_at vars v) = names.variables.names v [] (in_names (Grows frame) (length vars) k v turns.0) in
      word_written (rule_tests rules pool) (wants_argument frame (said_of vars k atoms) atom)
      (wants_comma frame (said_of vars (next_known k v) atoms) (with_argument atom (Var v))) gap (text_at vars v) blanks
      (word_of_name (text_at vars v) name)
      (inr (λ e. cc, inl (refl, inl (name.word, inl (name.most, variable_passes vars names.variables frame k v atoms atom turns.0)))))
  argument_written k atoms atom (Const c) gap blanks turns textual =
      let found = text_found pool c textual in
      Written-weaker (rule_tests rules pool) Always EndsWord (wants_argument frame (said_of vars k atoms) atom)
      (gap ++ quoted_text (text_at pool c.0)) (wants_comma frame (said_of vars k atoms) (with_argument atom (Const c))) (λ rest ends. tt)
      (quoted_written (rule_tests rules pool) (wants_argument frame (said_of vars k atoms) atom)
      (wants_comma frame (said_of vars k atoms) (with_argument atom (Const c))) gap (text_at pool c.0) blanks (names.texts c.0 [] found.0)
      (inl (refl, inl (found.1, (c.0, first_at pool c.0 (pool_distinct pool names.is_pool) found.0, refl)))))

  arguments_written : (k : ℕ) (atoms : List Atom) (atom : Atom) → 1 ≤ length atom.args
      → Turns (Grows frame) (length vars) k (variables_in atom.args) → All (IsTextual pool IsShortText) atom.args
      → Written (rule_tests rules pool) Always
      (wants_argument frame (said_of vars k atoms) (record { relation = atom.relation; width = length atom.args; args = [] }))
      (joined (codes ", ") (map (argument_text pool vars) atom.args) ++ codes ")")
      (after_atom frame (said_of vars (known k (variables_in atom.args)) (atoms ++ atom ∷ [])))
  arguments_written k atoms atom some turns textual =
      let tests = rule_tests rules pool in
      let opened : List Arg → OpenAtom = λ done. record { relation = atom.relation; width = length atom.args; args = done } in
      let at : List Arg → RulePosition = λ done. wants_comma frame (said_of vars (known k (variables_in done)) atoms) (opened done) in
      let wants : List Arg → RulePosition = λ done. wants_argument frame (said_of vars (known k (variables_in done)) atoms) (opened done) in
      let last = after_atom frame (said_of vars (known k (variables_in atom.args)) (atoms ++ atom ∷ [])) in
      joined_written tests Always (argument_text pool vars) at (wants []) [] atom.args 44 (32 ∷ []) refl some
      (λ x more e. argument_written k atoms (opened []) x [] no_blank
      (Turns-argument (Grows frame) (length vars) k [] x more atom.args e turns) (All-seam (IsTextual pool IsShortText) [] x more atom.args e textual))
      (λ done x more e. Written-same tests EndsWord (at done) ((44 ∷ 32 ∷ []) ++ argument_text pool vars x) ((44 ∷ 32 ∷ []) ++ argument_text pool vars x)
      (wants_comma frame (said_of vars (known (known k (variables_in done)) (variables_in (x ∷ []))) atoms) (opened (done ++ x ∷ [])))
      (at (done ++ x ∷ [])) refl
      (ap (λ n. wants_comma frame (said_of vars n atoms) (opened (done ++ x ∷ []))) (known-argument k done x))
      (Written-then tests EndsWord (at done) (44 ∷ []) (wants done) (32 ∷ argument_text pool vars x)
      (wants_comma frame (said_of vars (known (known k (variables_in done)) (variables_in (x ∷ []))) atoms) (opened (done ++ x ∷ [])))
      (sign_written tests (at done) (wants done) [] (44 ∷ []) Comma no_blank (λ rest. refl) (λ e. cc, λ e. cc)
      (inl (refl, inl (length_seam done x more atom.args (length atom.args) e (omega arith), refl))))
      (argument_written (known k (variables_in done)) atoms (opened done) x (32 ∷ []) one_blank
      (Turns-argument (Grows frame) (length vars) k done x more atom.args e turns)
      (All-seam (IsTextual pool IsShortText) done x more atom.args e textual))))
      41 [] last refl
      (sign_written tests (at atom.args) last [] (41 ∷ []) RightParen no_blank (λ rest. refl) (λ e. cc, λ e. cc)
      (inr (λ e. cc, inl (refl, inl (refl, refl)))))

  -- the name of an atom's relation passes
  relation_passes : (k : ℕ) (atoms : List Atom) (atom : Atom) → FitsRelation (relations_of rules (side_of frame)) atom → length atoms < 8
      → IsName (relation_name (relations_of rules (side_of frame)) atom.relation)
      × relation_tests rules frame (said_of vars k atoms) (record { kind = Name; text = relation_name (relations_of rules (side_of frame)) atom.relation })
      (goes (wants_parenthesis frame (said_of vars k atoms) (record { relation = atom.relation; width = length atom.args; args = [] })))
  relation_passes k atoms atom fits few =
      let relations = relations_of rules (side_of frame) in
      let found = relation_found relations atom (names_valid rules (side_of frame) names.relations) fits in
      let relation : Relation = found.0 in
      let named : relation_name relations atom.relation ≡ relation.name = relation_name_is relations atom.relation relation found.1 in
      let valid : IsRelation relation = found.3 in
      let has = has_name relations atom.relation relation found.1 in
      let first = first_named relations atom.relation relation (names_distinct rules (side_of frame) names.relations) found.1 in
      let opened : ℕ → RulePosition = λ width.
      wants_parenthesis frame (said_of vars k atoms) (record { relation = atom.relation; width = width; args = [] }) in
      let passes : relation_tests rules frame (said_of vars k atoms) (record { kind = Name; text = relation.name }) (goes (opened (length atom.args))) =
      inl (
        refl,
        inl (
          valid.name.word,
          inl (
            valid.name.most,
            inl (
              on_a_side rules (side_of frame) relation.name has,
              inl (
                has,
                inl (
                  few,
                  (atom.relation, relation, first, ap (λ n. goes (opened n)) found.2),
                ),
              ),
            ),
          ),
        ),
      ) in (
        subst IsName (sym named) valid.name,
        subst (λ name. relation_tests rules frame (said_of vars k atoms) (record { kind = Name; text = name }) (goes (opened (length atom.args)))) (sym named) passes,
      )

  -- a position at which an atom may begin
  pub record Begins (position : RulePosition) (said : Said) : Type 0 where
    pub enters : (name : List ℕ) (outcome : Outcome RulePosition) → name ≢ codes "exists"
        → relation_tests rules frame said (record { kind = Name; text = name }) outcome
        → rule_tests rules pool position (record { kind = Name; text = name }) outcome

  pub atom_begins : (said : Said) → Begins (wants_atom frame said) said
  atom_begins said = record { enters = λ name outcome other passes. passes }

  atom_written : (position : RulePosition) (k : ℕ) (atoms : List Atom) (atom : Atom) → Begins position (said_of vars k atoms)
      → FitsRelation (relations_of rules (side_of frame)) atom → length atoms < 8
      → Turns (Grows frame) (length vars) k (variables_in atom.args) → All (IsTextual pool IsShortText) atom.args
      → Written (rule_tests rules pool) Always position (32 ∷ atom_text pool (relations_of rules (side_of frame)) vars atom)
      (after_atom frame (said_of vars (known k (variables_in atom.args)) (atoms ++ atom ∷ [])))
  atom_written position k atoms atom begins fits few turns textual =
      let tests = rule_tests rules pool in
      let name = relation_name (relations_of rules (side_of frame)) atom.relation in
      let relation = relation_passes k atoms atom fits few in
      let opened : OpenAtom = record { relation = atom.relation; width = length atom.args; args = [] } in
      let said = said_of vars k atoms in
      let arguments = joined (codes ", ") (map (argument_text pool vars) atom.args) ++ codes ")" in
      let last = after_atom frame (said_of vars (known k (variables_in atom.args)) (atoms ++ atom ∷ [])) in
      Written-next tests Always position (32 ∷ name) (wants_parenthesis frame said opened) 40 arguments last
      (word_written tests position (wants_parenthesis frame said opened) (32 ∷ []) name one_blank (word_of_name name relation.0)
      (begins.enters name (goes (wants_parenthesis frame said opened)) relation.0.word relation.1))
      refl
      (Written-then tests Always (wants_parenthesis frame said opened) (40 ∷ []) (wants_argument frame said opened) arguments last
      (sign_written tests (wants_parenthesis frame said opened) (wants_argument frame said opened) [] (40 ∷ []) LeftParen no_blank
      (λ rest. refl) (λ e. cc, λ e. cc) (inl (refl, refl)))
      (arguments_written k atoms atom
      (some_arguments (relations_of rules (side_of frame)) atom (names_valid rules (side_of frame) names.relations) fits) turns textual))

  -- atoms behind a blank, where so many variables are known, and then what begins with no byte of a name
  pub atoms_written : (G : List ℕ → Type 0) (position : RulePosition) (k : ℕ) (atoms : List Atom) → Begins position (said_of vars k [])
      → AreAtoms (relations_of rules (side_of frame)) atoms → Turns (Grows frame) (length vars) k (occurrences atoms)
      → AreTextual pool IsShortText atoms → (c : ℕ) (tail : List ℕ) (last : RulePosition) → is_name_byte c ≡ false
      → Written (rule_tests rules pool) G (after_atom frame (said_of vars (known k (occurrences atoms)) atoms)) (c ∷ tail) last
      → Written (rule_tests rules pool) G position (32 ∷ (atoms_text pool (relations_of rules (side_of frame)) vars atoms ++ c ∷ tail)) last
  atoms_written G position k atoms begins are turns textual c tail last ends then =
      let tests = rule_tests rules pool in
      let relations = relations_of rules (side_of frame) in
      let said : List Atom → Said = λ done. said_of vars (known k (occurrences done)) done in
      let at : List Atom → RulePosition = λ done. after_atom frame (said done) in
      let one : (before : RulePosition) (done : List Atom) (x : Atom) (more : List Atom) → done ++ x ∷ more ≡ atoms → Begins before (said done)
      → Written tests Always before (32 ∷ atom_text pool relations vars x) (at (done ++ x ∷ [])) =
      λ before done x more e enters.
      Written-same tests Always before (32 ∷ atom_text pool relations vars x) (32 ∷ atom_text pool relations vars x)
      (after_atom frame (said_of vars (known (known k (occurrences done)) (variables_in x.args)) (done ++ x ∷ []))) (at (done ++ x ∷ [])) refl
      (ap (λ n. after_atom frame (said_of vars n (done ++ x ∷ []))) (known-atom k done x))
      (atom_written before (known k (occurrences done)) done x enters
      (All-seam (FitsRelation relations) done x more atoms e are.fit) (length_seam done x more atoms 8 e are.most)
      (Turns-atom (Grows frame) (length vars) k done x more atoms e turns)
      (All-seam (λ (a : Atom). All (IsTextual pool IsShortText) a.args) done x more atoms e textual)) in
      joined_written tests G (atom_text pool relations vars) at position (32 ∷ []) atoms 44 (32 ∷ []) refl are.some
      (λ x more e. Written-weaker tests Always EndsWord position (32 ∷ atom_text pool relations vars x) (at (x ∷ [])) (λ rest ends. tt)
      (one position [] x more e begins))
      (λ done x more e. Written-weaker tests Always EndsWord (at done) ((44 ∷ 32 ∷ []) ++ atom_text pool relations vars x) (at (done ++ x ∷ []))
      (λ rest ends. tt)
      (Written-then tests Always (at done) (44 ∷ []) (wants_atom frame (said done)) (32 ∷ atom_text pool relations vars x) (at (done ++ x ∷ []))
      (sign_written tests (at done) (wants_atom frame (said done)) [] (44 ∷ []) Comma no_blank (λ rest. refl) (λ e. cc, λ e. cc) (inl (refl, refl)))
      (one (wants_atom frame (said done)) done x more e (atom_begins (said done)))))
      c tail last ends then
