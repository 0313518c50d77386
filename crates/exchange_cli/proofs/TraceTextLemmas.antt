-- What the trace run sees of rules and facts are their texts: rules by the numbers of another pool, on a source that holds the same
-- facts, come to the same verdict.
use Rattle.std.proofs.Common.{◌≡◌, ◌≢◌, ℕ, ◌+◌, List, [], ◌∷◌, ◌++◌, map, refl, sym, ap, ◌∙◌, subst, inl, inr, Contains}
use Rattle.std.proofs.lemmas.List.Elements.{All-map}
use Rattle.term_core.specs.declared.const_id.ConstId.{ConstId}
use Rattle.rule_core.specs.declared.rules.Arg.{Arg}
use Rattle.rule_core.specs.declared.rules.Arg.TheVariants.{Var, Const}
use Rattle.rule_core.specs.declared.rules.Atom.{Atom}
use Rattle.rule_core.specs.declared.rules.Egd.{Egd}
use Rattle.rule_core.specs.declared.rules.Tgd.{Tgd}
use Rattle.rule_core.specs.Terms.{TermOf, constant, FactOf}
use Rattle.rule_core.specs.Mapping.{RuleSet}
use Rattle.rule_core.specs.Match.{value, image, Matches}
use Rattle.rule_core.specs.Rebase.{renumbered_arg, renumbered_atom, renumbered_tgd, renumbered_egd, renumbered}
use Rattle.rule_core.specs.Renaming.{IsRuleConstant, HoldTheSame}
use Rattle.rule_core.proofs.ListLemmas.{Contains-head, Contains-cons, Contains-from_map, All-from_map, All-members}
use Rattle.failure_trace.specs.declared.trace.Bound.{Bound}
use Rattle.failure_trace.specs.declared.trace.StepKind.{StepKind}
use Rattle.failure_trace.specs.declared.trace.StepKind.TheVariants.{Tgd as TgdStep, Egd as EgdStep, Clash as ClashStep}
use Rattle.failure_trace.specs.declared.trace.TraceStep.{TraceStep}
use Rattle.failure_trace.specs.declared.why.Why.{Why}
use Rattle.failure_trace.specs.declared.why.Why.TheVariants.{K2, K3, K4, K6}
use Rattle.failure_trace.specs.Equating.{bound_to, AreClashing}
use Rattle.failure_trace.specs.Trace.{terms_in}
use Rattle.failure_trace.specs.TraceRun.{Instance, Stage, going, clashed, Outcome, goes, stops, Goes, Test, Named, FitsTgd, FitsEgd, AreNew, given_numbers, left_side, right_side, with_head, EquatesSides, kind_tests, step_tests, Pass, EndsOpen, FailsFrom}

-- a test of a fact that holds in both runs or in neither
test_read : (A B : Type 0) (F G : Outcome → Type 0) (why : Why) (outcome : Outcome) → (A → B) → (B → A) → (F outcome → G outcome)
    → Test A why F outcome → Test B why G outcome
test_read A B F G why outcome to from more (inl (holds, further)) = inl (to holds, more further)
test_read A B F G why outcome to from more (inr (fails, ends)) = inr (λ b. fails (from b), ends)

-- a rule with other numbers is found by its name where the rule is
named_read : {R : Type 0} (name_of : R → List ℕ) (number : R → R) → ((rule : R) → name_of (number rule) ≡ name_of rule)
    → (rules : List R) (name : List ℕ) (F G : R → Outcome → Type 0) (outcome : Outcome)
    → ((rule : R) → Contains rules rule → F (number rule) outcome → G rule outcome)
    → Named name_of (map number rules) name F outcome → Named name_of rules name G outcome
named_read name_of number keeps rules name F G outcome more (inl (rule, there, is, further)) =
    let from = Contains-from_map number rules rule there in
    inl (
      from.0,
      from.1,
      sym (keeps from.0) ∙ ap name_of from.2 ∙ is,
      more from.0 from.1 (subst (λ r. F r outcome) (sym from.2) further),
    )
named_read {R} name_of number keeps rules name F G outcome more (inr (none, ends)) =
    inr (
      All-members (λ (r : R). name_of (number r) ≢ name) (λ (r : R). name_of r ≢ name) rules (λ r there other is. other (keeps r ∙ is))
          (All-from_map (λ (r : R). name_of r ≢ name) number rules none),
      ends,
    )

module _ (name other : ConstId → List ℕ) (number : ConstId → ConstId) where
  -- the other number stands for the same text
  abbrev IsKept : ConstId → Type 0
  IsKept c = other (number c) ≡ name c

  -- and so each of the atoms' constants
  abbrev AreKept : List Atom → Type 0
  AreKept atoms = (atom : Atom) → Contains atoms atom → (c : ConstId) → Contains atom.args (Const c) → IsKept c

  values_kept : (b : ℕ → TermOf (List ℕ)) (args : List Arg) → ((c : ConstId) → Contains args (Const c) → IsKept c)
      → map (value other b) (map (renumbered_arg number) args) ≡ map (value name b) args
  values_kept b [] kept = refl
  values_kept b (Var v ∷ args) kept =
      ap (λ rest. b v ∷ rest) (values_kept b args (λ c there. kept c (Contains-cons (Var v) (Const c) args there)))
  values_kept b (Const d ∷ args) kept =
      let first = kept d (Contains-head (Const d) args) in
      let rest = values_kept b args (λ c there. kept c (Contains-cons (Const d) (Const c) args there)) in
      λ i. constant (first i) ∷ rest i

  -- an atom has one image
  image_kept : (b : ℕ → TermOf (List ℕ)) (atom : Atom) → ((c : ConstId) → Contains atom.args (Const c) → IsKept c)
      → image other b (renumbered_atom number atom) ≡ image name b atom
  image_kept b atom kept = λ i. record { relation = atom.relation; terms = values_kept b atom.args kept i }

  images_kept : (b : ℕ → TermOf (List ℕ)) (atoms : List Atom) → AreKept atoms
      → map (image other b) (map (renumbered_atom number) atoms) ≡ map (image name b) atoms
  images_kept b [] kept = refl
  images_kept b (atom ∷ atoms) kept =
      let first = image_kept b atom (kept atom (Contains-head atom atoms)) in
      let rest = images_kept b atoms (λ a there. kept a (Contains-cons atom a atoms there)) in
      λ i. first i ∷ rest i

  -- a body has the same matches in instances of which one holds the other's facts
  module _ (b : ℕ → TermOf (List ℕ)) (atoms : List Atom) (kept : AreKept atoms) (from to : List (FactOf (List ℕ))) where
    matches_read : ((fact : FactOf (List ℕ)) → Contains from fact → Contains to fact)
        → Matches other b (map (renumbered_atom number) atoms) from → Matches name b atoms to
    matches_read within m =
        All-members (λ atom. Contains from (image other b (renumbered_atom number atom))) (λ atom. Contains to (image name b atom)) atoms
        (λ atom there found. subst (λ fact. Contains to fact) (image_kept b atom (kept atom there))
        (within (image other b (renumbered_atom number atom)) found))
        (All-from_map (λ atom. Contains from (image other b atom)) (renumbered_atom number) atoms m)

    matches_loaded : ((fact : FactOf (List ℕ)) → Contains from fact → Contains to fact)
        → Matches name b atoms from → Matches other b (map (renumbered_atom number) atoms) to
    matches_loaded within m =
        All-map (λ atom. Contains to (image other b atom)) (renumbered_atom number) atoms
        (All-members (λ atom. Contains from (image name b atom)) (λ atom. Contains to (image other b (renumbered_atom number atom))) atoms
        (λ atom there found. subst (λ fact. Contains to fact) (sym (image_kept b atom (kept atom there)))
        (within (image name b atom) found)) m)

  module _ (rules : RuleSet) (kept : (c : ConstId) → IsRuleConstant rules c → IsKept c) (loaded source : List (FactOf (List ℕ)))
      (same : HoldTheSame loaded source) where
    body_kept : (tgd : Tgd) → Contains rules.tgds tgd → AreKept tgd.body
    body_kept tgd there atom at c h = kept c (inl (there.0, tgd, there.1, there.2, inl (at.0, atom, at.1, at.2, h)))

    head_kept : (tgd : Tgd) → Contains rules.tgds tgd → AreKept tgd.head
    head_kept tgd there atom at c h = kept c (inl (there.0, tgd, there.1, there.2, inr (at.0, atom, at.1, at.2, h)))

    egd_kept : (egd : Egd) → Contains rules.egds egd → AreKept egd.body
    egd_kept egd there atom at c h = kept c (inr (there.0, egd, there.1, there.2, (at.0, atom, at.1, at.2, h)))

    module _ (held : Instance) (binding : List Bound) (outcome : Outcome) where
      abbrev bound : ℕ → TermOf (List ℕ)
      bound = bound_to (terms_in binding)

      -- the tests of a tgd, behind its name
      tgd_read : (tgd : Tgd) → Contains rules.tgds tgd
          → Test (FitsTgd tgd binding) K2
          (Test (Matches other bound (map (renumbered_atom number) tgd.body) loaded) K3
          (Test (AreNew held.used (given_numbers tgd binding)) K4
          (Goes (going (with_head other (renumbered_tgd number tgd) binding held))))) outcome
          → Test (FitsTgd tgd binding) K2
          (Test (Matches name bound tgd.body source) K3
          (Test (AreNew held.used (given_numbers tgd binding)) K4
          (Goes (going (with_head name tgd binding held))))) outcome
      tgd_read tgd there =
          test_read (FitsTgd tgd binding) (FitsTgd tgd binding)
          (Test (Matches other bound (map (renumbered_atom number) tgd.body) loaded) K3
          (Test (AreNew held.used (given_numbers tgd binding)) K4
          (Goes (going (with_head other (renumbered_tgd number tgd) binding held)))))
          (Test (Matches name bound tgd.body source) K3
          (Test (AreNew held.used (given_numbers tgd binding)) K4
          (Goes (going (with_head name tgd binding held))))) K2 outcome (λ h. h) (λ h. h)
          (test_read (Matches other bound (map (renumbered_atom number) tgd.body) loaded) (Matches name bound tgd.body source)
          (Test (AreNew held.used (given_numbers tgd binding)) K4
          (Goes (going (with_head other (renumbered_tgd number tgd) binding held))))
          (Test (AreNew held.used (given_numbers tgd binding)) K4
          (Goes (going (with_head name tgd binding held)))) K3 outcome
          (matches_read bound tgd.body (body_kept tgd there) loaded source (λ fact. (same fact).0))
          (matches_loaded bound tgd.body (body_kept tgd there) source loaded (λ fact. (same fact).1))
          (test_read (AreNew held.used (given_numbers tgd binding)) (AreNew held.used (given_numbers tgd binding))
          (Goes (going (with_head other (renumbered_tgd number tgd) binding held)))
          (Goes (going (with_head name tgd binding held))) K4 outcome (λ h. h) (λ h. h)
          (λ is. is ∙ (λ i. goes (going (record {
            facts = held.facts ++ images_kept bound tgd.head (head_kept tgd there) i;
            used = held.used ++ given_numbers tgd binding;
          }))))))

      -- the tests of an egd, behind its name
      egd_read : (egd : Egd) → Contains rules.egds egd → (F : Outcome → Type 0)
          → Test (FitsEgd egd binding) K2 (Test (Matches other bound (map (renumbered_atom number) egd.body) held.facts) K3 F) outcome
          → Test (FitsEgd egd binding) K2 (Test (Matches name bound egd.body held.facts) K3 F) outcome
      egd_read egd there F =
          test_read (FitsEgd egd binding) (FitsEgd egd binding)
          (Test (Matches other bound (map (renumbered_atom number) egd.body) held.facts) K3 F)
          (Test (Matches name bound egd.body held.facts) K3 F) K2 outcome (λ h. h) (λ h. h)
          (test_read (Matches other bound (map (renumbered_atom number) egd.body) held.facts) (Matches name bound egd.body held.facts)
          F F K3 outcome
          (matches_read bound egd.body (egd_kept egd there) held.facts held.facts (λ fact c. c))
          (matches_loaded bound egd.body (egd_kept egd there) held.facts held.facts (λ fact c. c)) (λ f. f))

    -- a step of each kind
    kind_read : (kind : StepKind) (held : Instance) (step : TraceStep) (outcome : Outcome)
        → kind_tests other (renumbered number rules) loaded kind held step outcome → kind_tests name rules source kind held step outcome
    kind_read TgdStep held step outcome =
        named_read (λ (tgd : Tgd). tgd.name) (renumbered_tgd number) (λ tgd. refl) rules.tgds step.rule
        (λ tgd.
        Test (FitsTgd tgd step.binding) K2
        (Test (Matches other (bound_to (terms_in step.binding)) tgd.body loaded) K3
        (Test (AreNew held.used (given_numbers tgd step.binding)) K4
        (Goes (going (with_head other tgd step.binding held))))))
        (λ tgd.
        Test (FitsTgd tgd step.binding) K2
        (Test (Matches name (bound_to (terms_in step.binding)) tgd.body source) K3
        (Test (AreNew held.used (given_numbers tgd step.binding)) K4
        (Goes (going (with_head name tgd step.binding held)))))) outcome
        (λ tgd there. tgd_read held step.binding outcome tgd there)
    kind_read EgdStep held step outcome =
        named_read (λ (egd : Egd). egd.name) (renumbered_egd number) (λ egd. refl) rules.egds step.rule
        (λ egd.
        Test (FitsEgd egd step.binding) K2
        (Test (Matches other (bound_to (terms_in step.binding)) egd.body held.facts) K3
        (EquatesSides egd step.binding held)))
        (λ egd.
        Test (FitsEgd egd step.binding) K2
        (Test (Matches name (bound_to (terms_in step.binding)) egd.body held.facts) K3
        (EquatesSides egd step.binding held))) outcome
        (λ egd there. egd_read held step.binding outcome egd there (EquatesSides egd step.binding held))
    kind_read ClashStep held step outcome =
        named_read (λ (egd : Egd). egd.name) (renumbered_egd number) (λ egd. refl) rules.egds step.rule
        (λ egd.
        Test (FitsEgd egd step.binding) K2
        (Test (Matches other (bound_to (terms_in step.binding)) egd.body held.facts) K3
        (Test (AreClashing (left_side egd step.binding) (right_side egd step.binding)) K6
        (Goes clashed))))
        (λ egd.
        Test (FitsEgd egd step.binding) K2
        (Test (Matches name (bound_to (terms_in step.binding)) egd.body held.facts) K3
        (Test (AreClashing (left_side egd step.binding) (right_side egd step.binding)) K6
        (Goes clashed)))) outcome
        (λ egd there. egd_read held step.binding outcome egd there
        (Test (AreClashing (left_side egd step.binding) (right_side egd step.binding)) K6 (Goes clashed)))

    step_read : (stage : Stage) (step : TraceStep) (outcome : Outcome)
        → step_tests other (renumbered number rules) loaded stage step outcome → step_tests name rules source stage step outcome
    step_read (going held) step outcome tests = kind_read step.kind held step outcome tests
    step_read clashed step outcome tests = tests

    -- steps that are allowed
    pub pass_read : (stage : Stage) (steps : List TraceStep) (last : Stage)
        → Pass other (renumbered number rules) loaded stage steps last → Pass name rules source stage steps last
    pass_read stage [] last is = is
    pass_read stage (step ∷ steps) last (next, tests, rest) = (next, step_read stage step (goes next) tests, pass_read next steps last rest)

    ends_open : (stage : Stage) (why : Why) → EndsOpen other (renumbered number rules) loaded stage why → EndsOpen name rules source stage why
    ends_open (going held) why is = is
    ends_open clashed why is = is

    -- the first step that fails
    pub fails_read : (first : ℕ) (stage : Stage) (steps : List TraceStep) (at : ℕ) (why : Why)
        → FailsFrom other (renumbered number rules) loaded first stage steps at why → FailsFrom name rules source first stage steps at why
    fails_read first stage [] at why (is, open_end) = (is, ends_open stage why open_end)
    fails_read first stage (step ∷ steps) at why (inl (is, tests)) = inl (is, step_read stage step (stops why) tests)
    fails_read first stage (step ∷ steps) at why (inr (next, tests, rest)) =
        inr (next, step_read stage step (goes next) tests, fails_read (first + 1) next steps at why rest)
