-- A projected trace is accepted: its tgd steps make the firing facts, then each step of the journal is allowed, and then the clash.
use mathlib.Core.List.{map-map}
use Rattle.std.proofs.Common.{◌≡◌, ℕ, ◌-◌, ◌<◌, ℤ, Bool, true, false, cond, Some, List, [], ◌∷◌, ◌++◌, map, filter, length, get_or}
use Rattle.std.proofs.Common.{refl, sym, ap, ◌∙◌, subst, inl, inr, arith, All, Contains, IsPermutation, slice_get, IsSomeAnd}
use Rattle.std.specs.declared.cmp.Ordering.{Ordering}
use Rattle.std.specs.declared.cmp.Ordering.TheVariants.{Less, Equal, Greater}
use Rattle.std.specs.Cmp.Lexicographic.{slice_cmp}
use Rattle.std.specs.List.{range_with_len, AllZip}
use Rattle.std.specs.Ordering.{nat_cmp}
use Rattle.std.proofs.lemmas.Bool.{cases_lt}
use Rattle.std.proofs.lemmas.Cmp.{tied_itself, lists_total, nat_cmp_total}
use Rattle.std.proofs.lemmas.List.Elements.{All-contains, Contains-get_or}
use Rattle.std.proofs.lemmas.List.FromFn.{length-range_with_len, get_or-range_with_len}
use Rattle.std.proofs.lemmas.List.Sorted.{IsPermutation-sym}
use Rattle.std.proofs.lemmas.Option.{slice_get-get_or}
use Rattle.time_line.specs.Span.{Ends, Has, has}
use Rattle.term_core.specs.declared.const_id.ConstId.{ConstId}
use Rattle.term_core.specs.declared.term.Unknown.{Unknown as HeldUnknown}
use Rattle.term_core.specs.declared.term.Term.{Term}
use Rattle.term_core.specs.declared.term.Term.TheVariants.{Const as ConstTerm, Null as NullTerm}
use Rattle.term_core.specs.Order.{id_cmp}
use Rattle.term_core.specs.Pool.{IsPool}
use Rattle.term_core.proofs.OrderLemmas.{id_cmp-IsAntisymmetric}
use Rattle.term_core.proofs.PoolLemmas.{places_compare_alike}
use Rattle.rule_core.specs.declared.rules.Arg.{Arg}
use Rattle.rule_core.specs.declared.rules.Arg.TheVariants.{Var, Const as ConstArg}
use Rattle.rule_core.specs.declared.rules.Atom.{Atom}
use Rattle.rule_core.specs.declared.rules.Tgd.{Tgd}
use Rattle.rule_core.specs.declared.rules.Egd.{Egd}
use Rattle.rule_core.specs.Terms.{Unknown, numbered, named, TermOf, constant, unknown, FactOf, StampedOf}
use Rattle.rule_core.specs.Values.{unknown_value, term_value}
use Rattle.rule_core.specs.Mapping.{RuleSet}
use Rattle.rule_core.specs.Match.{value, image}
use Rattle.rule_core.specs.Order.{unknown_cmp}
use Rattle.rule_core.specs.Snapshot.{snapshot_at}
use Rattle.rule_core.specs.Homomorphism.{term_image}
use Rattle.rule_core.specs.Firing.{fired_term, fired_facts, Fires as FiresOnce, IsFiringFact}
use Rattle.rule_core.specs.Renaming.{renamed_fact, renamed_facts, renamed_stamped, HasUnknown, HoldTheSame}
use Rattle.rule_core.specs.Validity.{IsTgd, IsEgd, IsValid}
use Rattle.rule_core.specs.Frontier.{Occurs}
use Rattle.rule_core.proofs.ListLemmas.{Contains-nil, Contains-map, Contains-from_map, Contains-filter, Contains-from_filter}
use Rattle.rule_core.proofs.FiringLemmas.{occurs_from}
use Rattle.rule_core.proofs.SetLemmas.{Matches-within}
use Rattle.rule_core.proofs.SnapshotLemmas.{Decides-has}
use Rattle.rule_core.proofs.ToldLemmas.{bound_term}
use Rattle.failure_trace.specs.declared.firing.Firing.{Firing}
use Rattle.failure_trace.specs.declared.journal.CutNote.{CutNote}
use Rattle.failure_trace.specs.declared.journal.JournalStep.{JournalStep}
use Rattle.failure_trace.specs.declared.trace.Bound.{Bound}
use Rattle.failure_trace.specs.declared.trace.StepKind.{StepKind}
use Rattle.failure_trace.specs.declared.trace.StepKind.TheVariants.{Egd as EgdStep, Clash as ClashStep}
use Rattle.failure_trace.specs.declared.trace.TraceStep.{TraceStep}
use Rattle.failure_trace.specs.Equating.{Replacement, bound_to, if_equal, becomes, replaced_fact}
use Rattle.failure_trace.specs.Firings.{AreFirings, IsSupported, FiresOn}
use Rattle.failure_trace.specs.JournalRun.{RowOf, left_of, right_of, Equates, Clashes, step_terms, IsRun}
use Rattle.failure_trace.specs.Projected.{pool_text, IsInPool, told_value, firings_at, steps_at, unknowns_of, unknowns_at, Tells, TellsStep}
use Rattle.failure_trace.specs.Projection.{traced_term, traced_fact, traced_facts, AreInOrder, EquatesAll, ClashesOn, egd_step}
use Rattle.failure_trace.specs.Trace.{term_of, terms_in}
use Rattle.failure_trace.specs.TraceRun.{Instance, Stage, going, clashed, goes, start, text_cmp, step_tests, Pass}
use Rattle.failure_trace.proofs.SnapshotSteps.{shown, in_snapshot, step_shown, snapshot_matches}
use Rattle.failure_trace.proofs.ProjectionLemmas.{steps_are_traced, steps_stay_elsewhere, clashes_are_traced, equalities_are_allowed, clashes_are_allowed}
use Rattle.egd_chase.specs.Accepted.{HoldFiringFactsAt, ProjectedTracesAreAccepted}
use Rattle.egd_chase.proofs.ListLemmas.{chosen, in_list, in_flat_map}
use Rattle.egd_chase.proofs.StepMaps.{its_sides}
use Rattle.egd_chase.proofs.RunMaps.{shows_up_to_order}
use Rattle.egd_chase.proofs.NumberOrder.{number_order, distinct_numbers, the_unknown}
use Rattle.egd_chase.proofs.FiredTerms.{trace_number, fired_first, fired_other}
use Rattle.egd_chase.proofs.FiredSteps.{head_below, unknowns_are, Makes, Fires, fire}

-- instances as sets

same_sets_mapped : {C D : Type 0} (g : FactOf C → FactOf D) (a b : List (FactOf C)) → HoldTheSame a b → HoldTheSame (map g a) (map g b)
same_sets_mapped {C} {D} g a b same fact = (carried a b (λ x. (same x).0), carried b a (λ x. (same x).1))
  where
    carried : (a b : List (FactOf C)) → ((x : FactOf C) → Contains a x → Contains b x) → Contains (map g a) fact → Contains (map g b) fact
    carried a b f c = let k = Contains-from_map g a fact c in subst (Contains (map g b)) k.2 (Contains-map g b k.0 (f k.0 k.1))

snapshots_up_to_order : (state last : List (RowOf ConstId)) (t : ℤ) → IsPermutation state last
    → HoldTheSame (snapshot_at state t) (snapshot_at last t)
snapshots_up_to_order state last t p fact = (over state last p, over last state (IsPermutation-sym state last p))
  where
    over : (a b : List (RowOf ConstId)) → IsPermutation a b → Contains (snapshot_at a t) fact → Contains (snapshot_at b t) fact
    over a b p c = in_snapshot t b fact (shows_up_to_order t a b fact p (shown t a fact c))

-- the snapshot of a source that is told by other names
renamed_snapshot : {C D : Type 0} (to : C → D) (stamped : List (StampedOf (FactOf C))) (t : ℤ)
    → renamed_facts to (snapshot_at stamped t) ≡ snapshot_at (renamed_stamped to stamped) t
renamed_snapshot to [] t = refl
renamed_snapshot {C} {D} to (e ∷ stamped) t = by (has e.span t) (renamed_snapshot to stamped t)
  where
    by : (here : Bool) → renamed_facts to (snapshot_at stamped t) ≡ snapshot_at (renamed_stamped to stamped) t
        → renamed_facts to (map (λ (e : StampedOf (FactOf C)). e.row)
        (cond here (e ∷ filter (λ e. has e.span t) stamped) (filter (λ e. has e.span t) stamped)))
        ≡ map (λ (e : StampedOf (FactOf D)). e.row) (cond here (record { row = renamed_fact to e.row; span = e.span }
        ∷ filter (λ e. has e.span t) (renamed_stamped to stamped)) (filter (λ e. has e.span t) (renamed_stamped to stamped)))
    by true same = ap (λ rest. renamed_fact to e.row ∷ rest) same
    by false same = same

-- different constants with texts in a pool have different texts
texts_apart : (pool : List (List ℕ)) → IsPool pool → (c d : ConstId) → c.0 < length pool → d.0 < length pool
    → pool_text pool c ≡ pool_text pool d → c ≡ d
texts_apart pool is c d within inside e = id_cmp-IsAntisymmetric c d
    (places_compare_alike pool is.order c.0 d.0 (pool_text pool c) (pool_text pool d)
    (slice_get-get_or pool c.0 [] within) (slice_get-get_or pool d.0 [] inside)
    ∙ ap (λ x. slice_cmp nat_cmp x (pool_text pool d)) e
    ∙ tied_itself (lists_total nat_cmp_total) (pool_text pool d))

-- steps after each other
pass_append : (name : ConstId → List ℕ) (rules : RuleSet) (source : List (FactOf (List ℕ))) (first middle last : Stage)
    (xs ys : List TraceStep) → Pass name rules source first xs middle → Pass name rules source middle ys last
    → Pass name rules source first (xs ++ ys) last
pass_append name rules source first middle last [] ys a b = subst (λ s. Pass name rules source s ys last) a b
pass_append name rules source first middle last (x ∷ xs) ys a b =
    (a.0, a.1, pass_append name rules source a.0 middle last xs ys a.2 b)

module _ (rules : RuleSet) (valid : IsValid rules) (pool : List (List ℕ)) (all : List HeldUnknown) (source : List (FactOf (List ℕ)))
    (t : ℤ) where
  abbrev text : ConstId → List ℕ
  text = pool_text pool

  abbrev number : Unknown ConstId → ℕ
  number = trace_number all

  abbrev tell : TermOf ConstId → TermOf (List ℕ)
  tell = traced_term text number

  -- the unknown is one of those that are numbered
  abbrev IsKnown : Unknown ConstId → Type 0
  IsKnown (numbered n) = ⊥
  IsKnown (named rule frontier var) = Contains all (record { rule = rule; frontier = frontier; var = var })

  abbrev AreKnown : List (FactOf ConstId) → Type 0
  AreKnown facts = (u : Unknown ConstId) → HasUnknown facts u → IsKnown u

  in_order : (facts : List (FactOf ConstId)) → AreKnown facts → AreInOrder id_cmp facts number
  in_order facts known u w a b = order u w (known u a) (known w b)
    where
      order : (u w : Unknown ConstId) → IsKnown u → IsKnown w → nat_cmp (number u) (number w) ≡ unknown_cmp id_cmp u w
      order (numbered m) w k l = absurd k
      order (named r f v) (numbered n) k l = absurd l
      order (named r f v) (named s g w) k l = number_order all (record { rule = r; frontier = f; var = v })
          (record { rule = s; frontier = g; var = w }) k l

  same_known : (a b : List (FactOf ConstId)) → HoldTheSame a b → AreKnown a → AreKnown b
  same_known a b same known u h =
      let c = (same h.1).1 (h.0, h.2, h.3) in known u (c.0, h.1, c.1, c.2, h.4)

  -- a step leaves only unknowns that were there
  module _ (egd : Egd) (is : IsEgd rules.targets egd) (state after : List (RowOf ConstId)) (terms : List (TermOf ConstId)) (c : Ends)
      (notes : List CutNote) (step : Equates (λ k. k) id_cmp state egd terms c notes after) (at : Has c t) where
    abbrev r : Replacement ConstId
    r = step.replacement

    side_there : (v : ℕ) → v < length egd.vars → (u : Unknown ConstId) → bound_to terms v ≡ unknown u → HasUnknown (snapshot_at state t) u
    side_there v below u e =
        let matched = snapshot_matches (λ k. k) egd state terms c t step.matches at in
        let k = bound_term (λ k. k) (bound_to terms) egd.body (snapshot_at state t) v
        (occurs_from egd.body v ((is.body_vars.same v).1 below)) matched in
        (k.1.0, k.0, k.1.1, k.1.2, subst (Contains k.0.terms) e k.2)

    by_there : (u : Unknown ConstId) → r.by ≡ unknown u → HasUnknown (snapshot_at state t) u
    by_there u e = elim (its_sides id_cmp r (left_of egd terms) (right_of egd terms) step.sides) [
      | inl s ↦ side_there egd.right is.right u (s.1 ∙ e)
      | inr s ↦ side_there egd.left is.left u (s.0 ∙ e)
    ]

    step_known : AreKnown (snapshot_at state t) → AreKnown (snapshot_at after t)
    step_known known u h =
        let old = step_shown (λ k. k) id_cmp egd id_cmp-IsAntisymmetric state after terms c notes t step at h.1
        (shown t after h.1 (h.0, h.2, h.3)) in
        let there = in_snapshot t state old.0 old.1 in
        let inside = subst (λ (f : FactOf ConstId). Contains f.terms (unknown u)) (sym old.2) h.4 in
        let from = Contains-from_map (term_image (becomes id_cmp r)) old.0.terms (unknown u) inside in
        by_term from.0 from.1 from.2 there
      where
        by_test : (fact : FactOf ConstId) (w : Unknown ConstId) (o : Ordering) → Contains (snapshot_at state t) fact
            → Contains fact.terms (unknown w) → if_equal o r.by (unknown w) ≡ unknown u → IsKnown u
        by_test fact w Less there inside e =
            let same : w ≡ u = cc in subst IsKnown same (known w (there.0, fact, there.1, there.2, inside))
        by_test fact w Equal there inside e = known u (by_there u e)
        by_test fact w Greater there inside e =
            let same : w ≡ u = cc in subst IsKnown same (known w (there.0, fact, there.1, there.2, inside))

        by_term : {fact : FactOf ConstId} (x : TermOf ConstId) → Contains fact.terms x → term_image (becomes id_cmp r) x ≡ unknown u
            → Contains (snapshot_at state t) fact → IsKnown u
        by_term {fact} (constant k) inside e there = absurd cc
        by_term {fact} (unknown w) inside e there = by_test fact w (unknown_cmp id_cmp w r.gone) there inside e

  -- what a step of a trace binds, as terms
  told_all : (binding : List Term) → map term_of (map (told_value pool all) binding) ≡ map tell (map term_value binding)
  told_all [] = refl
  told_all (ConstTerm c ∷ binding) = ap (λ rest. constant (text c) ∷ rest) (told_all binding)
  told_all (NullTerm u ∷ binding) = ap (λ rest. unknown (numbered (number (unknown_value u))) ∷ rest) (told_all binding)

  abbrev TellsBy : StepKind → JournalStep → TraceStep → Egd → Type 0
  TellsBy kind told step egd = Tells kind egd.name egd.vars (map (told_value pool all) told.binding) step

  module _ (kind : StepKind) (told : JournalStep) (step : TraceStep) (egd : Egd) (tells : TellsBy kind told step egd) where
    terms_are : map tell (step_terms told) ≡ terms_in step.binding
    terms_are = sym (sym (map-map term_of (λ (b : Bound). b.value) step.binding) ∙ ap (map term_of) tells.told ∙ told_all told.binding)

    step_is : egd_step kind egd step.binding ≡ step
    step_is = λ i. record { kind = sym tells.kind_is i; rule = sym tells.rule_is i; binding = step.binding }

  -- the trace's facts are those of the state's snapshot
  abbrev Shown : Instance → List (RowOf ConstId) → Type 0
  Shown held state = HoldTheSame held.facts (traced_facts text number (snapshot_at state t))

  -- where the steps of a journal lead to
  pub record Settles (held : Instance) (steps : List TraceStep) (last : List (RowOf ConstId)) : Type 0 where
    pub after : Instance
    pub pass : Pass text rules source (going held) steps (going after)
    pub same : Shown after last
    pub known : AreKnown (snapshot_at last t)

  -- one step, at an instant of its span
  module _ (held : Instance) (state next : List (RowOf ConstId)) (same : Shown held state) (known : AreKnown (snapshot_at state t))
      (told : JournalStep) (step : TraceStep) (egd : Egd) (there : Contains rules.egds egd) (is : IsEgd rules.targets egd) where
    abbrev before : List (FactOf (List ℕ))
    before = traced_facts text number (snapshot_at state t)

    abbrev Allowed : Type 0
    Allowed = (facts : List (FactOf (List ℕ))) × HoldTheSame facts (traced_facts text number (snapshot_at next t))
        × step_tests text rules source (going held) step (goes (going (record held { facts = facts })))

    settled_step : Equates (λ k. k) id_cmp state egd (step_terms told) told.span told.cuts next → Has told.span t
        → TellsBy EgdStep told step egd → Allowed
    settled_step equates at tells =
        let all_equal = steps_are_traced (λ k. k) id_cmp text_cmp text number rules.targets egd id_cmp-IsAntisymmetric is state next
        (step_terms told) told.span told.cuts t equates (in_order (snapshot_at state t) known) at in
        let replaced = same_sets_mapped (replaced_fact text_cmp all_equal.replacement) held.facts before same in
        let now = traced_facts text number (snapshot_at next t) in
        let on_held : EquatesAll text text_cmp egd (map tell (step_terms told)) held.facts now = record {
          matches = Matches-within text (bound_to (map tell (step_terms told))) egd.body before held.facts
              (λ fact. (same fact).1) all_equal.matches;
          replacement = all_equal.replacement;
          sides = all_equal.sides;
          replaced = λ fact. (
            λ c. (all_equal.replaced fact).0 ((replaced fact).0 c),
            λ c. (replaced fact).1 ((all_equal.replaced fact).1 c),
          );
        } in
        let k = equalities_are_allowed text rules source egd step.binding held now there tells.names
        (subst (λ terms. EquatesAll text text_cmp egd terms held.facts now) (terms_are EgdStep told step egd tells) on_held) in (
          k.0,
          k.1,
          subst (λ s. step_tests text rules source (going held) s (goes (going (record held { facts = k.0 }))))
              (step_is EgdStep told step egd tells) k.2,
        )

    clash_step : Clashes (λ k. k) id_cmp state egd (step_terms told) told.span → Has told.span t → IsPool pool
        → All (IsInPool pool) told.binding → TellsBy ClashStep told step egd
        → step_tests text rules source (going held) step (goes clashed)
    clash_step clash at is_pool texts tells =
        let on = clashes_are_traced (λ k. k) id_cmp text number rules.targets egd is state (step_terms told) told.span t
        (λ c d a b e. texts_apart pool is_pool c d (within c a) (within d b) e) clash at in
        let on_held : ClashesOn text egd (map tell (step_terms told)) held.facts = record {
          matches = Matches-within text (bound_to (map tell (step_terms told))) egd.body before held.facts
              (λ fact. (same fact).1) on.matches;
          sides = on.sides;
        } in
        subst (λ s. step_tests text rules source (going held) s (goes clashed)) (step_is ClashStep told step egd tells)
        (clashes_are_allowed text rules source egd step.binding held there tells.names
        (subst (λ terms. ClashesOn text egd terms held.facts) (terms_are ClashStep told step egd tells) on_held))
      where
        by_term : (c : ConstId) (x : Term) → IsInPool pool x → term_value x ≡ constant c → c.0 < length pool
        by_term c (ConstTerm k) l e = let one : k ≡ c = cc in subst (λ (d : ConstId). d.0 < length pool) one l
        by_term c (NullTerm u) l e = absurd cc

        within : (c : ConstId) → Contains (step_terms told) (constant c) → c.0 < length pool
        within c there =
            let k = Contains-from_map term_value told.binding (constant c) there in
            by_term c k.0 (All-contains (IsInPool pool) told.binding k.0 texts k.1) k.2

  settle : (journal : List JournalStep) (steps : List TraceStep) (state last : List (RowOf ConstId)) (held : Instance)
      → IsRun rules state journal last → AreKnown (snapshot_at state t) → Shown held state
      → AllZip (TellsStep rules pool all EgdStep) (steps_at journal t) steps → Settles held steps last
  settle [] [] state last held run known same tells =
      let moved = snapshots_up_to_order state last t run in
      let told = same_sets_mapped (traced_fact text number) (snapshot_at state t) (snapshot_at last t) moved in
      record {
        after = held;
        pass = refl;
        same = λ fact. (λ c. (told fact).0 ((same fact).0 c), λ c. (same fact).1 ((told fact).1 c));
        known = same_known (snapshot_at state t) (snapshot_at last t) moved known;
      }
  settle [] (step ∷ steps) state last held run known same tells = absurd tells
  settle (told ∷ journal) steps state last held run known same tells =
      let k = chosen (λ egd. Equates (λ c. c) id_cmp state egd (step_terms told) told.span told.cuts run.0)
      (slice_get rules.egds told.egd) run.1 in
      by (has told.span t) refl steps tells k.0 k.1 k.2
      (λ steps held known same tells. settle journal steps run.0 last held run.2 known same tells)
    where
      by : (b : Bool) → has told.span t ≡ b → (steps : List TraceStep)
          → AllZip (TellsStep rules pool all EgdStep) (cond b (told ∷ steps_at journal t) (steps_at journal t)) steps
          → (egd : Egd) → slice_get rules.egds told.egd ≡ Some egd
          → Equates (λ c. c) id_cmp state egd (step_terms told) told.span told.cuts run.0
          → ((steps : List TraceStep) (held : Instance) → AreKnown (snapshot_at run.0 t) → Shown held run.0
          → AllZip (TellsStep rules pool all EgdStep) (steps_at journal t) steps → Settles held steps last)
          → Settles held steps last
      by true e [] tells egd there equates further = absurd tells
      by true e (step ∷ steps) tells egd there equates further =
          let at : Has told.span t = (Decides-has told.span t).0 e in
          let member = in_list rules.egds told.egd egd there in
          let is = All-contains (IsEgd rules.targets) rules.egds egd valid.rules.egds member in
          let told_by : TellsBy EgdStep told step egd = subst (λ o. IsSomeAnd o (TellsBy EgdStep told step)) there tells.0 in
          let one = settled_step held state run.0 same known told step egd member is equates at told_by in
          let rest = further steps (record held { facts = one.0 })
          (step_known egd is state run.0 (step_terms told) told.span told.cuts equates at known) one.1 tells.1 in
          record {
            after = rest.after;
            pass = (going (record held { facts = one.0 }), one.2, rest.pass);
            same = rest.same;
            known = rest.known;
          }
      by false e steps tells egd there equates further =
          let stays = steps_stay_elsewhere (λ c. c) id_cmp egd id_cmp-IsAntisymmetric state run.0
          (step_terms told) told.span told.cuts t equates
          (λ at. let no_more = sym e ∙ (Decides-has told.span t).1 at in absurd cc) in
          let moved = same_sets_mapped (traced_fact text number) (snapshot_at state t) (snapshot_at run.0 t) stays in
          further steps held (same_known (snapshot_at state t) (snapshot_at run.0 t) stays known)
          (λ fact. (λ c. (moved fact).0 ((same fact).0 c), λ c. (same fact).1 ((moved fact).1 c))) tells

-- the rows before the journal
module _ (rules : RuleSet) (valid : IsValid rules) (pool : List (List ℕ)) (source : List (StampedOf (FactOf ConstId)))
    (firings : List Firing)
    (t : ℤ) (are : AreFirings rules source firings) (rows : List (RowOf ConstId)) (hold : HoldFiringFactsAt rules source t rows) where
  abbrev numbered_here : List HeldUnknown
  numbered_here = unknowns_at rules firings t

  -- a firing fact, with the firing at the instant that makes it
  pub record IsMadeHere (fact : FactOf ConstId) : Type 0 where
    pub firing : Firing
    pub among : Contains (firings_at firings t) firing
    pub tgd : Tgd
    pub there : slice_get rules.tgds firing.rule ≡ Some tgd
    pub fires : FiresOnce (λ c. c) tgd (snapshot_at source t) firing.frontier
    pub makes : Contains (fired_facts (λ c. c) firing.rule tgd firing.frontier) fact

  at_instant : (f : Firing) → Contains firings f → Has f.span t → Contains (firings_at firings t) f
  at_instant f c h = Contains-filter (λ (g : Firing). has g.span t) firings f c ((Decides-has f.span t).1 h)

  made_here : (fact : FactOf ConstId) → Contains (snapshot_at rows t) fact → IsMadeHere fact
  made_here fact c =
      let k = (hold fact).0 c in
      let place = k.0 in
      let g = chosen (λ tgd. (values : List ConstId) × FiresOnce (λ c. c) tgd (snapshot_at source t) values
      × Contains (fired_facts (λ c. c) place tgd values) fact) (slice_get rules.tgds place) k.1 in
      let tgd : Tgd = g.0 in
      let values : List ConstId = g.2.0 in
      let f = (are.exact place values t).1
      (subst (λ o. IsSomeAnd o (λ tgd. FiresOnce (λ c. c) tgd (snapshot_at source t) values)) (sym g.1) g.2.1) in
      let rule : f.1.rule ≡ place = f.4.0 in
      let frontier : f.1.frontier ≡ values = f.4.1 in
      record {
        firing = f.1;
        among = at_instant f.1 (f.0, f.2, f.3) f.4.2;
        tgd = tgd;
        there = ap (slice_get rules.tgds) rule ∙ g.1;
        fires = subst (FiresOnce (λ c. c) tgd (snapshot_at source t)) (sym frontier) g.2.1;
        makes = subst (λ p. Contains (fired_facts (λ c. c) p tgd f.1.frontier) fact) (sym rule)
            (subst (λ vs. Contains (fired_facts (λ c. c) place tgd vs) fact) (sym frontier) g.2.2);
      }

  rows_known : AreKnown rules valid pool numbered_here (renamed_facts (pool_text pool) (snapshot_at source t)) t (snapshot_at rows t)
  rows_known u h = of_made h.1 (made_here h.1 (h.0, h.2, h.3)) h.4
    where
      Known : Unknown ConstId → Type 0
      Known = IsKnown rules valid pool numbered_here (renamed_facts (pool_text pool) (snapshot_at source t)) t

      fresh : (m : Firing) (tgd : Tgd) → Contains (firings_at firings t) m → slice_get rules.tgds m.rule ≡ Some tgd → (k : ℕ)
          → k < length tgd.vars - tgd.body_vars → Contains numbered_here (the_unknown m k)
      fresh m tgd among there k l =
          let n = length tgd.vars - tgd.body_vars in
          let size = length-range_with_len 0 n in
          let at = get_or-range_with_len 0 n k 0 l in
          let here : get_or (range_with_len 0 n) k 0 ≡ k = omega (arith, at) in
          let in_range = subst (Contains (range_with_len 0 n)) here (Contains-get_or (range_with_len 0 n) k 0 (omega (arith, size, l))) in
          in_flat_map (unknowns_of rules) (firings_at firings t) m (the_unknown m k) among
          (subst (λ us. Contains us (the_unknown m k)) (sym (unknowns_are rules m tgd there))
          (Contains-map (the_unknown m) (range_with_len 0 n) k in_range))

      by_arg : (fact : FactOf ConstId) (m : IsMadeHere fact) (atom : Atom) → Contains m.tgd.head atom → (arg : Arg) → Contains atom.args arg
          → value (λ c. c) (fired_term m.firing.rule m.tgd m.firing.frontier) arg ≡ unknown u → Known u
      by_arg fact m atom there (ConstArg c) inside e = absurd cc
      by_arg fact m atom there (Var v) inside e =
          let occurs : Occurs m.tgd.head v = (there.0, atom, there.1, there.2, inside) in
          let good = All-contains (IsTgd rules.sources rules.targets) rules.tgds m.tgd valid.rules.tgds
          (in_list rules.tgds m.firing.rule m.tgd m.there) in
          let below = head_below rules m.tgd good v occurs in
          elim (cases_lt v m.tgd.body_vars) [
            | inl l ↦
                let known = fired_first m.firing.rule m.tgd m.fires.0 m.firing.frontier m.fires.2 v l occurs in
                let both : constant (m.fires.0 v) ≡ unknown u = sym known ∙ e in absurd cc
            | inr le ↦
                let new = fired_other m.firing.rule m.tgd m.fires.0 m.firing.frontier m.fires.2 v le in
                let both : unknown (named m.firing.rule m.firing.frontier (v - m.tgd.body_vars)) ≡ unknown u = sym new ∙ e in
                let same : named m.firing.rule m.firing.frontier (v - m.tgd.body_vars) ≡ u = cc in
                subst Known same (fresh m.firing m.tgd m.among m.there (v - m.tgd.body_vars) (omega (arith, le, below)))
          ]

      of_made : (fact : FactOf ConstId) → IsMadeHere fact → Contains fact.terms (unknown u) → Known u
      of_made fact m c =
          let from = Contains-from_map (image (λ c. c) (fired_term m.firing.rule m.tgd m.firing.frontier)) m.tgd.head fact m.makes in
          let inside = subst (λ (f : FactOf ConstId). Contains f.terms (unknown u)) (sym from.2) c in
          let arg = Contains-from_map (value (λ c. c) (fired_term m.firing.rule m.tgd m.firing.frontier)) from.0.args (unknown u) inside in
          by_arg fact m from.0 from.1 arg.0 arg.1 arg.2

  -- what the firings make, as it is told, is what the rows show
  module _ (steps : List TraceStep)
      (fires : Fires rules pool numbered_here source t (record { facts = []; used = [] }) (firings_at firings t) steps) where
    abbrev number_of : Unknown ConstId → ℕ
    number_of = trace_number numbered_here

    abbrev told_facts : List (FactOf ConstId) → List (FactOf (List ℕ))
    told_facts = traced_facts (pool_text pool) number_of

    to_rows : (fact : FactOf (List ℕ)) (f : Firing) → Contains (firings_at firings t) f → Makes rules pool numbered_here source t fact f
        → Contains (told_facts (snapshot_at rows t)) fact
    to_rows fact f among makes =
        let k = Contains-from_filter (λ (g : Firing). has g.span t) firings f among in
        let at : Has f.span t = (Decides-has f.span t).0 k.1 in
        let g = chosen (λ tgd. Contains (told_facts (fired_facts (λ c. c) f.rule tgd f.frontier)) fact)
        (slice_get rules.tgds f.rule) makes in
        let on : FiresOn rules (snapshot_at source t) f.rule f.frontier = (are.exact f.rule f.frontier t).0
        (k.0.0, f, k.0.1, k.0.2, (refl, refl, at)) in
        let once = subst (λ o. IsSomeAnd o (λ tgd. FiresOnce (λ c. c) tgd (snapshot_at source t) f.frontier)) g.1 on in
        let own = Contains-from_map (traced_fact (pool_text pool) number_of) (fired_facts (λ c. c) f.rule g.0 f.frontier) fact g.2 in
        let is_fact : IsFiringFact (λ c. c) rules (snapshot_at source t) own.0 = (
          f.rule,
          subst (λ o. IsSomeAnd o (λ tgd. (values : List ConstId) × FiresOnce (λ c. c) tgd (snapshot_at source t) values
              × Contains (fired_facts (λ c. c) f.rule tgd values) own.0)) (sym g.1) (f.frontier, once, own.1),
        ) in
        subst (Contains (told_facts (snapshot_at rows t))) own.2
        (Contains-map (traced_fact (pool_text pool) number_of) (snapshot_at rows t) own.0 ((hold own.0).1 is_fact))

    from_rows : (fact : FactOf (List ℕ)) → Contains (told_facts (snapshot_at rows t)) fact → Contains fires.after.facts fact
    from_rows fact c =
        let own = Contains-from_map (traced_fact (pool_text pool) number_of) (snapshot_at rows t) fact c in
        let m = made_here own.0 own.1 in
        let told = subst (Contains (told_facts (fired_facts (λ c. c) m.firing.rule m.tgd m.firing.frontier))) own.2
        (Contains-map (traced_fact (pool_text pool) number_of)
        (fired_facts (λ c. c) m.firing.rule m.tgd m.firing.frontier) own.0 m.makes) in
        (fires.facts fact).1 (inr (
          m.firing,
          m.among,
          subst (λ o. IsSomeAnd o (λ tgd. Contains (told_facts (fired_facts (λ c. c) m.firing.rule tgd m.firing.frontier)) fact))
              (sym m.there) told,
        ))

    made_shown : HoldTheSame fires.after.facts (told_facts (snapshot_at rows t))
    made_shown fact = (
      λ c. elim ((fires.facts fact).0 c) [ inl d ↦ absurd (Contains-nil fact d) | inr f ↦ to_rows fact f.0 f.1 f.2 ],
      from_rows fact,
    )

pub projected_are_accepted : ProjectedTracesAreAccepted
projected_are_accepted rules pool source firings journal last t trace valid is_pool fails in_pool projected =
    let all = unknowns_at rules firings t in
    let text = pool_text pool in
    let texts = renamed_facts text (snapshot_at source t) in
    let are = fails.firings_are in
    let supported : All (IsSupported rules source) (firings_at firings t) = λ k d l.
    All-contains (IsSupported rules source) firings (get_or (firings_at firings t) k d) are.supported
    (Contains-from_filter (λ (g : Firing). has g.span t) firings (get_or (firings_at firings t) k d)
    (Contains-get_or (firings_at firings t) k d l)).0 in
    let fires = fire rules pool all source t valid (firings_at firings t) projected.fired (record { facts = []; used = [] }) supported
    (distinct_numbers rules firings t are.separate) projected.firings_are in
    let settles = settle rules valid pool all texts t journal projected.settled fails.rows fails.state fires.after fails.run
    (rows_known rules valid pool source firings t are fails.rows fails.rows_are)
    (made_shown rules valid pool source firings t are fails.rows fails.rows_are projected.fired fires) projected.journal_is in
    let k = chosen (λ egd. Clashes (λ c. c) id_cmp fails.state egd (step_terms last) last.span)
    (slice_get rules.egds last.egd) fails.clash.0 in
    let egd : Egd = k.0 in
    let member = in_list rules.egds last.egd egd k.1 in
    let is = All-contains (IsEgd rules.targets) rules.egds egd valid.rules.egds member in
    let told = subst (λ o. IsSomeAnd o
    (λ (egd : Egd). Tells ClashStep egd.name egd.vars (map (told_value pool all) last.binding) projected.clash)) k.1
    projected.last_is in
    let end = clash_step rules valid pool all texts t settles.after fails.state fails.state settles.same settles.known last projected.clash egd member is
    k.2 fails.at is_pool in_pool told in
    let steps = pass_append text rules texts start (going fires.after) clashed projected.fired
    (projected.settled ++ projected.clash ∷ []) fires.pass
    (pass_append text rules texts (going fires.after) (going settles.after) clashed projected.settled (projected.clash ∷ []) settles.pass
    (clashed, end, refl)) in
    subst (λ s. Pass text rules (snapshot_at (renamed_stamped text source) s) start trace.steps clashed) (sym projected.instant)
    (subst (λ facts. Pass text rules facts start trace.steps clashed) (renamed_snapshot text source t)
    (subst (λ l. Pass text rules texts start l clashed) (sym projected.steps) steps))
