-- The steps of a trace that tell the firings at an instant: each is allowed, and they lead to the images of all heads.
use mathlib.Core.List.{map-map}
use Rattle.std.proofs.Common.{◌≡◌, ◌≢◌, ◌⊎◌, ◌↔◌, ℕ, suc, ◌-◌, ◌<◌, ℤ, Some, List, [], ◌∷◌, ◌++◌, map, drop, flat_map, length}
use Rattle.std.proofs.Common.{refl, sym, ap, ◌∙◌, subst, inl, inr, arith, All, AllPairs, Contains, slice_get, IsSomeAnd}
use Rattle.std.specs.Prelude.{slice_index_or}
use Rattle.std.specs.List.{range_with_len, AllZip}
use Rattle.std.specs.Option.{option_map_or, unwrap_or}
use Rattle.std.proofs.lemmas.Bool.{cases_lt}
use Rattle.std.proofs.lemmas.List.{append_assoc, drop-map, map-append, map-id, length-append, length-map}
use Rattle.std.proofs.lemmas.List.Elements.{All-contains, Contains-append_left, Contains-append_right, Contains-append_cases}
use Rattle.std.proofs.lemmas.List.Folds.{flat_map-map}
use Rattle.std.proofs.lemmas.List.FromFn.{length-range_with_len}
use Rattle.std.proofs.lemmas.Option.{slice_get-get_or, unwrap_or-slice_get}
use Rattle.time_line.specs.Span.{Has}
use Rattle.term_core.specs.declared.const_id.ConstId.{ConstId}
use Rattle.term_core.specs.declared.term.Unknown.{Unknown as HeldUnknown}
use Rattle.rule_core.specs.declared.rules.Atom.{Atom}
use Rattle.rule_core.specs.declared.rules.Tgd.{Tgd}
use Rattle.rule_core.specs.Terms.{TermOf, constant, unknown, FactOf, StampedOf}
use Rattle.rule_core.specs.Values.{unknown_value}
use Rattle.rule_core.specs.Mapping.{RuleSet}
use Rattle.rule_core.specs.Match.{image, Matches}
use Rattle.rule_core.specs.Snapshot.{snapshot_at}
use Rattle.rule_core.specs.Frontier.{Occurs}
use Rattle.rule_core.specs.Firing.{frontier_of, fired_term, fired_facts}
use Rattle.rule_core.specs.Renaming.{renamed_term, renamed_fact, renamed_facts}
use Rattle.rule_core.specs.Validity.{IsTgd, IsWithin, IsValid}
use Rattle.rule_core.specs.declared.rules.Arg.TheVariants.{Var}
use Rattle.rule_core.proofs.ListLemmas.{Contains-nil, Contains-head, Contains-cons, Contains-cons_cases, Contains-map, All-from_map, All-members}
use Rattle.rule_core.proofs.FiringLemmas.{occurs_to}
use Rattle.failure_trace.specs.declared.firing.Firing.{Firing}
use Rattle.failure_trace.specs.declared.firing.Support.{Support}
use Rattle.failure_trace.specs.declared.trace.Value.TheVariants.{Null}
use Rattle.failure_trace.specs.declared.trace.Bound.{Bound}
use Rattle.failure_trace.specs.declared.trace.StepKind.TheVariants.{Tgd as TgdStep}
use Rattle.failure_trace.specs.declared.trace.TraceStep.{TraceStep}
use Rattle.failure_trace.specs.Equating.{bound_to}
use Rattle.failure_trace.specs.Firings.{GivesConstants, Supports, IsSupported}
use Rattle.failure_trace.specs.Projected.{pool_text, number_among, exists_unknowns, unknowns_of, firing_values, Tells, TellsFiring}
use Rattle.failure_trace.specs.Projection.{traced_term, traced_facts}
use Rattle.failure_trace.specs.Trace.{term_of, IsUnknown, numbers_of, terms_in}
use Rattle.failure_trace.specs.TraceRun.{Instance, going, goes, FitsTgd, given_numbers, AreNew, with_head, step_tests, kind_tests, Pass}
use Rattle.failure_trace.proofs.TracedLemmas.{bound_traced}
use Rattle.egd_chase.proofs.ListLemmas.{same_map, chosen, in_list}
use Rattle.egd_chase.proofs.NumberOrder.{the_unknown, new_numbers}
use Rattle.egd_chase.proofs.FiredTerms.{image_told, images_told, fired_first, fired_other, bound_terms, constant_at, unknown_at, trace_number, bound_values, terms_told, behind_values, numbers_told, are_unknown}

-- the variables of a head are the tgd's
pub head_below : (rules : RuleSet) (tgd : Tgd) → IsTgd rules.sources rules.targets tgd → (v : ℕ) → Occurs tgd.head v → v < length tgd.vars
head_below rules tgd valid v o =
    let atom = All-contains (λ (a : Atom). All (IsWithin (length tgd.vars)) a.args) tgd.head o.1 valid.safe (o.0, o.2, o.3) in
    All-contains (IsWithin (length tgd.vars)) o.1.args (Var v) atom o.4

pub unknowns_are : (rules : RuleSet) (firing : Firing) (tgd : Tgd) → slice_get rules.tgds firing.rule ≡ Some tgd
    → unknowns_of rules firing ≡ exists_unknowns tgd firing
unknowns_are rules firing tgd e = ap (λ o. option_map_or (λ tgd. exists_unknowns tgd firing) o []) e

module _ (rules : RuleSet) (pool : List (List ℕ)) (all : List HeldUnknown) (source : List (StampedOf (FactOf ConstId))) (t : ℤ) where
  abbrev text : ConstId → List ℕ
  text = pool_text pool

  abbrev tell : TermOf ConstId → TermOf (List ℕ)
  tell = traced_term text (trace_number all)

  abbrev texts : List (FactOf (List ℕ))
  texts = renamed_facts text (snapshot_at source t)

  -- one firing, with the support that its step tells
  module _ (firing : Firing) (tgd : Tgd) (valid : IsTgd rules.sources rules.targets tgd) (support : Support)
      (supports : Supports source tgd firing.frontier support) (at : Has support.span t) where
    abbrev nothing : ConstId
    nothing = record { 0 = 0 }

    abbrev of_variable : ℕ → ConstId
    of_variable v = slice_index_or support.binding v nothing

    abbrev bound : List (TermOf ConstId)
    bound = bound_terms support.binding (exists_unknowns tgd firing)

    gives_frontier : map of_variable (frontier_of tgd) ≡ firing.frontier
    gives_frontier =
        same_map of_variable (λ v. unwrap_or (slice_get support.binding v) nothing)
        (λ v. sym (unwrap_or-slice_get support.binding v nothing)) (frontier_of tgd)
        ∙ sym (map-map (λ o. unwrap_or o nothing) (λ v. slice_get support.binding v) (frontier_of tgd))
        ∙ ap (map (λ o. unwrap_or o nothing)) supports.frontier
        ∙ map-map (λ o. unwrap_or o nothing) (λ c. Some c) firing.frontier
        ∙ map-id firing.frontier

    constant_bound : (v : ℕ) → v < tgd.body_vars → bound_to bound v ≡ constant (of_variable v)
    constant_bound v l = constant_at support.binding (exists_unknowns tgd firing) v (of_variable v)
        (slice_get-get_or support.binding v nothing (omega (arith, l, supports.size)))

    bound_size : length bound ≡ length tgd.vars
    bound_size =
        let n = length tgd.vars - tgd.body_vars in
        let one = length-append (map constant support.binding) (map (λ u. unknown (unknown_value u)) (exists_unknowns tgd firing)) in
        let two : length (map constant support.binding) ≡ length support.binding = length-map support.binding constant in
        let three = length-map (exists_unknowns tgd firing) (λ u. unknown (unknown_value u)) in
        let four = length-map (range_with_len 0 n) (the_unknown firing) in
        let five = length-range_with_len 0 n in
        omega (arith, one, two, three, four, five, supports.size, valid.within)

    told_bound : (v : ℕ) → v < length tgd.vars → bound_to (map tell bound) v ≡ tell (bound_to bound v)
    told_bound v l = bound_traced text (trace_number all) bound v (omega (arith, l, bound_size))

    -- the variables of the head stand for what they are bound to
    fired_bound : (v : ℕ) → Occurs tgd.head v → bound_to bound v ≡ fired_term firing.rule tgd firing.frontier v
    fired_bound v o = elim (cases_lt v tgd.body_vars) [
      | inl l ↦ constant_bound v l ∙ sym (fired_first firing.rule tgd of_variable firing.frontier gives_frontier v l o)
      | inr le ↦
          let below = head_below rules tgd valid v o in
          let k = v - tgd.body_vars in
          unknown_at support.binding (the_unknown firing) (length tgd.vars - tgd.body_vars) k v
          (omega (arith, le, supports.size)) (omega (arith, le, below))
          ∙ sym (fired_other firing.rule tgd of_variable firing.frontier gives_frontier v le)
    ]

    heads : map (image text (bound_to (map tell bound))) tgd.head
        ≡ traced_facts text (trace_number all) (fired_facts (λ c. c) firing.rule tgd firing.frontier)
    heads = images_told (λ c. c) text tell (λ c. refl) (fired_term firing.rule tgd firing.frontier) (bound_to (map tell bound)) tgd.head
        (λ v o. told_bound v (head_below rules tgd valid v o) ∙ ap tell (fired_bound v o))

    -- the body matches the source, told by texts
    gives : GivesConstants support.binding (bound_to bound)
    gives v c e = constant_at support.binding (exists_unknowns tgd firing) v c e

    body_value : (v : ℕ) → Occurs tgd.body v → bound_to (map tell bound) v ≡ renamed_term text (bound_to bound v)
    body_value v o =
        let l : v < tgd.body_vars = (valid.body_vars.same v).0 (occurs_to tgd.body v o) in
        let constant_there = constant_bound v l in
        told_bound v (omega (arith, l, valid.within)) ∙ ap tell constant_there ∙ ap (renamed_term text) (sym constant_there)

    matched : Matches text (bound_to (map tell bound)) tgd.body texts
    matched = All-members (λ atom. Contains (snapshot_at source t) (image (λ c. c) (bound_to bound) atom))
        (λ atom. Contains texts (image text (bound_to (map tell bound)) atom)) tgd.body
        (λ atom there c. subst (Contains texts)
        (sym (image_told (λ c. c) text (renamed_term text) (λ c. refl) (bound_to bound) (bound_to (map tell bound)) atom
        (λ v inside. body_value v (there.0, atom, there.1, there.2, inside))))
        (Contains-map (renamed_fact text) (snapshot_at source t) (image (λ c. c) (bound_to bound) atom) c))
        (supports.matches (bound_to bound) t gives at)

    -- the step that tells it
    module _ (step : TraceStep) (tells : Tells TgdStep tgd.name tgd.vars (firing_values pool all tgd firing support) step) where
      terms_are : terms_in step.binding ≡ map tell bound
      terms_are = sym (map-map term_of (λ (b : Bound). b.value) step.binding)
          ∙ ap (map term_of) tells.told
          ∙ terms_told pool all support.binding (exists_unknowns tgd firing)

      behind : map (λ (b : Bound). b.value) (drop tgd.body_vars step.binding) ≡ map (λ u. Null (number_among all u))
          (exists_unknowns tgd firing)
      behind = sym (drop-map (λ (b : Bound). b.value) tgd.body_vars step.binding)
          ∙ ap (drop tgd.body_vars) tells.told
          ∙ ap (λ n. drop n (bound_values pool all support.binding (exists_unknowns tgd firing))) (sym supports.size)
          ∙ behind_values pool all support.binding (exists_unknowns tgd firing)

      numbers_are : given_numbers tgd step.binding ≡ map (number_among all) (exists_unknowns tgd firing)
      numbers_are = sym (flat_map-map numbers_of (λ (b : Bound). b.value) (drop tgd.body_vars step.binding))
          ∙ ap (flat_map numbers_of) behind
          ∙ numbers_told pool all (exists_unknowns tgd firing)

      fits : FitsTgd tgd step.binding
      fits = (
        tells.names,
        All-from_map IsUnknown (λ (b : Bound). b.value) (drop tgd.body_vars step.binding)
            (subst (All IsUnknown) (sym behind) (are_unknown pool all (exists_unknowns tgd firing))),
      )

      pub fired_allowed : (held : Instance) → Contains rules.tgds tgd → AreNew held.used (given_numbers tgd step.binding)
          → step_tests text rules texts (going held) step (goes (going (with_head text tgd step.binding held)))
      fired_allowed held there new =
          subst (λ kind. kind_tests text rules texts kind held step (goes (going (with_head text tgd step.binding held))))
          (sym tells.kind_is)
          (inl (
            tgd,
            there,
            sym tells.rule_is,
            inl (
              fits,
              inl (
                subst (λ terms. Matches text (bound_to terms) tgd.body texts) (sym terms_are) matched,
                inl (new, refl),
              ),
            ),
          ))

      pub fired_adds : map (image text (bound_to (terms_in step.binding))) tgd.head
          ≡ traced_facts text (trace_number all) (fired_facts (λ c. c) firing.rule tgd firing.frontier)
      fired_adds = ap (λ terms. map (image text (bound_to terms)) tgd.head) terms_are ∙ heads

  -- the firing makes the fact, as it is told
  abbrev pub Makes : FactOf (List ℕ) → Firing → Type 0
  Makes fact firing = IsSomeAnd (slice_get rules.tgds firing.rule)
      (λ tgd. Contains (traced_facts text (trace_number all) (fired_facts (λ c. c) firing.rule tgd firing.frontier)) fact)

  -- where the steps of some firings lead to
  pub record Fires (held : Instance) (firings : List Firing) (steps : List TraceStep) : Type 0 where
    pub after : Instance
    pub pass : Pass text rules texts (going held) steps (going after)
    pub facts : (fact : FactOf (List ℕ)) → Contains after.facts fact
        ↔ (Contains held.facts fact ⊎ ((firing : Firing) × Contains firings firing × Makes fact firing))

  abbrev numbers_for : List Firing → List ℕ
  numbers_for firings = map (number_among all) (flat_map (unknowns_of rules) firings)

  pub fire : IsValid rules → (firings : List Firing) (steps : List TraceStep) (held : Instance)
      → All (IsSupported rules source) firings → AllPairs (λ a b. a ≢ b) (held.used ++ numbers_for firings)
      → AllZip (TellsFiring rules pool all t) firings steps → Fires held firings steps
  fire valid [] [] held supported distinct tell_them = record {
    after = held;
    pass = refl;
    facts = λ fact. (λ c. inl c, λ k. elim k [ inl c ↦ c | inr f ↦ absurd (Contains-nil f.0 f.1) ]);
  }
  fire valid [] (step ∷ steps) held supported distinct tell_them = absurd tell_them
  fire valid (firing ∷ firings) [] held supported distinct tell_them = absurd tell_them
  fire valid (firing ∷ firings) (step ∷ steps) held supported distinct tell_them =
      let one : TellsFiring rules pool all t firing step = tell_them.0 in
      let support = one.support in
      let own : IsSupported rules source firing = supported 0 firing (omega arith) in
      let k = chosen (λ tgd. Tells TgdStep tgd.name tgd.vars (firing_values pool all tgd firing support) step)
      (slice_get rules.tgds firing.rule) one.tells in
      let tgd : Tgd = k.0 in
      let there = in_list rules.tgds firing.rule tgd k.1 in
      let good = All-contains (IsTgd rules.sources rules.targets) rules.tgds tgd valid.rules.tgds there in
      let each : All (Supports source tgd firing.frontier) firing.supports =
      subst (λ o. IsSomeAnd o (λ g. All (Supports source g firing.frontier) firing.supports)) k.1 own.each in
      let supports = All-contains (Supports source tgd firing.frontier) firing.supports support each one.among in
      let numbers = numbers_are firing tgd good support supports one.at step k.2 in
      let mine = map (number_among all) (exists_unknowns tgd firing) in
      let split : numbers_for (firing ∷ firings) ≡ mine ++ numbers_for firings =
      map-append (number_among all) (unknowns_of rules firing) (flat_map (unknowns_of rules) firings)
      ∙ ap (λ us. map (number_among all) us ++ numbers_for firings) (unknowns_are rules firing tgd k.1) in
      let apart = subst (λ l. AllPairs (λ a b. a ≢ b) (held.used ++ l)) split distinct in
      let new = subst (AreNew held.used) (sym numbers) (new_numbers held.used mine (numbers_for firings) apart) in
      let next = with_head text tgd step.binding held in
      let used : held.used ++ (mine ++ numbers_for firings) ≡ next.used ++ numbers_for firings =
      sym (append_assoc held.used mine (numbers_for firings)) ∙ ap (λ l. (held.used ++ l) ++ numbers_for firings) (sym numbers) in
      let rest = fire valid firings steps next (λ n d l. supported (suc n) d (omega (arith, l)))
      (subst (AllPairs (λ a b. a ≢ b)) used apart) tell_them.1 in
      let adds = fired_adds firing tgd good support supports one.at step k.2 in
      let added = map (image text (bound_to (terms_in step.binding))) tgd.head in
      record {
        after = rest.after;
        pass = (going next, fired_allowed firing tgd good support supports one.at step k.2 held there new, rest.pass);
        facts = λ fact. (
          λ c. elim ((rest.facts fact).0 c) [
            | inl d ↦ elim (Contains-append_cases held.facts added fact d) [
              | inl old ↦ inl old
              | inr own_fact ↦ inr (
                firing,
                Contains-head firing firings,
                subst (λ o. IsSomeAnd o
                    (λ g. Contains (traced_facts text (trace_number all) (fired_facts (λ c. c) firing.rule g firing.frontier)) fact))
                    (sym k.1) (subst (λ l. Contains l fact) adds own_fact),
              )
            ]
            | inr f ↦ inr (f.0, Contains-cons firing f.0 firings f.1, f.2)
          ],
          λ m. elim m [
            | inl old ↦ (rest.facts fact).1 (inl (Contains-append_left held.facts added fact old))
            | inr f ↦ elim (Contains-cons_cases firing f.0 firings f.1) [
              | inl e ↦
                  let makes = subst (Makes fact) (sym e) f.2 in
                  let of_tgd : Contains (traced_facts text (trace_number all) (fired_facts (λ c. c) firing.rule tgd firing.frontier)) fact =
                  subst (λ o. IsSomeAnd o
                  (λ g. Contains
                  (traced_facts text (trace_number all) (fired_facts (λ c. c) firing.rule g firing.frontier)) fact)) k.1 makes in
                  (rest.facts fact).1 (inl (Contains-append_right held.facts added fact (subst (λ l. Contains l fact) (sym adds) of_tgd)))
              | inr d ↦ (rest.facts fact).1 (inr (f.0, d, f.2))
            ]
          ],
        );
      }
