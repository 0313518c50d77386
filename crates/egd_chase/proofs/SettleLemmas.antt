-- Where settling stands after a turn.
use Rattle.std.proofs.Common.{◌≡◌, ℕ, zero, suc, ◌<◌, ◌≤◌, Option, Some, List, [], ◌∷◌, ◌++◌, length, refl, sym, subst, arith, All, Contains, IsSomeAnd, slice_get}
use Rattle.std.specs.List.{AllZip}
use Rattle.std.proofs.lemmas.List.Elements.{All-contains}
use Rattle.time_line.specs.Span.{Ends}
use Rattle.term_core.specs.declared.const_id.ConstId.{ConstId}
use Rattle.term_core.specs.Order.{id_cmp}
use Rattle.rule_core.specs.declared.rules.Egd.{Egd}
use Rattle.rule_core.specs.declared.rules.Relation.{Relation}
use Rattle.rule_core.specs.Terms.{TermOf}
use Rattle.rule_core.specs.Mapping.{RuleSet}
use Rattle.rule_core.specs.Validity.{IsEgd, IsValid}
use Rattle.body_match.specs.declared.found.Match.{Match}
use Rattle.body_match.proofs.ListLemmas.{zip_length}
use Rattle.body_match.proofs.SearchLemmas.{some_and}
use Rattle.failure_trace.specs.declared.journal.JournalStep.{JournalStep}
use Rattle.failure_trace.specs.JournalRun.{RowOf, Equates, Clashes, IsStep, step_terms}
use Rattle.null_store.specs.Store.{Store, facts_in}
use Rattle.egd_chase.specs.declared.search.Batch.{Batch}
use Rattle.egd_chase.specs.declared.search.Search.{Search}
use Rattle.egd_chase.specs.Search.{IsUnequalMatch, IsPartFor, ChangeOnly, HaveSpans, HasTaken}
use Rattle.egd_chase.specs.Shared.{KeepsShared}
use Rattle.egd_chase.specs.Sides.{IsConstantIn, match_terms}
use Rattle.egd_chase.specs.Steps.{IsUnderway, IsBatch, IsLower, NoneHas}
use Rattle.egd_chase.proofs.MatchBridge.{match_is_over, constants_clash}
use Rattle.egd_chase.proofs.MeasureLemmas.{steps_lower}
use Rattle.egd_chase.proofs.TurnLemmas.{step_more}
use Rattle.egd_chase.proofs.WaitLemmas.{parts_after}

-- a step that asks for two different constants
pub clash_of : (store : Store) (relations : List Relation) (egd : Egd) (is : IsEgd relations egd) (found : Match)
    → IsUnequalMatch store.rows egd found → IsConstantIn found egd.left × IsConstantIn found egd.right → (terms : List (TermOf ConstId)) (span : Ends)
    → terms ≡ match_terms store found → span ≡ found.span → Clashes (λ c. c) id_cmp (facts_in store) egd terms span
clash_of store relations egd is found h both terms span t s =
    subst (λ (x : Ends). Clashes (λ c. c) id_cmp (facts_in store) egd terms x) (sym s)
    (subst (λ (x : List (TermOf ConstId)). Clashes (λ c. c) id_cmp (facts_in store) egd x found.span) (sym t) (record {
      matches = match_is_over store egd found h.match;
      sides = constants_clash store relations egd is found h both;
    }))

pub is_some : {X : Type 0} (P : X → Type 0) (o : Option X) (x : X) → o ≡ Some x → P x → IsSomeAnd o P
is_some P o x e p = subst (λ w. IsSomeAnd w P) (sym e) p

module _ (rules : RuleSet) (valid : IsValid rules) (rows : List (RowOf ConstId)) (old new : Store) (before later : Search)
    (journal : List JournalStep) (way : IsUnderway rules rows old before journal) (changed : List ℕ)
    (taken : AllZip (HasTaken new.rows changed) before.parts.items later.parts.items) (limit : later.limit ≡ before.limit)
    (change : ChangeOnly changed old.rows new.rows) (shared : KeepsShared changed old.rows new.rows) (spans : HaveSpans new.rows)
    (step : JournalStep) (egd : Egd) (at : slice_get rules.egds step.egd ≡ Some egd)
    (equates : Equates (λ c. c) id_cmp (facts_in old) egd (step_terms step) step.span step.cuts (facts_in new)) where
  is_step : IsStep rules (facts_in old) step (facts_in new)
  is_step = is_some (λ (e : Egd). Equates (λ c. c) id_cmp (facts_in old) e (step_terms step) step.span step.cuts (facts_in new))
      (slice_get rules.egds step.egd) egd at equates

  pub underway_after : IsUnderway rules rows new later (journal ++ step ∷ []) × IsLower rows old new
  underway_after =
      let lower = steps_lower rules rows (facts_in old) (facts_in new) step valid way.from is_step in (
        record {
          run = step_more rules rows journal (facts_in old) (facts_in new) step way.run is_step;
          parts = parts_after old.rows new.rows changed change shared rules.egds before.parts.items later.parts.items way.parts taken;
          limit = subst (λ n. 1 ≤ n) (sym limit) way.limit;
          from = lower.0;
          spans = spans;
        },
        lower.1,
      )

-- there is a part for each egd
pub within_parts : (rules : RuleSet) (rows : List (RowOf ConstId)) (store : Store) (search : Search) (journal : List JournalStep)
    → IsUnderway rules rows store search journal → (k : ℕ) → k < length rules.egds → k < length search.parts.items
within_parts rules rows store search journal way k l =
    let size = zip_length (IsPartFor store.rows) rules.egds search.parts.items way.parts in
    omega (arith, size, l)

-- the measure is less still, after more matches
pub lower_on : (rows : List (RowOf ConstId)) (old mid new : Store) (n : ℕ) → (n ≡ 0 → mid ≡ old) → (0 < n → IsLower rows old mid)
    → IsLower rows mid new → IsLower rows old new
lower_on rows old mid new zero first lower more = subst (λ (store : Store). IsLower rows store new) (first refl) more
lower_on rows old mid new (suc n) first lower more = let l = lower (omega arith) in omega (arith, l, more)

-- a match of a batch is there at first
match_is_there : (rules : RuleSet) (store : Store) (batch : Batch) → IsBatch rules store batch → (found : Match) → Contains batch.found found
    → (numbers : List ℕ) → numbers ≡ found.rows → ¬ (NoneHas rules store batch.egd numbers)
match_is_there rules store batch is found c numbers same none =
    let egd = some_and (λ (e : Egd). All (IsUnequalMatch store.rows e) batch.found) (slice_get rules.egds batch.egd) is.each in
    none egd.0 found egd.1 (All-contains (IsUnequalMatch store.rows egd.0) batch.found found egd.2 c) (sym same)

-- a match that is passed over is none that is there at first
pub lower_still : (rules : RuleSet) (rows : List (RowOf ConstId)) (old mid new : Store) (batch : Batch) → IsBatch rules old batch → (found : Match)
    → Contains batch.found found → (numbers : List ℕ) → numbers ≡ found.rows → (n : ℕ) → (n ≡ 0 → mid ≡ old) → (0 < n → IsLower rows old mid)
    → new ≡ mid → NoneHas rules mid batch.egd numbers → IsLower rows old new
lower_still rules rows old mid new batch is found c numbers same zero first lower stays none =
    absurd (match_is_there rules old batch is found c numbers same
    (subst (λ (store : Store). NoneHas rules store batch.egd numbers) (first refl) none))
lower_still rules rows old mid new batch is found c numbers same (suc n) first lower stays none =
    subst (IsLower rows old) (sym stays) (lower (omega arith))
