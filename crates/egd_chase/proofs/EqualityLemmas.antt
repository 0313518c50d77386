-- A step of settling on a store, as a step of the journal.
use Rattle.std.proofs.Common.{◌≡◌, ◌++◌, ℕ, List, [], inl, inr, sym, subst, All, Contains}
use Rattle.std.specs.declared.result.Result.{Result}
use Rattle.std.specs.declared.result.Result.TheVariants.{Ok, Err}
use Rattle.std.specs.Result.{IfOk}
use Rattle.std.proofs.lemmas.List.Elements.{All-contains, Contains-append_cases}
use Rattle.std.proofs.lemmas.List.Sorted.{IsPermutation-refl}
use Rattle.time_line.specs.Span.{Ends}
use Rattle.term_core.specs.declared.const_id.ConstId.{ConstId}
use Rattle.term_core.specs.Order.{id_cmp}
use Rattle.rule_core.specs.declared.rules.Egd.{Egd}
use Rattle.rule_core.specs.Terms.{TermOf}
use Rattle.fact_table.specs.Rows.{row_at}
use Rattle.body_match.specs.declared.found.Match.{Match}
use Rattle.failure_trace.specs.declared.journal.CutNote.{CutNote}
use Rattle.failure_trace.specs.JournalRun.{CutInTurn, Equates, left_of, right_of}
use Rattle.null_store.specs.Store.{Store, facts_in}
use Rattle.egd_chase.specs.declared.cutting.Cutting.{Cutting}
use Rattle.egd_chase.specs.Search.{IsUnequalMatch, ChangeOnly, HaveSpans}
use Rattle.egd_chase.specs.Shared.{KeepsShared}
use Rattle.egd_chase.specs.Sides.{HoldsSide, Replaces, match_terms}
use Rattle.egd_chase.specs.Cutting.{IsCutTo}
use Rattle.egd_chase.proofs.MatchBridge.{match_is_over}
use Rattle.egd_chase.proofs.SharedLemmas.{keeps_none}
use Rattle.egd_chase.proofs.TurnLemmas.{sides_change}
use Rattle.egd_chase.proofs.WaitLemmas.{change_none, change_these, change_twice}

module _ (l r : TermOf ConstId) (c : Ends) where
  -- before any cut
  pub begun : (store : Store) (work : Cutting) → work.notes ≡ [] → work.made.items ≡ [] → HoldsSide store l c work.own
      → HoldsSide store r c work.other → HaveSpans store.rows → IsCutTo l r c store store work
  begun store work notes made own other spans = record {
    cuts = subst (λ n. CutInTurn (facts_in store) l r c n (facts_in store)) (sym notes) (IsPermutation-refl (facts_in store));
    own_held = own;
    other_held = other;
    spans = spans;
    only = change_none store.rows spans work.made.items;
    shared = keeps_none work.made.items store.rows;
  }

  -- where the sides have changed places
  pub swapped : (first now : Store) (work later : Cutting) → IsCutTo l r c first now work → later.own ≡ work.other → later.other ≡ work.own
      → later.notes ≡ work.notes → later.made.items ≡ work.made.items → IsCutTo r l c first now later
  swapped first now work later was own other notes made = record {
    cuts = subst (λ n. CutInTurn (facts_in first) r l c n (facts_in now)) (sym notes)
        (sides_change (facts_in first) l r c work.notes (facts_in now) was.cuts);
    own_held = subst (HoldsSide now r c) (sym own) was.other_held;
    other_held = subst (HoldsSide now l c) (sym other) was.own_held;
    spans = was.spans;
    only = subst (λ list. ChangeOnly list first.rows now.rows) (sym made) was.only;
    shared = subst (λ list. KeepsShared list first.rows now.rows) (sym made) was.shared;
  }

-- after the cuts and the replacement
pub equated : (egd : Egd) (old cut new : Store) (found : Match) (notes : List CutNote) → IsUnequalMatch old.rows egd found
    → CutInTurn (facts_in old) (left_of egd (match_terms old found)) (right_of egd (match_terms old found)) found.span notes (facts_in cut)
    → Replaces (left_of egd (match_terms old found)) (right_of egd (match_terms old found)) found.span cut new
    → Equates (λ c. c) id_cmp (facts_in old) egd (match_terms old found) found.span notes (facts_in new)
equated egd old cut new found notes m cuts replaces = record {
  matches = match_is_over old egd found m.match;
  replacement = replaces.replacement;
  sides = replaces.sides;
  cut = facts_in cut;
  cuts = cuts;
  left = replaces.left;
  right = replaces.right;
  replaced = replaces.replaced;
}

-- all rows but those that came or changed are as they were but for times
pub changed : (old cut new : Store) (made rows : List ℕ) → ChangeOnly made old.rows cut.rows → HaveSpans cut.rows
    → ((number : ℕ) → ¬ (Contains rows number) → row_at new.rows number ≡ row_at cut.rows number) → All (Contains rows) made
    → ChangeOnly rows old.rows new.rows
changed old cut new made rows only spans same within number out =
    change_twice rows rows old.rows cut.rows new.rows
    (λ n other. only n (λ there. other (All-contains (Contains rows) made n within there)))
    (change_these rows cut.rows new.rows spans same) number
    (λ there. out (either number there))
  where
    either : (n : ℕ) → Contains (rows ++ rows) n → Contains rows n
    either n there = elim (Contains-append_cases rows rows n there) [
      | inl k ↦ k
      | inr k ↦ k
    ]

-- what follows of a list from facts of it
pub if_ok : {T E : Type 0} {A B P : T → Type 0} (r : Result T E) → IfOk r A → IfOk r B → ((x : T) → A x → B x → P x) → IfOk r P
if_ok (Ok x) a b f = f x a b
if_ok (Err e) a b f = tt

pub if_ok_of_three : {T E : Type 0} {A B C P : T → Type 0} (r : Result T E) → IfOk r A → IfOk r B → IfOk r C
    → ((x : T) → A x → B x → C x → P x) → IfOk r P
if_ok_of_three (Ok x) a b c f = f x a b c
if_ok_of_three (Err e) a b c f = tt
