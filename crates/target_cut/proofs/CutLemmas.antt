-- The cut of a component, in a store that took room for it.
use Rattle.std.proofs.Common.{◌≡◌, ◌∙◌, ℕ, ℤ, Some, List, length, get_or, refl, sym, subst, All, IsPermutation}
use Rattle.std.specs.Prelude.{IsSome, IsSomeAnd}
use Rattle.std.proofs.lemmas.List.Elements.{Contains-get_or}
use Rattle.time_line.specs.Span.{Ends, IsInside, IsWithinLimit}
use Rattle.term_core.specs.declared.const_id.ConstId.{ConstId}
use Rattle.rule_core.specs.Terms.{TermOf}
use Rattle.rule_core.specs.Snapshot.{snapshot_at}
use Rattle.fact_table.specs.Rows.{SeenRow, row_at}
use Rattle.null_store.specs.Store.{Store, IsStore, facts_in}
use Rattle.null_store.specs.Changes.{HoldsSame, HasRoom}
use Rattle.null_store.specs.Splits.{CanSplit, SplitsRows, SplitsPieces, SplitsFacts, cells_of}
use Rattle.null_store.proofs.ListLemmas.{some_and}
use Rattle.failure_trace.specs.JournalRun.{Cuts}
use Rattle.target_cut.specs.Component.{IsComponentOf}
use Rattle.target_cut.specs.Cuts.{CutsComponent, IsSideOf}
use Rattle.target_cut.proofs.ComponentLemmas.{over_span, have_span, closed, once, inside}
use Rattle.target_cut.proofs.JournalLemmas.{journal}
use Rattle.target_cut.proofs.SameLemmas.{is_with_room, rows_before, pieces_before, facts_before}

module _ (old : Store) (ok : IsStore old) (from : ℕ) (m : ℤ) (at : IsSomeAnd (row_at old.rows from) (λ r. IsInside r.span m)) (numbers : List ℕ)
    (component : IsComponentOf old from numbers) where
  row : (r : SeenRow) × (row_at old.rows from ≡ Some r) × IsInside r.span m
  row = some_and (λ (r : SeenRow). IsInside r.span m) (row_at old.rows from) at

  pub present : All (λ number. IsSome (row_at old.rows number)) numbers
  present k d l =
      let it = over_span old ok from row.0 row.1 numbers component (get_or numbers k d) (Contains-get_or numbers k d l) in
      subst (λ o. IsSome o) (sym it.there) refl

  module _ (mid : Store) (same : HoldsSame old mid) where
    pub can_split : IsWithinLimit (Some m) → HasRoom mid (length numbers) (cells_of old.rows numbers) (cells_of old.rows numbers)
        → CanSplit mid numbers m
    can_split limit room = subst (λ (s : Store). CanSplit s numbers m) (sym (is_with_room old mid same)) (record {
      once = once old ok from row.0 row.1 numbers component;
      inside = inside old ok from row.0 row.1 numbers component m row.2;
      limit = limit;
      sharers = closed old ok from row.0 row.1 numbers component;
      room = record { rows = room.rows; cells = room.cells; pieces = room.pieces };
    })

    module _ (new : Store) where
      pub cuts : (made : List ℕ) → SplitsRows numbers m made mid new → SplitsPieces numbers m mid new → SplitsFacts numbers m mid new
          → new.names ≡ mid.names → CutsComponent from m (record { rows = numbers; made = made }) old new
      cuts made rows pieces facts names = record {
        component = component;
        span = have_span old ok from row.0 row.1 numbers component;
        rows = rows_before old mid new same numbers m made rows;
        pieces = pieces_before old mid new same numbers m pieces;
        facts = facts_before old mid new same numbers m facts;
        names = names ∙ same.names;
      }

      pub in_journal : SplitsFacts numbers m mid new → (term : TermOf ConstId) (c : Ends) → IsSideOf old from term c m
          → Cuts (facts_in old) term c (record { at = m; rows = length numbers }) (facts_in new)
      in_journal facts = journal old ok from row.0 row.1 m row.2 numbers component new (facts_before old mid new same numbers m facts)

      pub snapshots : ((t : ℤ) → IsPermutation (snapshot_at (facts_in mid) t) (snapshot_at (facts_in new) t)) → (t : ℤ)
          → IsPermutation (snapshot_at (facts_in old) t) (snapshot_at (facts_in new) t)
      snapshots h t = subst (λ (s : Store). IsPermutation (snapshot_at (facts_in s) t) (snapshot_at (facts_in new) t)) (is_with_room old mid same) (h t)
