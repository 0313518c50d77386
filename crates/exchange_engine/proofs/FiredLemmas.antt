-- Firings on the pieces of a source: they are those on the source, their rows are made of its constants, and they can be told.
use Rattle.std.proofs.Common.{◌≡◌, ℕ, ℤ, ◌<◌, List, length, get_or, map, refl, sym, ap, subst, All, Contains}
use Rattle.std.specs.Prelude.{slice_get, slice_index_or, IsPermutation}
use Rattle.std.proofs.lemmas.List.Elements.{All-contains, All-weaker, Contains-get_or}
use Rattle.std.proofs.lemmas.List.Sorted.{IsPermutation-sym, Contains-permutation}
use Rattle.std.proofs.lemmas.Option.{get_or_from_slice_get}
use Rattle.time_line.specs.Span.{HasInstant, Has}
use Rattle.term_core.specs.declared.const_id.ConstId.{ConstId}
use Rattle.rule_core.specs.declared.rules.Tgd.{Tgd}
use Rattle.rule_core.specs.Terms.{TermOf, constant, FactOf, StampedOf}
use Rattle.rule_core.specs.Mapping.{RuleSet}
use Rattle.rule_core.specs.Validity.{IsTgd, IsValid}
use Rattle.rule_core.specs.Snapshot.{snapshot_at}
use Rattle.rule_core.specs.Firing.{Fires}
use Rattle.rule_core.specs.Renaming.{HoldTheSame}
use Rattle.rule_core.proofs.SetLemmas.{Matches-within}
use Rattle.body_match.proofs.ListLemmas.{contains_from_at}
use Rattle.body_match.proofs.SearchLemmas.{some_and, and_some}
use Rattle.fact_table.specs.declared.fact.Fact.{Fact}
use Rattle.fact_table.specs.Snapshots.{snapshot_of, stamped_facts, with_terms}
use Rattle.normaliser.specs.Normalised.{HaveSameSnapshots}
use Rattle.failure_trace.specs.declared.firing.Firing.{Firing}
use Rattle.failure_trace.specs.declared.firing.Support.{Support}
use Rattle.failure_trace.specs.Firings.{FiresOn, Supports, IsSupported, AreFirings}
use Rattle.failure_trace.specs.JournalRun.{RowOf}
use Rattle.failure_trace.specs.Projected.{AreInPool, FitsBody, CanTellFiring}
use Rattle.failure_trace.proofs.SnapshotSteps.{in_snapshot}
use Rattle.tgd_chase.specs.Fired.{HoldFiringFacts}
use Rattle.tgd_chase.proofs.FiringSearchLemmas.{value_in}
use Rattle.tgd_chase.proofs.RowLemmas.{from_rows}
use Rattle.exchange_engine.specs.Loading.{LoadedOf, HasEachConstant}
use Rattle.exchange_engine.specs.Ran.{rows_for}
use Rattle.exchange_engine.proofs.MadeLemmas.{IsConstantBelow, HasConstantsBelow, IsMade, firing_fact_made}
use Rattle.exchange_engine.proofs.SourceLemmas.{fact_moves, constants_low}

-- the firings on a source that holds the same at every instant

abbrev Stamped : Type 0
Stamped = StampedOf (FactOf ConstId)

module _ (rules : RuleSet) (a b : List Stamped) (same : (t : ℤ) → HoldTheSame (snapshot_at a t) (snapshot_at b t)) where
  fires_move : (t : ℤ) (tgd : Tgd) (values : List ConstId) → Fires (λ c. c) tgd (snapshot_at a t) values
      → Fires (λ c. c) tgd (snapshot_at b t) values
  fires_move t tgd values f = (
    f.0,
    Matches-within (λ c. c) (λ v. constant (f.0 v)) tgd.body (snapshot_at a t) (snapshot_at b t) (λ fact. (same t fact).0) f.1,
    f.2,
  )

  fires_on_move : (t : ℤ) (rule : ℕ) (values : List ConstId) → FiresOn rules (snapshot_at a t) rule values
      → FiresOn rules (snapshot_at b t) rule values
  fires_on_move t rule values h =
      let s = some_and (λ (tgd : Tgd). Fires (λ c. c) tgd (snapshot_at a t) values) (slice_get rules.tgds rule) h in
      and_some (λ (tgd : Tgd). Fires (λ c. c) tgd (snapshot_at b t) values) (slice_get rules.tgds rule) s.0 s.1
      (fires_move t s.0 values s.2)

  support_moves : (tgd : Tgd) (values : List ConstId) (support : Support) → Supports a tgd values support → Supports b tgd values support
  support_moves tgd values support s = record {
    instant = s.instant;
    size = s.size;
    frontier = s.frontier;
    matches = λ binding t gives has.
        Matches-within (λ c. c) binding tgd.body (snapshot_at a t) (snapshot_at b t) (λ fact. (same t fact).0)
        (s.matches binding t gives has);
  }

  supported_moves : (firing : Firing) → IsSupported rules a firing → IsSupported rules b firing
  supported_moves firing s = record {
    each =
        let h = some_and (λ (tgd : Tgd). All (Supports a tgd firing.frontier) firing.supports)
        (slice_get rules.tgds firing.rule) s.each in
        and_some (λ (tgd : Tgd). All (Supports b tgd firing.frontier) firing.supports) (slice_get rules.tgds firing.rule) h.0 h.1
        (All-weaker (Supports a h.0 firing.frontier) (Supports b h.0 firing.frontier) (support_moves h.0 firing.frontier)
        firing.supports h.2);
    order = s.order;
    whole = s.whole;
  }

module _ (rules : RuleSet) (a b : List Stamped) (same : (t : ℤ) → HoldTheSame (snapshot_at a t) (snapshot_at b t)) where
  back : (t : ℤ) → HoldTheSame (snapshot_at b t) (snapshot_at a t)
  back t fact = ((same t fact).1, (same t fact).0)

  pub firings_move : (firings : List Firing) → AreFirings rules a firings → AreFirings rules b firings
  firings_move firings are = record {
    exact = λ rule values t. (
      λ fired. fires_on_move rules a b same t rule values ((are.exact rule values t).0 fired),
      λ fires. (are.exact rule values t).1 (fires_on_move rules b a back t rule values fires),
    );
    instants = are.instants;
    separate = are.separate;
    ordered = are.ordered;
    supported = All-weaker (IsSupported rules a) (IsSupported rules b) (supported_moves rules a b same) firings are.supported;
  }

-- rows that hold the firing facts of pieces hold those of the source
pub hold_moves : (rules : RuleSet) (table pieces : List Fact) (rows : List (RowOf ConstId)) → HaveSameSnapshots table pieces
    → HoldFiringFacts rules pieces rows → HoldFiringFacts rules table rows
hold_moves rules table pieces rows same hold t fact = (
  λ c. fact_moves rules (snapshot_of pieces t) (snapshot_of table t) (λ f. (same t f).1) fact ((hold t fact).0 c),
  λ k. (hold t fact).1 (fact_moves rules (snapshot_of table t) (snapshot_of pieces t) (λ f. (same t f).0) fact k),
)

-- what is loaded

module _ (loaded : LoadedOf) (valid : IsValid loaded.rules) (has : HasEachConstant loaded)
    (rows_are : stamped_facts loaded.table ≡ map with_terms loaded.table) where
  abbrev rules : RuleSet
  rules = loaded.rules

  abbrev size : ℕ
  size = length loaded.pool

  low : (t : ℤ) → All (HasConstantsBelow size) (snapshot_of loaded.table t)
  low t = constants_low loaded.table rows_are size has.facts t

  -- the rows of firings are made of constants of the pool and of unknowns
  pub rows_made : (firings : List Firing) (rows : List (RowOf ConstId)) → All (λ f. HasInstant f.span) firings
      → IsPermutation (rows_for loaded firings) rows → HoldFiringFacts rules loaded.table rows
      → All (λ row. IsMade rules size row.row) rows
  rows_made firings rows instants are hold k d l =
      let row = get_or rows k d in
      let there : Contains rows row = Contains-get_or rows k d l in
      let f = from_rows rules firings row (Contains-permutation rows (rows_for loaded firings) row
      (IsPermutation-sym (rows_for loaded firings) rows are) there) in
      let t = All-contains (λ (x : Firing). HasInstant x.span) firings f.0 instants f.1 in
      let shown = in_snapshot t.0 rows row.row (row, there, refl, subst (λ s. Has s t.0) (sym f.3) t.1) in
      firing_fact_made rules valid size has.rules (snapshot_of loaded.table t.0) (low t.0) row.row ((hold t.0 row.row).0 shown)

  -- a variable that is bound to a constant by a support is bound to one with a text
  support_low : (tgd : Tgd) → IsTgd rules.sources rules.targets tgd → (values : List ConstId) (support : Support)
      → Supports (stamped_facts loaded.table) tgd values support → AreInPool loaded.pool support.binding
  support_low tgd is values support s k d l =
      let c = get_or support.binding k d in
      let t = s.instant in
      let bound : ℕ → TermOf ConstId = λ v. constant (slice_index_or support.binding v d) in
      let matched = s.matches bound t.0 (λ v x e. ap constant (get_or_from_slice_get support.binding v x d e)) t.1 in
      let below : k < tgd.body_vars = subst (λ n. k < n) s.size l in
      let from = value_in (λ c. c) tgd.body (snapshot_of loaded.table t.0) bound matched k ((is.body_vars.same k).1 below) in
      let fact = All-contains (HasConstantsBelow size) (snapshot_of loaded.table t.0) from.0 (low t.0) from.1 in
      let term = All-contains (IsConstantBelow size) from.0.terms (constant c) fact from.2 in
      let is_it : constant c ≡ constant term.0 = term.1 in
      let same : c ≡ term.0 = cc in
      subst (λ (x : ConstId). x.0 < size) (sym same) term.2

  pub firings_told : (firings : List Firing) → AreFirings rules (stamped_facts loaded.table) firings → (t : ℤ)
      → All (CanTellFiring rules loaded.pool t) firings
  firings_told firings are t k d l =
      let firing = get_or firings k d in
      let supported = are.supported k d l in
      let s = some_and (λ (tgd : Tgd). All (Supports (stamped_facts loaded.table) tgd firing.frontier) firing.supports)
      (slice_get rules.tgds firing.rule) supported.each in
      let is = All-contains (IsTgd rules.sources rules.targets) rules.tgds s.0 valid.rules.tgds
      (contains_from_at rules.tgds firing.rule s.0 s.1) in (
        and_some (λ (tgd : Tgd). All (FitsBody loaded.pool tgd) firing.supports) (slice_get rules.tgds firing.rule) s.0 s.1
            (All-weaker (Supports (stamped_facts loaded.table) s.0 firing.frontier) (FitsBody loaded.pool s.0)
            (λ support h. (h.size, support_low s.0 is firing.frontier support h)) firing.supports s.2),
        λ at. (supported.whole t).0 at,
      )
