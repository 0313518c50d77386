-- That candidates, merged, are the firings of a table.
use Rattle.std.proofs.Common.{◌≡◌, ℕ, ℤ, ◌+◌, Some, false, List, length, get_or, map, refl, sym, ap, ◌∙◌, subst, All, Contains, IsPermutation, IsSorted}
use Rattle.std.specs.Prelude.{slice_get, IsSomeAnd}
use Rattle.std.specs.declared.cmp.Ordering.{Ordering}
use Rattle.std.specs.declared.cmp.Ordering.TheVariants.{Less, Equal, Greater}
use Rattle.std.specs.Ordering.{nat_cmp, is_lt, ordering_then}
use Rattle.std.specs.Cmp.Lexicographic.{slice_cmp}
use Rattle.std.proofs.lemmas.List.Elements.{All-contains, All-weaker, Contains-get_or}
use Rattle.std.proofs.lemmas.List.Sorted.{Contains-permutation, IsPermutation-sym}
use Rattle.std.proofs.lemmas.Option.{get_or_from_slice_get}
use Rattle.time_line.specs.Span.{HasInstant, span_cmp}
use Rattle.term_core.specs.declared.const_id.ConstId.{ConstId}
use Rattle.term_core.specs.Order.{id_cmp}
use Rattle.rule_core.specs.declared.rules.Tgd.{Tgd}
use Rattle.rule_core.specs.Terms.{constant}
use Rattle.rule_core.specs.Mapping.{RuleSet}
use Rattle.rule_core.specs.Firing.{frontier_of, Fires}
use Rattle.fact_table.specs.declared.fact.Fact.{Fact}
use Rattle.body_match.proofs.SearchLemmas.{some_and, and_some, same_some}
use Rattle.fact_table.specs.Snapshots.{stamped_facts, snapshot_of}
use Rattle.failure_trace.specs.declared.firing.Firing.{Firing}
use Rattle.failure_trace.specs.declared.firing.Support.{Support}
use Rattle.failure_trace.specs.Firings.{FiresOn, Supports, IsSupported, AreFirings}
use Rattle.tgd_chase.specs.Fired.{HasMatchEnds, HaveMatchEnds}
use Rattle.tgd_chase.specs.Candidates.{IsCandidateOf, IsFoundAt, IsCandidate, AreCandidates}
use Rattle.tgd_chase.specs.Merging.{candidate_cmp, IsAlike, IsPart, IsMadeUp, AreMerged}
use Rattle.tgd_chase.specs.declared.candidates.Candidate.{Candidate}
use Rattle.tgd_chase.specs.contracts.candidates.CandidateOrd.TheImpl.{cmp-value}
use Rattle.tgd_chase.proofs.CandidateLemmas.{values_given}
use Rattle.tgd_chase.proofs.MergeLemmas.{HaveInstants}

module _ (rules : RuleSet) (table : List Fact) where
  -- what candidates are does not hang on their order
  pub candidates_moved : (xs ys : List Candidate) → IsPermutation xs ys → AreCandidates rules table xs → AreCandidates rules table ys
  candidates_moved xs ys moved h = record {
    each = λ k d l. All-contains (IsCandidate rules table) xs (get_or ys k d) h.each
        (Contains-permutation ys xs (get_or ys k d) (IsPermutation-sym xs ys moved) (Contains-get_or ys k d l));
    whole = λ rule values t fires.
        let f = h.whole rule values t fires in
        let c = Contains-permutation xs ys f.1 moved (f.0, f.2, f.3) in
        (c.0, f.1, c.1, c.2, f.4);
  }

  -- the tgd of a candidate, and what it is of it
  tgd_of : (c : Candidate) → IsCandidate rules table c
      → (tgd : Tgd) × (slice_get rules.tgds c.rule ≡ Some tgd) × IsCandidateOf table c.rule tgd c
  tgd_of c h = some_and (λ tgd. IsCandidateOf table c.rule tgd c) (slice_get rules.tgds c.rule) h

  module _ (all : List Candidate) (whole : AreCandidates rules table all) where
    pub have_instants : HaveInstants all
    have_instants = All-weaker (IsCandidate rules table) (λ c. HasInstant c.support.span) (λ c h. (tgd_of c h).2.supports.instant) all whole.each

    candidate_is : (c : Candidate) → Contains all c → IsCandidate rules table c
    candidate_is c there = All-contains (IsCandidate rules table) all c whole.each there

    -- where a candidate has an instant, its tgd fires
    fires_from_found : (rule : ℕ) (values : List ConstId) (t : ℤ) → IsFoundAt all rule values t
        → FiresOn rules (snapshot_of table t) rule values
    fires_from_found rule values t f =
        let c = f.1 in
        let of = tgd_of c (candidate_is c (f.0, f.2, f.3)) in
        let tgd = of.0 in
        let given = c.support.binding in
        let zero : ConstId = record { 0 = 0 } in
        let value : ℕ → ConstId = λ v. get_or given v zero in
        let gives : (v : ℕ) (x : ConstId) → slice_get given v ≡ Some x → value v ≡ x = λ v x e. get_or_from_slice_get given v x zero e in
        let fires : Fires (λ x. x) tgd (snapshot_of table t) values = (
          value,
          of.2.supports.matches (λ v. constant (value v)) t (λ v x e. ap constant (gives v x e)) f.4.2,
          values_given value given gives (frontier_of tgd) c.frontier of.2.supports.frontier ∙ f.4.1,
        ) in
        and_some (λ tgd. Fires (λ x. x) tgd (snapshot_of table t) values) (slice_get rules.tgds rule) tgd
        (ap (slice_get rules.tgds) (sym f.4.0) ∙ of.1) fires

    module _ (firing : Firing) (made : IsMadeUp all firing) where
      -- a candidate with the firing's key is one of the firing's tgd
      alike_is : (tgd : Tgd) → slice_get rules.tgds firing.rule ≡ Some tgd → (c : Candidate) → Contains all c → IsAlike firing c
          → Supports (stamped_facts table) tgd firing.frontier c.support × HasMatchEnds table tgd firing.frontier c.support.span
      alike_is tgd is c there alike =
          let of = tgd_of c (candidate_is c there) in
          let one = same_some (slice_get rules.tgds firing.rule) of.0 tgd (ap (slice_get rules.tgds) alike.0 ∙ of.1) is in
          subst (λ x. Supports (stamped_facts table) x firing.frontier c.support × HasMatchEnds table x firing.frontier c.support.span) one
          (subst (λ values. Supports (stamped_facts table) of.0 values c.support × HasMatchEnds table of.0 values c.support.span) (sym alike.1)
          (of.2.supports, of.2.ends))

      part_supports : (tgd : Tgd) → slice_get rules.tgds firing.rule ≡ Some tgd → (s : Support) → IsPart all firing s
          → Supports (stamped_facts table) tgd firing.frontier s
      part_supports tgd is s part =
          let w = (alike_is tgd is part.whole part.there part.alike).0 in
          record {
            instant = part.instant;
            size = ap length part.binding ∙ w.size;
            frontier = ap (λ xs. map (λ v. slice_get xs v) (frontier_of tgd)) part.binding ∙ w.frontier;
            matches = λ binding t gives has. w.matches binding t
                (λ v c e. gives v c (ap (λ xs. slice_get xs v) part.binding ∙ e)) (part.within t has);
          }

      part_ends : (tgd : Tgd) → slice_get rules.tgds firing.rule ≡ Some tgd → (s : Support) → IsPart all firing s
          → HasMatchEnds table tgd firing.frontier s.span
      part_ends tgd is s part m e =
          let from = part.ends m e in
          (alike_is tgd is from.0 from.1 from.2).1 m from.3

      -- its tgd is there
      own_tgd : (tgd : Tgd) × (slice_get rules.tgds firing.rule ≡ Some tgd)
      own_tgd =
          let of = tgd_of made.first.0 (candidate_is made.first.0 made.first.1) in
          (of.0, ap (slice_get rules.tgds) made.first.2.0 ∙ of.1)

      is_supported : IsSupported rules (stamped_facts table) firing
      is_supported = record {
        each = and_some (λ tgd. All (Supports (stamped_facts table) tgd firing.frontier) firing.supports) (slice_get rules.tgds firing.rule) own_tgd.0 own_tgd.1
            (All-weaker (IsPart all firing) (Supports (stamped_facts table) own_tgd.0 firing.frontier) (part_supports own_tgd.0 own_tgd.1) firing.supports made.each);
        order = made.order;
        whole = made.whole;
      }

      has_ends : IsSomeAnd (slice_get rules.tgds firing.rule) (λ tgd. All (λ s. HasMatchEnds table tgd firing.frontier s.span) firing.supports)
      has_ends =
          and_some (λ tgd. All (λ s. HasMatchEnds table tgd firing.frontier s.span) firing.supports) (slice_get rules.tgds firing.rule) own_tgd.0 own_tgd.1
          (All-weaker (IsPart all firing) (λ s. HasMatchEnds table own_tgd.0 firing.frontier s.span) (part_ends own_tgd.0 own_tgd.1) firing.supports made.each)

    pub ends_from_merged : (firings : List Firing) → AreMerged all firings → HaveMatchEnds rules table firings
    ends_from_merged firings merged = All-weaker (IsMadeUp all)
        (λ firing. IsSomeAnd (slice_get rules.tgds firing.rule) (λ tgd. All (λ s. HasMatchEnds table tgd firing.frontier s.span) firing.supports))
        has_ends firings merged.made

    pub firings_from_merged : (firings : List Firing) → AreMerged all firings → AreFirings rules (stamped_facts table) firings
    firings_from_merged firings merged = record {
      exact = λ rule values t. (
        λ h. fires_from_found rule values t ((merged.same rule values t).0 h),
        λ fires. (merged.same rule values t).1 (whole.whole rule values t fires),
      );
      instants = merged.instants;
      separate = merged.separate;
      ordered = merged.ordered;
      supported = All-weaker (IsMadeUp all) (IsSupported rules (stamped_facts table)) is_supported firings merged.made;
    }

-- the order of candidates

-- what is no less by one comparison more is no less without it
no_less : (u v : Ordering) → is_lt (ordering_then u v) ≡ false → is_lt u ≡ false
no_less Less v h = h
no_less Equal v h = refl
no_less Greater v h = refl

no_less_behind : (r u v : Ordering) → (is_lt (ordering_then u v) ≡ false → is_lt u ≡ false)
    → is_lt (ordering_then r (ordering_then u v)) ≡ false
    → is_lt (ordering_then r u) ≡ false
no_less_behind Less u v f h = h
no_less_behind Equal u v f h = f h
no_less_behind Greater u v f h = h

no_less_before : (r s u v : Ordering) → is_lt (ordering_then r (ordering_then s (ordering_then u v))) ≡ false
    → is_lt (ordering_then r (ordering_then s u)) ≡ false
no_less_before Less s u v h = h
no_less_before Equal s u v h = no_less_behind s u v (no_less u v) h
no_less_before Greater s u v h = h

-- candidates that the program has sorted are in order
pub sorted_by_key : (list : List Candidate) → IsSorted cmp-value.it list → IsSorted candidate_cmp list
sorted_by_key list sorted k d low h =
    let a = get_or list (k + 1) d in
    let b = get_or list k d in
    no_less_before (nat_cmp a.rule b.rule) (slice_cmp id_cmp a.frontier b.frontier) (span_cmp a.support.span b.support.span)
    (slice_cmp id_cmp a.support.binding b.support.binding) (sorted k d low h)
