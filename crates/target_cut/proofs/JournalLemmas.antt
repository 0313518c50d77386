-- The cut of a component, as the journal of a settling has it.
use Rattle.std.proofs.Common.{◌≡◌, inl, inr, ℕ, ℤ, suc, Option, Some, None, List, [], ◌∷◌, ◌++◌, length, map, get_or, refl, sym, ap, ◌∙◌, subst, All, Contains, IsPermutation}
use Rattle.std.specs.Prelude.{IsSomeAnd}
use Rattle.std.specs.List.{cons_option, filter_map}
use Rattle.std.specs.Option.{option_map, option_map_or}
use Rattle.std.proofs.lemmas.List.Elements.{All-contains, Contains-get_or}
use Rattle.std.proofs.lemmas.List.Sorted.{Contains-permutation, IsPermutation-sym, IsPermutation-trans}
use Rattle.rule_core.proofs.ListLemmas.{Contains-nil, Contains-head, Contains-cons, Contains-cons_cases, Contains-from_map, Contains-map}
use Rattle.time_line.specs.Span.{Ends, Has, IsInside}
use Rattle.term_core.specs.declared.const_id.ConstId.{ConstId}
use Rattle.term_core.specs.declared.term.Seen.{Seen}
use Rattle.term_core.specs.declared.term.Seen.TheVariants.{Const, Piece}
use Rattle.rule_core.specs.Terms.{Unknown, numbered, TermOf, unknown, FactOf, StampedOf}
use Rattle.rule_core.specs.Values.{unknown_value}
use Rattle.fact_table.specs.Rows.{SeenRow, row_at}
use Rattle.null_store.specs.Store.{Store, PieceOf, IsStore, IsLiveOver, piece_at, term_in, fact_in, facts_in}
use Rattle.null_store.specs.Splits.{SharePiece, SplitsFacts, facts_at, fact_over, part_before, part_after}
use Rattle.null_store.proofs.ListLemmas.{some_and, holds_at, held_at, map_alike}
use Rattle.null_store.proofs.LawLemmas.{one_cell}
use Rattle.failure_trace.specs.JournalRun.{Reaches, Share, HoldsTerm, IsComponent, Cuts, over}
use Rattle.failure_trace.specs.JournalRun.Reaches.{here, further}
use Rattle.target_cut.specs.Component.{IsComponentOf}
use Rattle.target_cut.specs.Cuts.{IsSideOf}
use Rattle.target_cut.proofs.CancelLemmas.{cancel}
use Rattle.target_cut.proofs.RestLemmas.{chosen_head, rest_of, rest_held, rest_apart, held_where}
use Rattle.target_cut.proofs.ReachLemmas.{all_reached}
use Rattle.target_cut.proofs.ComponentLemmas.{IsRowOver, share_over, over_span, closed, begins}

-- what is chosen by numbers
module _ {Y : Type 0} (g : ℕ → Option Y) where
  pub chosen_one : (ns : List ℕ) (n : ℕ) (y : Y) → Contains ns n → g n ≡ Some y → Contains (filter_map g ns) y
  chosen_one [] n y c e = absurd (Contains-nil n c)
  chosen_one (m ∷ ns) n y c e = elim (Contains-cons_cases m n ns c) [
    | inl same ↦ subst (λ (l : List Y). Contains l y) (sym (chosen_head g m ns y (ap g same ∙ e))) (Contains-head y (filter_map g ns))
    | inr d ↦ later (g m) (chosen_one ns n y d e)
  ]
    where
      later : (o : Option Y) → Contains (filter_map g ns) y → Contains (cons_option o (filter_map g ns)) y
      later None h = h
      later (Some z) h = Contains-cons z y (filter_map g ns) h

  pub chosen_from : (ns : List ℕ) (y : Y) → Contains (filter_map g ns) y → (n : ℕ) × Contains ns n × (g n ≡ Some y)
  chosen_from [] y c = absurd (Contains-nil y c)
  chosen_from (m ∷ ns) y c = by (g m) refl c (λ d. chosen_from ns y d)
    where
      by : (o : Option Y) → g m ≡ o → Contains (cons_option o (filter_map g ns)) y
          → (Contains (filter_map g ns) y → (n : ℕ) × Contains ns n × (g n ≡ Some y)) → (n : ℕ) × Contains (m ∷ ns) n × (g n ≡ Some y)
      by None e d later = let rest = later d in (rest.0, Contains-cons m rest.0 ns rest.1, rest.2)
      by (Some z) e d later = elim (Contains-cons_cases z y (filter_map g ns) d) [
        | inl same ↦ (m, Contains-head m ns, e ∙ ap Some same)
        | inr f ↦ (let rest = later f in (rest.0, Contains-cons m rest.0 ns rest.1, rest.2))
      ]

  pub chosen_size : (ns : List ℕ) → ((n : ℕ) → Contains ns n → (y : Y) × (g n ≡ Some y)) → length ns ≡ length (filter_map g ns)
  chosen_size [] there = refl
  chosen_size (n ∷ ns) there =
      let first = there n (Contains-head n ns) in
      ap suc (chosen_size ns (λ m c. there m (Contains-cons n m ns c))) ∙ ap length (sym (chosen_head g n ns first.0 first.1))

pub option_from_map : {X Y : Type 0} (f : X → Y) (o : Option X) (y : Y) → option_map f o ≡ Some y → (x : X) × (o ≡ Some x) × (f x ≡ y)
option_from_map f None y e = absurd cc
option_from_map f (Some x) y e = (x, refl, cc)

-- a term that is an unknown is that of a piece
pub piece_of : (store : Store) (x : Seen) (u : Unknown ConstId) → term_in store x ≡ unknown u → (p : ℕ) × (x ≡ Piece p)
piece_of store (Const c) u e = absurd cc
piece_of store (Piece p) u e = (p, refl)

module _ (store : Store) (ok : IsStore store) where
  -- rows that share a piece over a span share its unknown
  pub share_unknown : (t : ℤ) (a b : ℕ) (ra rb : SeenRow) → row_at store.rows a ≡ Some ra → row_at store.rows b ≡ Some rb → Has ra.span t
      → Has rb.span t → SharePiece store a b → Share (fact_in store ra) (fact_in store rb)
  share_unknown t a b ra rb at_a at_b has_a has_b share =
      let in_a = holds_at (λ (r : SeenRow). Contains r.cells (Piece share.0)) (row_at store.rows a) ra at_a share.1 in
      let in_b = holds_at (λ (r : SeenRow). Contains r.cells (Piece share.0)) (row_at store.rows b) rb at_b share.2 in
      let live = All-contains (IsLiveOver store ra.span) ra.cells (Piece share.0) (ok.live a ra at_a) in_a in
      let p = some_and (λ (q : PieceOf). q.span ≡ ra.span) (piece_at store share.0) live in
      let u : Unknown ConstId = unknown_value p.0.unknown in
      let term : term_in store (Piece share.0) ≡ unknown u =
      ap (λ (o : Option PieceOf). option_map_or (λ q. unknown (unknown_value q.unknown)) o (unknown (numbered share.0))) p.1 in (
        u,
        subst (Contains (map (term_in store) ra.cells)) term (Contains-map (term_in store) ra.cells (Piece share.0) in_a),
        subst (Contains (map (term_in store) rb.cells)) term (Contains-map (term_in store) rb.cells (Piece share.0) in_b),
        (t, has_a, has_b),
      )

  -- rows that share an unknown share its piece
  pub share_piece : (a b : ℕ) (ra rb : SeenRow) → row_at store.rows a ≡ Some ra → row_at store.rows b ≡ Some rb
      → Share (fact_in store ra) (fact_in store rb) → SharePiece store a b
  share_piece a b ra rb at_a at_b share =
      let x = Contains-from_map (term_in store) ra.cells (unknown share.0) share.1 in
      let y = Contains-from_map (term_in store) rb.cells (unknown share.0) share.2 in
      let p = piece_of store x.0 share.0 x.2 in
      let live_x = All-contains (IsLiveOver store ra.span) ra.cells x.0 (ok.live a ra at_a) x.1 in
      let live_y = All-contains (IsLiveOver store rb.span) rb.cells y.0 (ok.live b rb at_b) y.1 in
      let same : x.0 ≡ y.0 = one_cell store ok ra.span rb.span share.3 x.0 y.0 live_x live_y (x.2 ∙ sym y.2) in (
        p.0,
        subst (λ (o : Option SeenRow). IsSomeAnd o (λ r. Contains r.cells (Piece p.0))) (sym at_a) (subst (Contains ra.cells) p.1 x.1),
        subst (λ (o : Option SeenRow). IsSomeAnd o (λ r. Contains r.cells (Piece p.0))) (sym at_b) (subst (Contains rb.cells) (sym same ∙ p.1) y.1),
      )

  module _ (from : ℕ) (row : SeenRow) (at : row_at store.rows from ≡ Some row) (m : ℤ) (inside : IsInside row.span m) (numbers : List ℕ)
      (component : IsComponentOf store from numbers) where
    abbrev facts : List (StampedOf (FactOf ConstId))
    facts = facts_at store numbers

    abbrev choose : ℕ → Option (StampedOf (FactOf ConstId))
    choose number = option_map (fact_in store) (row_at store.rows number)

    in_facts : (number : ℕ) (r : SeenRow) → Contains numbers number → row_at store.rows number ≡ Some r → Contains facts (fact_in store r)
    in_facts number r c e = chosen_one choose numbers number (fact_in store r) c (ap (option_map (fact_in store)) e)

    -- what is said of each row of the component holds of its facts
    from_facts : (P : StampedOf (FactOf ConstId) → Type 0)
        → ((number : ℕ) (r : SeenRow) → Contains numbers number → row_at store.rows number ≡ Some r → P (fact_in store r)) → All P facts
    from_facts P h k d l =
        let fact = get_or facts k d in
        let chosen = chosen_from choose numbers fact (Contains-get_or facts k d l) in
        let r = option_from_map (fact_in store) (row_at store.rows chosen.0) fact chosen.2 in
        subst P r.2 (h chosen.0 r.0 chosen.1 r.1)

    has_all : (number : ℕ) (r : SeenRow) → Contains numbers number → row_at store.rows number ≡ Some r → r.span ≡ row.span
    has_all number r c e =
        let it = over_span store ok from row at numbers component number c in
        let both : Some it.row ≡ Some r = sym it.there ∙ e in
        let same : it.row ≡ r = cc in
        ap (λ (w : SeenRow). w.span) (sym same) ∙ it.over

    record IsOnTheWay (number : ℕ) : Type 0 where
      listed : Contains numbers number
      over_it : IsRowOver store row.span number
      leads : (r : SeenRow) → row_at store.rows number ≡ Some r
          → Reaches (λ a b. Contains facts b × Share a b) (fact_in store row) (fact_in store r)

    starts : IsOnTheWay from
    starts = record {
      listed = begins store ok from row at numbers component;
      over_it = record { row = row; there = at; over = refl };
      leads = λ r e.
          let both : Some row ≡ Some r = sym at ∙ e in
          let same : row ≡ r = cc in
          subst (λ (w : SeenRow). Reaches (λ a b. Contains facts b × Share a b) (fact_in store row) (fact_in store w)) same here;
    }

    goes_on : (a b : ℕ) → IsOnTheWay a → SharePiece store a b → IsOnTheWay b
    goes_on a b way share =
        let listed = closed store ok from row at numbers component a b way.listed share in
        let it = way.over_it in
        let has : (r : SeenRow) → r.span ≡ row.span → Has r.span m = λ r e. subst (λ (s : Ends). Has s m) (sym e) inside.0 in
        record {
          listed = listed;
          over_it = share_over store ok row.span a b it share;
          leads = λ r e. further (fact_in store it.row) (fact_in store r) (way.leads it.row it.there) (
            in_facts b r listed e,
            share_unknown m a b it.row r it.there e (has it.row it.over) (has r (has_all b r listed e)) share,
          );
        }

    module _ (new : Store) (splits : SplitsFacts numbers m store new) where
      -- the others are the facts of other rows
      others_held : (fact : StampedOf (FactOf ConstId)) → Contains splits.others fact
          → (number : ℕ) × (r : SeenRow) × (row_at store.rows number ≡ Some r) × ¬ (Contains numbers number) × (fact_in store r ≡ fact)
      others_held fact c =
          let there : (n : ℕ) → Contains numbers n → (r : SeenRow) × (held_at store.rows n ≡ Some r) = λ n d.
          let it = over_span store ok from row at numbers component n d in (it.row, it.there) in
          let split = rest_apart (fact_in store) store.rows numbers component.ascending there in
          let rest = filter_map (option_map (fact_in store)) (rest_of store.rows numbers) in
          let moved = cancel facts splits.others rest (IsPermutation-trans (facts ++ splits.others) (facts_in store) (facts ++ rest)
          splits.before (IsPermutation-sym (facts ++ rest) (facts_in store) split)) in
          let held = held_where (fact_in store) (rest_of store.rows numbers) fact (Contains-permutation splits.others rest fact moved c) in
          let was = rest_held store.rows numbers held.0 held.1 held.2 in
          (held.0, held.1, was.0, was.1, held.3)

      apart : (number : ℕ) (r : SeenRow) → Contains numbers number → row_at store.rows number ≡ Some r
          → All (λ other. ¬ (Share (fact_in store r) other)) splits.others
      apart number r c e k d l share =
          let other = get_or splits.others k d in
          let held = others_held other (Contains-get_or splits.others k d l) in
          let shared = share_piece number held.0 r held.1 e held.2 (subst (Share (fact_in store r)) (sym held.4) share) in
          held.3 (closed store ok from row at numbers component number held.0 c shared)

      abbrev RowFact : Type 0
      RowFact = StampedOf (FactOf ConstId)

      same_part : (part : Ends → Ends) → map (fact_over part) facts ≡ map (over (part row.span)) facts
      same_part part = map_alike (fact_over part) (over (part row.span)) facts
          (from_facts (λ (f : RowFact). fact_over part f ≡ over (part row.span) f)
          (λ number r c e. let span = has_all number r c e in λ i. record { row = (fact_in store r).row; span = part (span i) }))

      is_component : (term : TermOf ConstId) → HoldsTerm (fact_in store row) term → IsComponent (facts_in store) term facts splits.others
      is_component term holds = record {
        from = fact_in store row;
        holds = holds;
        within = in_facts from row (begins store ok from row at numbers component) at;
        split = splits.before;
        reached = from_facts (Reaches (λ a b. Contains facts b × Share a b) (fact_in store row))
            (λ number r c e. (all_reached (SharePiece store) IsOnTheWay from starts goes_on number ((component.reached number).0 c)).leads r e);
        apart = from_facts (λ f. All (λ other. ¬ (Share f other)) splits.others) apart;
      }

      -- so it is a cut of the journal
      pub journal : (term : TermOf ConstId) (c : Ends) → IsSideOf store from term c m
          → Cuts (facts_in store) term c (record { at = m; rows = length numbers }) (facts_in new)
      journal term c side = record {
        rows = facts;
        others = splits.others;
        span = row.span;
        component = is_component term (holds_at (λ (r : SeenRow). HoldsTerm (fact_in store r) term) (row_at store.rows from) row at side.holds);
        spans = from_facts (λ f. f.span ≡ row.span) has_all;
        covers = holds_at (λ (r : SeenRow). (t : ℤ) → Has c t → Has r.span t) (row_at store.rows from) row at side.covers;
        end = side.end;
        inside = inside;
        count = chosen_size choose numbers (λ n d. let it = over_span store ok from row at numbers component n d in
            (fact_in store it.row, ap (option_map (fact_in store)) it.there));
        cut = subst (λ (l : List RowFact). IsPermutation (l ++ (map (over (part_after m row.span)) facts ++ splits.others)) (facts_in new))
            (same_part (part_before m))
            (subst (λ (l : List RowFact). IsPermutation (map (fact_over (part_before m)) facts ++ (l ++ splits.others)) (facts_in new))
            (same_part (part_after m)) splits.after);
      }
