-- Groups by the matches of tgds' bodies.
use Rattle.std.proofs.Common.{◌≡◌, ◌↔◌, ℕ, zero, suc, ℤ, ◌+◌, ◌<◌, ◌≤◌, Option, Some, None, List, [], ◌∷◌, ◌++◌, length, get_or, take, append-nil, refl, sym, ap, ◌∙◌, subst, inl, inr, ⊎_elim, arith, All, Contains, slice_get, slice_index}
use Rattle.std.specs.List.{AllZip}
use Rattle.std.specs.Ordering.{ord_max, ord_min}
use Rattle.std.proofs.lemmas.Bool.{cases_lt}
use Rattle.std.proofs.lemmas.List.{length-take-le, length-map, append_assoc, take_all}
use Rattle.std.specs.List.{range_with_len}
use Rattle.std.proofs.lemmas.List.FromFn.{length-range_with_len, get_or-range_with_len}
use Rattle.std.proofs.lemmas.List.Elements.{All-nil, All-cons, All-head, All-tail, All-contains, Contains-append_left, Contains-append_right, Contains-append_cases, Contains-push_cases}
use Rattle.time_line.specs.Span.{Ends, Has, start_cmp, stop_cmp}
use Rattle.time_line.proofs.SpanLemmas.{IsMeet-from_ends}
use Rattle.term_core.specs.declared.term.Seen.{Seen}
use Rattle.rule_core.specs.declared.rules.Arg.{Arg}
use Rattle.rule_core.specs.declared.rules.Arg.TheVariants.{Var, Const}
use Rattle.rule_core.specs.declared.rules.Atom.{Atom}
use Rattle.rule_core.specs.declared.rules.Tgd.{Tgd}
use Rattle.rule_core.specs.Mapping.{RuleSet}
use Rattle.rule_core.specs.Validity.{occurrences, IsTgd, IsValid}
use Rattle.rule_core.proofs.ListLemmas.{Contains-head, Contains-cons, Contains-cons_cases, Contains-nil, Contains-map, Contains-from_map}
use Rattle.fact_table.specs.declared.fact.Fact.{Fact}
use Rattle.fact_table.specs.Rows.{SeenRow, row_at, row_of, rows_of}
use Rattle.body_match.specs.declared.found.Match.{Match}
use Rattle.body_match.specs.Matches.{seen_value, IsImage, IsImageAt, HoldsAt, IsMatch, AreMatches}
use Rattle.body_match.specs.Visits.{TakesInTurn}
use Rattle.body_match.proofs.ListLemmas.{at_within, within_from_at, contains_from_at, at_from_contains, maps_at, maps_from_each, zip_at, zip_length, zip_from_each}
use Rattle.body_match.proofs.PlaceLemmas.{atom_from_occurs, occurs_from_atom}
use Rattle.body_match.proofs.SearchLemmas.{some_and, and_some, same_some}
use Rattle.normaliser.specs.Normalised.{IsTimelessMatch, MeetInTime, AreJoined, Reaches, AreLeastPlaces}
use Rattle.normaliser.specs.Normalised.Reaches.{here, step}
use Rattle.normaliser.specs.Labels.{Edge, IsEdge, AreLabels, star, AreBelow, Unites, IsEdgeOf, UnitesMatches}
use Rattle.normaliser.proofs.LabelLemmas.{reaches_more}

-- the row of a table at a place is the fact there
pub fact_at : (table : List Fact) (n : ℕ) (row : SeenRow) → row_at (rows_of table) n ≡ Some row
    → (fact : Fact) × (slice_get table n ≡ Some fact) × (row_of fact ≡ row)
fact_at [] n row e = absurd cc
fact_at (f ∷ fs) zero row e = (f, refl, cc)
fact_at (f ∷ fs) (suc n) row e = fact_at fs n row e

pub row_from_fact : (table : List Fact) (n : ℕ) (fact : Fact) → slice_get table n ≡ Some fact → row_at (rows_of table) n ≡ Some (row_of fact)
row_from_fact [] n fact e = absurd cc
row_from_fact (f ∷ fs) zero fact e = let same : f ≡ fact = cc in ap (λ x. Some (row_of x)) same
row_from_fact (f ∷ fs) (suc n) fact e = row_from_fact fs n fact e

-- each row of a match is there
pub row_there : (rows : List (Option SeenRow)) (value : Arg → Option Seen) (body : List Atom) (numbers : List ℕ)
    → AllZip (IsImageAt rows value) body numbers → (n : ℕ) → Contains numbers n → (row : SeenRow) × (row_at rows n ≡ Some row)
row_there rows value [] [] z n c = absurd (Contains-nil n c)
row_there rows value [] (m ∷ ms) z n c = absurd z
row_there rows value (a ∷ as') [] z n c = absurd z
row_there rows value (a ∷ as') (m ∷ ms) z n c = ⊎_elim
    (λ (e : m ≡ n). let s = some_and (IsImage value a) (row_at rows m) z.0 in
    subst (λ k. (row : SeenRow) × (row_at rows k ≡ Some row)) e (s.0, s.1))
    (λ (d : Contains ms n). row_there rows value as' ms z.1 n d)
    (Contains-cons_cases m n ms c)

-- the instants that rows have in common are a span's
common_of : (rows : List (Option SeenRow)) (numbers : List ℕ)
    → ((n : ℕ) → Contains numbers n → (row : SeenRow) × (row_at rows n ≡ Some row))
    → (s : Ends) × ((t : ℤ) → Has s t ↔ All (HoldsAt rows t) numbers)
common_of rows [] there = (record { lo = None; hi = None }, λ t. (λ _. All-nil (HoldsAt rows t), λ _. (tt, tt)))
common_of rows (n ∷ numbers) there =
    let row = there n (Contains-head n numbers) in
    let rest = common_of rows numbers (λ m c. there m (Contains-cons n m numbers c)) in
    let lo = ord_max start_cmp row.0.span.lo rest.0.lo in
    let hi = ord_min stop_cmp row.0.span.hi rest.0.hi in
    let both = IsMeet-from_ends row.0.span rest.0 lo hi refl refl in (
      record { lo = lo; hi = hi },
      λ t. (
        λ h. All-cons (HoldsAt rows t) n numbers (and_some (λ (r : SeenRow). Has r.span t) (row_at rows n) row.0 row.1 ((both t).0 h).0)
            ((rest.1 t).0 ((both t).0 h).1),
        λ all. (both t).1 (
          has_row t n row.0 row.1 (All-head (HoldsAt rows t) n numbers all),
          (rest.1 t).1 (All-tail (HoldsAt rows t) n numbers all),
        ),
      ),
    )
  where
    has_row : (t : ℤ) (n : ℕ) (row : SeenRow) → row_at rows n ≡ Some row → HoldsAt rows t n → Has row.span t
    has_row t n row e h =
        let s = some_and (λ (r : SeenRow). Has r.span t) (row_at rows n) h in
        subst (λ (r : SeenRow). Has r.span t) (same_some (row_at rows n) s.0 row s.1 e) s.2

get_take : {X : Type 0} (xs : List X) (n v : ℕ) → v < n → slice_get (take n xs) v ≡ slice_get xs v
get_take xs zero v l = absurd (omega (arith, l))
get_take [] (suc n) v l = refl
get_take (x ∷ xs) (suc n) zero l = refl
get_take (x ∷ xs) (suc n) (suc v) l = get_take xs n v (omega (arith, l))

-- rows that match with time ignored, and that have a common instant, are those of a match
module _ (rows : List (Option SeenRow)) (body : List Atom) (vars : ℕ) (occurring : (v : ℕ) → Contains (occurrences body) v ↔ (v < vars))
    (numbers : List ℕ) (fits : IsTimelessMatch body rows numbers) (meet : MeetInTime rows numbers) where
  abbrev given : List Seen
  given = fits.0

  abbrev values : List Seen
  values = take vars given

  has_value : (v : ℕ) → v < vars → v < length given
  has_value v l =
      let a = atom_from_occurs body v ((occurring v).1 l) in
      let z = zip_at (IsImageAt rows (seen_value given)) body numbers fits.1 a.0 a.1 a.2 in
      let row = some_and (IsImage (seen_value given) a.1) (row_at rows z.0) z.2 in
      let j = at_from_contains a.1.args (Var v) a.3 in
      let size = sym (length-map row.0.cells Some) ∙ ap length row.2.cells ∙ length-map a.1.args (seen_value given) in
      let cell = at_within row.0.cells j.0 (omega (arith, size, within_from_at a.1.args j.0 (Var v) j.1)) in
      within_from_at given v cell.0 (sym (maps_at Some (seen_value given) row.0.cells a.1.args row.2.cells j.0 cell.0 (Var v) cell.1 j.1))

  enough : vars ≤ length given
  enough = ⊎_elim
      (λ (l : length given < vars). let again = has_value (length given) l in absurd (omega (arith, again)))
      (λ (g : vars ≤ length given). g)
      (cases_lt (length given) vars)

  image : (k n : ℕ) (atom : Atom) → slice_get body k ≡ Some atom → IsImageAt rows (seen_value given) atom n → IsImageAt rows (seen_value values) atom n
  image k n atom e h =
      let row = some_and (IsImage (seen_value given) atom) (row_at rows n) h in
      let size = sym (length-map row.0.cells Some) ∙ ap length row.2.cells ∙ length-map atom.args (seen_value given) in
      and_some (IsImage (seen_value values) atom) (row_at rows n) row.0 row.1 (record {
        relation = row.2.relation;
        cells = maps_from_each Some (seen_value values) row.0.cells atom.args size
            (λ j cell arg p q. maps_at Some (seen_value given) row.0.cells atom.args row.2.cells j cell arg p q ∙ sym (alike j arg q));
      })
    where
      alike : (j : ℕ) (arg : Arg) → slice_get atom.args j ≡ Some arg → seen_value values arg ≡ seen_value given arg
      alike j (Const c) q = refl
      alike j (Var v) q = get_take given vars v ((occurring v).0 (occurs_from_atom body v k atom e (contains_from_at atom.args j (Var v) q)))

  pub timed_match : (found : Match) × IsMatch body vars rows found × (found.rows ≡ numbers)
  timed_match =
      let span = common_of rows numbers (row_there rows (seen_value given) body numbers fits.1) in (
        record { rows = numbers; binding = values; span = span.0 },
        record {
          images = zip_from_each (IsImageAt rows (seen_value values)) body numbers (zip_length (IsImageAt rows (seen_value given)) body numbers fits.1)
              (λ k atom n p q.
              let z = zip_at (IsImageAt rows (seen_value given)) body numbers fits.1 k atom p in
              image k n atom p (subst (IsImageAt rows (seen_value given) atom) (same_some (slice_get numbers k) z.0 n z.1 q) z.2));
          values = length-take-le vars given enough;
          common = span.1;
          instant = (meet.0, (span.1 meet.0).1 meet.1);
        },
        refl,
      )

-- edges of a match join what it uses
star_from : (places : List ℕ) (edge : Edge) → Contains (star places) edge → Contains places edge.from × Contains places edge.to
star_from [] edge c = absurd (Contains-nil edge c)
star_from (p ∷ ps) edge c =
    let h = Contains-from_map (λ (q : ℕ). record { from = p; to = q }) ps edge c in (
      subst (λ (e : Edge). Contains (p ∷ ps) e.from) h.2 (Contains-head p ps),
      subst (λ (e : Edge). Contains (p ∷ ps) e.to) h.2 (Contains-cons p h.0 ps h.1),
    )

-- and where each edge of a star is kept, its places have one label
star_labels : (labels : List ℕ) (places : List ℕ)
    → ((a b : ℕ) → Contains (star places) (record { from = a; to = b }) → slice_index labels a ≡ slice_index labels b)
    → (a b : ℕ) → Contains places a → Contains places b → slice_index labels a ≡ slice_index labels b
star_labels labels [] kept a b c d = absurd (Contains-nil a c)
star_labels labels (p ∷ ps) kept a b c d = sym (from_first a c) ∙ from_first b d
  where
    from_first : (x : ℕ) → Contains (p ∷ ps) x → slice_index labels p ≡ slice_index labels x
    from_first x h = ⊎_elim
        (λ (e : p ≡ x). ap (slice_index labels) e)
        (λ (k : Contains ps x). kept p x (Contains-map (λ (q : ℕ). record { from = p; to = q }) ps x k))
        (Contains-cons_cases p x ps h)

-- the edges so far are those of the matches of the first tgds
pub record AreEdges (rules : RuleSet) (table : List Fact) (count : ℕ) (edges : List Edge) : Type 0 where
  pub each : (edge : Edge) → Contains edges edge → (tgd : Tgd) × Contains rules.tgds tgd × IsEdgeOf tgd table edge
  pub whole : (tgd : Tgd) → Contains (take count rules.tgds) tgd → (edge : Edge) → IsEdgeOf tgd table edge → Contains edges edge

-- so far labels are by edges of the first tgds
pub record AreLabelsSoFar (rules : RuleSet) (table : List Fact) (count : ℕ) (labels : List ℕ) : Type 0 where
  pub size : length labels ≡ length table
  pub edges : List Edge
  pub are : AreEdges rules table count edges
  pub fit : AreLabels edges labels

-- with the labels by the matches of one tgd more
pub labels_more : (rules : RuleSet) (table : List Fact) (count : ℕ) (tgd : Tgd) (old new : List ℕ) → Contains rules.tgds tgd
    → take (count + 1) rules.tgds ≡ take count rules.tgds ++ tgd ∷ [] → AreLabelsSoFar rules table count old
    → UnitesMatches tgd table old new → AreLabelsSoFar rules table (count + 1) new
labels_more rules table count tgd old new there all so_far unites =
    let more = unites.labels so_far.edges so_far.fit so_far.size in
    record {
      size = unites.size ∙ so_far.size;
      edges = so_far.edges ++ more.0;
      are = record {
        each = λ edge c. ⊎_elim
            (λ (d : Contains so_far.edges edge). so_far.are.each edge d)
            (λ (d : Contains more.0 edge). (tgd, there, (more.2 edge).0 d))
            (Contains-append_cases so_far.edges more.0 edge c);
        whole = λ other c edge h. ⊎_elim
            (λ (d : Contains (take count rules.tgds) other). Contains-append_left so_far.edges more.0 edge (so_far.are.whole other d edge h))
            (λ (e : tgd ≡ other). Contains-append_right so_far.edges more.0 edge
            ((more.2 edge).1 (subst (λ (x : Tgd). IsEdgeOf x table edge) (sym e) h)))
            (Contains-push_cases (take count rules.tgds) tgd other (subst (λ l. Contains l other) all c));
      };
      fit = more.1;
    }

-- once the edges are those of all tgds, the labels are the least places
module _ (rules : RuleSet) (table : List Fact)
    (valid : (tgd : Tgd) → Contains rules.tgds tgd → (v : ℕ) → Contains (occurrences tgd.body) v ↔ (v < tgd.body_vars))
    (labels : List ℕ) (size : length labels ≡ length table) (edges : List Edge) (fit : AreLabels edges labels)
    (each : (edge : Edge) → Contains edges edge → (tgd : Tgd) × Contains rules.tgds tgd × IsEdgeOf tgd table edge)
    (whole : (tgd : Tgd) → Contains rules.tgds tgd → (edge : Edge) → IsEdgeOf tgd table edge → Contains edges edge) where
  joined_back : (a b : ℕ) → AreJoined rules table a b → AreJoined rules table b a
  joined_back a b h = record { tgd = h.tgd; numbers = h.numbers; rule = h.rule; fits = h.fits; meet = h.meet; uses = (h.uses.1, h.uses.0) }

  edge_joins : (edge : Edge) → Contains edges edge → AreJoined rules table edge.from edge.to
  edge_joins edge c =
      let h = each edge c in
      let found = h.2.0 in
      let t = h.2.1.instant in
      record {
        tgd = h.0;
        numbers = found.rows;
        rule = h.1;
        fits = (found.binding, h.2.1.images);
        meet = (t.0, (h.2.1.common t.0).0 t.1);
        uses = star_from found.rows edge h.2.2;
      }

  step_joins : (a b : ℕ) → IsEdge edges a b → AreJoined rules table a b
  step_joins a b (inl c) = edge_joins (record { from = a; to = b }) c
  step_joins a b (inr c) = joined_back b a (edge_joins (record { from = b; to = a }) c)

  one_label : (a b : ℕ) → AreJoined rules table a b → slice_index labels a ≡ slice_index labels b
  one_label a b h =
      let m = timed_match (rows_of table) h.tgd.body h.tgd.body_vars (valid h.tgd h.rule) h.numbers h.fits h.meet in
      star_labels labels h.numbers
      (λ x y c. fit.whole x y (whole h.tgd h.rule (record { from = x; to = y })
      (m.0, m.1, subst (λ l. Contains (star l) (record { from = x; to = y })) (sym m.2) c)))
      a b h.uses.0 h.uses.1

  in_table : (a b : ℕ) → AreJoined rules table a b → b < length table
  in_table a b h =
      let row = row_there (rows_of table) (seen_value h.fits.0) h.tgd.body h.numbers h.fits.1 b h.uses.1 in
      let fact = fact_at table b row.0 row.1 in
      within_from_at table b fact.0 fact.1

  group_label : {a b : ℕ} → Reaches (AreJoined rules table) a b → a < length table → (b < length table) × (slice_index labels a ≡ slice_index labels b)
  group_label here l = (l, refl)
  group_label (step r rest) l =
      let h = group_label rest (in_table _ _ r) in
      (h.0, one_label _ _ r ∙ h.1)

  pub labels_are_least : AreLeastPlaces rules table labels
  labels_are_least = record {
    size = size;
    member = λ n l. reaches_more (AreJoined rules table) step_joins (fit.reached n (omega (arith, l, size)));
    least = λ n m l h.
        let same = group_label h l in
        let below = fit.below m (let in_labels = same.0 in omega (arith, in_labels, size)) in
        let e = same.1 in
        omega (arith, below, e);
  }

pub read_tgd : (rules : RuleSet) → IsValid rules → (items : List Tgd) (i : ℕ) (tgd : Tgd) → items ≡ rules.tgds → i < length items
    → tgd ≡ get_or items i tgd → IsTgd rules.sources rules.targets tgd
read_tgd rules valid items i tgd same within is =
    All-contains (IsTgd rules.sources rules.targets) rules.tgds tgd valid.rules.tgds
    (subst (λ l. Contains l tgd) same (i, within, sym is))

-- no edge yet, and those of all tgds
pub labels_none : (rules : RuleSet) (table : List Fact) (labels : List ℕ) → labels ≡ range_with_len 0 (length table)
    → AreLabelsSoFar rules table 0 labels
labels_none rules table labels is = record {
  size = ap length is ∙ length-range_with_len 0 (length table);
  edges = [];
  are = record { each = λ edge c. absurd (Contains-nil edge c); whole = λ tgd c. absurd (Contains-nil tgd c) };
  fit = record {
    below = λ k l. let e = own k l in omega (arith, e);
    reached = λ k l. subst (Reaches (IsEdge []) k) (sym (own k l)) here;
    whole = λ a b c. absurd (Contains-nil (record { from = a; to = b }) c);
  };
}
  where
    own : (k : ℕ) → k < length labels → slice_index labels k ≡ k
    own k l =
        let size = ap length is ∙ length-range_with_len 0 (length table) in
        let at : get_or (range_with_len 0 (length table)) k 0 ≡ 0 + k = get_or-range_with_len 0 (length table) k 0 (omega (arith, l, size)) in
        let same : 0 + k ≡ k = omega arith in
        ap (λ x. get_or x k 0) is ∙ at ∙ same

pub labels_all : (rules : RuleSet) (table : List Fact) → IsValid rules → (count : ℕ) (labels : List ℕ) → length rules.tgds ≤ count
    → AreLabelsSoFar rules table count labels → AreLeastPlaces rules table labels
labels_all rules table valid count labels all so_far =
    labels_are_least rules table
    (λ tgd c. (All-contains (IsTgd rules.sources rules.targets) rules.tgds tgd valid.rules.tgds c).body_vars.same)
    labels so_far.size so_far.edges so_far.fit so_far.are.each
    (λ tgd c. so_far.are.whole tgd (subst (λ l. Contains l tgd) (sym (take_all count rules.tgds all)) c))

-- what a visit of matches leaves, edge by edge
pub taken_in_turn : (bound : ℕ) (list : List Match) → ((found : Match) → Contains list found → AreBelow bound found.rows)
    → (old new : List ℕ) → length old ≡ bound → TakesInTurn (λ (a : List ℕ) (found : Match) (b : List ℕ). Unites found.rows a b) old list new
    → (length new ≡ length old) × ((edges : List Edge) → AreLabels edges old
    → (more : List Edge) × AreLabels (edges ++ more) new
    × ((edge : Edge) → Contains more edge ↔ ((found : Match) × Contains list found × Contains (star found.rows) edge)))
taken_in_turn bound [] below old new size e = (
  ap length (sym e),
  λ edges fit. (
    [],
    subst (AreLabels (edges ++ [])) e (subst (λ l. AreLabels l old) (sym (append-nil edges)) fit),
    λ edge. (λ c. absurd (Contains-nil edge c), λ h. absurd (Contains-nil h.0 h.1)),
  ),
)
taken_in_turn bound (found ∷ list) below old new size h =
    let between = h.0 in
    let mid : length between ≡ length old = h.1.size in
    let rest = taken_in_turn bound list (λ f c. below f (Contains-cons found f list c)) between new (mid ∙ size) h.2 in (
      rest.0 ∙ mid,
      λ edges fit.
          let fits = h.1.labels edges fit (subst (λ n. AreBelow n found.rows) (sym size) (below found (Contains-head found list))) in
          let more = rest.1 (edges ++ star found.rows) fits in (
            star found.rows ++ more.0,
            subst (λ l. AreLabels l new) (append_assoc edges (star found.rows) more.0) more.1,
            λ edge. (
              λ c. ⊎_elim
                  (λ (d : Contains (star found.rows) edge). (found, Contains-head found list, d))
                  (λ (d : Contains more.0 edge). let k = (more.2 edge).0 d in (k.0, Contains-cons found k.0 list k.1, k.2))
                  (Contains-append_cases (star found.rows) more.0 edge c),
              λ k. ⊎_elim
                  (λ (e : found ≡ k.0). Contains-append_left (star found.rows) more.0 edge
                  (subst (λ (f : Match). Contains (star f.rows) edge) (sym e) k.2))
                  (λ (d : Contains list k.0). Contains-append_right (star found.rows) more.0 edge ((more.2 edge).1 (k.0, d, k.2)))
                  (Contains-cons_cases found k.0 list k.1),
            ),
          ),
    )

-- the rows of a match are in the table
pub rows_below : (table : List Fact) (body : List Atom) (vars : ℕ) (found : Match) → IsMatch body vars (rows_of table) found
    → AreBelow (length table) found.rows
rows_below table body vars found h n c =
    let row = row_there (rows_of table) (seen_value found.binding) body found.rows h.images n c in
    let fact = fact_at table n row.0 row.1 in
    within_from_at table n fact.0 fact.1

-- a match of one atom joins nothing
pub unites_alone : (tgd : Tgd) (table : List Fact) (labels : List ℕ) → length tgd.body < 2 → UnitesMatches tgd table labels labels
unites_alone tgd table labels few = record {
  size = refl;
  labels = λ edges fit _. (
    [],
    subst (λ l. AreLabels l labels) (sym (append-nil edges)) fit,
    λ edge. (
      λ c. absurd (Contains-nil edge c),
      λ h. absurd (alone h.0.rows edge
          (let size = zip_length (IsImageAt (rows_of table) (seen_value h.0.binding)) tgd.body h.0.rows h.1.images in omega (arith, size, few)) h.2),
    ),
  );
}
  where
    alone : (rows : List ℕ) (edge : Edge) → length rows < 2 → ¬ (Contains (star rows) edge)
    alone [] edge l c = Contains-nil edge c
    alone (r ∷ []) edge l c = Contains-nil edge c
    alone (r ∷ s ∷ rest) edge l c = absurd (omega (arith, l))

-- and the list of all matches unites the facts of each
pub unites_all : (tgd : Tgd) (table : List Fact) (list rest : List Match) → AreMatches tgd.body tgd.body_vars (rows_of table) (list ++ rest)
    → rest ≡ [] → (old new : List ℕ)
    → TakesInTurn (λ (a : List ℕ) (found : Match) (b : List ℕ). Unites found.rows a b) old list new → UnitesMatches tgd table old new
unites_all tgd table list rest matches none old new taken = record {
  size = size;
  labels = λ edges fit all.
      let h = taken_in_turn (length table) list (λ f c. rows_below table tgd.body tgd.body_vars f ((each f).0 c)) old new all taken in
      let more = h.1 edges fit in (
        more.0,
        more.1,
        λ edge. (
          λ c. let k = (more.2 edge).0 c in (k.0, (each k.0).0 k.1, k.2),
          λ k. (more.2 edge).1 (k.0, (each k.0).1 k.1, k.2),
        ),
      );
}
  where
    sizes : (list : List Match) (old new : List ℕ)
        → TakesInTurn (λ (a : List ℕ) (found : Match) (b : List ℕ). Unites found.rows a b) old list new → length new ≡ length old
    sizes [] old new e = ap length (sym e)
    sizes (found ∷ list) old new h = sizes list h.0 new h.2 ∙ h.1.size

    size : length new ≡ length old
    size = sizes list old new taken

    each : (found : Match) → Contains list found ↔ IsMatch tgd.body tgd.body_vars (rows_of table) found
    each found = subst (λ l. Contains l found ↔ IsMatch tgd.body tgd.body_vars (rows_of table) found)
        (ap (λ l. list ++ l) none ∙ append-nil list) (matches.each found)
