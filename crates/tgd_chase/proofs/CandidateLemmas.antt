-- Matches as candidates: what they show, and what a list of them has.
use Rattle.std.proofs.Common.{◌≡◌, ⊎_elim, ◌↔◌, ℕ, zero, suc, ℤ, ◌+◌, ◌<◌, ◌≤◌, Option, Some, List, [], ◌∷◌, ◌++◌, length, map, take, get_or}
use Rattle.std.proofs.Common.{refl, sym, ap, ◌∙◌, subst, arith, append_assoc, All, Contains}
use Rattle.std.specs.Prelude.{slice_get}
use Rattle.std.proofs.lemmas.Bool.{cases_lt}
use Rattle.std.proofs.lemmas.List.{append-nil, length-map, map-append, take_more}
use Rattle.std.proofs.lemmas.List.Elements.{All-nil, All-append, All-push, All-contains, All-weaker, Contains-append_left, Contains-append_right, Contains-push, Contains-push_cases, Contains-get_or}
use Rattle.std.proofs.lemmas.Option.{get_or_from_slice_get, slice_get_past}
use Rattle.time_line.specs.Span.{Has, HasInstant}
use Rattle.term_core.specs.declared.const_id.ConstId.{ConstId}
use Rattle.term_core.specs.declared.term.Seen.{Seen}
use Rattle.term_core.specs.declared.term.Seen.TheVariants.{Const}
use Rattle.rule_core.specs.declared.rules.Arg.{Arg}
use Rattle.rule_core.specs.declared.rules.Arg.TheVariants.{Var}
use Rattle.rule_core.specs.declared.rules.Atom.{Atom}
use Rattle.rule_core.specs.declared.rules.Tgd.{Tgd}
use Rattle.rule_core.specs.Validity.{occurrences, IsTgd, IsValid}
use Rattle.rule_core.specs.Terms.{TermOf, constant}
use Rattle.rule_core.specs.Mapping.{RuleSet}
use Rattle.rule_core.specs.Firing.{frontier_of, Fires}
use Rattle.rule_core.specs.Frontier.{IsFrontier}
use Rattle.rule_core.proofs.ListLemmas.{Contains-nil, Contains-head, Contains-cons}
use Rattle.rule_core.proofs.FiringLemmas.{frontier_is}
use Rattle.fact_table.specs.declared.fact.Fact.{Fact}
use Rattle.fact_table.specs.Rows.{SeenRow, row_at, row_of, rows_of}
use Rattle.body_match.specs.declared.found.Match.{Match}
use Rattle.body_match.specs.Matches.{seen_value, IsImage, IsImageAt, IsMatch, AreMatches}
use Rattle.fact_table.specs.Snapshots.{seen_term}
use Rattle.body_match.specs.Snapshots.{AgreesWith, AreMatchesAtInstants}
use Rattle.body_match.proofs.ListLemmas.{at_within, within_from_at, at_from_contains, at_map, at_from_map, maps_at, zip_at}
use Rattle.body_match.proofs.PlaceLemmas.{atom_from_occurs}
use Rattle.body_match.proofs.SearchLemmas.{some_and, and_some, same_some}
use Rattle.body_match.proofs.SnapshotLemmas.{facts_from_match, all_at_instants}
use Rattle.body_match.specs.Visits.{TakesInTurn}
use Rattle.fact_table.specs.Snapshots.{snapshot_of}
use Rattle.normaliser.specs.Normalised.{IsEndOf}
use Rattle.failure_trace.specs.Firings.{FiresOn, GivesConstants}
use Rattle.tgd_chase.specs.Candidates.{IsConstant, TakesMatch, IsMadeFrom, IsCandidateOf, IsFoundAt, AreCandidatesOf, AddsCandidates, IsCandidate, AreCandidates}
use Rattle.tgd_chase.specs.declared.candidates.Candidate.{Candidate}
use Rattle.tgd_chase.specs.declared.candidates.Finder.{Finder}

-- the values of some variables

-- where each variable that has a value has it by the function too, the function gives the values that are read
pub values_given : {C : Type 0} (f : ℕ → C) (xs : List C) → ((v : ℕ) (c : C) → slice_get xs v ≡ Some c → f v ≡ c) → (vs : List ℕ)
    (ys : List C) → map (λ v. slice_get xs v) vs ≡ map (λ c. Some c) ys → map f vs ≡ ys
values_given f xs given [] [] e = refl
values_given f xs given [] (y ∷ ys) e = absurd cc
values_given f xs given (v ∷ vs) [] e = absurd cc
values_given f xs given (v ∷ vs) (y ∷ ys) e =
    let first : slice_get xs v ≡ Some y = cc in
    let rest : map (λ v. slice_get xs v) vs ≡ map (λ c. Some c) ys = cc in
    let here = given v y first in
    let later = values_given f xs given vs ys rest in
    λ i. here i ∷ later i

-- what is read of constants is read of the cells that show them
pub cells_read : (cells : List Seen) (xs : List ConstId) → map Const xs ≡ cells → (vs : List ℕ) (ys : List ConstId)
    → map (λ v. slice_get xs v) vs ≡ map (λ c. Some c) ys → map (λ v. slice_get cells v) vs ≡ map (λ c. Some (Const c)) ys
cells_read cells xs shown [] [] e = refl
cells_read cells xs shown [] (y ∷ ys) e = absurd cc
cells_read cells xs shown (v ∷ vs) [] e = absurd cc
cells_read cells xs shown (v ∷ vs) (y ∷ ys) e =
    let first : slice_get xs v ≡ Some y = cc in
    let rest : map (λ v. slice_get xs v) vs ≡ map (λ c. Some c) ys = cc in
    let here = ap (λ l. slice_get l v) (sym shown) ∙ at_map Const xs v y first in
    let later = cells_read cells xs shown vs ys rest in
    λ i. here i ∷ later i

-- the value of one variable more
pub values_more : {C : Type 0} (xs : List C) (vs : List ℕ) (i : ℕ) (ys new : List C) (c : C) (d : ℕ) → i < length vs
    → slice_get xs (get_or vs i d) ≡ Some c → new ≡ ys ++ c ∷ []
    → map (λ v. slice_get xs v) (take i vs) ≡ map (λ c. Some c) ys
    → map (λ v. slice_get xs v) (take (i + 1) vs) ≡ map (λ c. Some c) new
values_more xs vs i ys new c d within read pushed e =
    ap (map (λ v. slice_get xs v)) (take_more vs i d within)
    ∙ map-append (λ v. slice_get xs v) (take i vs) (get_or vs i d ∷ [])
    ∙ (λ k. e k ++ read k ∷ [])
    ∙ sym (map-append (λ c. Some c) ys (c ∷ [])) ∙ ap (map (λ c. Some c)) (sym pushed)

-- the constant of one cell more
pub constants_more : (cells : List Seen) (i : ℕ) (constants new : List ConstId) (c : ConstId) (d : Seen) → i < length cells
    → get_or cells i d ≡ Const c → new ≡ constants ++ c ∷ [] → map Const constants ≡ take i cells
    → map Const new ≡ take (i + 1) cells
constants_more cells i constants new c d within read pushed e =
    ap (map Const) pushed ∙ map-append Const constants (c ∷ []) ∙ (λ k. e k ++ sym read k ∷ []) ∙ sym (take_more cells i d within)

-- the cells of a match in a table

-- a row of a table is that of a fact
row_of_fact : (table : List Fact) (n : ℕ) (row : SeenRow) → row_at (rows_of table) n ≡ Some row → (fact : Fact) × (row_of fact ≡ row)
row_of_fact [] n row e = absurd cc
row_of_fact (f ∷ fs) zero row e = (f, cc)
row_of_fact (f ∷ fs) (suc n) row e = row_of_fact fs n row e

-- the image of an atom has a cell for each argument
image_size : (value : Arg → Option Seen) (atom : Atom) (row : SeenRow) → IsImage value atom row → length row.cells ≡ length atom.args
image_size value atom row h = sym (length-map row.cells Some) ∙ ap length h.cells ∙ length-map atom.args value

module _ (table : List Fact) (body : List Atom) (vars : ℕ) (occurring : (v : ℕ) → Contains (occurrences body) v ↔ (v < vars)) where
  -- all values of a match are constants
  pub constants_shown : (found : Match) → IsMatch body vars (rows_of table) found → All IsConstant found.binding
  constants_shown found whole k d l =
      let values = seen_value found.binding in
      let a = atom_from_occurs body k ((occurring k).1 (omega (arith, l, whole.values))) in
      let z = zip_at (IsImageAt (rows_of table) values) body found.rows whole.images a.0 a.1 a.2 in
      let row = some_and (IsImage values a.1) (row_at (rows_of table) z.0) z.2 in
      let fact = row_of_fact table z.0 row.0 row.1 in
      let j = at_from_contains a.1.args (Var k) a.3 in
      let size = image_size values a.1 row.0 row.2 in
      let cell = at_within row.0.cells j.0 (omega (arith, size, within_from_at a.1.args j.0 (Var k) j.1)) in
      let shown = at_from_map Const fact.0.row j.0 cell.0 (ap (λ (r : SeenRow). slice_get r.cells j.0) fact.1 ∙ cell.1) in
      let value : Some cell.0 ≡ slice_get found.binding k =
      maps_at Some values row.0.cells a.1.args row.2.cells j.0 cell.0 (Var k) cell.1 j.1 in
      let read = get_or_from_slice_get found.binding k cell.0 d (sym value) in
      (shown.0, read ∙ sym shown.2)

-- the variables of a frontier are among those of the body
pub frontier_within : (tgd : Tgd) (read variables : List ℕ) (n : ℕ) → read ≡ variables → IsFrontier tgd variables → n ≡ tgd.body_vars
    → All (λ v. v < n) read
frontier_within tgd read variables n same is size k d l =
    let there = subst (λ vs. Contains vs (get_or read k d)) same (Contains-get_or read k d l) in
    omega (arith, size, ((is.same (get_or read k d)).0 there).0)

-- one candidate

-- a candidate of the tgd for each of the matches
pub record AreMadeFrom (table : List Fact) (place : ℕ) (tgd : Tgd) (found : List Match) (list : List Candidate) : Type 0 where
  pub each : All (IsCandidateOf table place tgd) list
  pub made : (m : Match) → Contains found m → (c : Candidate) × Contains list c × IsMadeFrom place (frontier_of tgd) m c

module _ (table : List Fact) (place : ℕ) (tgd : Tgd) (occurring : (v : ℕ) → Contains (occurrences tgd.body) v ↔ (v < tgd.body_vars)) where
  module _ (found : Match) (candidate : Candidate) (made : IsMadeFrom place (frontier_of tgd) found candidate) where
    abbrev given : List ConstId
    given = candidate.support.binding

    -- a binding that gives the constants agrees with the match
    agrees : (binding : ℕ → TermOf ConstId) → GivesConstants given binding → AgreesWith found.binding binding
    agrees binding gives v value e =
        let c = at_from_map Const given v value (ap (λ l. slice_get l v) made.binding ∙ e) in
        gives v c.0 c.1 ∙ ap seen_term c.2

    pub candidate_from_match : IsMatch tgd.body tgd.body_vars (rows_of table) found → IsCandidateOf table place tgd candidate
    candidate_from_match whole = record {
      rule = made.rule;
      supports = record {
        instant = subst HasInstant (sym made.span) whole.instant;
        size = sym (length-map given Const) ∙ ap length made.binding ∙ whole.values;
        frontier = made.frontier;
        matches = λ binding t gives has.
            facts_from_match tgd.body tgd.body_vars (rows_of table) occurring binding t found whole
            (subst (λ s. Has s t) made.span has) (agrees binding gives);
      };
      ends = λ m end. (
        found,
        whole,
        cells_read found.binding given made.binding (frontier_of tgd) candidate.frontier made.frontier,
        subst (λ s. IsEndOf s m) made.span end,
      );
    }

    -- where the match agrees with constants, these are the candidate's frontier values
    pub frontier_values : (f : ℕ → ConstId) → AgreesWith found.binding (λ v. constant (f v)) → map f (frontier_of tgd) ≡ candidate.frontier
    frontier_values f same = values_given f given by (frontier_of tgd) candidate.frontier made.frontier
      where
        by : (v : ℕ) (c : ConstId) → slice_get given v ≡ Some c → f v ≡ c
        by v c e =
            let shown = ap (λ l. slice_get l v) (sym made.binding) ∙ at_map Const given v c e in
            let term : constant (f v) ≡ constant c = same v (Const c) shown in
            cc

  -- the candidates of a tgd

  pub made_none : AreMadeFrom table place tgd [] []
  made_none = record {
    each = All-nil (IsCandidateOf table place tgd);
    made = λ m c. absurd (Contains-nil m c);
  }

  pub made_more : (found : List Match) (list : List Candidate) (m : Match) (c : Candidate) → AreMadeFrom table place tgd found list
      → IsMatch tgd.body tgd.body_vars (rows_of table) m → IsMadeFrom place (frontier_of tgd) m c
      → AreMadeFrom table place tgd (found ++ m ∷ []) (list ++ c ∷ [])
  made_more found list m c h whole made = record {
    each = All-push (IsCandidateOf table place tgd) list c h.each (candidate_from_match m c made whole);
    made = λ n there. ⊎_elim
        (λ (old : Contains found n). let k = h.made n old in (k.0, Contains-append_left list (c ∷ []) k.0 k.1, k.2))
        (λ (e : m ≡ n). (c, Contains-push list c, subst (λ x. IsMadeFrom place (frontier_of tgd) x c) e made))
        (Contains-push_cases found m n there);
  }

  -- where there is one for each match, there is one at each instant at which the tgd fires
  pub all_made : (found : List Match) (list : List Candidate) → AreMatchesAtInstants tgd.body (rows_of table) found
      → AreMadeFrom table place tgd found list → AreCandidatesOf table place tgd list
  all_made found list snapshots h = record {
    each = h.each;
    whole = λ values t fires.
        let m = (snapshots (λ v. constant (fires.0 v)) t).0 fires.1 in
        let c = h.made m.1 (m.0, m.2, m.3) in
        let same = sym (frontier_values m.1 c.0 c.2 fires.0 m.4.1) ∙ fires.2 in
        let has = subst (λ s. Has s t) (sym c.2.span) m.4.0 in
        (c.1.0, c.0, c.1.1, c.1.2, (c.2.rule, same, has));
  }

  -- a candidate for each of the matches that are taken in turn, behind those so far
  pub takes_made : (start : List Candidate) (done list : List Match) (listed : List Candidate) (old new : Finder)
      → TakesInTurn TakesMatch old list new → old.rule ≡ place → old.variables ≡ frontier_of tgd
      → ((m : Match) → Contains list m → IsMatch tgd.body tgd.body_vars (rows_of table) m)
      → old.list.items ≡ start ++ listed → AreMadeFrom table place tgd done listed
      → (more : List Candidate) × (new.list.items ≡ start ++ more) × AreMadeFrom table place tgd (done ++ list) more
  takes_made start done [] listed old new same rule variables are is h = (
    listed,
    ap (λ (f : Finder). f.list.items) (sym same) ∙ is,
    subst (λ l. AreMadeFrom table place tgd l listed) (sym (append-nil done)) h,
  )
  takes_made start done (m ∷ list) listed old new took rule variables are is h =
      let whole = are m (Contains-head m list) in
      let within : All (λ v. v < length m.binding) old.variables =
      frontier_within tgd old.variables (frontier_of tgd) (length m.binding) variables (frontier_is tgd) whole.values in
      let c = took.1.list (constants_shown table tgd.body tgd.body_vars occurring m whole, within) in
      let made : IsMadeFrom place (frontier_of tgd) m c.0 =
      subst (λ p. IsMadeFrom p (frontier_of tgd) m c.0) rule (subst (λ vs. IsMadeFrom old.rule vs m c.0) variables c.1) in
      let rest = takes_made start (done ++ m ∷ []) list (listed ++ c.0 ∷ []) took.0 new took.2 (took.1.rule ∙ rule)
      (took.1.variables ∙ variables) (λ n k. are n (Contains-cons m n list k))
      (c.2 ∙ ap (λ l. l ++ c.0 ∷ []) is ∙ append_assoc start listed (c.0 ∷ [])) (made_more done listed m c.0 h whole made) in
      (rest.0, rest.1, subst (λ l. AreMadeFrom table place tgd l rest.0) (append_assoc done (m ∷ []) list) rest.2)

  -- behind those of other tgds stand those of all matches
  pub takes_all : (list rest : List Match) (old new : Finder) → AreMatches tgd.body tgd.body_vars (rows_of table) (list ++ rest)
      → rest ≡ [] → TakesInTurn TakesMatch old list new → old.rule ≡ place → old.variables ≡ frontier_of tgd
      → AddsCandidates table place tgd old.list.items new.list.items
  takes_all list rest old new matches none took rule variables =
      let all : AreMatches tgd.body tgd.body_vars (rows_of table) list =
      subst (AreMatches tgd.body tgd.body_vars (rows_of table)) (ap (λ l. list ++ l) none ∙ append-nil list) matches in
      let h = takes_made old.list.items [] list [] old new took rule variables (λ m c. (all.each m).0 c) (sym (append-nil old.list.items))
      made_none in
      (h.0, h.1, all_made list h.0 (all_at_instants tgd.body tgd.body_vars (rows_of table) occurring list all.each) h.2)

-- those of all tgds

-- what a tgd at a place of valid rules is
pub read_tgd : (rules : RuleSet) → IsValid rules → (items : List Tgd) (i : ℕ) (tgd : Tgd) → items ≡ rules.tgds → i < length items
    → tgd ≡ get_or items i tgd → IsTgd rules.sources rules.targets tgd
read_tgd rules valid items i tgd same within is =
    All-contains (IsTgd rules.sources rules.targets) rules.tgds tgd valid.rules.tgds
    (subst (λ l. Contains l tgd) same (i, within, sym is))

module _ (rules : RuleSet) (table : List Fact) where
  -- those of the first tgds
  pub record AreFoundBelow (n : ℕ) (list : List Candidate) : Type 0 where
    pub each : All (IsCandidate rules table) list
    pub whole : (rule : ℕ) (values : List ConstId) (t : ℤ) → rule < n → FiresOn rules (snapshot_of table t) rule values
        → IsFoundAt list rule values t

  pub found_none : (list : List Candidate) → list ≡ [] → AreFoundBelow 0 list
  found_none list is = record {
    each = subst (All (IsCandidate rules table)) (sym is) (All-nil (IsCandidate rules table));
    whole = λ rule values t l. absurd (omega (arith, l));
  }

  found_left : (xs ys : List Candidate) (rule : ℕ) (values : List ConstId) (t : ℤ) → IsFoundAt xs rule values t
      → IsFoundAt (xs ++ ys) rule values t
  found_left xs ys rule values t h = let c = Contains-append_left xs ys h.1 (h.0, h.2, h.3) in (c.0, h.1, c.1, c.2, h.4)

  found_right : (xs ys : List Candidate) (rule : ℕ) (values : List ConstId) (t : ℤ) → IsFoundAt ys rule values t
      → IsFoundAt (xs ++ ys) rule values t
  found_right xs ys rule values t h = let c = Contains-append_right xs ys h.1 (h.0, h.2, h.3) in (c.0, h.1, c.1, c.2, h.4)

  pub found_more : (n : ℕ) (tgd : Tgd) (old new : List Candidate) → slice_get rules.tgds n ≡ Some tgd → AreFoundBelow n old
      → AddsCandidates table n tgd old new → AreFoundBelow (n + 1) new
  found_more n tgd old new there h adds = subst (AreFoundBelow (n + 1)) (sym adds.1) (record {
    each = All-append (IsCandidate rules table) old adds.0 h.each
        (All-weaker (IsCandidateOf table n tgd) (IsCandidate rules table) its adds.0 adds.2.each);
    whole = λ rule values t l fires. ⊎_elim
        (λ (below : rule < n). found_left old adds.0 rule values t (h.whole rule values t below fires))
        (λ (not : n ≤ rule). found_right old adds.0 rule values t (here rule values t (omega (arith, l, not)) fires))
        (cases_lt rule n);
  })
    where
      its : (c : Candidate) → IsCandidateOf table n tgd c → IsCandidate rules table c
      its c k = and_some (λ tgd. IsCandidateOf table c.rule tgd c) (slice_get rules.tgds c.rule) tgd
          (ap (slice_get rules.tgds) k.rule ∙ there) (subst (λ p. IsCandidateOf table p tgd c) (sym k.rule) k)

      here : (rule : ℕ) (values : List ConstId) (t : ℤ) → rule ≡ n → FiresOn rules (snapshot_of table t) rule values
          → IsFoundAt adds.0 rule values t
      here rule values t same fires =
          let k = some_and (λ tgd. Fires (λ c. c) tgd (snapshot_of table t) values) (slice_get rules.tgds rule) fires in
          let one = same_some (slice_get rules.tgds n) k.0 tgd (ap (slice_get rules.tgds) (sym same) ∙ k.1) there in
          subst (λ p. IsFoundAt adds.0 p values t) (sym same)
          (adds.2.whole values t (subst (λ x. Fires (λ c. c) x (snapshot_of table t) values) one k.2))

  pub all_found : (n : ℕ) (list : List Candidate) → length rules.tgds ≤ n → AreFoundBelow n list → AreCandidates rules table list
  all_found n list all h = record {
    each = h.each;
    whole = λ rule values t fires. ⊎_elim
        (λ (below : rule < n). h.whole rule values t below fires)
        (λ (not : n ≤ rule).
        let k = some_and (λ tgd. Fires (λ c. c) tgd (snapshot_of table t) values) (slice_get rules.tgds rule) fires in
        let past = slice_get_past rules.tgds rule (omega (arith, not, all)) in
        absurd cc)
        (cases_lt rule n);
  }
