use Rattle.std.proofs.Common.{◌≡◌, ◌↔◌, ◌+◌, ◌<◌, ◌≤◌, ℕ, true, Bool, List, [], ◌++◌, Option, length, sym, ap, ◌∙◌, subst, Contains}
use Rattle.std.proofs.lemmas.Result.{IfOk-weaker}
use Rattle.rule_core.specs.declared.rules.Atom.{Atom}
use Rattle.rule_core.specs.Validity.{occurrences}
use Rattle.fact_table.specs.Rows.{SeenRow}
use Rattle.body_match.specs.declared.found.Match.{Match}
use Rattle.body_match.specs.declared.levels.Level.{Level}
use Rattle.body_match.specs.declared.places.Place.{Place}
use Rattle.body_match.specs.Matches.{IsMatch, AreMatches}
use Rattle.body_match.specs.Visits.{TakesInTurn}
use Rattle.body_match.specs.Places.{AreFirstPlaces}
use Rattle.body_match.specs.Keys.{AreLevels, IsListedUnder}
use Rattle.body_match.specs.Search.{Task, AreTold, IsFindable, IsTask, ListsAll, Gives, task_of}
use Rattle.body_match.proofs.ExistLemmas.{given_of_all}
use Rattle.body_match.proofs.IndexLemmas.{each_listed, told_at}
use Rattle.body_match.proofs.KeyLemmas.{all_findable}
use Rattle.body_match.proofs.visit.visit_matches.Goals as goal

-- the places of all variables and the levels make a search
is_task : (body atoms : List Atom) (vars : ℕ) (places items : List Place) (rows : List (Option SeenRow)) (levels built : List Level)
    → atoms ≡ body → places ≡ items → levels ≡ built → ((v : ℕ) → Contains (occurrences body) v ↔ (v < vars))
    → AreFirstPlaces atoms vars items → length atoms ≤ length built + 1 → AreLevels atoms places rows (length atoms) built
    → IsTask (task_of atoms places rows levels)
is_task body atoms vars places items rows levels built same read made occurring first long each =
    let size : length places ≡ vars = ap length read ∙ first.size in
    let firsts : AreFirstPlaces atoms (length places) places =
    subst (λ n. AreFirstPlaces atoms n places) (sym size) (subst (λ l. AreFirstPlaces atoms vars l) (sym read) first) in
    record {
      places = firsts;
      vars = λ v c. subst (λ n. v < n) (sym size) ((occurring v).0 (subst (λ l. Contains (occurrences l) v) same c));
      size = subst (λ (l : List Level). length atoms ≤ length l + 1) (sym made) long;
      told = subst (AreTold atoms places) (sym made) (told_at atoms places rows built each);
    }

-- what a visitor is given of a search are the body's matches
visits : {S : Type 0} (takes : S → Match → S → Type 0) (old new : S) (body : List Atom) (vars : ℕ) (rows : List (Option SeenRow))
    (task : Task) → IsTask task → task.body ≡ body → length task.places ≡ vars → task.rows ≡ rows → ListsAll task → (more : Bool)
    → Gives takes (IsMatch task.body (length task.places) task.rows) (IsFindable task) old new more
    → (list : List Match) × (rest : List Match) × AreMatches body vars rows (list ++ rest) × (more ≡ true → rest ≡ [])
    × TakesInTurn takes old list new
visits takes old new body vars rows task ok same size store lists more given =
    let h = given_of_all task ok takes old new more (all_findable task lists) given in
    (h.0, h.1, subst (λ w. w) (λ i. AreMatches (same i) (size i) (store i) (h.0 ++ h.1)) h.2, h.3, h.4)

pub first_places-requires : goal.first_places-requires
first_places-requires g c = λ v l. subst (λ atoms. Contains (occurrences atoms) v) (sym c.as_slice-atoms.ensures) ((c.requires.vars v).1 l)

pub new-search-requires : goal.new-search-requires
new-search-requires g c =
    is_task c.args.body.now c.as_slice-atoms.result.now c.args.vars c.as_slice-places.result.now c.in_ok-found.found.items
    (g.F.FactSource.rows c.args.source.now) c.as_slice.result.now c.in_ok-levels.levels.items c.as_slice-atoms.ensures
    c.as_slice-places.ensures.value c.as_slice.ensures.value c.requires.vars c.in_ok-found.ensures c.in_ok-levels.ensures.size
    c.in_ok-levels.ensures.levels

pub returns-clause-visits : goal.returns-clause-visits
returns-clause-visits g c =
    let body = c.args.body.now in
    let rows = g.F.FactSource.rows c.args.source.now in
    let task : Task = c.new-search.result in
    let is = c.new-search.ensures in
    let ok : IsTask task = subst IsTask (sym is)
    (is_task body c.as_slice-atoms.result.now c.args.vars c.as_slice-places.result.now c.in_ok-found.found.items rows
    c.as_slice.result.now c.in_ok-levels.levels.items c.as_slice-atoms.ensures c.as_slice-places.ensures.value c.as_slice.ensures.value
    c.requires.vars c.in_ok-found.ensures c.in_ok-levels.ensures.size c.in_ok-levels.ensures.levels) in
    let levels : List Level = c.in_ok-levels.levels.items in
    let lists : ListsAll task = subst ListsAll (sym is) (λ number.
    subst (λ (l : List Level). IsListedUnder c.as_slice-atoms.result.now l rows number) (sym c.as_slice.ensures.value)
    (each_listed c.as_slice-atoms.result.now c.as_slice-places.result.now rows levels c.in_ok-levels.ensures.levels number)) in
    IfOk-weaker c.visit_all.result
    (λ more. Gives g.V.Visitor.takes (IsMatch task.body (length task.places) task.rows) (IsFindable task) c.args.visitor.now c.visit_all.new.visitor more)
    (λ more. (list : List Match) × (rest : List Match) × AreMatches body c.args.vars rows (list ++ rest) × (more ≡ true → rest ≡ [])
    × TakesInTurn g.V.Visitor.takes c.args.visitor.now list c.visit_all.new.visitor)
    (visits g.V.Visitor.takes c.args.visitor.now c.visit_all.new.visitor body c.args.vars rows task ok
    (ap (λ (t : Task). t.body) is ∙ c.as_slice-atoms.ensures)
    (ap (λ (t : Task). length t.places) is ∙ ap length c.as_slice-places.ensures.value ∙ c.in_ok-found.ensures.size)
    (ap (λ (t : Task). t.rows) is) lists) c.visit_all.ensures.gives
