use Rattle.std.proofs.Common.{◌≡◌, ℕ, ◌-◌, ◌<◌, List, Some, length, get_or, arith, refl, sym, ap, ◌∙◌, subst}
use Rattle.std.specs.Prelude.{slice_get}
use Rattle.std.proofs.lemmas.Result.{on_ok_weaker}
use Rattle.std.proofs.lemmas.Option.{slice_get_read}
use Rattle.body_match.specs.declared.levels.Level.{Level}
use Rattle.body_match.specs.Keys.{AreBound}
use Rattle.body_match.specs.Search.{Task}
use Rattle.body_match.proofs.SearchLemmas.{next_atom}
use Rattle.body_match.proofs.KeyLemmas.{values_there, finds_next}
use Rattle.body_match.proofs.search.look_up.Goals as goal

-- the level of the next atom, as the code reads it
level_read : (task : Task) (before : ℕ) (levels : List Level) (level : Level) → levels ≡ task.levels → before - 1 < length levels
    → level ≡ get_or levels (before - 1) level → slice_get task.levels (before - 1) ≡ Some level
level_read task before levels level read within is =
    ap (λ (l : List Level). slice_get l (before - 1)) (sym read) ∙ slice_get_read levels (length levels) (before - 1) level refl within is

pub chosen_key-key-requires : goal.chosen_key-key-requires
chosen_key-key-requires g c =
    let task = c.args.search.now in
    let chosen = c.args.chosen.now in
    let ok = c.body.ensures.task in
    let atom = c.index-body-chosen.result in
    let next = next_atom task.body c.body.result.now (length chosen) atom c.body.ensures.value c.requires.more c.index-body-chosen.is in
    let levels : List Level = c.levels.result.now in
    let level : Level = c.index-levels-chosen.result in
    let within : length chosen - 1 < length levels =
    omega (arith, ok.size, ap length c.levels.ensures.value, c.requires.more, c.requires.first) in
    let here = level_read task (length chosen) levels level c.levels.ensures.value within c.index-levels-chosen.is in
    let bound = ok.told (length chosen) atom level c.requires.first next here in
    values_there task ok chosen c.args.span.now c.requires.partial atom next c.as_slice.result.now
    (subst (AreBound task.places (length chosen) atom) (sym c.as_slice.ensures.value) bound)

pub returns : goal.returns
returns g c =
    let task = c.args.search.now in
    let chosen = c.args.chosen.now in
    let ok = c.body.ensures.task in
    let atom = c.index-body-chosen.result in
    let next = next_atom task.body c.body.result.now (length chosen) atom c.body.ensures.value c.requires.more c.index-body-chosen.is in
    let levels : List Level = c.levels.result.now in
    let level : Level = c.index-levels-chosen.result in
    let within : length chosen - 1 < length levels =
    omega (arith, ok.size, ap length c.levels.ensures.value, c.requires.more, c.requires.first) in
    let here = level_read task (length chosen) levels level c.levels.ensures.value within c.index-levels-chosen.is in
    let bound = ok.told (length chosen) atom level c.requires.first next here in
    on_ok_weaker c.gather.result
    (finds_next task ok chosen c.args.span.now c.requires.partial atom next c.as_slice.result.now
    (subst (AreBound task.places (length chosen) atom) (sym c.as_slice.ensures.value) bound) level c.probe_of.result
    c.gather.new.rows.items (sym c.as_slice.ensures.value) c.requires.first here (c.probe_of.ensures.key ∙ c.chosen_key-key.ensures) c.probe_of.ensures.from
    c.probe_of.ensures.to c.probe_of.ensures.span) c.gather.ensures
