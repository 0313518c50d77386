-- Entries and the stretches in which they stand.
use Rattle.std.proofs.Common.{◌≡◌, ℕ, ◌+◌, ◌<◌, ◌≤◌, List, Some, length, sym, ap, ◌∙◌, subst, arith, slice_get, ⊎_elim}
use Rattle.std.proofs.lemmas.Bool.{cases_lt}
use Rattle.body_match.specs.declared.lookup.Entry.{Entry}
use Rattle.body_match.specs.declared.directory.Stretch.{Stretch}
use Rattle.body_match.specs.Directory.{AreDirected, Directs, IsWithin, stretch_place}
use Rattle.body_match.proofs.ListLemmas.{at_within, within_from_at}
use Rattle.body_match.proofs.SearchLemmas.{same_some}

-- one more entry stands within the stretch of its key
pub directed_more : (entries : List Entry) (old new : List Stretch) (at : ℕ) (here : Entry) → slice_get entries at ≡ Some here
    → Directs here.key at old new → AreDirected entries old at → AreDirected entries new (at + 1)
directed_more entries old new at here now more before k entry stretch l e s =
    ⊎_elim (λ (earlier : k < at).
    let place = stretch_place (length new) entry.key in
    let within = within_from_at new place stretch s in
    let was = at_within old place (omega (arith, within, more.size)) in
    let read : slice_get old (stretch_place (length old) entry.key) ≡ Some was.0 =
    ap (λ n. slice_get old (stretch_place n entry.key)) (sym more.size) ∙ was.1 in
    more.kept place k was.0 stretch was.1 s (before k entry was.0 earlier e read)) (λ (last : at ≤ k).
    let same : k ≡ at = omega (arith, l, last) in
    let this : entry ≡ here = same_some (slice_get entries k) entry here e (ap (slice_get entries) same ∙ now) in
    subst (IsWithin stretch) (sym same)
    (more.more stretch (subst (λ (x : Entry). slice_get new (stretch_place (length new) x.key) ≡ Some stretch) this s)))
    (cases_lt k at)
