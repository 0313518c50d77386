use Rattle.std.proofs.Common.{◌≡◌, ◌↔◌, ◌<◌, ◌∙◌, ℕ, Result, Ok, Err, List, length, get_or, sym, subst, Contains}
use Rattle.std.specs.Result.{IfOk}
use Rattle.fact_table.specs.declared.fact.Fact.{Fact}
use Rattle.fact_table.specs.Facts.{IsTable}
use Rattle.normaliser.specs.declared.cuts.Cut.{Cut}
use Rattle.normaliser.specs.Normalised.{IsNormalised, HaveSameSnapshots, IsEqualOrDisjoint}
use Rattle.normaliser.specs.Cuts.{AreCuts}
use Rattle.normaliser.specs.Pieces.{ArePieces}
use Rattle.normaliser.proofs.LawLemmas.{same_snapshots, equal_or_disjoint}
use Rattle.normaliser.proofs.NormaliseLemmas.{are_normalised, least_within}
use Rattle.normaliser.proofs.table.normalise.Given.{Over}
use Rattle.normaliser.proofs.table.normalise.Goals as goal
use Rattle.normaliser.proofs.table.normalise.Goals.{After-drop-places-inside-2}

pub cuts_of-requires-clause-within : goal.cuts_of-requires-clause-within
cuts_of-requires-clause-within g c =
    subst (λ (l : List ℕ). (n : ℕ) → n < length l → get_or l n 0 < length l) (sym c.as_slice.ensures)
    (least_within c.args.rules.now c.args.table.now c.in_ok-places.places c.in_ok-places.ensures)

if_ok : {X E : Type 0} (r : Result X E) (P Q R : X → Type 0) → ((x : X) → P x → Q x → R x) → IfOk r P → IfOk r Q → IfOk r R
if_ok (Ok x) P Q R f h k = f x h k
if_ok (Err e) P Q R f h k = h

-- the table has exactly these pieces
abbrev IsOf : List Fact → List Fact → Type 0
IsOf pieces made = (fact : Fact) → Contains made fact ↔ Contains pieces fact

normalised : (g : Over) (c : After-drop-places-inside-2 g) → IfOk c.make.result (IsNormalised c.args.rules.now c.args.table.now)
normalised g c =
    let facts : c.as_slice-facts.result.now ≡ c.args.table.now = c.as_slice-facts.ensures ∙ c.facts.ensures.value in
    let cuts : List Cut = c.in_ok-cuts.cuts.items in
    let are : AreCuts c.args.table.now c.in_ok-places.places cuts =
    subst (λ (l : List Fact). AreCuts l c.in_ok-places.places cuts) facts
    (subst (λ (l : List ℕ). AreCuts c.as_slice-facts.result.now l cuts) c.as_slice.ensures c.in_ok-cuts.ensures) in
    let pieces : ArePieces c.args.table.now c.in_ok-places.places cuts c.in_ok-pieces.pieces =
    subst (λ (l : List Fact). ArePieces l c.in_ok-places.places cuts c.in_ok-pieces.pieces) facts
    (subst (λ (l : List ℕ). ArePieces c.as_slice-facts.result.now l cuts c.in_ok-pieces.pieces) c.as_slice-2.ensures
    (subst (λ (l : List Cut). ArePieces c.as_slice-facts.result.now c.as_slice-2.result.now l c.in_ok-pieces.pieces) c.as_slice-3.ensures.value
    c.in_ok-pieces.ensures)) in
    if_ok c.make.result (IsOf c.in_ok-pieces.pieces) IsTable (IsNormalised c.args.rules.now c.args.table.now)
    (λ made same order. are_normalised c.args.rules.now c.args.table.now c.in_ok-places.places cuts c.in_ok-places.ensures are
    c.in_ok-pieces.pieces made pieces same order)
    c.make.ensures.same c.make.ensures.table

pub returns-clause-normalised : goal.returns-clause-normalised
returns-clause-normalised g c = normalised g c

weaker : {X E : Type 0} (r : Result X E) (P Q : X → Type 0) → ((x : X) → P x → Q x) → IfOk r P → IfOk r Q
weaker (Ok x) P Q f h = f x h
weaker (Err e) P Q f h = h

pub returns-clause-same : goal.returns-clause-same
returns-clause-same g c =
    weaker c.make.result (IsNormalised c.args.rules.now c.args.table.now) (HaveSameSnapshots c.args.table.now)
    (λ made h. same_snapshots c.args.rules.now c.args.table.now made h) (normalised g c)

pub returns-clause-apart : goal.returns-clause-apart
returns-clause-apart g c =
    weaker c.make.result (IsNormalised c.args.rules.now c.args.table.now) (IsEqualOrDisjoint c.args.rules.now)
    (λ made h. equal_or_disjoint c.args.rules.now c.args.table.now made h) (normalised g c)
