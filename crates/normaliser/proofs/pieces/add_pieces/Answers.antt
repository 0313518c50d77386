use Rattle.std.proofs.Common.{◌≡◌, ◌⊎◌, ℕ, ℤ, ◌<◌, pos, Result, Ok, Err, Some, List, [], ◌∷◌, ◌++◌, length, get_or, sym, ap, ◌∙◌, subst, append-nil, arith, rules}
use Rattle.std.specs.Result.{OnOk}
use Rattle.std.proofs.lemmas.Int.{to_z-of_z}
use Rattle.std.proofs.lemmas.List.{append_assoc, get_or-map, length-map}
use Rattle.std.proofs.lemmas.List.Elements.{All-contains}
use mir.Val.{SFits}
use mir.Syntax.{w64}
use Rattle.time_line.specs.Span.{Ends, IsWithinLimit}
use Rattle.fact_table.specs.declared.fact.Fact.{Fact}
use Rattle.normaliser.specs.declared.cuts.Cut.{Cut}
use Rattle.normaliser.specs.Cuts.{cut, ats, IsCutAt}
use Rattle.normaliser.specs.Pieces.{AddsPieces, over, IsCutOff, IsNotCut}
use Rattle.normaliser.proofs.PieceLemmas.{cut_none, step, adds_pieces}
use Rattle.normaliser.proofs.pieces.add_pieces.Goals as goal

pub loop-cut-init : goal.loop-cut-init
loop-cut-init c = (
  [],
  sym (append-nil c.args.pieces.now),
  cut_none (ats c.cuts_inside-inside.result.now) c.args.fact.now c.cuts_inside-inside.ensures.instant,
)

-- what stands at a place among the ends
at_place : (inside : List Cut) (index : ℕ) (d : Cut) → index < length inside → get_or (ats inside) index (get_or inside index d).at ≡ (get_or inside index d).at
at_place inside index d l = get_or-map (λ (c : Cut). c.at) inside index d (get_or inside index d).at l

pub cut_off-requires : goal.cut_off-requires
cut_off-requires c =
    let inside : List Cut = c.cuts_inside-inside.result.now in
    let index : ℕ = c.loop-cut.cut-index in
    let end : ℤ = (get_or inside index (record { group = 0; at = pos 0 })).at in
    let fits : SFits w64 end = search rules in
    let within : index < length (ats inside) = omega (arith, c.loop-cut-test.true, length-map inside (λ (x : Cut). x.at)) in
    let there = ((c.cuts_inside-inside.ensures.each end).0
    (index, within, at_place inside index (record { group = 0; at = pos 0 }) c.loop-cut-test.true)).0 in
    subst (λ m. IsWithinLimit (Some m)) (sym (to_z-of_z w64 end fits))
    (All-contains (λ (x : Cut). IsWithinLimit (Some x.at)) c.args.cuts.now (cut c.args.group end) c.requires.limit there)

pub loop-cut-preserved : goal.loop-cut-preserved
loop-cut-preserved c =
    let inside : List Cut = c.cuts_inside-inside.result.now in
    let index : ℕ = c.loop-cut.cut-index in
    let end : ℤ = (get_or inside index (record { group = 0; at = pos 0 })).at in
    let fits : SFits w64 end = search rules in
    let within : index < length (ats inside) = omega (arith, c.loop-cut-test.true, length-map inside (λ (x : Cut). x.at)) in
    step (ats inside) c.args.fact.now index c.loop-cut.rest c.in_ok-rest.rest end c.args.pieces.now c.loop-cut.pieces c.cut_off.new.pieces
    c.cuts_inside-inside.ensures.order within (sym (at_place inside index (record { group = 0; at = pos 0 }) c.loop-cut-test.true))
    c.loop-cut.invariant
    (subst (λ m. IsCutOff c.args.fact.now m c.loop-cut.rest c.in_ok-rest.rest c.loop-cut.pieces c.cut_off.new.pieces
    ⊎ IsNotCut m c.loop-cut.rest c.in_ok-rest.rest c.loop-cut.pieces c.cut_off.new.pieces) (to_z-of_z w64 end fits) c.in_ok-rest.ensures)

-- the last piece stands behind the others
on_ok : {E : Type 0} (r : Result Unit E) (P Q : Type 0) → (P → Q) → OnOk r P → OnOk r Q
on_ok (Ok u) P Q f h = f h
on_ok (Err e) P Q f h = h

pub returns : goal.returns
returns c =
    let inside : List ℤ = ats c.cuts_inside-inside.result.now in
    let fact : Fact = c.args.fact.now in
    let index : ℕ = c.loop-cut.cut-index in
    let rest : Ends = c.loop-cut.rest in
    let old : List Fact = c.args.pieces.now in
    let now : List Fact = c.loop-cut.pieces in
    let new : List Fact = c.add_piece.new.pieces in
    let h = c.loop-cut.invariant in
    let size : length inside ≡ length c.cuts_inside-inside.result.now = length-map c.cuts_inside-inside.result.now (λ (x : Cut). x.at) in
    let all : index ≡ length inside = omega (arith, size, c.loop-cut-test.false, c.loop-cut.auto.cut-index-end) in
    on_ok c.add_piece.result (new ≡ now ++ over fact rest ∷ []) (AddsPieces (IsCutAt c.args.cuts.now c.args.group) fact old new)
    (λ e. adds_pieces inside fact index rest h.0 h.2 (IsCutAt c.args.cuts.now c.args.group) all c.cuts_inside-inside.ensures.each old new
    (e ∙ ap (λ (l : List Fact). l ++ over fact rest ∷ []) h.1 ∙ append_assoc old h.0 (over fact rest ∷ [])))
    c.add_piece.ensures
