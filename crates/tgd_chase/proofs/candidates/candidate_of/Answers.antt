use Rattle.std.proofs.Common.{◌≡◌, List, ap, subst, sym, ◌∙◌, map, length, ◌<◌, All, refl, get_or, Some, slice_get}
use Rattle.std.proofs.lemmas.List.{length-map}
use Rattle.term_core.specs.declared.term.Seen.{Seen}
use Rattle.term_core.specs.declared.term.Seen.TheVariants.{Const}
use Rattle.term_core.specs.declared.const_id.ConstId.{ConstId}
use Rattle.tgd_chase.specs.Candidates.{IsConstant}
use Rattle.tgd_chase.proofs.candidates.candidate_of.Goals as goal

pub returns : goal.returns
returns c = λ is.
    let cells : List Seen = c.args.found.now.binding in
    let constants : List ConstId = c.in_ok-binding.binding in
    let shown : map Const constants ≡ cells =
    c.in_ok-binding.ensures (subst (λ (l : List Seen). All IsConstant l) (sym c.as_slice.ensures) is.0) ∙ c.as_slice.ensures in
    let size : length cells ≡ length constants = ap length (sym shown) ∙ length-map constants Const in
    let read : c.as_slice-2.result.now ≡ constants = c.as_slice-2.ensures in
    let within : All (λ v. v < length c.as_slice-2.result.now) c.args.variables.now =
    λ k d l. subst (λ n. get_or c.args.variables.now k d < n) (size ∙ ap length (sym read)) (is.1 k d l) in
    let frontier : map (λ v. slice_get constants v) c.args.variables.now ≡ map (λ c. Some c) c.in_ok-frontier.frontier =
    subst (λ (l : List ConstId). map (λ v. slice_get l v) c.args.variables.now ≡ map (λ c. Some c) c.in_ok-frontier.frontier) read
    (c.in_ok-frontier.ensures within) in
    record {
      rule = refl;
      frontier = frontier;
      binding = shown;
      span = refl;
    }
