use Rattle.std.proofs.Common.{◌≡◌, ◌+◌, Bool, false, List, length, sym, ap, ◌∙◌, subst, ⊎_elim}
use Rattle.std.specs.Prelude.{Some, slice_get}
use Rattle.std.specs.Bool.{OnFalse}
use Rattle.std.proofs.lemmas.List.{length_push}
use Rattle.body_match.specs.Equality.{Recurs}
use Rattle.body_match.proofs.ListLemmas.{at_push}
use Rattle.body_match.proofs.looked.looked_of.Goals as goal

pub loop-variable-preserved : goal.loop-variable-preserved
loop-variable-preserved c =
    let old : List Bool = c.loop-variable.looked.items in
    let told = c.is_told_apart.result in
    let at = c.loop-variable.variable in
    let pushed = c.in_ok-push.ensures.items in
    let size = c.loop-variable.invariant.size in
    record {
      size = ap (λ (l : List Bool). length l) pushed ∙ length_push old told ∙ ap (λ n. n + 1) size;
      marks = λ v off. ⊎_elim
          (λ (before : slice_get old v ≡ Some false). c.loop-variable.invariant.marks v before)
          (λ (last : (v ≡ length old) × (told ≡ false)).
          subst (λ n. (n ≡ c.args.left → ⊥) × (n ≡ c.args.right → ⊥) × ¬ (Recurs c.args.body.now n)) (sym (last.0 ∙ size))
          (subst (λ (b : Bool). OnFalse b ((at ≡ c.args.left → ⊥) × (at ≡ c.args.right → ⊥) × ¬ (Recurs c.args.body.now at))) last.1
          c.is_told_apart.ensures))
          (at_push old told v false (ap (λ (l : List Bool). slice_get l v) (sym pushed) ∙ off));
    }
