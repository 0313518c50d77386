-- How calls of `put` that follow each other join.
use Rattle.std.proofs.Common.{ℕ, ◌+◌, List, ◌++◌, length, take, None, Some, ap, ◌∙◌, append_assoc}
use Rattle.std.proofs.Math.Seq.{take-append-add}
use Rattle.std.specs.declared.option.Option.{Option}
use Rattle.std.specs.Option.{option_map}
use Rattle.shelf_core.specs.Texts.{Appends, AppendsPrefix}

-- one text after another
pub appends_then_appends : (a b c : Option (List ℕ)) (xs ys : List ℕ) → Appends a b xs → Appends b c ys → Appends a c (xs ++ ys)
appends_then_appends None b c xs ys first second = second ∙ ap (λ t. option_map (λ text. text ++ ys) t) first
appends_then_appends (Some front) b c xs ys first second =
    second ∙ ap (λ t. option_map (λ text. text ++ ys) t) first ∙ ap (λ text. Some text) (append_assoc front xs ys)

-- a first part of what was to follow is a first part of the whole
pub appends_then_prefix : (a b c : Option (List ℕ)) (xs ys : List ℕ) → Appends a b xs → AppendsPrefix b c ys → AppendsPrefix a c (xs ++ ys)
appends_then_prefix a b c xs ys first (count, second) =
    (length xs + count, rw (take-append-add xs ys count) (appends_then_appends a b c xs (take count ys) first second))
