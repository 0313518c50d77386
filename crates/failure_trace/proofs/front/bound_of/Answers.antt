use Rattle.std.proofs.Common.{◌≡◌, ◌+◌, ◌∷◌, ◌++◌, take, drop, sym, ◌∙◌, subst}
use Rattle.std.proofs.lemmas.List.{take-append-drop, take_rest}
use Rattle.failure_trace.specs.TraceText.{BeginsBound}
use Rattle.failure_trace.proofs.FrontLemmas.{name_once, equals_ends_word, bound_front}
use Rattle.failure_trace.proofs.front.bound_of.Goals as goal

pub returns-in_default-clause-none : goal.returns-in_default-clause-none
returns-in_default-clause-none c bound rest is =
    c.in_default.ensures.none bound.name (61 ∷ (is.value ++ rest)) is.name (equals_ends_word (is.value ++ rest)) is.bytes_are

pub returns-in_default-after_equals-clause-none : goal.returns-in_default-after_equals-clause-none
returns-in_default-after_equals-clause-none c bound rest is =
    let same = name_once (take c.in-Some.len c.args.bytes.now) bound.name (drop c.in-Some.len c.args.bytes.now) (61 ∷ (is.value ++ rest))
    c.in-Some.ensures.name is.name c.in-Some.ensures.whole (equals_ends_word (is.value ++ rest))
    (take-append-drop c.in-Some.len c.args.bytes.now ∙ is.bytes_are) in
    let none = simp take_rest at c.in_default-after_equals.ensures.none in
    none (is.value ++ rest) same.1

pub returns-in_default-2-clause-none : goal.returns-in_default-2-clause-none
returns-in_default-2-clause-none c bound rest is =
    let same = name_once (take c.in-Some.len c.args.bytes.now) bound.name (drop c.in-Some.len c.args.bytes.now) (61 ∷ (is.value ++ rest))
    c.in-Some.ensures.name is.name c.in-Some.ensures.whole (equals_ends_word (is.value ++ rest))
    (take-append-drop c.in-Some.len c.args.bytes.now ∙ is.bytes_are) in
    let after : drop c.in-Some.len c.args.bytes.now ≡ 61 ∷ c.in-Some-after_equals.after.now =
    simp take_rest at c.in-Some-after_equals.ensures.found in
    let both : 61 ∷ c.in-Some-after_equals.after.now ≡ 61 ∷ (is.value ++ rest) = sym after ∙ same.1 in
    let none = rw c.in_default-2.is at c.in_ok-front.ensures.none in
    none is.value rest bound.value is.is is.ends (cc both)

pub returns-clause-some : goal.returns-clause-some
returns-clause-some c =
    let after : drop c.in-Some.len c.args.bytes.now ≡ 61 ∷ c.in-Some-after_equals.after.now =
    simp take_rest at c.in-Some-after_equals.ensures.found in
    let value = rw c.in-Some-2.is at c.in_ok-front.ensures.value in
    let whole = rw c.in-Some-2.is at c.in_ok-front.ensures.whole in
    let name : c.in_ok-name.name ≡ take c.in-Some.len c.args.bytes.now = c.in_ok-name.ensures in
    subst (λ n. BeginsBound c.args.bytes.now (record { name = n; value = c.in-Some-2.front.value })
    (drop ((c.in-Some.len + 1) + c.in-Some-2.front.len) c.args.bytes.now)) (sym name)
    (bound_front c.args.bytes.now c.in-Some-after_equals.after.now c.in-Some.len c.in-Some-2.front.len c.in-Some-2.front.value after
    c.in-Some.ensures.name value whole)
