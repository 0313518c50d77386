use Rattle.std.proofs.Common.{◌≡◌, ◌≢◌, ◌≤◌, length, take, drop, rules, sym, subst, ◌∙◌, codes, true}
use Rattle.std.proofs.lemmas.List.{take-append-drop}
use Rattle.decl_text.proofs.PassLemmas.{word_is_name}
use Rattle.failure_trace.proofs.FrontLemmas.{name_spelled, word_once}
use Rattle.failure_trace.proofs.front.name_len.Goals as goal

pub returns-in_default-clause-none : goal.returns-in_default-clause-none
returns-in_default-clause-none c name rest is ends e = c.in_default.ensures.none name rest (name_spelled name rest is ends) e

pub returns-then-not-may_be_name-clause-none : goal.returns-then-not-may_be_name-clause-none
returns-then-not-may_be_name-clause-none c name rest is ends e =
    let same : name ≡ take c.in-Some.len c.args.bytes.now =
    word_once name (take c.in-Some.len c.args.bytes.now) rest (drop c.in-Some.len c.args.bytes.now) (name_spelled name rest is ends)
    c.in-Some.ensures.front (sym e ∙ sym (take-append-drop c.in-Some.len c.args.bytes.now)) in
    let passes : c.may_be_name.result ≡ true = c.may_be_name.ensures.1
    (subst (λ w. length w ≤ 64) same is.most, subst (λ w. w ≢ codes "exists") same is.word) in
    cc

pub returns-clause-name : goal.returns-clause-name
returns-clause-name c =
    let passes : c.may_be_name.result ≡ true = search rules in
    let good = c.may_be_name.ensures.0 passes in
    word_is_name (take c.in-Some.len c.args.bytes.now) c.in-Some.ensures.front.0 good.1 good.0
