use Rattle.std.proofs.Common.{inl, inr, refl, ◌<◌, IsTrue}
use Rattle.std.proofs.lemmas.List.{take_rest}
use Rattle.std.proofs.lemmas.Result.{IfErr-weaker}
use Rattle.decl_text.specs.declared.token.Token.{Token}
use Rattle.decl_text.specs.Tokens.{IsNextToken, IsNextFault, IsFaultAt}
use Rattle.decl_text.proofs.ScanLemmas.{no_gap_between}
use Rattle.decl_text.proofs.NextLemmas.{next_apart, token_is_later}
use Rattle.decl_text.proofs.scan.token_at.Goals as goal

pub returns-then-begins_gap-clause-fault : goal.returns-then-begins_gap-clause-fault
returns-then-begins_gap-clause-fault c =
    let begins = simp take_rest at c.begins_gap.ensures.gap in
    inl (begins c.if-begins_gap.true, refl)

pub returns-then-begins_gap-clause-none : goal.returns-then-begins_gap-clause-none
returns-then-begins_gap-clause-none c token next =
    let begins = simp take_rest at c.begins_gap.ensures.gap in
    token_is_later c.args.bytes.now c.args.at token (begins c.if-begins_gap.true) next

pub returns-clause-fault : goal.returns-clause-fault
returns-clause-fault c =
    let none = simp take_rest at c.begins_gap.ensures.none in
    let here : ¬ (IsTrue c.begins_gap.result) = λ yes. cc in
    IfErr-weaker c.token_from.result (IsNextFault c.args.bytes.now c.args.at) (IsFaultAt c.args.bytes.now c.args.at)
    (λ fault own. inr (none here, own))
    (c.token_from.ensures.fault c.args.at (no_gap_between c.args.bytes.now c.args.at))

pub returns-clause-none : goal.returns-clause-none
returns-clause-none c =
    IfErr-weaker c.token_from.result (IsNextFault c.args.bytes.now c.args.at)
    (λ fault. (token : Token) → IsNextToken c.args.bytes.now c.args.at token → c.args.at < token.start)
    (λ fault own token next. absurd (next_apart c.args.bytes.now c.args.at token fault next own))
    (c.token_from.ensures.fault c.args.at (no_gap_between c.args.bytes.now c.args.at))
