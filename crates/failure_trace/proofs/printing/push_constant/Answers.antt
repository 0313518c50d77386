use Rattle.std.proofs.Common.{◌≡◌, ◌++◌, subst}
use Rattle.std.specs.Prelude.{OnOk}
use Rattle.decl_text.specs.Quotes.{IsQuoted}
use Rattle.decl_text.specs.Canonical.{quoted_text}
use Rattle.decl_text.proofs.WrittenLemmas.{quoted_text_is}
use Rattle.failure_trace.proofs.printing.push_constant.Goals as goal

pub returns : goal.returns
returns c =
    let quoted : IsQuoted c.in_ok-quoted.quoted c.args.constant.now =
    subst (λ w. IsQuoted c.in_ok-quoted.quoted w) c.as_str.ensures c.in_ok-quoted.ensures in
    let canonical : c.in_ok-quoted.quoted ≡ quoted_text c.args.constant.now =
    quoted_text_is c.in_ok-quoted.quoted c.args.constant.now quoted in
    let same : c.as_str-2.result.now ≡ quoted_text c.args.constant.now = cc in
    subst (λ w. OnOk c.push_str.result (c.push_str.new.self ≡ c.args.text.now ++ w)) same c.push_str.ensures.ok
