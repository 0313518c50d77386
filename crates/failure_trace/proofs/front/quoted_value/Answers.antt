use Rattle.std.proofs.Common.{◌≡◌, ℕ, List, take, drop, rules, sym, subst, ◌∙◌, false}
use Rattle.std.proofs.lemmas.List.{take-append-drop, take_rest, length-take-le}
use Rattle.decl_text.specs.declared.token.Kind.TheVariants.{Quoted}
use Rattle.decl_text.specs.Tokens.{IsNextToken}
use Rattle.failure_trace.specs.TraceText.{EndsPart}
use Rattle.failure_trace.proofs.FrontLemmas.{front_token, quoted_once, same_rest}
use Rattle.failure_trace.proofs.LineLemmas.{no_both}
use Rattle.failure_trace.proofs.front.quoted_value.Goals as goal

pub returns-in_default-clause-none : goal.returns-in_default-clause-none
returns-in_default-clause-none c text rest constant is ends e = c.in_default.ensures.none text rest (constant, is) e

pub returns-then-not-ends_part-clause-none : goal.returns-then-not-ends_part-clause-none
returns-then-not-ends_part-clause-none c text rest constant is ends e =
    let same = quoted_once (take c.in-Some.len c.args.bytes.now) text (drop c.in-Some.len c.args.bytes.now) rest c.in-Some.ensures.front
    (constant, is) (take-append-drop c.in-Some.len c.args.bytes.now ∙ e) in
    let after : drop c.in-Some.len c.args.bytes.now ≡ rest = same_rest c.in-Some.len c.args.bytes.now text rest e same in
    let told = simp take_rest at c.ends_part.ensures in
    let failed : c.ends_part.result ≡ false = search rules in
    no_both c.ends_part.result failed (told.1 (subst EndsPart (sym after) ends))

pub quoted-requires-clause-read : goal.quoted-requires-clause-read
quoted-requires-clause-read c =
    let len : ℕ = c.in-Some.len in
    let bytes : List ℕ = c.args.bytes.now in (
      0,
      subst (λ n. IsNextToken bytes 0 (record { kind = Quoted; start = 0; end = n })) (length-take-le len bytes c.in-Some.ensures.within)
          (front_token bytes (take len bytes) (drop len bytes) Quoted c.in-Some.ensures.front (sym (take-append-drop len bytes))),
    )
