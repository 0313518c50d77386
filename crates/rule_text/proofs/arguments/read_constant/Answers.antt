use Rattle.std.proofs.Common.{◌≡◌, ◌≤◌, Some, length, Contains, sym, ◌∙◌, subst, ap, arith}
use Rattle.std.proofs.lemmas.Bool.{false≢true}
use Rattle.std.specs.Prelude.{slice_get}
use Rattle.rule_text.proofs.LineLemmas.{known_next, quoted_says}
use Rattle.rule_text.proofs.LookupLemmas.{first_in_pool}
use Rattle.rule_text.proofs.arguments.read_constant.Goals as goal

pub unreachable-requires : goal.unreachable-requires
unreachable-requires c =
    let says = quoted_says c.args.bytes.now c.args.token.now c.in_ok-text.text c.requires.kind c.in_ok-text.ensures in
    let from = c.requires.read.0 in
    let there = known_next c.args.bytes.now from c.args.pool.now c.args.token.now c.in_ok-text.text c.requires.read.2 c.requires.read.1 says in
    false≢true (c.in-None.ensures.there.1 (subst (Contains c.args.pool.now) (sym c.as_str.ensures) there))

pub returns-clause-constant : goal.returns-clause-constant
returns-clause-constant c =
    let short : length c.in_ok-text.text ≤ 4096 = omega (arith, ap length c.as_bytes.ensures.value) in
    let there : slice_get c.args.pool.now c.in-Some.id.0 ≡ Some c.in_ok-text.text = c.in-Some.ensures.found ∙ ap Some c.as_str.ensures in (
      c.in_ok-text.text,
      quoted_says c.args.bytes.now c.args.token.now c.in_ok-text.text c.requires.kind c.in_ok-text.ensures,
      short,
      first_in_pool c.args.pool.now c.in_ok-text.text c.in-Some.id.0 c.len-size.ensures.pool there,
    )
