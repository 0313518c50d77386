use Rattle.std.proofs.Common.{subst, sym, ◌∙◌}
use Rattle.std.proofs.lemmas.Bool.{false≢true}
use Rattle.decl_text.specs.Parts.{StandsNext}
use Rattle.decl_text.proofs.NextLemmas.{next_token_once}
use Rattle.mapping_core.proofs.LineLemmas.{other_kind_goes_on}
use Rattle.mapping_core.proofs.reading.read_line.Goals as goal

pub read_rule_line-requires-clause-begins : goal.read_rule_line-requires-clause-begins
read_rule_line-requires-clause-begins c token lexeme stands =
    let same = next_token_once c.args.bytes.now c.args.from token c.args.token.now stands.next c.requires.first in
    let here = subst (λ t. StandsNext c.args.bytes.now c.args.from t lexeme) same stands in
    (c.begins_rule.ensures c.args.from lexeme here).0 c.if-begins_rule.true

pub read_declaration_line-requires-clause-begins : goal.read_declaration_line-requires-clause-begins
read_declaration_line-requires-clause-begins c token lexeme stands =
    let same = next_token_once c.args.bytes.now c.args.from token c.args.token.now stands.next c.requires.first in
    let here = subst (λ t. StandsNext c.args.bytes.now c.args.from t lexeme) same stands in (
      other_kind_goes_on c.args.token.now lexeme here.says.kind c.requires.line c.requires.more,
      λ word. false≢true (sym c.if-begins_rule.false ∙ (c.begins_rule.ensures c.args.from lexeme here).1 word),
    )
