use Rattle.std.proofs.Common.{◌≡◌, ◌<◌, ◌≤◌, length, Err, rules, arith}
use Rattle.rule_core.specs.Adding.{IsNewRuleName}
use Rattle.decl_text.specs.declared.fault.Code.TheVariants.{X6}
use Rattle.decl_text.proofs.DeclarationLemmas.{IfFault-later}
use Rattle.rule_text.specs.RuleLine.{body_of_tgd, wants_tgd_name, wants_colon, rule_tests}
use Rattle.rule_text.proofs.AtomSteps.{StandsName}
use Rattle.rule_text.proofs.NameLemmas.{new_name_goes, new_name_fails, new_name_old, new_name_full}
use Rattle.rule_text.proofs.names.read_tgd_name.Goals as goal

pub returns-in_err-name-clause-fault : goal.returns-in_err-name-clause-fault
returns-in_err-name-clause-fault c pool =
    let answer : c.from_residual.result ≡ Err c.in_err-name.field-0.0 = search rules in
    rw answer (IfFault-later c.in_err-name.field-0.0 _ _ (new_name_fails (rule_tests c.args.rules.now pool) c.args.bytes.now c.args.from
    wants_tgd_name X6 (λ t. IsNewRuleName c.args.rules.now t)
    (length c.args.rules.now.tgds < 256) (λ t. wants_colon (body_of_tgd t)) (λ lexeme outcome h. h))
    c.in_err-name.ensures.fault)

pub returns-then-not-is_new_rule_name-clause-fault : goal.returns-then-not-is_new_rule_name-clause-fault
returns-then-not-is_new_rule_name-clause-fault c pool =
    let name : StandsName c.args.bytes.now c.args.from c.in_ok-name.name.token c.in_ok-name.name.text = record {
      stands = c.in_ok-name.ensures.stands;
      other = c.in_ok-name.ensures.other;
      short = c.in_ok-name.ensures.short;
    } in
    let old : ¬ (IsNewRuleName c.args.rules.now c.in_ok-name.name.text) = search rules in
    rw c.fault_at.ensures (new_name_old (rule_tests c.args.rules.now pool) c.args.bytes.now c.args.from
    wants_tgd_name X6 (λ t. IsNewRuleName c.args.rules.now t)
    (length c.args.rules.now.tgds < 256) (λ t. wants_colon (body_of_tgd t)) (λ lexeme outcome h. h)
    c.in_ok-name.name.token c.in_ok-name.name.text name old)

pub returns-then-len-ge-MOST_TGDS-clause-fault : goal.returns-then-len-ge-MOST_TGDS-clause-fault
returns-then-len-ge-MOST_TGDS-clause-fault c pool =
    let name : StandsName c.args.bytes.now c.args.from c.in_ok-name.name.token c.in_ok-name.name.text = record {
      stands = c.in_ok-name.ensures.stands;
      other = c.in_ok-name.ensures.other;
      short = c.in_ok-name.ensures.short;
    } in
    let new : IsNewRuleName c.args.rules.now c.in_ok-name.name.text = search rules in
    let most : 256 ≤ length c.args.rules.now.tgds = search rules in
    let full : ¬ ((length c.args.rules.now.tgds < 256)) = λ few. omega arith in
    rw c.fault_at-then-len-ge-MOST_TGDS.ensures (new_name_full (rule_tests c.args.rules.now pool) c.args.bytes.now c.args.from
    wants_tgd_name X6 (λ t. IsNewRuleName c.args.rules.now t)
    (length c.args.rules.now.tgds < 256) (λ t. wants_colon (body_of_tgd t)) (λ lexeme outcome h. h)
    c.in_ok-name.name.token c.in_ok-name.name.text name new full)

pub returns-clause-name : goal.returns-clause-name
returns-clause-name c pool =
    let name : StandsName c.args.bytes.now c.args.from c.in_ok-name.name.token c.in_ok-name.name.text = record {
      stands = c.in_ok-name.ensures.stands;
      other = c.in_ok-name.ensures.other;
      short = c.in_ok-name.ensures.short;
    } in
    let new : IsNewRuleName c.args.rules.now c.in_ok-name.name.text = search rules in
    let room : (length c.args.rules.now.tgds < 256) = search rules in
    new_name_goes (rule_tests c.args.rules.now pool) c.args.bytes.now c.args.from
    wants_tgd_name X6 (λ t. IsNewRuleName c.args.rules.now t)
    (length c.args.rules.now.tgds < 256) (λ t. wants_colon (body_of_tgd t)) (λ lexeme outcome h. h)
    c.in_ok-name.name.token c.in_ok-name.name.text name new room
