use Rattle.std.proofs.Common.{◌≡◌, ◌<◌, ◌≤◌, [], ◌∷◌, ◌++◌, length, Contains, Err, rules, arith}
use Rattle.decl_text.specs.declared.fault.Code.TheVariants.{X8}
use Rattle.decl_text.proofs.DeclarationLemmas.{IfFault-later}
use Rattle.rule_text.specs.RuleLine.{wants_head_variable, wants_head_comma, rule_tests}
use Rattle.rule_text.proofs.AtomSteps.{StandsName}
use Rattle.rule_text.proofs.NameLemmas.{new_name_goes, new_name_fails, new_name_old, new_name_full}
use Rattle.rule_text.proofs.query.read_head_variable.Goals as goal

pub returns-in_err-name-clause-fault : goal.returns-in_err-name-clause-fault
returns-in_err-name-clause-fault c set pool name_ =
    let answer : c.from_residual.result ≡ Err c.in_err-name.field-0.0 = search rules in
    rw answer (IfFault-later c.in_err-name.field-0.0 _ _ (new_name_fails (rule_tests set pool) c.args.bytes.now c.args.from
    (wants_head_variable name_ c.args.head.now) X8 (λ t. ¬ Contains c.args.head.now t)
    (length c.args.head.now < 16) (λ t. wants_head_comma name_ (c.args.head.now ++ t ∷ [])) (λ lexeme outcome h. h))
    c.in_err-name.ensures.fault)

pub returns-then-contains-clause-fault : goal.returns-then-contains-clause-fault
returns-then-contains-clause-fault c set pool name_ =
    let name : StandsName c.args.bytes.now c.args.from c.in_ok-name.name.token c.in_ok-name.name.text = record {
      stands = c.in_ok-name.ensures.stands;
      other = c.in_ok-name.ensures.other;
      short = c.in_ok-name.ensures.short;
    } in
    let old : ¬ (¬ Contains c.args.head.now c.in_ok-name.name.text) = search rules in
    rw c.fault_at.ensures (new_name_old (rule_tests set pool) c.args.bytes.now c.args.from
    (wants_head_variable name_ c.args.head.now) X8 (λ t. ¬ Contains c.args.head.now t)
    (length c.args.head.now < 16) (λ t. wants_head_comma name_ (c.args.head.now ++ t ∷ [])) (λ lexeme outcome h. h)
    c.in_ok-name.name.token c.in_ok-name.name.text name old)

pub returns-then-len-ge-MOST_HEAD_VARIABLES-clause-fault : goal.returns-then-len-ge-MOST_HEAD_VARIABLES-clause-fault
returns-then-len-ge-MOST_HEAD_VARIABLES-clause-fault c set pool name_ =
    let name : StandsName c.args.bytes.now c.args.from c.in_ok-name.name.token c.in_ok-name.name.text = record {
      stands = c.in_ok-name.ensures.stands;
      other = c.in_ok-name.ensures.other;
      short = c.in_ok-name.ensures.short;
    } in
    let new : ¬ Contains c.args.head.now c.in_ok-name.name.text = search rules in
    let most : 16 ≤ length c.args.head.now = search rules in
    let full : ¬ ((length c.args.head.now < 16)) = λ few. omega arith in
    rw c.fault_at-then-len-ge-MOST_HEAD_VARIABLES.ensures (new_name_full (rule_tests set pool) c.args.bytes.now c.args.from
    (wants_head_variable name_ c.args.head.now) X8 (λ t. ¬ Contains c.args.head.now t)
    (length c.args.head.now < 16) (λ t. wants_head_comma name_ (c.args.head.now ++ t ∷ [])) (λ lexeme outcome h. h)
    c.in_ok-name.name.token c.in_ok-name.name.text name new full)

pub returns-clause-variable : goal.returns-clause-variable
returns-clause-variable c set pool name_ =
    let name : StandsName c.args.bytes.now c.args.from c.in_ok-name.name.token c.in_ok-name.name.text = record {
      stands = c.in_ok-name.ensures.stands;
      other = c.in_ok-name.ensures.other;
      short = c.in_ok-name.ensures.short;
    } in
    let new : ¬ Contains c.args.head.now c.in_ok-name.name.text = search rules in
    let room : (length c.args.head.now < 16) = search rules in
    new_name_goes (rule_tests set pool) c.args.bytes.now c.args.from
    (wants_head_variable name_ c.args.head.now) X8 (λ t. ¬ Contains c.args.head.now t)
    (length c.args.head.now < 16) (λ t. wants_head_comma name_ (c.args.head.now ++ t ∷ [])) (λ lexeme outcome h. h)
    c.in_ok-name.name.token c.in_ok-name.name.text name new room
