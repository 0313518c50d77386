use Rattle.std.proofs.Common.{◌≡◌, ◌<◌, ◌≤◌, [], ◌∷◌, ◌++◌, length, Contains, Err, rules, arith}
use Rattle.decl_text.specs.declared.fault.Code.TheVariants.{X6}
use Rattle.decl_text.proofs.DeclarationLemmas.{IfFault-later}
use Rattle.rule_text.specs.RuleLine.{wants_exists_variable, wants_exists_comma, rule_tests}
use Rattle.rule_text.proofs.AtomSteps.{StandsName}
use Rattle.rule_text.proofs.NameLemmas.{new_name_goes, new_name_fails, new_name_old, new_name_full}
use Rattle.rule_text.proofs.tgd.read_exists_variable.Goals as goal

pub returns-in_err-name-clause-fault : goal.returns-in_err-name-clause-fault
returns-in_err-name-clause-fault c set pool name_ body count =
    let answer : c.from_residual.result ≡ Err c.in_err-name.field-0.0 = search rules in
    rw answer (IfFault-later c.in_err-name.field-0.0 _ _ (new_name_fails (rule_tests set pool) c.args.bytes.now c.args.from
    (wants_exists_variable name_ body count c.args.vars.now) X6 (λ t. ¬ Contains c.args.vars.now t)
    (length c.args.vars.now < 32) (λ t. wants_exists_comma name_ body count (c.args.vars.now ++ t ∷ [])) (λ lexeme outcome h. h))
    c.in_err-name.ensures.fault)

pub returns-then-contains-clause-fault : goal.returns-then-contains-clause-fault
returns-then-contains-clause-fault c set pool name_ body count =
    let name : StandsName c.args.bytes.now c.args.from c.in_ok-name.name.token c.in_ok-name.name.text = record {
      stands = c.in_ok-name.ensures.stands;
      other = c.in_ok-name.ensures.other;
      short = c.in_ok-name.ensures.short;
    } in
    let old : ¬ (¬ Contains c.args.vars.now c.in_ok-name.name.text) = search rules in
    rw c.fault_at.ensures (new_name_old (rule_tests set pool) c.args.bytes.now c.args.from
    (wants_exists_variable name_ body count c.args.vars.now) X6 (λ t. ¬ Contains c.args.vars.now t)
    (length c.args.vars.now < 32) (λ t. wants_exists_comma name_ body count (c.args.vars.now ++ t ∷ [])) (λ lexeme outcome h. h)
    c.in_ok-name.name.token c.in_ok-name.name.text name old)

pub returns-then-len-ge-MOST_VARIABLES-clause-fault : goal.returns-then-len-ge-MOST_VARIABLES-clause-fault
returns-then-len-ge-MOST_VARIABLES-clause-fault c set pool name_ body count =
    let name : StandsName c.args.bytes.now c.args.from c.in_ok-name.name.token c.in_ok-name.name.text = record {
      stands = c.in_ok-name.ensures.stands;
      other = c.in_ok-name.ensures.other;
      short = c.in_ok-name.ensures.short;
    } in
    let new : ¬ Contains c.args.vars.now c.in_ok-name.name.text = search rules in
    let most : 32 ≤ length c.args.vars.now = search rules in
    let full : ¬ ((length c.args.vars.now < 32)) = λ few. omega arith in
    rw c.fault_at-then-len-ge-MOST_VARIABLES.ensures (new_name_full (rule_tests set pool) c.args.bytes.now c.args.from
    (wants_exists_variable name_ body count c.args.vars.now) X6 (λ t. ¬ Contains c.args.vars.now t)
    (length c.args.vars.now < 32) (λ t. wants_exists_comma name_ body count (c.args.vars.now ++ t ∷ [])) (λ lexeme outcome h. h)
    c.in_ok-name.name.token c.in_ok-name.name.text name new full)

pub returns-clause-variable : goal.returns-clause-variable
returns-clause-variable c set pool name_ body count =
    let name : StandsName c.args.bytes.now c.args.from c.in_ok-name.name.token c.in_ok-name.name.text = record {
      stands = c.in_ok-name.ensures.stands;
      other = c.in_ok-name.ensures.other;
      short = c.in_ok-name.ensures.short;
    } in
    let new : ¬ Contains c.args.vars.now c.in_ok-name.name.text = search rules in
    let room : (length c.args.vars.now < 32) = search rules in
    new_name_goes (rule_tests set pool) c.args.bytes.now c.args.from
    (wants_exists_variable name_ body count c.args.vars.now) X6 (λ t. ¬ Contains c.args.vars.now t)
    (length c.args.vars.now < 32) (λ t. wants_exists_comma name_ body count (c.args.vars.now ++ t ∷ [])) (λ lexeme outcome h. h)
    c.in_ok-name.name.token c.in_ok-name.name.text name new room
