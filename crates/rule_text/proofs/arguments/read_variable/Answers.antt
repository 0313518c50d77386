use Rattle.std.proofs.Common.{◌≡◌, ◌<◌, ◌≤◌, length, Err, sym, ◌∙◌, rules, arith}
use Rattle.std.specs.Prelude.{◌≢◌}
use Rattle.decl_text.proofs.DeclarationLemmas.{IfFault-later}
use Rattle.rule_text.specs.declared.part.Part.TheVariants.{TgdHead}
use Rattle.rule_text.specs.Frames.{said_of}
use Rattle.rule_text.proofs.LookupLemmas.{first_as_last, first_is_there}
use Rattle.rule_text.proofs.AtomSteps.{StandsName, variable_goes, new_variable_goes, variable_unbound, variables_too_many, argument_fails}
use Rattle.rule_text.proofs.arguments.read_variable.Goals as goal

pub returns-in_err-name-clause-fault : goal.returns-in_err-name-clause-fault
returns-in_err-name-clause-fault c set pool atoms atom =
    let answer : c.from_residual.result ≡ Err c.in_err-name.field-0.0 = search rules in
    rw answer (IfFault-later c.in_err-name.field-0.0 _ _
    (λ fault fails frame same. argument_fails set pool c.args.bytes.now frame c.args.from (said_of c.args.vars atoms) atom c.wrong.result fault
    (c.wrong.ensures frame same) c.requires.other fails) c.in_err-name.ensures.fault)

pub returns-in-Some-clause-variable : goal.returns-in-Some-clause-variable
returns-in-Some-clause-variable c set pool atoms atom frame same =
    let name : StandsName c.args.bytes.now c.args.from c.in_ok-name.name.token c.in_ok-name.name.text = record {
      stands = c.in_ok-name.ensures.stands;
      other = c.in_ok-name.ensures.other;
      short = c.in_ok-name.ensures.short;
    } in
    variable_goes set pool c.args.bytes.now frame c.args.from (said_of c.args.vars atoms) atom c.in_ok-name.name.token c.in_ok-name.name.text
    c.in-Some.number name (first_is_there c.args.vars c.in_ok-name.name.text c.in-Some.number c.in-Some.ensures.found) c.in-Some.ensures.found

pub returns-then-eq-clause-fault : goal.returns-then-eq-clause-fault
returns-then-eq-clause-fault c set pool atoms atom =
    let name : StandsName c.args.bytes.now c.args.from c.in_ok-name.name.token c.in_ok-name.name.text = record {
      stands = c.in_ok-name.ensures.stands;
      other = c.in_ok-name.ensures.other;
      short = c.in_ok-name.ensures.short;
    } in
    let head : c.args.part ≡ TgdHead = search rules in
    rw c.fault_at.ensures (λ frame same. variable_unbound set pool c.args.bytes.now frame c.args.from (said_of c.args.vars atoms) atom
    c.in_ok-name.name.token c.in_ok-name.name.text name (same ∙ head) c.in_default.ensures.none)

pub returns-then-len-ge-MOST_VARIABLES-clause-fault : goal.returns-then-len-ge-MOST_VARIABLES-clause-fault
returns-then-len-ge-MOST_VARIABLES-clause-fault c set pool atoms atom =
    let name : StandsName c.args.bytes.now c.args.from c.in_ok-name.name.token c.in_ok-name.name.text = record {
      stands = c.in_ok-name.ensures.stands;
      other = c.in_ok-name.ensures.other;
      short = c.in_ok-name.ensures.short;
    } in
    let other : c.args.part ≢ TgdHead = search rules in
    let full : 32 ≤ length c.args.vars = omega arith in
    rw c.fault_at-then-len-ge-MOST_VARIABLES.ensures (λ frame same. variables_too_many set pool c.args.bytes.now frame c.args.from (said_of c.args.vars atoms) atom
    c.in_ok-name.name.token c.in_ok-name.name.text name (λ head. other (sym same ∙ head)) c.in_default.ensures.none full)

pub returns-clause-variable : goal.returns-clause-variable
returns-clause-variable c set pool atoms atom frame same =
    let name : StandsName c.args.bytes.now c.args.from c.in_ok-name.name.token c.in_ok-name.name.text = record {
      stands = c.in_ok-name.ensures.stands;
      other = c.in_ok-name.ensures.other;
      short = c.in_ok-name.ensures.short;
    } in
    let other : c.args.part ≢ TgdHead = search rules in
    let few : length c.args.vars < 32 = omega arith in
    rw (c.in_ok-push.ensures.last, c.in_ok-push.ensures.number)
    (new_variable_goes set pool c.args.bytes.now frame c.args.from (said_of c.args.vars atoms) atom c.in_ok-name.name.token
    c.in_ok-name.name.text (length c.args.vars) name (λ head. other (sym same ∙ head)) c.in_default.ensures.none few
    (first_as_last c.args.vars c.in_ok-name.name.text c.in_default.ensures.none))
