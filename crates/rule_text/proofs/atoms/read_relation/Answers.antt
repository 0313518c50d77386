use Rattle.std.proofs.Common.{◌≡◌, ◌<◌, ◌≤◌, length, Err, rules, arith}
use Rattle.decl_text.proofs.DeclarationLemmas.{IfFault-later}
use Rattle.rule_text.proofs.AtomSteps.{StandsName, relation_goes, relation_fails, relation_missing, atoms_too_many}
use Rattle.rule_text.proofs.atoms.read_relation.Goals as goal

pub returns-in_err-name-clause-fault : goal.returns-in_err-name-clause-fault
returns-in_err-name-clause-fault c pool said count =
    let answer : c.from_residual.result ≡ Err c.in_err-name.field-0.0 = search rules in
    rw answer (IfFault-later c.in_err-name.field-0.0 _ _
    (λ fault fails frame same. relation_fails c.args.rules.now pool c.args.bytes.now frame c.args.from said c.wrong.result fault
    (c.wrong.ensures frame same) fails) c.in_err-name.ensures.fault)

pub returns-in-Err-clause-fault : goal.returns-in-Err-clause-fault
returns-in-Err-clause-fault c pool said count =
    let name : StandsName c.args.bytes.now c.args.from c.in_ok-name.name.token c.in_ok-name.name.text = record {
      stands = c.in_ok-name.ensures.stands;
      other = c.in_ok-name.ensures.other;
      short = c.in_ok-name.ensures.short;
    } in
    rw c.fault_at.ensures (λ frame same. relation_missing c.args.rules.now pool c.args.bytes.now frame c.args.from said c.in_ok-name.name.token
    c.in_ok-name.name.text c.side.result c.in-Err.code name (c.side.ensures frame same) c.in-Err.ensures.missing)

pub returns-then-before-ge-MOST_ATOMS-clause-fault : goal.returns-then-before-ge-MOST_ATOMS-clause-fault
returns-then-before-ge-MOST_ATOMS-clause-fault c pool said count =
    let name : StandsName c.args.bytes.now c.args.from c.in_ok-name.name.token c.in_ok-name.name.text = record {
      stands = c.in_ok-name.ensures.stands;
      other = c.in_ok-name.ensures.other;
      short = c.in_ok-name.ensures.short;
    } in
    let full : 8 ≤ length said.atoms = omega arith in
    rw c.fault_at-then-before-ge-MOST_ATOMS.ensures (λ frame same. atoms_too_many c.args.rules.now pool c.args.bytes.now frame c.args.from said
    c.in_ok-name.name.token c.in_ok-name.name.text c.side.result c.in-Ok.found.number c.in-Ok.found.width name (c.side.ensures frame same)
    c.in-Ok.ensures.found full)

pub returns-clause-relation : goal.returns-clause-relation
returns-clause-relation c pool said count frame same =
    let name : StandsName c.args.bytes.now c.args.from c.in_ok-name.name.token c.in_ok-name.name.text = record {
      stands = c.in_ok-name.ensures.stands;
      other = c.in_ok-name.ensures.other;
      short = c.in_ok-name.ensures.short;
    } in
    let few : length said.atoms < 8 = omega arith in
    relation_goes c.args.rules.now pool c.args.bytes.now frame c.args.from said c.in_ok-name.name.token c.in_ok-name.name.text c.side.result
    c.in-Ok.found.number c.in-Ok.found.width name (c.side.ensures frame same) c.in-Ok.ensures.found few
