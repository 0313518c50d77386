use Rattle.std.proofs.Common.{◌≡◌, Err, rules}
use Rattle.decl_text.specs.Declaration.{wants_name, declaration_tests}
use Rattle.decl_text.proofs.TestLemmas.{Fails-at}
use Rattle.decl_text.proofs.DeclarationLemmas.{IfFault-later, declaration_wants, name_fails, name_goes, name_is_old, no_place}
use Rattle.decl_text.proofs.declaration.read_relation_name.Goals as goal

pub returns-in_err-name-clause-fault : goal.returns-in_err-name-clause-fault
returns-in_err-name-clause-fault c place =
    let answer : c.from_residual.result ≡ Err c.in_err-name.field-0.0 = search rules in
    rw answer (IfFault-later c.in_err-name.field-0.0 _ _
    (λ fault. Fails-at (declaration_tests c.args.rules.now) c.args.bytes.now c.args.from (wants_name place)
    (declaration_wants c.args.rules.now (wants_name place) tt) _ fault
    (name_fails c.args.rules.now c.args.bytes.now place)) c.in_err-name.ensures.fault)

pub returns-then-not-is_new_relation_name-clause-fault : goal.returns-then-not-is_new_relation_name-clause-fault
returns-then-not-is_new_relation_name-clause-fault c place =
    rw c.fault_at.ensures (name_is_old c.args.rules.now c.args.bytes.now c.args.from place c.in_ok-name.name.token c.in_ok-name.name.text
    c.in_ok-name.ensures.stands c.in_ok-name.ensures.other c.in_ok-name.ensures.short
    (λ new. let found = c.is_new_relation_name.ensures.1 new in cc))

pub returns-then-not-has_room-clause-fault : goal.returns-then-not-has_room-clause-fault
returns-then-not-has_room-clause-fault c place =
    rw c.fault_at-then-not-has_room.ensures
    (no_place c.args.rules.now c.args.bytes.now c.args.from place c.in_ok-name.name.token c.in_ok-name.name.text
    c.in_ok-name.ensures.stands c.in_ok-name.ensures.other c.in_ok-name.ensures.short (c.is_new_relation_name.ensures.0 c.if-not-is_new_relation_name.false)
    (λ room. let found = c.has_room.ensures.1 room in cc))

pub returns-clause-name : goal.returns-clause-name
returns-clause-name c place =
    name_goes c.args.rules.now c.args.bytes.now c.args.from place c.in_ok-name.name.token c.in_ok-name.name.text
    c.in_ok-name.ensures.stands c.in_ok-name.ensures.other c.in_ok-name.ensures.short (c.is_new_relation_name.ensures.0 c.if-not-is_new_relation_name.false)
    (c.has_room.ensures.0 c.if-not-has_room.false)
