use Rattle.std.proofs.Common.{◌≡◌, Err, rules, arith}
use Rattle.decl_text.specs.Declaration.{wants_column, declaration_tests}
use Rattle.decl_text.proofs.TestLemmas.{Fails-at}
use Rattle.decl_text.proofs.DeclarationLemmas.{IfFault-later, declaration_wants, column_fails, column_goes, column_is_old, column_too_many}
use Rattle.decl_text.proofs.declaration.read_column.Goals as goal

pub returns-in_err-column-clause-fault : goal.returns-in_err-column-clause-fault
returns-in_err-column-clause-fault c set place name =
    let answer : c.from_residual.result ≡ Err c.in_err-column.field-0.0 = search rules in
    rw answer (IfFault-later c.in_err-column.field-0.0 _ _
    (λ fault. Fails-at (declaration_tests set) c.args.bytes.now c.args.from
    (wants_column place (record { name = name; columns = c.args.columns.now }))
    (declaration_wants set (wants_column place (record { name = name; columns = c.args.columns.now })) tt) _ fault
    (column_fails set c.args.bytes.now place (record { name = name; columns = c.args.columns.now }))) c.in_err-column.ensures.fault)

pub returns-then-is_among-clause-fault : goal.returns-then-is_among-clause-fault
returns-then-is_among-clause-fault c set place name =
    rw c.fault_at.ensures (column_is_old set c.args.bytes.now c.args.from place (record { name = name; columns = c.args.columns.now })
    c.in_ok-column.column.token c.in_ok-column.column.text
    c.in_ok-column.ensures.stands c.in_ok-column.ensures.other c.in_ok-column.ensures.short (rw c.as_slice.ensures at (c.is_among.ensures.0 c.if-is_among.true)))

pub returns-then-len-ge-MOST_COLUMNS-clause-fault :
    goal.returns-then-len-ge-MOST_COLUMNS-clause-fault
returns-then-len-ge-MOST_COLUMNS-clause-fault c set place name =
    rw c.fault_at-then-len-ge-MOST_COLUMNS.ensures
    (column_too_many set c.args.bytes.now c.args.from place (record { name = name; columns = c.args.columns.now })
    c.in_ok-column.column.token c.in_ok-column.column.text
    c.in_ok-column.ensures.stands c.in_ok-column.ensures.other c.in_ok-column.ensures.short
    (λ old. let found = c.is_among.ensures.1 (rw c.as_slice.ensures old) in cc) (let full = c.if-len-ge-MOST_COLUMNS.true in let size = c.len.ensures in omega arith))

pub returns-clause-column : goal.returns-clause-column
returns-clause-column c set place name =
    column_goes set c.args.bytes.now c.args.from place (record { name = name; columns = c.args.columns.now })
    c.in_ok-column.column.token c.in_ok-column.column.text
    c.in_ok-column.ensures.stands c.in_ok-column.ensures.other c.in_ok-column.ensures.short
    (λ old. let found = c.is_among.ensures.1 (rw c.as_slice.ensures old) in cc) (let room = c.if-len-ge-MOST_COLUMNS.false in let size = c.len.ensures in omega arith)
