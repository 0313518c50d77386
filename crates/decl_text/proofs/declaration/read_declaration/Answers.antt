-- A line is put together from its parts, and what fails is the first that does.
use Rattle.std.proofs.Common.{◌≡◌, [], Err, rules}
use Rattle.decl_text.specs.Declaration.{begins, wants_name, wants_parenthesis, wants_column, wants_line_end, declared, declaration_tests}
use Rattle.decl_text.proofs.TestLemmas.{Leads-join, Fails-later, Fails-at}
use Rattle.decl_text.proofs.DeclarationLemmas.{IfFault-later, declaration_wants, up_to_parenthesis, up_to_columns, up_to_line_end, parenthesis_fails}
use Rattle.decl_text.proofs.declaration.read_declaration.Goals as goal

pub returns-in_err-place-clause-fault : goal.returns-in_err-place-clause-fault
returns-in_err-place-clause-fault c =
    let answer : c.from_residual.result ≡ Err c.in_err-place.field-0.0 = search rules in
    rw answer (c.in_err-place.ensures.fault c.args.rules.now)

pub returns-in_err-name-clause-fault : goal.returns-in_err-name-clause-fault
returns-in_err-name-clause-fault c =
    let set = c.args.rules.now in
    let answer : c.from_residual-in_err-name.result ≡ Err c.in_err-name.field-0.0 = search rules in
    rw answer (IfFault-later c.in_err-name.field-0.0 _ _
    (λ fault. Fails-later (declaration_tests set) c.args.bytes.now c.args.from begins c.in_ok-place.after (wants_name c.in_ok-place.place) fault
    (c.in_ok-place.ensures.side set)) (c.in_err-name.ensures.fault c.in_ok-place.place))

pub returns-in_err-after-clause-fault : goal.returns-in_err-after-clause-fault
returns-in_err-after-clause-fault c =
    let set = c.args.rules.now in
    let bytes = c.args.bytes.now in
    let place = c.in_ok-place.place in
    let name = c.in_ok-name.name in
    let answer : c.from_residual-in_err-after.result ≡ Err c.in_err-after.field-0.0 = search rules in
    rw answer (IfFault-later c.in_err-after.field-0.0 _ _
    (λ fault bad. Fails-later (declaration_tests set) bytes c.args.from begins name.token.end (wants_parenthesis place name.text) fault
    (up_to_parenthesis set bytes c.args.from c.in_ok-place.after place name.token name.text
    (c.in_ok-place.ensures.side set) (c.in_ok-name.ensures.name place))
    (Fails-at (declaration_tests set) bytes name.token.end (wants_parenthesis place name.text)
    (declaration_wants set (wants_parenthesis place name.text) tt) _ fault
    (parenthesis_fails set bytes place name.text) bad)) c.in_err-after.ensures.fault)

pub returns-in_err-columns-clause-fault : goal.returns-in_err-columns-clause-fault
returns-in_err-columns-clause-fault c =
    let set = c.args.rules.now in
    let bytes = c.args.bytes.now in
    let place = c.in_ok-place.place in
    let name = c.in_ok-name.name in
    let answer : c.from_residual-in_err-columns.result ≡ Err c.in_err-columns.field-0.0 = search rules in
    rw answer (IfFault-later c.in_err-columns.field-0.0 _ _
    (λ fault. Fails-later (declaration_tests set) bytes c.args.from begins c.in_ok-after.after
    (wants_column place (record { name = name.text; columns = [] })) fault
    (up_to_columns set bytes c.args.from name.token.end c.in_ok-after.after place name.text
    (up_to_parenthesis set bytes c.args.from c.in_ok-place.after place name.token name.text
    (c.in_ok-place.ensures.side set) (c.in_ok-name.ensures.name place)) c.in_ok-after.ensures.sign))
    (c.in_err-columns.ensures.fault set place name.text))

pub returns-in_err-end-clause-fault : goal.returns-in_err-end-clause-fault
returns-in_err-end-clause-fault c =
    let set = c.args.rules.now in
    let bytes = c.args.bytes.now in
    let place = c.in_ok-place.place in
    let name = c.in_ok-name.name in
    let columns = c.in_ok-columns.columns in
    let answer : c.from_residual-in_err-end.result ≡ Err c.in_err-end.field-0.0 = search rules in
    rw answer (IfFault-later c.in_err-end.field-0.0 _ _
    (λ fault. Fails-later (declaration_tests set) bytes c.args.from begins c.in_ok-columns.after
    (wants_line_end place (record { name = name.text; columns = columns })) fault
    (up_to_line_end set bytes c.args.from c.in_ok-after.after c.in_ok-columns.after place name.text columns
    (up_to_columns set bytes c.args.from name.token.end c.in_ok-after.after place name.text
    (up_to_parenthesis set bytes c.args.from c.in_ok-place.after place name.token name.text
    (c.in_ok-place.ensures.side set) (c.in_ok-name.ensures.name place)) c.in_ok-after.ensures.sign)
    (c.in_ok-columns.ensures.columns set place name.text)))
    (c.in_err-end.ensures.fault set place (record { name = name.text; columns = columns })))

pub returns-clause-declares : goal.returns-clause-declares
returns-clause-declares c =
    let set = c.args.rules.now in
    let bytes = c.args.bytes.now in
    let place = c.in_ok-place.place in
    let name = c.in_ok-name.name in
    let columns = c.in_ok-columns.columns in
    Leads-join (declaration_tests set) bytes c.args.from begins c.in_ok-columns.after
    (wants_line_end place (record { name = name.text; columns = columns })) c.in_ok-end.end
    (declared place (record { name = name.text; columns = columns }))
    (up_to_line_end set bytes c.args.from c.in_ok-after.after c.in_ok-columns.after place name.text columns
    (up_to_columns set bytes c.args.from name.token.end c.in_ok-after.after place name.text
    (up_to_parenthesis set bytes c.args.from c.in_ok-place.after place name.token name.text
    (c.in_ok-place.ensures.side set) (c.in_ok-name.ensures.name place)) c.in_ok-after.ensures.sign)
    (c.in_ok-columns.ensures.columns set place name.text))
    (c.in_ok-end.ensures.end set place (record { name = name.text; columns = columns }))

pub returns-clause-fits : goal.returns-clause-fits
returns-clause-fits c =
    c.what_is_declared_fits.ensures c.args.bytes.now c.args.rules.now c.args.from c.in_ok-place.place
    (record { name = c.in_ok-name.name.text; columns = c.in_ok-columns.columns }) c.in_ok-end.end c.is_kept.ensures
    (returns-clause-declares c)
