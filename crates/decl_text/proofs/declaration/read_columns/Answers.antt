use Rattle.std.proofs.Common.{◌≡◌, [], ◌∷◌, ◌++◌, Err, rules}
use Rattle.decl_text.specs.Declaration.{wants_column, wants_comma, wants_line_end, declaration_tests}
use Rattle.decl_text.proofs.TestLemmas.{Leads-join, Fails-later, Fails-own}
use Rattle.decl_text.proofs.DeclarationLemmas.{IfFault-later, declaration_wants, one_more_column, comma_goes, columns_end, comma_fails}
use Rattle.decl_text.proofs.declaration.read_columns.Goals as goal

pub returns-in_err-column-clause-fault : goal.returns-in_err-column-clause-fault
returns-in_err-column-clause-fault c set place name =
    let answer : c.from_residual.result ≡ Err c.in_err-column.field-0.0 = search rules in
    rw answer (IfFault-later c.in_err-column.field-0.0 _ _
    (λ fault. Fails-later (declaration_tests set) c.args.bytes.now c.args.from (wants_column place (record { name = name; columns = [] }))
    c.loop-columns.from (wants_column place (record { name = name; columns = c.loop-columns.columns })) fault
    (c.loop-columns.invariant.1 set place name)) (c.in_err-column.ensures.fault set place name))

pub returns-in_err-token-clause-fault : goal.returns-in_err-token-clause-fault
returns-in_err-token-clause-fault c set place name =
    let all = c.loop-columns.columns ++ c.in_ok-column.column.text ∷ [] in
    let so_far = one_more_column set c.args.bytes.now c.args.from c.loop-columns.from c.in_ok-column.column.token.end place name
    c.loop-columns.columns c.in_ok-column.column.text (c.loop-columns.invariant.1 set place name) (c.in_ok-column.ensures.column set place name) in
    let answer : c.from_residual-in_err-token.result ≡ Err c.in_err-token.field-0.0 = search rules in
    rw answer (IfFault-later c.in_err-token.field-0.0 _ _
    (λ fault own. Fails-later (declaration_tests set) c.args.bytes.now c.args.from (wants_column place (record { name = name; columns = [] }))
    c.in_ok-column.column.token.end (wants_comma place (record { name = name; columns = all })) fault so_far
    (Fails-own (declaration_tests set) c.args.bytes.now c.in_ok-column.column.token.end
    (wants_comma place (record { name = name; columns = all }))
    (declaration_wants set (wants_comma place (record { name = name; columns = all })) tt) fault own)) c.in_err-token.ensures.fault)

pub loop-columns-preserved : goal.loop-columns-preserved
loop-columns-preserved c =
    let says = c.in_ok-token.ensures.says in
    let all = c.loop-columns.columns ++ c.in_ok-column.column.text ∷ [] in (
      c.in_ok-token.ensures.within,
      λ set place name. rw c.in_ok-push.ensures.ok (
          Leads-join (declaration_tests set) c.args.bytes.now c.args.from (wants_column place (record { name = name; columns = [] }))
          c.in_ok-column.column.token.end (wants_comma place (record { name = name; columns = all }))
          c.in_ok-token.token.end (wants_column place (record { name = name; columns = all }))
          (one_more_column set c.args.bytes.now c.args.from c.loop-columns.from c.in_ok-column.column.token.end place name
          c.loop-columns.columns c.in_ok-column.column.text (c.loop-columns.invariant.1 set place name)
          (c.in_ok-column.ensures.column set place name))
          (comma_goes set c.args.bytes.now c.in_ok-column.column.token.end place (record { name = name; columns = all }) c.in_ok-token.token
          says.0 says.1 c.in-Comma.is)),
    )

pub returns-in-RightParen-clause-columns : goal.returns-in-RightParen-clause-columns
returns-in-RightParen-clause-columns c set place name =
    let says = c.in_ok-token.ensures.says in
    let all = c.loop-columns.columns ++ c.in_ok-column.column.text ∷ [] in
    rw c.in_ok-push.ensures.ok (
    Leads-join (declaration_tests set) c.args.bytes.now c.args.from (wants_column place (record { name = name; columns = [] }))
    c.in_ok-column.column.token.end (wants_comma place (record { name = name; columns = all }))
    c.in_ok-token.token.end (wants_line_end place (record { name = name; columns = all }))
    (one_more_column set c.args.bytes.now c.args.from c.loop-columns.from c.in_ok-column.column.token.end place name
    c.loop-columns.columns c.in_ok-column.column.text (c.loop-columns.invariant.1 set place name)
    (c.in_ok-column.ensures.column set place name))
    (columns_end set c.args.bytes.now c.in_ok-column.column.token.end place (record { name = name; columns = all }) c.in_ok-token.token
    says.0 says.1 c.in-RightParen.is))

pub returns-in_default : goal.returns-in_default
returns-in_default c = record {
  columns = λ set place name. tt;
  within = tt;
  fault = λ set place name.
      let says = c.in_ok-token.ensures.says in
      let all = c.loop-columns.columns ++ c.in_ok-column.column.text ∷ [] in
      rw c.fault_at.ensures (
      Fails-later (declaration_tests set) c.args.bytes.now c.args.from (wants_column place (record { name = name; columns = [] }))
      c.in_ok-column.column.token.end (wants_comma place (record { name = name; columns = all })) _
      (one_more_column set c.args.bytes.now c.args.from c.loop-columns.from c.in_ok-column.column.token.end place name
      c.loop-columns.columns c.in_ok-column.column.text (c.loop-columns.invariant.1 set place name)
      (c.in_ok-column.ensures.column set place name))
      (comma_fails set c.args.bytes.now c.in_ok-column.column.token.end place (record { name = name; columns = all }) c.in_ok-token.token
      says.0 says.1 c.in_default.not-Comma c.in_default.not-RightParen));
}
