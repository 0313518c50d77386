use Rattle.std.proofs.lemmas.Result.{err_from_is_err_and}
use Rattle.decl_text.specs.Declaration.{FailsDeclaration}
use Rattle.mapping_core.proofs.LineLemmas.{fault_onward}
use Rattle.mapping_core.proofs.ReadsLemmas.{ReadsTo-declaration, declaration_forward, declaration_fails}
use Rattle.mapping_core.proofs.reading.read_declaration_line.Goals as goal

pub returns-in_err-place-clause-fault : goal.returns-in_err-place-clause-fault
returns-in_err-place-clause-fault c =
    let p = err_from_is_err_and c.from_residual.result c.from_residual.ensures.1 in
    rw (p.1, p.2) (fault_onward c.in_err-place.field-0.0 (FailsDeclaration c.args.bytes.now c.args.rules.now c.args.from) _
    (λ fault. declaration_fails c.args.bytes.now c.args.pool.now c.args.from c.args.rules.now fault c.requires.before c.requires.begins)
    c.in_err-place.ensures.fault)

pub returns-clause-reads : goal.returns-clause-reads
returns-clause-reads c =
    rw c.in_ok-add_relation.ensures.ok (ReadsTo-declaration c.args.bytes.now c.args.pool.now c.args.from
    c.args.rules.now c.in_ok-place.place c.in_ok-place.relation c.in_ok-place.to c.requires.before c.in_ok-place.ensures.declares)

pub returns-clause-forward : goal.returns-clause-forward
returns-clause-forward c =
    declaration_forward c.args.bytes.now c.args.from c.args.rules.now c.in_ok-place.place c.in_ok-place.relation c.in_ok-place.to
    c.in_ok-place.ensures.declares
