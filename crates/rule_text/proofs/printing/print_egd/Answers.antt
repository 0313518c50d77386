use Rattle.std.proofs.Common.{length, arith}
use Rattle.rule_text.proofs.WritableLemmas.{atoms_writable, numbered_within}
use Rattle.rule_text.proofs.printing.print_egd.Goals as goal

pub print_atoms-requires : goal.print_atoms-requires
print_atoms-requires c =
    let egd = c.args.egd.now in
    rw (c.as_slice-vars.ensures, c.as_slice.ensures, c.targets.ensures, c.as_slice-2.ensures)
    (atoms_writable c.args.rules.now.targets egd.vars c.args.pool.now (length egd.vars) egd.body c.requires.valid.body (omega arith)
    (numbered_within (length egd.vars) egd.body c.requires.valid.body_vars) c.requires.body)
