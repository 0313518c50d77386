use Rattle.std.proofs.Common.{length, arith, append_assoc, rules}
use Rattle.std.proofs.lemmas.List.{take_rest}
use Rattle.rule_text.proofs.WritableLemmas.{atoms_writable, numbered_within}
use Rattle.rule_text.proofs.printing.print_tgd.Goals as goal

pub print_atoms-requires : goal.print_atoms-requires
print_atoms-requires c =
    let tgd = c.args.tgd.now in
    rw (c.as_slice-vars.ensures, c.as_slice.ensures, c.sources.ensures, c.as_slice-2.ensures)
    (atoms_writable c.args.rules.now.sources tgd.vars c.args.pool.now tgd.body_vars tgd.body c.requires.valid.body c.requires.valid.within
    (numbered_within tgd.body_vars tgd.body c.requires.valid.body_vars) c.requires.body)

pub print_atoms-requires-2 : goal.print_atoms-requires-2
print_atoms-requires-2 c =
    let tgd = c.args.tgd.now in
    rw (c.as_slice-vars.ensures, c.as_slice-3.ensures, c.targets.ensures, c.as_slice-4.ensures)
    (atoms_writable c.args.rules.now.targets tgd.vars c.args.pool.now (length tgd.vars) tgd.head c.requires.valid.head (omega arith)
    c.requires.valid.safe c.requires.head)

pub returns : goal.returns
returns c =
    let exists = simp take_rest at c.in_ok-exists.ensures in
    search (rules, append_assoc, exists)
