use Rattle.rule_text.proofs.WritableLemmas.{branches_writable}
use Rattle.rule_text.proofs.printing.print_query.Goals as goal

pub print_branches-requires : goal.print_branches-requires
print_branches-requires c =
    let query = c.args.query.now in
    rw (c.as_slice-2.ensures, c.targets.ensures, c.as_slice-3.ensures)
    (branches_writable c.args.rules.now.targets c.args.pool.now query.head query.branches c.requires.valid.branches c.requires.bodies)
