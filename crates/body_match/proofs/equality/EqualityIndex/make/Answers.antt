use Rattle.std.proofs.Common.{List, Contains, sym, subst}
use Rattle.rule_core.specs.declared.rules.Atom.{Atom}
use Rattle.rule_core.specs.Validity.{occurrences}
use Rattle.body_match.proofs.equality.EqualityIndex.make.Goals as goal

pub looked_of-requires : goal.looked_of-requires
looked_of-requires c = λ v l.
    subst (λ (atoms : List Atom). Contains (occurrences atoms) v) (sym c.as_slice.ensures) ((c.requires.vars v).1 l)
