use Rattle.std.proofs.Common.{pos, subst, List}
use Rattle.std.proofs.lemmas.List.{take_all}
use Rattle.body_match.specs.declared.lookup.Entry.{Entry}
use Rattle.body_match.specs.Lookup.{HasSought}
use Rattle.body_match.proofs.RegisterLemmas.{beside_more}
use Rattle.body_match.proofs.register.gather_beside.Goals as goal

pub loop-entry-preserved : goal.loop-entry-preserved
loop-entry-preserved c =
    let default : Entry = record { key = 0; from = pos 0; to = pos 0; row = 0 } in
    record {
      sought = beside_more c.args.entries.now c.loop-entry.entry-index default c.args.probe.now c.loop-entry.rows.items
          c.add_if_sought.new.rows.items c.loop-entry-test.true c.loop-entry.invariant.sought c.in_ok-add_if_sought.ensures.kept
          c.in_ok-add_if_sought.ensures.sought;
      kept = λ row h. c.in_ok-add_if_sought.ensures.kept row (c.loop-entry.invariant.kept row h);
    }

pub returns-clause-sought : goal.returns-clause-sought
returns-clause-sought c =
    subst (λ (l : List Entry). HasSought l c.args.probe.now c.loop-entry.rows.items)
    (take_all c.loop-entry.entry-index c.args.entries.now c.loop-entry-test.false) c.loop-entry.invariant.sought
